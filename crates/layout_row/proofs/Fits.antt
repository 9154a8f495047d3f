-- No word of a machine's head or event is above its most.
use Prim.Native.Nat.{ℕ}
use mathlib.Core.Path.{◌≡◌, refl}
use mathlib.Core.Bool.{false}
use lib.Dec.{ltb}
use borrow.Author.Tests.{le-ltb}
use Rattle.hire_book.specs.Below.{any_below}
use Rattle.messages.specs.declared.PaxosMsg.{PaxosMsg}
use Rattle.messages.specs.declared.PaxosMsg.TheVariants.{PrepareReq, Prepare, Promise, AcceptSync, AcceptDecide, Accepted, NotAccepted, Decide, ProposalForward}
use Rattle.tags.proofs.Back.{option-low}
use Rattle.blocks.specs.Blocks.{over_most, above_most, most32, Narrow}
use Rattle.layout_row.specs.declared.Fields.{Fields}
use Rattle.layout_row.specs.Fields.{fields_of}
use Rattle.layout_row.specs.Row.{block_of, head_most}
use Rattle.layout_row.specs.Event.{event_most}

pub kind-low : (m : PaxosMsg) → ltb 8 (fields_of m).kind ≡ false
kind-low (PrepareReq m) = refl
kind-low (Prepare m) = refl
kind-low (Promise m) = refl
kind-low (AcceptSync m) = refl
kind-low (AcceptDecide m) = refl
kind-low (Accepted m) = refl
kind-low (NotAccepted m) = refl
kind-low (Decide m) = refl
kind-low ProposalForward = refl

pub sync-low : (m : PaxosMsg) → ltb 1 (fields_of m).with_sync ≡ false
sync-low (PrepareReq m) = refl
sync-low (Prepare m) = refl
sync-low (Promise m) = option-low m.log_sync
sync-low (AcceptSync m) = refl
sync-low (AcceptDecide m) = refl
sync-low (Accepted m) = refl
sync-low (NotAccepted m) = refl
sync-low (Decide m) = refl
sync-low ProposalForward = refl

pub head-fits : (to : ℕ) (f : Fields) (start count : ℕ) → ltb 8 f.kind ≡ false → ltb 1 f.with_sync ≡ false → Narrow f.n → Narrow f.n_accepted → above_most head_most (block_of to f start count) ≡ false
unfolding above_most any_below over_most
head-fits to f start count k s h g =
    rw (k, le-ltb most32 f.n.n h.0, le-ltb most32 f.n.priority h.1, le-ltb most32 f.n_accepted.n g.0, le-ltb most32 f.n_accepted.priority g.1, s)

pub event-fits : (pid : ℕ) (f : Fields) (kind : ℕ) → ltb 8 f.kind ≡ false → ltb 1 f.with_sync ≡ false → Narrow f.n → Narrow f.n_accepted → ltb 6 kind ≡ false → above_most event_most (block_of pid f kind 0) ≡ false
unfolding above_most any_below over_most
event-fits pid f kind k s h g e =
    rw (k, le-ltb most32 f.n.n h.0, le-ltb most32 f.n.priority h.1, le-ltb most32 f.n_accepted.n g.0, le-ltb most32 f.n_accepted.priority g.1, s, e)
