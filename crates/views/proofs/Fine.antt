-- A plan that counts no more than there is: so of a box as it decides, in numbers. Every small change of a step keeps it.
use Rattle.std.specs.Prelude.{Option, None, Some}
use Prim.Native.Nat.{ℕ, ◌+◌, ◌-◌, ◌≤◌, min}
use mathlib.Core.Path.{◌≡◌, refl}
use mathlib.Core.Bool.{Bool, true, false, cond}
use native.Mathlib.Omega.{arith}
use lib.Dec.{ltb}
use borrow.Author.Tests.{ltb-true}
use Rattle.leader_state.specs.declared.LogSync.{LogSync}
use Rattle.quorum.specs.declared.Configuration.{Configuration}
use Rattle.paxos_box.specs.declared.LogOp.{LogOp}
use Rattle.paxos_box.specs.declared.LogOp.TheVariants as log
use Rattle.paxos_box.specs.declared.Source.{Source}
use Rattle.paxos_box.specs.declared.Source.TheVariants as source
use Rattle.paxos_box.specs.declared.Send.{Send}
use Rattle.paxos_box.specs.declared.Sends.{Sends}
use Rattle.paxos_box.specs.declared.Writes.{Writes}
use Rattle.paxos_box.specs.declared.Plan.{Plan}
use Rattle.paxos_box.specs.declared.SequencePaxos.{SequencePaxos}
use Rattle.paxos_box.specs.Box.{sending, planned, push_of}
use Rattle.follower.specs.Follower.{count_of}
use Rattle.broken.specs.Broken.{sync_in}
use Rattle.storage.specs.Storage.{end_after}
use Rattle.outgoing.specs.Perform.{Sums}
use Rattle.outgoing.proofs.Kept.{sums-planned}
use Rattle.step_laws.proofs.Plan.{Items, items-pushed}

-- how long the lists are: the log, the buffered proposals, the cached sync's entries, the held one's, and those given
pub record Sizes : Type 0 where
  pub log : ℕ
  pub buffered : ℕ
  pub cached : ℕ
  pub best : ℕ
  pub given : ℕ

-- an operation on the log starts within it, and counts no more than there is
abbrev pub OpWithin : LogOp → Sizes → Type 0
OpWithin log.Keep z = Unit {0}
OpWithin (log.Append n) z = n ≤ z.given
OpWithin (log.PutGiven x) z = (x.sync_idx ≤ z.log) × (x.len ≤ z.given)
OpWithin (log.PutHeld x) z = (x.sync_idx ≤ z.log) × (x.len ≤ z.best)

abbrev pub BufferWithin : Option ℕ → ℕ → Sizes → Type 0
BufferWithin None n z = n ≤ z.buffered
BufferWithin (Some k) n z = (n ≡ z.buffered + k) × (k ≤ z.given)

-- how much the buffers of the syncs have, beside a log of that length
abbrev pub cached_size : Option LogSync → ℕ → Sizes → ℕ
cached_size None len z = z.cached
cached_size (Some x) len z = min x.len (len - x.sync_idx)

abbrev pub best_size : Option ℕ → Sizes → ℕ
best_size None z = z.best
best_size (Some n) z = min n z.given

-- how much a source has
abbrev pub source_size : ℕ → Option LogSync → Sizes → Source → ℕ
source_size len op z source.Nothing = 0
source_size len op z (source.Log i) = len - i
source_size len op z source.Given = z.given
source_size len op z source.Buffered = z.buffered
source_size len op z source.Cached = cached_size op len z

-- a planned thing counts no more than its source has
abbrev pub Within : ℕ → Option LogSync → Sizes → Send → Type 0
Within len op z m = m.count ≤ source_size len op z m.source

-- of the parts of a box: its configuration, its log's length, its buffered proposals, the two syncs it holds, and its plan, of at most k things
pub record Fine (c : Configuration) (z : Sizes) (k : ℕ) (own : Configuration) (len buffered : ℕ) (sync kept : Option LogSync) (x : Sends) (w : Writes) : Type 0 where
  pub config : own ≡ c
  pub things : x.count ≤ k
  pub sums : Sums x
  pub op : OpWithin w.log z
  pub joins : w.buffered ≤ z.buffered
  pub log : len ≡ end_after w.log z.log + w.buffered
  pub buffer : BufferWithin w.buffer buffered z
  pub cached : count_of sync ≤ cached_size w.cached len z
  pub best : count_of kept ≤ best_size w.best z
  pub sends : Items (Within len w.cached z) x

abbrev pub FineBox : Configuration → Sizes → ℕ → SequencePaxos → Type 0
FineBox c z k s =
    Fine c z k s.config s.internal_storage.accepted_idx s.buffered_proposals (sync_in s.cached_promise_message) s.leader_state.max_promise.sync s.plan.sends s.plan.writes

module _ (c : Configuration) (z : Sizes) where
  pub fine_more : {k : ℕ} {o : Configuration} {len b : ℕ} {x y : Option LogSync} {p : Sends} {w : Writes} (n : ℕ) → k ≤ n → Fine c z k o len b x y p w → Fine c z n o len b x y p w
  fine_more n h f = record { config = f.config; things = omega (arith, f.things); sums = f.sums; op = f.op; joins = f.joins; log = f.log; buffer = f.buffer; cached = f.cached; best = f.best; sends = f.sends }

  -- the two syncs: fewer entries
  pub fine-cached : {k : ℕ} {o : Configuration} {len b : ℕ} {x y : Option LogSync} {p : Sends} {w : Writes} (x' : Option LogSync) → count_of x' ≤ count_of x → Fine c z k o len b x y p w → Fine c z k o len b x' y p w
  fine-cached x' h f = record { config = f.config; things = f.things; sums = f.sums; op = f.op; joins = f.joins; log = f.log; buffer = f.buffer; cached = omega (arith, h, f.cached); best = f.best; sends = f.sends }

  pub fine-best : {k : ℕ} {o : Configuration} {len b : ℕ} {x y : Option LogSync} {p : Sends} {w : Writes} (y' : Option LogSync) → count_of y' ≤ count_of y → Fine c z k o len b x y p w → Fine c z k o len b x y' p w
  fine-best y' h f = record { config = f.config; things = f.things; sums = f.sums; op = f.op; joins = f.joins; log = f.log; buffer = f.buffer; cached = f.cached; best = omega (arith, h, f.best); sends = f.sends }

  -- one thing more
  fine-planned : (k : ℕ) (o : Configuration) (len b : ℕ) (x y : Option LogSync) (p : Plan) (m : Send) → m.count ≤ source_size len p.writes.cached z m.source → Fine c z k o len b x y p.sends p.writes → Fine c z (k + 1) o len b x y (planned m p).sends (planned m p).writes
  unfolding planned
  fine-planned k o len b x y p m h f = go (ltb p.sends.count 8) refl (sums-planned m p f.sums)
    where
      more-plan : Plan
      more-plan = record { sends = sending m p.sends; writes = p.writes; unfit = p.unfit; top = p.top; sight = p.sight }

      go : (t : Bool) → ltb p.sends.count 8 ≡ t → Sums (cond t more-plan p).sends → Fine c z (k + 1) o len b x y (cond t more-plan p).sends (cond t more-plan p).writes
      go true e r =
          record {
            config = f.config;
            things = omega (arith, f.things);
            sums = r;
            op = f.op;
            joins = f.joins;
            log = f.log;
            buffer = f.buffer;
            cached = f.cached;
            best = f.best;
            sends = items-pushed (Within len p.writes.cached z) m p.sends (ltb-true p.sends.count 8 e) h f.sends;
          }
      go false e r = fine_more (k + 1) (omega arith) f

  pub fine-push : (k : ℕ) (m : Send) (s : SequencePaxos) → m.count ≤ source_size s.internal_storage.accepted_idx s.plan.writes.cached z m.source → FineBox c z k s → FineBox c z (k + 1) (push_of m s)
  unfolding push_of
  fine-push k m s h f =
      fine-planned k s.config s.internal_storage.accepted_idx s.buffered_proposals (sync_in s.cached_promise_message) s.leader_state.max_promise.sync s.plan m h f
