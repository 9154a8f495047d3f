-- In every run every record stays unbroken, and lists and row keep their lengths, where each row began with its 64 heads; and a book charges each pump the days that its history charges.
use Prim.Native.Nat.{ℕ, ◌<◌}
use mathlib.Core.Path.{◌≡◌, sym, subst, ◌∙◌, ap}
use mathlib.Core.List.{List, [], ◌∷◌}
use lib.ListN.{length}
use Rattle.base.specs.Limits.{pumps, max_messages}
use Rattle.quorum.specs.declared.Configuration.{Configuration}
use Rattle.quorum.proofs.Laws.{Stands, stands-says}
use Rattle.messages.specs.declared.Event.{Event}
use Rattle.hire_book.specs.Book.{charged, Sound}
use Rattle.hire_book.specs.Hire.{charges_of, days_of}
use Rattle.hire_book.proofs.Sound.{fresh-length, fresh-sound}
use Rattle.hire_laws.proofs.Stored.{stored-days}
use Rattle.record.specs.declared.Record.{Record}
use Rattle.step.specs.Step.{World, world, step_of}
use Rattle.step_laws.proofs.Step.{fresh-stays}
use Rattle.step_laws.proofs.Whole.{Stays, always-stays, never-broken}
use Rattle.runs.specs.Runs.{Setup, config_of, State, FreshDepot, Start, Move, moved, after}
use Rattle.runs.specs.Claim.{book, history}
use Rattle.runs.proofs.Local.{Turned, still, stepped, turned, kept}

pub billed : (z : Setup) (σ : State) → Start z σ → (ms : List Move) (i pump : ℕ) → pump < pumps → charged (book (after z ms σ) i) pump ≡ days_of pump (charges_of (history (after z ms σ) i))
billed z σ s ms i pump h = rw (kept z σ s ms i) (stored-days (history (after z ms σ) i) pump h)

whole-turned : {c : Configuration} {w v : World} → Turned c w v → Stays c w → Stays c v
whole-turned {c} {w} still h = h
whole-turned {c} {w} (stepped e entries) h = always-stays c e entries w h

whole-after : (z : Setup) (ms : List Move) (k : ℕ) (σ : State) → Stays (config_of z k) (σ.depot k) → Stays (config_of z k) ((after z ms σ).depot k)
unfolding after
whole-after z [] k σ h = h
whole-after z (m ∷ ms) k σ h = whole-after z ms k (moved z m σ) (whole-turned (turned z m k σ) h)

fresh-whole : (z : Setup) (i : ℕ) (w : World) → Stands (config_of z i) → FreshDepot w → length w.row.heads ≡ max_messages → Stays (config_of z i) w
fresh-whole z i w s f h =
    subst (λ (r : Record). Stays (config_of z i) (world r w.row w.lists)) (sym f.node)
    (fresh-stays (config_of z i) w.row w.lists s
    (record { log = f.log; cached = f.cached; best = f.best; store = f.store; book = ap length f.book ∙ fresh-length })
    h (subst Sound (sym f.book) fresh-sound))

module _ (z : Setup) (σ : State) (o : Start z σ) (ms : List Move) (i : ℕ) (l : i < z.depots) (h : length (σ.depot i).row.heads ≡ max_messages) where
  pub whole : Stays (config_of z i) ((after z ms σ).depot i)
  whole = whole-after z ms i σ (fresh-whole z i (σ.depot i) (stands-says (config_of z i) (o.stands i l)) (o.fresh i) h)

  -- so no step of a run is ever answered 1 or 2
  pub never-refused : (e : Event) (entries : List ℕ) → ((step_of (config_of z i) e entries ((after z ms σ).depot i)).answer.no ≡ 1 → ⊥) × ((step_of (config_of z i) e entries ((after z ms σ).depot i)).answer.no ≡ 2 → ⊥)
  never-refused e entries = never-broken (config_of z i) e entries ((after z ms σ).depot i) whole
