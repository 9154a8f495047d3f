-- In every run the text of a depot's book is the report of its decided entries; and where each row began with its 64 heads, a step with its row of heads lent is the step, and a depot that kept only promise, accepted round, log and
-- decided index through a power cut goes on as the one in the run.
use Prim.Native.Nat.{ℕ, ◌≤◌, ◌<◌}
use mathlib.Core.Path.{◌≡◌, ap}
use mathlib.Core.List.{List, ◌∷◌, ◌++◌}
use native.Mathlib.Omega.{arith}
use lib.ListN.{length, drop}
use borrow.Author.Tests.{eq-eqb, le-ltb}
use Rattle.base.specs.Limits.{max_messages}
use Rattle.messages.specs.declared.Event.{Event}
use Rattle.hire_book.specs.Book.{book_length, charged, stored_days}
use Rattle.hire_book.specs.Hire.{charges_of, days_of, total}
use Rattle.page.specs.Page.{report_bytes}
use Rattle.page.proofs.Rows.{page-same}
use Rattle.step.specs.Step.{step_of}
use Rattle.step_laws.proofs.Whole.{Stays}
use Rattle.depot.specs.Heads.{step_sized, step_heads}
use Rattle.depot_link.specs.Report.{reported, text_of, report_in}
use Rattle.quorum.proofs.Laws.{Stands, stands-says}
use Rattle.runs.specs.Runs.{Setup, config_of, State, Start, Move, after}
use Rattle.runs.specs.Claim.{book, history}
use Rattle.runs.proofs.Local.{counted}
use Rattle.safety.proofs.Good.{good_start}
use Rattle.safety.proofs.Safe.{good}
use Rattle.run_laws.specs.Report.{report_from}
use Rattle.run_laws.proofs.Whole.{whole, billed}
use Rattle.views.specs.View.{view_of}
use Rattle.unread_laws.specs.InUse.{Alike}
use Rattle.unread_laws.specs.PowerCut.{power_cut}
use Rattle.unread_laws.proofs.Unread as unread
use Rattle.unread_laws.proofs.Restarting.{restart, steps_on}

module _ (z : Setup) (σ : State) (o : Start z σ) (ms : List Move) (i : ℕ) where
  -- the text of a depot's book is the report of its decided entries
  pub text-of : text_of (book (after z ms σ) i) ≡ report_from (history (after z ms σ) i)
  text-of = page-same (charged (book (after z ms σ) i)) (λ pump. days_of pump (charges_of (history (after z ms σ) i))) (stored_days (book (after z ms σ) i)) (total (history (after z ms σ) i)) (λ pump p. billed z σ o ms i pump p) (counted z σ o ms i)

module _ (z : Setup) (σ : State) (o : Start z σ) (ms : List Move) (i : ℕ) (l : i < z.depots) (h : length (σ.depot i).row.heads ≡ max_messages) where
  stays : Stays (config_of z i) ((after z ms σ).depot i)
  stays = whole z σ o ms i l h

  -- a row of 64 heads is lent at every step, so the step that is called is the step of the rules
  pub lent-step : (e : Event) (entries : List ℕ) → step_heads (config_of z i) e entries ((after z ms σ).depot i) ≡ step_of (config_of z i) e entries ((after z ms σ).depot i)
  unfolding step_sized
  lent-step e entries = rw (eq-eqb (length ((after z ms σ).depot i).row.heads) max_messages stays.shape.heads)

  -- `depots_report` never refuses it, and writes exactly those bytes
  pub report-of : (out : List ℕ) → report_bytes ≤ length out → report_in (book (after z ms σ) i) out ≡ reported 0 (length (report_from (history (after z ms σ) i))) (report_from (history (after z ms σ) i) ++ drop (length (report_from (history (after z ms σ) i))) out)
  unfolding report_in
  report-of out room =
      let b = stays.whole.book in
      rw (eq-eqb (length (book (after z ms σ) i)) book_length b.cells, le-ltb (length out) report_bytes room, b.kept)
      (ap (λ (t : List ℕ). reported 0 (length t) (t ++ drop (length t) out)) (text-of z σ o ms i))

  -- the leader's record has seven places
  places : z.depots ≤ length ((after z ms σ).depot i).node.leader_state.depots
  unfolding view_of
  places =
      let s : Stands (config_of z 0) = stands-says (config_of z 0) (o.stands 0 (omega arith)) in
      let g = good z s ms σ (good_start z s σ o) in
      omega (arith, (g.total.base.node i l).row, s.most)

  -- a power cut, then a restart, then any events: the same answers as without the cut, and what is in use after them, the waiting messages and the book with it, the same
  pub power-cut :
      (gs : List unread.Given)
      → (unread.answers (config_of z i) (restart ∷ gs) (power_cut ((after z ms σ).depot i)) ≡ unread.answers (config_of z i) (restart ∷ gs) ((after z ms σ).depot i))
      × Alike (config_of z i) (unread.after (config_of z i) (restart ∷ gs) (power_cut ((after z ms σ).depot i))) (unread.after (config_of z i) (restart ∷ gs) ((after z ms σ).depot i))
  power-cut gs = steps_on (config_of z i) ((after z ms σ).depot i) stays places gs
