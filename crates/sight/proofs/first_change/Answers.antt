-- `sight::first_change` meets its contract: no place passed is changed.
use mathlib.Core.Path.{◌≡◌, sym, ◌∙◌}
use native.Mathlib.Omega.{arith}
use borrow.Author.Rules.{rules}
use Rattle.sight.proofs.First.{first-here, first-turn, first-end}
use Rattle.sight.specs.Sight.{changes_at, first_change}
use Rattle.sight.proofs.first_change.Goals as goal

pub returns-then-changes_at : goal.returns-then-changes_at
unfolding first_change
returns-then-changes_at c = sym (first-here (changes_at c.args.log.now c.args.start c.args.suffix.now) c.loop-i.i c.args.len (search rules) (sym c.changes_at.ensures ∙ c.if-changes_at.true)) ∙ c.loop-i.invariant

pub loop-i-preserved : goal.loop-i-preserved
loop-i-preserved c = sym (first-turn (changes_at c.args.log.now c.args.start c.args.suffix.now) c.loop-i.i c.args.len (search rules) (sym c.changes_at.ensures ∙ c.if-changes_at.false)) ∙ c.loop-i.invariant

pub returns : goal.returns
unfolding first_change
returns c = let e : c.loop-i.i ≡ c.args.len = omega arith in sym (first-end (changes_at c.args.log.now c.args.start c.args.suffix.now) c.args.len) ∙ (rw e at c.loop-i.invariant)
