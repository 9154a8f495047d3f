-- `rounds::settle` meets its contract: what is left to do leads to the same end.
use Rattle.std.proofs.Common.{◌+◌, ◌-◌, arith, sym, ◌∙◌}
use Rattle.rounds.proofs.Laws.{settled-end, settled-none, settled-again}
use Rattle.rounds.proofs.settle.Goals as goal

pub returns-in_default : goal.returns-in_default
returns-in_default g c = sym (settled-none (c.args.drains - c.loop.counter) c.loop.c (sym c.next_sender.ensures ∙ c.in_default.is)) ∙ c.loop.invariant

pub loop-preserved : goal.loop-preserved
loop-preserved g c =
    settled-again (c.args.drains - c.loop.counter) (c.args.drains - (c.loop.counter + 1)) c.in-Some.from c.loop.c c.drain.new.c (omega arith)
    (sym c.next_sender.ensures ∙ c.in-Some.is) c.drain.ensures ∙
    c.loop.invariant

pub returns : goal.returns
returns g c = sym (settled-end (c.args.drains - c.loop.counter) c.loop.c (omega arith)) ∙ c.loop.invariant
