-- `outgoing::pack` meets its contract: a packed queue lies as it would be laid down, any other is gathered.
use Rattle.outgoing.proofs.Edits.{restarted-end, pack-lent}
use Rattle.outgoing.proofs.Laid.{laid_same}
use Rattle.outgoing.proofs.Heads.{packed-starts}
use Rattle.outgoing.specs.Packing.{packed_from}
use Rattle.outgoing.specs.Queue.{lent}
use lib.ListN.{length, take}
use native.Mathlib.Omega.{arith}
use mathlib.Core.Bool.{true}
use mathlib.Core.Path.{◌≡◌, sym, ◌∙◌}
use Rattle.outgoing.proofs.pack.Goals as goal

pub returns-then-is_packed : goal.returns-then-is_packed
returns-then-is_packed c = let n : length c.args.row.now.heads ≡ 64 = c.requires.places in
    let t : packed_from 0 (take c.args.len c.args.row.now.heads) ≡ true = sym c.is_packed.ensures ∙ c.if-is_packed.true in
    sym (laid_same c.args.len (lent c.args.row.now c.args.store.now) (record { below = omega arith; starts = packed-starts 0 (take c.args.len c.args.row.now.heads) t; within = omega arith }))

pub end_of-used-requires-clause-heads_bound : goal.end_of-used-requires-clause-heads_bound
end_of-used-requires-clause-heads_bound c = let n : length c.args.row.now.heads ≡ 64 = c.requires.places in
    omega (arith, restarted-end c.args.len c.args.row.now c.restart.new.row c.args.store.now c.restart.ensures (omega arith) (omega arith))

pub returns : goal.returns
returns c = let n : length c.args.row.now.heads ≡ 64 = c.requires.places in
    let u = c.end_of-used.ensures ∙ restarted-end c.args.len c.args.row.now c.restart.new.row c.args.store.now c.restart.ensures (omega (arith, c.requires)) (omega (arith, c.requires)) in
    rw (c.restart.ensures, c.write_suffix.ensures, c.first.ensures, c.gather.ensures, u) (pack-lent c.args.len c.args.row.now c.args.store.now _ (omega (arith, c.requires)) c.requires.whole)
