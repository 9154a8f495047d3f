-- `outgoing::perform` meets its contract: a plan of nothing leaves all as found, any other is done to the packed queue.
use Rattle.outgoing.proofs.Steps.{fits_below, fits_whole, fits-ready, fits-places, pack-then}
use Rattle.outgoing.specs.Perform.{performed, sources, items_of}
use Rattle.outgoing.specs.Queue.{lent}
use Rattle.base.proofs.Lists.{length-mapped}
use borrow.Author.Tests.{ne_eqb}
use lib.ListN.{length}
use mathlib.Core.Path.{◌≡◌, ◌∙◌}
use borrow.Author.Rules.{rules}
use Rattle.outgoing.proofs.perform.Goals as goal

pub pack-requires-clause-whole : goal.pack-requires-clause-whole
pack-requires-clause-whole c = let n : length c.args.row.heads ≡ 64 = search (rules, length-mapped) in
    fits_whole c.args.len c.args.sends c.args.row c.args.store.now c.requires n

pub perform_all-requires-clause-places : goal.perform_all-requires-clause-places
perform_all-requires-clause-places c =
    let n : length c.args.row.heads ≡ 64 = search (rules, length-mapped) in
    fits-places c.args.len c.args.sends c.args.row c.args.store.now c.requires n (lent c.pack.new.row c.pack.new.store) c.pack.ensures

pub perform_all-requires-clause-ready : goal.perform_all-requires-clause-ready
perform_all-requires-clause-ready c = let n : length c.args.row.heads ≡ 64 = search (rules, length-mapped) in
    fits-ready c.args.len c.args.sends c.args.row c.args.store.now c.requires n (lent c.pack.new.row c.pack.new.store) c.pack.ensures

pub returns : goal.returns
unfolding performed
returns c = let n : length c.args.row.heads ≡ 64 = search (rules, length-mapped) in
    let f = sources c.args.log.now c.args.given.now c.args.buffered c.args.cached.now in
    rw (ne_eqb c.args.sends.count 0 c.if-sends-eq0.false)
    (c.perform_all.ensures ∙ pack-then f (items_of c.args.sends) c.args.len (lent c.args.row c.args.store.now) (lent c.pack.new.row c.pack.new.store) (fits_below c.args.len c.args.sends c.args.row c.args.store.now c.requires n) c.pack.ensures)
