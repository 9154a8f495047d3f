-- `outgoing::restart` meets its contract: what is to be restarted is what is left, from where the heads passed end.
use Rattle.std.proofs.Common.{◌≡◌, ℕ, ◌+◌, ◌<◌, List, sym, ap, ◌∙◌, arith, rules, get_or-set_same}
use lib.ListN.{get_or, set, length-set, length}
use Rattle.outgoing.specs.Packing.{start_at, row_of, restarted}
use Rattle.outgoing.proofs.Turns.{unset, restart-turn, restart-end, carried-left}
use Rattle.messages.specs.declared.Head.{Head}
use Rattle.outgoing.proofs.restart.Goals as goal

-- a head that got a start counts what it counted
count-kept : (hs : List Head) (i at : ℕ) → i < length hs → (get_or (set hs i (start_at at (get_or hs i unset))) i unset).count ≡ (get_or hs i unset).count
count-kept hs i at h = ap (λ (x : Head). x.count) (get_or-set_same hs i (start_at at (get_or hs i unset)) unset h)

pub overflow_add-place : goal.overflow_add-place
overflow_add-place c =
    let hs = c.loop-i.row.heads in
    omega (arith, count-kept hs c.loop-i.i c.loop-i.place (omega arith), carried-left hs c.loop-i.i c.args.to unset unset (search rules) (search rules))

pub loop-i-preserved : goal.loop-i-preserved
loop-i-preserved c =
    let hs = c.loop-i.row.heads in
    let x = start_at c.loop-i.place (get_or hs c.loop-i.i unset) in
    let k = count-kept hs c.loop-i.i c.loop-i.place (omega arith) in
    (rw length-set c.loop-i.invariant.0, omega (arith, k, carried-left hs c.loop-i.i c.args.to unset x (search rules) (search rules)), ap (λ (n : ℕ). restarted (c.loop-i.i + 1) c.args.to (c.loop-i.place + n) (set hs c.loop-i.i x)) k ∙ restart-turn hs c.loop-i.i c.args.to c.loop-i.place unset (search rules) (search rules) ∙ c.loop-i.invariant.2)

pub returns : goal.returns
returns c =
    let e : c.loop-i.i ≡ c.args.to = omega arith in
    ap (λ (hs : List Head). row_of hs) (sym (restart-end c.loop-i.row.heads c.args.to c.loop-i.place) ∙ (rw e at c.loop-i.invariant.2))
