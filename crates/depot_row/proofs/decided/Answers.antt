-- `depot_row::decided` meets its contract: refused before deciding, or by what was decided, or decided.
use Rattle.std.proofs.Common.{sym}
use Rattle.std.proofs.lemmas.Result.{err_from_is_err_and}
use Rattle.broken.specs.Lent.{lent_of}
use Rattle.step.specs.Step.{world}
use Rattle.step_laws.proofs.Fits.{sound}
use Rattle.refusals.proofs.Sound.{taken}
use Rattle.depot_row.proofs.Laws.{refused-first, decided}
use Rattle.depot_row.proofs.decided.Goals as goal

pub decide-requires-clause-sound : goal.decide-requires-clause-sound
decide-requires-clause-sound c =
    let l = lent_of c.args.lists in
    (sound c.args.c c.args.r c.args.row l c.args.e c.args.entries.now (taken c.args.c c.args.r c.args.row l c.args.e c.args.entries.now (sym c.in_ok-refusal.ensures))).0

pub decide-requires-clause-fit_event : goal.decide-requires-clause-fit_event
decide-requires-clause-fit_event c =
    let l = lent_of c.args.lists in
    (sound c.args.c c.args.r c.args.row l c.args.e c.args.entries.now (taken c.args.c c.args.r c.args.row l c.args.e c.args.entries.now (sym c.in_ok-refusal.ensures))).1

pub returns-in_err-refusal : goal.returns-in_err-refusal
returns-in_err-refusal c =
    let w = world c.args.r c.args.row (lent_of c.args.lists) in
    let p = err_from_is_err_and c.from_residual.result c.from_residual.ensures.1 in
    rw (p.1, p.2) (refused-first c.args.c c.args.e c.args.entries.now w c.in_err-refusal.field-0.0 c.in_err-refusal.ensures)

pub returns : goal.returns
returns c =
    decided c.args.c c.args.e c.args.entries.now (world c.args.r c.args.row (lent_of c.args.lists)) c.decide.result c.in_ok-refusal.ensures c.decide.ensures
