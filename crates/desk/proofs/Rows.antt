-- The desk's claim holds: each row by computing.
use mathlib.Core.Path.{refl}
use Rattle.ballot.specs.Ballot.{same, compare_of}
use Rattle.sequence.specs.Sequence.{status_of}
use Rattle.quorum.specs.Quorum.{stands_of, sizes_stand, is_depot, reaches_write}
use Rattle.refusals.specs.Refusals.{refusal_of, wrong_call}
use Rattle.step.specs.Step.{step_of}
use Rattle.base.specs.Count.{count}
use Rattle.leader_state.specs.Places.{accepted_at}
use Rattle.leader_state.specs.Promises.{sync_start}
use Rattle.hire_book.specs.Hire.{hires_from, pairs_of_all, days_from}
use Rattle.hire_book.specs.Book.{apply_all, entered, fresh_book}
use Rattle.hire_book.specs.Below.{sum_below}
use Rattle.desk.specs.Desk.{Desk}

pub desk : Desk
unfolding step_of refusal_of wrong_call stands_of sizes_stand is_depot status_of reaches_write accepted_at count sync_start same compare_of hires_from pairs_of_all days_from apply_all entered fresh_book sum_below
desk =
    record {
      p1 = (refl, refl);
      p2 = refl;
      p3 = λ e entries w. refl;
      p4 = refl;
      p5 = refl;
      p6 = (refl, refl);
      p7 = refl;
      p8 = (refl, refl);
      p9 = refl;
      p10 = refl;
      p11 = refl;
      p12 = (refl, refl, refl, refl);
      p13 = (refl, refl, refl, refl);
    }
