-- The core's moves: a promise is raised, a ballot starts, a ballot's log gains entries, a depot accepts.
use Rattle.std.specs.Prelude.{ℕ, ◌≤◌, Bool, true, false, List, [], ◌++◌, length}
use Rattle.ballot.specs.Ballot.{default}
use Rattle.ballot.specs.declared.Ballot.{Ballot}
use Rattle.agreement.specs.Order.{Below}
use Rattle.agreement.specs.Core.{Sizes, Ghost, Same, Mark, Heard}
use Rattle.agreement.specs.Update.{at_depot, at_ballot, at_both}

module _ {E : Type 0} where
  -- before every run: nothing promised, started or accepted
  unfoldable pub fresh : Ghost E
  fresh = record { started = λ n. false; G = λ n. []; g0 = λ n. 0; promise = λ b. default; rnd = λ b. default; A = λ b n. 0 }

  -- depot b promises n
  unfoldable pub raise : ℕ → Ballot → Ghost E → Ghost E
  raise b n g = record { started = g.started; G = g.G; g0 = g.g0; promise = at_depot b n g.promise; rnd = g.rnd; A = g.A }

  -- ballot n starts with this log
  unfoldable pub start : Ballot → List E → Ghost E → Ghost E
  start n log g =
      record {
        started = at_ballot n true g.started;
        G = at_ballot n log g.G;
        g0 = at_ballot n (length log) g.g0;
        promise = g.promise;
        rnd = g.rnd;
        A = g.A;
      }

  -- ballot n's log gains es
  unfoldable pub append : Ballot → List E → Ghost E → Ghost E
  append n es g = record { started = g.started; G = at_ballot n (g.G n ++ es) g.G; g0 = g.g0; promise = g.promise; rnd = g.rnd; A = g.A }

  -- depot b accepts the first k places of ballot n's log
  unfoldable pub accept : ℕ → Ballot → ℕ → Ghost E → Ghost E
  accept b n k g = record { started = g.started; G = g.G; g0 = g.g0; promise = g.promise; rnd = at_depot b n g.rnd; A = at_both b n k g.A }

  -- what the leader of n must show to start it with this log: the log begins with a places of na, the best that a read quorum told of
  pub record Begins (z : Sizes) (g : Ghost E) (n na : Ballot) (a : ℕ) (log : List E) : Type 0 where
    pub R : ℕ → Bool
    pub below : Below na n
    pub mark : Mark g na a
    pub fits : a ≤ length log
    pub same : Same a log (g.G na)
    pub heard : Heard z g n R na a
