-- `LeaderState::count_promised` meets its contract: the library's count is the count of the specs.
use Rattle.std.proofs.Common.{◌≡◌, ◌∙◌, take, count_by, rules}
use Rattle.leader_state.specs.Promises.{is_promised, promised_count}
use Rattle.leader_state.proofs.Rows.{count_by-count}
use Rattle.leader_state.proofs.LeaderState.count_promised.Goals as goal

pub returns : goal.returns
unfolding promised_count
returns c =
    let e : c.count.result ≡ count_by (λ d. is_promised d.promise) (take c.args.c.depots c.args.self.now.depots) = search rules in
    e ∙ count_by-count _ _
