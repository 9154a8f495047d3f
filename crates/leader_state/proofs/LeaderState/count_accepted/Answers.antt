-- `LeaderState::count_accepted` meets its contract: the library's count is the count of the specs.
use Rattle.std.proofs.Common.{◌≡◌, ◌∙◌, take, count_by, leb, rules}
use Rattle.leader_state.specs.Places.{accepted_at}
use Rattle.leader_state.proofs.Rows.{count_by-count}
use Rattle.leader_state.proofs.LeaderState.count_accepted.Goals as goal

pub returns : goal.returns
unfolding accepted_at
returns c =
    let e : c.count.result ≡ count_by (λ d. leb c.args.idx d.accepted_idx) (take c.args.c.depots c.args.self.now.depots) = search rules in
    e ∙ count_by-count _ _
