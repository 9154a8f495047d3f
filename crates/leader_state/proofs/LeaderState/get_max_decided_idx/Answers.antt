-- `LeaderState::get_max_decided_idx` meets its contract: the library's largest is the largest of the specs.
use Rattle.std.proofs.Common.{◌∙◌, ap, take, unwrap_or, rules, tests}
use Rattle.std.proofs.lemmas.Iterator.{YieldsList-from_slice, YieldsList-from_map}
use Rattle.std.proofs.lemmas.Iterator.Consumers.{reduce_from_yields_List}
use Rattle.std.proofs.lemmas.List.Folds.{max_of_map}
use Rattle.leader_state.specs.Promises.{decided_state, max_decided}
use Rattle.leader_state.proofs.Rows.{fold-most}
use Rattle.leader_state.proofs.LeaderState.get_max_decided_idx.Goals as goal

pub returns : goal.returns
unfolding max_decided
returns c =
    let row = take c.args.c.depots c.args.self.depots in
    c.unwrap_or.ensures ∙ ap (λ o. unwrap_or o 0) (reduce_from_yields_List _ c.map.result _ c.max.ensures.ran (YieldsList-from_map _ (λ d. decided_state d.promise) (YieldsList-from_slice row cc) c.map.ensures.closure (λ x b q k. search (rules, tests)))) ∙ max_of_map (λ d. decided_state d.promise) row ∙ fold-most _ row
