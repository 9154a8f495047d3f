-- Every definition that a move is made of. `unfolding computing` opens all of them, so that a run from a given start computes.
use Prim.Native.Nat.{ℕ}
use Rattle.base.specs.Count.{count, most}
use Rattle.base.specs.Lists.{on_first, tabulate, over}
use Rattle.ballot.specs.Ballot.{compare_of, above, same, is_default}
use Rattle.sequence.specs.Sequence.{status_of}
use Rattle.quorum.specs.Quorum.{reaches_read, reaches_write, is_depot, sizes_stand, stands_of}
use Rattle.leader_state.specs.Places.{accepted_at, is_follower, is_peer, promised_followers, preparable_peers}
use Rattle.leader_state.specs.Promises.{promised_count, max_decided, beats, sync_start}
use Rattle.leader_state.specs.State.{with_of, forget_all}
use Rattle.paxos_box.specs.Box.{planned, push_of}
use Rattle.sends.specs.Sends.{suffix_length, sync_fits, next_session_of, next_seq_num_of, send_prepare, new_session, push_acc_sync, send_acc_sync, acc_sync_to, latest_accdec, join_to, push_accept_decide, new_accept_decide, accept_decide_to, push_decide, decide_to, send_prepare_req, for_marked, peers_of}
use Rattle.log_plan.specs.Log.{ends_past, put_unfit, sync_unfit, sync_log, append_given, kept_of, append_buffered, buffer_given, has_leader, forward_proposals, forward_buffered}
use Rattle.leader.specs.Leader.{new_leader, own_promise, become_leader, handle_leader, prepare_again, handle_prepare_req, accept_entries_leader, handle_forwarded_proposal, sync_held, sync_with_best, handle_majority_promises, handle_promise_prepare, handle_promise_accept, handle_promise, newly_chosen, decide_if_chosen, accepted_taken, handle_accepted, handle_not_accepted, resend_messages_leader}
use Rattle.reconnect.specs.Reconnect.{left_leader, reconnected_of}
use Rattle.accepting.specs.Accepting.{send_accepted, acceptsync_put, following, acceptsync_taken, handle_acceptsync, counter_at_top, latest_accepted, reply_accepted, update_decided, acceptdecide_taken, acceptdecide_fit, handle_acceptdecide, decide_taken, handle_decide}
use Rattle.follower.specs.Follower.{promised_sync, cache_promise, tell_promise, promise_to, prepare_taken, handle_prepare, resend_messages_follower}
use Rattle.outcome.specs.Outcome.{drained, restarted, queue_refusal, outcome_refusal, settled}
use Rattle.hire_book.specs.Below.{any_below, sum_below}
use Rattle.hire_book.specs.Book.{entered, apply_all, fresh_book, broken_at, broken_of, any_above}
use Rattle.sight.specs.Sight.{first_from, changes_at, first_change, accdec_at, accdec_marks, queue_entries}
use Rattle.sight.specs.Sight as sight
use Rattle.unfit.specs.Unfit.{wrong_sender, entry_above, either_past, count_off, foreign, either_foreign, message_unfit, proposal_unfit}
use Rattle.heads.specs.Heads.{any_head, outside, overlap, any_overlap}
use Rattle.places.specs.Places.{any_place}
use Rattle.broken.specs.Broken.{kept_above, over_limit, position_past, head_off, sync_past, leader_off, kept_foreign, state_broken, record_broken}
use Rattle.refusals.specs.Refusals.{lengths_off, wrong_call, refusal_of}
use Rattle.storage.specs.Storage.{put_at, log_after}
use Rattle.outgoing.specs.Perform.{on_place, perform_one, perform_all, performed}
use Rattle.outgoing.specs.Queue.{heads_from, entries_in, laid}
use Rattle.outgoing.specs.Queue as outgoing
use Rattle.step.specs.Step.{box_of, decision_of, log_of, cached_of, best_of, buffer_of, queue_of, book_after, perform_of, concluded, step_of}
use Rattle.runs.specs.Runs.{sent_to, moved, after}
use Rattle.run_cases.specs.Old.{kept_places, moved_by, after_by}
use Rattle.run_cases.specs.Loose.{moved_loose, after_loose}

unfoldable pub computing : ℕ
unfolding count most on_first tabulate over compare_of above same is_default status_of reaches_read reaches_write is_depot sizes_stand stands_of accepted_at is_follower is_peer promised_followers preparable_peers promised_count max_decided beats sync_start with_of forget_all planned push_of suffix_length sync_fits next_session_of next_seq_num_of send_prepare new_session push_acc_sync send_acc_sync acc_sync_to latest_accdec join_to push_accept_decide new_accept_decide accept_decide_to push_decide decide_to send_prepare_req for_marked peers_of ends_past put_unfit sync_unfit sync_log append_given kept_of append_buffered buffer_given has_leader forward_proposals forward_buffered new_leader own_promise become_leader handle_leader prepare_again handle_prepare_req accept_entries_leader handle_forwarded_proposal sync_held sync_with_best handle_majority_promises handle_promise_prepare handle_promise_accept handle_promise newly_chosen decide_if_chosen accepted_taken handle_accepted handle_not_accepted resend_messages_leader left_leader reconnected_of promised_sync cache_promise tell_promise promise_to prepare_taken handle_prepare send_accepted acceptsync_put following acceptsync_taken handle_acceptsync counter_at_top latest_accepted reply_accepted update_decided acceptdecide_taken acceptdecide_fit handle_acceptdecide decide_taken handle_decide resend_messages_follower drained restarted queue_refusal outcome_refusal settled any_below sum_below entered apply_all fresh_book broken_at broken_of any_above first_from changes_at first_change accdec_at accdec_marks queue_entries sight.accepted_at wrong_sender entry_above either_past count_off foreign either_foreign message_unfit proposal_unfit any_head outside overlap any_overlap any_place kept_above over_limit position_past head_off sync_past leader_off kept_foreign state_broken record_broken lengths_off wrong_call refusal_of put_at log_after on_place perform_one perform_all performed heads_from entries_in laid outgoing.queue_of box_of decision_of log_of cached_of best_of buffer_of queue_of book_after perform_of concluded step_of sent_to moved after kept_places moved_by after_by moved_loose after_loose
computing = 0
