-- What a box sends to one depot, and to each of several. Each function takes the box last.
use Rattle.std.specs.Prelude.{ℕ, zero, suc, ◌-◌, ◌≤◌, Bool, true, false, cond, not, List, ltb, leb, eqb, get_or, Option, None, Some}
use Rattle.base.specs.Limits.{largest}
use Rattle.leader_state.specs.declared.Depot.{Depot}
use Rattle.leader_state.specs.declared.PromiseMetaData.{PromiseMetaData}
use Rattle.leader_state.specs.declared.PromiseState.{PromiseState}
use Rattle.leader_state.specs.declared.PromiseState.TheVariants.{NotPromised, Promised, PromisedHigher}
use Rattle.leader_state.specs.State.{depot_of, with_depot, set_latest, next_session, next_counter}
use Rattle.leader_state.specs.Promises.{sync_start}
use Rattle.leader_state.specs.Places.{marks}
use Rattle.quorum.specs.declared.Configuration.{Configuration}
use Rattle.messages.specs.declared.PaxosMsg.{PaxosMsg}
use Rattle.messages.specs.declared.PaxosMsg.TheVariants as msg
use Rattle.paxos_box.specs.declared.SequencePaxos.{SequencePaxos}
use Rattle.paxos_box.specs.declared.Send.{Send}
use Rattle.paxos_box.specs.declared.Sent.TheVariants.{New, Join}
use Rattle.paxos_box.specs.declared.Source.{Source}
use Rattle.paxos_box.specs.declared.Source.TheVariants as source
use Rattle.paxos_box.specs.Box.{with_leader, unfit, at_top, push_of, next_place}
use Rattle.sends.specs.declared.Each.{Each}
use Rattle.sends.specs.declared.Each.TheVariants as each

-- a depot's place in the leader's record, and the box with that place changed
abbrev pub the_depot : ℕ → SequencePaxos → Depot
the_depot pid s = depot_of pid s.leader_state

abbrev pub on_depot : ℕ → (Depot → Depot) → SequencePaxos → SequencePaxos
on_depot pid f s = with_leader (with_depot pid f s.leader_state) s

abbrev pub log_length : SequencePaxos → ℕ
log_length s = s.internal_storage.accepted_idx

-- a new message with entries from a source
abbrev pub new_to : ℕ → PaxosMsg → Source → ℕ → Send
new_to to m src count = record { to = to; what = New m; source = src; count = count }

abbrev pub send_new : ℕ → PaxosMsg → Source → ℕ → SequencePaxos → SequencePaxos
send_new to m src count s = push_of (new_to to m src count) s

-- how many entries the log has from a place on
unfoldable pub suffix_length : ℕ → ℕ → ℕ
suffix_length len from = cond (ltb len from) 0 (len - from)

-- a log sync to be built from past the own log's end is unfit (R2.4.26)
unfoldable pub sync_fits : ℕ → SequencePaxos → SequencePaxos
sync_fits from s = cond (ltb (log_length s) from) (unfit s) s

-- a session or counter to be raised that is at the top refuses the step with 7 (R2.7.1, R2.7.2)
unfoldable pub next_session_of : ℕ → SequencePaxos → SequencePaxos
next_session_of to s = cond (leb largest (the_depot to s).seq_num.session) (at_top s) (on_depot to next_session s)

unfoldable pub next_seq_num_of : ℕ → SequencePaxos → SequencePaxos
next_seq_num_of to s = cond (leb largest (the_depot to s).seq_num.counter) (at_top s) (on_depot to next_counter s)

abbrev pub set_latest_of : ℕ → Option ℕ → SequencePaxos → SequencePaxos
set_latest_of to l s = on_depot to (set_latest l) s

-- Prepare, with how far the own log goes (R7.3)
unfoldable pub send_prepare : ℕ → SequencePaxos → SequencePaxos
send_prepare to s =
    send_new to
    (msg.Prepare (record { n = s.leader_state.n_leader; decided_idx = s.internal_storage.decided_idx; n_accepted = s.internal_storage.accepted_round; accepted_idx = log_length s }))
    source.Nothing 0 s

-- send_accsync: the depot's session is raised, its counter starts at 1, and its remembered AcceptDecide is forgotten (the departure, R10.1)
unfoldable pub new_session : ℕ → SequencePaxos → SequencePaxos
new_session to s = set_latest_of to None (next_seq_num_of to (next_session_of to s))

-- AcceptSync with the depot's number and all entries of the log from a place on (R7.4)
unfoldable pub push_acc_sync : ℕ → ℕ → SequencePaxos → SequencePaxos
push_acc_sync from to s =
    send_new to
    (msg.AcceptSync (record { n = s.leader_state.n_leader; seq_num = (the_depot to s).seq_num; decided_idx = s.internal_storage.decided_idx; sync_idx = from }))
    (source.Log from) (suffix_length (log_length s) from) s

abbrev pub sync_start_of : PromiseMetaData → SequencePaxos → ℕ
sync_start_of m s = sync_start s.leader_state.n_leader s.leader_state.max_promise.meta m

unfoldable pub send_acc_sync : ℕ → PromiseMetaData → SequencePaxos → SequencePaxos
send_acc_sync to m s = push_acc_sync (sync_start_of m s) to (new_session to (sync_fits (sync_start_of m s) s))

abbrev pub by_promise : ℕ → PromiseState → SequencePaxos → SequencePaxos
by_promise to (Promised m) s = send_acc_sync to m s
by_promise to NotPromised s = s
by_promise to PromisedHigher s = s

unfoldable pub acc_sync_to : ℕ → SequencePaxos → SequencePaxos
acc_sync_to to s = by_promise to (the_depot to s).promise s

-- the remembered AcceptDecide of a depot, where an AcceptDecide stands at its position
abbrev pub stands : Bool → Option ℕ → Option ℕ
stands true l = l
stands false l = None

unfoldable pub latest_accdec : ℕ → SequencePaxos → Option ℕ
latest_accdec to s = stands (get_or s.plan.sight.accdec (to - 1) false) (the_depot to s).latest

-- entries of the log and the decided index join the AcceptDecide at a position of the queue
unfoldable pub join_to : ℕ → ℕ → ℕ → ℕ → SequencePaxos → SequencePaxos
join_to from count to at s =
    push_of (record { to = to; what = Join (record { at = at; decided_idx = s.internal_storage.decided_idx }); source = source.Log from; count = count }) s

unfoldable pub push_accept_decide : ℕ → ℕ → ℕ → SequencePaxos → SequencePaxos
push_accept_decide from count to s =
    send_new to
    (msg.AcceptDecide (record { n = s.leader_state.n_leader; seq_num = (the_depot to s).seq_num; decided_idx = s.internal_storage.decided_idx }))
    (source.Log from) count s

-- a new AcceptDecide with the next number, remembered by its position (R7.5)
unfoldable pub new_accept_decide : ℕ → ℕ → ℕ → SequencePaxos → SequencePaxos
new_accept_decide from count to s = push_accept_decide from count to (next_seq_num_of to (set_latest_of to (Some (next_place s)) s))

abbrev pub accept_decide_by : ℕ → ℕ → ℕ → Option ℕ → SequencePaxos → SequencePaxos
accept_decide_by from count to (Some at) s = join_to from count to at s
accept_decide_by from count to None s = new_accept_decide from count to s

unfoldable pub accept_decide_to : ℕ → ℕ → ℕ → SequencePaxos → SequencePaxos
accept_decide_to from count to s = accept_decide_by from count to (latest_accdec to s) s

unfoldable pub push_decide : ℕ → SequencePaxos → SequencePaxos
push_decide to s =
    send_new to
    (msg.Decide (record { n = s.leader_state.n_leader; seq_num = (the_depot to s).seq_num; decided_idx = s.internal_storage.decided_idx }))
    source.Nothing 0 s

abbrev pub decide_by : ℕ → Option ℕ → SequencePaxos → SequencePaxos
decide_by to (Some at) s = join_to 0 0 to at s
decide_by to None s = push_decide to (next_seq_num_of to s)

-- the decided index joins the remembered AcceptDecide, else goes in a Decide with the next number (R7.6)
unfoldable pub decide_to : ℕ → SequencePaxos → SequencePaxos
decide_to to s = decide_by to (latest_accdec to s) s

-- PrepareReq, with the promise (R7.7)
unfoldable pub send_prepare_req : ℕ → SequencePaxos → SequencePaxos
send_prepare_req to s = send_new to (msg.PrepareReq (record { n = s.internal_storage.promise })) source.Nothing 0 s

-- one of them, to one depot
abbrev pub send_one : Each → ℕ → SequencePaxos → SequencePaxos
send_one each.Prepare to s = send_prepare to s
send_one each.AcceptSync to s = acc_sync_to to s
send_one (each.AcceptDecide from count) to s = accept_decide_to from count to s
send_one each.Decide to s = decide_to to s
send_one each.PrepareReq to s = send_prepare_req to s

-- the entries of an AcceptDecide to several are few
abbrev pub few_entries : Each → Type 0
few_entries each.Prepare = Unit {0}
few_entries each.AcceptSync = Unit {0}
few_entries (each.AcceptDecide from count) = count ≤ 1024
few_entries each.Decide = Unit {0}
few_entries each.PrepareReq = Unit {0}

abbrev pub turn_of : Each → Bool → ℕ → SequencePaxos → SequencePaxos
turn_of what on to s = cond on (send_one what to s) s

-- to each of the first n depots whose place is marked, pids rising (R7.2)
unfoldable pub for_marked : List Bool → Each → ℕ → SequencePaxos → SequencePaxos
for_marked marked what zero s = s
for_marked marked what (suc i) s = turn_of what (get_or marked i false) (suc i) (for_marked marked what i s)

-- the depots but oneself
unfoldable pub peers_of : Configuration → List Bool
peers_of c = marks c.depots (λ pid. not (eqb pid c.pid))
