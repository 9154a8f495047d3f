-- What a follower does with AcceptSync, AcceptDecide and Decide (follower.rs; docs/RULES.md, R8.5 to R8.9). Each definition takes the box last. Most are named like
-- the function that meets them (handle_decide: handle_decide); each contract in src/ cites its own.
use Rattle.std.specs.Prelude.{ℕ, ◌≡◌, ◌+◌, min, Bool, false, cond, ltb, eqb, MatchBool, Option, None, Some}
use Rattle.base.specs.Limits.{max_log, largest}
use Rattle.ballot.specs.Ballot.{compare_of, same}
use Rattle.ballot.specs.declared.Ballot.{Ballot}
use Rattle.std.specs.declared.cmp.Ordering.{Ordering}
use Rattle.std.specs.declared.cmp.Ordering.TheVariants.{Less, Equal, Greater}
use Rattle.sequence.specs.Sequence.{status_of}
use Rattle.sequence.specs.declared.SequenceNumber.{SequenceNumber}
use Rattle.sequence.specs.declared.MessageStatus.{MessageStatus}
use Rattle.sequence.specs.declared.MessageStatus.TheVariants.{Expected, DroppedPreceding, Outdated}
use Rattle.leader_state.specs.declared.LogSync.{LogSync}
use Rattle.messages.specs.declared.AcceptSync.{AcceptSync}
use Rattle.messages.specs.declared.PaxosMsg.TheVariants as msg
use Rattle.paxos_box.specs.declared.SequencePaxos.{SequencePaxos}
use Rattle.paxos_box.specs.declared.AcceptedAt.{AcceptedAt}
use Rattle.paxos_box.specs.declared.LogOp.TheVariants.{PutGiven}
use Rattle.paxos_box.specs.declared.Sent.TheVariants.{Raise}
use Rattle.paxos_box.specs.declared.Source.TheVariants as source
use Rattle.paxos_box.specs.declared.Role.TheVariants.{Follower}
use Rattle.paxos_box.specs.declared.Phase.TheVariants as phase
use Rattle.paxos_box.specs.declared.Standing.{Standing}
use Rattle.paxos_box.specs.declared.Standing.TheVariants.{LeaderPrepare, LeaderAccept, FollowerPrepare, FollowerAccept, Other}
use Rattle.paxos_box.specs.Box.{unfit, at_top, push_of, next_place, with_state, set_decided, set_seq, set_cached, set_meta, is_accept_phase, standing_of}
use Rattle.sends.specs.Sends.{log_length, send_new}
use Rattle.log_plan.specs.Log.{sync_end, sync_unfit, sync_log, append_given, forward_buffered}
use Rattle.reconnect.specs.Reconnect.{reconnected_of}

-- The ballot is looked at before the state (R8.5). A lower one gets NotAccepted, a higher one `reconnected`; only an equal one goes on
abbrev pub not_accepted : Ballot → SequencePaxos → SequencePaxos
not_accepted n s = send_new n.pid (msg.NotAccepted (record { n = s.internal_storage.promise })) source.Nothing 0 s

abbrev pub by_ballot : Ordering → Ballot → SequencePaxos → SequencePaxos → SequencePaxos
by_ballot Equal n taken s = taken
by_ballot Greater n taken s = not_accepted n s
by_ballot Less n taken s = reconnected_of n.pid s

abbrev pub if_valid_ballot : Ballot → SequencePaxos → SequencePaxos → SequencePaxos
if_valid_ballot n taken s = by_ballot (compare_of s.internal_storage.promise n) n taken s

-- What a test lets through is taken, from the box as it was; else the box is what the test leaves, whatever would have been taken
abbrev pub Passes : Bool → (SequencePaxos → SequencePaxos) → SequencePaxos → SequencePaxos → Type 0
Passes passed tested old new = MatchBool passed ((new ≡ old) × ((taken : SequencePaxos) → tested taken ≡ taken)) ((taken : SequencePaxos) → tested taken ≡ new)

-- a new Accepted, remembered by its position (R7.8)
unfoldable pub send_accepted : Ballot → ℕ → ℕ → SequencePaxos → SequencePaxos
send_accepted n idx to s =
    send_new to (msg.Accepted (record { n = n; accepted_idx = idx })) source.Nothing 0
    (set_meta (Some (record { n = n; at = next_place s })) s)

-- AcceptSync needs (Follower, Prepare) (R8.6). The sync is put on, unless it is unfit; buffered proposals are forwarded, then the Accepted is sent and remembered
abbrev pub given_sync : AcceptSync → ℕ → LogSync
given_sync m count = record { sync_idx = m.sync_idx; len = count }

unfoldable pub acceptsync_put : AcceptSync → ℕ → SequencePaxos → SequencePaxos
acceptsync_put m count s =
    forward_buffered (sync_log m.n m.decided_idx (sync_end (given_sync m count)) (PutGiven (given_sync m count)) (set_cached None s))

unfoldable pub following : SequenceNumber → SequencePaxos → SequencePaxos
following q s = set_seq q (with_state (record { role = Follower; phase = phase.Accept }) s)

unfoldable pub acceptsync_taken : AcceptSync → ℕ → ℕ → SequencePaxos → SequencePaxos
acceptsync_taken m count from s =
    cond (sync_unfit (given_sync m count) s.plan.sight.brought_change m.decided_idx s) (unfit s)
    (send_accepted m.n (sync_end (given_sync m count)) from (following m.seq_num (acceptsync_put m count s)))

abbrev pub acceptsync_in : Standing → AcceptSync → ℕ → ℕ → SequencePaxos → SequencePaxos
acceptsync_in FollowerPrepare m count from s = acceptsync_taken m count from s
acceptsync_in FollowerAccept m count from s = s
acceptsync_in LeaderPrepare m count from s = s
acceptsync_in LeaderAccept m count from s = s
acceptsync_in Other m count from s = s

unfoldable pub handle_acceptsync : AcceptSync → ℕ → ℕ → SequencePaxos → SequencePaxos
handle_acceptsync m count from s =
    if_valid_ballot m.n (acceptsync_in (standing_of s.state.role s.state.phase) m count from s) s

-- The own counter at the top, where a message of the same session is to be compared with it, refuses with 7 (R2.7.3). Expected goes on, with that number as the own;
-- a dropped number gets `reconnected`, an outdated one nothing
unfoldable pub counter_at_top : SequenceNumber → SequencePaxos → Bool
counter_at_top q s = cond (eqb q.session s.current_seq_num.session) (eqb s.current_seq_num.counter largest) false

abbrev pub by_status : MessageStatus → ℕ → SequencePaxos → SequencePaxos → SequencePaxos
by_status Expected pid taken s = taken
by_status DroppedPreceding pid taken s = reconnected_of pid s
by_status Outdated pid taken s = s

abbrev pub if_expected : SequenceNumber → ℕ → SequencePaxos → SequencePaxos → SequencePaxos
if_expected q pid taken s = cond (counter_at_top q s) (at_top s) (by_status (status_of s.current_seq_num q) pid taken s)

-- the remembered Accepted, where it is of this ballot and an Accepted stands at its position
abbrev pub at_if_same : Ballot → Bool → AcceptedAt → Option AcceptedAt
at_if_same n on x = cond on (cond (same x.n n) (Some x) None) None

abbrev pub of_ballot : Ballot → Bool → Option AcceptedAt → Option AcceptedAt
of_ballot n on (Some x) = at_if_same n on x
of_ballot n on None = None

unfoldable pub latest_accepted : Ballot → SequencePaxos → Option AcceptedAt
latest_accepted n s = of_ballot n s.plan.sight.accepted s.latest_accepted_meta

-- it gets the new index, else a new Accepted goes to the ballot's pid
abbrev pub raise_accepted : Ballot → ℕ → ℕ → SequencePaxos → SequencePaxos
raise_accepted n at idx s = push_of (record { to = n.pid; what = Raise (record { at = at; accepted_idx = idx }); source = source.Nothing; count = 0 }) s

abbrev pub reply_by : Option AcceptedAt → Ballot → ℕ → SequencePaxos → SequencePaxos
reply_by (Some x) n idx s = raise_accepted n x.at idx s
reply_by None n idx s = send_accepted n idx n.pid s

unfoldable pub reply_accepted : Ballot → ℕ → SequencePaxos → SequencePaxos
reply_accepted n idx s = reply_by (latest_accepted n s) n idx s

-- a decided index is cut to the log length; it never falls (R6.4)
unfoldable pub update_decided : ℕ → SequencePaxos → SequencePaxos
update_decided idx s = cond (ltb s.internal_storage.decided_idx idx) (set_decided (min idx (log_length s)) s) s

-- AcceptDecide needs (Follower, Accept) and an Expected number (R8.8). One of no entries or one that would pass 512 is unfit
unfoldable pub acceptdecide_taken : Ballot → ℕ → ℕ → SequencePaxos → SequencePaxos
acceptdecide_taken n decided count s = reply_accepted n (log_length s + count) (update_decided decided (append_given count s))

unfoldable pub acceptdecide_fit : Ballot → SequenceNumber → ℕ → ℕ → SequencePaxos → SequencePaxos
acceptdecide_fit n q decided count s =
    cond (eqb count 0) (unfit s)
    (cond (ltb max_log (log_length s + count)) (unfit s)
    (acceptdecide_taken n decided count (set_seq q s)))

abbrev pub acceptdecide_expected : Ballot → SequenceNumber → ℕ → ℕ → SequencePaxos → SequencePaxos
acceptdecide_expected n q decided count s = if_expected q n.pid (acceptdecide_fit n q decided count s) s

abbrev pub acceptdecide_in : Standing → Ballot → SequenceNumber → ℕ → ℕ → SequencePaxos → SequencePaxos
acceptdecide_in FollowerAccept n q decided count s = acceptdecide_expected n q decided count s
acceptdecide_in FollowerPrepare n q decided count s = s
acceptdecide_in LeaderPrepare n q decided count s = s
acceptdecide_in LeaderAccept n q decided count s = s
acceptdecide_in Other n q decided count s = s

unfoldable pub handle_acceptdecide : Ballot → SequenceNumber → ℕ → ℕ → SequencePaxos → SequencePaxos
handle_acceptdecide n q decided count s =
    if_valid_ballot n (acceptdecide_in (standing_of s.state.role s.state.phase) n q decided count s) s

-- Decide needs only Phase::Accept and an Expected number (R8.9). Past the log it is cut, and answered with an Accepted of the log length
unfoldable pub decide_taken : Ballot → ℕ → SequencePaxos → SequencePaxos
decide_taken n decided s =
    cond (ltb (log_length s) decided) (reply_accepted n (log_length s) (update_decided decided s)) (update_decided decided s)

abbrev pub decide_expected : Ballot → SequenceNumber → ℕ → SequencePaxos → SequencePaxos
decide_expected n q decided s = if_expected q n.pid (decide_taken n decided (set_seq q s)) s

abbrev pub decide_in_accept : Ballot → SequenceNumber → ℕ → SequencePaxos → SequencePaxos
decide_in_accept n q decided s = cond (is_accept_phase s.state.phase) (decide_expected n q decided s) s

unfoldable pub handle_decide : Ballot → SequenceNumber → ℕ → SequencePaxos → SequencePaxos
handle_decide n q decided s = if_valid_ballot n (decide_in_accept n q decided s) s
