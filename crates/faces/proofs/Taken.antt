-- Every event that a depot takes, but a drain and a restart: all is well after it.
use Rattle.std.specs.Prelude.{Option, None, Some}
use Prim.Native.Nat.{ℕ, ◌+◌, ◌≤◌, ◌<◌}
use mathlib.Core.Path.{◌≡◌, refl, sym, ap, ◌∙◌, subst}
use mathlib.Core.Logic.{◌≢◌}
use mathlib.Core.Bool.{true, false, cond, ◌&&◌}
use mathlib.Core.List.{List, ◌∷◌, map}
use native.Mathlib.Omega.{arith}
use lib.ListN.{length, get_or}
use lib.Seq.{take_all}
use borrow.Author.Tests.{lt-ltb}
use Rattle.base.specs.Limits.{max_depots}
use Rattle.base.proofs.Tests.{passed}
use Rattle.base.proofs.Lists.{get_d_tabulate}
use Rattle.ballot.specs.declared.Ballot.{Ballot}
use Rattle.ballot.proofs.Laws.{same_refl as same_self}
use Rattle.quorum.specs.Quorum.{read_size, write_size}
use Rattle.quorum.specs.declared.Quorum.{Quorum}
use Rattle.quorum.specs.declared.Configuration.{Configuration}
use Rattle.leader_state.specs.declared.Depot.{Depot}
use Rattle.leader_state.specs.State.{depot_of}
use Rattle.messages.specs.declared.Event.{Event}
use Rattle.messages.specs.declared.Event.TheVariants as event
use Rattle.messages.specs.declared.PaxosMsg.{PaxosMsg}
use Rattle.messages.specs.declared.PaxosMsg.TheVariants as msg
use Rattle.messages.specs.Messages.{is_accept_decide}
use Rattle.paxos_box.specs.declared.SequencePaxos.{SequencePaxos}
use Rattle.paxos_box.specs.declared.Role.{Role}
use Rattle.paxos_box.specs.declared.Role.TheVariants.{Leader, Follower}
use Rattle.paxos_box.specs.Box.{is_leader}
use Rattle.follower.specs.Follower.{count_of}
use Rattle.outcome.specs.Outcome.{outcome_refusal}
use Rattle.sequence_paxos.specs.Decide.{report_of, brought_by, handle, resend_by, taken}
use Rattle.record.specs.Record.{load_of}
use Rattle.outgoing.specs.Queue.{Msg, entries_in}
use Rattle.refusals.proofs.Taken.{Sender, MessageFit}
use Rattle.views.specs.View.{View, held_entries, accdec_there, msg_at, sight_view, box_view, Counted}
use Rattle.agreement.specs.Order.{Below, leader_of}
use Rattle.agreement.specs.Core.{Sizes, Ghost}
use Rattle.agreement.specs.Report.{from, Answer}
use Rattle.agreement.specs.All.{All}
use Rattle.agreement.specs.Stream.{Flow}
use Rattle.travels.specs.Face.{place, item, sync_of, sync_in, taker, takes_in, feeder, feeds_in}
use Rattle.travels.specs.Facts.{MsgOk, Standing}
use Rattle.travels.specs.Near.{Scene, Well, Next}
use Rattle.travels.proofs.Books.{leader-is}
use Rattle.faces.specs.Mid.{face_of, mid_face, Clean}
use Rattle.faces.proofs.Push.{found-ready}
use Rattle.faces.proofs.Sends.{reconnects, found-well}
use Rattle.faces.proofs.Prepare.{h-prepare}
use Rattle.faces.proofs.Accept.{h-acceptsync, h-acceptdecide, h-decide}
use Rattle.faces.proofs.Places.{pid-place}
use Rattle.faces.proofs.Elected.{h-leader}
use Rattle.faces.proofs.Proposal.{h-not-accepted, h-prepare-req, h-resend-leader, h-proposal, h-accepted}
use Rattle.faces.proofs.Promise.{h-promise}
use Rattle.faces.proofs.Resend.{h-resend-follower}

-- a step that is taken met neither 4 nor 7
pub clean_of : (s : SequencePaxos) → outcome_refusal s ≡ 0 → Clean s
unfolding outcome_refusal
clean_of s e =
    let a = passed s.plan.unfit 4 _ (omega arith) e in
    let c = passed s.plan.top 7 _ (omega arith) a.1 in
    record { fit = a.0; low = c.0 }

-- the sync that a Promise brings, with its entries
brought-full : (x : Option ℕ) (es : List ℕ) → count_of (brought_by x (length es)) ≤ length es
brought-full None es = omega arith
brought-full (Some i) es = omega arith

brought-is : (x : Option ℕ) (es : List ℕ) → sync_of (brought_by x (length es)) (held_entries (brought_by x (length es)) es) ≡ sync_in x es
brought-is None es = refl
brought-is (Some i) es = ap (from i) (take_all (length es) es (omega arith))

module _ (quo : Quorum) (e : Event) (es : List ℕ) (v : View) (cnt : Counted v) {z : Sizes} {P : ℕ → Type 0} {b : ℕ} {c : Scene} {g : Ghost ℕ} (few : z.depots ≤ max_depots) (bl : b < z.depots) (rs : read_size quo ≡ z.read) (ws : write_size quo ≡ z.write)
    (w : Well z P b c g (face_of v)) where
  abbrev conf : Configuration
  conf = record { depots = z.depots; pid = b + 1; quorum = quo }

  -- what a leader remembers is seen
  sees : (t at : ℕ) → is_leader v.node.state.role ≡ true → t < z.depots → (place t v.node.leader_state).latest ≡ Some at → get_or (sight_view conf e es v).accdec t false ≡ true
  unfolding sight_view
  sees t at l u q =
      get_d_tabulate max_depots _ t false (omega arith)
      ∙ ap (λ x. cond x (accdec_there v.queue (depot_of (t + 1) v.node.leader_state).latest) false) (lt-ltb t z.depots u)
      ∙ ap (λ (x : Option ℕ). accdec_there v.queue x) (ap (λ (d : Depot). d.latest) (pid-place t v.node.leader_state) ∙ q)
      ∙ there ((w.node.remembers l t u).stands at q)
    where
      there : Standing v.node.leader_state.n_leader t (place t v.node.leader_state) at v.queue → accdec_there v.queue (Some at) ≡ true
      there s = ap (λ x. x && is_accept_decide (msg_at v.queue at)) (lt-ltb at (length v.queue) s.there.below) ∙ ap (λ (m : Msg). is_accept_decide m.msg) s.there.is

  abbrev Goal : SequencePaxos → Type 0
  Goal s = Next z P b c g (mid_face es v s)

  -- ---- a message from depot f
  module _ (f : ℕ) (who : Sender conf (f + 1)) where
    fl : f < z.depots
    fl = omega (arith, who.depot.1)

    fne : f ≢ b
    fne q = who.other (ap (λ k. k + 1) q)

    pub took-message : (to : ℕ) (p : PaxosMsg) → MessageFit conf (f + 1) p es → MsgOk z P g f b p es
        → ((n : Ballot) → leader_of n ≡ f → Flow (g.G n) (g.A b n) (item n (record { to = to; msg = p; entries = es }) ∷ map (item n) (c.inn (leader_of n))) (taker n (face_of v) (length v.log)) (feeder (feeds_in n b (c.others (leader_of n))) n b (c.others (leader_of n))))
        → Clean (handle p (length es) (f + 1) (box_view conf e es v)) → Goal (handle p (length es) (f + 1) (box_view conf e es v))
    unfolding box_view
    took-message to (msg.PrepareReq m) fit ok fr k = h-prepare-req quo _ (sight_view conf e es v) es v cnt few bl w f fl m.n
    took-message to (msg.Prepare m) fit ok fr k = h-prepare conf _ (sight_view conf e es v) es v cnt w m (f + 1) ok k
    took-message to (msg.Promise m) fit ok fr k =
        h-promise quo _ (sight_view conf e es v) es v cnt few bl rs w f fl m.n (report_of m (f + 1)) refl (brought_by m.log_sync (length es)) (brought-full m.log_sync es)
        (subst (λ x. Answer z g m.n f m.n_accepted m.accepted_idx m.decided_idx x) (sym (brought-is m.log_sync es)) ok) k
    took-message to (msg.AcceptSync m) fit ok fr k =
        h-acceptsync conf _ (sight_view conf e es v) es v cnt w m.n (sym fit.0.sender) fne fl m.seq_num m.decided_idx m.sync_idx (f + 1) fit.0.sender ok
        (rw (same_self m.n) at (fr m.n (leader-is m.n (sym fit.0.sender)))) k
    took-message to (msg.AcceptDecide m) fit ok fr k =
        h-acceptdecide conf _ (sight_view conf e es v) es v cnt w m.n (sym fit.0.sender) fne fl m.seq_num m.decided_idx ok
        (rw (same_self m.n) at (fr m.n (leader-is m.n (sym fit.0.sender)))) k
    took-message to (msg.Accepted m) fit ok fr k = h-accepted quo _ (sight_view conf e es v) es v cnt few bl w ws sees m.n m.accepted_idx f fl ok k
    took-message to (msg.NotAccepted m) fit ok fr k = h-not-accepted quo _ (sight_view conf e es v) es v cnt few bl w f fl m.n
    took-message to (msg.Decide m) fit ok fr k =
        h-decide conf _ (sight_view conf e es v) es v cnt w m.n (sym fit.sender) fne fl m.seq_num m.decided_idx ok
        (rw (same_self m.n) at (fr m.n (leader-is m.n (sym fit.sender)))) k
    took-message to msg.ProposalForward fit ok fr k = h-proposal quo _ (sight_view conf e es v) es v cnt few bl w ok sees k

  -- ---- the other events
  pub took-proposal : All P es → Clean (taken event.Propose (length es) (box_view conf e es v)) → Goal (taken event.Propose (length es) (box_view conf e es v))
  unfolding box_view
  took-proposal pe k = h-proposal quo _ (sight_view conf e es v) es v cnt few bl w pe sees k

  pub took-leader : (n : Ballot) → ((t : ℕ) → Below v.node.internal_storage.promise n → n.pid ≡ b + 1 → t < z.depots → t ≢ b → takes_in n (c.others t) ≡ false) → Goal (taken (event.Leader n) (length es) (box_view conf e es v))
  unfolding box_view
  took-leader n idle = h-leader quo _ (sight_view conf e es v) es v cnt few bl w n idle

  pub took-reconnect : (pid : ℕ) → Goal (taken (event.Reconnect pid) (length es) (box_view conf e es v))
  unfolding box_view
  took-reconnect pid =
      reconnects es v pid (load_of conf (length (entries_in v.queue)) (sight_view conf e es v) v.node) (found-ready conf (length (entries_in v.queue)) (sight_view conf e es v) es v cnt) (found-well conf (length (entries_in v.queue)) (sight_view conf e es v) es v cnt w)

  leads : is_leader v.node.state.role ≡ true → Goal (resend_by Leader (box_view conf e es v))
  unfolding box_view
  leads q = h-resend-leader quo _ (sight_view conf e es v) es v cnt few bl w q

  follows : Goal (resend_by Follower (box_view conf e es v))
  unfolding box_view
  follows = h-resend-follower conf _ (sight_view conf e es v) es v cnt few w

  by-role : (r : Role) → v.node.state.role ≡ r → Goal (resend_by r (box_view conf e es v))
  by-role Leader q = leads (ap is_leader q)
  by-role Follower q = follows

  pub took-resend : Goal (taken event.Resend (length es) (box_view conf e es v))
  unfolding box_view
  took-resend = by-role v.node.state.role refl
