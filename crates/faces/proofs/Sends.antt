-- What is sent without a number: requests, refusals, Prepares and forwards.
use Rattle.std.specs.Prelude.{None}
use Prim.Native.Nat.{ℕ, zero, suc, ◌+◌, ◌≤◌, ◌<◌}
use mathlib.Core.Path.{◌≡◌, refl, sym, subst}
use mathlib.Core.Bool.{Bool, true, false}
use mathlib.Core.List.{List}
use native.Mathlib.Omega.{arith}
use native.Mathlib.Numerals.{add-one}
use lib.Dec.{eqb}
use lib.ListN.{get_or}
use Rattle.ballot.specs.declared.Ballot.{Ballot}
use Rattle.messages.specs.declared.PaxosMsg.{PaxosMsg}
use Rattle.messages.specs.declared.PaxosMsg.TheVariants as msg
use Rattle.paxos_box.specs.declared.SequencePaxos.{SequencePaxos}
use Rattle.paxos_box.specs.declared.Source.{Source}
use Rattle.paxos_box.specs.declared.Source.TheVariants as source
use Rattle.paxos_box.specs.Box.{push_of, is_leader, set_buffered}
use Rattle.sends.specs.declared.Each.TheVariants as each
use Rattle.sends.specs.Sends.{send_new, send_prepare, send_prepare_req, turn_of, for_marked}
use Rattle.log_plan.specs.Log.{push_forward}
use Rattle.reconnect.specs.Reconnect.{recovering, left_leader, reconnected_of}
use Rattle.accepting.specs.Accepting.{not_accepted}
use Rattle.quorum.specs.declared.Configuration.{Configuration}
use Rattle.paxos_box.specs.declared.Sight.{Sight}
use Rattle.record.specs.Record.{load_of}
use Rattle.views.specs.View.{View, Counted}
use Rattle.decide_laws.proofs.Grown.{either}
use Rattle.agreement.specs.Core.{Sizes, Ghost}
use Rattle.agreement.specs.All.{All, nil}
use Rattle.agreement.specs.Stream.{plain}
use Rattle.agreement.proofs.All.{all_take}
use Rattle.travels.specs.Face.{item}
use Rattle.travels.specs.Facts.{Ok}
use Rattle.travels.specs.Near.{Scene, Well, Next}
use Rattle.travels.proofs.Queues.{pushed}
use Rattle.travels.proofs.Moves.{stay}
use Rattle.travels.proofs.Reply.{rebuffered, t-recovers}
use Rattle.travels.proofs.Elect.{asks-now}
use Rattle.faces.specs.Mid.{face_of, mid_face, Ready}
use Rattle.faces.proofs.Push.{new_msg, face-new, ready-push, face-found}

-- the one that recovers has planned no more
left-ready : (es : List ℕ) (v : View) (pid : ℕ) (s : SequencePaxos) → Ready 0 es v s → Ready 0 es v (left_leader pid s)
unfolding left_leader
left-ready es v pid s r = either (Ready 0 es v) (eqb pid s.internal_storage.promise.pid) (recovering s) s (λ e. record { things = r.things; room = r.room; queue = r.queue }) (λ e. r)

-- in the midst of what is sent to each: so many planned, a leader or not, and all is well
pub record Turn (es : List ℕ) (v : View) (z : Sizes) (P : ℕ → Type 0) (b : ℕ) (c : Scene) (g : Ghost ℕ) (k : ℕ) (role : Bool) (s : SequencePaxos) : Type 0 where
  pub ready : Ready k es v s
  pub leads : is_leader s.state.role ≡ role
  pub next : Next z P b c g (mid_face es v s)

module _ (es : List ℕ) (v : View) {z : Sizes} {P : ℕ → Type 0} {b : ℕ} {c : Scene} {g : Ghost ℕ} where
  -- a message without a number, after whatever was done before
  pub next-plain : {k : ℕ} (to : ℕ) (m : PaxosMsg) (src : Source) (count : ℕ) (s : SequencePaxos) → Ready k es v s → k < 8 → (n : Next z P b c g (mid_face es v s))
      → ((t : ℕ) → to ≡ t + 1 → Ok z P n.ghost b t (new_msg es v to m src count s)) → ((j : Ballot) → item j (new_msg es v to m src count s) ≡ plain)
      → Next z P b c g (mid_face es v (send_new to m src count s))
  next-plain to m src count s r h n ok p =
      subst (Next z P b c g) (sym (face-new es v to m src count s r h)) (record { ghost = n.ghost; moved = n.moved; well = pushed (new_msg es v to m src count s) ok p n.well })

  requests : {k : ℕ} (to : ℕ) (s : SequencePaxos) → Ready k es v s → k < 8 → Next z P b c g (mid_face es v s) → Next z P b c g (mid_face es v (send_prepare_req to s))
  unfolding send_prepare_req
  requests to s r h n = next-plain to (msg.PrepareReq (record { n = s.internal_storage.promise })) source.Nothing 0 s r h n (λ t e. tt) (λ j. refl)

  pub refuses : {k : ℕ} (n : Ballot) (s : SequencePaxos) → Ready k es v s → k < 8 → Next z P b c g (mid_face es v s) → Next z P b c g (mid_face es v (not_accepted n s))
  refuses n s r h w = next-plain n.pid (msg.NotAccepted (record { n = s.internal_storage.promise })) source.Nothing 0 s r h w (λ t e. tt) (λ j. refl)

  -- a leader's Prepare
  pub prepares : {k : ℕ} (to : ℕ) (s : SequencePaxos) → Ready k es v s → k < 8 → is_leader s.state.role ≡ true → Next z P b c g (mid_face es v s) → Next z P b c g (mid_face es v (send_prepare to s))
  unfolding send_prepare
  prepares to s r h l n = next-plain to _ source.Nothing 0 s r h n (λ t e. asks-now n.well l) (λ j. refl)

  -- reconnected
  left : (pid : ℕ) (s : SequencePaxos) → Well z P b c g (mid_face es v s) → Next z P b c g (mid_face es v (left_leader pid s))
  unfolding left_leader
  left pid s w = either (λ (y : SequencePaxos). Next z P b c g (mid_face es v y)) (eqb pid s.internal_storage.promise.pid) (recovering s) s (λ e. t-recovers w) (λ e. stay w)

  pub reconnects : (pid : ℕ) (s : SequencePaxos) → Ready 0 es v s → Well z P b c g (mid_face es v s) → Next z P b c g (mid_face es v (reconnected_of pid s))
  unfolding reconnected_of
  reconnects pid s r w =
      either (λ (y : SequencePaxos). Next z P b c g (mid_face es v y)) (eqb pid s.config.pid) s (send_prepare_req pid (left_leader pid s)) (λ e. stay w)
      (λ e. requests pid (left_leader pid s) (left-ready es v pid s r) (omega arith) (left pid s w))

  -- ---- to each that is marked

  turn_on : {k : ℕ} {role : Bool} {s : SequencePaxos} → Turn es v z P b c g k role s → Turn es v z P b c g (suc k) role s
  turn_on t = record { ready = record { things = omega (arith, t.ready.things); room = t.ready.room; queue = t.ready.queue }; leads = t.leads; next = t.next }

  prepare-turn : {k : ℕ} (to : ℕ) (s : SequencePaxos) → k < 8 → Turn es v z P b c g k true s → Turn es v z P b c g (suc k) true (send_prepare to s)
  unfolding send_prepare push_of
  prepare-turn {k} to s h t = record { ready = subst (λ j. Ready j es v (send_prepare to s)) (add-one k) (ready-push es v _ s t.ready h); leads = t.leads; next = prepares to s t.ready h t.leads t.next }

  request-turn : {k : ℕ} {role : Bool} (to : ℕ) (s : SequencePaxos) → k < 8 → Turn es v z P b c g k role s → Turn es v z P b c g (suc k) role (send_prepare_req to s)
  unfolding send_prepare_req push_of
  request-turn {k} to s h t = record { ready = subst (λ j. Ready j es v (send_prepare_req to s)) (add-one k) (ready-push es v _ s t.ready h); leads = t.leads; next = requests to s t.ready h t.next }

  prepare-step : (marked : List Bool) (i : ℕ) (s : SequencePaxos) → i < 8 → Turn es v z P b c g i true (for_marked marked each.Prepare i s) → Turn es v z P b c g (suc i) true (turn_of each.Prepare (get_or marked i false) (suc i) (for_marked marked each.Prepare i s))
  prepare-step marked i s h t =
      either (λ (y : SequencePaxos). Turn es v z P b c g (suc i) true y) (get_or marked i false) (send_prepare (suc i) (for_marked marked each.Prepare i s)) (for_marked marked each.Prepare i s)
      (λ _. prepare-turn (suc i) (for_marked marked each.Prepare i s) h t) (λ _. turn_on t)

  request-step : {role : Bool} (marked : List Bool) (i : ℕ) (s : SequencePaxos) → i < 8 → Turn es v z P b c g i role (for_marked marked each.PrepareReq i s) → Turn es v z P b c g (suc i) role (turn_of each.PrepareReq (get_or marked i false) (suc i) (for_marked marked each.PrepareReq i s))
  request-step {role} marked i s h t =
      either (λ (y : SequencePaxos). Turn es v z P b c g (suc i) role y) (get_or marked i false) (send_prepare_req (suc i) (for_marked marked each.PrepareReq i s)) (for_marked marked each.PrepareReq i s)
      (λ _. request-turn (suc i) (for_marked marked each.PrepareReq i s) h t) (λ _. turn_on t)

  pub each-prepare : (marked : List Bool) (n : ℕ) (s : SequencePaxos) → n ≤ 8 → Turn es v z P b c g 0 true s → Turn es v z P b c g n true (for_marked marked each.Prepare n s)
  unfolding for_marked
  each-prepare marked zero s h t = t
  each-prepare marked (suc i) s h t = prepare-step marked i s (omega arith) (each-prepare marked i s (omega arith) t)

  pub each-request : {role : Bool} (marked : List Bool) (n : ℕ) (s : SequencePaxos) → n ≤ 8 → Turn es v z P b c g 0 role s → Turn es v z P b c g n role (for_marked marked each.PrepareReq n s)
  unfolding for_marked
  each-request marked zero s h t = t
  each-request marked (suc i) s h t = request-step marked i s (omega arith) (each-request marked i s (omega arith) t)

  -- ---- buffered proposals are forwarded
  pub forwards : {k : ℕ} (s : SequencePaxos) → Ready k es v s → k < 8 → s.plan.writes.buffer ≡ None → All P v.buffered → Next z P b c g (mid_face es v s)
      → Next z P b c g (mid_face es v (push_forward source.Buffered s.buffered_proposals (set_buffered 0 s)))
  forwards s r h e a n =
      next-plain s.internal_storage.promise.pid msg.ProposalForward source.Buffered s.buffered_proposals (set_buffered 0 s) (record { things = r.things; room = r.room; queue = r.queue }) h empty
      (λ t q. all_take s.buffered_proposals a) (λ j. refl)
    where
      empty : Next z P b c g (mid_face es v (set_buffered 0 s))
      empty = record { ghost = n.ghost; moved = n.moved; well = rw e (rebuffered n.well nil) }

-- ---- the box as found
module _ (conf : Configuration) (n : ℕ) (sight : Sight) (es : List ℕ) (v : View) (k : Counted v) {z : Sizes} {P : ℕ → Type 0} {b : ℕ} {c : Scene} {g : Ghost ℕ} (w : Well z P b c g (face_of v)) where
  pub found-well : Well z P b c g (mid_face es v (load_of conf n sight v.node))
  found-well = subst (Well z P b c g) (sym (face-found conf n sight es v k)) w

  -- a message or an event that the rules ignore
  pub ignored : Next z P b c g (mid_face es v (load_of conf n sight v.node))
  ignored = stay found-well
