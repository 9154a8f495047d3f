-- A proposal, local or forwarded; an accepted index; a depot that has promised higher or asks to be prepared; a leader's resend.
use Rattle.std.specs.Prelude.{None, Some}
use Prim.Native.Nat.{ℕ, ◌+◌, ◌≤◌, ◌<◌}
use mathlib.Core.Path.{◌≡◌, refl, sym, ap, ◌∙◌, subst}
use mathlib.Core.Logic.{◌⊎◌, inl, inr, ◌≢◌}
use mathlib.Core.Bool.{Bool, true, false, cond}
use mathlib.Core.List.{List, [], ◌++◌, append-nil}
use native.Mathlib.Omega.{arith}
use lib.Dec.{ltb, leb}
use lib.ListN.{length, get_or, take, drop, length-append}
use lib.Seq.{take_all, drop-append_seam}
use borrow.Author.Tests.{ltb-false}
use Rattle.base.proofs.Tests.{not-both}
use Rattle.base.specs.Limits.{max_depots}
use Rattle.base.specs.Count.{count_below}
use Rattle.ballot.specs.Ballot.{above, same}
use Rattle.ballot.specs.declared.Ballot.{Ballot}
use Rattle.ballot.proofs.Laws.{same-eq}
use Rattle.quorum.specs.Quorum.{write_size}
use Rattle.quorum.specs.declared.Quorum.{Quorum}
use Rattle.quorum.specs.declared.Configuration.{Configuration}
use Rattle.leader_state.specs.declared.Depot.{Depot}
use Rattle.leader_state.specs.declared.LeaderState.{LeaderState}
use Rattle.leader_state.specs.declared.MaxPromise.{MaxPromise}
use Rattle.leader_state.specs.declared.PromiseState.TheVariants.{NotPromised, PromisedHigher}
use Rattle.leader_state.specs.State.{with_depot, set_promise_state, set_latest, set_accepted}
use Rattle.leader_state.specs.Places.{chosen, promised_followers, preparable_peers}
use Rattle.messages.specs.declared.PaxosMsg.TheVariants as msg
use Rattle.paxos_box.specs.declared.SequencePaxos.{SequencePaxos}
use Rattle.paxos_box.specs.declared.State.{State}
use Rattle.paxos_box.specs.declared.Sight.{Sight}
use Rattle.paxos_box.specs.declared.Source.TheVariants as source
use Rattle.paxos_box.specs.declared.Role.{Role}
use Rattle.paxos_box.specs.declared.Role.TheVariants.{Leader, Follower}
use Rattle.paxos_box.specs.declared.Phase.{Phase}
use Rattle.paxos_box.specs.declared.Phase.TheVariants as phase
use Rattle.paxos_box.specs.Box.{with_leader as withLeaderBox, unfit, is_leader, standing_of, set_decided}
use Rattle.record.specs.Record.{load_of}
use Rattle.sends.specs.declared.Each.TheVariants as each
use Rattle.sends.specs.Sends.{log_length, for_marked}
use Rattle.log_plan.specs.Log.{append_given, buffer_given, has_leader, push_forward, forward_proposals}
use Rattle.leader.specs.Leader.{own_accepted, accept_entries_leader, proposal_in, handle_forwarded_proposal, set_accepted_of, newly_chosen, decide_if_chosen, accepted_taken, accepted_in, handle_accepted, lost_promise, handle_not_accepted, prepare_again, handle_prepare_req, resend_messages_leader}
use Rattle.leader.specs.Leader as leader
use Rattle.outgoing.specs.Perform.{perform_all}
use Rattle.views.specs.View.{View, Counted}
use Rattle.decide_laws.proofs.Grown.{either}
use Rattle.agreement.specs.Core.{Sizes, Ghost}
use Rattle.agreement.specs.All.{All}
use Rattle.agreement.proofs.Update.{ballot-eq, depot-eq}
use Rattle.agreement.proofs.All.{all_append, all_take}
use Rattle.travels.specs.Face.{place, feeds_by, with_buffered}
use Rattle.travels.specs.Facts.{Reached, Leading}
use Rattle.travels.specs.Near.{Scene, Near, Well, Next}
use Rattle.travels.proofs.Moves.{stay}
use Rattle.travels.proofs.Reply.{rebuffered}
use Rattle.travels.proofs.Elect.{leads-in}
use Rattle.travels.proofs.Note.{t-less}
use Rattle.travels.proofs.Start.{Begun}
use Rattle.travels.proofs.Open.{Puts, puts-part}
use Rattle.travels.proofs.Feed.{grown_to, Grown, t-grown, t-decides, rewhole}
use Rattle.faces.specs.Mid.{face_of, mid_face, Clean, Ready}
use Rattle.faces.proofs.Push.{found-ready, face-found}
use Rattle.faces.proofs.Sends.{next-plain, prepares, each-prepare, found-well, ignored}
use Rattle.faces.proofs.Places.{puts_of, puts_then, puts-is, less-puts, write-quorum}
use Rattle.faces.proofs.Feeding.{whole_at, whole-else, whole-none, each-told}

pub state-is : (x : State) {r : Role} {p : Phase} → x.role ≡ r → x.phase ≡ p → x ≡ record { role = r; phase = p }
state-is x {r} e f = ap {B = State} (λ k. record { role = k; phase = x.phase }) e ∙ ap {B = State} (λ k. record { role = r; phase = k }) f

-- only the accepted index of b is changed, to k at most
pub begun-puts : {z : Sizes} {b k : ℕ} {d : Depot} {l l' : LeaderState} → Puts b d l l' → d.promise ≡ (place b l).promise → d.seq_num ≡ (place b l).seq_num → d.latest ≡ (place b l).latest → d.accepted_idx ≤ k → Begun z b k l l'
begun-puts p ep en el h =
    record {
      row = p.row;
      ballot = p.ballot;
      best = ap (λ (m : MaxPromise). m.meta) p.best;
      promise = λ t _. puts-part (λ (d : Depot). d.promise) p ep t;
      number = λ t _. puts-part (λ (d : Depot). d.seq_num) p en t;
      latest = λ t _. puts-part (λ (d : Depot). d.latest) p el t;
      own = omega (arith, ap (λ (d : Depot). d.accepted_idx) p.here);
      else = λ t _ ne. ap (λ (d : Depot). d.accepted_idx) (p.else t ne);
    }

module _ (quo : Quorum) (q₀ : ℕ) (sight : Sight) (es : List ℕ) (v : View) (cnt : Counted v) {z : Sizes} {P : ℕ → Type 0} {b : ℕ} {c : Scene} {g : Ghost ℕ} (few : z.depots ≤ max_depots) (bl : b < z.depots) (w : Well z P b c g (face_of v)) where
  abbrev conf : Configuration
  conf = record { depots = z.depots; pid = b + 1; quorum = quo }

  abbrev s : SequencePaxos
  s = load_of conf q₀ sight v.node

  abbrev l : LeaderState
  l = v.node.leader_state

  found : Well z P b c g (mid_face es v s)
  found = found-well conf q₀ sight es v cnt w

  ready : Ready 0 es v s
  ready = found-ready conf q₀ sight es v cnt

  rest : Next z P b c g (mid_face es v s)
  rest = ignored conf q₀ sight es v cnt w

  -- ---- a depot's promise is taken back
  module _ (f : ℕ) (fl : f < z.depots) where
    lost : is_leader v.node.state.role ≡ true → Next z P b c g (mid_face es v (lost_promise (f + 1) s))
    lost e =
        let p : Puts f (set_promise_state PromisedHigher (place f l)) l (with_depot (f + 1) (set_promise_state PromisedHigher) l) = puts_of f l w.node.row (omega arith) (set_promise_state PromisedHigher) in
        stay (t-less found (with_depot (f + 1) (set_promise_state PromisedHigher) l) e (less-puts p refl (inr refl) (inl refl)) (λ t _. inl (puts-part (λ (d : Depot). d.accepted_idx) p refl t)))

    pub h-not-accepted : (n : Ballot) → Next z P b c g (mid_face es v (handle_not_accepted n (f + 1) s))
    unfolding handle_not_accepted
    h-not-accepted n =
        either (λ (k : SequencePaxos). Next z P b c g (mid_face es v k)) (is_leader v.node.state.role) (cond (above n l.n_leader) (lost_promise (f + 1) s) s) s
        (λ e. either (λ (k : SequencePaxos). Next z P b c g (mid_face es v k)) (above n l.n_leader) (lost_promise (f + 1) s) s (λ _. lost e) (λ _. rest)) (λ _. rest)

    again : is_leader v.node.state.role ≡ true → Next z P b c g (mid_face es v (prepare_again (f + 1) s))
    unfolding prepare_again
    again e =
        let l₁ : LeaderState = with_depot (f + 1) (set_promise_state NotPromised) l in
        let l₂ : LeaderState = with_depot (f + 1) (set_latest None) l₁ in
        let p₁ : Puts f (set_promise_state NotPromised (place f l)) l l₁ = puts_of f l w.node.row (omega arith) (set_promise_state NotPromised) in
        let p : Puts f (set_latest None (set_promise_state NotPromised (place f l))) l l₂ = puts_then p₁ (puts-is (ap (set_latest None) p₁.here) (puts_of f l₁ p₁.row (omega arith) (set_latest None))) in
        prepares es v (f + 1) (withLeaderBox l₂ s) (record { things = ready.things; room = ready.room; queue = ready.queue }) (omega arith) e
        (stay (t-less found l₂ e (less-puts p refl (inr refl) (inr refl)) (λ t _. inl (puts-part (λ (d : Depot). d.accepted_idx) p refl t))))

    pub h-prepare-req : (n : Ballot) → Next z P b c g (mid_face es v (handle_prepare_req n (f + 1) s))
    unfolding handle_prepare_req
    h-prepare-req n =
        either (λ (k : SequencePaxos). Next z P b c g (mid_face es v k)) (is_leader v.node.state.role) (cond (above n l.n_leader) s (prepare_again (f + 1) s)) s
        (λ e. either (λ (k : SequencePaxos). Next z P b c g (mid_face es v k)) (above n l.n_leader) s (prepare_again (f + 1) s) (λ _. rest) (λ _. again e)) (λ _. rest)

  -- ---- a leader's resend
  prepare-all : is_leader v.node.state.role ≡ true → Next z P b c g (mid_face es v (for_marked (preparable_peers (b + 1) z.depots l) each.Prepare z.depots s))
  prepare-all e = (each-prepare es v (preparable_peers (b + 1) z.depots l) z.depots s (omega arith) (record { ready = ready; leads = e; next = rest })).next

  pub h-resend-leader : is_leader v.node.state.role ≡ true → Next z P b c g (mid_face es v (resend_messages_leader s))
  unfolding resend_messages_leader
  h-resend-leader e = by v.node.state.phase
    where
      by : (p : Phase) → Next z P b c g (mid_face es v (leader.resend_in p s))
      by phase.Prepare = prepare-all e
      by phase.Accept = prepare-all e
      by phase.Recover = rest
      by phase.None = rest

  -- ---- proposals
  module _ (pe : All P es) (sees : (t at : ℕ) → is_leader v.node.state.role ≡ true → t < z.depots → (place t l).latest ≡ Some at → get_or sight.accdec t false ≡ true) where
    buffers : Next z P b c g (mid_face es v (buffer_given (length es) s))
    unfolding buffer_given perform_all
    buffers =
        subst (Next z P b c g) (sym is) (stay (rebuffered w (all_append w.node.buffered (all_take (length es) pe))))
      where
        is : mid_face es v (buffer_given (length es) s) ≡ with_buffered (v.buffered ++ take (length es) es) (face_of v)
        is = ap (with_buffered (v.buffered ++ take (length es) es)) (face-found conf q₀ sight es v cnt)

    forwards : Next z P b c g (mid_face es v (forward_proposals (length es) s))
    unfolding forward_proposals
    forwards =
        either (λ (k : SequencePaxos). Next z P b c g (mid_face es v k)) (has_leader s) (push_forward source.Given (length es) s) (buffer_given (length es) s)
        (λ _. next-plain es v v.node.internal_storage.promise.pid msg.ProposalForward source.Given (length es) s ready (omega arith) rest (λ t e. all_take (length es) pe) (λ j. refl))
        (λ _. buffers)

    -- ---- in (Leader, Accept): the log gains them
    module _ (st : v.node.state ≡ record { role = Leader; phase = phase.Accept }) where
      abbrev k : ℕ
      k = v.node.internal_storage.accepted_idx + length es

      abbrev l' : LeaderState
      l' = with_depot (b + 1) (set_accepted k) l

      abbrev y : SequencePaxos
      y = own_accepted (append_given (length es) s)

      abbrev log : List ℕ
      log = (v.log ++ take (length es) es) ++ []

      log_is : log ≡ v.log ++ es
      log_is = append-nil (v.log ++ take (length es) es) ∙ ap (λ l. v.log ++ l) (take_all (length es) es (omega arith))

      p : Puts b (set_accepted k (place b l)) l l'
      p = puts_of b l w.node.row (omega arith) (set_accepted k)

      face-y : mid_face es v y ≡ grown_to log k l' (face_of v)
      unfolding append_given perform_all
      face-y = ap (grown_to log k l') (face-found conf q₀ sight es v cnt)

      ready-y : Ready 0 es v y
      unfolding append_given perform_all
      ready-y = record { things = ready.things; room = ready.room; queue = cnt.queue ∙ omega arith }

      grown : Grown z P b c g es v.node.internal_storage.promise (mid_face es v y)
      grown =
          subst (Grown z P b c g es v.node.internal_storage.promise) (sym face-y)
          (t-grown w st log_is pe (omega (arith, ap length log_is, length-append v.log es, cnt.log)) (begun-puts p refl refl refl (omega arith)))

      lead : Leading z g b v.node.internal_storage v.log l
      lead = leads-in w.node st

      more-entries : Clean (accept_entries_leader (length es) s) → Next z P b c g (mid_face es v (accept_entries_leader (length es) s))
      unfolding accept_entries_leader append_given
      more-entries q =
          record {
            ghost = grown.ghost;
            moved = grown.moved;
            well = each-told es v z few y st lead.own (g.G v.node.internal_storage.promise) es (sym grown.more) (each.AcceptDecide (log_length s) (length es)) carries
                (λ t at h e. sees t at (ap (λ (x : State). is_leader x.role) st) h (sym (puts-part (λ (d : Depot). d.latest) p refl t) ∙ e)) ready-y near q;
          }
        where
          carries : take (length es) (drop (log_length s) log) ≡ es
          carries = rw (← cnt.log, log_is, drop-append_seam v.log es) (take_all (length es) es (omega arith))

          near : Near z P b c grown.ghost (whole_at grown.ghost v.node.internal_storage.promise (g.G v.node.internal_storage.promise) l' 0) (λ m u. feeds_by m u v.node.state l') (mid_face es v y)
          near = rewhole (whole_at grown.ghost v.node.internal_storage.promise (g.G v.node.internal_storage.promise) l' 0) (λ m u lu ne. inl (by m u (ballot-eq m v.node.internal_storage.promise))) grown.near
            where
              by : (m : Ballot) (u : ℕ) → (m ≡ v.node.internal_storage.promise) ⊎ (m ≢ v.node.internal_storage.promise)
                  → whole_at grown.ghost v.node.internal_storage.promise (g.G v.node.internal_storage.promise) l' 0 m u ≡ g.G m
              by m u (inr e) = whole-else grown.ghost v.node.internal_storage.promise (g.G v.node.internal_storage.promise) l' 0 u m e ∙ grown.else m e
              by m u (inl e) = subst (λ j. whole_at grown.ghost v.node.internal_storage.promise (g.G v.node.internal_storage.promise) l' 0 j u ≡ g.G j) (sym e) (whole-none grown.ghost v.node.internal_storage.promise (g.G v.node.internal_storage.promise) l' u)

    pub h-proposal : Clean (handle_forwarded_proposal (length es) s) → Next z P b c g (mid_face es v (handle_forwarded_proposal (length es) s))
    unfolding handle_forwarded_proposal
    h-proposal = by v.node.state.role v.node.state.phase refl refl
      where
        by : (r : Role) (p : Phase) → v.node.state.role ≡ r → v.node.state.phase ≡ p → Clean (proposal_in (standing_of r p) (length es) s) → Next z P b c g (mid_face es v (proposal_in (standing_of r p) (length es) s))
        by Leader phase.Prepare e f q = buffers
        by Leader phase.Accept e f q = more-entries (state-is v.node.state e f) q
        by Leader phase.Recover e f q = forwards
        by Leader phase.None e f q = forwards
        by Follower phase.Prepare e f q = forwards
        by Follower phase.Accept e f q = forwards
        by Follower phase.Recover e f q = forwards
        by Follower phase.None e f q = forwards

  -- ---- an accepted index
  module _ (ws : write_size quo ≡ z.write) (sees : (t at : ℕ) → is_leader v.node.state.role ≡ true → t < z.depots → (place t l).latest ≡ Some at → get_or sight.accdec t false ≡ true)
      (n : Ballot) (idx f : ℕ) (fl : f < z.depots) (ok : Reached g f n idx) where
    module _ (en : n ≡ l.n_leader) (st : v.node.state ≡ record { role = Leader; phase = phase.Accept }) where
      abbrev noted : SequencePaxos
      noted = set_accepted_of (f + 1) idx s

      abbrev ln : LeaderState
      ln = with_depot (f + 1) (set_accepted idx) l

      lead_n : Leading z g b v.node.internal_storage v.log l
      lead_n = leads-in w.node st

      leads : is_leader v.node.state.role ≡ true
      leads = ap (λ (x : State). is_leader x.role) st

      pn : Puts f (set_accepted idx (place f l)) l ln
      pn = puts_of f l w.node.row (omega arith) (set_accepted idx)

      noted-well : Well z P b c g (mid_face es v noted)
      noted-well = t-less found ln leads (less-puts pn refl (inl refl) (inl refl)) (λ t _. at t (depot-eq t f))
        where
          at : (t : ℕ) → (t ≡ f) ⊎ (t ≢ f) → ((place t ln).accepted_idx ≡ (place t l).accepted_idx) ⊎ Reached g t v.node.internal_storage.promise (place t ln).accepted_idx
          at t (inl e) = inr (rw (e, ap (λ (d : Depot). d.accepted_idx) pn.here, ← lead_n.now, ← en) ok)
          at t (inr e) = inl (ap (λ (d : Depot). d.accepted_idx) (pn.else t e))

      -- chosen: the decided index rises, and each promised follower is told
      told-all : idx ≤ v.node.internal_storage.accepted_idx → chosen idx conf ln ≡ true → Clean (for_marked (promised_followers z.depots ln) each.Decide z.depots (set_decided idx noted))
          → Next z P b c g (mid_face es v (for_marked (promised_followers z.depots ln) each.Decide z.depots (set_decided idx noted)))
      told-all h ch q =
          stay (each-told es v z few (set_decided idx noted) st lead_n.own (g.G v.node.internal_storage.promise) [] (append-nil (g.G v.node.internal_storage.promise)) each.Decide refl
          (λ t at lt e. sees t at leads lt (sym (puts-part (λ (d : Depot). d.latest) pn refl t) ∙ e)) (record { things = ready.things; room = ready.room; queue = ready.queue }) near q)
        where
          dec : Well z P b c g (mid_face es v (set_decided idx noted))
          dec = t-decides noted-well st (omega (arith, h, noted-well.node.own.length)) (subst (λ k. k ≤ count_below (λ t. leb idx (place t ln).accepted_idx) z.depots) ws (write-quorum idx conf ln pn.row few ch))

          near : Near z P b c g (whole_at g v.node.internal_storage.promise (g.G v.node.internal_storage.promise) ln 0) (λ m u. feeds_by m u v.node.state ln) (mid_face es v (set_decided idx noted))
          near = rewhole (whole_at g v.node.internal_storage.promise (g.G v.node.internal_storage.promise) ln 0) (λ m u lu ne. inl (by m u (ballot-eq m v.node.internal_storage.promise))) dec
            where
              by : (m : Ballot) (u : ℕ) → (m ≡ v.node.internal_storage.promise) ⊎ (m ≢ v.node.internal_storage.promise) → whole_at g v.node.internal_storage.promise (g.G v.node.internal_storage.promise) ln 0 m u ≡ g.G m
              by m u (inr e) = whole-else g v.node.internal_storage.promise (g.G v.node.internal_storage.promise) ln 0 u m e
              by m u (inl e) = subst (λ j. whole_at g v.node.internal_storage.promise (g.G v.node.internal_storage.promise) ln 0 j u ≡ g.G j) (sym e) (whole-none g v.node.internal_storage.promise (g.G v.node.internal_storage.promise) ln u)

      accepted : Clean (accepted_taken idx (f + 1) s) → Next z P b c g (mid_face es v (accepted_taken idx (f + 1) s))
      unfolding accepted_taken decide_if_chosen newly_chosen
      accepted =
          either (λ (y : SequencePaxos). Clean y → Next z P b c g (mid_face es v y)) (ltb (log_length s) idx) (unfit s) (decide_if_chosen idx noted) (λ _ q. absurd (not-both refl q.fit))
          (λ e. decides (omega (arith, ltb-false (log_length s) idx e)) (ltb v.node.internal_storage.decided_idx idx))
        where
          decides : idx ≤ v.node.internal_storage.accepted_idx → (t : Bool)
              → Clean (cond (cond t (chosen idx conf ln) false) (for_marked (promised_followers z.depots ln) each.Decide z.depots (set_decided idx noted)) noted)
              → Next z P b c g (mid_face es v (cond (cond t (chosen idx conf ln) false) (for_marked (promised_followers z.depots ln) each.Decide z.depots (set_decided idx noted)) noted))
          decides h false q = stay noted-well
          decides h true q =
              either (λ (y : SequencePaxos). Clean y → Next z P b c g (mid_face es v y)) (chosen idx conf ln) (for_marked (promised_followers z.depots ln) each.Decide z.depots (set_decided idx noted)) noted
              (λ e. told-all h e) (λ _ _. stay noted-well) q

    pub h-accepted : Clean (handle_accepted n idx (f + 1) s) → Next z P b c g (mid_face es v (handle_accepted n idx (f + 1) s))
    unfolding handle_accepted
    h-accepted =
        either (λ (y : SequencePaxos). Clean y → Next z P b c g (mid_face es v y)) (same n l.n_leader) (accepted_in (standing_of v.node.state.role v.node.state.phase) idx (f + 1) s) s
        (λ e. by (same-eq n l.n_leader e) v.node.state.role v.node.state.phase refl refl) (λ _ _. rest)
      where
        by : n ≡ l.n_leader → (r : Role) (p : Phase) → v.node.state.role ≡ r → v.node.state.phase ≡ p → Clean (accepted_in (standing_of r p) idx (f + 1) s) → Next z P b c g (mid_face es v (accepted_in (standing_of r p) idx (f + 1) s))
        by en Leader phase.Prepare e h q = rest
        by en Leader phase.Accept e h q = accepted en (state-is v.node.state e h) q
        by en Leader phase.Recover e h q = rest
        by en Leader phase.None e h q = rest
        by en Follower phase.Prepare e h q = rest
        by en Follower phase.Accept e h q = rest
        by en Follower phase.Recover e h q = rest
        by en Follower phase.None e h q = rest
