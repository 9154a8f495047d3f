-- AcceptSync, AcceptDecide and Decide at a follower.
use Rattle.std.specs.Prelude.{None}
use Prim.Native.Nat.{ℕ, suc, ◌+◌, ◌<◌, min, max}
use mathlib.Core.Path.{◌≡◌, refl, sym, ap, ◌∙◌, subst}
use mathlib.Core.Logic.{◌⊎◌, inl, inr, ◌≢◌}
use mathlib.Core.Bool.{Bool, true, false, cond, ◌&&◌}
use mathlib.Core.List.{List, [], ◌∷◌, ◌++◌, map, append-nil}
use native.Mathlib.Omega.{arith}
use native.Mathlib.Numerals.{add-one}
use lib.Dec.{ltb, eqb}
use lib.ListN.{length, take, length-append}
use lib.Seq.{take_all}
use borrow.Author.Tests.{eqb-true}
use Rattle.base.proofs.Tests.{not-both}
use Rattle.base.specs.Limits.{max_log}
use Rattle.ballot.specs.declared.Ballot.{Ballot}
use Rattle.sequence.specs.Sequence.{status_of, one_higher, not_above}
use Rattle.sequence.specs.declared.SequenceNumber.{SequenceNumber}
use Rattle.sequence.specs.declared.MessageStatus.{MessageStatus}
use Rattle.sequence.specs.declared.MessageStatus.TheVariants.{Expected, DroppedPreceding, Outdated}
use Rattle.quorum.specs.declared.Configuration.{Configuration}
use Rattle.messages.specs.declared.AcceptSync.{AcceptSync}
use Rattle.paxos_box.specs.declared.SequencePaxos.{SequencePaxos}
use Rattle.paxos_box.specs.declared.Sight.{Sight}
use Rattle.paxos_box.specs.declared.State.{State}
use Rattle.paxos_box.specs.declared.Source.TheVariants as source
use Rattle.paxos_box.specs.declared.LogOp.TheVariants.{PutGiven}
use Rattle.paxos_box.specs.declared.Role.{Role}
use Rattle.paxos_box.specs.declared.Role.TheVariants.{Leader, Follower}
use Rattle.paxos_box.specs.declared.Phase.{Phase}
use Rattle.paxos_box.specs.declared.Phase.TheVariants as phase
use Rattle.paxos_box.specs.Box.{unfit, at_top, is_leader, is_accept_phase, push_of, standing_of, set_seq, set_cached, set_buffered, set_decided}
use Rattle.record.specs.Record.{load_of}
use Rattle.sends.specs.Sends.{log_length}
use Rattle.log_plan.specs.Log.{sync_unfit, sync_log, append_given, has_leader, push_forward, forward_buffered}
use Rattle.accepting.specs.Accepting.{if_valid_ballot, given_sync, acceptsync_put, following, acceptsync_taken, acceptsync_in, handle_acceptsync, send_accepted, counter_at_top, by_status, if_expected, update_decided, acceptdecide_taken, acceptdecide_fit, acceptdecide_in, handle_acceptdecide, decide_taken, decide_expected, decide_in_accept, handle_decide, reply_accepted}
use Rattle.outgoing.specs.Perform.{perform_all}
use Rattle.views.specs.View.{View, Counted}
use Rattle.decide_laws.proofs.Grown.{either}
use Rattle.agreement.specs.Order.{leader_of}
use Rattle.agreement.specs.Core.{Sizes, Ghost}
use Rattle.agreement.specs.Report.{Syncs}
use Rattle.agreement.specs.Stream.{Item, opens, adds, Flow}
use Rattle.travels.specs.Face.{Face, item, taker, feeder, feeds_in}
use Rattle.travels.specs.Facts.{Led, InRole}
use Rattle.travels.specs.Near.{Scene, Well, Next}
use Rattle.travels.proofs.Follow.{round-of, took_to, t-synced, t-more}
use Rattle.travels.proofs.Books.{leader-is}
use Rattle.faces.specs.Mid.{face_of, mid_face, Clean, Ready}
use Rattle.faces.proofs.Push.{found-ready, face-found, ready-push}
use Rattle.faces.proofs.Sends.{refuses, reconnects, forwards, found-well, ignored}
use Rattle.faces.proofs.Reply.{by-ballot, reached-own, replies-new, replies}

-- the next number of a session
expected-is : (own q : SequenceNumber) → status_of own q ≡ Expected → (q.session ≡ own.session) × (q.counter ≡ suc own.counter)
unfolding status_of
expected-is own q e = go (one_higher q own) refl (not_above q own) e
  where
    two : (s t : Bool) → eqb q.session own.session ≡ s → eqb q.counter (own.counter + 1) ≡ t → (s && t) ≡ true → (q.session ≡ own.session) × (q.counter ≡ suc own.counter)
    two true true p r k = (eqb-true q.session own.session p, eqb-true q.counter (own.counter + 1) r ∙ add-one own.counter)
    two true false p r k = absurd (not-both k refl)
    two false t p r k = absurd (not-both k refl)

    go : (t : Bool) → one_higher q own ≡ t → (u : Bool) → cond t Expected (cond u Outdated DroppedPreceding) ≡ Expected → (q.session ≡ own.session) × (q.counter ≡ suc own.counter)
    go true p u k = two (eqb q.session own.session) (eqb q.counter (own.counter + 1)) refl refl p
    go false p true k = absurd (let w : ◌≡◌ {A = ℕ} 0 1 = cc in omega arith)
    go false p false k = absurd (let w : ◌≡◌ {A = ℕ} 0 1 = cc in omega arith)

module _ (conf : Configuration) (q₀ : ℕ) (sight : Sight) (es : List ℕ) (v : View) (cnt : Counted v) {z : Sizes} {P : ℕ → Type 0} {b : ℕ} {c : Scene} {g : Ghost ℕ} (w : Well z P b c g (face_of v)) where
  abbrev s : SequencePaxos
  s = load_of conf q₀ sight v.node

  found : Well z P b c g (mid_face es v s)
  found = found-well conf q₀ sight es v cnt w

  rest : Next z P b c g (mid_face es v s)
  rest = ignored conf q₀ sight es v cnt w

  ready : Ready 0 es v s
  ready = found-ready conf q₀ sight es v cnt

  -- what a ballot that is not the promise gets
  other-ballot : (n : Ballot) (taken : SequencePaxos) → (v.node.internal_storage.promise ≡ n → Clean taken → Next z P b c g (mid_face es v taken)) → Clean (if_valid_ballot n taken s) → Next z P b c g (mid_face es v (if_valid_ballot n taken s))
  other-ballot n taken f = by-ballot (λ (y : SequencePaxos). Clean y → Next z P b c g (mid_face es v y)) n taken s f (λ _. refuses es v n s ready (omega arith) rest) (λ _. reconnects es v n.pid s ready found)

  -- what a number that is not the next gets
  other-number : (sq : SequenceNumber) (pid : ℕ) (taken : SequencePaxos) → ((sq.session ≡ v.node.current_seq_num.session) × (sq.counter ≡ suc v.node.current_seq_num.counter) → Clean taken → Next z P b c g (mid_face es v taken))
      → Clean (if_expected sq pid taken s) → Next z P b c g (mid_face es v (if_expected sq pid taken s))
  other-number sq pid taken f =
      either (λ (y : SequencePaxos). Clean y → Next z P b c g (mid_face es v y)) (counter_at_top sq s) (at_top s) (by_status (status_of s.current_seq_num sq) pid taken s) (λ _ k. absurd (not-both refl k.low))
      (λ _. by (status_of s.current_seq_num sq) refl)
    where
      by : (x : MessageStatus) → status_of s.current_seq_num sq ≡ x → Clean (by_status x pid taken s) → Next z P b c g (mid_face es v (by_status x pid taken s))
      by Expected e k = f (expected-is s.current_seq_num sq e) k
      by DroppedPreceding e k = reconnects es v pid s ready found
      by Outdated e k = rest

  -- a message of ballot n, from its leader f
  module _ (n : Ballot) {f : ℕ} (pid : n.pid ≡ f + 1) (ne : f ≢ b) (lt : f < z.depots) where
    lead : leader_of n ≡ f
    lead = leader-is n pid

    lead-ne : leader_of n ≢ b
    lead-ne e = ne (sym lead ∙ e)

    lead-lt : leader_of n < z.depots
    lead-lt = subst (λ k. k < z.depots) (sym lead) lt

    -- the flow that it heads
    abbrev pub Front : Item ℕ → Type 0
    Front i =
        Flow (g.G n) (g.A b n) (i ∷ map (item n) (c.inn (leader_of n))) (taker n (face_of v) (length v.log)) (feeder (feeds_in n b (c.others (leader_of n))) n b (c.others (leader_of n)))

    -- whoever has promised another's ballot is no leader
    follows : (r : Role) (ph : Phase) → InRole z g b v.node.internal_storage v.log v.node.leader_state v.best r ph → v.node.internal_storage.promise ≡ n → is_accept_phase ph ≡ true → is_leader r ≡ false
    follows Follower ph o p e = refl
    follows Leader phase.Prepare o p e = absurd (not-both e refl)
    follows Leader phase.Accept o p e = absurd (ne (omega (arith, pid, o.own, ap (λ (k : Ballot). k.pid) (o.now ∙ p))))
    follows Leader phase.Recover o p e = absurd o
    follows Leader phase.None o p e = absurd o

    -- ---- AcceptSync
    module _ (sq : SequenceNumber) (d i sender : ℕ) (by : sender ≡ n.pid) (ok : Syncs z g b n i es d) (fr : Front (opens sq.session sq.counter i es)) where
      abbrev m : AcceptSync
      m = record { n = n; seq_num = sq; decided_idx = d; sync_idx = i }

      abbrev put : SequencePaxos
      put = sync_log n d (i + length es) (PutGiven (given_sync m (length es))) (set_cached None s)

      abbrev st : State
      st = record { role = Follower; phase = phase.Accept }

      face-put : mid_face es v (following sq put) ≡ took_to n (max v.node.internal_storage.decided_idx d) (take i v.log ++ es) (i + length es) st sq None [] (face_of v)
      unfolding sync_log following perform_all
      face-put =
          ap (took_to n (max v.node.internal_storage.decided_idx d) ((take i v.log ++ take (length es) es) ++ []) (i + length es) st sq None []) (face-found conf q₀ sight es v cnt)
          ∙ ap (λ l. took_to n (max v.node.internal_storage.decided_idx d) l (i + length es) st sq None [] (face_of v)) (append-nil (take i v.log ++ take (length es) es) ∙ ap (λ l. take i v.log ++ l) (take_all (length es) es (omega arith)))

      ready-put : Ready 0 es v (following sq put)
      unfolding sync_log following perform_all
      ready-put = record { things = ready.things; room = ready.room; queue = ready.queue }

      done : v.node.internal_storage.promise ≡ n → Next z P b c g (mid_face es v (following sq put))
      done p = subst (Next z P b c g) (sym face-put) (t-synced w n p sq ok lead-lt lead-ne fr)

      ends : v.node.internal_storage.promise ≡ n → Next z P b c g (mid_face es v (send_accepted n (i + length es) sender (following sq put)))
      unfolding sync_log following
      ends p = replies-new es v n (i + length es) sender (following sq put) ready-put (omega arith) by (done p) (reached-own (done p).well.node.own refl refl)

      sent : v.node.internal_storage.promise ≡ n → Next z P b c g (mid_face es v (send_accepted n (i + length es) sender (following sq (push_forward source.Buffered v.node.buffered_proposals.len (set_buffered 0 put)))))
      unfolding sync_log following push_of
      sent p =
          let k : Next z P b c g (mid_face es v (push_forward source.Buffered v.node.buffered_proposals.len (set_buffered 0 (following sq put)))) = forwards es v (following sq put) ready-put (omega arith) refl w.node.buffered (done p) in
          replies-new es v n (i + length es) sender (push_forward source.Buffered v.node.buffered_proposals.len (set_buffered 0 (following sq put)))
          (ready-push es v _ (set_buffered 0 (following sq put)) (record { things = ready-put.things; room = ready-put.room; queue = ready-put.queue }) (omega arith)) (omega arith) by k (reached-own k.well.node.own refl refl)

      synced : v.node.internal_storage.promise ≡ n → Clean (acceptsync_taken m (length es) sender s) → Next z P b c g (mid_face es v (acceptsync_taken m (length es) sender s))
      unfolding acceptsync_taken acceptsync_put forward_buffered sync_log
      synced p =
          either (λ (y : SequencePaxos). Clean y → Next z P b c g (mid_face es v y)) (sync_unfit (given_sync m (length es)) sight.brought_change d s) (unfit s) (send_accepted n (i + length es) sender (following sq (forward_buffered put)))
          (λ _ k. absurd (not-both refl k.fit))
          (λ _ _. either (λ (y : SequencePaxos). Next z P b c g (mid_face es v (send_accepted n (i + length es) sender (following sq y)))) (eqb v.node.buffered_proposals.len 0) put
          (cond (has_leader put) (push_forward source.Buffered v.node.buffered_proposals.len (set_buffered 0 put)) put) (λ _. ends p)
          (λ _. either (λ (y : SequencePaxos). Next z P b c g (mid_face es v (send_accepted n (i + length es) sender (following sq y)))) (has_leader put) (push_forward source.Buffered v.node.buffered_proposals.len (set_buffered 0 put)) put (λ _. sent p) (λ _. ends p)))

      pub h-acceptsync : Clean (handle_acceptsync m (length es) sender s) → Next z P b c g (mid_face es v (handle_acceptsync m (length es) sender s))
      unfolding handle_acceptsync
      h-acceptsync = other-ballot n (acceptsync_in (standing_of v.node.state.role v.node.state.phase) m (length es) sender s) (λ p. in-role p v.node.state.role v.node.state.phase)
        where
          in-role : v.node.internal_storage.promise ≡ n → (r : Role) (ph : Phase) → Clean (acceptsync_in (standing_of r ph) m (length es) sender s) → Next z P b c g (mid_face es v (acceptsync_in (standing_of r ph) m (length es) sender s))
          in-role p Leader phase.Prepare k = rest
          in-role p Leader phase.Accept k = rest
          in-role p Leader phase.Recover k = rest
          in-role p Leader phase.None k = rest
          in-role p Follower phase.Prepare k = synced p k
          in-role p Follower phase.Accept k = rest
          in-role p Follower phase.Recover k = rest
          in-role p Follower phase.None k = rest

    -- ---- more of ballot n: entries xs, or a decided index alone
    module _ (sq : SequenceNumber) (d : ℕ) (led : Led z g n d) (p : v.node.internal_storage.promise ≡ n) (ph : is_accept_phase v.node.state.phase ≡ true)
        (no : (sq.session ≡ v.node.current_seq_num.session) × (sq.counter ≡ suc v.node.current_seq_num.counter)) where
      rl : is_leader v.node.state.role ≡ false
      rl = follows v.node.state.role v.node.state.phase w.node.role p ph

      round : v.node.internal_storage.accepted_round ≡ n
      round = round-of z g b v.node.internal_storage v.log v.node.leader_state v.best v.node.state.role v.node.state.phase w.node.role ph ∙ p

      abbrev took : ℕ → List ℕ → ℕ → Face → Face
      took d' log k x = took_to x.storage.accepted_round d' log k x.state sq x.message x.cached x

      -- entries
      module _ (fr : Front (adds sq.session sq.counter es)) where
        abbrev grown : SequencePaxos
        grown = append_given (length es) (set_seq sq s)

        log_is : (v.log ++ take (length es) es) ++ [] ≡ v.log ++ es
        log_is = append-nil (v.log ++ take (length es) es) ∙ ap (λ l. v.log ++ l) (take_all (length es) es (omega arith))

        len : v.node.internal_storage.accepted_idx + length es ≡ length ((v.log ++ take (length es) es) ++ [])
        len = omega (arith, ap length log_is, length-append v.log es, cnt.log)

        face-grown : (d' : ℕ) → mid_face es v (set_decided d' grown) ≡ took d' ((v.log ++ take (length es) es) ++ []) (v.node.internal_storage.accepted_idx + length es) (face_of v)
        unfolding append_given perform_all
        face-grown d' = ap (took d' ((v.log ++ take (length es) es) ++ []) (v.node.internal_storage.accepted_idx + length es)) (face-found conf q₀ sight es v cnt)

        ready-grown : (d' : ℕ) → Ready 0 es v (set_decided d' grown)
        unfolding append_given perform_all
        ready-grown d' = record { things = ready.things; room = ready.room; queue = cnt.queue ∙ omega arith }

        more : (d' : ℕ) → (d' ≡ v.node.internal_storage.decided_idx) ⊎ (d' ≡ min d (v.node.internal_storage.accepted_idx + length es)) → Next z P b c g (mid_face es v (set_decided d' grown))
        more d' ch =
            subst (Next z P b c g) (sym (face-grown d'))
            (t-more w n p sq led lead-lt lead-ne rl ph no.0 no.1 log_is (choice ch) fr (v.node.internal_storage.accepted_idx + length es) len)
          where
            choice : (d' ≡ v.node.internal_storage.decided_idx) ⊎ (d' ≡ min d (v.node.internal_storage.accepted_idx + length es)) → (d' ≡ v.node.internal_storage.decided_idx) ⊎ (d' ≡ min d (length ((v.log ++ take (length es) es) ++ [])))
            choice (inl e) = inl e
            choice (inr e) = inr (e ∙ ap (min d) len)

        answers : (d' : ℕ) → (d' ≡ v.node.internal_storage.decided_idx) ⊎ (d' ≡ min d (v.node.internal_storage.accepted_idx + length es))
            → Next z P b c g (mid_face es v (reply_accepted n (v.node.internal_storage.accepted_idx + length es) (set_decided d' grown)))
        unfolding append_given
        answers d' ch =
            replies es v f n (v.node.internal_storage.accepted_idx + length es) (set_decided d' grown) (ready-grown d') (omega arith) pid rl (more d' ch) (reached-own (more d' ch).well.node.own round refl)

        taken_more : Clean (acceptdecide_fit n sq d (length es) s) → Next z P b c g (mid_face es v (acceptdecide_fit n sq d (length es) s))
        unfolding acceptdecide_fit acceptdecide_taken update_decided append_given
        taken_more =
            either (λ (y : SequencePaxos). Clean y → Next z P b c g (mid_face es v y)) (eqb (length es) 0) (unfit s) (cond (ltb max_log (log_length s + length es)) (unfit s) (acceptdecide_taken n d (length es) (set_seq sq s)))
            (λ _ k. absurd (not-both refl k.fit))
            (λ _. either (λ (y : SequencePaxos). Clean y → Next z P b c g (mid_face es v y)) (ltb max_log (log_length s + length es)) (unfit s) (acceptdecide_taken n d (length es) (set_seq sq s)) (λ _ k. absurd (not-both refl k.fit))
            (λ _ _. either (λ (y : SequencePaxos). Next z P b c g (mid_face es v (reply_accepted n (v.node.internal_storage.accepted_idx + length es) y))) (ltb v.node.internal_storage.decided_idx d)
            (set_decided (min d (v.node.internal_storage.accepted_idx + length es)) grown) grown (λ _. answers (min d (v.node.internal_storage.accepted_idx + length es)) (inr refl)) (λ _. answers v.node.internal_storage.decided_idx (inl refl))))

      -- a decided index
      module _ (fr : Front (adds sq.session sq.counter [])) where
        face-told : (d' : ℕ) → mid_face es v (set_decided d' (set_seq sq s)) ≡ took d' (v.log ++ []) v.node.internal_storage.accepted_idx (face_of v)
        face-told d' = ap (took d' (v.log ++ []) v.node.internal_storage.accepted_idx) (face-found conf q₀ sight es v cnt)

        far : v.node.internal_storage.accepted_idx ≡ length (v.log ++ [])
        far = sym cnt.log ∙ ap length (sym (append-nil v.log))

        told : (d' : ℕ) → (d' ≡ v.node.internal_storage.decided_idx) ⊎ (d' ≡ min d v.node.internal_storage.accepted_idx) → Next z P b c g (mid_face es v (set_decided d' (set_seq sq s)))
        told d' ch =
            subst (Next z P b c g) (sym (face-told d')) (t-more w n p sq led lead-lt lead-ne rl ph no.0 no.1 refl (choice ch) fr v.node.internal_storage.accepted_idx far)
          where
            choice : (d' ≡ v.node.internal_storage.decided_idx) ⊎ (d' ≡ min d v.node.internal_storage.accepted_idx) → (d' ≡ v.node.internal_storage.decided_idx) ⊎ (d' ≡ min d (length (v.log ++ [])))
            choice (inl e) = inl e
            choice (inr e) = inr (e ∙ ap (min d) far)

        ready-told : (d' : ℕ) → Ready 0 es v (set_decided d' (set_seq sq s))
        ready-told d' = record { things = ready.things; room = ready.room; queue = ready.queue }

        -- with an answer, where it was cut
        answered : (d' : ℕ) → (d' ≡ v.node.internal_storage.decided_idx) ⊎ (d' ≡ min d v.node.internal_storage.accepted_idx) → (t : Bool)
            → Next z P b c g (mid_face es v (cond t (reply_accepted n v.node.internal_storage.accepted_idx (set_decided d' (set_seq sq s))) (set_decided d' (set_seq sq s))))
        answered d' ch true = replies es v f n v.node.internal_storage.accepted_idx (set_decided d' (set_seq sq s)) (ready-told d') (omega arith) pid rl (told d' ch) (reached-own (told d' ch).well.node.own round refl)
        answered d' ch false = told d' ch

        taken-told : Next z P b c g (mid_face es v (decide_taken n d (set_seq sq s)))
        unfolding decide_taken update_decided
        taken-told =
            either (λ (y : SequencePaxos). Next z P b c g (mid_face es v (cond (ltb (log_length s) d) (reply_accepted n (log_length s) y) y))) (ltb v.node.internal_storage.decided_idx d)
            (set_decided (min d (log_length s)) (set_seq sq s)) (set_seq sq s)
            (λ _. answered (min d (log_length s)) (inr refl) (ltb (log_length s) d)) (λ _. answered v.node.internal_storage.decided_idx (inl refl) (ltb (log_length s) d))

    pub h-acceptdecide : (sq : SequenceNumber) (d : ℕ) → Led z g n d → Front (adds sq.session sq.counter es) → Clean (handle_acceptdecide n sq d (length es) s) → Next z P b c g (mid_face es v (handle_acceptdecide n sq d (length es) s))
    unfolding handle_acceptdecide
    h-acceptdecide sq d led fr = other-ballot n (acceptdecide_in (standing_of v.node.state.role v.node.state.phase) n sq d (length es) s) (λ p. in-role p v.node.state.role v.node.state.phase refl)
      where
        in-role : v.node.internal_storage.promise ≡ n → (r : Role) (ph : Phase) → v.node.state.phase ≡ ph → Clean (acceptdecide_in (standing_of r ph) n sq d (length es) s) → Next z P b c g (mid_face es v (acceptdecide_in (standing_of r ph) n sq d (length es) s))
        in-role p Leader phase.Prepare e k = rest
        in-role p Leader phase.Accept e k = rest
        in-role p Leader phase.Recover e k = rest
        in-role p Leader phase.None e k = rest
        in-role p Follower phase.Prepare e k = rest
        in-role p Follower phase.Accept e k = other-number sq n.pid (acceptdecide_fit n sq d (length es) s) (λ no. taken_more sq d led p (ap is_accept_phase e) no fr) k
        in-role p Follower phase.Recover e k = rest
        in-role p Follower phase.None e k = rest

    pub h-decide : (sq : SequenceNumber) (d : ℕ) → Led z g n d → Front (adds sq.session sq.counter []) → Clean (handle_decide n sq d s) → Next z P b c g (mid_face es v (handle_decide n sq d s))
    unfolding handle_decide
    h-decide sq d led fr =
        other-ballot n (decide_in_accept n sq d s)
        (λ p. either (λ (y : SequencePaxos). Clean y → Next z P b c g (mid_face es v y)) (is_accept_phase v.node.state.phase) (decide_expected n sq d s) s
        (λ ph. other-number sq n.pid (decide_taken n d (set_seq sq s)) (λ no _. taken-told sq d led p ph no fr)) (λ _ _. rest))
