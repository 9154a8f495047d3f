-- A Prepare: the promise is raised, cached and told.
use Rattle.std.specs.Prelude.{Option, None}
use Prim.Native.Nat.{ℕ, ◌-◌, ◌≤◌, ◌<◌}
use mathlib.Core.Path.{◌≡◌, refl, sym, ap, subst}
use mathlib.Core.Bool.{Bool, true, false, cond}
use mathlib.Core.List.{List, [], ◌++◌, append-nil}
use native.Mathlib.Omega.{arith}
use lib.Dec.{ltb}
use lib.ListN.{length, take, drop, length-drop}
use lib.Seq.{take_all, take-take}
use borrow.Author.Tests.{ltb-false, le-ltb}
use Rattle.base.proofs.Tests.{not-both}
use Rattle.ballot.specs.Ballot.{above, same}
use Rattle.leader_state.specs.declared.LogSync.{LogSync}
use Rattle.ballot.specs.declared.Ballot.{Ballot}
use Rattle.ballot.proofs.Laws.{same-eq, same_refl as same_self}
use Rattle.quorum.specs.declared.Configuration.{Configuration}
use Rattle.messages.specs.declared.Prepare.{Prepare}
use Rattle.messages.specs.declared.PaxosMsg.{PaxosMsg}
use Rattle.messages.specs.declared.PaxosMsg.TheVariants as msg
use Rattle.paxos_box.specs.declared.SequencePaxos.{SequencePaxos}
use Rattle.paxos_box.specs.declared.Sight.{Sight}
use Rattle.paxos_box.specs.declared.Source.TheVariants as source
use Rattle.paxos_box.specs.Box.{is_recover, unfit}
use Rattle.record.specs.Record.{load_of}
use Rattle.sends.specs.Sends.{log_length, suffix_length, sync_fits}
use Rattle.follower.specs.Follower.{log_from, promised_sync, start_of, count_of, log_source, promise_of, send_promise, cache_promise, tell_promise, promise_to, prepare_taken, handle_prepare}
use Rattle.outgoing.specs.Perform.{perform_all}
use Rattle.views.specs.View.{View, Counted}
use Rattle.decide_laws.proofs.Grown.{either}
use Rattle.agreement.specs.Order.{Below, Upto}
use Rattle.agreement.specs.Core.{Sizes, Ghost}
use Rattle.agreement.specs.Report.{from, Asks, Answer}
use Rattle.agreement.proofs.Order.{upto-of, upto-eq, below_apart}
use Rattle.travels.specs.Face.{Face}
use Rattle.travels.specs.Near.{Scene, Well, Next}
use Rattle.travels.proofs.Follow.{promised_to, t-promised}
use Rattle.faces.specs.Mid.{face_of, mid_face, Clean, Ready}
use Rattle.faces.proofs.Push.{clean-push, found-ready, face-found}
use Rattle.faces.proofs.Sends.{next-plain, ignored}

-- a log from a place within it on
suffix-is : (len i : ℕ) → i ≤ len → suffix_length len i ≡ len - i
unfolding suffix_length
suffix-is len i h = rw (le-ltb len i h)

pub suffix-all : (l : List ℕ) (i : ℕ) → i ≤ length l → take (suffix_length (length l) i) (drop i l) ≡ drop i l
suffix-all l i h = take_all (suffix_length (length l) i) (drop i l) (omega (arith, suffix-is (length l) i h, length-drop i l))

module _ (conf : Configuration) (q : ℕ) (sight : Sight) (es : List ℕ) (v : View) (cnt : Counted v) {z : Sizes} {P : ℕ → Type 0} {b : ℕ} {c : Scene} {g : Ghost ℕ} (w : Well z P b c g (face_of v)) where
  -- the box as found
  abbrev s : SequencePaxos
  s = load_of conf q sight v.node

  abbrev r : Ballot
  r = v.node.internal_storage.accepted_round

  module _ (m : Prepare) (sender : ℕ) (u : Upto v.node.internal_storage.promise m.n) (ask : Asks z g m.n m.n_accepted m.accepted_idx m.decided_idx) where
    -- the promise has been raised and cached
    abbrev y : Option LogSync → SequencePaxos
    y x = cache_promise x (promise_to m.n s)

    -- with a sync from i on
    abbrev x : ℕ → Option LogSync
    x i = log_from i s

    abbrev promise_msg : Option LogSync → PaxosMsg
    promise_msg k = msg.Promise (record { n = m.n; n_accepted = r; decided_idx = v.node.internal_storage.decided_idx; accepted_idx = v.node.internal_storage.accepted_idx; log_sync = start_of k })

    kept : ℕ → List ℕ
    kept i = take (suffix_length (log_length s) i) (take (suffix_length (log_length s) i) (drop i (v.log ++ [])))

    kept-is : (i : ℕ) → i ≤ length v.log → kept i ≡ drop i v.log
    unfolding kept
    kept-is i h = rw (append-nil v.log, ← cnt.log, suffix-all v.log i h) (suffix-all v.log i h)

    face-held : (i : ℕ) → mid_face es v (y (x i)) ≡ promised_to m.n (x i) (kept i) (face_of v)
    unfolding cache_promise promise_to kept perform_all
    face-held i = ap (λ (f : Face). promised_to m.n (x i) (take (suffix_length (log_length s) i) (take (suffix_length (log_length s) i) (drop i (v.log ++ [])))) f) (face-found conf q sight es v cnt)

    ready-y : (k : Option LogSync) → Ready 0 es v (y k)
    unfolding cache_promise promise_to perform_all
    ready-y k = let o : Ready 0 es v s = found-ready conf q sight es v cnt in record { things = o.things; room = o.room; queue = o.queue }

    told-held : (i : ℕ) → i ≤ length v.log → (Below m.n_accepted r → i ≡ m.decided_idx) → (m.n_accepted ≡ r → m.accepted_idx < length v.log → i ≡ m.accepted_idx)
        → Next z P b c g (mid_face es v (send_promise sender (promise_of (x i) (promise_to m.n s)) (log_source (x i)) (y (x i))))
    unfolding cache_promise promise_to kept
    told-held i h hi lo =
        next-plain es v sender (promise_msg (x i)) (log_source (x i)) (count_of (x i)) (y (x i)) (ready-y (x i)) (omega arith) done
        (λ t e. subst (λ l. Answer z done.ghost m.n b r v.node.internal_storage.accepted_idx v.node.internal_storage.decided_idx (from i l)) (take-take (suffix_length (log_length s) i) (suffix_length (log_length s) i) (drop i (v.log ++ [])) (omega arith)) done.well.node.cached)
        (λ j. refl)
      where
        done : Next z P b c g (mid_face es v (y (x i)))
        done = subst (Next z P b c g) (sym (face-held i)) (t-promised w (x i) (kept i) u ask (λ l. rw (kept-is i h, hi l)) (λ e l. rw (kept-is i h, lo e l)))

    face-none : mid_face es v (y None) ≡ promised_to m.n None [] (face_of v)
    unfolding cache_promise promise_to perform_all
    face-none = ap (promised_to m.n None []) (face-found conf q sight es v cnt)

    told_none : (Below m.n_accepted r → ⊥) → (m.n_accepted ≡ r → m.accepted_idx < length v.log → ⊥)
        → Next z P b c g (mid_face es v (send_promise sender (promise_of None (promise_to m.n s)) (log_source None) (y None)))
    unfolding cache_promise promise_to
    told_none hi lo =
        next-plain es v sender (promise_msg None) source.Nothing 0 (y None) (ready-y None) (omega arith) done (λ t e. done.well.node.cached) (λ j. refl)
      where
        done : Next z P b c g (mid_face es v (y None))
        done = subst (Next z P b c g) (sym face-none) (t-promised w None [] u ask (λ l. absurd (hi l)) (λ e l. absurd (lo e l)))

    abbrev Told : Option LogSync → Type 0
    Told k = Clean (tell_promise sender k (promise_to m.n s)) → Next z P b c g (mid_face es v (tell_promise sender k (promise_to m.n s)))

    -- a sync from past the log's end is unfit
    tells : (i : ℕ) → (Below m.n_accepted r → i ≡ m.decided_idx) → (m.n_accepted ≡ r → m.accepted_idx < length v.log → i ≡ m.accepted_idx) → Told (x i)
    unfolding tell_promise sync_fits promise_to cache_promise
    tells i hi lo =
        either (λ (k : SequencePaxos). Clean (send_promise sender (promise_of (x i) (promise_to m.n s)) (log_source (x i)) (cache_promise (x i) k)) → Next z P b c g (mid_face es v (send_promise sender (promise_of (x i) (promise_to m.n s)) (log_source (x i)) (cache_promise (x i) k))))
        (ltb (log_length s) i) (unfit (promise_to m.n s)) (promise_to m.n s)
        (λ _ k. absurd (not-both refl (clean-push _ (cache_promise (x i) (unfit (promise_to m.n s))) k).fit))
        (λ e _. told-held i (omega (arith, ltb-false (log_length s) i e, cnt.log)) hi lo)

    -- none
    tells_none : (Below m.n_accepted r → ⊥) → (m.n_accepted ≡ r → m.accepted_idx < length v.log → ⊥) → Told None
    unfolding tell_promise
    tells_none hi lo k = told_none hi lo

    prepared : Clean (prepare_taken m sender s) → Next z P b c g (mid_face es v (prepare_taken m sender s))
    unfolding prepare_taken promised_sync
    prepared = higher (above r m.n_accepted) refl
      where
        longer : above r m.n_accepted ≡ false → (t : Bool) → ltb m.accepted_idx (log_length s) ≡ t → Told (cond t (log_from m.accepted_idx s) None)
        longer ne true e = tells m.accepted_idx (λ l. absurd (not-both l.is ne)) (λ _ _. refl)
        longer ne false e = tells_none (λ l. not-both l.is ne) (λ _ l. omega (arith, ltb-false m.accepted_idx (log_length s) e, cnt.log))

        level : above r m.n_accepted ≡ false → (t : Bool) → same r m.n_accepted ≡ t → Told (cond t (cond (ltb m.accepted_idx (log_length s)) (log_from m.accepted_idx s) None) None)
        level ne true e = longer ne (ltb m.accepted_idx (log_length s)) refl
        level ne false e = tells_none (λ l. not-both l.is ne) (λ q _. not-both (subst (λ k. same r k ≡ true) (sym q) (same_self r)) e)

        higher : (t : Bool) → above r m.n_accepted ≡ t → Told (cond t (log_from m.decided_idx s) (cond (same r m.n_accepted) (cond (ltb m.accepted_idx (log_length s)) (log_from m.accepted_idx s) None) None))
        higher true e = tells m.decided_idx (λ _. refl) (λ q _. absurd (below_apart (record { is = e }) q))
        higher false e = level e (same r m.n_accepted) refl

  pub h-prepare : (m : Prepare) (sender : ℕ) → Asks z g m.n m.n_accepted m.accepted_idx m.decided_idx → Clean (handle_prepare m sender s) → Next z P b c g (mid_face es v (handle_prepare m sender s))
  unfolding handle_prepare
  h-prepare m sender ask =
      either (λ (k : SequencePaxos). Clean k → Next z P b c g (mid_face es v k)) (above m.n p) (prepare_taken m sender s) (cond (same m.n p) (cond (is_recover s.state.phase) (prepare_taken m sender s) s) s)
      (λ e. prepared m sender (upto-of (record { is = e })) ask)
      (λ _. either (λ (k : SequencePaxos). Clean k → Next z P b c g (mid_face es v k)) (same m.n p) (cond (is_recover s.state.phase) (prepare_taken m sender s) s) s
      (λ e. either (λ (k : SequencePaxos). Clean k → Next z P b c g (mid_face es v k)) (is_recover s.state.phase) (prepare_taken m sender s) s (λ _. prepared m sender (upto-eq (sym (same-eq m.n p e))) ask) (λ _ _. rest))
      (λ _ _. rest))
    where
      p : Ballot
      p = v.node.internal_storage.promise

      rest : Next z P b c g (mid_face es v s)
      rest = ignored conf q sight es v cnt w
