-- A Promise at a leader: it is noted; a read quorum starts the ballot; a late one is synced.
use Rattle.std.specs.Prelude.{Option, None, Some}
use Prim.Native.Nat.{ℕ, ◌+◌, ◌≤◌, ◌<◌, max}
use mathlib.Core.Path.{◌≡◌, refl, sym, ap, ◌∙◌, subst}
use mathlib.Core.Logic.{◌⊎◌, inl, inr, ◌≢◌}
use mathlib.Core.Bool.{Bool, true, false, cond, not, ◌&&◌}
use mathlib.Core.List.{List, ◌++◌}
use native.Mathlib.Omega.{arith}
use lib.Dec.{ltb, eqb}
use lib.ListN.{length, take, length-append, length-take}
use lib.Seq.{take-take}
use borrow.Author.Tests.{ne_eqb}
use Rattle.base.proofs.Tests.{not-both}
use Rattle.base.specs.Limits.{max_depots}
use Rattle.base.specs.Count.{count_below}
use Rattle.ballot.specs.Ballot.{same}
use Rattle.leader_state.specs.declared.LogSync.{LogSync}
use Rattle.ballot.specs.declared.Ballot.{Ballot}
use Rattle.ballot.proofs.Laws.{same-eq}
use Rattle.quorum.specs.Quorum.{read_size, reaches_read}
use Rattle.quorum.specs.declared.Quorum.{Quorum}
use Rattle.quorum.specs.declared.Configuration.{Configuration}
use Rattle.leader_state.specs.declared.Depot.{Depot}
use Rattle.leader_state.specs.declared.LeaderState.{LeaderState}
use Rattle.leader_state.specs.declared.MaxPromise.{MaxPromise}
use Rattle.leader_state.specs.declared.PromiseMetaData.{PromiseMetaData}
use Rattle.leader_state.specs.declared.PromiseState.{PromiseState}
use Rattle.leader_state.specs.declared.PromiseState.TheVariants.{Promised}
use Rattle.leader_state.specs.State.{with_depot, with_best, set_promise_state, set_accepted}
use Rattle.leader_state.specs.Promises.{is_promised, beats_best, promised_count, max_decided, take_sync}
use Rattle.leader_state.specs.Places.{promised_followers}
use Rattle.paxos_box.specs.declared.SequencePaxos.{SequencePaxos}
use Rattle.paxos_box.specs.declared.Sight.{Sight}
use Rattle.paxos_box.specs.declared.LogOp.{LogOp}
use Rattle.paxos_box.specs.declared.LogOp.TheVariants.{Keep}
use Rattle.paxos_box.specs.declared.Role.{Role}
use Rattle.paxos_box.specs.declared.Role.TheVariants.{Leader, Follower}
use Rattle.paxos_box.specs.declared.Phase.{Phase}
use Rattle.paxos_box.specs.declared.Phase.TheVariants as phase
use Rattle.paxos_box.specs.Box.{with_leader as withLeaderBox, with_state, unfit, push_of, standing_of}
use Rattle.record.specs.Record.{load_of}
use Rattle.sends.specs.declared.Each.TheVariants as each
use Rattle.sends.specs.Sends.{log_length, the_depot, sync_start_of, push_acc_sync, send_acc_sync, by_promise, acc_sync_to, for_marked}
use Rattle.log_plan.specs.Log.{sync_end, sync_unfit, sync_log, kept_of, append_buffered}
use Rattle.leader.specs.Leader.{for_followers, change_of, put_op, leader_syncs, sync_held, sync_by, sync_with_best, sync_taken, own_accepted, handle_majority_promises, held_length, keep_sync, handle_promise_prepare, handle_promise_accept, brings_past, promise_in, handle_promise}
use Rattle.follower.specs.Follower.{count_of}
use Rattle.outgoing.specs.Perform.{perform_all}
use Rattle.views.specs.View.{View, held_entries, log_to, best_to, Counted}
use Rattle.decide_laws.proofs.Grown.{either}
use Rattle.step_laws.proofs.Written.{kept-le}
use Rattle.agreement.specs.Order.{leader_of}
use Rattle.agreement.specs.Core.{Sizes, Ghost}
use Rattle.agreement.specs.Report.{put_on, start_of, Report, Answer}
use Rattle.agreement.proofs.All.{all_take}
use Rattle.travels.specs.Face as face
use Rattle.travels.specs.Face.{Face, place, sync_of, feeds_by}
use Rattle.travels.specs.Facts.{Preparing, Leading}
use Rattle.travels.specs.Near.{Scene, Near, Well, Next}
use Rattle.travels.proofs.Moves.{stay}
use Rattle.travels.proofs.Books.{leads-other}
use Rattle.travels.proofs.Elect.{prepares-in, leads-in}
use Rattle.travels.proofs.Note.{Keeps, Best, stays, beaten, feeds-less-to, t-noted, t-noted-late}
use Rattle.travels.proofs.Start.{Begun, started_to, Started, t-started}
use Rattle.travels.proofs.Open.{Puts, opened, t-opens}
use Rattle.faces.specs.Mid.{face_of, mid_face, Clean, Ready}
use Rattle.faces.proofs.Push.{held_all, found-ready, face-found}
use Rattle.faces.proofs.Places.{pid-place, puts_of, beats-so, beats-not, read-quorum, highest-is}
use Rattle.faces.proofs.Each.{session-box, sync-is, session-puts, face-sync}
use Rattle.faces.proofs.Opens.{feeds-leads, followers_of, clean_all, each-opened}
use Rattle.faces.proofs.Proposal.{state-is, begun-puts}
use Rattle.faces.proofs.Sends.{found-well, ignored}

-- ---- what is put on the log, where nothing is refused

abbrev op_of : Bool → Option LogSync → LogOp
op_of t (Some x) = put_op t x
op_of t None = Keep

abbrev end_of : Option LogSync → ℕ → ℕ
end_of (Some x) len = sync_end x
end_of None len = len

syncs-clean : (hi end : ℕ) (op : LogOp) (s : SequencePaxos) → Clean (leader_syncs hi end op s) → (leader_syncs hi end op s ≡ sync_log s.leader_state.n_leader hi end op s) × Clean s
unfolding sync_log
syncs-clean hi end op s = go (ltb end hi)
  where
    go : (t : Bool) → Clean (cond t (unfit s) (sync_log s.leader_state.n_leader hi end op s)) → (cond t (unfit s) (sync_log s.leader_state.n_leader hi end op s) ≡ sync_log s.leader_state.n_leader hi end op s) × Clean s
    go true k = absurd (not-both refl k.fit)
    go false k = (refl, record { fit = k.fit; low = k.low })

puts-clean : (h : Option LogSync) (t : Bool) (hi : ℕ) (s : SequencePaxos) → Clean (sync_by h t hi s) → (sync_by h t hi s ≡ sync_log s.leader_state.n_leader hi (end_of h (log_length s)) (op_of t h) s) × Clean s
unfolding sync_held
puts-clean None t hi s k = syncs-clean hi (log_length s) Keep s k
puts-clean (Some x) t hi s k = go (sync_unfit x (change_of t s) s.leader_state.max_promise.meta.decided_idx s) k
  where
    go : (u : Bool) → Clean (cond u (unfit s) (leader_syncs hi (sync_end x) (put_op t x) s)) → (cond u (unfit s) (leader_syncs hi (sync_end x) (put_op t x) s) ≡ sync_log s.leader_state.n_leader hi (sync_end x) (put_op t x) s) × Clean s
    go true k = absurd (not-both refl k.fit)
    go false k = syncs-clean hi (sync_end x) (put_op t x) s k

-- what the operation makes of the log is what the sync does
put-log : (h : Option LogSync) (t : Bool) (es best log : List ℕ) → log_to (op_of t h) es best log ≡ put_on (sync_of h (held_entries h (cond t es best))) log
put-log None t es best log = refl
put-log (Some x) true es best log = refl
put-log (Some x) false es best log = refl

put-end : (h : Option LogSync) (l log : List ℕ) → length (held_entries h l) ≡ count_of h → start_of (sync_of h (held_entries h l)) ≤ length log → length (put_on (sync_of h (held_entries h l)) log) ≡ end_of h (length log)
put-end None l log e c = refl
put-end (Some x) l log e c = omega (arith, length-append (take x.sync_idx log) (take x.len l), length-take x.sync_idx log, e)

module _ (quo : Quorum) (q₀ : ℕ) (sight : Sight) (es : List ℕ) (v : View) (cnt : Counted v) {z : Sizes} {P : ℕ → Type 0} {b : ℕ} {c : Scene} {g : Ghost ℕ} (few : z.depots ≤ max_depots) (bl : b < z.depots) (rs : read_size quo ≡ z.read) (w : Well z P b c g (face_of v))
    (f : ℕ) (fl : f < z.depots) (m : PromiseMetaData) (pid : m.pid ≡ f + 1) (sync : Option LogSync) (full : count_of sync ≤ length es)
    (ans : Answer z g v.node.leader_state.n_leader f m.n_accepted m.accepted_idx m.decided_idx (sync_of sync (held_entries sync es))) where
  abbrev conf : Configuration
  conf = record { depots = z.depots; pid = b + 1; quorum = quo }

  abbrev s : SequencePaxos
  s = load_of conf q₀ sight v.node

  abbrev l : LeaderState
  l = v.node.leader_state

  found : Well z P b c g (mid_face es v s)
  found = found-well conf q₀ sight es v cnt w

  ready : Ready 0 es v s
  ready = found-ready conf q₀ sight es v cnt

  rest : Next z P b c g (mid_face es v s)
  rest = ignored conf q₀ sight es v cnt w

  -- the record with the promise in it, and a best
  abbrev with_promise : MaxPromise → LeaderState
  with_promise x = with_best x (with_depot m.pid (set_promise_state (Promised m)) l)

  keeps : (x : MaxPromise) → Keeps f m l (with_promise x)
  keeps x =
      let p : Puts f (set_promise_state (Promised m) (place f l)) l (with_depot (f + 1) (set_promise_state (Promised m)) l) = puts_of f l w.node.row (omega arith) (set_promise_state (Promised m)) in
      subst (λ k. Keeps f m l (with_best x (with_depot k (set_promise_state (Promised m)) l))) (sym pid) (record { row = p.row; ballot = refl; here = p.here; else = p.else })

  -- ---- (Leader, Prepare)
  module _ (st : v.node.state ≡ record { role = Leader; phase = phase.Prepare }) (t : Bool) (et : beats_best m l ≡ t) where
    abbrev best : MaxPromise
    best = cond t (record { meta = m; sync = sync }) l.max_promise

    abbrev l₁ : LeaderState
    l₁ = with_promise best

    abbrev held : List ℕ
    held = held_entries best.sync (cond t es v.best)

    -- the face with the promise noted
    abbrev x₁ : Face
    x₁ = face.with_best held (face.with_leader l₁ (face_of v))

    is-best : Best (face_of v) m (sync_of sync (held_entries sync es)) best held
    is-best = by t et
      where
        by : (u : Bool) → beats_best m l ≡ u → Best (face_of v) m (sync_of sync (held_entries sync es)) (cond u (record { meta = m; sync = sync }) l.max_promise) (held_entries (cond u (record { meta = m; sync = sync }) l.max_promise).sync (cond u es v.best))
        by true e = beaten (beats-so m l.max_promise.meta e) refl refl
        by false e = stays (beats-not m l.max_promise.meta e) refl (held_all l.max_promise.sync v.best cnt.best)

    noted : Well z P b c g x₁
    noted = t-noted w (keeps best) held st (subst (λ k. Answer z g k f m.n_accepted m.accepted_idx m.decided_idx (sync_of sync (held_entries sync es))) (prepares-in w.node st).now ans) is-best

    abbrev kept₁ : SequencePaxos
    kept₁ = withLeaderBox l₁ s

    -- not yet a read quorum: its sync's entries are kept
    waits : Next z P b c g (mid_face es v (keep_sync t sync kept₁))
    waits = stay (subst (Well z P b c g) (sym (by t)) noted)
      where
        twice : (h : Option LogSync) → held_entries h (best_to (held_length h) es v.best) ≡ held_entries h es
        twice None = refl
        twice (Some x) = take-take x.len x.len es (omega arith)

        by : (u : Bool) → mid_face es v (keep_sync u sync (withLeaderBox (with_promise (cond u (record { meta = m; sync = sync }) l.max_promise)) s))
            ≡ face.with_best (held_entries (cond u (record { meta = m; sync = sync }) l.max_promise).sync (cond u es v.best)) (face.with_leader (with_promise (cond u (record { meta = m; sync = sync }) l.max_promise)) (face_of v))
        by true =
            ap (λ (k : Face). face.with_best (held_entries sync (best_to (held_length sync) es v.best)) (face.with_leader (with_promise (record { meta = m; sync = sync })) k)) (face-found conf q₀ sight es v cnt)
            ∙ ap (λ k. face.with_best k (face.with_leader (with_promise (record { meta = m; sync = sync })) (face_of v))) (twice sync)
        by false = ap (λ (k : Face). face.with_best (held_entries l.max_promise.sync v.best) (face.with_leader (with_promise l.max_promise) k)) (face-found conf q₀ sight es v cnt)

    -- a read quorum
    module _ (rq : reaches_read quo (promised_count z.depots l₁) ≡ true) where
      abbrev hi : ℕ
      hi = max_decided z.depots l₁

      abbrev end : ℕ
      end = end_of best.sync v.node.internal_storage.accepted_idx

      abbrev put : SequencePaxos
      put = sync_log l.n_leader hi end (op_of t best.sync) kept₁

      abbrev kept : ℕ
      kept = kept_of v.node.buffered_proposals.len end

      abbrev y : SequencePaxos → SequencePaxos
      y k = own_accepted (with_state (record { role = Leader; phase = phase.Accept }) (append_buffered (sync_taken k)))

      abbrev l₂ : LeaderState
      l₂ = with_depot (b + 1) (set_accepted (end + kept)) (take_sync l₁)

      p : Preparing z g b v.node.internal_storage v.log l₁ held
      p = prepares-in noted.node st

      p₂ : Puts b (set_accepted (end + kept) (place b l₁)) (take_sync l₁) l₂
      p₂ = puts_of b (take_sync l₁) noted.node.row (omega arith) (set_accepted (end + kept))

      begun : Begun z b (end + kept) l₁ l₂
      begun =
          let o : Begun z b (end + kept) (take_sync l₁) l₂ = begun-puts p₂ refl refl refl (omega arith) in
          record { row = o.row; ballot = o.ballot; best = o.best; promise = o.promise; number = o.number; latest = o.latest; own = o.own; else = o.else }

      abbrev log : List ℕ
      log = log_to (op_of t best.sync) es v.best v.log ++ take kept v.buffered

      log_is : log ≡ put_on (sync_of best.sync held) v.log ++ take kept v.buffered
      log_is = ap (λ k. k ++ take kept v.buffered) (put-log best.sync t es v.best v.log)

      held-size : length held ≡ count_of best.sync
      held-size = by t
        where
          fit : (h : Option LogSync) (k : List ℕ) → count_of h ≤ length k → length (held_entries h k) ≡ count_of h
          fit None k e = refl
          fit (Some x) k e = omega (arith, length-take x.len k, e)

          by : (u : Bool) → length (held_entries (cond u (record { meta = m; sync = sync }) l.max_promise).sync (cond u es v.best)) ≡ count_of (cond u (record { meta = m; sync = sync }) l.max_promise).sync
          by true = fit sync es full
          by false = fit l.max_promise.sync v.best (omega (arith, cnt.best))

      size : end + kept ≡ length log
      size =
          let a : length (put_on (sync_of best.sync held) v.log) ≡ end_of best.sync (length v.log) = put-end best.sync (cond t es v.best) v.log held-size p.prepares.brings.cut in
          let d : end_of best.sync (length v.log) ≡ end = ap (end_of best.sync) cnt.log in
          omega (arith, a, d, ap length log_is, length-append (put_on (sync_of best.sync held) v.log) (take kept v.buffered), length-take kept v.buffered, cnt.buffered, kept-le v.node.buffered_proposals.len end)

      face-y : mid_face es v (y put) ≡ started_to l.n_leader (max v.node.internal_storage.decided_idx hi) log (end + kept) l₂ (face_of v)
      unfolding sync_log append_buffered perform_all
      face-y = ap (started_to l.n_leader (max v.node.internal_storage.decided_idx hi) log (end + kept) l₂) (face-found conf q₀ sight es v cnt)

      ready-y : Ready 0 es v (y put)
      unfolding sync_log append_buffered perform_all
      ready-y = record { things = ready.things; room = ready.room; queue = cnt.queue ∙ omega arith }

      began : Started z P b c g (mid_face es v (y put))
      began =
          subst (Started z P b c g) (sym face-y)
          (t-started noted st {hi = hi} p.now log_is (all_take kept w.node.buffered) size begun (subst (λ k. k ≤ count_below (λ u. is_promised (place u l₁).promise) z.depots) rs (read-quorum conf l₁ noted.node.row few rq)) (highest-is z.depots l₁))

      opens : Clean (for_marked (followers_of z (y put)) each.AcceptSync z.depots (y put)) → Next z P b c g (mid_face es v (for_marked (followers_of z (y put)) each.AcceptSync z.depots (y put)))
      unfolding sync_log append_buffered
      opens k = record { ghost = began.ghost; moved = began.moved; well = each-opened es v z few (y put) refl p.own ready-y began.near k }

      starts : Clean (handle_majority_promises t kept₁) → Next z P b c g (mid_face es v (handle_majority_promises t kept₁))
      unfolding handle_majority_promises sync_with_best append_buffered sync_log
      starts k =
          let k₁ : Clean (y (sync_by best.sync t hi kept₁)) = clean_all es v (promised_followers (y (sync_by best.sync t hi kept₁)).config.depots (y (sync_by best.sync t hi kept₁)).leader_state) (y (sync_by best.sync t hi kept₁)) (y (sync_by best.sync t hi kept₁)).config.depots k in
          let a : (sync_by best.sync t hi kept₁ ≡ put) × Clean kept₁ = puts-clean best.sync t hi kept₁ (record { fit = k₁.fit; low = k₁.low }) in
          subst (λ (j : SequencePaxos). Clean (for_followers each.AcceptSync (y j)) → Next z P b c g (mid_face es v (for_followers each.AcceptSync (y j)))) (sym a.0) opens k

    -- the one or the other
    in-prepare : Clean (cond (reaches_read quo (promised_count z.depots l₁)) (handle_majority_promises t kept₁) (keep_sync t sync kept₁)) → Next z P b c g (mid_face es v (cond (reaches_read quo (promised_count z.depots l₁)) (handle_majority_promises t kept₁) (keep_sync t sync kept₁)))
    in-prepare = either (λ (k : SequencePaxos). Clean k → Next z P b c g (mid_face es v k)) (reaches_read quo (promised_count z.depots l₁)) (handle_majority_promises t kept₁) (keep_sync t sync kept₁) (λ e. starts e) (λ _ _. waits)

  -- ---- (Leader, Accept)
  module _ (st : v.node.state ≡ record { role = Leader; phase = phase.Accept }) where
    abbrev la : LeaderState
    la = with_promise l.max_promise

    abbrev kept_a : SequencePaxos
    kept_a = withLeaderBox la s

    lead : Leading z g b v.node.internal_storage v.log l
    lead = leads-in w.node st

    abbrev fed₁ : Ballot → ℕ → Bool
    fed₁ n u = feeds_by n u v.node.state l && not (eqb u f)

    near_a : Near z P b c g (λ n u. g.G n) fed₁ (mid_face es v kept_a)
    near_a =
        subst (Near z P b c g (λ n u. g.G n) fed₁) (sym (ap (face.with_leader la) (face-found conf q₀ sight es v cnt)))
        (t-noted-late w (keeps l.max_promise) st (subst (λ k. Report z g k f m.n_accepted m.accepted_idx m.decided_idx) lead.now ans.report) refl)

    ready_a : Ready 0 es v kept_a
    ready_a = record { things = ready.things; room = ready.room; queue = ready.queue }

    puts : Puts f (opened f (mid_face es v kept_a)) la (session-box (f + 1) kept_a).leader_state
    puts = session-puts es v f m kept_a near_a.node.row (omega arith)

    less : (n : Ballot) (u : ℕ) → leader_of n ≡ b → u < z.depots → u ≢ b → (n ≢ v.node.internal_storage.promise) ⊎ (u ≢ f) → feeds_by n u v.node.state (session-box (f + 1) kept_a).leader_state ≡ true → fed₁ n u ≡ true
    less n u q lu ne (inl d) e = absurd (not-both (feeds-leads n u v.node.state (session-box (f + 1) kept_a).leader_state e) (leads-other n v.node.state (session-box (f + 1) kept_a).leader_state (puts.ballot ∙ lead.now) d))
    less n u q lu ne (inr d) e =
        rw (feeds-less-to n u v.node.state l (session-box (f + 1) kept_a).leader_state puts.ballot (λ r. sym (ap (λ (k : Depot). is_promised k.promise) (puts.else u d ∙ (keeps l.max_promise).else u d)) ∙ r) e, ne_eqb u f d)

    late : Clean (send_acc_sync (f + 1) m kept_a) → Next z P b c g (mid_face es v (send_acc_sync (f + 1) m kept_a))
    unfolding push_acc_sync push_of
    late k =
        let a : (send_acc_sync (f + 1) m kept_a ≡ push_acc_sync (sync_start_of m kept_a) (f + 1) (session-box (f + 1) kept_a)) × Clean kept_a × (sync_start_of m kept_a ≤ log_length kept_a) = sync-is es v f m kept_a k in
        subst (λ (j : SequencePaxos). Next z P b c g (mid_face es v j)) (sym a.0)
        (stay (subst (Near z P b c g (λ n u. g.G n) (λ n u. feeds_by n u v.node.state (session-box (f + 1) kept_a).leader_state))
        (sym (face-sync es v f m kept_a ready_a (omega arith) near_a.node.own.length a.2 near_a.node.row (omega arith)))
        (t-opens near_a st f m (λ n u. feeds_by n u v.node.state (session-box (f + 1) kept_a).leader_state) fl (ap (λ (d : Depot). d.promise) (keeps l.max_promise).here) refl puts refl less)))

    in-accept : Clean (acc_sync_to m.pid kept_a) → Next z P b c g (mid_face es v (acc_sync_to m.pid kept_a))
    unfolding acc_sync_to
    in-accept = subst (λ (j : SequencePaxos). Clean j → Next z P b c g (mid_face es v j)) (sym is) late
      where
        is : by_promise m.pid (the_depot m.pid kept_a).promise kept_a ≡ send_acc_sync (f + 1) m kept_a
        is = ap (λ k. by_promise k (the_depot k kept_a).promise kept_a) pid ∙ ap (λ (k : PromiseState). by_promise (f + 1) k kept_a) (ap (λ (d : Depot). d.promise) (pid-place f la ∙ (keeps l.max_promise).here))

  -- ---- by role
  in-role : (r : Role) (p : Phase) → v.node.state.role ≡ r → v.node.state.phase ≡ p → Clean (promise_in (standing_of r p) m sync s) → Next z P b c g (mid_face es v (promise_in (standing_of r p) m sync s))
  unfolding handle_promise_prepare handle_promise_accept
  in-role Leader phase.Prepare e f k =
      either (λ (k : SequencePaxos). Clean k → Next z P b c g (mid_face es v k)) (brings_past sync) (unfit s) (handle_promise_prepare m sync s) (λ _ k. absurd (not-both refl k.fit))
      (λ _. in-prepare (state-is v.node.state e f) (beats_best m l) refl) k
  in-role Leader phase.Accept e f k =
      either (λ (k : SequencePaxos). Clean k → Next z P b c g (mid_face es v k)) (brings_past sync) (unfit s) (handle_promise_accept m s) (λ _ k. absurd (not-both refl k.fit))
      (λ _. in-accept (state-is v.node.state e f)) k
  in-role Leader phase.Recover e f k = rest
  in-role Leader phase.None e f k = rest
  in-role Follower phase.Prepare e f k = rest
  in-role Follower phase.Accept e f k = rest
  in-role Follower phase.Recover e f k = rest
  in-role Follower phase.None e f k = rest

pub h-promise : (quo : Quorum) (q₀ : ℕ) (sight : Sight) (es : List ℕ) (v : View) (cnt : Counted v) {z : Sizes} {P : ℕ → Type 0} {b : ℕ} {c : Scene} {g : Ghost ℕ} (few : z.depots ≤ max_depots) (bl : b < z.depots) (rs : read_size quo ≡ z.read) (w : Well z P b c g (face_of v))
    (f : ℕ) (fl : f < z.depots) (n : Ballot) (m : PromiseMetaData) (pid : m.pid ≡ f + 1) (sync : Option LogSync) (full : count_of sync ≤ length es)
    (ans : Answer z g n f m.n_accepted m.accepted_idx m.decided_idx (sync_of sync (held_entries sync es)))
    → Clean (handle_promise n m sync (load_of (record { depots = z.depots; pid = b + 1; quorum = quo }) q₀ sight v.node))
    → Next z P b c g (mid_face es v (handle_promise n m sync (load_of (record { depots = z.depots; pid = b + 1; quorum = quo }) q₀ sight v.node)))
unfolding handle_promise
h-promise quo q₀ sight es v cnt {z} {P} {b} {c} {g} few bl rs w f fl n m pid sync full ans =
    either (λ (k : SequencePaxos). Clean k → Next z P b c g (mid_face es v k)) (same n v.node.leader_state.n_leader) (promise_in (standing_of v.node.state.role v.node.state.phase) m sync s₀) s₀
    (λ e. in-role quo q₀ sight es v cnt few bl rs w f fl m pid sync full (subst (λ k. Answer z g k f m.n_accepted m.accepted_idx m.decided_idx (sync_of sync (held_entries sync es))) (same-eq n v.node.leader_state.n_leader e) ans) v.node.state.role v.node.state.phase refl refl)
    (λ _ _. ignored (record { depots = z.depots; pid = b + 1; quorum = quo }) q₀ sight es v cnt w)
  where
    s₀ : SequencePaxos
    s₀ = load_of (record { depots = z.depots; pid = b + 1; quorum = quo }) q₀ sight v.node
