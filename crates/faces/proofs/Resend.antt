-- A follower's resend, a reconnect, a restart and a drain.
use Rattle.std.specs.Prelude.{Option, None, Some}
use Prim.Native.Nat.{ℕ, zero, suc, ◌≤◌, ◌<◌}
use mathlib.Core.Path.{◌≡◌, refl, sym, ap, ◌∙◌, subst}
use mathlib.Core.Logic.{inl, inr}
use mathlib.Core.List.{List, [], ◌∷◌, append-nil}
use native.Mathlib.Omega.{arith}
use lib.ListN.{length, take, get_or}
use Rattle.base.specs.Limits.{max_depots}
use Rattle.base.specs.Lists.{on_first}
use Rattle.base.proofs.Lists.{length-on-first}
use Rattle.ballot.specs.Ballot.{default}
use Rattle.leader_state.specs.declared.LogSync.{LogSync}
use Rattle.quorum.specs.declared.Configuration.{Configuration}
use Rattle.leader_state.specs.declared.Depot.{Depot}
use Rattle.leader_state.specs.declared.LeaderState.{LeaderState}
use Rattle.leader_state.specs.State.{fresh, with_of, forget_all, set_latest}
use Rattle.messages.specs.declared.Event.TheVariants as event
use Rattle.messages.specs.declared.PaxosMsg.TheVariants as msg
use Rattle.paxos_box.specs.declared.SequencePaxos.{SequencePaxos}
use Rattle.paxos_box.specs.declared.Sight.{Sight}
use Rattle.paxos_box.specs.declared.CachedPromise.{CachedPromise}
use Rattle.paxos_box.specs.declared.Phase.{Phase}
use Rattle.paxos_box.specs.declared.Phase.TheVariants as phase
use Rattle.record.specs.Record.{load_of}
use Rattle.sends.specs.Sends.{peers_of}
use Rattle.reconnect.specs.Reconnect.{recovering}
use Rattle.follower.specs.Follower.{start_of, count_of, cached_source, prepare_reqs, resend_promise, resend_cached, resend_in, resend_messages_follower}
use Rattle.outcome.specs.Outcome.{drained, restarted}
use Rattle.broken.specs.Broken.{sync_in as heldIn}
use Rattle.outgoing.specs.Perform.{source_of, perform_all}
use Rattle.views.specs.View.{View, held_entries, new_log, new_buffered, cached_list, new_cached, new_best, new_queue, perform_view, Counted}
use Rattle.agreement.specs.Core.{Sizes, Ghost}
use Rattle.agreement.specs.Report.{Answer}
use Rattle.travels.specs.Face.{Face, place, sync_of, sync_in}
use Rattle.travels.specs.Facts.{CachedOk}
use Rattle.travels.specs.Near.{Scene, Well, Next}
use Rattle.travels.proofs.Reply.{t-recovers, restarted_to}
use Rattle.travels.proofs.Note.{Less}
use Rattle.travels.proofs.Cluster.{emptied}
use Rattle.travels.specs.Face as face
use Rattle.faces.specs.Mid.{face_of, mid_sources, mid_face, Ready}
use Rattle.faces.proofs.Push.{found-ready, face-found}
use Rattle.faces.proofs.Sends.{next-plain, each-request, found-well, ignored}

module _ (conf : Configuration) (q₀ : ℕ) (sight : Sight) (es : List ℕ) (v : View) (cnt : Counted v) {z : Sizes} {P : ℕ → Type 0} {b : ℕ} {c : Scene} {g : Ghost ℕ} (few : conf.depots ≤ max_depots) (w : Well z P b c g (face_of v)) where
  abbrev s : SequencePaxos
  s = load_of conf q₀ sight v.node

  found : Well z P b c g (mid_face es v s)
  found = found-well conf q₀ sight es v cnt w

  ready : Ready 0 es v s
  ready = found-ready conf q₀ sight es v cnt

  rest : Next z P b c g (mid_face es v s)
  rest = ignored conf q₀ sight es v cnt w

  -- the cached promise, once more
  told : (x : Option LogSync) → sync_in (start_of x) (take (count_of x) (source_of (cached_source x) (mid_sources es v s.plan.writes))) ≡ sync_of x (held_entries x v.cached)
  told None = refl
  told (Some x) = refl

  again : (p : CachedPromise) → v.node.cached_promise_message ≡ Some p → Next z P b c g (mid_face es v (resend_promise p s))
  again p e =
      next-plain es v p.n.pid (msg.Promise (record { n = p.n; n_accepted = p.n_accepted; decided_idx = p.decided_idx; accepted_idx = p.accepted_idx; log_sync = start_of p.sync })) (cached_source p.sync) (count_of p.sync) s ready (omega arith) rest
      (λ t k. subst (λ j. Answer z rest.ghost p.n b p.n_accepted p.accepted_idx p.decided_idx j) (sym (told p.sync)) ok) (λ j. refl)
    where
      ok : CachedOk z rest.ghost b (Some p) (held_entries p.sync v.cached)
      ok = subst (λ k. CachedOk z rest.ghost b k (held_entries (heldIn k) v.cached)) e rest.well.node.cached

  asks-all : Next z P b c g (mid_face es v (prepare_reqs s))
  asks-all = (each-request es v (peers_of conf) conf.depots s (omega arith) (record { ready = ready; leads = refl; next = rest })).next

  asks-anew : Next z P b c g (mid_face es v (prepare_reqs (recovering s)))
  asks-anew = (each-request es v (peers_of conf) conf.depots (recovering s) (omega arith) (record { ready = record { things = ready.things; room = ready.room; queue = ready.queue }; leads = refl; next = t-recovers found })).next

  pub h-resend-follower : Next z P b c g (mid_face es v (resend_messages_follower s))
  unfolding resend_messages_follower
  h-resend-follower = by v.node.state.phase
    where
      cache : (k : Option CachedPromise) → v.node.cached_promise_message ≡ k → Next z P b c g (mid_face es v (resend_cached k s))
      cache None e = asks-anew
      cache (Some p) e = again p e

      by : (p : Phase) → Next z P b c g (mid_face es v (resend_in p s))
      by phase.Prepare = cache v.node.cached_promise_message refl
      by phase.Recover = asks-all
      by phase.Accept = rest
      by phase.None = rest

-- ---- a restart
abbrev pub fresh_leader : ℕ → LeaderState → LeaderState
fresh_leader depots l = with_of default depots l

pub row_fresh : (depots : ℕ) (l : LeaderState) → length l.depots ≡ max_depots → length (fresh_leader depots l).depots ≡ max_depots
unfolding with_of
row_fresh depots l e = length-on-first depots (λ d. fresh) l.depots ∙ e

pub face-restarted : (conf : Configuration) (q₀ : ℕ) (sight : Sight) (v : View) → face_of (perform_view event.Restart [] (restarted (load_of conf q₀ sight v.node)) v) ≡ restarted_to (fresh_leader conf.depots v.node.leader_state) (face_of v)
unfolding perform_view restarted new_log new_buffered cached_list new_cached new_best new_queue with_of
face-restarted conf q₀ sight v = ap (λ l. restarted_to (fresh_leader conf.depots v.node.leader_state) (face.with_storage v.node.internal_storage l (face_of v))) (append-nil v.log)

-- ---- a drain
pub face-drained : (conf : Configuration) (q₀ : ℕ) (sight : Sight) (v : View) → Counted v → face_of (perform_view event.Drain [] (drained (load_of conf q₀ sight v.node)) v) ≡ emptied (face.with_leader (forget_all conf.depots v.node.leader_state) (face_of v))
unfolding perform_view drained new_log new_buffered cached_list new_cached new_best new_queue perform_all forget_all
face-drained conf q₀ sight v cnt = ap (λ (x : Face). emptied (face.with_leader (forget_all conf.depots v.node.leader_state) x)) (face-found conf q₀ sight [] v cnt)

-- what was remembered for each depot is forgotten
forgot-place : (k t : ℕ) (l : List Depot) → t < k → get_or (on_first k (set_latest None) l) t fresh ≡ set_latest None (get_or l t fresh)
unfolding on_first
forgot-place zero t l h = absurd (omega arith)
forgot-place (suc k) t [] h = refl
forgot-place (suc k) zero (x ∷ l) h = refl
forgot-place (suc k) (suc t) (x ∷ l) h = forgot-place k t l (omega arith)

pub forgets : (z : Sizes) (l : LeaderState) → length l.depots ≡ max_depots → Less z l (forget_all z.depots l)
unfolding forget_all
forgets z l e =
    record {
      row = length-on-first z.depots (set_latest None) l.depots ∙ e;
      ballot = refl;
      best = refl;
      number = λ t u. ap (λ (d : Depot). d.seq_num) (forgot-place z.depots t l.depots u);
      promise = λ t u. inl (ap (λ (d : Depot). d.promise) (forgot-place z.depots t l.depots u));
      latest = λ t u. inr (ap (λ (d : Depot). d.latest) (forgot-place z.depots t l.depots u));
    }

pub forgot : (k t : ℕ) (l : LeaderState) → t < k → place t (forget_all k l) ≡ set_latest None (place t l)
unfolding forget_all
forgot k t l u = forgot-place k t l.depots u
