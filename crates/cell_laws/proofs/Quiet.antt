-- Along every step that brings no sync nothing is written to the held sync's buffer.
use Rattle.std.specs.Prelude.{Option, None, Some}
use Prim.Native.Nat.{ℕ}
use mathlib.Core.Path.{◌≡◌, refl, sym, subst}
use mathlib.Core.Bool.{Bool, true, false}
use mathlib.Core.List.{List}
use native.Mathlib.Omega.{arith}
use lib.Dec.{ltb, leb}
use Rattle.base.specs.Limits.{largest}
use Rattle.leader_state.specs.declared.LogSync.{LogSync}
use Rattle.quorum.specs.declared.Configuration.{Configuration}
use Rattle.leader_state.specs.State.{next_counter}
use Rattle.leader_state.specs.Promises.{beats_best}
use Rattle.messages.specs.declared.Event.{Event}
use Rattle.paxos_box.specs.declared.SequencePaxos.{SequencePaxos}
use Rattle.paxos_box.specs.declared.Plan.{Plan}
use Rattle.paxos_box.specs.declared.Send.{Send}
use Rattle.paxos_box.specs.declared.Writes.{Writes}
use Rattle.paxos_box.specs.Box.{at_top, planned, push_of, set_buffered, set_meta, next_place}
use Rattle.sends.specs.Sends.{the_depot, on_depot, next_seq_num_of, set_latest_of, send_prepare, push_acc_sync, join_to, push_accept_decide, new_accept_decide, push_decide, send_prepare_req}
use Rattle.log_plan.specs.Log.{sync_log, append_given, append_buffered, buffer_given}
use Rattle.leader.specs.Leader.{own_promise, keep_promise, keep_sync}
use Rattle.accepting.specs.Accepting.{send_accepted}
use Rattle.follower.specs.Follower.{cache_promise}
use Rattle.sight.specs.Sight.{brought}
use Rattle.decide_laws.proofs.Grown.{either}
use Rattle.step_laws.proofs.Moves.{Holds, Closed}

-- of a box's configuration and of what it plans to write
pub record Unheld (c cfg : Configuration) (w : Writes) : Type 0 where
  pub config : cfg ≡ c
  pub best : w.best ≡ None

-- however many things it plans to send
abbrev pub Quiet : Configuration → ℕ → SequencePaxos → Type 0
Quiet c k s = Unheld c s.config s.plan.writes

same_writes : (m : Send) (p : Plan) → (planned m p).writes ≡ p.writes
unfolding planned
same_writes m p = either (λ (x : Plan). x.writes ≡ p.writes) (ltb p.sends.count 8) _ p (λ t. refl) (λ t. refl)

pub push : (c : Configuration) (m : Send) (s : SequencePaxos) → Quiet c 0 s → Quiet c 0 (push_of m s)
unfolding push_of
push c m s p = subst (Unheld c s.config) (sym (same_writes m s.plan)) p

accepts : (c : Configuration) (from count to : ℕ) (s : SequencePaxos) → Quiet c 0 s → Quiet c 0 (new_accept_decide from count to s)
unfolding new_accept_decide push_accept_decide next_seq_num_of
accepts c from count to s p =
    let t = set_latest_of to (Some (next_place s)) s in
    either (λ (r : SequencePaxos). Quiet c 0 (push_accept_decide from count to r)) (leb largest (the_depot to t).seq_num.counter) (at_top t) (on_depot to next_counter t)
    (λ a. push c _ (at_top t) p)
    (λ a. push c _ (on_depot to next_counter t) p)

module _ (c : Configuration) (e : Event) (entries : List ℕ) (found : SequencePaxos) (none : brought e ≡ None) where
  hold : (b : Bool) (x : Option LogSync) (s : SequencePaxos) → Holds e entries x → Quiet c 0 s → Quiet c 0 (keep_sync b x s)
  hold true (Some x) s h p = absurd (by h.0.start)
    where
      by : brought e ≡ Some x.sync_idx → ⊥
      by q = let z : ◌≡◌ {A = ℕ} 0 1 = cc in omega arith
  hold true None s h p = record { config = p.config; best = refl }
  hold false x s h p = p

  pub quiet-closed : Closed c e entries found (Quiet c)
  unfolding own_promise sync_log append_given append_buffered buffer_given send_prepare send_prepare_req push_acc_sync join_to push_decide send_accepted cache_promise
  quiet-closed =
      record {
        more = λ k n s h p. p;
        config = λ k s p. p.config;
        not-fit = λ k s p. p;
        at_top = λ k s p. p;
        follow = λ k f s p. p;
        lead = λ k s l p. p;
        lead-on = λ k s l p. p;
        number = λ k q s p. p;
        promises = λ k n s r p. p;
        decides = λ k idx s z l h p. p;
        leads-anew = λ n s r l p. p;
        promises-itself = λ s p. p;
        keeps = λ m s d r p. p;
        keeps-held = λ m x s d r h u p. hold (beats_best m s.leader_state) x (keep_promise m x true s) h p;
        keeps-put = λ m x s d r p. p;
        changes-place = λ k to f s d m p. p;
        puts_none = λ n d s u r h p. record { config = p.config; best = p.best };
        puts-given = λ n d b x s u r g f h p. record { config = p.config; best = p.best };
        puts-held = λ n d b x s u r g f h p. record { config = p.config; best = p.best };
        appends = λ s u f p. record { config = p.config; best = p.best };
        joins-buffered = λ s z n b p. record { config = p.config; best = p.best };
        buffers = λ s u b f p. record { config = p.config; best = p.best };
        forgets-cached = λ s p. p;
        sends-prepare = λ k to s h p. push c _ s p;
        sends-request = λ k to s h p. push c _ s p;
        sends-sync = λ k from to s h p. push c _ s p;
        sends-entries = λ k from count to s h d l p. accepts c from count to s p;
        sends-join = λ k from count to at s h l p. push c _ s p;
        sends-decide = λ k to s h p. push c _ s p;
        tells-promise = λ to x s w d u p. push c _ (cache_promise x s) (record { config = p.config; best = p.best });
        tells-again = λ to m s h u p. push c _ s p;
        tells-higher = λ k n s h p. push c _ s p;
        sends-accepted = λ k n idx to s h r p. push c _ (set_meta (Some (record { n = n; at = next_place s })) s) p;
        raises-accepted = λ k n at idx s h p. push c _ s p;
        forwards = λ k s h f p. push c _ s p;
        forwards-buffered = λ k s h n b p. push c _ (set_buffered 0 s) p;
      }
