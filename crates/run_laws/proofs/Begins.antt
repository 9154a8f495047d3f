-- A history is as long as the decided index; and of two histories, of any two depots at any two moments of one run, one begins with the other.
use Prim.Native.Nat.{ℕ, ◌≤◌, ◌<◌}
use mathlib.Core.Path.{◌≡◌, refl, sym, ap, ◌∙◌}
use mathlib.Core.Logic.{inl, inr}
use mathlib.Core.Bool.{Bool, true, false}
use mathlib.Core.List.{List, ◌++◌}
use native.Mathlib.Omega.{arith}
use lib.Dec.{leb}
use lib.ListN.{length, get_or, take}
use lib.Seq.{length-take-le, get_or-take, ext_get_or, take-take, take_all}
use borrow.Author.Tests.{leb-true, leb-false}
use Rattle.quorum.proofs.Laws.{Stands, stands-says}
use Rattle.views.specs.View.{view_of}
use Rattle.views.proofs.Step.{history-view}
use Rattle.runs.specs.Runs.{Setup, config_of, State, Start, Move, after}
use Rattle.runs.specs.Claim.{decided, history}
use Rattle.runs.proofs.Local.{rises, stays}
use Rattle.safety.proofs.Good.{faces_of, Good, good_start}
use Rattle.safety.proofs.Safe.{good, agree}
use Rattle.run_laws.specs.Begins.{OneBegins}

-- lists that are alike at each of the first n places
front-alike : (n : ℕ) (a b : List ℕ) → n ≤ length a → n ≤ length b → ((k : ℕ) → k < n → get_or a k 0 ≡ get_or b k 0) → take n a ≡ take n b
front-alike n a b p q h =
    ext_get_or 0 (take n a) (take n b) (length-take-le n a p ∙ sym (length-take-le n b q))
    (λ k l.
    let i : k < n = omega (arith, l, length-take-le n a p) in
    get_or-take n a k 0 i ∙ h k i ∙ sym (get_or-take n b k 0 i))

-- h begins a, and a and b are alike as far as both reach
begins-by : (h a b : List ℕ) → length h ≤ length a → take (length h) a ≡ h → ((n : ℕ) → n ≤ length a → n ≤ length b → take n a ≡ take n b) → OneBegins h b
begins-by h a b l e f = by (leb (length h) (length b)) refl
  where
    by : (t : Bool) → leb (length h) (length b) ≡ t → OneBegins h b
    by true p = inl (sym (f (length h) l (leb-true (length h) (length b) p)) ∙ e)
    by false p =
        let k = leb-false (length h) (length b) p in
        let n : length b ≤ length h = omega (arith, k) in
        inr (ap (take (length b)) (sym e) ∙ take-take (length b) (length h) a n ∙ f (length b) (omega arith) (omega arith) ∙ take_all (length b) b (omega arith))

-- a depot's decided entries are those of its face, which has as many
long-good : {z : Setup} {s : Stands (config_of z 0)} {σ : State} → Good z s σ → (i : ℕ) → i < z.depots → length (history σ i) ≡ decided σ i
unfolding view_of
long-good {z} {s} {σ} o i u =
    let node = o.total.base.node i u in
    ap length (history-view (σ.depot i) (decided σ i) (omega (arith, node.own.holds.fits, node.own.length)))
    ∙ length-take-le (decided σ i) (faces_of σ.depot i).log (omega (arith, node.own.holds.fits, node.own.length))

pub long : (z : Setup) (σ : State) → Start z σ → (ms : List Move) (i : ℕ) → i < z.depots → length (history (after z ms σ) i) ≡ decided (after z ms σ) i
long z σ o ms i u =
    let s : Stands (config_of z 0) = stands-says (config_of z 0) (o.stands 0 (omega arith)) in
    long-good (good z s ms σ (good_start z s σ o)) i u

module _ (z : Setup) (σ : State) (o : Start z σ) (ms ns : List Move) where
  fronts : (i j : ℕ) → i < z.depots → j < z.depots → (n : ℕ) → n ≤ length (history (after z (ms ++ ns) σ) i) → n ≤ length (history (after z (ms ++ ns) σ) j) → take n (history (after z (ms ++ ns) σ) i) ≡ take n (history (after z (ms ++ ns) σ) j)
  fronts i j u w n p q =
      let a = long z σ o (ms ++ ns) i u in
      let b = long z σ o (ms ++ ns) j w in
      front-alike n (history (after z (ms ++ ns) σ) i) (history (after z (ms ++ ns) σ) j) p q (λ k l. agree z σ o (ms ++ ns) i j k u w (omega (arith, l, p, a)) (omega (arith, l, q, b)))

  pub begins : (i j : ℕ) → i < z.depots → j < z.depots → OneBegins (history (after z ms σ) i) (history (after z (ms ++ ns) σ) j)
  begins i j u w =
      let a = long z σ o ms i u in
      begins-by (history (after z ms σ) i) (history (after z (ms ++ ns) σ) i) (history (after z (ms ++ ns) σ) j)
      (omega (arith, a, long z σ o (ms ++ ns) i u, rises z σ ms ns i))
      (rw a (stays z σ ms ns i))
      (fronts i j u w)
