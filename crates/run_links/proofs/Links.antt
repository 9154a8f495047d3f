-- What the runs break, from what is seen of the depots.
use Prim.Native.Nat.{ℕ, ◌≤◌}
use mathlib.Core.Path.{◌≡◌, refl, ap}
use mathlib.Core.List.{List, [], ◌∷◌, map}
use native.Mathlib.Omega.{arith}
use Rattle.agreement.specs.Often.{often}
use Rattle.runs.specs.Runs.{Setup, State, Move, moved, after}
use Rattle.runs.specs.Claim.{history}
use Rattle.run_cases.specs.Seen.{two, three, all, having, Agree}
use Rattle.run_cases.specs.Moves.{out, other}
use Rattle.run_cases.proofs.Seen.{seen_at, differ}
use Rattle.run_cases.proofs.Parted.{parted-differ}
use Rattle.run_links.specs.Loose.{keeps, moved_loose, after_loose}
use Rattle.run_links.specs.Links.{Links, Sparing, overtaken, copied, repeated, altered}
use Rattle.run_links.proofs.Runs.{overtaken-parts, copied-parts, repeated-twice, repeated-proposed, altered-parts}

keeping : (z : Setup) (ms : List Move) (σ : State) → after_loose z (map keeps ms) σ ≡ after z ms σ
unfolding after_loose moved_loose after
keeping z [] σ = refl
keeping z (m ∷ ms) σ = keeping z ms (moved z m σ)

altered-breaks : ¬ Agree two altered
altered-breaks =
    differ two altered 0 1 0 (having 1 (out ∷ [])) (having 1 (other ∷ []))
    (seen_at two altered (having 1 (out ∷ []) ∷ having 1 (other ∷ []) ∷ []) altered-parts 0 (omega arith))
    (seen_at two altered (having 1 (out ∷ []) ∷ having 1 (other ∷ []) ∷ []) altered-parts 1 (omega arith))
    (omega arith) (omega arith) (omega arith) (omega arith) (λ p. omega (arith, p))

-- an entry that a depot is seen to have decided twice, where it was proposed once
more : (l m : List ℕ) → l ≡ out ∷ out ∷ [] → m ≡ out ∷ [] → ¬ (often out l ≤ often out m)
more l m e f h =
    let p : often out l ≡ 2 = ap (often out) e in
    let q : often out m ≡ 1 = ap (often out) f in
    omega (arith, h, p, q)

twice-breaks : (σ : State) → all two σ ≡ having 2 (out ∷ out ∷ []) ∷ having 0 [] ∷ [] → σ.proposed ≡ out ∷ [] → ¬ Sparing two σ
twice-breaks σ e p sparing =
    more (history σ 0) σ.proposed (ap (λ x. x.history) (seen_at two σ (having 2 (out ∷ out ∷ []) ∷ having 0 [] ∷ []) e 0 (omega arith))) p (sparing 0 out (omega arith))

pub links : Links
links =
    record {
      keeping = keeping;
      overtaken-parts = overtaken-parts;
      overtaken-breaks = parted-differ three overtaken (having 0 []) [] (omega arith) overtaken-parts;
      copied-parts = copied-parts;
      copied-breaks = parted-differ three copied (having 0 []) [] (omega arith) copied-parts;
      repeated-twice = repeated-twice;
      repeated-proposed = repeated-proposed;
      repeated-breaks = twice-breaks repeated repeated-twice repeated-proposed;
      altered-parts = altered-parts;
      altered-breaks = altered-breaks;
    }
