-- Texts put into a buffer one after the other.
use Prim.Native.Nat.{ℕ, ◌+◌, ◌≤◌}
use native.Mathlib.Nat.{add-suc, suc-add, add-zero, zero-add}
use native.Mathlib.Omega.{arith}
use mathlib.Core.Path.{◌≡◌, refl, ap, ◌∙◌}
use mathlib.Core.List.{List, [], ◌∷◌, ◌++◌}
use lib.ListN.{length, drop, length-append}
use lib.Seq.{sets, length-sets, sets-eq}
use borrow.Rule.Slice.PartMut.{put_mid}
use Rattle.std.proofs.Common.{append_assoc}
use Rattle.std.proofs.lemmas.Slice.{put_mid-paste}
use Rattle.std.proofs.lemmas.List.Edits.{paste_all}
use Rattle.decimal.specs.Text.{Put}

pub sets-append : (a b out : List ℕ) (at : ℕ) → sets out at (a ++ b) ≡ sets (sets out at a) (at + length a) b
sets-append [] b out at = rw (add-zero at)
sets-append (x ∷ a) b out at = rw (sets-append a b, suc-add, add-suc)

-- the buffer keeps its length
pub put-length : (a : List ℕ) {found left : List ℕ} {at next : ℕ} → Put found at a next left → length left ≡ length found
put-length a p = ap length p.bytes ∙ simp length-sets

-- two texts, one after the other, are the one text that they make
pub put-after : (a b : List ℕ) {found mid left : List ℕ} {at between next : ℕ} → Put found at a between mid → Put mid between b next left → Put found at (a ++ b) next left
put-after a b {found} {mid} {left} {at} p q =
    record {
      room = rw (length-append a b) (omega (arith, put-length a p, q.room, p.place));
      place = rw (q.place, p.place, length-append) (omega arith);
      bytes = q.bytes ∙ rw (sets-append a b found at, p.place, p.bytes);
    }

-- a text copied onto its part of the buffer
pub put-copied : (text copied : List ℕ) (at n : ℕ) {found : List ℕ} → at + length text ≤ length found → copied ≡ text → n ≡ length text → Put found at text (at + length text) (put_mid at n found copied)
put-copied text copied at n {found} h e q =
    record {
      room = h;
      place = refl;
      bytes = put_mid-paste at n found copied text n e refl q ∙ paste_all found at text n q ∙ rw (sets-eq text found at h, q, append_assoc);
    }

-- a text put at the start
pub put-start : (text : List ℕ) {found left : List ℕ} {next : ℕ} → Put found 0 text next left → left ≡ text ++ drop (length text) found
put-start text {found} p = p.bytes ∙ sets-eq text found 0 p.room ∙ rw (zero-add)
