-- Laws of what waits in no log yet: a message at the queue's end, one changed in its place.
use Prim.Native.Nat.{ℕ, zero, suc, ◌+◌, ◌<◌}
use mathlib.Core.Path.{◌≡◌}
use mathlib.Core.List.{List, [], ◌∷◌, ◌++◌}
use native.Mathlib.Omega.{arith}
use lib.ListN.{length, get_or, set}
use Rattle.outgoing.specs.Queue.{Msg}
use Rattle.agreement.specs.Often.{often}
use Rattle.travels.specs.Outside.{proposals, forwarded}
use Rattle.travels.specs.Facts.{no_msg}

pub forwarded-append : (e : ℕ) (q r : List Msg) → forwarded e (q ++ r) ≡ forwarded e q + forwarded e r
forwarded-append e [] r = omega arith
forwarded-append e (m ∷ q) r = omega (arith, forwarded-append e q r)

-- a message changed in its place
pub forwarded-set : (e : ℕ) (q : List Msg) (k : ℕ) (m : Msg) → k < length q
    → forwarded e (set q k m) + often e (proposals (get_or q k no_msg).msg (get_or q k no_msg).entries) ≡ forwarded e q + often e (proposals m.msg m.entries)
forwarded-set e [] k m l = absurd (omega arith)
forwarded-set e (x ∷ q) zero m l = omega arith
forwarded-set e (x ∷ q) (suc k) m l = omega (arith, forwarded-set e q k m (omega arith))
