-- The sign of a text.
use Rattle.std.proofs.Common.{◌≡◌, ℕ, ◌≤◌, Bool, true, false, cond, refl, List, [], ◌∷◌, arith, drop, get_or, length}
use Rattle.std.specs.Prelude.{◌||◌, eqb}
use Rattle.apfloat_model.specs.texts.Specials.{after_mark}

-- a text without its sign, which has one character or none
pub sign_dropped : (text : List ℕ) (is : Bool) (n : ℕ) → 1 ≤ length text
    → is ≡ (eqb (get_or text 0 0) 45 || eqb (get_or text 0 0) 43) → n ≡ cond is 1 0
    → (n ≤ length text) × (drop n text ≡ after_mark text)
sign_dropped [] is n l e m = absurd (omega (arith, l))
sign_dropped (c ∷ text) true n l e m = (omega (arith, m), rw (m, ← e) refl)
sign_dropped (c ∷ text) false n l e m = (omega (arith, m), rw (m, ← e) refl)
