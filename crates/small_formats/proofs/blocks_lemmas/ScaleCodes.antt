-- The scale of a block, from the binade of its greatest magnitude.
use Rattle.std.proofs.Common.{◌≡◌, ℕ, ◌^◌, ◌≤◌, min, sym, arith, ℤ, pos, negsuc, w32, FitsSigned}
use Rattle.std.proofs.lemmas.Int.{ints}
use Rattle.std.specs.Prelude.{◌≤ℤ◌}
use Rattle.apfloat_model.specs.{rounding.Bounds.IsWithin, arithmetic.Exact.up}
use lib.IntN.{nat_abs}

-- ---- clamping

pub min_left : (a b : ℕ) → a ≤ b → min a b ≡ a
min_left a b l = grind arith

pub min_right : (a b : ℕ) → b ≤ a → min a b ≡ b
min_right a b l = grind arith

-- between both ends the code is the number itself
pub inside : (z : ℤ) → pos 0 ≤ℤ z → z ≤ℤ pos 254 → nat_abs z ≡ min (up z) 254
inside (pos n) l h = let k : n ≤ 254 = omega (arith, ints, h) in sym (min_left n 254 k)
inside (negsuc n) l h = absurd (omega (arith, ints, l))

pub far_fits : (e : ℤ) → IsWithin (2 ^ 24) e → FitsSigned w32 e
far_fits (pos n) w = let high = w.high in record { sfits = omega (arith, ints, high) }
far_fits (negsuc n) w = let low = w.low in record { sfits = omega (arith, ints, low) }
