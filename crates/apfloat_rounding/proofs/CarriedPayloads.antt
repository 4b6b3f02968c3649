-- The significands of NaNs, and their payloads in formats of a greater precision.
use Rattle.std.proofs.Common.{◌≡◌, ℕ, Bool, true, false, ◌-◌, ◌*◌, ◌%◌, ◌^◌, ◌<◌, ◌≤◌}
use Rattle.std.proofs.{Common.arith, lemmas.Nat.pow_pos, Math.Nat.mod-eq_of_lt}
use Rattle.apfloat_model.specs.declared.kinds.NonfiniteBehavior.{NonfiniteBehavior}
use Rattle.apfloat_model.specs.declared.kinds.NonfiniteBehavior.TheVariants.{IEEE754, NanOnly, NanNegativeZero}
use Rattle.apfloat_model.specs.formats.Members.{IsNanSignificand}
use Rattle.apfloat_model.proofs.{general.Powers.twice_half, rounding.KeptDigits.fits_shifted}

-- the significand of a NaN has no more digits than the precision
pub nan_fits : (kind : NonfiniteBehavior) (explicit : Bool) (precision s : ℕ) → 3 ≤ precision
    → IsNanSignificand kind explicit precision s → s < 2 ^ precision
nan_fits IEEE754 false precision s l h =
    let t = twice_half precision (omega arith) in
    let a = h.1 in
    omega arith
nan_fits IEEE754 true precision s l h = h.0
nan_fits NanOnly explicit precision s l h =
    let t = twice_half precision (omega arith) in
    let p : 0 < 2 ^ (precision - 1) = pow_pos (precision - 1) in
    omega arith
nan_fits NanNegativeZero explicit precision s l h = let p : 0 < 2 ^ precision = pow_pos precision in omega arith

-- the significand of a NaN, shifted to the greater precision, still fits in the word
pub moved_in : (s p q j : ℕ) → q ≤ 125 → p ≤ 125 → s < 2 ^ p → j ≡ q - p → s * 2 ^ j % 2 ^ 128 ≡ s * 2 ^ (q - p)
moved_in s p q j l m h e =
    let f : s * 2 ^ (q - p) < 2 ^ 125 = fits_shifted s p (q - p) 125 h (omega arith) in
    let g : s * 2 ^ (q - p) < 2 ^ 128 = omega arith in
    rw e (mod-eq_of_lt g)
