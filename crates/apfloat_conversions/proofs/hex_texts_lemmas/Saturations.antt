-- Saturating counts: from some bound on, the exact count makes no difference.
use Rattle.std.proofs.Common.{◌≡◌, ℕ, ◌+◌, ◌*◌, ◌^◌, ◌<◌, true, inl, inr, arith, List, ◌∷◌, ℤ, pos, ◌+ℤ◌, ◌-ℤ◌}
use Rattle.std.proofs.lemmas.Int.{ints}
use Rattle.apfloat_model.specs.{rounding.Bounds.text_bound, texts.Digits.is_decimal, texts.Digits.digit_value}
use Rattle.apfloat_conversions.specs.hex_texts.Saturation.{IsSaturated, IsNear, IsCounted}

-- one more decimal digit is added to a saturating count
pub count_goes : (digits left : List ℕ) (c counted after : ℕ) → is_decimal c ≡ true
    → ((exact : ℕ) → IsSaturated exact counted → IsSaturated (exact * 10 + digit_value c) after) → after < 2 ^ 100
    → IsCounted digits (c ∷ left) counted → IsCounted digits left after
count_goes digits left c counted after d step fits i =
    record {
      read = i.read * 10 + digit_value c;
      saturated = step i.read i.saturated;
      fits = fits;
      number_is = i.number_is;
      every_is = rw d at i.every_is;
    }

-- the exponent of the last digit, computed from a saturated written exponent, is near that from the exact one
pub near_sum : (exact e r : ℤ) (cut places : ℕ) → cut < 2 ^ 64 → places < 2 ^ 64 → IsNear (2 ^ 96) exact e
    → IsNear text_bound ((e +ℤ pos (4 * cut)) -ℤ pos (4 * places)) r
    → IsNear text_bound ((exact +ℤ pos (4 * cut)) -ℤ pos (4 * places)) r
near_sum exact e r cut places a b (inl x) y = rw x at y
near_sum exact e r cut places a b (inr (inl x)) (inl y) =
    inr (inl (omega (arith, ints, x, y), omega (arith, ints, x, y)))
near_sum exact e r cut places a b (inr (inl x)) (inr (inl y)) = inr (inl (y.0, omega (arith, ints, x, y)))
near_sum exact e r cut places a b (inr (inl x)) (inr (inr y)) = absurd (omega (arith, ints, x, y))
near_sum exact e r cut places a b (inr (inr x)) (inl y) =
    inr (inr (omega (arith, ints, x, y), omega (arith, ints, x, y)))
near_sum exact e r cut places a b (inr (inr x)) (inr (inl y)) = absurd (omega (arith, ints, x, y))
near_sum exact e r cut places a b (inr (inr x)) (inr (inr y)) = inr (inr (y.0, omega (arith, ints, x, y)))
