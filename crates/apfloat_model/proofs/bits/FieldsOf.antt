-- The fields of each kind of datum, and that the bits written from them encode it.
use Rattle.std.proofs.Common.{◌≡◌, ℕ, ◌+◌, ◌-◌, ◌*◌, ◌^◌, ◌<◌, ◌≤◌, Bool, true, false, cond, eqb, sym, refl, ap, ◌∙◌}
use Rattle.std.proofs.{Common.subst, Common.⊎_elim, Common.arith, lemmas.Nat.pow_pos, lemmas.Nat.pow-add}
use Rattle.std.proofs.lemmas.Bool.{cases_eq, cases_lt, eq-eqb, ne_eqb, le-leb, lt-ltb, and_left, and_right}
use Rattle.std.proofs.Math.Nat.{pow-le-pow_right, mul-le-mul_right, mul-le-mul_left, mul-lt-mul_of_pos_right}
use Rattle.std.proofs.Math.Nat.{le_of_mul-le-mul_right, add-sub_of_le}
use Rattle.std.specs.Prelude.{◌&&◌, IsTrue}
use Rattle.apfloat_model.specs.{formats.Lawful.MayBeExplicit, rounding.Rounding.zero_sign}
use Rattle.apfloat_model.specs.declared.kinds.NonfiniteBehavior.{NonfiniteBehavior}
use Rattle.apfloat_model.specs.declared.kinds.NonfiniteBehavior.TheVariants.{IEEE754, NanOnly, NanNegativeZero}
use Rattle.apfloat_model.specs.formats.{Datum.Datum, Datum.finite, Datum.infinite, Datum.nan, Members.IsNanSignificand}
use Rattle.apfloat_model.specs.formats.Format.{Format, smallest_normalized, largest, greatest_significand}
use Rattle.apfloat_model.specs.bits.Layout.{Layout, Fields, all_ones, trailing_bits, implied_datum, written_datum}
use Rattle.apfloat_model.specs.bits.Layout.{datum_of_fields, is_canonical, is_canonical_written, IsEncodedBy}
use Rattle.apfloat_model.specs.bits.Interchange.{IsInterchange, AreFieldsOf, bits_of_fields}
use Rattle.apfloat_model.proofs.general.{Powers.two_pos, Powers.twice_half, Choices.eqb_self}
use Rattle.apfloat_model.proofs.formats.Greatest.{greatest_fits}
use Rattle.apfloat_model.proofs.bits.{Encodings.fields_back, Encodings.bits_below, EncodedOnce.fields_with}
use mathlib.Core.Bool.{true≢false}

-- the bits of the fields of a datum encode it
pub fields_encode : (format : Format) (layout : Layout) (fields : Fields) (datum : Datum) → IsInterchange format layout
    → AreFieldsOf format layout fields datum → IsEncodedBy format layout (bits_of_fields format layout fields) datum
fields_encode format layout fields datum law h =
    let b = fields_back format layout law fields h.within in
    record {
      below = bits_below format layout law fields h.within;
      canonical = subst (λ (y : Fields). IsTrue (is_canonical format layout y)) (sym b) h.canonical;
      is = ap (datum_of_fields format layout) b ∙ h.is;
    }

-- ---- each layout

-- a positive number of ones is not 0
ones_some : (k : ℕ) → 1 ≤ k → 1 ≤ all_ones k
ones_some k h = let m : 2 ^ 1 ≤ 2 ^ k = pow-le-pow_right two_pos h in omega arith

-- `k` ones fit in `k` digits
ones_fit : (k : ℕ) → all_ones k < 2 ^ k
ones_fit k = let p : 0 < 2 ^ k = pow_pos k in omega arith

-- a number that fits the trailing bits fits its field, with or without an explicit integer bit
width_low : (explicit : Bool) (p n : ℕ) → n < 2 ^ (p - 1) → n < 2 ^ cond explicit p (p - 1)
width_low true p n h = let m : 2 ^ (p - 1) ≤ 2 ^ p = pow-le-pow_right two_pos (omega arith) in omega arith
width_low false p n h = h

-- a significand, without its integer bit if that is implied, fits its field
width_high : (explicit : Bool) (p m : ℕ) → 1 ≤ p → m < 2 ^ p
    → m - cond explicit 0 (2 ^ (p - 1)) < 2 ^ cond explicit p (p - 1)
width_high true p m o h = omega arith
width_high false p m o h = let t = twice_half p o in let q : 0 < 2 ^ (p - 1) = pow_pos (p - 1) in omega arith

-- ---- numbers below the smallest normalized one

-- a zero may have a minus sign only if the format has a negative zero
abbrev pub MayHaveSign : NonfiniteBehavior → Bool → ℕ → Type 0
MayHaveSign kind b n = n ≡ 0 → b ≡ zero_sign kind b

-- the fields of a number below the smallest normalized one are read as that number
low_is : (explicit : Bool) (kind : NonfiniteBehavior) (format : Format) (layout : Layout) (negative : Bool) (n : ℕ)
    → eqb 0 (all_ones layout.exponent_bits) ≡ false
    → MayHaveSign kind negative n → cond explicit (written_datum format layout (fields_with negative 0 n))
    (implied_datum kind format layout (fields_with negative 0 n)) ≡ finite negative n
low_is true kind format layout b n e h = rw e refl
low_is false IEEE754 format layout b n e h = rw e refl
low_is false NanOnly format layout b n e h = rw e refl
low_is false NanNegativeZero format layout false n e h = refl
low_is false NanNegativeZero format layout true n e h =
    ⊎_elim (λ (z : n ≡ 0). absurd (true≢false (h z))) (λ (k : n ≡ 0 → ⊥). rw (ne_eqb n 0 k) refl) (cases_eq n 0)

-- the fields of a number below the smallest normalized one are canonical
low_canonical : (explicit : Bool) (format : Format) (layout : Layout) (negative : Bool) (n : ℕ)
    → eqb 0 (all_ones layout.exponent_bits) ≡ false → n < smallest_normalized format
    → cond explicit (is_canonical_written format layout (fields_with negative 0 n)) true ≡ true
low_canonical true format layout b n e h = rw (e, lt-ltb n (smallest_normalized format) h) refl
low_canonical false format layout b n e h = refl

-- the fields of zeros and denormal numbers
pub low_fields_of : (format : Format) (layout : Layout) (negative : Bool) (n : ℕ) → IsInterchange format layout
    → n < smallest_normalized format → MayHaveSign format.nonfinite negative n
    → AreFieldsOf format layout (fields_with negative 0 n) (finite negative n)
low_fields_of format layout b n law h s =
    let e : eqb 0 (all_ones layout.exponent_bits) ≡ false =
    ne_eqb 0 (all_ones layout.exponent_bits) (λ z. omega (arith, z, ones_some layout.exponent_bits law.some)) in
    record {
      within = record {
        biased_exponent = pow_pos layout.exponent_bits;
        trailing = width_low format.explicit_integer_bit format.precision n h;
      };
      canonical = low_canonical format.explicit_integer_bit format layout b n e h;
      is = low_is format.explicit_integer_bit format.nonfinite format layout b n e s;
    }

-- ---- numbers with their integer bit

-- the exponent and the significand are not those of an infinity or a NaN
abbrev IsNoSpecial : NonfiniteBehavior → Format → Layout → ℕ → ℕ → Type 0
IsNoSpecial IEEE754 f layout e m = eqb e (all_ones layout.exponent_bits) ≡ false
IsNoSpecial NanOnly f layout e m =
    (eqb e (all_ones layout.exponent_bits) && eqb (m - smallest_normalized f) (all_ones (f.precision - 1))) ≡ false
IsNoSpecial NanNegativeZero f layout e m = eqb e 0 ≡ false

-- the fields of a normalized number are read as that number
high_is : (explicit : Bool) (kind : NonfiniteBehavior) (format : Format) (layout : Layout) (negative : Bool) (j m : ℕ)
    → MayBeExplicit kind explicit → smallest_normalized format ≤ m → IsNoSpecial kind format layout (j + 1) m
    → cond explicit (written_datum format layout
    (fields_with negative (j + 1) (m - cond explicit 0 (smallest_normalized format))))
    (implied_datum kind format layout (fields_with negative (j + 1) (m - cond explicit 0 (smallest_normalized format))))
    ≡ finite negative (m * 2 ^ j)
high_is true IEEE754 format layout b j m may low n =
    let z : m - 0 ≡ m = omega arith in
    let y : j + 1 - 1 ≡ j = omega arith in
    rw (z, n, ne_eqb (j + 1) 0 (λ q. omega (arith, q)), le-leb (smallest_normalized format) m low, y) refl
high_is true NanOnly format layout b j m may low n = absurd (true≢false may)
high_is true NanNegativeZero format layout b j m may low n = absurd (true≢false may)
high_is false IEEE754 format layout b j m may low n =
    let y : j + 1 - 1 ≡ j = omega arith in
    rw (n, ne_eqb (j + 1) 0 (λ q. omega (arith, q)), add-sub_of_le low, y) refl
high_is false NanOnly format layout b j m may low n =
    let y : j + 1 - 1 ≡ j = omega arith in
    rw (n, ne_eqb (j + 1) 0 (λ q. omega (arith, q)), add-sub_of_le low, y) refl
high_is false NanNegativeZero format layout true j m may low n =
    let y : j + 1 - 1 ≡ j = omega arith in
    rw (n, add-sub_of_le low, y) refl
high_is false NanNegativeZero format layout false j m may low n =
    let y : j + 1 - 1 ≡ j = omega arith in
    rw (n, add-sub_of_le low, y) refl

-- the fields of a normalized number are canonical
high_canonical : (explicit : Bool) (kind : NonfiniteBehavior) (format : Format) (layout : Layout) (negative : Bool)
    (j m : ℕ) → MayBeExplicit kind explicit → smallest_normalized format ≤ m → IsNoSpecial kind format layout (j + 1) m
    → cond explicit (is_canonical_written format layout
    (fields_with negative (j + 1) (m - cond explicit 0 (smallest_normalized format)))) true ≡ true
high_canonical true IEEE754 format layout b j m may low n =
    let z : m - 0 ≡ m = omega arith in
    rw (z, n, ne_eqb (j + 1) 0 (λ q. omega (arith, q)), le-leb (smallest_normalized format) m low) refl
high_canonical true NanOnly format layout b j m may low n = absurd (true≢false may)
high_canonical true NanNegativeZero format layout b j m may low n = absurd (true≢false may)
high_canonical false kind format layout b j m may low n = refl

module _ (format : Format) (layout : Layout) (law : IsInterchange format layout) where
  -- the place of a number within the largest value is within the span
  place_within : (j m : ℕ) → smallest_normalized format ≤ m → m * 2 ^ j ≤ largest format → j ≤ format.span
  place_within j m low top =
      let t : 2 * 2 ^ (format.precision - 1) ≡ 2 ^ format.precision =
      twice_half format.precision (omega (arith, law.precise)) in
      let g = greatest_fits format.nonfinite format.precision in
      ⊎_elim
      (λ (h : format.span < j).
      let a : 2 ^ (format.span + 1) ≤ 2 ^ j = pow-le-pow_right two_pos (omega arith) in
      let b : 2 ^ (format.span + 1) ≡ 2 ^ format.span * 2 = pow-add 2 format.span 1 in
      let c : smallest_normalized format * 2 ^ j ≤ m * 2 ^ j = mul-le-mul_right (2 ^ j) low in
      let d : 2 ^ (format.precision - 1) * (2 ^ format.span * 2) ≤ 2 ^ (format.precision - 1) * 2 ^ j =
      mul-le-mul_left (2 ^ (format.precision - 1)) (omega arith) in
      let e : greatest_significand format.nonfinite format.precision * 2 ^ format.span
      < 2 ^ format.precision * 2 ^ format.span =
      mul-lt-mul_of_pos_right g (pow_pos format.span) in
      let k : 2 ^ format.precision * 2 ^ format.span ≡ 2 * 2 ^ (format.precision - 1) * 2 ^ format.span =
      ap (λ (x : ℕ). x * 2 ^ format.span) (sym t) in
      absurd (omega arith))
      (λ (h : j ≤ format.span). h)
      (cases_lt format.span j)

  -- the biased exponent fits its field
  exponent_fits : (kind : NonfiniteBehavior) (j : ℕ) → format.nonfinite ≡ kind → j ≤ format.span
      → j + 1 < 2 ^ layout.exponent_bits
  exponent_fits IEEE754 j k h = let s : format.span + 3 ≡ 2 ^ layout.exponent_bits + 0 = rw k at law.span in omega arith
  exponent_fits NanOnly j k h = let s : format.span + 3 ≡ 2 ^ layout.exponent_bits + 1 = rw k at law.span in omega arith
  exponent_fits NanNegativeZero j k h = let s : format.span + 3 ≡ 2 ^ layout.exponent_bits + 1 = rw k at law.span in
      omega arith

  -- the fields of a number are not those of an infinity or a NaN
  no_special : (kind : NonfiniteBehavior) (j m : ℕ) → format.nonfinite ≡ kind → smallest_normalized format ≤ m
      → m * 2 ^ j ≤ largest format → j ≤ format.span → IsNoSpecial kind format layout (j + 1) m
  no_special IEEE754 j m k low top high =
      let s : format.span + 3 ≡ 2 ^ layout.exponent_bits + 0 = rw k at law.span in
      ne_eqb (j + 1) (all_ones layout.exponent_bits) (λ q. omega (arith, q, s))
  no_special NanOnly j m k low top high =
      let s : format.span + 3 ≡ 2 ^ layout.exponent_bits + 1 = rw k at law.span in
      ⊎_elim
      (λ (q : j + 1 ≡ all_ones layout.exponent_bits).
      let r : j ≡ format.span = omega (arith, q, s) in
      let t : m * 2 ^ format.span ≤ (2 ^ format.precision - 2) * 2 ^ format.span = rw (k, r) at top in
      let w = twice_half format.precision (omega (arith, law.precise)) in
      and_right _ _ (ne_eqb (m - smallest_normalized format) (all_ones (format.precision - 1))
      (λ v. omega (arith, v, le_of_mul-le-mul_right t (pow_pos format.span), w, pow_pos (format.precision - 1)))))
      (λ (q : j + 1 ≡ all_ones layout.exponent_bits → ⊥).
      and_left _ _ (ne_eqb (j + 1) (all_ones layout.exponent_bits) q))
      (cases_eq (j + 1) (all_ones layout.exponent_bits))
  no_special NanNegativeZero j m k low top high = ne_eqb (j + 1) 0 (λ q. omega (arith, q))

  -- the fields of normalized numbers
  pub high_fields_of : (negative : Bool) (j m : ℕ) → smallest_normalized format ≤ m
      → m < 2 ^ format.precision → m * 2 ^ j ≤ largest format → AreFieldsOf format layout (fields_with negative (j + 1)
      (m - cond format.explicit_integer_bit 0 (smallest_normalized format))) (finite negative (m * 2 ^ j))
  high_fields_of b j m low high top =
      let h = place_within j m low top in
      let n = no_special format.nonfinite j m refl low top h in
      record {
        within = record {
          biased_exponent = exponent_fits format.nonfinite j refl h;
          trailing = width_high format.explicit_integer_bit format.precision m (omega (arith, law.precise)) high;
        };
        canonical = high_canonical format.explicit_integer_bit format.nonfinite format layout b j m law.explicit low n;
        is = high_is format.explicit_integer_bit format.nonfinite format layout b j m law.explicit low n;
      }

-- ---- infinities and NaNs

-- the fields of an infinity are read as that infinity
infinity_is : (explicit : Bool) (kind : NonfiniteBehavior) (format : Format) (layout : Layout) (negative : Bool)
    → kind ≡ IEEE754 → cond explicit (written_datum format layout
    (fields_with negative (all_ones layout.exponent_bits) (cond explicit (smallest_normalized format) 0)))
    (implied_datum kind format layout
    (fields_with negative (all_ones layout.exponent_bits) (cond explicit (smallest_normalized format) 0)))
    ≡ infinite negative
infinity_is true IEEE754 format layout b k =
    rw (eqb_self (all_ones layout.exponent_bits), eqb_self (smallest_normalized format)) refl
infinity_is false IEEE754 format layout b k = rw (eqb_self (all_ones layout.exponent_bits)) refl
infinity_is true NanOnly format layout b k = cc
infinity_is false NanOnly format layout b k = cc
infinity_is true NanNegativeZero format layout b k = cc
infinity_is false NanNegativeZero format layout b k = cc

-- fields with the greatest exponent are canonical
ones_canonical : (explicit : Bool) (format : Format) (layout : Layout) (negative : Bool) (t : ℕ)
    → cond explicit (is_canonical_written format layout (fields_with negative (all_ones layout.exponent_bits) t)) true
    ≡ true
ones_canonical true format layout b t = rw (eqb_self (all_ones layout.exponent_bits)) refl
ones_canonical false format layout b t = refl

-- the significand of an infinity fits its field
width_of_infinity : (explicit : Bool) (p : ℕ) → 1 ≤ p → cond explicit (2 ^ (p - 1)) 0 < 2 ^ cond explicit p (p - 1)
width_of_infinity true p h = let t = twice_half p h in let q : 0 < 2 ^ (p - 1) = pow_pos (p - 1) in omega arith
width_of_infinity false p h = pow_pos (p - 1)

-- the fields of infinities
pub infinity_fields_of : (format : Format) (layout : Layout) (negative : Bool) → IsInterchange format layout
    → format.nonfinite ≡ IEEE754 → AreFieldsOf format layout (fields_with negative (all_ones layout.exponent_bits)
    (cond format.explicit_integer_bit (smallest_normalized format) 0)) (infinite negative)
infinity_fields_of format layout b law k = record {
  within = record {
    biased_exponent = ones_fit layout.exponent_bits;
    trailing = width_of_infinity format.explicit_integer_bit format.precision (omega (arith, law.precise));
  };
  canonical = ones_canonical format.explicit_integer_bit format layout b _;
  is = infinity_is format.explicit_integer_bit format.nonfinite format layout b k;
}

-- the fields of a NaN are read as that NaN
nan_is : (explicit : Bool) (kind : NonfiniteBehavior) (format : Format) (layout : Layout) (negative : Bool) (s : ℕ)
    → format.nonfinite ≡ kind → (kind ≡ NanNegativeZero → ⊥) → MayBeExplicit kind explicit
    → IsNanSignificand kind explicit format.precision s
    → cond explicit (written_datum format layout (fields_with negative (all_ones layout.exponent_bits) s))
    (implied_datum kind format layout (fields_with negative (all_ones layout.exponent_bits) s)) ≡ nan negative s
nan_is true IEEE754 format layout b s k n may h =
    rw (eqb_self (all_ones layout.exponent_bits), ne_eqb s (smallest_normalized format) h.1) refl
nan_is false IEEE754 format layout b s k n may h =
    rw (eqb_self (all_ones layout.exponent_bits), ne_eqb s 0 (λ z. omega (arith, z, h.0))) refl
nan_is true NanOnly format layout b s k n may h = absurd (true≢false may)
nan_is false NanOnly format layout b s k n may h =
    rw (eqb_self (all_ones layout.exponent_bits), eq-eqb s (all_ones (format.precision - 1)) h, k) (ap (nan b) (sym h))
nan_is explicit NanNegativeZero format layout b s k n may h = absurd (n refl)

-- the significand of a NaN fits its field
width_of_nan : (explicit : Bool) (kind : NonfiniteBehavior) (p s : ℕ) → (kind ≡ NanNegativeZero → ⊥)
    → MayBeExplicit kind explicit → IsNanSignificand kind explicit p s → s < 2 ^ cond explicit p (p - 1)
width_of_nan true IEEE754 p s n may h = h.0
width_of_nan false IEEE754 p s n may h = h.1
width_of_nan true NanOnly p s n may h = absurd (true≢false may)
width_of_nan false NanOnly p s n may h = let q : 0 < 2 ^ (p - 1) = pow_pos (p - 1) in omega (arith, h)
width_of_nan explicit NanNegativeZero p s n may h = absurd (n refl)

-- the fields of a NaN have the greatest exponent
pub nan_fields_of : (format : Format) (layout : Layout) (negative : Bool) (s : ℕ) → IsInterchange format layout
    → (format.nonfinite ≡ NanNegativeZero → ⊥)
    → IsNanSignificand format.nonfinite format.explicit_integer_bit format.precision s
    → AreFieldsOf format layout (fields_with negative (all_ones layout.exponent_bits) s) (nan negative s)
nan_fields_of format layout b s law n h = record {
  within = record {
    biased_exponent = ones_fit layout.exponent_bits;
    trailing = width_of_nan format.explicit_integer_bit format.nonfinite format.precision s n law.explicit h;
  };
  canonical = ones_canonical format.explicit_integer_bit format layout b s;
  is = nan_is format.explicit_integer_bit format.nonfinite format layout b s refl n law.explicit h;
}

-- if -0 is the NaN, its fields are read as the NaN
one_nan_is : (explicit : Bool) (kind : NonfiniteBehavior) (format : Format) (layout : Layout) → format.nonfinite ≡ kind
    → kind ≡ NanNegativeZero → MayBeExplicit kind explicit
    → cond explicit (written_datum format layout (fields_with true 0 0))
    (implied_datum kind format layout (fields_with true 0 0)) ≡ nan false 0
one_nan_is explicit IEEE754 format layout k e may = cc
one_nan_is explicit NanOnly format layout k e may = cc
one_nan_is true NanNegativeZero format layout k e may = absurd (true≢false may)
one_nan_is false NanNegativeZero format layout k e may = rw k refl

-- the fields of the only NaN are canonical
one_canonical : (explicit : Bool) (kind : NonfiniteBehavior) (format : Format) (layout : Layout)
    → kind ≡ NanNegativeZero → MayBeExplicit kind explicit
    → cond explicit (is_canonical_written format layout (fields_with true 0 0)) true ≡ true
one_canonical explicit IEEE754 format layout e may = cc
one_canonical explicit NanOnly format layout e may = cc
one_canonical true NanNegativeZero format layout e may = absurd (true≢false may)
one_canonical false NanNegativeZero format layout e may = refl

-- the fields of the only NaN, in place of the negative zero
pub one_nan_fields_of : (format : Format) (layout : Layout) → IsInterchange format layout
    → format.nonfinite ≡ NanNegativeZero → AreFieldsOf format layout (fields_with true 0 0) (nan false 0)
one_nan_fields_of format layout law k = record {
  within = record { biased_exponent = pow_pos layout.exponent_bits; trailing = pow_pos (trailing_bits format) };
  canonical = one_canonical format.explicit_integer_bit format.nonfinite format layout k law.explicit;
  is = one_nan_is format.explicit_integer_bit format.nonfinite format layout refl k law.explicit;
}
