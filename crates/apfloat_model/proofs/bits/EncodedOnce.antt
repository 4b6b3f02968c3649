-- A datum has at most one encoding, since it determines its fields.
use Rattle.std.proofs.Common.{◌≡◌, ℕ, ◌+◌, ◌-◌, ◌*◌, ◌/◌, ◌^◌, ◌<◌, ◌≤◌, Bool, true, false, cond, eqb, leb, ltb, sym}
use Rattle.std.proofs.Common.{refl, ap, ◌∙◌, ⊎_elim, arith}
use Rattle.std.proofs.lemmas.{Nat.pow_pos, Nat.pow-add, Nat.shl-shr, Bool.cases_eq, Bool.eq-eqb, Bool.ne_eqb}
use Rattle.std.proofs.lemmas.Bool.{le-leb, lt-leb, leb-true, ltb-true, and_left, and_right, cond-true, cond-false}
use Rattle.std.proofs.Math.Nat.{mul-le-mul_right, mul-le-mul_left, mul-lt-mul_of_pos_right}
use Rattle.std.specs.Prelude.{IsTrue}
use Rattle.apfloat_model.specs.declared.kinds.NonfiniteBehavior.{NonfiniteBehavior}
use Rattle.apfloat_model.specs.declared.kinds.NonfiniteBehavior.TheVariants.{IEEE754, NanOnly, NanNegativeZero}
use Rattle.apfloat_model.specs.formats.{Format.Format, Format.smallest_normalized, Datum.Datum, Datum.finite}
use Rattle.apfloat_model.specs.formats.{Datum.infinite, Datum.nan, Lawful.MayBeExplicit, Log.log2}
use Rattle.apfloat_model.specs.bits.Layout.{Layout, Fields, all_ones, trailing_bits, implied_number}
use Rattle.apfloat_model.specs.bits.Layout.{implied_datum, written_number, written_datum, datum_of_fields, is_canonical}
use Rattle.apfloat_model.specs.bits.Layout.{is_canonical_written, IsEncodedBy}
use Rattle.apfloat_model.specs.bits.Interchange.{IsInterchange, AreWithin, bits_of_fields}
use Rattle.apfloat_model.proofs.general.{Logarithms.log2_is, Powers.twice_half}
use Rattle.apfloat_model.proofs.bits.Encodings.{fields_within, bits_back}
use mathlib.Core.Bool.{true≢false}

abbrev pub fields_with : Bool → ℕ → ℕ → Fields
fields_with negative biased_exponent trailing =
    record { negative = negative; biased_exponent = biased_exponent; trailing = trailing }

-- the part of a significand that is implied
abbrev hidden : Format → ℕ
hidden f = cond f.explicit_integer_bit 0 (smallest_normalized f)

abbrev fields_of_nan : NonfiniteBehavior → Layout → Bool → ℕ → Fields
fields_of_nan IEEE754 layout b s = fields_with b (all_ones layout.exponent_bits) s
fields_of_nan NanOnly layout b s = fields_with b (all_ones layout.exponent_bits) s
fields_of_nan NanNegativeZero layout b s = fields_with true 0 0

-- the fields of a datum
abbrev fields_by : Format → Layout → Datum → Fields
fields_by f layout (finite b n) =
    cond (leb (smallest_normalized f) n)
    (fields_with b (log2 n + 2 - f.precision) (n / 2 ^ (log2 n + 1 - f.precision) - hidden f)) (fields_with b 0 n)
fields_by f layout (infinite b) =
    fields_with b (all_ones layout.exponent_bits) (cond f.explicit_integer_bit (smallest_normalized f) 0)
fields_by f layout (nan b s) = fields_of_nan f.nonfinite layout b s

-- only a format with infinities may have an explicit integer bit
pub explicit_kind : (kind : NonfiniteBehavior) (explicit : Bool) → MayBeExplicit kind explicit → explicit ≡ true
    → kind ≡ IEEE754
explicit_kind IEEE754 explicit may e = refl
explicit_kind NanOnly explicit may e = absurd (true≢false (sym e ∙ may))
explicit_kind NanNegativeZero explicit may e = absurd (true≢false (sym e ∙ may))

module _ (format : Format) (layout : Layout) (precise : 3 ≤ format.precision) where
  -- ---- numbers

  -- below the smallest normalized number, the trailing field is the number itself
  low_fields : (negative : Bool) (n : ℕ) → n < smallest_normalized format
      → fields_by format layout (finite negative n) ≡ fields_with negative 0 n
  low_fields b n h = rw (lt-leb (smallest_normalized format) n h) refl

  -- the fields of a significand with its integer bit, at a place
  high_fields : (negative : Bool) (m j : ℕ) → smallest_normalized format ≤ m → m < 2 ^ format.precision
      → fields_by format layout (finite negative (m * 2 ^ j)) ≡ fields_with negative (j + 1) (m - hidden format)
  high_fields b m j low high =
      let t : 2 * 2 ^ (format.precision - 1) ≡ 2 ^ format.precision = twice_half format.precision (omega arith) in
      let p : 2 ^ (format.precision - 1 + j) ≡ 2 ^ (format.precision - 1) * 2 ^ j =
      pow-add 2 (format.precision - 1) j in
      let a : 2 ^ (format.precision - 1) * 2 ^ j ≤ m * 2 ^ j = mul-le-mul_right (2 ^ j) low in
      let h : m < 2 * 2 ^ (format.precision - 1) = omega arith in
      let c : m * 2 ^ j < 2 * 2 ^ (format.precision - 1) * 2 ^ j = mul-lt-mul_of_pos_right h (pow_pos j) in
      let g : log2 (m * 2 ^ j) ≡ format.precision - 1 + j =
      log2_is (m * 2 ^ j) (format.precision - 1 + j) (omega arith) (omega arith) in
      let o : 1 ≤ 2 ^ j = pow_pos j in
      let d : m * 1 ≤ m * 2 ^ j = mul-le-mul_left m o in
      let l : leb (smallest_normalized format) (m * 2 ^ j) ≡ true =
      le-leb (smallest_normalized format) (m * 2 ^ j) (omega arith) in
      let c1 : format.precision - 1 + j + 2 - format.precision ≡ j + 1 = omega arith in
      let c2 : format.precision - 1 + j + 1 - format.precision ≡ j = omega arith in
      rw (l, g, c1, c2, shl-shr m j) refl

  -- ---- an implied integer bit

  module _ (implied : format.explicit_integer_bit ≡ false) where
    -- the implied part of the significand is the integer bit
    hidden_is : hidden format ≡ smallest_normalized format
    hidden_is = rw implied refl

    -- the trailing field has the other bits
    width_is : trailing_bits format ≡ format.precision - 1
    width_is = rw implied refl

    -- a number that is read from fields has those fields
    number_fields : (negative : Bool) (e t : ℕ) → t < smallest_normalized format
        → fields_by format layout (implied_number format (fields_with negative e t)) ≡ fields_with negative e t
    number_fields b e t low =
        ⊎_elim
        (λ (z : e ≡ 0). rw (eq-eqb e 0 z) (low_fields b t low ∙ ap (λ (x : ℕ). fields_with b x t) (sym z)))
        (λ (n : e ≡ 0 → ⊥).
        let w : 2 * 2 ^ (format.precision - 1) ≡ 2 ^ format.precision = twice_half format.precision (omega arith) in
        let h = high_fields b (smallest_normalized format + t) (e - 1) (omega arith) (omega arith) in
        let c : e - 1 + 1 ≡ e = omega arith in
        let d : smallest_normalized format + t - hidden format ≡ t = rw hidden_is (omega arith) in
        rw (ne_eqb e 0 n) (rw (c, d) at h))
        (cases_eq e 0)

    -- a datum that is read from fields has those fields, if the integer bit is implied
    implied_fields : (kind : NonfiniteBehavior) (negative : Bool) (e t : ℕ) → format.nonfinite ≡ kind
        → t < smallest_normalized format
        → fields_by format layout (implied_datum kind format layout (fields_with negative e t))
        ≡ fields_with negative e t
    implied_fields IEEE754 b e t k low =
        ⊎_elim
        (λ (o : e ≡ all_ones layout.exponent_bits).
        ⊎_elim
        (λ (z : t ≡ 0). rw (eq-eqb e (all_ones layout.exponent_bits) o, eq-eqb t 0 z, implied, o, z) refl)
        (λ (n : t ≡ 0 → ⊥). rw (eq-eqb e (all_ones layout.exponent_bits) o, ne_eqb t 0 n, k, o) refl)
        (cases_eq t 0))
        (λ (n : e ≡ all_ones layout.exponent_bits → ⊥).
        rw (ne_eqb e (all_ones layout.exponent_bits) n) (number_fields b e t low))
        (cases_eq e (all_ones layout.exponent_bits))
    implied_fields NanOnly b e t k low =
        ⊎_elim
        (λ (o : e ≡ all_ones layout.exponent_bits).
        ⊎_elim
        (λ (z : t ≡ all_ones (format.precision - 1)).
        rw (eq-eqb e (all_ones layout.exponent_bits) o, eq-eqb t (all_ones (format.precision - 1)) z, k, o, z) refl)
        (λ (n : t ≡ all_ones (format.precision - 1) → ⊥).
        rw (eq-eqb e (all_ones layout.exponent_bits) o, ne_eqb t (all_ones (format.precision - 1)) n)
        (number_fields b e t low))
        (cases_eq t (all_ones (format.precision - 1))))
        (λ (n : e ≡ all_ones layout.exponent_bits → ⊥).
        rw (ne_eqb e (all_ones layout.exponent_bits) n) (number_fields b e t low))
        (cases_eq e (all_ones layout.exponent_bits))
    implied_fields NanNegativeZero true e t k low =
        ⊎_elim
        (λ (o : e ≡ 0).
        ⊎_elim
        (λ (z : t ≡ 0). rw (eq-eqb e 0 o, eq-eqb t 0 z, k, o, z) refl)
        (λ (n : t ≡ 0 → ⊥). rw (and_right (eqb e 0) (eqb t 0) (ne_eqb t 0 n)) (number_fields true e t low))
        (cases_eq t 0))
        (λ (n : e ≡ 0 → ⊥). rw (and_left (eqb e 0) (eqb t 0) (ne_eqb e 0 n)) (number_fields true e t low))
        (cases_eq e 0)
    implied_fields NanNegativeZero false e t k low = number_fields false e t low

  -- ---- an explicit integer bit

  module _ (written : format.explicit_integer_bit ≡ true) (kind : format.nonfinite ≡ IEEE754) where
    -- the whole significand is in the trailing field
    whole_significand : (m : ℕ) → m - hidden format ≡ m
    whole_significand m = rw written (omega arith)

    -- a NaN has the greatest exponent
    nan_fields : (negative : Bool) (s : ℕ) → fields_by format layout (nan negative s)
        ≡ fields_with negative (all_ones layout.exponent_bits) s
    nan_fields b s = rw kind refl

    -- a datum that is read from canonical fields has those fields
    written_fields : (negative : Bool) (e t : ℕ) → t < 2 ^ format.precision
        → IsTrue (is_canonical_written format layout (fields_with negative e t))
        → fields_by format layout (written_datum format layout (fields_with negative e t)) ≡ fields_with negative e t
    written_fields b e t high canonical =
        ⊎_elim
        (λ (o : e ≡ all_ones layout.exponent_bits).
        ⊎_elim
        (λ (z : t ≡ smallest_normalized format).
        rw (eq-eqb e (all_ones layout.exponent_bits) o, eq-eqb t (smallest_normalized format) z, written, o, z) refl)
        (λ (n : t ≡ smallest_normalized format → ⊥).
        rw (eq-eqb e (all_ones layout.exponent_bits) o, ne_eqb t (smallest_normalized format) n)
        (nan_fields b t ∙ ap (λ (x : ℕ). fields_with b x t) (sym o)))
        (cases_eq t (smallest_normalized format)))
        (λ (n : e ≡ all_ones layout.exponent_bits → ⊥).
        let q : eqb e (all_ones layout.exponent_bits) ≡ false = ne_eqb e (all_ones layout.exponent_bits) n in
        rw q (number_by b e t high (rw q at canonical)))
        (cases_eq e (all_ones layout.exponent_bits))
      where
        -- a number that is read from canonical fields below the greatest exponent has those fields
        number_by : (negative : Bool) (e t : ℕ) → t < 2 ^ format.precision
            → IsTrue (cond (eqb e 0) (ltb t (smallest_normalized format)) (leb (smallest_normalized format) t))
            → fields_by format layout (written_number format (fields_with negative e t)) ≡ fields_with negative e t
        number_by b e t high c =
            ⊎_elim
            (λ (z : e ≡ 0).
            let q = eq-eqb e 0 z in
            let l : IsTrue (ltb t (smallest_normalized format)) = rw q at c in
            rw q (low_fields b t (ltb-true t (smallest_normalized format) l) ∙ ap (λ (x : ℕ). fields_with b x t)
            (sym z)))
            (λ (n : e ≡ 0 → ⊥).
            let q = ne_eqb e 0 n in
            let l : IsTrue (leb (smallest_normalized format) t) = rw q at c in
            let h = high_fields b t (e - 1) (leb-true (smallest_normalized format) t l) high in
            let d : e - 1 + 1 ≡ e = omega arith in
            rw (q, l) (rw (d, whole_significand t) at h))
            (cases_eq e 0)

-- ---- any layout

-- canonical fields are those of the datum that they encode
by_layout : (explicit : Bool) (format : Format) (layout : Layout) (negative : Bool) (e t : ℕ)
    → format.explicit_integer_bit ≡ explicit → IsInterchange format layout
    → AreWithin format layout (fields_with negative e t)
    → IsTrue (is_canonical format layout (fields_with negative e t))
    → fields_by format layout (datum_of_fields format layout (fields_with negative e t)) ≡ fields_with negative e t
by_layout true format layout b e t x law within canonical =
    let k : format.nonfinite ≡ IEEE754 = explicit_kind format.nonfinite format.explicit_integer_bit law.explicit x in
    let w : t < 2 ^ format.precision = rw x at within.trailing in
    let c : IsTrue (is_canonical_written format layout (fields_with b e t)) = rw x at canonical in
    ap (fields_by format layout) (cond-true format.explicit_integer_bit _ _ x) ∙
    written_fields format layout law.precise x k b e t w c
by_layout false format layout b e t x law within canonical =
    let w : t < 2 ^ (format.precision - 1) = rw x at within.trailing in
    ap (fields_by format layout) (cond-false format.explicit_integer_bit _ _ x) ∙
    implied_fields format layout law.precise x format.nonfinite b e t refl w

-- the datum determines the bits
pub encoded_once : (format : Format) (layout : Layout) (datum : Datum) (a b : ℕ) → IsInterchange format layout
    → IsEncodedBy format layout a datum → IsEncodedBy format layout b datum → a ≡ b
encoded_once format layout datum a b law x y =
    let p = by_layout format.explicit_integer_bit format layout _ _ _ refl law (fields_within format layout law a)
    x.canonical in
    let q = by_layout format.explicit_integer_bit format layout _ _ _ refl law (fields_within format layout law b)
    y.canonical in
    sym (bits_back format layout law a x.below) ∙ ap (bits_of_fields format layout)
    (sym p ∙ ap (fields_by format layout) (x.is ∙ sym y.is) ∙ q) ∙ bits_back format layout law b y.below
