-- Bits and fields, and what the law of a format says of them.
use Rattle.std.proofs.Common.{◌≡◌, ℕ, suc, ◌+◌, ◌-◌, ◌*◌, ◌/◌, ◌%◌, ◌^◌, ◌<◌, ◌≤◌, Bool, true, false, cond, eqb, refl}
use Rattle.std.proofs.Common.{ap, ◌∙◌, ⊎_elim, arith}
use Rattle.std.proofs.lemmas.{Int.ints, Nat.pow_pos}
use Rattle.std.proofs.lemmas.Nat.{pow-add, mod_low, shr_high, shr-shr, mul-add-lt, div_below, shr_split, mod_below}
use Rattle.std.proofs.Math.Nat.{two-pow-succ}
use Rattle.std.specs.Prelude.{pos, ◌-ℤ◌, unsigned_abs}
use Rattle.apfloat_model.specs.formats.{Format.Format, Lawful.Constants}
use Rattle.apfloat_model.specs.formats.Lawful.{HasNoBits, HasBits, IsLawful, more_exponents, format_with, layout_with}
use Rattle.apfloat_model.specs.bits.Layout.{Layout, Fields, trailing_bits, fields_of}
use Rattle.apfloat_model.specs.bits.Interchange.{IsInterchange, AreWithin, bits_of_fields}
use Rattle.apfloat_model.proofs.general.{Powers.twice_half, Choices.digit_low, Choices.digit_odd, Choices.odd_digit}

-- ---- the law

-- a format that is wider than its significand has bits
pub has_bits : (constants : Constants) → IsLawful constants → constants.precision < constants.bits → HasBits constants
has_bits constants law wide = ⊎_elim (λ (n : HasNoBits constants). absurd (omega (arith, n.bits)))
    (λ (h : HasBits constants). h) law.layout

-- the trailing bits and the sign take as many bits as the precision, one more with an explicit integer bit
trailing_by : (explicit : Bool) (precision : ℕ) → 1 ≤ precision
    → precision + cond explicit 1 0 ≡ cond explicit precision (precision - 1) + 1
trailing_by true precision h = refl
trailing_by false precision h = omega arith

-- a lawful format with more bits than digits has an interchange layout
pub lawful_interchange : (constants : Constants) → IsLawful constants → constants.precision < constants.bits
    → IsInterchange (format_with constants) (layout_with constants)
lawful_interchange constants law wide =
    let h = has_bits constants law wide in
    let t = twice_half constants.exp_bits h.exp_bits in
    let p = pow_pos (constants.exp_bits - 1) in
    let w = trailing_by constants.explicit_integer_bit constants.precision
    (omega (arith, law.parameters.precision_low)) in
    record {
      precise = law.parameters.precision_low;
      some = h.exp_bits;
      bits = omega (arith, h.bits, w);
      within = h.bits_high;
      span = span_by constants law h;
      explicit = law.explicit;
    }
  where
    -- the span of a lawful format, from the number of exponents that its bits can encode
    span_by : (constants : Constants) → IsLawful constants → HasBits constants
        → unsigned_abs (constants.max_exp -ℤ constants.min_exp) + 3
        ≡ 2 ^ constants.exp_bits + more_exponents constants.nonfinite
    span_by constants law h =
        let t = twice_half constants.exp_bits h.exp_bits in
        let big : 3 ≤ 2 ^ constants.exp_bits + more_exponents constants.nonfinite =
        omega (
          arith,
          ints,
          law.parameters.precision_low,
          law.parameters.min_exp_high,
          law.parameters.max_exp_low,
          h.ieee_min_exp,
          h.ieee_max_exp,
          h.max_exp,
          t,
        ) in
        let e : constants.max_exp -ℤ constants.min_exp
        ≡ pos (2 ^ constants.exp_bits + more_exponents constants.nonfinite - 3) =
        omega (arith, ints, h.ieee_min_exp, h.ieee_max_exp, h.max_exp, t) in
        let a : unsigned_abs (constants.max_exp -ℤ constants.min_exp)
        ≡ 2 ^ constants.exp_bits + more_exponents constants.nonfinite - 3 = ap unsigned_abs e in
        omega arith

-- ---- fields read from bits, and bits written from fields

module _ (format : Format) (layout : Layout) (law : IsInterchange format layout) where
  -- the fields read from bits fit their widths
  pub fields_within : (bits : ℕ) → AreWithin format layout (fields_of format layout bits)
  fields_within bits = record {
    biased_exponent =
        mod_below (bits / 2 ^ trailing_bits format) (2 ^ layout.exponent_bits) (pow_pos layout.exponent_bits);
    trailing = mod_below bits (2 ^ trailing_bits format) (pow_pos (trailing_bits format));
  }

  -- the sign bit is above the trailing field and the exponent field
  top : layout.bits - 1 ≡ trailing_bits format + layout.exponent_bits
  top = omega (arith, law.bits)

  -- reading the fields back from the bits gives the fields
  pub fields_back : (fields : Fields) → AreWithin format layout fields
      → fields_of format layout (bits_of_fields format layout fields) ≡ fields
  fields_back x w =
      let t = mod_low (cond x.negative 1 0 * 2 ^ layout.exponent_bits + x.biased_exponent) (trailing_bits format)
      x.trailing w.trailing in
      let h = shr_high (cond x.negative 1 0 * 2 ^ layout.exponent_bits + x.biased_exponent) (trailing_bits format)
      x.trailing w.trailing in
      let b = mod_low (cond x.negative 1 0) layout.exponent_bits x.biased_exponent w.biased_exponent in
      let g = shr_high (cond x.negative 1 0) layout.exponent_bits x.biased_exponent w.biased_exponent in
      rw (
        t,
        h,
        b,
        top,
        ← shr-shr (bits_of_fields format layout x) (trailing_bits format) layout.exponent_bits,
        h,
        g,
        digit_odd x.negative,
      ) refl

  -- the bits written from fields fit the width of the format
  pub bits_below : (fields : Fields) → AreWithin format layout fields
      → bits_of_fields format layout fields < 2 ^ layout.bits
  bits_below x w =
      let a : cond x.negative 1 0 * 2 ^ layout.exponent_bits + x.biased_exponent < 2 ^ layout.exponent_bits * 2 =
      mul-add-lt (cond x.negative 1 0) (2 ^ layout.exponent_bits) x.biased_exponent 2 (digit_low x.negative)
      w.biased_exponent in
      let b = mul-add-lt (cond x.negative 1 0 * 2 ^ layout.exponent_bits + x.biased_exponent) (2 ^ trailing_bits format)
      x.trailing (2 ^ layout.exponent_bits * 2) a w.trailing in
      let e : layout.bits ≡ trailing_bits format + suc layout.exponent_bits = omega (arith, law.bits) in
      rw (e, pow-add 2 (trailing_bits format) (suc layout.exponent_bits), two-pow-succ layout.exponent_bits)
      (let z : 2 ^ layout.exponent_bits * 2 ≡ 2 ^ layout.exponent_bits + 2 ^ layout.exponent_bits = omega arith in
      rw z at b)

  -- writing the fields of some bits gives the bits back
  pub bits_back : (bits : ℕ) → bits < 2 ^ layout.bits
      → bits_of_fields format layout (fields_of format layout bits) ≡ bits
  bits_back bits low =
      let w = trailing_bits format in
      let e : layout.bits ≡ suc (trailing_bits format + layout.exponent_bits) = omega (arith, law.bits) in
      let k : 2 ^ layout.bits ≡ 2 * 2 ^ (w + layout.exponent_bits) =
      rw e (omega (arith, two-pow-succ (w + layout.exponent_bits))) in
      let d : bits / 2 ^ (w + layout.exponent_bits) < 2 =
      div_below bits (2 ^ (w + layout.exponent_bits)) 2 (pow_pos (w + layout.exponent_bits)) (omega (arith, k)) in
      let s : cond (eqb (bits / 2 ^ (layout.bits - 1) % 2) 1) 1 0 ≡ bits / 2 ^ w / 2 ^ layout.exponent_bits =
      rw (top, shr-shr bits w layout.exponent_bits) (odd_digit (bits / 2 ^ (w + layout.exponent_bits)) d) in
      rw s (rw (shr_split (bits / 2 ^ w) layout.exponent_bits) (shr_split bits w))

-- the fields of a number, joined, are its sign, its place and its significand, added
pub joined_bits : (negative : Bool) (e t place n bits top : ℕ) → 2 ^ t ≤ n → top ≡ t + e
    → bits ≡ cond negative (2 ^ top) 0 + place * 2 ^ t + n
    → (cond negative 1 0 * 2 ^ e + (place + 1)) * 2 ^ t + (n - 2 ^ t) ≡ bits
joined_bits true e t place n bits top low at is = omega (arith, ap (λ (x : ℕ). 2 ^ x) at ∙ pow-add 2 t e, is, low)
joined_bits false e t place n bits top low at is = omega (arith, is, low)
