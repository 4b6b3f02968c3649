-- Encodings without their sign, as numbers: a place and a significand, added.
use Rattle.std.proofs.Common.{◌≡◌, ℕ, ◌+◌, ◌-◌, ◌*◌, ◌^◌, ◌<◌, ◌≤◌, ◌⊎◌, Bool}
use Rattle.std.proofs.Common.{true, false, cond, ltb, sym, ap, ◌∙◌, subst, ⊎_elim, arith}
use Rattle.std.proofs.Math.Nat.{mul-le-mul_right, mul-le-mul_left, mul-lt-mul_of_pos_right, pow-le-pow_right}
use Rattle.std.proofs.lemmas.{Nat.pow-add, Nat.pow_pos, Bool.cases_lt, Bool.cond-false, Bool.le-ltb, Bool.lt-ltb}
use Rattle.apfloat_model.specs.bits.Interchange.{IsInterchange, bits_of_fields}
use Rattle.apfloat_model.specs.bits.Layout.{IsEncodedBy, Layout, trailing_bits}
use Rattle.apfloat_model.specs.formats.{Datum.finite, Format.Format, Format.greatest_significand, Format.largest}
use Rattle.apfloat_model.proofs.bits.{EncodedOnce.fields_with, FieldsOf.MayHaveSign, FieldsOf.fields_encode}
use Rattle.apfloat_model.proofs.bits.{FieldsOf.high_fields_of, FieldsOf.low_fields_of, Encodings.joined_bits}
use Rattle.apfloat_model.proofs.formats.Greatest.{greatest_fits, greatest_full}
use Rattle.apfloat_model.proofs.{general.Powers.two_pos, general.Powers.twice_half, rounding.Neighbours.carried}
use Rattle.fast_bits.specs.lanes.Targets.{largest_code}

-- ---- past the largest value

-- below the last place, a number and its code are not past the largest
past_inner : (f : Format) (n place : ℕ) → 3 ≤ f.precision → place < f.span → n ≤ 2 ^ f.precision
    → ltb (largest f) (n * 2 ^ place) ≡ ltb (largest_code f) (place * 2 ^ (f.precision - 1) + n)
past_inner f n place precise inner fits =
    let half = 2 ^ (f.precision - 1) in
    let top = greatest_significand f.nonfinite f.precision in
    let full = greatest_full f.nonfinite f.precision precise in
    let twice : 2 * 2 ^ (f.precision - 1) ≡ 2 ^ f.precision = twice_half f.precision (omega (arith, precise)) in
    let up : 2 ^ (place + 1) ≤ 2 ^ f.span = pow-le-pow_right two_pos (omega (arith, inner)) in
    let digits : n * 2 ^ place ≤ 2 ^ f.precision * 2 ^ place = mul-le-mul_right (2 ^ place) fits in
    let moved : 2 ^ f.precision * 2 ^ place ≡ 2 ^ (f.precision - 1) * 2 ^ (place + 1) =
    ap (λ (x : ℕ). x * 2 ^ place) (sym twice) ∙ carried (2 ^ (f.precision - 1)) place in
    let most : 2 ^ (f.precision - 1) * 2 ^ f.span ≤ largest f = mul-le-mul_right (2 ^ f.span) full in
    let places : (place + 1) * 2 ^ (f.precision - 1) ≤ f.span * 2 ^ (f.precision - 1) =
    mul-le-mul_right half (omega (arith, inner)) in
    le-ltb (largest f) (n * 2 ^ place) (omega (arith, digits, moved, mul-le-mul_left half up, most))
    ∙ sym (le-ltb (largest_code f) (place * half + n)
    (omega (arith, places, full, fits, twice)))

-- at the last place, the significands decide
past_last : (f : Format) (n : ℕ) → ltb (largest f) (n * 2 ^ f.span)
    ≡ ltb (largest_code f) (f.span * 2 ^ (f.precision - 1) + n)
past_last f n =
    let half = 2 ^ (f.precision - 1) in
    let top = greatest_significand f.nonfinite f.precision in
    ⊎_elim
    (λ (past : top < n).
    let amount : top * 2 ^ f.span < n * 2 ^ f.span = mul-lt-mul_of_pos_right past (pow_pos f.span) in
    lt-ltb (largest f) (n * 2 ^ f.span) amount
    ∙ sym (lt-ltb (largest_code f) (f.span * half + n) (omega (arith, past))))
    (λ (within : n ≤ top).
    let amount : n * 2 ^ f.span ≤ top * 2 ^ f.span = mul-le-mul_right (2 ^ f.span) within in
    le-ltb (largest f) (n * 2 ^ f.span) amount
    ∙ sym (le-ltb (largest_code f) (f.span * half + n) (omega (arith, within))))
    (cases_lt top n)

-- beyond it, both are past
past_beyond : (f : Format) (n place : ℕ) → 3 ≤ f.precision → f.span < place → 2 ^ (f.precision - 1) ≤ n
    → ltb (largest f) (n * 2 ^ place) ≡ ltb (largest_code f) (place * 2 ^ (f.precision - 1) + n)
past_beyond f n place precise beyond full =
    let half = 2 ^ (f.precision - 1) in
    let top = greatest_significand f.nonfinite f.precision in
    let fits = greatest_fits f.nonfinite f.precision in
    let twice : 2 * 2 ^ (f.precision - 1) ≡ 2 ^ f.precision = twice_half f.precision (omega (arith, precise)) in
    let up : 2 ^ (f.span + 1) ≤ 2 ^ place = pow-le-pow_right two_pos (omega (arith, beyond)) in
    let digits : 2 ^ (f.precision - 1) * 2 ^ place ≤ n * 2 ^ place = mul-le-mul_right (2 ^ place) full in
    let moved : 2 ^ f.precision * 2 ^ f.span ≡ 2 ^ (f.precision - 1) * 2 ^ (f.span + 1) =
    ap (λ (x : ℕ). x * 2 ^ f.span) (sym twice) ∙ carried (2 ^ (f.precision - 1)) f.span in
    let less : top * 2 ^ f.span < 2 ^ f.precision * 2 ^ f.span = mul-lt-mul_of_pos_right fits (pow_pos f.span) in
    let places : (f.span + 1) * 2 ^ (f.precision - 1) ≤ place * 2 ^ (f.precision - 1) =
    mul-le-mul_right half (omega (arith, beyond)) in
    lt-ltb (largest f) (n * 2 ^ place) (omega (arith, digits, mul-le-mul_left half up, moved, less))
    ∙ sym (lt-ltb (largest_code f) (place * half + n)
    (omega (arith, places, full, fits, twice)))

-- a number is past the largest value exactly if its code is
pub past_by_code : (f : Format) (n place : ℕ) → 3 ≤ f.precision → (place ≡ 0) ⊎ (2 ^ (f.precision - 1) ≤ n)
    → n ≤ 2 ^ f.precision → ltb (largest f) (n * 2 ^ place) ≡ ltb (largest_code f) (place * 2 ^ (f.precision - 1) + n)
past_by_code f n place precise full fits =
    ⊎_elim
    (λ (inner : place < f.span). past_inner f n place precise inner fits)
    (λ (outer : f.span ≤ place).
    ⊎_elim
    (λ (beyond : f.span < place).
    let digits : 2 ^ (f.precision - 1) ≤ n =
    ⊎_elim (λ (z : place ≡ 0). absurd (omega (arith, z, beyond))) (λ (h : 2 ^ (f.precision - 1) ≤ n). h) full in
    past_beyond f n place precise beyond digits)
    (λ (within : place ≤ f.span).
    let last : f.span ≡ place = omega (arith, outer, within) in
    subst
    (λ (k : ℕ). ltb (largest f) (n * 2 ^ k)
    ≡ ltb (largest_code f) (k * 2 ^ (f.precision - 1) + n))
    last (past_last f n))
    (cases_lt f.span place))
    (cases_lt place f.span)

-- ---- the bits

-- a sign above the significand
sign_bits : (negative : Bool) (e t n bits top : ℕ) → top ≡ t + e → bits ≡ cond negative (2 ^ top) 0 + n
    → (cond negative 1 0 * 2 ^ e + 0) * 2 ^ t + n ≡ bits
sign_bits true e t n bits top at is =
    let both : 2 ^ top ≡ 2 ^ t * 2 ^ e = ap (λ (x : ℕ). 2 ^ x) at ∙ pow-add 2 t e in
    omega (arith, both, is)
sign_bits false e t n bits top at is = omega (arith, is)

-- the bits of a denormal number, or a zero
low_encoded : (f : Format) (layout : Layout) (negative : Bool) (n bits : ℕ) → IsInterchange f layout
    → f.explicit_integer_bit ≡ false → MayHaveSign f.nonfinite negative n → n < 2 ^ (f.precision - 1)
    → bits ≡ cond negative (2 ^ (layout.bits - 1)) 0 + n → IsEncodedBy f layout bits (finite negative n)
low_encoded f layout negative n bits law implied sign low is =
    let x = fields_with negative 0 n in
    let width : trailing_bits f ≡ f.precision - 1 = cond-false f.explicit_integer_bit _ _ implied in
    let same : bits_of_fields f layout x ≡ bits =
    rw width (sign_bits negative layout.exponent_bits (f.precision - 1) n bits (layout.bits - 1)
    (omega (arith, law.bits, width)) is) in
    subst (λ (b : ℕ). IsEncodedBy f layout b (finite negative n)) same
    (fields_encode f layout x (finite negative n) law (low_fields_of f layout negative n law low sign))

-- a significand with all its digits, within the largest value
encoded_full : (f : Format) (layout : Layout) (negative : Bool) (place n bits : ℕ) → IsInterchange f layout
    → f.explicit_integer_bit ≡ false → 2 ^ (f.precision - 1) ≤ n → n < 2 ^ f.precision → n * 2 ^ place ≤ largest f
    → bits ≡ cond negative (2 ^ (layout.bits - 1)) 0 + place * 2 ^ (f.precision - 1) + n
    → IsEncodedBy f layout bits (finite negative (n * 2 ^ place))
encoded_full f layout negative place n bits law implied full fits within is =
    let x = fields_with negative (place + 1) (n - cond f.explicit_integer_bit 0 (2 ^ (f.precision - 1))) in
    let width : trailing_bits f ≡ f.precision - 1 = cond-false f.explicit_integer_bit _ _ implied in
    let less : cond f.explicit_integer_bit 0 (2 ^ (f.precision - 1)) ≡ 2 ^ (f.precision - 1) =
    cond-false f.explicit_integer_bit _ _ implied in
    let same : bits_of_fields f layout x ≡ bits =
    rw (width, less) (joined_bits negative layout.exponent_bits (f.precision - 1) place n bits (layout.bits - 1) full
    (omega (arith, law.bits, width)) is) in
    subst (λ (b : ℕ). IsEncodedBy f layout b (finite negative (n * 2 ^ place))) same
    (fields_encode f layout x (finite negative (n * 2 ^ place)) law
    (high_fields_of f layout law negative place n full fits within))

-- the bits of a number at a place, whose significand may have been rounded up to the next power of two
pub code_encoded : (f : Format) (layout : Layout) (negative : Bool) (place n bits : ℕ) → IsInterchange f layout
    → f.explicit_integer_bit ≡ false → MayHaveSign f.nonfinite negative n → (place ≡ 0) ⊎ (2 ^ (f.precision - 1) ≤ n)
    → n ≤ 2 ^ f.precision → n * 2 ^ place ≤ largest f
    → bits ≡ cond negative (2 ^ (layout.bits - 1)) 0 + place * 2 ^ (f.precision - 1) + n
    → IsEncodedBy f layout bits (finite negative (n * 2 ^ place))
code_encoded f layout negative place n bits law implied sign full fits within is =
    let precise = law.precise in
    let Said : ℕ → Type 0 = λ x. IsEncodedBy f layout bits (finite negative x) in
    ⊎_elim
    (λ (low : n < 2 ^ (f.precision - 1)).
    let last : place ≡ 0 =
    ⊎_elim (λ (z : place ≡ 0). z) (λ (f : 2 ^ (f.precision - 1) ≤ n). absurd (omega (arith, f, low))) full in
    let unit : n ≡ n * 2 ^ place = rw last (let one : n ≡ n * 2 ^ 0 = omega arith in one) in
    let bits_are : bits ≡ cond negative (2 ^ (layout.bits - 1)) 0 + n =
    subst (λ (x : ℕ). bits ≡ cond negative (2 ^ (layout.bits - 1)) 0 + x * 2 ^ (f.precision - 1) + n) last is
    ∙ omega arith in
    subst Said unit (low_encoded f layout negative n bits law implied sign low bits_are))
    (λ (high : 2 ^ (f.precision - 1) ≤ n).
    ⊎_elim
    (λ (less : n < 2 ^ f.precision). encoded_full f layout negative place n bits law implied high less within is)
    (λ (most : 2 ^ f.precision ≤ n).
    let halves : 2 * 2 ^ (f.precision - 1) ≡ 2 ^ f.precision = twice_half f.precision (omega (arith, precise)) in
    let half_some : 0 < 2 ^ (f.precision - 1) = pow_pos (f.precision - 1) in
    let half_low : 2 ^ (f.precision - 1) < 2 ^ f.precision = omega (arith, halves, half_some) in
    let top : n ≡ 2 * 2 ^ (f.precision - 1) = omega (arith, halves, fits, most) in
    let moved : n * 2 ^ place ≡ 2 ^ (f.precision - 1) * 2 ^ (place + 1) =
    ap (λ (x : ℕ). x * 2 ^ place) top ∙ carried (2 ^ (f.precision - 1)) place in
    let there : 2 ^ (f.precision - 1) * 2 ^ (place + 1) ≤ largest f = subst (λ (x : ℕ). x ≤ largest f) moved within in
    let bits_are : bits ≡ cond negative (2 ^ (layout.bits - 1)) 0 + (place + 1) * 2 ^ (f.precision - 1)
    + 2 ^ (f.precision - 1) = omega (arith, is, top) in
    subst Said (sym moved)
    (encoded_full f layout negative (place + 1) (2 ^ (f.precision - 1)) bits law implied (omega arith) half_low there
    bits_are))
    (cases_lt n (2 ^ f.precision)))
    (cases_lt n (2 ^ (f.precision - 1)))
