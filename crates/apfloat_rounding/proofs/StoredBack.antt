-- The stored form can be recovered from the datum that it represents.
use Rattle.std.specs.Prelude.{Bool, false, ◌≡◌, ℕ, ◌+◌, ◌-◌, ◌*◌, ◌/◌, ◌^◌, ◌<◌, ◌≤◌, ℤ, ◌-ℤ◌}
use Rattle.std.proofs.Common.{arith, suc, zero, refl, sym, ap, ◌∙◌, eqb}
use Rattle.std.proofs.lemmas.{Int.ints, Nat.pow_pos, Nat.pow-add, Nat.shl-shr, Bool.ne_eqb}
use Rattle.std.proofs.Math.Nat.{mul-le-mul_right, mul-lt-mul_of_pos_right, le_of_mul-le-mul_right}
use Rattle.std.proofs.Math.Nat.{lt_of_mul-lt-mul_right, eq_of_mul-eq-mul_right}
use Rattle.apfloat_model.specs.{arithmetic.Exact.up, arithmetic.Exact.down, formats.Log.log2}
use Rattle.apfloat_model.specs.declared.kinds.Category.{Category}
use Rattle.apfloat_model.specs.declared.kinds.Category.TheVariants.{Infinity, NaN, Normal, Zero}
use Rattle.apfloat_model.proofs.general.{Powers.twice_half, Logarithms.log2_is}
use Rattle.apfloat_rounding.specs.declared.{shape.Shape.Shape, unpacked.Unpacked.Unpacked}
use Rattle.apfloat_rounding.specs.Stored.{quanta_at, IsNormalAt, IsStored, IsStoredBy, datum_at, datum_by, unpacked_of}
use Rattle.apfloat_rounding.specs.Stored.{unpacked_number, exponent_at}

-- ---- a significand with all its digits

-- n * 2 ^ d is s * 2 ^ u, and s has exactly as many digits as the precision
pub record IsFull (precision s n u d : ℕ) : Type 0 where
  pub some : 0 < precision
  pub fits : s < 2 ^ precision
  pub full : 2 ^ (precision - 1) ≤ s
  pub short : d ≤ precision - 1 + u
  pub same : n * 2 ^ d ≡ s * 2 ^ u

-- the place of the highest digit of n
abbrev pub top_of : ℕ → ℕ → ℕ → ℕ
top_of precision u d = precision - 1 + u - d

-- the least significand with all its digits, moved up, is the power of two at that place
moved : (precision u d : ℕ) → d ≤ precision - 1 + u → 2 ^ (precision - 1) * 2 ^ u ≡ 2 ^ top_of precision u d * 2 ^ d
moved precision u d h =
    let e : top_of precision u d + d ≡ precision - 1 + u = omega arith in
    sym (pow-add 2 (precision - 1) u) ∙ ap (λ (x : ℕ). 2 ^ x) (sym e) ∙ pow-add 2 (top_of precision u d) d

-- n is at least the power of two at the place of its highest digit
pub full_low : (precision s n u d : ℕ) → IsFull precision s n u d → 2 ^ top_of precision u d ≤ n
full_low precision s n u d h =
    let m = moved precision u d h.short in
    let a : 2 ^ (precision - 1) * 2 ^ u ≤ s * 2 ^ u = mul-le-mul_right (2 ^ u) h.full in
    let e = h.same in
    let l : 2 ^ top_of precision u d * 2 ^ d ≤ n * 2 ^ d = omega arith in
    le_of_mul-le-mul_right l (pow_pos d)

-- n is below twice the power of two at the place of its highest digit
pub full_high : (precision s n u d : ℕ) → IsFull precision s n u d → n < 2 * 2 ^ top_of precision u d
full_high precision s n u d h =
    let m = moved precision u d h.short in
    let t = twice_half precision h.some in
    let f = h.fits in
    let b : s < 2 * 2 ^ (precision - 1) = omega arith in
    let a : s * 2 ^ u < 2 * 2 ^ (precision - 1) * 2 ^ u = mul-lt-mul_of_pos_right b (pow_pos u) in
    let e = h.same in
    let l : n * 2 ^ d < 2 * 2 ^ top_of precision u d * 2 ^ d = omega arith in
    lt_of_mul-lt-mul_right (2 ^ d) l

-- n * 2 ^ (precision - 1), cut at the place of the highest digit of n, is the significand
pub full_back : (precision s n u d : ℕ) → IsFull precision s n u d
    → n * 2 ^ (precision - 1) / 2 ^ top_of precision u d ≡ s
full_back precision s n u d h =
    let m = moved precision u d h.short in
    let e = h.same in
    let a : n * 2 ^ d * 2 ^ (precision - 1) ≡ s * 2 ^ u * 2 ^ (precision - 1) =
    ap (λ (x : ℕ). x * 2 ^ (precision - 1)) e in
    let b : s * (2 ^ (precision - 1) * 2 ^ u) ≡ s * (2 ^ top_of precision u d * 2 ^ d) = ap (λ (x : ℕ). s * x) m in
    let l : n * 2 ^ (precision - 1) * 2 ^ d ≡ s * 2 ^ top_of precision u d * 2 ^ d = omega arith in
    let k : n * 2 ^ (precision - 1) ≡ s * 2 ^ top_of precision u d = eq_of_mul-eq-mul_right (2 ^ d) (pow_pos d) _ _ l in
    rw k (shl-shr s (top_of precision u d))

-- ---- a stored number

-- a significand above 0 has a digit
some_digit : (precision m : ℕ) → m < 2 ^ precision → 0 < m → 0 < precision
some_digit zero m h p = absurd (omega arith)
some_digit (suc precision) m h p = omega arith

-- the significand and the quanta of a stored number satisfy IsFull
pub normal_full : (shape : Shape) (m : ℕ) (e : ℤ) → IsNormalAt shape m e
    → IsFull shape.precision m (quanta_at shape.min_exp m e) (up (e -ℤ shape.min_exp)) (down (e -ℤ shape.min_exp))
normal_full shape m e h =
    let o = h.operand in
    let p : 0 < 2 ^ (shape.precision - 1) = pow_pos (shape.precision - 1) in
    record {
      some = some_digit shape.precision m o.fits (omega (arith, o.full));
      fits = o.fits;
      full = o.full;
      short = omega (arith, ints, o.least);
      same = h.whole;
    }

-- the logarithm of the number of quanta is the place of the highest digit
pub top_is : (shape : Shape) (m : ℕ) (e : ℤ) → IsNormalAt shape m e
    → log2 (quanta_at shape.min_exp m e) ≡ top_of shape.precision (up (e -ℤ shape.min_exp)) (down (e -ℤ shape.min_exp))
top_is shape m e h =
    let f = normal_full shape m e h in
    log2_is (quanta_at shape.min_exp m e) _ (full_low _ _ _ _ _ f) (full_high _ _ _ _ _ f)

-- the number of quanta of a stored number is above 0
pub quanta_some : (shape : Shape) (m : ℕ) (e : ℤ) → IsNormalAt shape m e → 0 < quanta_at shape.min_exp m e
quanta_some shape m e h =
    let f = normal_full shape m e h in
    let l = full_low _ _ _ _ _ f in
    let p : 0 < 2 ^ top_of shape.precision (up (e -ℤ shape.min_exp)) (down (e -ℤ shape.min_exp)) =
    pow_pos (top_of shape.precision (up (e -ℤ shape.min_exp)) (down (e -ℤ shape.min_exp))) in
    omega arith

abbrev record_of : ℕ → ℤ → Category → Bool → Unpacked
record_of m e category negative = record { significand = m; exponent = e; category = category; negative = negative }

-- a stored number is recovered from its number of quanta
number_back : (shape : Shape) (negative : Bool) (m : ℕ) (e : ℤ) → IsNormalAt shape m e
    → unpacked_number shape negative (quanta_at shape.min_exp m e)
    ≡ record { significand = m; exponent = e; category = Normal; negative = negative }
number_back shape negative m e h =
    let f = normal_full shape m e h in
    let x : exponent_at shape (top_of shape.precision (up (e -ℤ shape.min_exp)) (down (e -ℤ shape.min_exp))) ≡ e =
    omega (arith, ints, h.operand.least, f.some) in
    rw (top_is shape m e h, full_back _ _ _ _ _ f, x) refl

-- values with equal parts are equal
same_parts : (m n : ℕ) (d e : ℤ) (category other : Category) (negative : Bool) → m ≡ n → d ≡ e → category ≡ other
    → record_of m d category negative ≡ record_of n e other negative
same_parts m n d e category other negative p q r = rw (p, q, r) refl

-- a value stored with a category is recovered from its datum
back_by : (category : Category) (shape : Shape) (x : Unpacked) → category ≡ x.category → IsStoredBy category shape x
    → unpacked_of shape (datum_by category shape x) ≡ x
back_by Normal shape x k h =
    let n : eqb (quanta_at shape.min_exp x.significand x.exponent) 0 ≡ false =
    ne_eqb _ 0 (λ z. omega (arith, quanta_some shape x.significand x.exponent h, z)) in
    rw n (number_back shape x.negative x.significand x.exponent h ∙ same_parts _ _ _ _ _ _ x.negative refl refl k)
back_by Zero shape x k h = same_parts _ _ _ _ _ _ x.negative (sym h.significand_is) (sym h.exponent_is) k
back_by Infinity shape x k h = same_parts _ _ _ _ _ _ x.negative (sym h.significand_is) (sym h.exponent_is) k
back_by NaN shape x k h = same_parts x.significand _ _ _ _ _ x.negative refl (sym h.exponent_is) k

-- a stored value is recovered from its datum
pub comes_back : (shape : Shape) (x : Unpacked) → IsStored shape x → unpacked_of shape (datum_at shape x) ≡ x
comes_back shape x h = back_by x.category shape x refl h
