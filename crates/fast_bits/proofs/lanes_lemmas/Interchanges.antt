-- A target is a format whose data are written as bits.
use Rattle.std.proofs.Common.{◌≡◌, ℕ, ◌+◌, ◌-◌, ◌*◌, ◌%◌, ◌^◌, ◌<◌, ◌≤◌, ℤ, Bool, false, ap, arith, ◌⊎◌, ⊎_elim}
use Rattle.std.proofs.Math.Nat.{mod-eq_of_lt, mul-le-mul_right, pow-le-pow_right}
use Rattle.std.proofs.lemmas.{Nat.pow-add, Nat.pow_pos, Bool.cond-false}
use Rattle.apfloat_model.specs.bits.{Interchange.IsInterchange, Layout.Layout}
use Rattle.apfloat_model.specs.declared.kinds.NonfiniteBehavior.{NonfiniteBehavior}
use Rattle.apfloat_model.specs.declared.kinds.NonfiniteBehavior.TheVariants.{IEEE754, NanOnly, NanNegativeZero}
use Rattle.apfloat_model.specs.formats.Format.{Format, greatest_significand}
use Rattle.apfloat_model.specs.formats.Lawful.{MayBeExplicit, more_exponents}
use Rattle.apfloat_model.proofs.general.Powers.{twice_half, two_pos}
use Rattle.fast_bits.specs.lanes.Targets.{IsTarget, largest_code}

may_be : (kind : NonfiniteBehavior) (explicit : Bool) → explicit ≡ false → MayBeExplicit kind explicit
may_be IEEE754 explicit implied = tt
may_be NanOnly explicit implied = implied
may_be NanNegativeZero explicit implied = implied

pub target_interchange : (f : Format) (layout : Layout) (min_exp max_exp : ℤ) → IsTarget f layout min_exp max_exp
    → IsInterchange f layout
target_interchange f layout min_exp max_exp is =
    let width = cond-false f.explicit_integer_bit f.precision (f.precision - 1) is.implied in
    let precise = is.precise in
    let bits = is.bits in
    record {
      precise = precise;
      some = is.exponents;
      bits = omega (arith, width, precise, is.widths);
      within = omega (arith, bits);
      span = is.span;
      explicit = may_be f.nonfinite f.explicit_integer_bit is.implied;
    }

-- the number of biased exponents, in the span's terms
pub spans : (kind : NonfiniteBehavior) (span e : ℕ) → span + 3 ≡ 2 ^ e + more_exponents kind → span + 2 ≤ 2 ^ e
spans IEEE754 span e is = omega (arith, is)
spans NanOnly span e is = omega (arith, is)
spans NanNegativeZero span e is = omega (arith, is)

-- a number of places below the sign bit
pub places_below : (f : Format) (layout : Layout) (min_exp max_exp : ℤ) → IsTarget f layout min_exp max_exp
    → (f.span + 2) * 2 ^ (f.precision - 1) ≤ 2 ^ 15
places_below f layout min_exp max_exp is =
    let all = mul-le-mul_right (2 ^ (f.precision - 1)) (spans f.nonfinite f.span layout.exponent_bits is.span) in
    let short : layout.exponent_bits + (f.precision - 1) ≤ 15 = omega (arith, is.precise, is.widths, is.bits) in
    let most : 2 ^ (layout.exponent_bits + (f.precision - 1)) ≤ 2 ^ 15 = pow-le-pow_right two_pos short in
    omega (arith, all, pow-add 2 layout.exponent_bits (f.precision - 1), most)

-- the encoding after that of the largest value of IEEE 754
pub next_code : (f : Format) (layout : Layout) (min_exp max_exp : ℤ) (places : ℕ)
    → IsTarget f layout min_exp max_exp
    → places ≡ f.span + 1
    → ((places + 1) * 2 ^ (f.precision - 1) % 4294967296 ≡ f.span * 2 ^ (f.precision - 1) + 2 ^ f.precision)
    × ((places + 1) * 2 ^ (f.precision - 1) % 4294967296 ≤ 2 ^ 15)
next_code f layout min_exp max_exp places is there =
    let below = places_below f layout min_exp max_exp is in
    let same : (places + 1) * 2 ^ (f.precision - 1) ≡ (f.span + 2) * 2 ^ (f.precision - 1) =
    ap (λ (n : ℕ). n * 2 ^ (f.precision - 1)) (let e : places + 1 ≡ f.span + 2 = omega (arith, there) in e) in
    let whole : (places + 1) * 2 ^ (f.precision - 1) % 4294967296 ≡ (places + 1) * 2 ^ (f.precision - 1) =
    mod-eq_of_lt (omega (arith, same, below)) in
    let twice : 2 * 2 ^ (f.precision - 1) ≡ 2 ^ f.precision = twice_half f.precision (omega (arith, is.precise)) in
    (omega (arith, whole, same, twice), omega (arith, whole, same, below))

-- the encoding of the largest value, by the kind of format
pub largest_of_all_ones : (f : Format) (next : ℕ) → (f.nonfinite ≡ IEEE754) ⊎ (f.nonfinite ≡ NanNegativeZero)
    → next ≡ f.span * 2 ^ (f.precision - 1) + 2 ^ f.precision → next - 1 ≡ largest_code f
largest_of_all_ones f next kind there =
    let top : greatest_significand f.nonfinite f.precision ≡ 2 ^ f.precision - 1 =
    ⊎_elim (ap (λ (k : NonfiniteBehavior). greatest_significand k f.precision))
    (ap (λ (k : NonfiniteBehavior). greatest_significand k f.precision)) kind in
    let some : 0 < 2 ^ f.precision = pow_pos f.precision in
    omega (arith, top, there, some)

pub largest_nan_only : (f : Format) (next : ℕ) → f.nonfinite ≡ NanOnly → 3 ≤ f.precision
    → next ≡ f.span * 2 ^ (f.precision - 1) + 2 ^ f.precision → next - 2 ≡ largest_code f
largest_nan_only f next is precise there =
    let top : greatest_significand f.nonfinite f.precision ≡ 2 ^ f.precision - 2 =
    ap (λ (k : NonfiniteBehavior). greatest_significand k f.precision) is in
    let low : 1 ≤ f.precision = omega (arith, precise) in
    let some : 2 ^ 1 ≤ 2 ^ f.precision = pow-le-pow_right two_pos low in
    omega (arith, top, there, some)
