-- The numbers that a format's bits can encode are within its largest value.
use Rattle.std.proofs.Common.{◌≡◌, ℕ, ◌+◌, ◌-◌, ◌*◌, ◌^◌, ◌<◌, ◌≤◌, ap, ⊎_elim}
use Rattle.std.proofs.{Common.arith, lemmas.Nat.pow-add, lemmas.Nat.mul-le, lemmas.Bool.cases_eq}
use Rattle.std.proofs.Math.Nat.{pow-le-pow_right}
use Rattle.apfloat_model.specs.declared.kinds.NonfiniteBehavior.TheVariants.{IEEE754, NanOnly, NanNegativeZero}
use Rattle.apfloat_model.specs.formats.Format.{Format, largest, greatest_significand}
use Rattle.apfloat_model.specs.bits.{Layout.Layout, Layout.all_ones, Interchange.IsInterchange}
use Rattle.apfloat_model.proofs.general.Powers.{two_pos, twice_half, four}
use Rattle.apfloat_model.proofs.formats.Greatest.{greatest_low}

-- within the largest value: a significand up to the greatest one, at a place up to the last one
pub at_top : (format : Format) (m k : ℕ) → m ≤ greatest_significand format.nonfinite format.precision → k ≤ format.span
    → m * 2 ^ k ≤ largest format
at_top format m k a b =
    mul-le m (2 ^ k) (greatest_significand format.nonfinite format.precision)
    (2 ^ format.span) a (pow-le-pow_right two_pos b)

-- within the largest value: any significand, below the last place
pub below_top : (format : Format) (m k : ℕ) → 3 ≤ format.precision → m < 2 ^ format.precision → k < format.span
    → m * 2 ^ k ≤ largest format
below_top format m k precise a b =
    let g : ℕ = greatest_significand format.nonfinite format.precision in
    let p : 2 ^ 3 ≤ 2 ^ format.precision = pow-le-pow_right two_pos precise in
    let l = greatest_low format.nonfinite format.precision in
    let t : m ≤ 2 * greatest_significand format.nonfinite format.precision = omega (arith, l, p) in
    let x : m * 2 ^ k ≤ 2 * greatest_significand format.nonfinite format.precision * 2 ^ k =
    mul-le m (2 ^ k) (2 * greatest_significand format.nonfinite format.precision) (2 ^ k) t (omega arith) in
    let y : greatest_significand format.nonfinite format.precision * 2 ^ (k + 1) ≤ largest format =
    mul-le g (2 ^ (k + 1)) g (2 ^ format.span) (omega arith) (pow-le-pow_right two_pos (omega arith)) in
    let z : 2 ^ (k + 1) ≡ 2 ^ k * 2 = pow-add 2 k 1 in
    let w : greatest_significand format.nonfinite format.precision * 2 ^ (k + 1)
    ≡ greatest_significand format.nonfinite format.precision * (2 ^ k * 2) =
    ap (λ (v : ℕ). greatest_significand format.nonfinite format.precision * v) z in
    omega arith

-- within the largest value: a significand without its integer bit, at the quantum
pub low_within : (format : Format) (m : ℕ) → 3 ≤ format.precision → m < 2 ^ (format.precision - 1)
    → m * 1 ≤ largest format
low_within format m precise h =
    let t : 2 * 2 ^ (format.precision - 1) ≡ 2 ^ format.precision = twice_half format.precision (omega arith) in
    let p = four format.precision precise in
    let l = greatest_low format.nonfinite format.precision in
    at_top format m 0 (omega (arith, l, p)) (omega arith)

-- the smallest number is within the largest value
pub one_within : (format : Format) → 3 ≤ format.precision → 1 * 1 ≤ largest format
one_within format precise = low_within format 1 precise (omega (arith, four format.precision precise))

-- the smallest normalized number is within the largest value
pub half_within : (format : Format) → 3 ≤ format.precision → 2 ^ (format.precision - 1) * 1 ≤ largest format
half_within format precise =
    let t : 2 * 2 ^ (format.precision - 1) ≡ 2 ^ format.precision = twice_half format.precision (omega arith) in
    let p = four format.precision precise in
    let l = greatest_low format.nonfinite format.precision in
    at_top format (2 ^ (format.precision - 1)) 0 (omega (arith, l, p, t)) (omega arith)

-- in a format with infinities: any significand at any exponent but the greatest is within the largest value
pub ieee_within : (format : Format) (layout : Layout) (m e : ℕ)
    → IsInterchange format layout → format.nonfinite ≡ IEEE754 → m < 2 ^ format.precision → e < 2 ^ layout.exponent_bits
    → (e ≡ all_ones layout.exponent_bits → ⊥) → m * 2 ^ (e - 1) ≤ largest format
ieee_within format layout m e law k a b n =
    let s : format.span + 3 ≡ 2 ^ layout.exponent_bits + 0 = rw k at law.span in
    let t : m ≤ greatest_significand format.nonfinite format.precision = rw k (omega arith) in
    at_top format m (e - 1) t (omega arith)

-- with one NaN of each sign: any significand, except the last one at the greatest exponent, is within the largest value
pub nan_only_within : (format : Format) (layout : Layout) (m e : ℕ) → IsInterchange format layout
    → format.nonfinite ≡ NanOnly → 1 ≤ e → m < 2 ^ format.precision → e < 2 ^ layout.exponent_bits
    → ((e ≡ all_ones layout.exponent_bits) → (m ≡ 2 ^ format.precision - 1) → ⊥) → m * 2 ^ (e - 1) ≤ largest format
nan_only_within format layout m e law k o a b n =
    let s : format.span + 3 ≡ 2 ^ layout.exponent_bits + 1 = rw k at law.span in
    ⊎_elim
    (λ (p : e ≡ all_ones layout.exponent_bits).
    let q = n p in
    let t : m ≤ greatest_significand format.nonfinite format.precision = rw k (omega (arith, q)) in
    at_top format m (e - 1) t (omega arith))
    (λ (p : e ≡ all_ones layout.exponent_bits → ⊥). below_top format m (e - 1) law.precise a (omega (arith, p)))
    (cases_eq e (all_ones layout.exponent_bits))

-- without a negative zero: any significand at any exponent is within the largest value
pub negative_zero_within : (format : Format) (layout : Layout) (m e : ℕ) → IsInterchange format layout
    → format.nonfinite ≡ NanNegativeZero → m < 2 ^ format.precision → e < 2 ^ layout.exponent_bits
    → m * 2 ^ (e - 1) ≤ largest format
negative_zero_within format layout m e law k a b =
    let s : format.span + 3 ≡ 2 ^ layout.exponent_bits + 1 = rw k at law.span in
    let t : m ≤ greatest_significand format.nonfinite format.precision = rw k (omega arith) in
    at_top format m (e - 1) t (omega arith)
