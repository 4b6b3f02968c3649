-- The number that a text spells, from its kept digits and a clamped exponent.
use mathlib.Core.Bool.{Bool}
use Rattle.std.proofs.Common.{◌≡◌, ◌⊎◌, ℕ, ◌+◌, ◌-◌, ◌*◌, ◌^◌, ◌<◌, ◌≤◌, refl, sym, ap, ◌∙◌, subst, inl, inr, arith}
use Rattle.std.proofs.Common.{⊎_elim, ℤ, pos, neg_ℤ, ◌+ℤ◌, ◌-ℤ◌, ◌≤ℤ◌}
use Rattle.std.proofs.lemmas.{Int.ints, Nat.pow-add, Nat.pow_pos}
use Rattle.std.proofs.Math.Nat.{mul-le-mul_right, mul-lt-mul_of_pos_right, pow-le-pow_right, mul-pos}
use Rattle.apfloat_model.specs.{arithmetic.Exact.up, arithmetic.Exact.down, texts.Readings.IsScaledDelivery}
use Rattle.apfloat_model.specs.rounding.{Bounds.text_bound, Standing.StandsFor}
use Rattle.apfloat_model.specs.rounding.Rounding.{IsDelivered, zero_sign}
use Rattle.apfloat_model.specs.declared.{kinds.Round.Round, loss.Loss.Loss, loss.Loss.TheVariants.ExactlyZero}
use Rattle.apfloat_model.specs.formats.{Format.Format, Datum.Datum, Datum.finite}
use Rattle.apfloat_model.proofs.general.Powers.{two_pos}
use Rattle.apfloat_model.proofs.rounding.{Losses.stands_from, Losses.stands_to, KeptDigits.stands_times}
use Rattle.apfloat_model.proofs.rounding.FarMagnitudes.{IsFarAbove, IsFarBelow, far_above, far_below}
use Rattle.apfloat_model.proofs.texts.ZeroTexts.{zero_text}
use Rattle.apfloat_rounding.specs.{declared.shape.Shape.Shape, Shapes.format_at}
use Rattle.apfloat_conversions.specs.hex_texts.{Scans.IsKeptAt, Saturation.IsNear}

-- ---- far magnitudes, by the place z of the lowest digit that is kept

-- an exponent that was clamped from above leads far above the format
far_up : (format : Format) (number s k : ℕ) (z p : ℤ) → 0 < s → s * 2 ^ k ≤ number → p ≡ z -ℤ pos k
    → pos (format.precision + format.span) ≤ℤ z → IsFarAbove format (number * 2 ^ up p) (2 ^ down p)
far_up format number s k z p some from e far =
    let b : 2 ^ k ≤ number = omega (arith, mul-le-mul_right (2 ^ k) some, from) in
    let g : format.precision + format.span + down p ≤ k + up p = omega (arith, ints, e, far) in
    let h : 2 ^ (format.precision + format.span + down p) ≤ 2 ^ (k + up p) = pow-le-pow_right two_pos g in
    let i : 2 ^ (format.precision + format.span + down p) ≡ 2 ^ (format.precision + format.span) * 2 ^ down p =
    pow-add 2 (format.precision + format.span) (down p) in
    record { some = pow_pos (down p); from = omega (arith, mul-le-mul_right (2 ^ up p) b, h, i, pow-add 2 k (up p)) }

-- an exponent that was clamped from below leads far below the format
far_down : (number s k : ℕ) (z p : ℤ) → 0 < number → s < 2 ^ 128 → number < (s + 1) * 2 ^ k → p ≡ z -ℤ pos k
    → z ≤ℤ neg_ℤ (pos 129) → IsFarBelow (number * 2 ^ up p) (2 ^ down p)
far_down number s k z p some small to e far =
    let l : s + 1 ≤ 2 ^ 128 = omega (arith, small) in
    let b : number < 2 ^ 128 * 2 ^ k = omega (arith, mul-le-mul_right (2 ^ k) l, to) in
    let b' : number < 2 ^ (128 + k) = subst (λ (x : ℕ). number < x) (sym (pow-add 2 128 k)) b in
    let c : number * 2 ^ up p < 2 ^ (128 + k) * 2 ^ up p = mul-lt-mul_of_pos_right b' (pow_pos (up p)) in
    let m : 2 ^ (1 + (128 + k + up p)) ≡ 2 * 2 ^ (128 + k + up p) = pow-add 2 1 (128 + k + up p) in
    let g : 1 + (128 + k + up p) ≤ down p = omega (arith, ints, e, far) in
    let h : 2 ^ (1 + (128 + k + up p)) ≤ 2 ^ down p = pow-le-pow_right two_pos g in
    record { some = mul-pos some (pow_pos (up p)); to = omega (arith, c, pow-add 2 (128 + k) (up p), m, h) }

-- ---- one exponent for another

-- the power of two of the integer, where its kept digits have the unit 2 ^ unit
abbrev power_at : ℕ → ℕ → ℤ → ℤ
power_at k scale unit = (unit +ℤ pos scale) -ℤ pos k

pub record IsBounded (format : Format) : Type 0 where
  pub some : 0 < format.precision
  pub above : format.precision + format.span ≤ 4000000
  pub below : format.scale ≤ 4000000

-- a delivery with the clamped exponent is that with the exact one
moved : (format : Format) (mode : Round) (negative : Bool) (number s cut : ℕ) (loss : Loss) (exact unit : ℤ)
    (value : Datum) (status : ℕ) → IsBounded format → 0 < s → s < 2 ^ 128 → IsKeptAt number s loss cut
    → IsNear text_bound exact unit
    → IsScaledDelivery format mode negative number (power_at (4 * cut) format.scale unit) value status
    → IsScaledDelivery format mode negative number (power_at (4 * cut) format.scale exact) value status
moved format mode negative number s cut loss exact unit v status b some small k (inl e) d =
    subst (λ (z : ℤ). IsScaledDelivery format mode negative number (power_at (4 * cut) format.scale z) v status) e d
moved format mode negative number s cut loss exact unit v status b some small k (inr (inl e)) d =
    let from = stands_from s loss number (2 ^ (4 * cut)) k.stands in
    far_above format mode negative _ _ _ _ v status b.some (far_up format number s (4 * cut) (unit +ℤ pos format.scale)
    (power_at (4 * cut) format.scale unit) some from refl (omega (arith, ints, b.above, e)))
    (far_up format number s (4 * cut) (exact +ℤ pos format.scale)
    (power_at (4 * cut) format.scale exact) some from refl (omega (arith, ints, b.above, e))) d
moved format mode negative number s cut loss exact unit v status b some small k (inr (inr e)) d =
    let to = stands_to s loss number (2 ^ (4 * cut)) (pow_pos (4 * cut)) k.stands in
    let p : 0 < s * 2 ^ (4 * cut) = mul-pos some (pow_pos (4 * cut)) in
    let n : 0 < number = omega (arith, p, stands_from s loss number (2 ^ (4 * cut)) k.stands) in
    let l : (unit +ℤ pos format.scale) ≤ℤ neg_ℤ (pos 129) = omega (arith, ints, b.below, e) in
    let m : (exact +ℤ pos format.scale) ≤ℤ neg_ℤ (pos 129) = omega (arith, ints, b.below, e) in
    far_below format mode negative _ _ _ _ v status b.some
    (far_down number s (4 * cut) (unit +ℤ pos format.scale) (power_at (4 * cut) format.scale unit) n small to refl l)
    (far_down number s (4 * cut) (exact +ℤ pos format.scale) (power_at (4 * cut) format.scale exact) n small to refl m)
    d

-- ---- the kept digits

-- the places of the number's power of two and of the unit have equal sums on both sides
balanced : (k scale : ℕ) (unit : ℤ) → k + (up (power_at k scale unit) + down (unit +ℤ pos scale))
    ≡ down (power_at k scale unit) + up (unit +ℤ pos scale)
balanced k scale unit = omega (arith, ints)

-- the kept digits of a number, in their unit, represent the number times its power of two
stands_at : (number s k scale : ℕ) (loss : Loss) (unit : ℤ) → StandsFor s loss number (2 ^ k)
    → StandsFor s loss (number * 2 ^ up (power_at k scale unit) * 2 ^ down (unit +ℤ pos scale))
    (2 ^ down (power_at k scale unit) * 2 ^ up (unit +ℤ pos scale))
stands_at number s k scale loss unit h =
    let p = power_at k scale unit in
    let u = unit +ℤ pos scale in
    let w : ℕ = 2 ^ (up p + down u) in
    let a = stands_times s loss number (2 ^ k) w (pow_pos (up p + down u)) h in
    let b : number * w ≡ number * 2 ^ up p * 2 ^ down u = ap (λ (x : ℕ). number * x) (pow-add 2 (up p) (down u)) ∙
    omega arith in
    let c : 2 ^ k * w ≡ 2 ^ down p * 2 ^ up u = sym (pow-add 2 k (up p + down u)) ∙
    ap (λ (x : ℕ). 2 ^ x) (balanced k scale unit) ∙ pow-add 2 (down p) (up u) in
    rw (b, c) at a

-- rounding the kept digits, with a clamped exponent, is rounding the number
pub number_delivered : (format : Format) (mode : Round) (negative : Bool) (number s cut places : ℕ) (loss : Loss)
    (exact unit : ℤ) (value : Datum) (status : ℕ) → IsBounded format → 0 < s → s < 2 ^ 128 → IsKeptAt number s loss cut
    → IsNear text_bound ((exact +ℤ pos (4 * cut)) -ℤ pos (4 * places)) unit → ((amount parts : ℕ) → 0 < parts
    → StandsFor s loss (amount * 2 ^ down (unit +ℤ pos format.scale)) (parts * 2 ^ up (unit +ℤ pos format.scale))
    → IsDelivered format mode negative amount parts value status)
    → IsScaledDelivery format mode negative number ((exact -ℤ pos (4 * places)) +ℤ pos format.scale) value status
number_delivered format mode negative number s cut places loss exact unit v status b some small k near step =
    let d = step (number * 2 ^ up (power_at (4 * cut) format.scale unit))
    (2 ^ down (power_at (4 * cut) format.scale unit)) (pow_pos (down (power_at (4 * cut) format.scale unit)))
    (stands_at number s (4 * cut) format.scale loss unit k.stands) in
    let e : power_at (4 * cut) format.scale ((exact +ℤ pos (4 * cut)) -ℤ pos (4 * places))
    ≡ (exact -ℤ pos (4 * places)) +ℤ pos format.scale = omega (arith, ints) in
    subst (λ (z : ℤ). IsScaledDelivery format mode negative number z v status) e
    (moved format mode negative number s cut loss ((exact +ℤ pos (4 * cut)) -ℤ pos (4 * places)) unit v status b some
    small k near d)

-- ---- digits that are all 0

-- digits that are all 0 represent 0
pub nothing_read : (number cut : ℕ) (loss : Loss) → IsKeptAt number 0 loss cut → number ≡ 0
nothing_read number cut loss k =
    ⊎_elim
    (λ (e : cut ≡ 0).
    let h : number ≡ 0 * 2 ^ (4 * cut) =
    subst (λ (x : Loss). StandsFor 0 x number (2 ^ (4 * cut))) (k.exact e) k.stands in
    omega (arith, h))
    (λ (l : 2 ^ 124 ≤ 0). absurd (omega (arith, l)))
    k.full

-- for digits that are all 0, the zero of the sign is delivered
pub zero_delivered : (format : Format) (mode : Round) (negative : Bool) (number s cut : ℕ) (loss : Loss) (power : ℤ)
    (value : Datum) (status : ℕ) → s ≡ 0 → IsKeptAt number s loss cut
    → value ≡ finite (zero_sign format.nonfinite negative) 0 → status ≡ 0
    → IsScaledDelivery format mode negative number power value status
zero_delivered format mode negative number s cut loss power v status z k e o =
    let n : number ≡ 0 = nothing_read number cut loss (subst (λ (x : ℕ). IsKeptAt number x loss cut) z k) in
    rw (n, e, o) (zero_text format mode negative power)

-- ---- for the kernel

-- a number of which digits were cut off keeps at least as many as a format has
pub fine_digits : {A : Type 0} (precision number s cut : ℕ) (loss : Loss) → precision ≤ 125
    → IsKeptAt number s loss cut → (loss ≡ ExactlyZero) ⊎ (A ⊎ (2 ^ (precision - 1) ≤ s))
fine_digits precision number s cut loss p k =
    ⊎_elim
    (λ (e : cut ≡ 0). inl (k.exact e))
    (λ (l : 2 ^ 124 ≤ s).
    let g : precision - 1 ≤ 124 = omega (arith, p) in
    inr (inr (omega (arith, pow-le-pow_right two_pos g, l))))
    k.full

-- the format of a shape has a digit, and its precision, span and scale are bounded
pub bounded : (shape : Shape) → IsBounded (format_at shape)
bounded shape =
    let h = shape.parameters in
    record {
      some = omega (arith, h.precision_low);
      above = omega (arith, ints, h.precision_high, h.min_exp_low, h.max_exp_high);
      below = omega (arith, ints, h.precision_high, h.min_exp_low);
    }
