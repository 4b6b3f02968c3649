-- A single's significand at its place is scaled to a target.
use Rattle.std.proofs.Common.{◌≡◌, ℕ, ◌+◌, ◌-◌, ◌*◌, ◌/◌, ◌%◌, ◌^◌, ◌<◌, ◌≤◌, ◌⊎◌, min, refl, sym, ap, ◌∙◌, subst, inl}
use Rattle.std.proofs.Common.{inr, ⊎_elim, arith, ℤ, pos, ◌+ℤ◌, ◌-ℤ◌}
use Rattle.std.proofs.Math.Nat.{min-eq_left, min-eq_right, mod-eq_of_lt, mul-le-mul_left, mul-le-mul_right}
use Rattle.std.proofs.Math.Nat.{pow-le-pow_right, zero-div, zero-mod, min-le_right}
use Rattle.std.proofs.lemmas.{Int.ints, Nat.pow-add, Nat.pow_pos, Bool.cases_lt}
use Rattle.apfloat_model.specs.{bits.Layout.Layout, declared.loss.Loss.TheVariants.ExactlyZero, formats.Format.Format}
use Rattle.apfloat_model.specs.rounding.{RoundingToOdd.odd_quotient, Standing.StandsFor}
use Rattle.apfloat_model.proofs.{general.Powers.pow3, general.Powers.two_pos, rounding.KeptDigits.enclosed_from}
use Rattle.apfloat_rounding.specs.Cuts.{loss_at}
use Rattle.fast_bits.specs.lanes.{Scaled.IsPastTarget, Scaled.IsReachedLane, Scaled.IsScaled, Targets.IsTarget}
use Rattle.fast_bits.proofs.lanes_lemmas.{Cuts.exact_odd, Interchanges.places_below}
use Rattle.fast_bits.proofs.lanes_lemmas.ScaledNumbers.{odd_below, scaled_stands}

-- zero is scaled to zero
pub zero_scaled : (precision low parts : ℕ) → 0 < precision → 0 < parts → IsScaled precision low 0 0 parts
zero_scaled precision low parts some any =
    let none : 0 / 2 ^ low ≡ 0 = zero-div (2 ^ low) in
    let rest : 0 % 2 ^ low ≡ 0 = zero-mod (2 ^ low) in
    let stands : StandsFor 0 ExactlyZero 0 (2 ^ 0 * parts) = omega arith in
    record {
      place = 0;
      kept = 0;
      code = omega (arith, none);
      fits = pow_pos precision;
      full = inl refl;
      enclosed = enclosed_from precision 0 0 ExactlyZero 0 parts some any (pow_pos precision) (inl refl) stands;
      stands = subst (λ (n : ℕ). StandsFor 0 (loss_at n (2 ^ (low - 1))) 0 (2 ^ 0 * parts)) (sym rest) stands;
    }

-- a significand with all digits, past all places
past_at : (f : Format) (m e first : ℕ) → f.precision ≤ 24 → 149 ≡ f.scale + (24 - f.precision) + first → 2 ^ 23 ≤ m
    → first + (f.span + 1) ≤ e → IsPastTarget f (m * 2 ^ e * 2 ^ f.scale) (2 ^ 149)
past_at f m e first digits scales full far =
    let low : 2 ^ (23 + e + f.scale) ≡ 2 ^ 23 * 2 ^ e * 2 ^ f.scale = pow3 23 e f.scale in
    let placed = mul-le-mul_right (2 ^ f.scale) (mul-le-mul_right (2 ^ e) full) in
    let room : f.precision + f.span + 149 ≤ 23 + e + f.scale = omega (arith, digits, scales, far) in
    let least : 2 ^ (f.precision + f.span + 149) ≤ 2 ^ (23 + e + f.scale) = pow-le-pow_right two_pos room in
    record { some = pow_pos 149; from = omega (arith, low, placed, least, pow-add 2 (f.precision + f.span) 149) }

-- the steps, without wrapping around
steps : Format → ℕ → ℕ → ℕ → ℕ
steps f first m place =
    odd_quotient m (2 ^ 9) * 2 ^ (f.precision + 1 - (first - place))
    + min (place - first) (f.span + 1) * 2 ^ (f.precision - 1 + 16)

-- a nonzero significand at a place that is not past the first one past all values
near_reached : (f : Format) (m place first : ℕ) → 3 ≤ f.precision → f.precision ≤ 11
    → 149 ≡ f.scale + (24 - f.precision) + first → 0 < m → m < 2 ^ 24 → (place ≡ 0) ⊎ (2 ^ 23 ≤ m)
    → IsScaled f.precision 16
    (odd_quotient m (2 ^ 9) * 2 ^ (f.precision + 1 - (first - place))
    + (place - first) * 2 ^ (f.precision - 1 + 16)) (m * 2 ^ place * 2 ^ f.scale) (2 ^ 149)
near_reached f m place first precise digits scales some fits full =
    let p = f.precision in
    let cut : p + (14 - p) + 1 + 9 ≡ 24 = omega (arith, digits) in
    let cut_full : p + (14 - p) + 9 ≡ 23 = omega (arith, digits) in
    let up : 16 - (14 - p + 1) ≡ p + 1 = omega (arith, digits) in
    subst
    (λ (n : ℕ). IsScaled p 16
    (odd_quotient m (2 ^ 9) * 2 ^ (n - (first - place)) + (place - first) * 2 ^ (p - 1 + 16))
    (m * 2 ^ place * 2 ^ f.scale) (2 ^ 149)) up
    (scaled_stands p (14 - p) 9 16 first place f.scale 149 m precise (omega (arith, digits)) (omega (arith, digits))
    (omega (arith, scales, digits)) some (subst (λ (n : ℕ). m < 2 ^ n) (sym cut) fits)
    (subst (λ (n : ℕ). (place ≡ 0) ⊎ (2 ^ n ≤ m)) (sym cut_full) full))

some_reached : (f : Format) (m place first : ℕ) → 3 ≤ f.precision → f.precision ≤ 11
    → 149 ≡ f.scale + (24 - f.precision) + first → 0 < m → m < 2 ^ 24 → (place ≡ 0) ⊎ (2 ^ 23 ≤ m)
    → IsReachedLane f (steps f first m place) (m * 2 ^ place * 2 ^ f.scale) (2 ^ 149)
unfolding steps
some_reached f m place first precise digits scales some fits full =
    let p = f.precision in
    let last = first + (f.span + 1) in
    let odd = odd_quotient m (2 ^ 9) in
    ⊎_elim {C = IsReachedLane f (steps f first m place) (m * 2 ^ place * 2 ^ f.scale) (2 ^ 149)}
    (λ (far : last < place).
    let digits_full : 2 ^ 23 ≤ m =
    ⊎_elim (λ (z : place ≡ 0). absurd (omega (arith, z, far))) (λ (h : 2 ^ 23 ≤ m). h) full in
    let capped : last - first ≡ min (place - first) (f.span + 1) =
    let over : f.span + 1 ≤ place - first = omega (arith, far) in
    let is = min-eq_right over in omega (arith, is) in
    let down : first - last ≡ first - place = omega (arith, far) in
    let at : IsScaled p 16 (odd * 2 ^ (p + 1 - (first - last)) + (last - first) * 2 ^ (p - 1 + 16))
    (m * 2 ^ last * 2 ^ f.scale) (2 ^ 149) =
    near_reached f m last first precise digits scales some fits (inr digits_full) in
    record {
      reached = m * 2 ^ last * 2 ^ f.scale;
      scaled =
          subst
          (λ (n : ℕ). IsScaled p 16 (odd * 2 ^ (p + 1 - n) + min (place - first) (f.span + 1) * 2 ^ (p - 1 + 16))
          (m * 2 ^ last * 2 ^ f.scale) (2 ^ 149)) down
          (subst (λ (n : ℕ). IsScaled p 16 (odd * 2 ^ (p + 1 - (first - last)) + n * 2 ^ (p - 1 + 16))
          (m * 2 ^ last * 2 ^ f.scale) (2 ^ 149)) capped at);
      alike = inr (
        past_at f m last first (omega (arith, digits)) scales digits_full (omega arith),
        past_at f m place first (omega (arith, digits)) scales digits_full (omega (arith, far)),
      );
    })
    (λ (near : place ≤ last).
    let same : place - first ≡ min (place - first) (f.span + 1) =
    let under : place - first ≤ f.span + 1 = omega (arith, near) in sym (min-eq_left under) in
    record {
      reached = m * 2 ^ place * 2 ^ f.scale;
      scaled =
          subst (λ (n : ℕ). IsScaled p 16 (odd * 2 ^ (p + 1 - (first - place)) + n * 2 ^ (p - 1 + 16))
          (m * 2 ^ place * 2 ^ f.scale) (2 ^ 149)) same
          (near_reached f m place first precise digits scales some fits full);
      alike = inl refl;
    })
    (cases_lt last place)

zero_reached : (f : Format) (m place first : ℕ) → 3 ≤ f.precision → m ≡ 0 → place ≡ 0
    → IsReachedLane f (steps f first m place) (m * 2 ^ place * 2 ^ f.scale) (2 ^ 149)
unfolding steps
zero_reached f m place first precise none last =
    let p = f.precision in
    let quotient : 0 / 2 ^ 9 ≡ 0 = zero-div (2 ^ 9) in
    let rest : 0 % 2 ^ 9 ≡ 0 = zero-mod (2 ^ 9) in
    let odd : odd_quotient m (2 ^ 9) ≡ 0 =
    ap (λ (n : ℕ). odd_quotient n (2 ^ 9)) none ∙ exact_odd (0 / 2 ^ 9) (0 % 2 ^ 9) rest ∙ quotient in
    let above : min (place - first) (f.span + 1) ≡ 0 =
    let is : place - first ≡ 0 = omega (arith, last) in
    ap (λ (n : ℕ). min n (f.span + 1)) is ∙ min-eq_left (let least : 0 ≤ f.span + 1 = omega arith in least) in
    let left : odd_quotient m (2 ^ 9) * 2 ^ (p + 1 - (first - place)) ≡ 0 * 2 ^ (p + 1 - (first - place)) =
    ap (λ (n : ℕ). n * 2 ^ (p + 1 - (first - place))) odd in
    let right : min (place - first) (f.span + 1) * 2 ^ (p - 1 + 16) ≡ 0 * 2 ^ (p - 1 + 16) =
    ap (λ (n : ℕ). n * 2 ^ (p - 1 + 16)) above in
    let sum : 0 ≡ steps f first m place = omega (arith, left, right) in
    let placed : m * 2 ^ place ≡ 0 * 2 ^ place = ap (λ (n : ℕ). n * 2 ^ place) none in
    let amount : m * 2 ^ place * 2 ^ f.scale ≡ 0 * 2 ^ place * 2 ^ f.scale = ap
    (λ (n : ℕ). n * 2 ^ f.scale) placed in
    record {
      reached = 0;
      scaled =
          subst (λ (n : ℕ). IsScaled p 16 n 0 (2 ^ 149)) sum
          (zero_scaled p 16 (2 ^ 149) (omega (arith, precise)) (pow_pos 149));
      alike = inl (omega (arith, amount));
    }

-- the steps stay in words
steps_below : (f : Format) (layout : Layout) (min_exp max_exp : ℤ) (m place first : ℕ)
    → IsTarget f layout min_exp max_exp → m < 2 ^ 24
    → (odd_quotient m (2 ^ 9) * 2 ^ (f.precision + 1 - (first - place)) ≤ 2 ^ 27)
    × (min (place - first) (f.span + 1) * 2 ^ (f.precision - 1) ≤ 2 ^ 15)
steps_below f layout min_exp max_exp m place first is fits =
    let p = f.precision in
    let odd = odd_quotient m (2 ^ 9) in
    let odd_fits : odd < 2 * 2 ^ 14 =
    odd_below m (2 ^ 9) (2 ^ 14) (pow_pos 9) (let below : m < 2 * 2 ^ 14 * 2 ^ 9 = omega (arith, fits) in below) in
    let odd_most : odd ≤ 2 ^ 15 = omega (arith, odd_fits) in
    let up_most : p + 1 - (first - place) ≤ 12 = omega (arith, is.digits) in
    let up : 2 ^ (p + 1 - (first - place)) ≤ 2 ^ 12 = pow-le-pow_right two_pos up_most in
    let left_most : 2 ^ 15 * 2 ^ (p + 1 - (first - place)) ≤ 2 ^ 15 * 2 ^ 12 = mul-le-mul_left (2 ^ 15) up in
    let places = places_below f layout min_exp max_exp is in
    let most = min-le_right (place - first) (f.span + 1) in
    let above : min (place - first) (f.span + 1) ≤ f.span + 2 = omega (arith, most) in
    let right = mul-le-mul_right (2 ^ (p - 1)) above in
    (omega (arith, mul-le-mul_right (2 ^ (p + 1 - (first - place))) odd_most, left_most), omega (arith, right, places))

-- the scales balance
balance : (precision scale first : ℕ) (min_exp : ℤ) → 3 ≤ precision → precision ≤ 11
    → pos scale ≡ pos (precision - 1) -ℤ min_exp → pos first ≡ (min_exp +ℤ pos 126)
    → 149 ≡ scale + (24 - precision) + first
balance precision scale first min_exp precise digits there is = omega (arith, ints, precise, digits, there, is)

-- what the code computes
pub record AreSteps (f : Format) (kept rest m place : ℕ) : Type 0 where
  pub reached : IsReachedLane f (kept * 2 ^ 16 + rest) (m * 2 ^ place * 2 ^ f.scale) (2 ^ 149)
  pub below : kept + 2 < 2 ^ 16

pub steps_are : (f : Format) (layout : Layout) (min_exp max_exp : ℤ) (m place first odd above up moved places : ℕ)
    → IsTarget f layout min_exp max_exp → pos f.scale ≡ pos (f.precision - 1) -ℤ min_exp → m < 2 ^ 24
    → (place ≡ 0) ⊎ (2 ^ 23 ≤ m) → pos first ≡ (min_exp +ℤ pos 126) → odd ≡ odd_quotient m (2 ^ 9)
    → above ≡ min (place - first) (f.span + 1) → up ≡ f.precision + 1 - (first - place) → moved ≡ odd * 2 ^ up
    → places ≡ above * 2 ^ (f.precision - 1) % 65536 → AreSteps f (moved / 65536 + places) (moved % 65536) m place
unfolding steps
steps_are f layout min_exp max_exp m place first odd above up moved places is scale fits full first_is odd_is above_is
    up_is moved_is places_are =
    let p = f.precision in
    let scales = balance p f.scale first min_exp is.precise is.digits scale first_is in
    let below = steps_below f layout min_exp max_exp m place first is fits in
    let left_is : odd * 2 ^ up ≡ odd_quotient m (2 ^ 9) * 2 ^ (p + 1 - (first - place)) =
    (λ i. odd_is i * 2 ^ up_is i) in
    let right_is : above * 2 ^ (p - 1) ≡ min (place - first) (f.span + 1) * 2 ^ (p - 1) =
    ap (λ (n : ℕ). n * 2 ^ (p - 1)) above_is in
    let right : above * 2 ^ (p - 1) % 65536 ≡ above * 2 ^ (p - 1) = mod-eq_of_lt (omega (arith, right_is, below.1)) in
    let power : 2 ^ (p - 1 + 16) ≡ 2 ^ (p - 1) * 2 ^ 16 = pow-add 2 (p - 1) 16 in
    let whole : min (place - first) (f.span + 1) * 2 ^ (p - 1 + 16)
    ≡ min (place - first) (f.span + 1) * 2 ^ (p - 1) * 2 ^ 16 =
    ap (λ (n : ℕ). min (place - first) (f.span + 1) * n) power ∙ omega arith in
    let sum : steps f first m place ≡ (moved / 65536 + places) * 2 ^ 16 + moved % 65536 =
    omega (arith, right, left_is, right_is, whole, moved_is, places_are) in
    let it : IsReachedLane f (steps f first m place) (m * 2 ^ place * 2 ^ f.scale) (2 ^ 149) =
    ⊎_elim {C = IsReachedLane f (steps f first m place) (m * 2 ^ place * 2 ^ f.scale) (2 ^ 149)}
    (λ (z : m < 1).
    let none : m ≡ 0 = omega (arith, z) in
    let last : place ≡ 0 = ⊎_elim (λ (e : place ≡ 0). e) (λ (h : 2 ^ 23 ≤ m). absurd (omega (arith, h, z))) full in
    zero_reached f m place first is.precise none last)
    (λ (some : 1 ≤ m). some_reached f m place first is.precise is.digits scales some fits full)
    (cases_lt m 1) in
    record {
      reached = subst (λ (n : ℕ). IsReachedLane f n (m * 2 ^ place * 2 ^ f.scale) (2 ^ 149)) sum it;
      below = omega (arith, right, left_is, right_is, below.0, below.1, moved_is, places_are);
    }
