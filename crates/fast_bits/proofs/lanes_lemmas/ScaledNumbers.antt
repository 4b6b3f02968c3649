-- The lemma over plain numbers: what the steps make of m * 2 ^ e quanta of one format is that number's encoding in
-- another one, with `low` more digits, as far as rounding can tell.
use Rattle.std.proofs.Common.{◌≡◌, ℕ, ◌+◌, ◌-◌, ◌*◌, ◌/◌, ◌%◌, ◌^◌, ◌<◌, ◌≤◌, ◌⊎◌, refl, sym, ap, ◌∙◌, subst, inl, inr}
use Rattle.std.proofs.{Common.⊎_elim, Common.arith, Math.Nat.add-mul-mod_self_right, Math.Nat.div-eq_of_lt}
use Rattle.std.proofs.Math.Nat.{mul-add-div_right, mul-le-mul_right, mul-lt-mul_of_pos_right, pow-le-pow_right}
use Rattle.std.proofs.lemmas.Nat.{div-add-mod', div_below, le-div, pow-add, pow_pos}
use Rattle.std.proofs.lemmas.Bool.{cases_eq, cases_lt}
use Rattle.apfloat_model.specs.rounding.{RoundingToOdd.odd_quotient, Standing.StandsFor}
use Rattle.apfloat_model.proofs.general.Powers.{two_pos}
use Rattle.apfloat_model.proofs.rounding.KeptDigits.{enclosed_from, fits_cut, full_cut}
use Rattle.apfloat_rounding.specs.Cuts.{loss_at}
use Rattle.fast_bits.specs.lanes.Scaled.{IsScaled}
use Rattle.fast_bits.proofs.lanes_lemmas.Cuts.{exact_odd, far_below, in_quanta, inexact_odd, odd_cut, odd_of_inexact}

-- ---- bounds of the quotient rounded to odd

-- below an even bound
pub odd_below : (m u h : ℕ) → 0 < u → m < 2 * h * u → odd_quotient m u < 2 * h
odd_below m u h some fits =
    let quotient : m / u < 2 * h = div_below m u (2 * h) some fits in
    ⊎_elim
    (λ (none : m % u ≡ 0). omega (arith, exact_odd (m / u) (m % u) none, quotient))
    (λ (more : m % u ≡ 0 → ⊥). omega (arith, inexact_odd (m / u) (m % u) more, quotient))
    (cases_eq (m % u) 0)

odd_from : (m u k : ℕ) → 0 < u → k * u ≤ m → k ≤ odd_quotient m u
odd_from m u k some least =
    let quotient : k ≤ m / u = le-div k m u some least in
    ⊎_elim
    (λ (none : m % u ≡ 0). omega (arith, exact_odd (m / u) (m % u) none, quotient))
    (λ (more : m % u ≡ 0 → ⊥). omega (arith, inexact_odd (m / u) (m % u) more, quotient))
    (cases_eq (m % u) 0)

pub odd_some : (m u : ℕ) → 0 < u → 0 < m → 0 < odd_quotient m u
odd_some m u some any =
    ⊎_elim
    (λ (none : m % u ≡ 0).
    let parts : m / u * u + m % u ≡ m = div-add-mod' m u in
    ⊎_elim
    (λ (zero : m / u < 1).
    let gone : m / u ≡ 0 = omega (arith, zero) in
    let units : m / u * u ≡ 0 * u = ap (λ (x : ℕ). x * u) gone in
    absurd (omega (arith, units, parts, none, any)))
    (λ (one : 1 ≤ m / u). omega (arith, exact_odd (m / u) (m % u) none, one))
    (cases_lt (m / u) 1))
    (λ (more : m % u ≡ 0 → ⊥).
    omega (arith, (odd_of_inexact m u some more).odd))
    (cases_eq (m % u) 0)

-- ---- at a place

-- a sum with a multiple of the unit
pub sum_cut : (s low precision place : ℕ)
    → ((s + place * 2 ^ (precision - 1 + low)) / 2 ^ low ≡ place * 2 ^ (precision - 1) + s / 2 ^ low)
    × ((s + place * 2 ^ (precision - 1 + low)) % 2 ^ low ≡ s % 2 ^ low)
sum_cut s low precision place =
    let power : 2 ^ (precision - 1 + low) ≡ 2 ^ (precision - 1) * 2 ^ low = pow-add 2 (precision - 1) low in
    let scaled : place * 2 ^ (precision - 1 + low) ≡ place * 2 ^ (precision - 1) * 2 ^ low =
    ap (λ (x : ℕ). place * x) power ∙ omega arith in
    let swap : s + place * 2 ^ (precision - 1 + low) ≡ place * 2 ^ (precision - 1) * 2 ^ low + s =
    omega (arith, scaled) in
    let back : s + place * 2 ^ (precision - 1 + low) ≡ s + place * 2 ^ (precision - 1) * 2 ^ low =
    omega (arith, scaled) in (
      ap (λ (x : ℕ). x / 2 ^ low) swap ∙ mul-add-div_right (pow_pos low) (place * 2 ^ (precision - 1)) s,
      ap (λ (x : ℕ). x % 2 ^ low) back ∙ add-mul-mod_self_right s (place * 2 ^ (precision - 1)) (2 ^ low),
    )

-- a number rounded to odd has no more digits than the one that is cut
odd_digits : (digits cut m : ℕ) → m < 2 ^ (digits + 1 + cut) → odd_quotient m (2 ^ cut) < 2 ^ (digits + 1)
odd_digits digits cut m fits =
    let all : 2 ^ (digits + 1 + cut) ≡ 2 ^ (digits + 1) * 2 ^ cut = pow-add 2 (digits + 1) cut in
    let even : 2 ^ (digits + 1) ≡ 2 * 2 ^ digits =
    let one_more : 1 + digits ≡ digits + 1 = omega arith in
    ap (λ (x : ℕ). 2 ^ x) (sym one_more) ∙ pow-add 2 1 digits in
    let below : m < 2 * 2 ^ digits * 2 ^ cut = subst (λ (x : ℕ). m < x) (all ∙ ap (λ (x : ℕ). x * 2 ^ cut) even) fits in
    subst (λ (x : ℕ). odd_quotient m (2 ^ cut) < x) (sym even)
    (odd_below m (2 ^ cut) (2 ^ digits) (pow_pos cut) below)

-- the place and the number of places moved up balance the two scales
scaled_at : (precision more cut low w place e to from m : ℕ) → 3 ≤ precision → 1 ≤ more
    → w + (more + 1) ≤ low
    → low + cut + e + to ≡ w + place + from → m < 2 ^ (precision + more + 1 + cut)
    → (place ≡ 0) ⊎ ((2 ^ (precision + more + cut) ≤ m) × (w + (more + 1) ≡ low))
    → IsScaled precision low (odd_quotient m (2 ^ cut) * 2 ^ w + place * 2 ^ (precision - 1 + low))
    (m * 2 ^ e * 2 ^ to) (2 ^ from)
scaled_at precision more cut low w place e to from m precise guarded room balance fits full =
    let o = odd_quotient m (2 ^ cut) in
    let s = o * 2 ^ w in
    let u = s / 2 ^ low in
    let amount = m * 2 ^ e * 2 ^ to in
    let cut_sum = sum_cut s low precision place in
    let unit : 0 < 2 ^ cut = pow_pos cut in
    let odd_fits = odd_digits (precision + more) cut m fits in
    let moved : 2 ^ (precision + more + 1 + w) ≡ 2 ^ (precision + more + 1) * 2 ^ w =
    pow-add 2 (precision + more + 1) w in
    let s_fits : s < 2 ^ (precision + more + 1 + w) =
    subst (λ (x : ℕ). s < x) (sym moved) (mul-lt-mul_of_pos_right odd_fits (pow_pos w)) in
    let u_fits : u < 2 ^ precision = fits_cut s (precision + more + 1 + w) low precision s_fits (omega (arith, room)) in
    -- all digits, where the place is not the last
    let u_full : (place ≡ 0) ⊎ (2 ^ (precision - 1) ≤ u) =
    ⊎_elim (λ (z : place ≡ 0). inl z)
    (λ both.
    let whole = both.1 in
    let least : 2 ^ (precision + more + cut) ≡ 2 ^ (precision + more) * 2 ^ cut = pow-add 2 (precision + more) cut in
    let odd_least : 2 ^ (precision + more) ≤ o =
    odd_from m (2 ^ cut) (2 ^ (precision + more)) unit (subst (λ (x : ℕ). x ≤ m) least both.0) in
    let power : 2 ^ (precision + more + w) ≡ 2 ^ (precision + more) * 2 ^ w = pow-add 2 (precision + more) w in
    let same : precision + more + 1 + w - 1 ≡ precision + more + w = omega arith in
    let s_least : 2 ^ (precision + more + 1 + w - 1) ≤ s =
    subst (λ (x : ℕ). x ≤ s) (sym power ∙ ap (λ (x : ℕ). 2 ^ x) (sym same))
    (mul-le-mul_right (2 ^ w) odd_least) in
    inr (full_cut s (precision + more + 1 + w) low precision (omega (arith, precise)) (λ _. s_least)
    (omega (arith, whole)))) full in
    let stands : StandsFor u (loss_at (s % 2 ^ low) (2 ^ (low - 1))) amount (2 ^ place * 2 ^ from) =
    in_quanta u (loss_at (s % 2 ^ low) (2 ^ (low - 1))) m w low cut e to place from balance
    (odd_cut m cut w low (omega (arith, guarded, room))) in
    record {
      place = place;
      kept = u;
      code = cut_sum.0;
      fits = u_fits;
      full = u_full;
      enclosed =
          enclosed_from precision u place (loss_at (s % 2 ^ low) (2 ^ (low - 1))) amount (2 ^ from)
          (omega (arith, precise)) (pow_pos from) u_fits u_full stands;
      stands =
          subst (λ (x : ℕ). StandsFor u (loss_at x (2 ^ (low - 1))) amount (2 ^ place * 2 ^ from)) (sym cut_sum.1)
          stands;
    }

-- farther below the quantum than all digits, the number is not moved up: it is less than half a quantum, and so is what
-- it is taken for
scaled_far : (precision more cut low e to from m : ℕ) → 3 ≤ precision → precision + more + 2 ≤ low → 0 < m
    → m < 2 ^ (precision + more + 1 + cut) → precision + more + 1 + cut + e + to + 1 ≤ from
    → IsScaled precision low (odd_quotient m (2 ^ cut)) (m * 2 ^ e * 2 ^ to) (2 ^ from)
scaled_far precision more cut low e to from m precise room some fits far =
    let o = odd_quotient m (2 ^ cut) in
    let unit : 0 < 2 ^ cut = pow_pos cut in
    let amount = m * 2 ^ e * 2 ^ to in
    let half : 2 ^ (precision + more + 1) ≤ 2 ^ (low - 1) = pow-le-pow_right two_pos (omega (arith, room)) in
    let short : o < 2 ^ (low - 1) = omega (arith, odd_digits (precision + more) cut m fits, half) in
    let twice : 2 ^ (low - 1) ≤ 2 ^ low = pow-le-pow_right two_pos (omega arith) in
    let nothing : o / 2 ^ low ≡ 0 = div-eq_of_lt (omega (arith, short, twice)) in
    let stands : StandsFor (o / 2 ^ low) (loss_at (o % 2 ^ low) (2 ^ (low - 1))) amount (2 ^ 0 * 2 ^ from) =
    far_below m o low (precision + more + 1 + cut) e to from some fits (odd_some m (2 ^ cut) unit some) short
    (omega (arith, room)) far in
    let kept_fits : o / 2 ^ low < 2 ^ precision =
    subst (λ (x : ℕ). x < 2 ^ precision) (sym nothing) (pow_pos precision) in
    record {
      place = 0;
      kept = o / 2 ^ low;
      code = omega arith;
      fits = kept_fits;
      full = inl refl;
      enclosed =
          enclosed_from precision (o / 2 ^ low) 0 (loss_at (o % 2 ^ low) (2 ^ (low - 1))) amount (2 ^ from)
          (omega (arith, precise)) (pow_pos from) kept_fits (inl refl) stands;
      stands = stands;
    }

-- ---- the lemma

-- A significand is rounded to odd to more + 1 digits more than the target has. `e` and `first` are biased exponents of
-- the source less 1: that of the number, and that of the target's least normal number; `to` and `from` are the scales
-- of target and source.
pub scaled_stands : (precision more cut low first e to from m : ℕ) → 3 ≤ precision → 1 ≤ more
    → precision + more + 2 ≤ low
    → from ≡ to + (cut + (more + 1)) + first → 0 < m → m < 2 ^ (precision + more + 1 + cut)
    → (e ≡ 0) ⊎ (2 ^ (precision + more + cut) ≤ m) → IsScaled precision low
    (odd_quotient m (2 ^ cut) * 2 ^ (low - (more + 1) - (first - e)) + (e - first) * 2 ^ (precision - 1 + low))
    (m * 2 ^ e * 2 ^ to) (2 ^ from)
scaled_stands precision more cut low first e to from m precise guarded room scales some fits full =
    let o = odd_quotient m (2 ^ cut) in
    let Goal : ℕ → ℕ → Type 0 = λ w place.
    IsScaled precision low (o * 2 ^ w + place * 2 ^ (precision - 1 + low)) (m * 2 ^ e * 2 ^ to) (2 ^ from) in
    ⊎_elim {C = Goal (low - (more + 1) - (first - e)) (e - first)}
    (λ (under : e < first).
    let place : 0 ≡ e - first = omega (arith, under) in
    ⊎_elim {C = Goal (low - (more + 1) - (first - e)) (e - first)}
    (λ (near : first - e < low - more).
    subst (λ (x : ℕ). Goal (low - (more + 1) - (first - e)) x) place
    (scaled_at precision more cut low (low - (more + 1) - (first - e)) 0 e to from m precise guarded
    (omega (arith, room))
    (omega (arith, room, scales, under, near)) fits (inl refl)))
    (λ (far : low - more ≤ first - e).
    let w : 0 ≡ low - (more + 1) - (first - e) = omega (arith, room, far) in
    let same : o ≡ o * 2 ^ 0 + 0 * 2 ^ (precision - 1 + low) = omega arith in
    subst (λ (x : ℕ). Goal x (e - first)) w
    (subst (λ (x : ℕ). Goal 0 x) place
    (subst (λ (x : ℕ). IsScaled precision low x (m * 2 ^ e * 2 ^ to) (2 ^ from)) same
    (scaled_far precision more cut low e to from m precise room some fits (omega (arith, room, scales, under, far))))))
    (cases_lt (first - e) (low - more)))
    (λ (over : first ≤ e).
    let w : low - (more + 1) ≡ low - (more + 1) - (first - e) = omega (arith, over) in
    let all : (e - first ≡ 0) ⊎ ((2 ^ (precision + more + cut) ≤ m) × (low - (more + 1) + (more + 1) ≡ low)) =
    ⊎_elim (λ (z : e ≡ 0). inl (omega (arith, z)))
    (λ (f : 2 ^ (precision + more + cut) ≤ m). inr (f, omega (arith, room))) full in
    subst (λ (x : ℕ). Goal x (e - first)) w
    (scaled_at precision more cut low (low - (more + 1)) (e - first) e to from m precise guarded (omega (arith, room))
    (omega (arith, room, scales, over)) fits all))
    (cases_lt e first)
