-- A quotient rounded to odd and moved up: what is above some places, and the rest below them, stand for the exact
-- number.
use Rattle.std.proofs.Common.{◌≡◌, ℕ, ◌+◌, ◌-◌, ◌*◌, ◌/◌, ◌%◌, ◌^◌, ◌<◌, ◌≤◌}
use Rattle.std.proofs.Common.{Bool, cond, sym, ap, ◌∙◌, subst, ⊎_elim, arith}
use Rattle.std.proofs.Math.Nat.{div-eq_of_lt, lt-div-mul-add, mod-eq_of_lt, mul-le-mul_right, mul-lt-mul_of_pos_right}
use Rattle.std.proofs.{Math.Nat.mul-pos, Math.Nat.pow-le-pow_right, lemmas.Nat.div-add-mod'}
use Rattle.std.proofs.lemmas.{Nat.mod_below, Nat.pow-add, Nat.pow_pos, Bool.cases_eq, Bool.eq-eqb, Bool.ne_eqb}
use Rattle.apfloat_model.specs.declared.loss.Loss.{Loss, TheVariants.LessThanHalf}
use Rattle.apfloat_model.specs.rounding.{RoundingToOdd.odd_for_rest, RoundingToOdd.odd_quotient, Standing.StandsFor}
use Rattle.apfloat_model.proofs.general.Powers.{pow3, twice_half, two_pos}
use Rattle.apfloat_model.proofs.rounding.KeptDigits.{stands_cancel, stands_times}
use Rattle.apfloat_rounding.specs.Cuts.{loss_at}
use Rattle.apfloat_rounding.proofs.{CutRests.loss_less, CutRests.rest_stands, OddCuts.odd_rest}

-- ---- the quotient rounded to odd

pub exact_odd : (q r : ℕ) → r ≡ 0 → odd_for_rest q r ≡ q
exact_odd q r none = ap (λ (b : Bool). cond b q (q + 1 - q % 2)) (eq-eqb r 0 none)

pub inexact_odd : (q r : ℕ) → (r ≡ 0 → ⊥) → odd_for_rest q r ≡ q + 1 - q % 2
inexact_odd q r some = ap (λ (b : Bool). cond b q (q + 1 - q % 2)) (ne_eqb r 0 some)

-- the odd one of q and q + 1, for a number that is above q units and below q + 1
pub record IsOddOf (o m u : ℕ) : Type 0 where
  pub odd : o % 2 ≡ 1
  pub above : o * u < m + u
  pub below : m < (o + 1) * u

pub odd_of_inexact : (m u : ℕ) → 0 < u → (m % u ≡ 0 → ⊥) → IsOddOf (odd_quotient m u) m u
odd_of_inexact m u some inexact =
    let q = m / u in
    let o = odd_quotient m u in
    let is : odd_quotient m u ≡ m / u + 1 - m / u % 2 = inexact_odd (m / u) (m % u) inexact in
    let parts : m / u * u + m % u ≡ m = div-add-mod' m u in
    let high : m < m / u * u + u = lt-div-mul-add some in
    let least : m / u ≤ odd_quotient m u = omega (arith, is) in
    let most : odd_quotient m u ≤ m / u + 1 = omega (arith, is) in
    let low_units : m / u * u ≤ odd_quotient m u * u = mul-le-mul_right u least in
    let high_units : odd_quotient m u * u ≤ (m / u + 1) * u = mul-le-mul_right u most in
    record {
      odd = omega (arith, is);
      above = omega (arith, high_units, parts, inexact);
      below = omega (arith, low_units, high);
    }

-- ---- the cut

-- the digits of a quotient rounded to odd, moved up w places and cut by `low` places
pub odd_cut : (m cut w low : ℕ) → w + 2 ≤ low → StandsFor (odd_quotient m (2 ^ cut) * 2 ^ w / 2 ^ low)
    (loss_at (odd_quotient m (2 ^ cut) * 2 ^ w % 2 ^ low) (2 ^ (low - 1))) (m * 2 ^ w) (2 ^ low * 2 ^ cut)
odd_cut m cut w low room =
    let o = odd_quotient m (2 ^ cut) in
    let t = o * 2 ^ w in
    let q = t / 2 ^ low in
    let rest = t % 2 ^ low in
    let half = 2 ^ (low - 1) in
    let g = 2 ^ (low - 2 - w) in
    let unit : 0 < 2 ^ cut = pow_pos cut in
    let twice : 2 * 2 ^ (low - 1) ≡ 2 ^ low = twice_half low (omega (arith, room)) in
    let places : 1 + (low - 2 - w) + w ≡ low - 1 = omega (arith, room) in
    let half_is : 2 ^ (low - 1) ≡ 2 * 2 ^ (low - 2 - w) * 2 ^ w =
    ap (λ (x : ℕ). 2 ^ x) (sym places) ∙ pow3 1 (low - 2 - w) w in
    let below : rest < 2 * half =
    subst (λ (x : ℕ). t % 2 ^ low < x) (sym twice) (mod_below t (2 ^ low) (pow_pos low)) in
    let whole : q * (2 * half) + rest ≡ t = ap (λ (x : ℕ). q * x + rest) twice ∙ div-add-mod' t (2 ^ low) in
    let At : ℕ → Type 0 = λ x. StandsFor q (loss_at rest half) (m * 2 ^ w) (x * 2 ^ cut) in
    subst At twice
    (⊎_elim {C = At (2 * half)}
    (λ (none : m % 2 ^ cut ≡ 0).
    let exact : odd_quotient m (2 ^ cut) ≡ m / 2 ^ cut = exact_odd (m / 2 ^ cut) (m % 2 ^ cut) none in
    let parts : m / 2 ^ cut * 2 ^ cut + m % 2 ^ cut ≡ m = div-add-mod' m (2 ^ cut) in
    let units : odd_quotient m (2 ^ cut) * 2 ^ cut ≡ m =
    ap (λ (x : ℕ). x * 2 ^ cut) exact ∙ omega (arith, parts, none) in
    let amount : m * 2 ^ w ≡ odd_quotient m (2 ^ cut) * 2 ^ cut * 2 ^ w = ap (λ (x : ℕ). x * 2 ^ w) (sym units) in
    let scaled : (q * (2 * half) + rest) * 2 ^ cut ≡ t * 2 ^ cut = ap (λ (x : ℕ). x * 2 ^ cut) whole in
    rest_stands q half rest (m * 2 ^ w) (2 ^ cut) unit below (omega (arith, amount, scaled)))
    (λ (some : m % 2 ^ cut ≡ 0 → ⊥).
    let near = odd_of_inexact m (2 ^ cut) unit some in
    let digits : o * 2 ^ w ≡ q * (2 * (2 * g * 2 ^ w)) + rest =
    sym whole ∙ ap (λ (x : ℕ). q * (2 * x) + rest) half_is in
    let short : rest < 2 * (2 * g * 2 ^ w) = subst (λ (x : ℕ). rest < 2 * x) half_is below in
    subst (λ (x : ℕ). StandsFor q (loss_at rest x) (m * 2 ^ w) (2 * x * 2 ^ cut)) (sym half_is)
    (odd_rest q g o rest m (2 ^ cut) (2 ^ w) (pow_pos w) near.odd digits short near.above near.below))
    (cases_eq (m % 2 ^ cut) 0))

-- ---- in quanta

-- the same number, counted in the quanta of the target at a place
pub in_quanta : (u : ℕ) (loss : Loss) (m w low cut e to place from : ℕ) → low + cut + e + to ≡ w + place + from
    → StandsFor u loss (m * 2 ^ w) (2 ^ low * 2 ^ cut) → StandsFor u loss (m * 2 ^ e * 2 ^ to) (2 ^ place * 2 ^ from)
in_quanta u loss m w low cut e to place from balance stands =
    let times = stands_times u loss (m * 2 ^ w) (2 ^ low * 2 ^ cut) (2 ^ (e + to)) (pow_pos (e + to)) stands in
    let power : 2 ^ (e + to) ≡ 2 ^ e * 2 ^ to = pow-add 2 e to in
    let amount : m * 2 ^ w * 2 ^ (e + to) ≡ m * 2 ^ e * 2 ^ to * 2 ^ w =
    ap (λ (x : ℕ). m * 2 ^ w * x) power ∙ omega arith in
    let left : 2 ^ (low + cut + (e + to)) ≡ 2 ^ low * 2 ^ cut * 2 ^ (e + to) = pow3 low cut (e + to) in
    let right : 2 ^ (place + from + w) ≡ 2 ^ place * 2 ^ from * 2 ^ w = pow3 place from w in
    let same : low + cut + (e + to) ≡ place + from + w = omega (arith, balance) in
    let unit : 2 ^ low * 2 ^ cut * 2 ^ (e + to) ≡ 2 ^ place * 2 ^ from * 2 ^ w =
    sym left ∙ ap (λ (x : ℕ). 2 ^ x) same ∙ right in
    stands_cancel u loss (m * 2 ^ e * 2 ^ to) (2 ^ place * 2 ^ from) (2 ^ w) (pow_pos w)
    (subst (λ (x : ℕ). StandsFor u loss (m * 2 ^ e * 2 ^ to * 2 ^ w) x) unit
    (subst (λ (x : ℕ). StandsFor u loss x (2 ^ low * 2 ^ cut * 2 ^ (e + to))) amount times))

-- a number with fewer than `digits` digits that is farther below a quantum than all of them is below half of it, and so
-- is whatever nonzero number stands for it
pub far_below : (m o low digits e to from : ℕ) → 0 < m → m < 2 ^ digits → 0 < o → o < 2 ^ (low - 1) → 0 < low
    → digits + e + to + 1 ≤ from
    → StandsFor (o / 2 ^ low) (loss_at (o % 2 ^ low) (2 ^ (low - 1))) (m * 2 ^ e * 2 ^ to) (2 ^ 0 * 2 ^ from)
far_below m o low digits e to from some fits some_odd short any far =
    let twice : 2 * 2 ^ (low - 1) ≡ 2 ^ low = twice_half low any in
    let all_low : o < 2 ^ low = omega (arith, twice, short) in
    let quotient : o / 2 ^ low ≡ 0 = div-eq_of_lt all_low in
    let remainder : o % 2 ^ low ≡ o = mod-eq_of_lt all_low in
    let above : 0 < m * 2 ^ e * 2 ^ to = mul-pos (mul-pos some (pow_pos e)) (pow_pos to) in
    let digits_up = mul-lt-mul_of_pos_right (mul-lt-mul_of_pos_right fits (pow_pos e)) (pow_pos to) in
    let power : 2 ^ (digits + e + to) ≡ 2 ^ digits * 2 ^ e * 2 ^ to = pow3 digits e to in
    let one_more : 2 ^ (digits + e + to + 1) ≡ 2 ^ (digits + e + to) * 2 = pow-add 2 (digits + e + to) 1 in
    let most : 2 ^ (digits + e + to + 1) ≤ 2 ^ from = pow-le-pow_right two_pos far in
    let less : loss_at o (2 ^ (low - 1)) ≡ LessThanHalf = loss_less o (2 ^ (low - 1)) some_odd short in
    let here : StandsFor 0 LessThanHalf (m * 2 ^ e * 2 ^ to) (2 ^ 0 * 2 ^ from) =
    (omega (arith, above), omega (arith, digits_up, power, one_more, most)) in
    rw (quotient, remainder, less) here
