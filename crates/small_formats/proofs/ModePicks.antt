-- The point that a mode of conversions picks, from the digits that a cut keeps; what is delivered for it.
use Rattle.std.proofs.Common.{◌≡◌, ℕ, ◌+◌, ◌-◌, ◌*◌, ◌/◌, ◌%◌, ◌^◌, ◌<◌, ◌≤◌}
use Rattle.std.proofs.Common.{Bool, false, cond, eqb, sym, ap, ◌∙◌, ⊎_elim, arith}
use Rattle.std.proofs.{Math.Nat.mul-le-mul_right, Math.Nat.mul-pos, lemmas.Bool.cases_lt, lemmas.Bool.eq-eqb}
use Rattle.std.proofs.lemmas.{Bool.ne_eqb, Bool.MatchBool-at_false, Nat.pow_pos, Nat.div-add-mod', Nat.mod_below}
use Rattle.apfloat_model.specs.rounding.Enclosure.{IsEnclosed}
use Rattle.apfloat_model.proofs.general.Choices.{cond_times, cond_same}
use Rattle.apfloat_model.proofs.rounding.{KeptDigits.same_unit, Neighbours.below_is, Neighbours.above_is_same}
use Rattle.apfloat_model.proofs.rounding.{Neighbours.above_is_next, Picks.odd_is}
use Rattle.small_formats.specs.{declared.modes.ConversionRound.ConversionRound, Codes.point, IndexPicks.index_between}
use Rattle.small_formats.specs.{ModeConversions.IsSaturatedBy, Modes.IsPickBy, Modes.ieee_mode, Modes.takes_next}
use Rattle.small_formats.specs.{Picks.IsPointDelivered, PicksBy.IsPointAt, PicksBy.moves}
use Rattle.small_formats.specs.Storage.{StorageConstants, IsLawfulStorage}
use Rattle.small_formats.proofs.MovesScaled.{moves_alike}

-- ---- the neighbours of an enclosed magnitude

-- a magnitude that is a point does not move, and any other moves as the mode takes
pub stays : (mode : ConversionRound) (negative odd : Bool) (x y : ℕ) → x ≡ 0 → moves mode negative x y odd ≡ false
stays mode negative odd x y e = ap (λ (b : Bool). cond b false (takes_next mode negative x y odd)) (eq-eqb x 0 e)

takes : (mode : ConversionRound) (negative odd : Bool) (x y : ℕ) → 0 < x
    → moves mode negative x y odd ≡ takes_next mode negative x y odd
takes mode negative odd x y p =
    ap (λ (b : Bool). cond b false (takes_next mode negative x y odd)) (ne_eqb x 0 (λ e. omega (arith, e, p)))

pub picked_between : (precision : ℕ) (mode : ConversionRound) (negative : Bool) (half m c amount parts : ℕ)
    (moved : Bool) → 0 < parts → IsEnclosed precision half m c amount parts
    → moved ≡ moves mode negative (amount - m * 2 ^ c * parts) ((m + 1) * 2 ^ c * parts - amount) (eqb (m % 2) 1)
    → IsPickBy precision mode negative amount parts (cond moved (m + 1) m * 2 ^ c)
picked_between precision mode negative half m c amount parts moved p i e =
    let by : ℕ = amount - m * 2 ^ c * parts in
    let to : ℕ = (m + 1) * 2 ^ c * parts - amount in
    ⊎_elim
    (λ (l : m * 2 ^ c * parts < amount).
    let test : takes_next mode negative by to (eqb (m * 2 ^ c / ((m + 1) * 2 ^ c - m * 2 ^ c) % 2) 1) ≡ moved =
    ap (λ (b : Bool). takes_next mode negative by to b) (odd_is m c)
    ∙ sym (takes mode negative (eqb (m % 2) 1) by to (omega (arith, l))) ∙ sym e in
    record {
      below = m * 2 ^ c;
      above = (m + 1) * 2 ^ c;
      is_below = below_is precision half m c amount parts i;
      is_above = above_is_next precision half m c amount parts i l;
      is = cond_times moved (m + 1) m (2 ^ c)
          ∙ ap (λ (b : Bool). cond b ((m + 1) * 2 ^ c) (m * 2 ^ c)) (sym test);
    })
    (λ (l : amount ≤ m * 2 ^ c * parts).
    let same : amount ≡ m * 2 ^ c * parts = omega (arith, l, i.from) in
    let stayed : moved ≡ false = e ∙ stays mode negative (eqb (m % 2) 1) by to (omega (arith, same)) in
    record {
      below = m * 2 ^ c;
      above = m * 2 ^ c;
      is_below = below_is precision half m c amount parts i;
      is_above = above_is_same precision half m c amount parts p i same;
      is = ap (λ (b : Bool). cond b (m + 1) m * 2 ^ c) stayed ∙ cond_same _ (m * 2 ^ c);
    })
    (cases_lt (m * 2 ^ c * parts) amount)

-- ---- the rest of a cut

difference_low : (amount low d x y : ℕ) → amount * d ≡ x + y → low * d ≡ x → (amount - low) * d ≡ y
difference_low amount low d x y e f =
    ⊎_elim
    (λ (l : amount < low).
    let g : amount * d ≤ low * d = mul-le-mul_right d (omega (arith, l)) in
    let z : amount - low ≡ 0 = omega (arith, l) in
    ap (λ (n : ℕ). n * d) z ∙ omega (arith, e, f, g))
    (λ (l : low ≤ amount).
    let t : ℕ = amount - low in
    let w : amount ≡ low + t = omega (arith, l) in
    let v : amount * d ≡ (low + t) * d = ap (λ (n : ℕ). n * d) w in
    omega (arith, e, f, v))
    (cases_lt amount low)

next_unit : (q k r u : ℕ) → r < k → (q + 1) * k * u ≡ q * k * u + r * u + (k - r) * u
next_unit q k r u l =
    let t : ℕ = k - r in
    let w : k ≡ r + t = omega (arith, l) in
    let v : k * u ≡ (r + t) * u = ap (λ (n : ℕ). n * u) w in
    omega (arith, v)

-- the rest that is cut off, and what lies between it and the next significand, in units of the amount
pub record IsRest (q r k c amount parts u d : ℕ) : Type 0 where
  pub below_by : (amount - q * 2 ^ c * parts) * 2 ^ d ≡ r * (parts * 2 ^ u)
  pub above_by : ((q + 1) * 2 ^ c * parts - amount) * 2 ^ d ≡ (2 ^ k - r) * (parts * 2 ^ u)

pub rest_is : (s q r k c amount parts u d : ℕ) → q * 2 ^ k + r ≡ s → r < 2 ^ k → k + u ≡ c + d
    → amount * 2 ^ d ≡ s * (parts * 2 ^ u) → IsRest q r k c amount parts u d
rest_is s q r k c amount parts u d sum rest e a =
    let w : ℕ = parts * 2 ^ u in
    let unit : 2 ^ k * w ≡ 2 ^ c * parts * 2 ^ d = same_unit parts k u d c e in
    let times : (n : ℕ) → n * 2 ^ c * parts * 2 ^ d ≡ n * 2 ^ k * w = λ n.
    let x : n * (2 ^ k * w) ≡ n * (2 ^ c * parts * 2 ^ d) = ap (λ (y : ℕ). n * y) unit in omega (arith, x) in
    let high = times (q + 1) in
    let whole : s * w ≡ q * 2 ^ k * w + r * w = sym (ap (λ (y : ℕ). y * w) sum) ∙ omega arith in
    record {
      below_by = difference_low amount (q * 2 ^ c * parts) (2 ^ d) (q * 2 ^ k * w) (r * w) (a ∙ whole) (times q);
      above_by = difference_low ((q + 1) * 2 ^ c * parts) amount (2 ^ d) (q * 2 ^ k * w + r * w)
          ((2 ^ k - r) * w) (high ∙ next_unit q (2 ^ k) r w rest) (a ∙ whole);
    }

-- whether the mode moves what a cut kept, by its distances from the two neighbours
pub moves_kept : (mode : ConversionRound) (negative odd : Bool) (number k m c amount parts u d : ℕ) → 0 < parts
    → k + u ≡ c + d → m ≡ number / 2 ^ k → amount * 2 ^ d ≡ number * (parts * 2 ^ u)
    → moves mode negative (amount - m * 2 ^ c * parts) ((m + 1) * 2 ^ c * parts - amount) odd
    ≡ moves mode negative (number % 2 ^ k) (2 ^ k - number % 2 ^ k) odd
moves_kept mode negative odd number k m c amount parts u d q e of a =
    let r : ℕ = number % 2 ^ k in
    let sum : m * 2 ^ k + r ≡ number = ap (λ (n : ℕ). n * 2 ^ k + r) of ∙ div-add-mod' number (2 ^ k) in
    let below : r < 2 ^ k = mod_below number (2 ^ k) (pow_pos k) in
    let rest = rest_is number m r k c amount parts u d sum below e a in
    moves_alike mode negative odd (amount - m * 2 ^ c * parts) ((m + 1) * 2 ^ c * parts - amount) r (2 ^ k - r)
    (2 ^ d) (parts * 2 ^ u) (pow_pos d) (mul-pos q (pow_pos u)) rest.below_by rest.above_by

-- ---- the pick by codes

-- between two codes whose numbers, in units of the amount, are `at` and `next`
pub code_between : (mode : ConversionRound) (negative : Bool) (amount at next low : ℕ) (moved : Bool)
    → at ≤ amount → moved ≡ moves mode negative (amount - at) (next - amount) (eqb (low % 2) 1)
    → cond moved (low + 1) low ≡ cond (eqb at amount) low
    (cond (takes_next mode negative (amount - at) (next - amount) (eqb (low % 2) 1)) (low + 1) low)
code_between mode negative amount at next low moved from e =
    let odd : Bool = eqb (low % 2) 1 in
    let above : Bool = takes_next mode negative (amount - at) (next - amount) odd in
    ⊎_elim
    (λ (l : at < amount).
    let off : eqb at amount ≡ false = ne_eqb at amount (λ z. omega (arith, z, l)) in
    ap (λ (b : Bool). cond b (low + 1) low) (e ∙ takes mode negative odd (amount - at) _ (omega (arith, l)))
    ∙ sym (ap (λ (b : Bool). cond b low (cond above (low + 1) low)) off))
    (λ (l : amount ≤ at).
    let same : at ≡ amount = omega (arith, l, from) in
    ap (λ (b : Bool). cond b (low + 1) low) (e ∙ stays mode negative odd (amount - at) _ (omega (arith, same)))
    ∙ sym (ap (λ (b : Bool). cond b low (cond above (low + 1) low)) (eq-eqb at amount same)))
    (cases_lt at amount)

pub index_is : (p : ℕ) (mode : ConversionRound) (negative : Bool) (amount parts low : ℕ) (moved : Bool)
    → point p low * parts ≤ amount
    → moved ≡ moves mode negative (amount - point p low * parts) (point p (low + 1) * parts - amount) (eqb (low % 2) 1)
    → cond moved (low + 1) low ≡ index_between (takes_next mode negative) (point p) amount parts low
index_is p mode negative amount parts low moved from e =
    code_between mode negative amount (point p low * parts) (point p (low + 1) * parts) low moved from e

-- ---- what is delivered

pub saturated_by : (c : StorageConstants) (mode : ConversionRound) (negative : Bool)
    (amount parts index code status : ℕ) (exact : Bool) → IsLawfulStorage c
    → IsPointAt c.precision mode negative amount parts index exact
    → IsPointDelivered c (ieee_mode mode) negative amount parts index code status
    → IsSaturatedBy c mode negative amount parts code status
saturated_by c mode negative amount parts index code status exact law x d =
    let more : eqb c.precision 1 ≡ false = ne_eqb c.precision 1 (λ e. omega (arith, e, law.precision_low)) in
    record {
      pick = point c.precision index;
      is_pick = MatchBool-at_false _ (IsPickBy c.precision mode negative amount parts (point c.precision index)) more
          x.is_pick;
      value_is = d.value_is;
      status_is = d.status_is;
    }
