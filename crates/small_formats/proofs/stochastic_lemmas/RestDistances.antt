-- The rest that a cut leaves, as the distance of the magnitude from the neighbour below it.
use Rattle.std.proofs.Common.{◌≡◌, ℕ, ◌+◌, ◌-◌, ◌*◌, ◌/◌, ◌%◌, ◌^◌, ◌<◌, ◌≤◌}
use Rattle.std.proofs.Common.{Bool, ◌||◌, leb, ltb, sym, ap, ◌∙◌, ⊎_elim, arith}
use Rattle.std.proofs.Math.Nat.{eq_of_mul-eq-mul_right, mul-div-mul_right, mul-pos, zero-div}
use Rattle.std.proofs.lemmas.{Bool.cases_lt, Nat.div-add-mod', Nat.pow_pos}
use Rattle.apfloat_model.specs.{formats.Format.Format, formats.Format.largest, rounding.Enclosure.IsEnclosed}
use Rattle.apfloat_model.proofs.rounding.KeptDigits.{same_unit}
use Rattle.apfloat_model.proofs.rounding.Neighbours.{above_is_next, above_is_same, below_is}
use Rattle.small_formats.specs.stochastic.Directions.{IsDirection, reaches}

-- the distances of the amount from both neighbours, in units of which the rest is r and the lowest kept digit k
record AreDistances (by to r k v w : ℕ) : Type 0 where
  below_by : by * v ≡ r * w
  both : (by + to) * v ≡ k * w

distances : (q k r low high amount v w : ℕ) → low ≤ amount → amount ≤ high → amount * v ≡ (q * k + r) * w
    → low * v ≡ q * (k * w) → high * v ≡ (q + 1) * (k * w) → AreDistances (amount - low) (high - amount) r k v w
distances q k r low high amount v w from to is lower upper =
    let by : ℕ = amount - low in
    let rest : ℕ = high - amount in
    let a : amount * v ≡ (low + by) * v = ap (λ (n : ℕ). n * v) (omega (arith, from)) in
    let b : high * v ≡ (low + (by + rest)) * v = ap (λ (n : ℕ). n * v) (omega (arith, from, to)) in
    record { below_by = omega (arith, a, is, lower); both = omega (arith, b, lower, upper) }

-- so both have the same parts of the whole
same_parts : (digits by to r k v w : ℕ) → 0 < v → 0 < w → AreDistances by to r k v w
    → 2 ^ digits * by / (by + to) ≡ 2 ^ digits * r / k
same_parts digits by to r k v w p q d =
    let times : 2 ^ digits * by * v ≡ 2 ^ digits * r * w =
    let e : 2 ^ digits * (by * v) ≡ 2 ^ digits * (r * w) = ap (λ (n : ℕ). 2 ^ digits * n) d.below_by in
    omega (arith, e) in
    sym (mul-div-mul_right (2 ^ digits * by) (by + to) p) ∙ ap (λ (n : ℕ). n / ((by + to) * v)) times
    ∙ ap (λ (n : ℕ). 2 ^ digits * r * w / n) d.both ∙ mul-div-mul_right (2 ^ digits * r) k q

-- nothing has no parts
no_parts : (digits by n : ℕ) → by ≡ 0 → 2 ^ digits * by / n ≡ 0
no_parts digits by n z =
    let e : 2 ^ digits * by ≡ 0 = ap (λ (x : ℕ). 2 ^ digits * x) z ∙ omega arith in
    ap (λ (x : ℕ). x / n) e ∙ zero-div n

pub direction_is : (f : Format) (digits random half number k q c amount parts u d : ℕ) (past away : Bool)
    → 0 < parts → k + u ≡ c + d → q ≡ number / 2 ^ k → amount * 2 ^ d ≡ number * (parts * 2 ^ u)
    → IsEnclosed f.precision half q c amount parts → past ≡ ltb (largest f) (q * 2 ^ c)
    → away ≡ (past || leb (2 ^ digits) (2 ^ digits * (number % 2 ^ k) / 2 ^ k + random))
    → IsDirection f digits random amount parts away
direction_is f digits random half number k q c amount parts u d past away some e of a i out is =
    let low : ℕ = q * 2 ^ c in
    let next : ℕ = (q + 1) * 2 ^ c in
    let r : ℕ = number % 2 ^ k in
    let w : ℕ = parts * 2 ^ u in
    let sum : number ≡ q * 2 ^ k + r = sym (div-add-mod' number (2 ^ k)) ∙ ap (λ (n : ℕ). n * 2 ^ k + r) (sym of) in
    let whole : amount * 2 ^ d ≡ (q * 2 ^ k + r) * w = a ∙ ap (λ (n : ℕ). n * w) sum in
    let unit : 2 ^ k * w ≡ 2 ^ c * parts * 2 ^ d = same_unit parts k u d c e in
    let at : (n : ℕ) → n * 2 ^ c * parts * 2 ^ d ≡ n * (2 ^ k * w) = λ n.
    let x : n * (2 ^ k * w) ≡ n * (2 ^ c * parts * 2 ^ d) = ap (λ (y : ℕ). n * y) unit in omega (arith, x) in
    let from = i.from in
    let known : (above : ℕ) → AreDistances (amount - low * parts) (above * parts - amount) r (2 ^ k) (2 ^ d) w
    → away ≡ (ltb (largest f) low || reaches digits random (amount - low * parts) (above * parts - amount)) =
    λ above x. is ∙ ap (λ (b : Bool). b || leb (2 ^ digits) (2 ^ digits * r / 2 ^ k + random)) out
    ∙ ap (λ (n : ℕ). ltb (largest f) low || leb (2 ^ digits) (n + random))
    (sym (same_parts digits (amount - low * parts) (above * parts - amount) r (2 ^ k) (2 ^ d) w (pow_pos d)
    (mul-pos some (pow_pos u)) x)) in
    ⊎_elim
    (λ (l : low * parts < amount). record {
      below = low;
      above = next;
      is_below = below_is f.precision half q c amount parts i;
      is_above = above_is_next f.precision half q c amount parts i l;
      is = known next
          (distances q (2 ^ k) r (low * parts) (next * parts) amount (2 ^ d) w from (omega (arith, i.to)) whole (at q)
          (at (q + 1)));
    })
    (λ (l : amount ≤ low * parts).
    let same : amount ≡ low * parts = omega (arith, l, from) in
    record {
      below = low;
      above = low;
      is_below = below_is f.precision half q c amount parts i;
      is_above = above_is_same f.precision half q c amount parts some i same;
      is =
          let none : r * w ≡ 0 * w =
          let x = at q in let y : amount * 2 ^ d ≡ low * parts * 2 ^ d = ap (λ (n : ℕ). n * 2 ^ d) same in
          omega (arith, x, y, whole) in
          let rest : r ≡ 0 = eq_of_mul-eq-mul_right w (mul-pos some (pow_pos u)) r 0 none in
          let by : amount - low * parts ≡ 0 = omega (arith, l) in
          is ∙ ap (λ (b : Bool). b || leb (2 ^ digits) (2 ^ digits * r / 2 ^ k + random)) out
          ∙ ap (λ (n : ℕ). ltb (largest f) low || leb (2 ^ digits) (n + random))
          (no_parts digits r (2 ^ k) rest
          ∙ sym (no_parts digits (amount - low * parts) (amount - low * parts + (low * parts - amount)) by));
    })
    (cases_lt (low * parts) amount)
