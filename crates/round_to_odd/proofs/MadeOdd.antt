-- The answer toward zero, made odd, is the exact result rounded to odd.
use Rattle.std.proofs.Common.{◌≡◌, ℕ, ◌+◌, ◌*◌, ◌<◌, ◌≤◌, Bool, true, false, ◌||◌, eqb}
use Rattle.std.proofs.Common.{ltb, cond, if◌then◌else◌, sym, refl, ap, ◌∙◌, subst, ⊎_elim, arith}
use Rattle.std.proofs.Math.Nat.{lt_of_mul-lt-mul_right}
use Rattle.std.proofs.lemmas.Bool.{cases_lt, cases_eq, cases_Bool, lt-ltb, le-ltb, ne_eqb, eq-eqb, or_right}
use Rattle.std.proofs.lemmas.Bool.{MatchBool-at_true, MatchBool-at_false}
use Rattle.std.specs.Bool.{MatchBool}
use Rattle.apfloat_model.specs.declared.{kinds.Round.TheVariants.TowardZero, status.StatusAnd.StatusAnd}
use Rattle.apfloat_model.specs.formats.{Format.Format, Format.largest, Datum.Datum, Datum.finite}
use Rattle.apfloat_model.specs.rounding.{Flags.bits_of, Grid.IsBelow, Grid.IsAbove}
use Rattle.apfloat_model.specs.rounding.Rounding.{is_tiny, delivered_value, delivered_status, raises_overflow}
use Rattle.apfloat_model.specs.rounding.Rounding.{signed_quanta, zero_sign, inexact_bit}
use Rattle.apfloat_model.proofs.general.Choices.{eqb_self, cond_same}
use Rattle.apfloat_model.proofs.rounding.Deliveries.{signed_some, quanta_are}
use Rattle.apfloat_model.proofs.rounding.{Laws.exact_above, Laws.below_le_above, Neighbours.above_unique}
use Rattle.apfloat_model.proofs.{rounding.FarMagnitudes.largest_on_grid, whole_numbers.SignedNumbers.largest_some}
use Rattle.round_to_odd.specs.Odd.{is_odd_below, odd_between, has_flag, IsMadeOdd, IsMadeOddNumber, IsOddOfTruncated}

-- the next point after the lower neighbour of a magnitude that is above it is the upper neighbour
next_is : (precision below above next amount parts : ℕ) → 0 < parts → below * parts < amount
    → IsBelow precision below amount parts → IsAbove precision above amount parts
    → IsAbove precision next (below + 1) 1 → next ≡ above
next_is precision below above next amount parts p h x y z =
    let l : below < above = lt_of_mul-lt-mul_right parts (omega (arith, y.not_below, h)) in
    let k : next ≤ above = z.least above y.on_grid (omega (arith, l)) in
    let m : amount ≤ next * parts =
    ⊎_elim
    (λ (q : next * parts < amount).
    let n : next ≤ below = x.greatest next z.on_grid (omega (arith, q)) in absurd (omega (arith, n, z.not_below)))
    (λ (q : amount ≤ next * parts). q)
    (cases_lt (next * parts) amount) in
    omega (arith, k, y.least next z.on_grid m)

-- ---- values

-- the largest value is unchanged
largest_stays : (f : Format) (negative : Bool) (value result : Datum) → value ≡ finite negative (largest f)
    → IsMadeOdd f negative value result → result ≡ finite negative (largest f)
largest_stays f negative value result e made =
    let y : IsMadeOddNumber f negative negative (largest f) result =
    subst (λ (z : Datum). IsMadeOdd f negative z result) e made in
    y.value_is ∙
    rw (or_right (is_odd_below (largest f) y.above) (eqb (largest f) (largest f)) (eqb_self (largest f))) refl

-- an inexact value toward zero, made odd
inexact_made : (f : Format) (negative : Bool) (amount parts below above : ℕ) (value result : Datum)
    → 3 ≤ f.precision → 0 < parts → below ≤ largest f → below * parts < amount → IsBelow f.precision below amount parts
    → IsAbove f.precision above amount parts → value ≡ signed_quanta f.nonfinite negative below
    → IsMadeOdd f negative value result → result ≡ delivered_value f TowardZero negative (odd_between below above)
inexact_made f negative amount parts below above value result precise some l h x y e made =
    let sign : Bool = if eqb below 0 then zero_sign f.nonfinite negative else negative in
    let z : IsMadeOddNumber f negative sign below result =
    subst (λ (v : Datum). IsMadeOdd f negative v result) (e ∙ quanta_are f.nonfinite negative below) made in
    let n : z.above ≡ above = next_is f.precision below above z.above amount parts some h x y z.is_above in
    let r : result
    ≡ (if is_odd_below below above || eqb below (largest f) then finite sign below else finite negative above) =
    z.value_is ∙
    ap (λ (v : ℕ). if is_odd_below below v || eqb below (largest f) then finite sign below else finite negative v) n in
    let stays : finite sign below ≡ signed_quanta f.nonfinite negative below =
    sym (quanta_are f.nonfinite negative below) in
    let order : below < above = lt_of_mul-lt-mul_right parts (omega (arith, y.not_below, h)) in
    ⊎_elim
    (λ (t : is_odd_below below above ≡ true).
    r ∙ rw (t, le-ltb (largest f) below l) stays)
    (λ (t : is_odd_below below above ≡ false).
    ⊎_elim
    (λ (q : below ≡ largest f).
    let far : ltb (largest f) above ≡ true = lt-ltb (largest f) above (omega (arith, q, order)) in
    let nonzero : 0 < below = let k = largest_some f precise in omega (arith, k, q) in
    r ∙ rw (t, eq-eqb below (largest f) q, far)
    (stays ∙ signed_some f.nonfinite negative below nonzero ∙ ap (λ (v : ℕ). finite negative v) q))
    (λ (q : below ≡ largest f → ⊥).
    let top : above ≤ largest f =
    ⊎_elim
    (λ (k : largest f * parts < amount).
    let b : largest f ≤ below = x.greatest (largest f) (largest_on_grid f) (omega (arith, k)) in
    absurd (q (omega (arith, b, l))))
    (λ (k : amount ≤ largest f * parts). y.least (largest f) (largest_on_grid f) k)
    (cases_lt (largest f * parts) amount) in
    let within : ltb (largest f) above ≡ false = le-ltb (largest f) above top in
    r ∙ rw (t, ne_eqb below (largest f) q, within)
    (sym (signed_some f.nonfinite negative above (omega (arith, order)))))
    (cases_eq below (largest f)))
    (cases_Bool (is_odd_below below above))

-- ---- answers

overflow_flag : (test : Bool) (status : ℕ) → status ≡ (if test then 20 else 16) → has_flag status inexact_bit ≡ true
overflow_flag true status e = ap (λ (s : ℕ). has_flag s inexact_bit) e
overflow_flag false status e = ap (λ (s : ℕ). has_flag s inexact_bit) e

tiny_flag : (test : Bool) (status : ℕ) → status ≡ (if test then 24 else 16) → has_flag status inexact_bit ≡ true
tiny_flag true status e = ap (λ (s : ℕ). has_flag s inexact_bit) e
tiny_flag false status e = ap (λ (s : ℕ). has_flag s inexact_bit) e

-- the value that is made of the answer for a lower neighbour
made_value : (f : Format) (negative : Bool) (amount parts below above : ℕ) (answer result : StatusAnd Datum)
    → 3 ≤ f.precision → 0 < parts → IsBelow f.precision below amount parts
    → IsAbove f.precision above amount parts → answer.value ≡ delivered_value f TowardZero negative below
    → bits_of answer.status ≡ delivered_status f TowardZero negative amount parts below
    → MatchBool (has_flag (bits_of answer.status) inexact_bit) (IsMadeOdd f negative answer.value result.value)
    (result.value ≡ answer.value) → result.value ≡ delivered_value f TowardZero negative (odd_between below above)
made_value f negative amount parts below above answer result precise some x y v s made =
    let order : below ≤ above = below_le_above f.precision below above amount parts some x y in
    ⊎_elim
    (λ (h : largest f < below).
    let past : ltb (largest f) below ≡ true = lt-ltb (largest f) below h in
    let flag = overflow_flag (raises_overflow f TowardZero negative) (bits_of answer.status) (s ∙ rw past refl) in
    let is : answer.value ≡ finite negative (largest f) = v ∙ rw past refl in
    let out : ltb (largest f) (odd_between below above) ≡ true =
    lt-ltb (largest f) (odd_between below above) (between (is_odd_below below above) h order) in
    largest_stays f negative answer.value result.value is (MatchBool-at_true _ _ flag made) ∙ rw out refl)
    (λ (h : below ≤ largest f).
    let within : ltb (largest f) below ≡ false = le-ltb (largest f) below h in
    let is : answer.value ≡ signed_quanta f.nonfinite negative below = v ∙ rw within refl in
    let b = x.not_above in
    ⊎_elim
    (λ (q : below * parts ≡ amount).
    let none : bits_of answer.status ≡ 0 = s ∙ rw (within, eq-eqb (below * parts) amount q) refl in
    let flag : has_flag (bits_of answer.status) inexact_bit ≡ false = ap (λ (z : ℕ). has_flag z inexact_bit) none in
    let same : above ≡ below =
    above_unique f.precision above below amount parts y
    (exact_above f.precision below amount parts some x.on_grid (sym q)) in
    let odd : below ≡ odd_between below above =
    cond_same (is_odd_below below above) below
    ∙ ap (λ (z : ℕ). cond (is_odd_below below above) below z) (sym same) in
    MatchBool-at_false _ _ flag made ∙ v ∙ ap (λ (z : ℕ). delivered_value f TowardZero negative z) odd)
    (λ (q : below * parts ≡ amount → ⊥).
    let less : below * parts < amount =
    ⊎_elim (λ (k : below * parts < amount). k) (λ (k : amount ≤ below * parts). absurd (q (omega (arith, k, b))))
    (cases_lt (below * parts) amount) in
    let flag = tiny_flag (is_tiny f TowardZero negative amount parts below) (bits_of answer.status)
    (s ∙ rw (within, ne_eqb (below * parts) amount q) refl) in
    inexact_made f negative amount parts below above answer.value result.value precise some h less x y is
    (MatchBool-at_true _ _ flag made))
    (cases_eq (below * parts) amount))
    (cases_lt (largest f) below)
  where
    between : {top low high : ℕ} (test : Bool) → top < low → low ≤ high → top < cond test low high
    between true h l = h
    between false h l = omega (arith, h, l)

pub odd_of_truncated : IsOddOfTruncated
odd_of_truncated f negative amount parts answer result precise some d made =
    let below = d.is_pick.below in
    let is : d.pick ≡ below = d.is_pick.is in
    let status : bits_of answer.status ≡ delivered_status f TowardZero negative amount parts below =
    d.status_is ∙ ap (λ (z : ℕ). delivered_status f TowardZero negative amount parts z) is in
    record {
      below = below;
      above = d.is_pick.above;
      is_below = d.is_pick.is_below;
      is_above = d.is_pick.is_above;
      value_is =
          made_value f negative amount parts below d.is_pick.above answer result precise some d.is_pick.is_below
          d.is_pick.is_above
          (d.value_is ∙ ap (λ (z : ℕ). delivered_value f TowardZero negative z) is) status made.value_is;
      status_is = made.status_is ∙ status;
    }
