-- The integer that a mode picks.
use Rattle.std.proofs.Common.{◌≡◌, ℕ, ◌+◌, ◌-◌, ◌*◌, ◌/◌, ◌%◌, ◌^◌, ◌<◌, ◌≤◌, Bool, true, false, cond, eqb, sym, refl}
use Rattle.std.proofs.Common.{ap, ◌∙◌, subst, ⊎_elim, arith, ℤ, pos, negsuc, ◌-ℤ◌, ◌≤ℤ◌}
use Rattle.std.proofs.Math.Nat.{mul-mod_left, mul-div_cancel, div-eq_of_lt-le, div-one, mul-le-mul_right}
use Rattle.std.proofs.Math.Nat.{mul-le-mul_left, pow-le-pow_right, mul-lt-mul_of_pos_right}
use Rattle.std.proofs.lemmas.{Nat.div-add-mod', Nat.pow-add, Nat.pow_pos, Int.ints}
use Rattle.std.proofs.lemmas.Bool.{cases_eq, cases_lt, eq-eqb, ne_eqb}
use Rattle.apfloat_model.specs.declared.{kinds.Round.Round, kinds.Round.TheVariants.TowardZero, loss.Loss.Loss}
use Rattle.apfloat_model.specs.declared.loss.Loss.TheVariants.{ExactlyZero, LessThanHalf, ExactlyHalf, MoreThanHalf}
use Rattle.apfloat_model.specs.rounding.{Standing.StandsFor, Standing.up, Standing.down, Enclosure.rounds_up}
use Rattle.apfloat_model.specs.rounding.Rounding.{takes_above, pick_between, signed_quanta}
use Rattle.apfloat_model.specs.formats.{Format.Format, Datum.Datum, Datum.finite}
use Rattle.apfloat_model.specs.whole_numbers.WholeNumbers.{whole_pick, whole_quanta, inexact_unless, IsRoundToIntegral}
use Rattle.apfloat_model.proofs.{rounding.Picks.takes_more, arithmetic.SingleScalings.scaled_stands}
use Rattle.apfloat_model.proofs.general.{Powers.two_pos, Powers.twice_half, Choices.off_both}
use Rattle.apfloat_model.proofs.rounding.{Deliveries.signed_some, Losses.stands_to, Losses.stands_past, Losses.cut_at}
use Rattle.apfloat_model.proofs.rounding.{KeptDigits.stands_cancel, Picks.kept, Picks.takes_less, Picks.takes_half}
use Rattle.apfloat_rounding.specs.Cuts.{loss_at}
use Rattle.apfloat_rounding.proofs.CutRests.{loss_some, rest_below, rest_stands}
use Rattle.apfloat_rounding.proofs.QuantumCuts.{less_than_half, word_stands}
use Rattle.apfloat_conversions.specs.{declared.whole.Whole.Whole, Wholes.IsPicked}

-- an integer that is an odd multiple of the distance to the next one is odd
whole_odd : (q : ℕ) → eqb (q / (q + 1 - q) % 2) 1 ≡ eqb (q % 2) 1
whole_odd q =
    let d : q + 1 - q ≡ 1 = omega arith in
    ap (λ (x : ℕ). eqb (q / x % 2) 1) d ∙ ap (λ (x : ℕ). eqb (x % 2) 1) (div-one q)

-- the loss decides whether the mode takes the next integer
takes_at : (mode : Round) (negative odd : Bool) (q amount parts : ℕ) (loss : Loss) → (loss ≡ ExactlyZero → ⊥)
    → StandsFor q loss amount parts
    → takes_above mode negative (amount - q * parts) ((q + 1) * parts - amount) odd ≡ rounds_up mode negative loss odd
takes_at mode negative odd q amount parts ExactlyZero n h = absurd (n refl)
takes_at mode negative odd q amount parts LessThanHalf n h = let a = h.0 in let b = h.1 in
    takes_less mode negative odd _ _ (omega (arith, a, b))
takes_at mode negative odd q amount parts ExactlyHalf n h = takes_half mode negative odd _ _ (omega (arith, h))
takes_at mode negative odd q amount parts MoreThanHalf n h = let a = h.0 in let b = h.1 in
    takes_more mode negative odd _ _ (omega (arith, a, b))

-- between two integers, the mode picks the one that is kept
between_is : (mode : Round) (negative : Bool) (q amount parts : ℕ) (loss : Loss) → (loss ≡ ExactlyZero → ⊥)
    → StandsFor q loss amount parts → pick_between mode negative q (q + 1) amount parts ≡ kept mode negative loss q
between_is mode negative q amount parts loss n h =
    ap (λ (b : Bool). cond (takes_above mode negative (amount - q * parts) ((q + 1) * parts - amount) b) (q + 1) q)
    (whole_odd q) ∙ ap (λ (b : Bool). cond b (q + 1) q) (takes_at mode negative (eqb (q % 2) 1) q amount parts loss n h)

-- an integral amount is picked itself
pub whole_exactly : (mode : Round) (negative : Bool) (q amount parts : ℕ) → 0 < parts → amount ≡ q * parts
    → whole_pick mode negative amount parts ≡ q
whole_exactly mode negative q amount parts p e =
    let z : eqb (amount % parts) 0 ≡ true =
    eq-eqb (amount % parts) 0 (ap (λ (x : ℕ). x % parts) e ∙ mul-mod_left q parts) in
    rw z (ap (λ (x : ℕ). x / parts) e ∙ mul-div_cancel q p)

-- of an amount that is not integral, the pick is its integer part, rounded by the loss
pub whole_inexactly : (mode : Round) (negative : Bool) (q amount parts : ℕ) (loss : Loss) → 0 < parts
    → (loss ≡ ExactlyZero → ⊥) → StandsFor q loss amount parts
    → whole_pick mode negative amount parts ≡ kept mode negative loss q
whole_inexactly mode negative q amount parts loss p n h =
    let a : q * parts < amount = stands_past q loss amount parts p n h in
    let b : amount < (q + 1) * parts = stands_to q loss amount parts p h in
    let a' : parts * q ≤ amount = omega arith in
    let b' : amount < (q + 1) * parts = b in
    let d : amount / parts ≡ q = div-eq_of_lt-le parts (omega arith) (omega arith) in
    let m : amount / parts * parts + amount % parts ≡ amount = div-add-mod' amount parts in
    let m' : amount / parts * parts ≡ q * parts = ap (λ (x : ℕ). x * parts) d in
    let z : eqb (amount % parts) 0 ≡ false = ne_eqb (amount % parts) 0 (λ e. omega arith) in
    let w : pick_between mode negative (amount / parts) (amount / parts + 1) amount parts ≡ kept mode negative loss q =
    ap (λ (x : ℕ). pick_between mode negative x (x + 1) amount parts) d
    ∙ between_is mode negative q amount parts loss n h in
    rw z w

-- an integral amount is reported as exact
pub exactly_so : (mode : Round) (negative : Bool) (q amount parts : ℕ) → 0 < parts → amount ≡ q * parts
    → true ≡ eqb (whole_pick mode negative amount parts * parts) amount
exactly_so mode negative q amount parts p e =
    let w = whole_exactly mode negative q amount parts p e in
    sym (eq-eqb (whole_pick mode negative amount parts * parts) amount (ap (λ (x : ℕ). x * parts) w ∙ sym e))

-- an amount that is not integral is not reported as exact
pub inexactly_so : (mode : Round) (negative : Bool) (q amount parts : ℕ) (loss : Loss) → 0 < parts
    → (loss ≡ ExactlyZero → ⊥) → StandsFor q loss amount parts
    → false ≡ eqb (whole_pick mode negative amount parts * parts) amount
inexactly_so mode negative q amount parts loss p n h =
    sym (ne_eqb (whole_pick mode negative amount parts * parts) amount
    (λ e. off_both (rounds_up mode negative loss (eqb (q % 2) 1)) q amount parts
    (stands_past q loss amount parts p n h) (stands_to q loss amount parts p h)
    (ap (λ (x : ℕ). x * parts) (sym (whole_inexactly mode negative q amount parts loss p n h)) ∙ e)))

-- ---- by cases of the loss

-- the integer that is picked, by the loss
pub whole_at : (mode : Round) (negative : Bool) (q amount parts : ℕ) (loss : Loss) → 0 < parts
    → StandsFor q loss amount parts → whole_pick mode negative amount parts ≡ kept mode negative loss q
whole_at mode negative q amount parts ExactlyZero p h = whole_exactly mode negative q amount parts p h
whole_at mode negative q amount parts LessThanHalf p h =
    whole_inexactly mode negative q amount parts LessThanHalf p (λ e. cc) h
whole_at mode negative q amount parts ExactlyHalf p h =
    whole_inexactly mode negative q amount parts ExactlyHalf p (λ e. cc) h
whole_at mode negative q amount parts MoreThanHalf p h =
    whole_inexactly mode negative q amount parts MoreThanHalf p (λ e. cc) h

-- whether the picked integer is exact, by the loss
pub exact_at : (mode : Round) (negative : Bool) (q amount parts : ℕ) (loss : Loss) (exact : Bool) → 0 < parts
    → StandsFor q loss amount parts → (exact ≡ true → loss ≡ ExactlyZero) → (exact ≡ false → loss ≡ ExactlyZero → ⊥)
    → exact ≡ eqb (whole_pick mode negative amount parts * parts) amount
exact_at mode negative q amount parts loss true p h f g =
    exactly_so mode negative q amount parts p (subst (λ (x : Loss). StandsFor q x amount parts) (f refl) h)
exact_at mode negative q amount parts loss false p h f g = inexactly_so mode negative q amount parts loss p (g refl) h

-- the integer that is kept by the loss is picked
pub picked_at : (mode : Round) (negative : Bool) (q amount parts : ℕ) (loss : Loss) (whole : Whole) → 0 < parts
    → StandsFor q loss amount parts → (whole.exact ≡ true → loss ≡ ExactlyZero)
    → (whole.exact ≡ false → loss ≡ ExactlyZero → ⊥) → whole.magnitude ≡ kept mode negative loss q
    → IsPicked mode negative amount parts whole
picked_at mode negative q amount parts loss whole p h f g m =
    record {
      magnitude_is = m ∙ sym (whole_at mode negative q amount parts loss p h);
      exact_is = exact_at mode negative q amount parts loss whole.exact p h f g;
    }

-- ---- the number, by its significand

-- a significand cut at the binary point represents the magnitude in units of 1
pub cut_whole_stands : (s q k amount parts : ℕ) (loss : Loss) → amount * 2 ^ k ≡ s * parts
    → StandsFor q loss (s * parts) (2 ^ k * parts) → StandsFor q loss amount parts
cut_whole_stands s q k amount parts loss e h =
    let u : 2 ^ k * parts ≡ parts * 2 ^ k = omega arith in
    let t : StandsFor q loss (s * parts) (parts * 2 ^ k) = subst (λ (x : ℕ). StandsFor q loss (s * parts) x) u h in
    stands_cancel q loss amount parts (2 ^ k) (pow_pos k)
    (subst (λ (x : ℕ). StandsFor q loss x (parts * 2 ^ k)) (sym e) t)

-- a number whose last digit is `k` places below the binary point
pub places_down : (digits scale : ℕ) (min_exp x r : ℤ) (s a k : ℕ) → pos scale ≡ pos digits -ℤ min_exp
    → r ≡ (x -ℤ pos digits) → pos k ≡ (pos 0 -ℤ r) → a * 2 ^ down (x -ℤ min_exp) ≡ s * 2 ^ up (x -ℤ min_exp)
    → a * 2 ^ k ≡ s * 2 ^ scale
places_down digits scale min_exp x r s a k z e f h =
    let g = scaled_stands s a (down (x -ℤ min_exp)) (up (x -ℤ min_exp)) 0 scale 0 k h (omega (arith, ints, z, e, f)) in
    omega (arith, g)

-- a number whose last digit has an exponent of at least 0 is an integer
pub places_up : (digits scale : ℕ) (min_exp x r : ℤ) (s a k : ℕ) → pos scale ≡ pos digits -ℤ min_exp
    → r ≡ (x -ℤ pos digits) → pos k ≡ (r -ℤ pos 0) → a * 2 ^ down (x -ℤ min_exp) ≡ s * 2 ^ up (x -ℤ min_exp)
    → a ≡ s * 2 ^ k * 2 ^ scale
places_up digits scale min_exp x r s a k z e f h =
    let g = scaled_stands s a (down (x -ℤ min_exp)) (up (x -ℤ min_exp)) 0 scale k 0 h (omega (arith, ints, z, e, f)) in
    omega (arith, g)

-- for an integer z that is not below 0, `up z` is z
pub up_of : (z : ℤ) → pos 0 ≤ℤ z → pos (up z) ≡ z
up_of (pos k) h = refl
up_of (negsuc k) h = absurd (omega (arith, ints))

-- a number with more digits than the word does not fit in it
shifted_past : (digits s k : ℕ) → 2 ^ digits ≤ s → 128 ≤ digits + k → 2 ^ 128 ≤ s * 2 ^ k
shifted_past digits s k f h = omega (arith, pow-add 2 digits k, mul-le-mul_right (2 ^ k) f, pow-le-pow_right two_pos h)

-- an integer of that many digits fits the word
pub shifted_within : (precision s k : ℕ) → s < 2 ^ precision → precision + k ≤ 128 → s * 2 ^ k < 2 ^ 128
shifted_within precision s k f h =
    omega (arith, pow-add 2 precision k, mul-lt-mul_of_pos_right f (pow_pos k), pow-le-pow_right two_pos h)

-- a number with an exponent of 128 or more is too large
pub too_large : (mode : Round) (negative : Bool) (digits scale : ℕ) (min_exp x : ℤ) (s a : ℕ) → digits ≤ 127
    → pos scale ≡ pos digits -ℤ min_exp → 2 ^ digits ≤ s → pos 128 ≤ℤ x
    → a * 2 ^ down (x -ℤ min_exp) ≡ s * 2 ^ up (x -ℤ min_exp) → 2 ^ 128 ≤ whole_pick mode negative a (2 ^ scale)
too_large mode negative digits scale min_exp x s a c z f g h =
    let k : ℕ = up (x -ℤ pos digits) in
    let q : pos (up (x -ℤ pos digits)) ≡ (x -ℤ pos digits) = up_of (x -ℤ pos digits) (omega (arith, ints)) in
    let e = places_up digits scale min_exp x (x -ℤ pos digits) s a (up (x -ℤ pos digits)) z refl
    (omega (arith, ints, q)) h in
    let w = whole_exactly mode negative (s * 2 ^ up (x -ℤ pos digits)) a (2 ^ scale) (pow_pos scale) e in
    subst (λ (y : ℕ). 2 ^ 128 ≤ y) (sym w) (shifted_past digits s (up (x -ℤ pos digits)) f (omega (arith, ints, q)))

-- 1 can be added to a significand after a cut
pub cut_below : (s q k : ℕ) → s < 2 ^ 125 → q ≡ s / 2 ^ k → q + 1 < 2 ^ 128
cut_below s q k f e = omega (arith, div-add-mod' s (2 ^ k), mul-le-mul_left (s / 2 ^ k) (pow_pos k), e, f)

-- after a cut of at least one place, the significand has room for 1 more
pub whole_fits : (p s k mag : ℕ) → 0 < p → s < 2 ^ p → 1 ≤ k → mag ≤ s / 2 ^ k + 1 → mag ≤ 2 ^ (p - 1)
whole_fits p s k mag q f l h =
    let t : 2 * 2 ^ (p - 1) ≡ 2 ^ p = twice_half p q in
    omega (arith, div-add-mod' s (2 ^ k), mul-le-mul_left (s / 2 ^ k) (pow-le-pow_right two_pos l), t, f, h)

-- ---- a number rounded to an integer

-- a number rounded to an integer, by its magnitude
pub integral_picked : (format : Format) (mode : Round) (negative : Bool) (n mag : ℕ) (exact : Bool) (value : Datum)
    (st : ℕ) → mag ≡ whole_pick mode negative n (2 ^ format.scale) → exact ≡ eqb (whole_quanta format mode negative n) n
    → value ≡ signed_quanta format.nonfinite negative (mag * 2 ^ format.scale) → st ≡ inexact_unless exact
    → IsRoundToIntegral format mode (finite negative n) value st
integral_picked format mode b n mag exact v st i x w t = record {
  value_is = w ∙ ap (λ (k : ℕ). signed_quanta format.nonfinite b (k * 2 ^ format.scale)) i;
  status_is = t ∙ ap (λ (k : Bool). inexact_unless k) x;
}

-- an integer stays as it is
pub integral_stays : (format : Format) (mode : Round) (negative : Bool) (n q : ℕ) → 0 < n → n ≡ q * 2 ^ format.scale
    → IsRoundToIntegral format mode (finite negative n) (finite negative n) 0
integral_stays format mode b n q p e =
    integral_picked format mode b n q true (finite b n) 0
    (sym (whole_exactly mode b q n (2 ^ format.scale) (pow_pos format.scale) e))
    (exactly_so mode b q n (2 ^ format.scale) (pow_pos format.scale) e)
    (sym (signed_some format.nonfinite b n p) ∙ ap (λ (k : ℕ). signed_quanta format.nonfinite b k) e) refl

-- ---- toward zero, only an integer is exact

-- toward zero, the result is exact if there is no rest
pub whole_toward_zero : (negative : Bool) (amount parts : ℕ) → 0 < parts
    → eqb (whole_pick TowardZero negative amount parts * parts) amount ≡ eqb (amount % parts) 0
whole_toward_zero negative amount parts p =
    let m : amount / parts * parts + amount % parts ≡ amount = div-add-mod' amount parts in
    ⊎_elim
    (λ (e : amount % parts ≡ 0).
    let q : amount / parts * parts ≡ amount = omega (arith, m, e) in
    rw (eq-eqb (amount % parts) 0 e) (eq-eqb (amount / parts * parts) amount q))
    (λ (e : amount % parts ≡ 0 → ⊥).
    rw (ne_eqb (amount % parts) 0 e) (ne_eqb (amount / parts * parts) amount (λ q. e (omega (arith, m, q)))))
    (cases_eq (amount % parts) 0)

-- an integral amount has no rest
pub whole_multiple : (q amount parts : ℕ) → amount ≡ q * parts → true ≡ eqb (amount % parts) 0
whole_multiple q amount parts e = sym (eq-eqb (amount % parts) 0 (ap (λ (x : ℕ). x % parts) e ∙ mul-mod_left q parts))

-- ---- digits after the dot, cut in one word

-- a rest is exact if it is 0
pub rest_exact : (rest half : ℕ) → eqb rest 0 ≡ true → loss_at rest half ≡ ExactlyZero
rest_exact rest half t = rw t refl

pub rest_inexact : (rest half : ℕ) → eqb rest 0 ≡ false → loss_at rest half ≡ ExactlyZero → ⊥
rest_inexact rest half f z =
    ⊎_elim
    (λ (a : rest < 1). let b = sym f ∙ eq-eqb rest 0 (omega arith) in cc)
    (λ (a : 1 ≤ rest). loss_some rest half (omega arith) z)
    (cases_lt rest 1)

-- the digits above the binary point represent the amount with the loss of those below it
pub word_cut_stands : (s places shift half rest amount parts : ℕ) → s < 2 ^ 62 → (places ≤ 63 → shift ≡ places)
    → (63 < places → shift ≡ 63) → 0 < shift → half ≡ 2 ^ (shift - 1) → rest ≡ s % 2 ^ shift → 0 < parts
    → amount * 2 ^ places ≡ s * parts → StandsFor (s / 2 ^ shift) (loss_at rest half) amount parts
word_cut_stands s places shift half rest amount parts l n f z h r u e =
    let l' : 2 * s < 2 ^ 63 = omega (arith, l) in
    let g = cut_at s shift half rest ExactlyZero (loss_at rest half) z h r
    (λ q x v w t. rest_stands q half rest x v w (rest_below s shift half rest z h r) t) (s * parts) parts u refl in
    cut_whole_stands s (s / 2 ^ shift) places amount parts (loss_at rest half) e
    (word_stands s 63 places shift (s * parts) parts (loss_at rest half) l' n f
    (less_than_half s 63 (s * parts) parts l' u refl) g)
