-- The value and the status that are delivered for a pick.
use Rattle.std.proofs.Common.{◌≡◌, ℕ, zero, suc, ◌+◌, ◌*◌, ◌%◌, ◌^◌, ◌<◌, ◌≤◌, ◌⊎◌, Bool, true, false, cond, ltb, eqb}
use Rattle.std.proofs.Common.{if◌then◌else◌, sym, refl, ap, ◌∙◌, subst, inl, inr, ⊎_elim, arith}
use Rattle.std.proofs.Math.Nat.{mul-le-mul_right, mul-le-mul_left, mul-pos, mul_assoc}
use Rattle.std.proofs.lemmas.{Nat.pow_pos, Bool.cases_lt, Bool.lt-ltb, Bool.le-ltb, Bool.eq-eqb, Bool.ne_eqb}
use Rattle.apfloat_model.specs.{rounding.Rounding.is_tiny, rounding.Rounding.zero_sign, order.Classes.is_finite}
use Rattle.apfloat_model.specs.declared.kinds.{Round.Round, NonfiniteBehavior.NonfiniteBehavior}
use Rattle.apfloat_model.specs.declared.kinds.NonfiniteBehavior.TheVariants.{IEEE754, NanOnly, NanNegativeZero}
use Rattle.apfloat_model.specs.declared.loss.Loss.{Loss, TheVariants.ExactlyZero}
use Rattle.apfloat_model.specs.formats.Format.{Format, largest, greatest_significand, nan_base}
use Rattle.apfloat_model.specs.formats.Datum.{Datum, finite}
use Rattle.apfloat_model.specs.rounding.{Standing.StandsFor, Enclosure.IsEnclosed, Enclosure.rounds_up, Rounding.IsPick}
use Rattle.apfloat_model.specs.rounding.Rounding.{IsDelivered, past_largest, signed_quanta, leads_out, raises_overflow}
use Rattle.apfloat_model.proofs.{rounding.Losses.stands_to, general.Choices.off_both, arithmetic.Signs.plus_zero}
use Rattle.apfloat_model.proofs.rounding.{Picks.kept, Picks.pick_is, Picks.pick_unique, Losses.stands_past}

-- whether a pick is past the largest value, from the parts of that value
pub past_is : (format : Format) (top place p : ℕ) (past answer : Bool)
    → top ≡ greatest_significand format.nonfinite format.precision
    → place ≡ format.span → past ≡ ltb (top * 2 ^ place) p → past ≡ answer → ltb (largest format) p ≡ answer
past_is format top place p b v e d h k =
    ap (λ (x : ℕ). ltb (x * 2 ^ format.span) p) (sym e) ∙ ap (λ (x : ℕ). ltb (top * 2 ^ x) p) (sym d) ∙ sym h ∙ k

-- a positive number of quanta keeps its sign in each kind of format
pub signed_some : (kind : NonfiniteBehavior) (negative : Bool) (p : ℕ) → 0 < p
    → signed_quanta kind negative p ≡ finite negative p
signed_some kind negative p h = let e : eqb p 0 ≡ false = ne_eqb p 0 (λ z. omega arith) in rw e refl

-- signed quanta are a finite datum
pub quanta_are : (kind : NonfiniteBehavior) (negative : Bool) (p : ℕ)
    → signed_quanta kind negative p ≡ finite (if eqb p 0 then zero_sign kind negative else negative) p
quanta_are kind negative zero = refl
quanta_are kind negative (suc p) = rw (ne_eqb (suc p) 0 (λ z. omega arith)) refl

-- without a sign, they are so in each kind of format
pub unsigned_quanta : (kind : NonfiniteBehavior) (n : ℕ) → signed_quanta kind false n ≡ finite false n
unsigned_quanta kind zero = ap (λ (b : Bool). finite b 0) (plus_zero kind)
unsigned_quanta kind (suc n) = signed_some kind false (suc n) (omega arith)

-- what lies past the largest value is not finite
pub past_not_finite : (kind : NonfiniteBehavior) (base : ℕ) (negative : Bool)
    → is_finite (past_largest kind base negative) ≡ false
past_not_finite IEEE754 base negative = refl
past_not_finite NanOnly base negative = refl
past_not_finite NanNegativeZero base negative = refl

-- what is delivered for a pick past the largest value
pub delivered_past : (format : Format) (mode : Round) (negative : Bool) (amount parts p : ℕ) (value : Datum)
    (status : ℕ) → IsPick format.precision mode negative amount parts p → ltb (largest format) p ≡ true
    → value ≡ cond (leads_out mode negative) (past_largest format.nonfinite (nan_base format) negative)
    (finite negative (largest format)) → status ≡ cond (raises_overflow format mode negative) 20 16
    → IsDelivered format mode negative amount parts value status
delivered_past format mode negative amount parts p v s i a e d =
    record { pick = p; is_pick = i; value_is = rw a e; status_is = rw a d }

-- what is delivered for a pick within the format that is the magnitude
pub delivered_exactly : (format : Format) (mode : Round) (negative : Bool) (amount parts p : ℕ)
    (value : Datum) (status : ℕ) → IsPick format.precision mode negative amount parts p → ltb (largest format) p ≡ false
    → p * parts ≡ amount → value ≡ signed_quanta format.nonfinite negative p → status ≡ 0
    → IsDelivered format mode negative amount parts value status
delivered_exactly format mode negative amount parts p v s i a e w d =
    let b : eqb (p * parts) amount ≡ true = eq-eqb (p * parts) amount e in
    record { pick = p; is_pick = i; value_is = rw a w; status_is = rw (a, b) d }

-- what is delivered for a pick within the format that is not the magnitude
pub delivered_inexactly : (format : Format) (mode : Round) (negative : Bool)
    (amount parts p : ℕ) (value : Datum) (status : ℕ) → IsPick format.precision mode negative amount parts p
    → ltb (largest format) p ≡ false → (p * parts ≡ amount → ⊥) → value ≡ signed_quanta format.nonfinite negative p
    → status ≡ cond (is_tiny format mode negative amount parts p) 24 16
    → IsDelivered format mode negative amount parts value status
delivered_inexactly format mode negative amount parts p v s i a n w d =
    let b : eqb (p * parts) amount ≡ false = ne_eqb (p * parts) amount n in
    record { pick = p; is_pick = i; value_is = rw a w; status_is = rw (a, b) d }

-- ---- exact, or not

-- if nothing was lost, the pick is the magnitude
pub exact_if : (precision : ℕ) (mode : Round) (negative : Bool) (half m c amount parts p : ℕ) (loss : Loss)
    → loss ≡ ExactlyZero → 0 < parts → IsEnclosed precision half m c amount parts
    → StandsFor m loss amount (2 ^ c * parts) → IsPick precision mode negative amount parts p → p * parts ≡ amount
exact_if precision mode negative half m c amount parts p loss z l i h x =
    let h' : StandsFor m ExactlyZero amount (2 ^ c * parts) =
    subst (λ (y : Loss). StandsFor m y amount (2 ^ c * parts)) z h in
    let e : p ≡ m * 2 ^ c = pick_unique precision mode negative amount parts p (m * 2 ^ c) x
    (pick_is precision mode negative half m c amount parts ExactlyZero l i h') in
    ap (λ (y : ℕ). y * parts) e ∙ omega (arith, h')

-- if something was lost, the pick is not the magnitude
pub inexact_if : (precision : ℕ) (mode : Round) (negative : Bool) (half m c amount parts p : ℕ) (loss : Loss)
    → (loss ≡ ExactlyZero → ⊥) → 0 < parts → IsEnclosed precision half m c amount parts
    → StandsFor m loss amount (2 ^ c * parts) → IsPick precision mode negative amount parts p → p * parts ≡ amount → ⊥
inexact_if precision mode negative half m c amount parts p loss n l i h x q =
    let u : 0 < 2 ^ c * parts = mul-pos (pow_pos c) l in
    let e : p ≡ kept mode negative loss m * 2 ^ c = pick_unique precision mode negative amount parts p
    (kept mode negative loss m * 2 ^ c) x (pick_is precision mode negative half m c amount parts loss l i h) in
    off_both (rounds_up mode negative loss (eqb (m % 2) 1)) m amount (2 ^ c * parts)
    (stands_past m loss amount (2 ^ c * parts) u n h) (stands_to m loss amount (2 ^ c * parts) u h)
    (sym (mul_assoc (kept mode negative loss m) (2 ^ c) parts) ∙ ap (λ (y : ℕ). y * parts) (sym e) ∙ q)

-- ---- tiny

-- a kept significand below the half means an amount below it
small_before : (precision half m c amount parts : ℕ) → 0 < parts → m < half
    → IsEnclosed precision half m c amount parts → amount < half * parts
small_before precision half m c amount parts p l i =
    ⊎_elim
    (λ (z : c ≡ 0).
    let t : amount < (m + 1) * 2 ^ 0 * parts = subst (λ (x : ℕ). amount < (m + 1) * 2 ^ x * parts) z i.to in
    let l' : m + 1 ≤ half = omega arith in
    let k : (m + 1) * parts ≤ half * parts = mul-le-mul_right parts l' in
    omega arith)
    (λ (f : half ≤ m). absurd (omega arith))
    i.full

-- a kept significand of at least the half means an amount of at least the half
large_before : (precision half m c amount parts : ℕ) → half ≤ m → IsEnclosed precision half m c amount parts
    → half * parts ≤ amount
large_before precision half m c amount parts l i =
    let w : 1 ≤ 2 ^ c = pow_pos c in
    let a : m * 1 ≤ m * 2 ^ c = mul-le-mul_left m w in
    let b : half ≤ m * 2 ^ c = omega arith in
    let k : half * parts ≤ m * 2 ^ c * parts = mul-le-mul_right parts b in
    let f : m * 2 ^ c * parts ≤ amount = i.from in
    omega arith

-- the kept significand decides whether the amount is tiny before rounding
pub tiny_before : (precision half m c amount parts : ℕ) → 0 < parts → IsEnclosed precision half m c amount parts
    → ltb m half ≡ ltb amount (half * parts)
tiny_before precision half m c amount parts p i =
    ⊎_elim (λ (l : m < half). lt-ltb m half l ∙
    sym (lt-ltb amount (half * parts) (small_before precision half m c amount parts p l i)))
    (λ (l : half ≤ m). le-ltb m half l ∙
    sym (le-ltb amount (half * parts) (large_before precision half m c amount parts l i))) (cases_lt m half)

-- a significand below the half, at the lowest place, leaves the pick below it
small_after : (half s place : ℕ) → s < half → (place ≡ 0) ⊎ (half ≤ s) → s * 2 ^ place < half
small_after half s place l (inl z) = subst (λ (x : ℕ). s * 2 ^ x < half) (sym z) (omega arith)
small_after half s place l (inr f) = absurd (omega arith)

-- a significand of at least the half leaves the pick at or above the half, at any place
large_after : (half s place : ℕ) → half ≤ s → half ≤ s * 2 ^ place
large_after half s place l =
    let w : 1 ≤ 2 ^ place = pow_pos place in
    let a : s * 1 ≤ s * 2 ^ place = mul-le-mul_left s w in
    omega arith

-- a pick is tiny after rounding exactly if its significand is below the half
pub tiny_after : (half s place : ℕ) → (place ≡ 0) ⊎ (half ≤ s) → ltb s half ≡ ltb (s * 2 ^ place) half
tiny_after half s place f =
    ⊎_elim (λ (l : s < half). lt-ltb s half l ∙ sym (lt-ltb (s * 2 ^ place) half (small_after half s place l f)))
    (λ (l : half ≤ s). le-ltb s half l ∙ sym (le-ltb (s * 2 ^ place) half (large_after half s place l)))
    (cases_lt s half)
