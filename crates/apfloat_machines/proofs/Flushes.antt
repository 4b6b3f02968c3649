-- What `flushed` makes of the answer of one rounding is the exact result, rounded or flushed.
use Rattle.std.proofs.Common.{◌≡◌, ℕ, ◌+◌, ◌*◌, ◌<◌, ◌≤◌, Bool, true, false, not, ◌&&◌, ◌||◌, ltb, eqb, sym, refl, ap}
use Rattle.std.proofs.Common.{◌∙◌, ⊎_elim, if◌then◌else◌, arith}
use Rattle.std.proofs.Math.Nat.{mul-le-mul_right, mul-pos}
use Rattle.std.proofs.lemmas.Bool.{cases_lt, cases_eq, lt-ltb, le-ltb, eq-eqb, ne_eqb, false≢true}
use Rattle.apfloat_model.specs.declared.kinds.{Round.Round, NonfiniteBehavior.NonfiniteBehavior}
use Rattle.apfloat_model.specs.declared.kinds.NonfiniteBehavior.TheVariants.{IEEE754, NanOnly, NanNegativeZero}
use Rattle.apfloat_model.specs.formats.Format.{Format, smallest_normalized, largest, nan_base}
use Rattle.apfloat_model.specs.formats.Datum.{Datum, finite}
use Rattle.apfloat_model.specs.rounding.Rounding.{IsPick, IsDelivered, is_tiny, delivered_value, delivered_status}
use Rattle.apfloat_model.specs.rounding.Rounding.{signed_quanta, zero_sign, past_largest, leads_out, raises_overflow}
use Rattle.apfloat_model.specs.rounding.Rounding.{overflow_bit, underflow_bit, inexact_bit}
use Rattle.apfloat_model.specs.{rounding.Negation.negated, arithmetic.Exact.same_sign}
use Rattle.apfloat_model.specs.order.Classes.{is_denormal, is_finite_non_zero, quanta_of, is_negative}
use Rattle.apfloat_model.proofs.rounding.{Laws.pick_within, Laws.zero_on_grid, Picks.pick_unique}
use Rattle.apfloat_model.proofs.Once.{Once}
use Rattle.ieee_operations.specs.StatusFlags.{is_raised}
use Rattle.apfloat_machines.specs.declared.flushing.Flush.{Flush}
use Rattle.apfloat_machines.specs.Flushing.{zero_like, is_flushed, flush_flags, IsFlushed, flushes, IsRoundedOrFlushed}
use Rattle.apfloat_machines.proofs.TinyPicks.{picked_to, tiny_below, not_tiny_from}

-- ---- which results are denormal

and_false : (test : Bool) → (test && false) ≡ false
and_false true = refl
and_false false = refl

quanta_denormal : (f : Format) (negative : Bool) (n : ℕ)
    → is_denormal f (signed_quanta f.nonfinite negative n) ≡ (ltb 0 n && ltb n (smallest_normalized f))
quanta_denormal f negative n =
    ⊎_elim (λ (z : n ≡ 0). rw (eq-eqb n 0 z, le-ltb 0 n (omega (arith, z))) refl)
    (λ (k : n ≡ 0 → ⊥). rw (ne_eqb n 0 k) refl) (cases_eq n 0)

past_denormal : (kind : NonfiniteBehavior) (base least : ℕ) (negative : Bool)
    → (is_finite_non_zero (past_largest kind base negative) && ltb (quanta_of (past_largest kind base negative)) least)
    ≡ false
past_denormal IEEE754 base least negative = refl
past_denormal NanOnly base least negative = refl
past_denormal NanNegativeZero base least negative = refl

-- ---- which answers are flushed

-- past the largest value none is
past_flushed : (f : Format) (negative out raises : Bool) → smallest_normalized f ≤ largest f
    → is_flushed f (if out then past_largest f.nonfinite (nan_base f) negative else finite negative (largest f))
    (if raises then overflow_bit + inexact_bit else inexact_bit) ≡ false
past_flushed f negative true true l = past_denormal f.nonfinite (nan_base f) (smallest_normalized f) negative
past_flushed f negative true false l = past_denormal f.nonfinite (nan_base f) (smallest_normalized f) negative
past_flushed f negative false true l = rw (le-ltb (largest f) (smallest_normalized f) l) (and_false (ltb 0 (largest f)))
past_flushed f negative false false l =
    rw (le-ltb (largest f) (smallest_normalized f) l) (and_false (ltb 0 (largest f)))

-- an inexact answer is flushed if it is tiny
by_tiny : (tiny some denormal : Bool) → some ≡ true → (tiny ≡ false → denormal ≡ false)
    → (is_raised (if tiny then underflow_bit + inexact_bit else inexact_bit) underflow_bit || denormal) ≡ (some && tiny)
by_tiny true some denormal e h = rw e refl
by_tiny false some denormal e h = h refl ∙ sym (and_false some)

-- a magnitude and its pick, which are equal, are both zero or neither is
some_alike : (pick amount parts : ℕ) → 0 < parts → pick * parts ≡ amount → ltb 0 pick ≡ ltb 0 amount
some_alike pick amount parts p e =
    ⊎_elim
    (λ (h : 0 < pick).
    let k : 0 < pick * parts = mul-pos h p in lt-ltb 0 pick h ∙ sym (lt-ltb 0 amount (omega (arith, k, e))))
    (λ (h : pick ≤ 0).
    let z : pick ≡ 0 = omega (arith, h) in
    let k : pick * parts ≡ 0 * parts = ap (λ (n : ℕ). n * parts) z in
    le-ltb 0 pick h ∙ sym (le-ltb 0 amount (omega (arith, k, e))))
    (cases_lt 0 pick)

module _ (f : Format) (mode : Round) (negative : Bool) (amount parts pick : ℕ) (precise : 0 < f.precision)
    (room : smallest_normalized f ≤ largest f) (some : 0 < parts)
    (picked : IsPick f.precision mode negative amount parts pick) where
  -- a magnitude with a pick past the largest value is not tiny
  past_not_tiny : largest f < pick → is_tiny f mode negative amount parts pick ≡ false
  past_not_tiny past =
      ⊎_elim
      (λ (q : amount < smallest_normalized f * parts).
      let k : pick ≤ smallest_normalized f =
      picked_to f.precision mode negative amount parts pick precise some picked q in
      absurd (omega (arith, k, room, past)))
      (λ (q : smallest_normalized f * parts ≤ amount).
      not_tiny_from f mode negative amount parts pick precise some picked q)
      (cases_lt amount (smallest_normalized f * parts))

  -- an exact one is tiny if its pick is below the smallest normalized number
  exact_tiny : pick * parts ≡ amount → ltb pick (smallest_normalized f) ≡ is_tiny f mode negative amount parts pick
  exact_tiny e =
      ⊎_elim
      (λ (l : pick < smallest_normalized f).
      lt-ltb pick (smallest_normalized f) l
      ∙ sym (tiny_below f mode negative amount parts pick precise some picked l))
      (λ (l : smallest_normalized f ≤ pick).
      let k : smallest_normalized f * parts ≤ pick * parts = mul-le-mul_right parts l in
      le-ltb pick (smallest_normalized f) l
      ∙ sym (not_tiny_from f mode negative amount parts pick precise some picked (omega (arith, k, e))))
      (cases_lt pick (smallest_normalized f))

  -- one that is not tiny is not picked below that number
  normal_pick : is_tiny f mode negative amount parts pick ≡ false
      → (ltb 0 pick && ltb pick (smallest_normalized f)) ≡ false
  normal_pick t =
      ⊎_elim
      (λ (l : pick < smallest_normalized f).
      absurd (false≢true (sym t ∙ tiny_below f mode negative amount parts pick precise some picked l)))
      (λ (l : smallest_normalized f ≤ pick). rw (le-ltb pick (smallest_normalized f) l) (and_false (ltb 0 pick)))
      (cases_lt pick (smallest_normalized f))

  -- a magnitude of 0 is exact
  inexact_some : (pick * parts ≡ amount → ⊥) → 0 < amount
  inexact_some n =
      let within = pick_within f.precision mode negative amount parts pick some picked in
      let high : pick ≤ picked.above = within.0 in
      ⊎_elim (λ (h : 0 < amount). h)
      (λ (h : amount ≤ 0).
      let g : picked.above ≤ 0 = picked.is_above.least 0 (zero_on_grid f.precision) (omega (arith, h)) in
      let z : pick ≡ 0 = omega (arith, high, g) in
      let k : pick * parts ≡ 0 * parts = ap (λ (n : ℕ). n * parts) z in
      absurd (n (omega (arith, k, h))))
      (cases_lt 0 amount)

  within_flushed : pick ≤ largest f
      → is_flushed f (signed_quanta f.nonfinite negative pick) (delivered_status f mode negative amount parts pick)
      ≡ flushes f mode negative amount parts pick
  within_flushed l =
      rw (le-ltb (largest f) pick l)
      (⊎_elim
      (λ (e : pick * parts ≡ amount).
      rw (eq-eqb (pick * parts) amount e)
      (quanta_denormal f negative pick
      ∙ ap (λ (test : Bool). test && ltb pick (smallest_normalized f)) (some_alike pick amount parts some e)
      ∙ ap (λ (test : Bool). ltb 0 amount && test) (exact_tiny e)))
      (λ (n : pick * parts ≡ amount → ⊥).
      rw (ne_eqb (pick * parts) amount n)
      (by_tiny (is_tiny f mode negative amount parts pick) (ltb 0 amount)
      (is_denormal f (signed_quanta f.nonfinite negative pick)) (lt-ltb 0 amount (inexact_some n))
      (λ t. quanta_denormal f negative pick ∙ normal_pick t)))
      (cases_eq (pick * parts) amount))

  pub flush_test : is_flushed f (delivered_value f mode negative pick)
      (delivered_status f mode negative amount parts pick) ≡ flushes f mode negative amount parts pick
  flush_test =
      ⊎_elim
      (λ (past : largest f < pick).
      rw (lt-ltb (largest f) pick past, past_not_tiny past)
      (past_flushed f negative (leads_out mode negative) (raises_overflow f mode negative) room
      ∙ sym (and_false (ltb 0 amount))))
      (λ (within : pick ≤ largest f).
      let e : ltb (largest f) pick ≡ false = le-ltb (largest f) pick within in
      let v : delivered_value f mode negative pick ≡ signed_quanta f.nonfinite negative pick = rw e refl in
      ap (λ (value : Datum). is_flushed f value (delivered_status f mode negative amount parts pick)) v
      ∙ within_flushed within)
      (cases_lt (largest f) pick)

  -- what is flushed is within the range
  pub flushes_within : flushes f mode negative amount parts pick ≡ true
      → delivered_value f mode negative pick ≡ signed_quanta f.nonfinite negative pick
  flushes_within t =
      ⊎_elim
      (λ (past : largest f < pick). absurd (false≢true (sym (and_false (ltb 0 amount))
      ∙ ap (λ (test : Bool). ltb 0 amount && test) (sym (past_not_tiny past)) ∙ t)))
      (λ (within : pick ≤ largest f). rw (le-ltb (largest f) pick within) refl) (cases_lt (largest f) pick)

-- ---- the zero of a sign

zero_with : (kind : NonfiniteBehavior) (negative : Bool)
    → (if not (same_sign false negative) then negated kind (finite false 0) else finite false 0)
    ≡ signed_quanta kind negative 0
zero_with IEEE754 true = refl
zero_with IEEE754 false = refl
zero_with NanOnly true = refl
zero_with NanOnly false = refl
zero_with NanNegativeZero true = refl
zero_with NanNegativeZero false = refl

zero_with_sign : (kind : NonfiniteBehavior) (negative : Bool)
    → (if not (same_sign false (zero_sign kind negative)) then negated kind (finite false 0) else finite false 0)
    ≡ signed_quanta kind negative 0
zero_with_sign IEEE754 negative = zero_with IEEE754 negative
zero_with_sign NanOnly negative = zero_with NanOnly negative
zero_with_sign NanNegativeZero true = refl
zero_with_sign NanNegativeZero false = refl

zero_of_either : (kind : NonfiniteBehavior) (negative test : Bool) (n : ℕ)
    → (if not (same_sign false (is_negative (if test then finite (zero_sign kind negative) 0 else finite negative n)))
    then negated kind (finite false 0) else finite false 0) ≡ signed_quanta kind negative 0
zero_of_either kind negative true n = zero_with_sign kind negative
zero_of_either kind negative false n = zero_with kind negative

zero_of_quanta : (f : Format) (negative : Bool) (n : ℕ)
    → zero_like f (signed_quanta f.nonfinite negative n) ≡ signed_quanta f.nonfinite negative 0
zero_of_quanta f negative n = zero_of_either f.nonfinite negative (eqb n 0) n

-- ---- one rounding

if_both : (test : Bool) (x y v w : Datum) → (test ≡ true → x ≡ v) → y ≡ w
    → (if test then x else y) ≡ (if test then v else w)
if_both true x y v w h e = h refl
if_both false x y v w h e = e

pub rounded_or_flushed : (f : Format) (flush : Flush) (mode : Round) (negative : Bool) (amount parts : ℕ)
    (given value : Datum) (flags status : ℕ) → 0 < f.precision → smallest_normalized f ≤ largest f → 0 < parts
    → IsDelivered f mode negative amount parts given flags → IsFlushed f flush given flags value status
    → IsRoundedOrFlushed f flush mode negative amount parts value status
rounded_or_flushed f flush mode negative amount parts given value flags status precise room some d h =
    let test : is_flushed f given flags ≡ flushes f mode negative amount parts d.pick =
    rw (d.value_is, d.status_is) (flush_test f mode negative amount parts d.pick precise room some d.is_pick) in
    record {
      pick = d.pick;
      is_pick = d.is_pick;
      value_is = h.value_is ∙ ap (λ (t : Bool). if t then zero_like f given else given) test
          ∙ if_both (flushes f mode negative amount parts d.pick) (zero_like f given) given
          (signed_quanta f.nonfinite negative 0) (delivered_value f mode negative d.pick)
          (λ t. ap (λ (x : Datum). zero_like f x)
          (d.value_is ∙ flushes_within f mode negative amount parts d.pick precise room some d.is_pick t)
          ∙ zero_of_quanta f negative d.pick) d.value_is;
      status_is = h.status_is ∙ ap (λ (t : Bool). if t then flush_flags flush else flags) test ∙
          ap (λ (s : ℕ). if flushes f mode negative amount parts d.pick then flush_flags flush else s) d.status_is;
    }

pub rounded_or_flushed_once : (f : Format) (flush : Flush) (mode : Round) (negative : Bool) (amount parts : ℕ)
    → Once (IsRoundedOrFlushed f flush mode negative amount parts)
rounded_or_flushed_once f flush mode negative amount parts v w r s h k =
    let e : h.pick ≡ k.pick =
    pick_unique f.precision mode negative amount parts h.pick k.pick h.is_pick k.is_pick in (
      h.value_is ∙
          ap (λ (pick : ℕ). if flushes f mode negative amount parts pick then signed_quanta f.nonfinite negative 0
          else delivered_value f mode negative pick) e ∙ sym k.value_is,
      h.status_is ∙
          ap (λ (pick : ℕ). if flushes f mode negative amount parts pick then flush_flags flush
          else delivered_status f mode negative amount parts pick) e ∙ sym k.status_is,
    )
