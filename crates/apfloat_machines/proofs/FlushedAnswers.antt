-- What `flushed` makes of the answer of an operation is what its definition says of the operation with flushing.
use Rattle.std.proofs.Common.{◌≡◌, ℕ, ◌*◌, ◌^◌, ◌<◌, ◌≤◌, Bool, true, false, not, eqb, sym}
use Rattle.std.proofs.Common.{refl, ◌∙◌, subst, if◌then◌else◌, lit<, arith}
use Rattle.std.proofs.lemmas.Nat.{pow_pos}
use Rattle.std.specs.Bool.{MatchBool}
use Rattle.apfloat_model.specs.declared.kinds.{Round.Round, NonfiniteBehavior.NonfiniteBehavior}
use Rattle.apfloat_model.specs.declared.kinds.NonfiniteBehavior.TheVariants.{IEEE754, NanOnly, NanNegativeZero}
use Rattle.apfloat_model.specs.{declared.status.StatusAnd.StatusAnd, rounding.Flags.bits_of}
use Rattle.apfloat_model.specs.rounding.Rounding.{ok_bits, inexact_bit, past_largest, zero_sign}
use Rattle.apfloat_model.specs.rounding.{Negation.negated, Answer.IsAnswer}
use Rattle.apfloat_model.specs.rounding.Outcome.{Outcome, settled, rounded, totalled, rooted, Yields}
use Rattle.apfloat_model.specs.formats.Format.{Format, smallest_normalized, largest, nan_base}
use Rattle.apfloat_model.specs.formats.Datum.{Datum, finite, infinite, nan}
use Rattle.apfloat_model.specs.formats.Nan.{invalid_if, is_signaling}
use Rattle.apfloat_model.specs.arithmetic.Exact.{same_sign, product_sign, sign_of, magnitude, zero_sum_sign}
use Rattle.apfloat_model.specs.arithmetic.{Sums.sum, Sums.difference, Products.product, Quotients.quotient}
use Rattle.apfloat_model.specs.arithmetic.{Quotients.div_by_zero_bit, FusedSums.on_product, FusedSums.with_product}
use Rattle.apfloat_model.specs.arithmetic.{FusedSums.fused_sum, Conversions.has_infinities}
use Rattle.apfloat_model.specs.arithmetic.Conversions.{loses_zero_sign, IsKept, IsConvertedNumber, IsConversion}
use Rattle.apfloat_model.proofs.Once.{Once, answer_once, delivered_root_once}
use Rattle.apfloat_model.proofs.{Determined.gives_once, formats.Ranges.half_within}
use Rattle.apfloat_model.proofs.general.Choices.{match_case, if_case, above_zero}
use Rattle.apfloat_machines.specs.declared.flushing.Flush.{Flush}
use Rattle.apfloat_machines.specs.Flushing.{zero_like, is_flushed, flush_flags, IsFlushed, IsRoundedOrFlushed}
use Rattle.apfloat_machines.specs.FlushedOperations.{YieldsFlushed, IsFlushedConversion, AreFlushed}
use Rattle.apfloat_machines.specs.FlushedOperations.{FlushedHaveOneAnswer}
use Rattle.apfloat_machines.proofs.{Flushes.rounded_or_flushed, Flushes.rounded_or_flushed_once, Once.converted_once}

-- ---- answers that are not flushed

other_choice : {A : Type 0} (test : Bool) (x y : A) → test ≡ false → (if test then x else y) ≡ y
other_choice true x y e = cc
other_choice false x y e = refl

-- what holds of an answer that is not flushed holds of the result
unchanged : (f : Format) (flush : Flush) (Says : Datum → ℕ → Type 0) (given value : Datum) (flags status : ℕ)
    → is_flushed f given flags ≡ false → IsFlushed f flush given flags value status → Says given flags
    → Says value status
unchanged f flush Says given value flags status e h says =
    let v : value ≡ given = h.value_is ∙ other_choice (is_flushed f given flags) (zero_like f given) given e in
    let s : status ≡ flags = h.status_is ∙ other_choice (is_flushed f given flags) (flush_flags flush) flags e in
    subst (λ (t : ℕ). Says value t) (sym s) (subst (λ (d : Datum). Says d flags) (sym v) says)

kept : (f : Format) (datum given : Datum) (bits flags : ℕ) → is_flushed f datum bits ≡ false
    → IsAnswer datum bits given flags → is_flushed f given flags ≡ false
kept f datum given bits flags e h = rw (h.value_is, h.status_is) e

nan_kept : (f : Format) (b : Bool) (s : ℕ) (signaling : Bool) → is_flushed f (nan b s) (invalid_if signaling) ≡ false
nan_kept f b s true = refl
nan_kept f b s false = refl

past_kept : (f : Format) (kind : NonfiniteBehavior) (base : ℕ) (b test : Bool)
    → is_flushed f (past_largest kind base b) (if test then inexact_bit else ok_bits) ≡ false
past_kept f IEEE754 base b true = refl
past_kept f IEEE754 base b false = refl
past_kept f NanOnly base b true = refl
past_kept f NanOnly base b false = refl
past_kept f NanNegativeZero base b true = refl
past_kept f NanNegativeZero base b false = refl

divided_kept : (f : Format) (kind : NonfiniteBehavior) (base : ℕ) (b : Bool)
    → is_flushed f (past_largest kind base b) div_by_zero_bit ≡ false
divided_kept f IEEE754 base b = refl
divided_kept f NanOnly base b = refl
divided_kept f NanNegativeZero base b = refl

zero_kept : (f : Format) (b test : Bool) → is_flushed f (finite b 0) (if test then inexact_bit else ok_bits) ≡ false
zero_kept f b true = refl
zero_kept f b false = refl

-- ---- outcomes

-- the outcomes of the operations with flushing: what is settled is not tiny, and none is a root
abbrev IsUnflushed : Format → Outcome → Type 0
IsUnflushed f (settled datum flags) = is_flushed f datum flags ≡ false
IsUnflushed f (rounded negative amount parts) = 0 < parts
IsUnflushed f (totalled left right exact parts) = 0 < parts
IsUnflushed f (rooted square parts) = ⊥

outcome_flushed : (f : Format) (flush : Flush) (mode : Round) (outcome : Outcome) (given value : Datum)
    (flags status : ℕ) → 0 < f.precision → smallest_normalized f ≤ largest f → IsUnflushed f outcome
    → Yields f mode outcome given flags → IsFlushed f flush given flags value status
    → YieldsFlushed f flush mode outcome value status
outcome_flushed f flush mode (settled datum bits) given value flags status p l u h k =
    unchanged f flush (IsAnswer datum bits) given value flags status (kept f datum given bits flags u h) k h
outcome_flushed f flush mode (rounded negative amount parts) given value flags status p l u h k =
    rounded_or_flushed f flush mode negative amount parts given value flags status p l u h k
outcome_flushed f flush mode (totalled left right exact parts) given value flags status p l u h k =
    rounded_or_flushed f flush mode (sign_of (zero_sum_sign mode left right) exact) (magnitude exact) parts given value
    flags status p l u h k
outcome_flushed f flush mode (rooted square parts) given value flags status p l u h k = absurd u

sum_unflushed : (f : Format) (x y : Datum) → IsUnflushed f (sum f x y)
sum_unflushed f (nan b s) y = nan_kept f b s _
sum_unflushed f (finite b m) (nan c t) = nan_kept f c t _
sum_unflushed f (infinite b) (nan c t) = nan_kept f c t _
sum_unflushed f (infinite b) (infinite c) = if_case (IsUnflushed f) (same_sign b c) (λ e. refl) (λ e. refl)
sum_unflushed f (infinite b) (finite c n) = refl
sum_unflushed f (finite b m) (infinite c) = refl
sum_unflushed f (finite b m) (finite c n) = lit< tt

difference_unflushed : (f : Format) (x y : Datum) → IsUnflushed f (difference f x y)
difference_unflushed f (nan b s) y = nan_kept f b s _
difference_unflushed f (finite b m) (nan c t) = nan_kept f c t _
difference_unflushed f (infinite b) (nan c t) = nan_kept f c t _
difference_unflushed f (finite b m) (finite c n) = sum_unflushed f (finite b m) (negated f.nonfinite (finite c n))
difference_unflushed f (finite b m) (infinite c) = sum_unflushed f (finite b m) (negated f.nonfinite (infinite c))
difference_unflushed f (infinite b) (finite c n) = sum_unflushed f (infinite b) (negated f.nonfinite (finite c n))
difference_unflushed f (infinite b) (infinite c) = sum_unflushed f (infinite b) (negated f.nonfinite (infinite c))

product_unflushed : (f : Format) (x y : Datum) → IsUnflushed f (product f x y)
product_unflushed f (nan b s) y = nan_kept f b s _
product_unflushed f (finite b m) (nan c t) = nan_kept f c t _
product_unflushed f (infinite b) (nan c t) = nan_kept f c t _
product_unflushed f (finite b m) (infinite c) = if_case (IsUnflushed f) (eqb m 0) (λ e. refl) (λ e. refl)
product_unflushed f (infinite b) (finite c n) = if_case (IsUnflushed f) (eqb n 0) (λ e. refl) (λ e. refl)
product_unflushed f (infinite b) (infinite c) = refl
product_unflushed f (finite b m) (finite c n) = pow_pos f.scale

quotient_unflushed : (f : Format) (x y : Datum) → IsUnflushed f (quotient f x y)
quotient_unflushed f (nan b s) y = nan_kept f b s _
quotient_unflushed f (finite b m) (nan c t) = nan_kept f c t _
quotient_unflushed f (infinite b) (nan c t) = nan_kept f c t _
quotient_unflushed f (infinite b) (infinite c) = refl
quotient_unflushed f (infinite b) (finite c n) = refl
quotient_unflushed f (finite b m) (infinite c) = zero_kept f (zero_sign f.nonfinite (product_sign b c)) false
quotient_unflushed f (finite b m) (finite c n) =
    if_case (IsUnflushed f) (eqb n 0)
    (λ e. if_case (IsUnflushed f) (eqb m 0) (λ d. refl)
    (λ d. divided_kept f f.nonfinite (nan_base f) (product_sign b c))) (above_zero n)

on_product_unflushed : (f : Format) (z : Datum) (outcome : Outcome) → IsUnflushed f outcome
    → IsUnflushed f (on_product f z outcome)
on_product_unflushed f z (settled datum flags) u =
    if_case (IsUnflushed f) (eqb flags ok_bits) (λ e. sum_unflushed f datum z) (λ e. u)
on_product_unflushed f z (rounded negative amount parts) u = u
on_product_unflushed f z (totalled left right exact parts) u = u
on_product_unflushed f z (rooted square parts) u = u

with_product_unflushed : (f : Format) (x y z : Datum) → IsUnflushed f (with_product f x y z)
with_product_unflushed f x y z = on_product_unflushed f z (product f x y) (product_unflushed f x y)

fused_sum_unflushed : (f : Format) (x y z : Datum) → IsUnflushed f (fused_sum f x y z)
fused_sum_unflushed f (finite b l) (finite c m) (finite d n) = pow_pos f.scale
fused_sum_unflushed f (finite b l) (finite c m) (infinite d) = sum_unflushed f (finite b l) (infinite d)
fused_sum_unflushed f (finite b l) (finite c m) (nan d t) = sum_unflushed f (finite b l) (nan d t)
fused_sum_unflushed f (finite b l) (infinite c) z = with_product_unflushed f (finite b l) (infinite c) z
fused_sum_unflushed f (finite b l) (nan c t) z = with_product_unflushed f (finite b l) (nan c t) z
fused_sum_unflushed f (infinite b) y z = with_product_unflushed f (infinite b) y z
fused_sum_unflushed f (nan b s) y z = with_product_unflushed f (nan b s) y z

-- ---- conversions

number_converted : (f g : Format) (flush : Flush) (mode : Round) (test b : Bool) (n : ℕ) (loses : Bool)
    (given value : Datum) (flags status : ℕ) → 0 < g.precision → smallest_normalized g ≤ largest g
    → MatchBool test (IsKept (finite (zero_sign g.nonfinite b) 0) (loses_zero_sign g b) given flags loses)
    (IsConvertedNumber f g mode b n given flags loses) → IsFlushed g flush given flags value status → MatchBool test
    (IsAnswer (finite (zero_sign g.nonfinite b) 0) (if loses_zero_sign g b then inexact_bit else ok_bits) value status)
    (IsRoundedOrFlushed g flush mode b (n * 2 ^ g.scale) (2 ^ f.scale) value status)
number_converted f g flush mode true b n loses given value flags status p l h k =
    let zero = finite (zero_sign g.nonfinite b) 0 in
    let bits = if loses_zero_sign g b then inexact_bit else ok_bits in
    let a : IsAnswer zero bits given flags = record { value_is = h.value_is; status_is = h.status_is } in
    unchanged g flush (IsAnswer zero bits) given value flags status
    (kept g zero given bits flags (zero_kept g (zero_sign g.nonfinite b) (loses_zero_sign g b)) a) k a
number_converted f g flush mode false b n loses given value flags status p l h k =
    rounded_or_flushed g flush mode b (n * 2 ^ g.scale) (2 ^ f.scale) given value flags status p l (pow_pos f.scale)
    h.is_delivered k

conversion_flushed : (f g : Format) (flush : Flush) (mode : Round) (x : Datum) (loses : Bool) (given value : Datum)
    (flags status : ℕ) → 0 < g.precision → smallest_normalized g ≤ largest g → IsConversion f g mode x given flags loses
    → IsFlushed g flush given flags value status → IsFlushedConversion f g flush mode x value status
conversion_flushed f g flush mode (finite b n) loses given value flags status p l h k =
    number_converted f g flush mode (eqb n 0) b n loses given value flags status p l h k
conversion_flushed f g flush mode (infinite b) loses given value flags status p l h k =
    let e : is_flushed g given flags ≡ false =
    rw (h.value_is, h.status_is) (past_kept g g.nonfinite (nan_base g) b (not (has_infinities g.nonfinite))) in
    (loses, unchanged g flush (λ v s. IsConversion f g mode (infinite b) v s loses) given value flags status e k h)
conversion_flushed f g flush mode (nan b t) loses given value flags status p l h k =
    let e : is_flushed g given flags ≡ false = rw (h.value_is, h.status_is) (nan_kept g b t (is_signaling f t)) in
    (loses, unchanged g flush (λ v s. IsConversion f g mode (nan b t) v s loses) given value flags status e k h)

-- ---- the call

pub are_flushed : (f : Format) (flush : Flush) (answer result : StatusAnd Datum) → 3 ≤ f.precision
    → IsFlushed f flush answer.value (bits_of answer.status) result.value (bits_of result.status)
    → AreFlushed f flush answer result
are_flushed f flush answer result precise k =
    let p : 0 < f.precision = omega (arith, precise) in
    let w = half_within f precise in
    let l : smallest_normalized f ≤ largest f = omega (arith, w) in
    let a = answer.value in
    let v = result.value in
    let r = bits_of answer.status in
    let s = bits_of result.status in
    record {
      sum = λ mode x y h. outcome_flushed f flush mode (sum f x y) a v r s p l (sum_unflushed f x y) h k;
      difference = λ mode x y h.
          outcome_flushed f flush mode (difference f x y) a v r s p l (difference_unflushed f x y) h k;
      product = λ mode x y h. outcome_flushed f flush mode (product f x y) a v r s p l (product_unflushed f x y) h k;
      quotient = λ mode x y h. outcome_flushed f flush mode (quotient f x y) a v r s p l (quotient_unflushed f x y) h k;
      fused_sum = λ mode x y z h.
          outcome_flushed f flush mode (fused_sum f x y z) a v r s p l (fused_sum_unflushed f x y z) h k;
      conversion = λ source mode x loses h. conversion_flushed source f flush mode x loses a v r s p l h k;
    }

-- ---- one answer

pub yields_flushed_once : (f : Format) (flush : Flush) (mode : Round) (outcome : Outcome)
    → Once (YieldsFlushed f flush mode outcome)
yields_flushed_once f flush mode (settled datum flags) = answer_once datum flags
yields_flushed_once f flush mode (rounded negative amount parts) =
    rounded_or_flushed_once f flush mode negative amount parts
yields_flushed_once f flush mode (totalled left right exact parts) =
    rounded_or_flushed_once f flush mode (sign_of (zero_sum_sign mode left right) exact) (magnitude exact) parts
yields_flushed_once f flush mode (rooted square parts) = delivered_root_once f mode square parts

pub conversion_with_flush : (f g : Format) (flush : Flush) (mode : Round) (x : Datum)
    → Once (IsFlushedConversion f g flush mode x)
conversion_with_flush f g flush mode (finite b n) =
    match_case Once (eqb n 0) (IsAnswer _ _) (IsRoundedOrFlushed g flush mode _ _ _) (answer_once _ _)
    (rounded_or_flushed_once g flush mode _ _ _)
conversion_with_flush f g flush mode (infinite b) = converted_once f g mode (infinite b)
conversion_with_flush f g flush mode (nan b t) = converted_once f g mode (nan b t)

pub flushed_once : (f : Format) (flush : Flush) → FlushedHaveOneAnswer f flush
flushed_once f flush =
    record {
      sum = λ mode x y. gives_once _ (yields_flushed_once f flush mode (sum f x y));
      difference = λ mode x y. gives_once _ (yields_flushed_once f flush mode (difference f x y));
      product = λ mode x y. gives_once _ (yields_flushed_once f flush mode (product f x y));
      quotient = λ mode x y. gives_once _ (yields_flushed_once f flush mode (quotient f x y));
      fused_sum = λ mode x y z. gives_once _ (yields_flushed_once f flush mode (fused_sum f x y z));
      conversion = λ source mode x. gives_once _ (conversion_with_flush source f flush mode x);
    }
