-- When the value of an operation is a NaN, in a format with infinities: if an operand is one, or it is invalid.
use Rattle.std.proofs.Common.{◌≡◌, ℕ, ◌-◌, ◌*◌, ◌^◌, Bool, true, false, not, ◌&&◌, ◌||◌}
use Rattle.std.proofs.Common.{eqb, ltb, refl, ap, ◌∙◌, if◌then◌else◌}
use Rattle.std.specs.Bool.{MatchBool}
use Rattle.apfloat_model.specs.declared.kinds.{Round.Round, NonfiniteBehavior.NonfiniteBehavior}
use Rattle.apfloat_model.specs.declared.kinds.NonfiniteBehavior.TheVariants.{IEEE754, NanOnly, NanNegativeZero}
use Rattle.apfloat_model.specs.formats.{Constants.infinity_of, Format.Format, Format.largest, Format.nan_base}
use Rattle.apfloat_model.specs.formats.{Datum.Datum, Datum.finite, Datum.infinite, Datum.nan, Nan.invalid_bit}
use Rattle.apfloat_model.specs.{formats.Nan.invalid_if, formats.Nan.is_signaling, rounding.Answer.IsAnswer}
use Rattle.apfloat_model.specs.rounding.{DeliveredRoots.IsDeliveredRoot, Negation.negated, Negation.negated_zero}
use Rattle.apfloat_model.specs.rounding.Outcome.{Outcome, settled, rounded, totalled, rooted, invalid, exactly, Yields}
use Rattle.apfloat_model.specs.rounding.Rounding.{ok_bits, past_largest, signed_quanta, zero_sign, leads_out}
use Rattle.apfloat_model.specs.rounding.Rounding.{delivered_value, IsDelivered}
use Rattle.apfloat_model.specs.order.Classes.{is_nan, is_infinite, is_negative, is_finite}
use Rattle.apfloat_model.specs.arithmetic.{Exact.same_sign, Exact.product_sign, Sums.sum, Sums.difference}
use Rattle.apfloat_model.specs.arithmetic.{Products.product, Quotients.quotient, Quotients.div_by_zero_bit}
use Rattle.apfloat_model.specs.arithmetic.Remainders.{remainder, rest_of}
use Rattle.apfloat_model.specs.arithmetic.{Roots.root, FusedSums.on_product, FusedSums.fused_sum}
use Rattle.apfloat_model.specs.whole_numbers.WholeNumbers.{IsRoundToIntegral, whole_quanta}
use Rattle.ieee_operations.specs.WholeNumbers.{IsRoundedToIntegral}
use Rattle.apfloat_machines.specs.Invalid.{is_invalid_sum, is_invalid_difference, is_invalid_product}
use Rattle.apfloat_machines.specs.Invalid.{is_invalid_quotient, is_invalid_remainder, is_invalid_root, is_invalid_fused}
use Rattle.apfloat_machines.specs.Operations.{is_signaling_of_two, is_nan_of_three}

-- ---- what is to be shown

-- the result of operands that are not NaNs: a NaN with INVALID_OP if it is invalid, otherwise no NaN
abbrev pub IsUsualNumber : Bool → Datum → ℕ → Type 0
IsUsualNumber invalid value status =
    MatchBool invalid ((is_nan value ≡ true) × (status ≡ invalid_bit)) (is_nan value ≡ false)

-- the result of any two operands: a NaN if one of them is, with INVALID_OP if one is signaling
abbrev pub IsUsual : Format → Datum → Datum → Bool → Datum → ℕ → Type 0
IsUsual f x y invalid value status =
    MatchBool (is_nan x || is_nan y) ((is_nan value ≡ true) × (status ≡ invalid_if (is_signaling_of_two f x y)))
    (IsUsualNumber invalid value status)

-- the result of a fused sum of any three: a NaN if one of them is; its flags are not told here
abbrev pub IsUsualFused : Datum → Datum → Datum → Datum → ℕ → Type 0
IsUsualFused x y z value status =
    MatchBool (is_nan_of_three x y z) (is_nan value ≡ true) (IsUsualNumber (is_invalid_fused x y z) value status)

-- ---- values that are no NaNs

pub number_if : (test : Bool) (x y : Datum) → is_nan x ≡ false → is_nan y ≡ false
    → is_nan (if test then x else y) ≡ false
number_if true x y p q = p
number_if false x y p q = q

pub past_number : (kind : NonfiniteBehavior) (base : ℕ) (negative : Bool) → kind ≡ IEEE754
    → is_nan (past_largest kind base negative) ≡ false
past_number IEEE754 base negative e = refl
past_number NanOnly base negative e = cc
past_number NanNegativeZero base negative e = cc

pub quanta_number : (kind : NonfiniteBehavior) (negative : Bool) (quanta : ℕ)
    → is_nan (signed_quanta kind negative quanta) ≡ false
quanta_number kind negative quanta =
    number_if (eqb quanta 0) (finite (zero_sign kind negative) 0) (finite negative quanta) refl refl

pub value_number : (f : Format) (mode : Round) (negative : Bool) (pick : ℕ) → f.nonfinite ≡ IEEE754
    → is_nan (delivered_value f mode negative pick) ≡ false
value_number f mode negative pick e =
    number_if (ltb (largest f) pick)
    (if leads_out mode negative then past_largest f.nonfinite (nan_base f) negative else finite negative (largest f))
    (signed_quanta f.nonfinite negative pick)
    (number_if (leads_out mode negative) (past_largest f.nonfinite (nan_base f) negative) (finite negative (largest f))
    (past_number f.nonfinite (nan_base f) negative e) refl) (quanta_number f.nonfinite negative pick)

pub is_of : (value given : Datum) (test : Bool) → value ≡ given → is_nan given ≡ test → is_nan value ≡ test
is_of value given test e p = ap (λ (v : Datum). is_nan v) e ∙ p

delivered_number : (f : Format) (mode : Round) (negative : Bool) (amount parts : ℕ) (value : Datum) (status : ℕ)
    → f.nonfinite ≡ IEEE754 → IsDelivered f mode negative amount parts value status → is_nan value ≡ false
delivered_number f mode negative amount parts value status e h =
    is_of value (delivered_value f mode negative h.pick) false h.value_is (value_number f mode negative h.pick e)

pub root_number : (f : Format) (mode : Round) (square parts : ℕ) (value : Datum) (status : ℕ)
    → f.nonfinite ≡ IEEE754 → IsDeliveredRoot f mode square parts value status → is_nan value ≡ false
root_number f mode square parts value status e h =
    is_of value (delivered_value f mode false h.pick) false h.value_is (value_number f mode false h.pick e)

rest_number : (kind : NonfiniteBehavior) (negative : Bool) (m taken : ℕ)
    → is_nan (rest_of kind negative m taken) ≡ false
rest_number kind negative m taken =
    number_if (ltb m taken) (signed_quanta kind (not negative) (taken - m)) (signed_quanta kind negative (m - taken))
    (quanta_number kind (not negative) (taken - m)) (quanta_number kind negative (m - taken))

-- ---- results given outright

pub of_nan : (negative : Bool) (significand flags : ℕ) (value : Datum) (status : ℕ)
    → IsAnswer (nan negative significand) flags value status → (is_nan value ≡ true) × (status ≡ flags)
of_nan negative significand flags value status h =
    (is_of value (nan negative significand) true h.value_is refl, h.status_is)

pub of_number : (given : Datum) (flags : ℕ) (value : Datum) (status : ℕ) → is_nan given ≡ false
    → IsAnswer given flags value status → is_nan value ≡ false
of_number given flags value status e h = is_of value given false h.value_is e

-- ---- outcomes

-- what each delivery of an outcome has, rounded or flushed: the datum that is settled, or no NaN
abbrev pub IsSettledOrNumber : Outcome → Datum → ℕ → Type 0
IsSettledOrNumber (settled datum flags) value status = IsAnswer datum flags value status
IsSettledOrNumber (rounded negative amount parts) value status = is_nan value ≡ false
IsSettledOrNumber (totalled left right exact parts) value status = is_nan value ≡ false
IsSettledOrNumber (rooted square parts) value status = is_nan value ≡ false

pub settled_or_number : (f : Format) (mode : Round) (outcome : Outcome) (value : Datum) (status : ℕ)
    → f.nonfinite ≡ IEEE754 → Yields f mode outcome value status → IsSettledOrNumber outcome value status
settled_or_number f mode (settled datum flags) value status e h = h
settled_or_number f mode (rounded negative amount parts) value status e h =
    delivered_number f mode negative amount parts value status e h
settled_or_number f mode (totalled left right exact parts) value status e h =
    delivered_number f mode _ _ parts value status e h
settled_or_number f mode (rooted square parts) value status e h = root_number f mode square parts value status e h

invalid_or : (f : Format) (test : Bool) (given : Datum) (flags : ℕ) (value : Datum) (status : ℕ) → is_nan given ≡ false
    → IsSettledOrNumber (if test then invalid f else settled given flags) value status → IsUsualNumber test value status
invalid_or f true given flags value status e h = of_nan _ _ _ value status h
invalid_or f false given flags value status e h = of_number given flags value status e h

or_invalid : (f : Format) (test : Bool) (given : Datum) (flags : ℕ) (value : Datum) (status : ℕ) → is_nan given ≡ false
    → IsSettledOrNumber (if test then settled given flags else invalid f) value status
    → IsUsualNumber (not test) value status
or_invalid f true given flags value status e h = of_number given flags value status e h
or_invalid f false given flags value status e h = of_nan _ _ _ value status h

-- ---- sums and differences

pub sum_usual : (f : Format) (x y value : Datum) (status : ℕ) → IsSettledOrNumber (sum f x y) value status
    → IsUsual f x y (is_invalid_sum x y) value status
sum_usual f (nan b s) y value status h = of_nan _ _ _ value status h
sum_usual f (finite b m) (nan c t) value status h = of_nan _ _ _ value status h
sum_usual f (infinite b) (nan c t) value status h = of_nan _ _ _ value status h
sum_usual f (infinite b) (infinite c) value status h =
    or_invalid f (same_sign b c) (infinite b) ok_bits value status refl h
sum_usual f (infinite b) (finite c n) value status h = of_number (infinite b) ok_bits value status refl h
sum_usual f (finite b m) (infinite c) value status h = of_number (infinite c) ok_bits value status refl h
sum_usual f (finite b m) (finite c n) value status h = h

-- a finite datum negated
finite_if : (test : Bool) (x y : Datum) → is_finite x ≡ true → is_finite y ≡ true
    → is_finite (if test then x else y) ≡ true
finite_if true x y p q = p
finite_if false x y p q = q

zero_finite : (kind : NonfiniteBehavior) (negative : Bool) → is_finite (negated_zero kind negative) ≡ true
zero_finite IEEE754 negative = refl
zero_finite NanOnly negative = refl
zero_finite NanNegativeZero negative = refl

pub negated_finite : (kind : NonfiniteBehavior) (negative : Bool) (quanta : ℕ)
    → is_finite (negated kind (finite negative quanta)) ≡ true
negated_finite kind negative quanta =
    finite_if (eqb quanta 0) (negated_zero kind negative) (finite (not negative) quanta) (zero_finite kind negative)
    refl

-- a number or an infinity plus a number
plus_number : (f : Format) (x y value : Datum) (status : ℕ) → is_nan x ≡ false → is_finite y ≡ true
    → IsSettledOrNumber (sum f x y) value status → is_nan value ≡ false
plus_number f (nan b s) y value status p q h = cc
plus_number f (finite b m) (nan c t) value status p q h = cc
plus_number f (infinite b) (nan c t) value status p q h = cc
plus_number f (infinite b) (infinite c) value status p q h = cc
plus_number f (finite b m) (infinite c) value status p q h = cc
plus_number f (infinite b) (finite c n) value status p q h = of_number (infinite b) ok_bits value status refl h
plus_number f (finite b m) (finite c n) value status p q h = h

pub difference_usual : (f : Format) (x y value : Datum) (status : ℕ)
    → IsSettledOrNumber (difference f x y) value status → IsUsual f x y (is_invalid_difference x y) value status
difference_usual f (nan b s) y value status h = of_nan _ _ _ value status h
difference_usual f (finite b m) (nan c t) value status h = of_nan _ _ _ value status h
difference_usual f (infinite b) (nan c t) value status h = of_nan _ _ _ value status h
difference_usual f (infinite b) (infinite c) value status h =
    or_invalid f (same_sign b (not c)) (infinite b) ok_bits value status refl h
difference_usual f (infinite b) (finite c n) value status h =
    plus_number f (infinite b) (negated f.nonfinite (finite c n)) value status refl (negated_finite f.nonfinite c n) h
difference_usual f (finite b m) (infinite c) value status h = of_number (infinite (not c)) ok_bits value status refl h
difference_usual f (finite b m) (finite c n) value status h =
    plus_number f (finite b m) (negated f.nonfinite (finite c n)) value status refl (negated_finite f.nonfinite c n) h

-- ---- products, quotients, remainders and roots

pub product_usual : (f : Format) (x y value : Datum) (status : ℕ) → IsSettledOrNumber (product f x y) value status
    → IsUsual f x y (is_invalid_product x y) value status
product_usual f (nan b s) y value status h = of_nan _ _ _ value status h
product_usual f (finite b m) (nan c t) value status h = of_nan _ _ _ value status h
product_usual f (infinite b) (nan c t) value status h = of_nan _ _ _ value status h
product_usual f (finite b m) (infinite c) value status h =
    invalid_or f (eqb m 0) (infinite (product_sign b c)) ok_bits value status refl h
product_usual f (infinite b) (finite c n) value status h =
    invalid_or f (eqb n 0) (infinite (product_sign b c)) ok_bits value status refl h
product_usual f (infinite b) (infinite c) value status h =
    of_number (infinite (product_sign b c)) ok_bits value status refl h
product_usual f (finite b m) (finite c n) value status h = h

-- two numbers, by whether each is a zero
quotient_of_numbers : (f : Format) (p q negative : Bool) (amount parts : ℕ) (value : Datum) (status : ℕ)
    → f.nonfinite ≡ IEEE754
    → IsSettledOrNumber (if p then (if q then invalid f else settled (infinity_of f negative) div_by_zero_bit)
    else rounded negative amount parts) value status → IsUsualNumber (p && q) value status
quotient_of_numbers f true true negative amount parts value status e h = of_nan _ _ _ value status h
quotient_of_numbers f true false negative amount parts value status e h =
    of_number (infinity_of f negative) div_by_zero_bit value status (past_number f.nonfinite (nan_base f) negative e) h
quotient_of_numbers f false q negative amount parts value status e h = h

pub quotient_usual : (f : Format) (x y value : Datum) (status : ℕ) → f.nonfinite ≡ IEEE754
    → IsSettledOrNumber (quotient f x y) value status → IsUsual f x y (is_invalid_quotient x y) value status
quotient_usual f (nan b s) y value status e h = of_nan _ _ _ value status h
quotient_usual f (finite b m) (nan c t) value status e h = of_nan _ _ _ value status h
quotient_usual f (infinite b) (nan c t) value status e h = of_nan _ _ _ value status h
quotient_usual f (infinite b) (infinite c) value status e h = of_nan _ _ _ value status h
quotient_usual f (infinite b) (finite c n) value status e h =
    of_number (infinite (product_sign b c)) ok_bits value status refl h
quotient_usual f (finite b m) (infinite c) value status e h =
    of_number (signed_quanta f.nonfinite (product_sign b c) 0) ok_bits value status
    (quanta_number f.nonfinite (product_sign b c) 0) h
quotient_usual f (finite b m) (finite c n) value status e h =
    quotient_of_numbers f (eqb n 0) (eqb m 0) (product_sign b c) (m * 2 ^ f.scale) n value status e h

pub remainder_usual : (f : Format) (quotient : ℕ → ℕ → ℕ) (x y value : Datum) (status : ℕ)
    → IsSettledOrNumber (remainder f quotient x y) value status → IsUsual f x y (is_invalid_remainder x y) value status
remainder_usual f quotient (nan b s) y value status h = of_nan _ _ _ value status h
remainder_usual f quotient (finite b m) (nan c t) value status h = of_nan _ _ _ value status h
remainder_usual f quotient (infinite b) (nan c t) value status h = of_nan _ _ _ value status h
remainder_usual f quotient (infinite b) (infinite c) value status h = of_nan _ _ _ value status h
remainder_usual f quotient (infinite b) (finite c n) value status h = of_nan _ _ _ value status h
remainder_usual f quotient (finite b m) (infinite c) value status h = of_number (finite b m) ok_bits value status refl h
remainder_usual f quotient (finite b m) (finite c n) value status h =
    invalid_or f (eqb n 0) (rest_of f.nonfinite b m (n * quotient m n)) ok_bits value status
    (rest_number f.nonfinite b m (n * quotient m n)) h

-- a number, by whether it is a zero, and its sign
root_of_number : (f : Format) (test b : Bool) (square parts : ℕ) (value : Datum) (status : ℕ)
    → IsSettledOrNumber (if test then exactly (finite b 0) else (if b then invalid f else rooted square parts)) value
    status → IsUsualNumber (not test && b) value status
root_of_number f true b square parts value status h = of_number (finite b 0) ok_bits value status refl h
root_of_number f false true square parts value status h = of_nan _ _ _ value status h
root_of_number f false false square parts value status h = h

same_or : (test : Bool) → test ≡ (test || test)
same_or true = refl
same_or false = refl

of_one_nan : (f : Format) (s : ℕ) (negative : Bool) (significand : ℕ) (value : Datum) (status : ℕ)
    → IsAnswer (nan negative significand) (invalid_if (is_signaling f s)) value status
    → (is_nan value ≡ true) × (status ≡ invalid_if (is_signaling f s || is_signaling f s))
of_one_nan f s negative significand value status h =
    let k = of_nan negative significand _ value status h in
    (k.0, k.1 ∙ ap (λ (test : Bool). invalid_if test) (same_or (is_signaling f s)))

pub root_usual : (f : Format) (x value : Datum) (status : ℕ) → IsSettledOrNumber (root f x) value status
    → IsUsual f x x (is_invalid_root x) value status
root_usual f (nan b s) value status h = of_one_nan f s _ _ value status h
root_usual f (infinite b) value status h = invalid_or f b (infinite false) ok_bits value status refl h
root_usual f (finite b n) value status h = root_of_number f (eqb n 0) b (n * 2 ^ f.scale) 1 value status h

pub exact_usual : (f : Format) (mode : Round) (x value : Datum) (status : ℕ)
    → IsRoundToIntegral f mode x value status → IsUsual f x x false value status
exact_usual f mode (nan b s) value status h = of_one_nan f s _ _ value status h
exact_usual f mode (infinite b) value status h = of_number (infinite b) ok_bits value status refl h
exact_usual f mode (finite b n) value status h =
    is_of value (signed_quanta f.nonfinite b (whole_quanta f mode b n)) false h.value_is
    (quanta_number f.nonfinite b (whole_quanta f mode b n))

pub integral_usual : (f : Format) (mode : Round) (x value : Datum) (status : ℕ)
    → IsRoundedToIntegral f mode x value status → IsUsual f x x false value status
integral_usual f mode (nan b s) value status h = of_one_nan f s _ _ value status h
integral_usual f mode (infinite b) value status h = of_number (infinite b) ok_bits value status refl h
integral_usual f mode (finite b n) value status h =
    is_of value (signed_quanta f.nonfinite b (whole_quanta f mode b n)) false h.value_is
    (quanta_number f.nonfinite b (whole_quanta f mode b n))

-- ---- fused sums

-- a product that is a NaN, whatever is added
nan_product : (f : Format) (test b : Bool) (s flags : ℕ) (z value : Datum) (status : ℕ)
    → IsSettledOrNumber (if test then sum f (nan b s) z else settled (nan b s) flags) value status → is_nan value ≡ true
nan_product f true b s flags z value status h = (of_nan _ _ _ value status h).0
nan_product f false b s flags z value status h = (of_nan _ _ _ value status h).0

nan_is : (f : Format) (b : Bool) (s flags : ℕ) (z value : Datum) (status : ℕ)
    → IsSettledOrNumber (on_product f z (settled (nan b s) flags)) value status → is_nan value ≡ true
nan_is f b s flags z value status h = nan_product f (eqb flags ok_bits) b s flags z value status h

-- an infinite product
infinite_plus : (f : Format) (b : Bool) (z value : Datum) (status : ℕ)
    → IsSettledOrNumber (sum f (infinite b) z) value status → MatchBool (is_nan z) (is_nan value ≡ true)
    (IsUsualNumber (is_infinite z && not (same_sign b (is_negative z))) value status)
infinite_plus f b (nan d t) value status h = (of_nan _ _ _ value status h).0
infinite_plus f b (finite d n) value status h = of_number (infinite b) ok_bits value status refl h
infinite_plus f b (infinite d) value status h = or_invalid f (same_sign b d) (infinite b) ok_bits value status refl h

both : (z value : Datum) (status : ℕ) (test : Bool) → (is_nan value ≡ true) × (status ≡ invalid_bit)
    → MatchBool (is_nan z) (is_nan value ≡ true) (IsUsualNumber (true || test) value status)
both (nan d t) value status test h = h.0
both (finite d n) value status test h = h
both (infinite d) value status test h = h

-- a product with an infinite factor, which is invalid as a test says
special_plus : (f : Format) (test b : Bool) (z value : Datum) (status : ℕ)
    → IsSettledOrNumber (on_product f z (if test then invalid f else exactly (infinite b))) value status
    → MatchBool (is_nan z) (is_nan value ≡ true)
    (IsUsualNumber (test || (is_infinite z && not (same_sign b (is_negative z)))) value status)
special_plus f true b z value status h =
    both z value status (is_infinite z && not (same_sign b (is_negative z))) (of_nan _ _ _ value status h)
special_plus f false b z value status h = infinite_plus f b z value status h

pub fused_usual : (f : Format) (x y z value : Datum) (status : ℕ)
    → IsSettledOrNumber (fused_sum f x y z) value status → IsUsualFused x y z value status
fused_usual f (finite b l) (finite c m) (finite d n) value status h = h
fused_usual f (finite b l) (finite c m) (infinite d) value status h = of_number (infinite d) ok_bits value status refl h
fused_usual f (finite b l) (finite c m) (nan d t) value status h = (of_nan _ _ _ value status h).0
fused_usual f (finite b l) (infinite c) z value status h = special_plus f (eqb l 0) (product_sign b c) z value status h
fused_usual f (infinite b) (finite c m) z value status h = special_plus f (eqb m 0) (product_sign b c) z value status h
fused_usual f (infinite b) (infinite c) z value status h = infinite_plus f (product_sign b c) z value status h
fused_usual f (finite b l) (nan c t) z value status h = nan_is f c _ _ z value status h
fused_usual f (infinite b) (nan c t) z value status h = nan_is f c _ _ z value status h
fused_usual f (nan b s) y z value status h = nan_is f b _ _ z value status h
