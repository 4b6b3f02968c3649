-- The sum of two pairs of doubles, as a chain of roundings in the mode; the flags of the steps are joined.
use Rattle.std.specs.Prelude.{ℕ, ltb, if◌then◌else◌, bit_or}
use Rattle.apfloat_model.specs.arithmetic.{Exact.same_sign, Sums.sum, Sums.difference}
use Rattle.apfloat_model.specs.declared.kinds.{Round.Round, NonfiniteBehavior.TheVariants.IEEE754, Category.Category}
use Rattle.apfloat_model.specs.declared.kinds.Category.TheVariants.{Zero, Normal, Infinity, NaN}
use Rattle.apfloat_model.specs.{formats.Datum.Datum, formats.Nan.invalid_bit, rounding.Rounding.ok_bits}
use Rattle.apfloat_model.specs.rounding.{Negation.negated, Steps.Steps, Steps.ends, Steps.after, Steps.Leads}
use Rattle.apfloat_model.specs.order.Classes.{is_negative, is_finite, is_infinite, quanta_of, same_datum}
use Rattle.apfloat_pair_theory.specs.PairFormats.{double}
use Rattle.apfloat_pair_theory.specs.Pairs.{Pair, alone, positive_zero, negated_pair, pair_category, pair_nan_signed_as}

-- the union of two sets of flags
infixl 70 ◌∪◌
abbrev pub ◌∪◌ : ℕ → ℕ → ℕ
s ∪ t = bit_or s t

-- the steps, and then those for their result and its flags
abbrev pub continued : {A B : Type 0} → Steps A → (A → ℕ → Steps B) → Steps B
continued {A} {B} (ends given flags) next = next given flags
continued {A} {B} (after outcome more) next = after outcome (λ datum flags. continued (more datum flags) next)

-- ---- the end of a sum and of a product: h = z + zz, and the low part is z - h, plus zz

abbrev pub closing_low : Datum → Datum → Datum → ℕ → Steps Pair
closing_low z zz h flags =
    after (difference double z h) (λ left s. after (sum double left zz) (λ low t.
    ends (record { high = h; low = low }) (flags ∪ s ∪ t)))

abbrev pub closing : Datum → Datum → ℕ → Steps Pair
closing z zz flags =
    after (sum double z zz) (λ h s.
    if is_finite h then closing_low z zz h (flags ∪ s) else ends (alone h) (flags ∪ s))

-- ---- the sum of the high parts, a and c, is not infinite

-- the error of z = a + c, plus the low parts
abbrev pub lost : Datum → Datum → Datum → Datum → Datum → Steps Datum
lost a aa c cc z =
    after (difference double a z) (λ q q_flags.
    after (sum double q c) (λ lost_of_c lost_of_c_flags.
    after (sum double q z) (λ z_again z_again_flags.
    after (difference double z_again a) (λ gained gained_flags.
    -- the error: what c lost minus what a gained
    after (sum double lost_of_c (negated IEEE754 gained)) (λ lost lost_flags.
    after (sum double lost aa) (λ with_aa with_aa_flags.
    after (sum double with_aa cc) (λ zz zz_flags.
    ends zz
    (q_flags ∪ lost_of_c_flags ∪ z_again_flags ∪ gained_flags ∪ lost_flags ∪ with_aa_flags ∪ zz_flags))))))))

-- without an error, the result is z alone; otherwise one more sum
abbrev pub finite_sum : Pair → Pair → Datum → ℕ → Steps Pair
finite_sum x y z flags =
    continued (lost x.high x.low y.high y.low z) (λ zz s.
    if same_datum zz positive_zero then ends (alone z) ok_bits else closing z zz (flags ∪ s))

-- ---- it is infinite: the sum is computed again, starting with the smallest part

-- of two numbers, that of greater magnitude, and the other; on a tie, the second counts as the greater
abbrev pub greater : Datum → Datum → Datum
greater a c = if ltb (quanta_of c) (quanta_of a) then a else c

abbrev pub lesser : Datum → Datum → Datum
lesser a c = if ltb (quanta_of c) (quanta_of a) then c else a

-- the low parts; the greater high part - z, + the lesser, + the low parts
abbrev pub sum_anew_low : Pair → Pair → Datum → ℕ → Steps Pair
sum_anew_low x y z flags =
    after (sum double x.low y.low) (λ zz s. after (difference double (greater x.high y.high) z) (λ left t.
    after (sum double left (lesser x.high y.high)) (λ with_lesser u. after (sum double with_lesser zz) (λ low v.
    ends (record { high = z; low = low }) (flags ∪ s ∪ t ∪ u ∪ v)))))

-- the low parts, the second first; + the lesser high part, + the greater
abbrev pub sum_anew : Pair → Pair → Steps Pair
sum_anew x y =
    after (sum double y.low x.low) (λ lows s. after (sum double lows (lesser x.high y.high)) (λ with_lesser t.
    after (sum double with_lesser (greater x.high y.high)) (λ z u.
    if is_finite z then sum_anew_low x y z (s ∪ t ∪ u) else ends (alone z) (s ∪ t ∪ u))))

-- ---- the sum

abbrev pub sum_of_numbers : Pair → Pair → Steps Pair
sum_of_numbers x y =
    after (sum double x.high y.high) (λ z s. if is_infinite z then sum_anew x y else finite_sum x y z s)

abbrev pub sum_of_infinities : Pair → Pair → Steps Pair
sum_of_infinities x y =
    if same_sign (is_negative x.high) (is_negative y.high) then ends x ok_bits
    else ends (pair_nan_signed_as x) invalid_bit

-- the first row that matches
abbrev pub sum_of_categories : Category → Category → Pair → Pair → Steps Pair
sum_of_categories Infinity Infinity x y = sum_of_infinities x y
sum_of_categories k Zero x y = ends x ok_bits
sum_of_categories NaN k x y = ends x ok_bits
sum_of_categories Infinity Normal x y = ends x ok_bits
sum_of_categories Zero k x y = ends y ok_bits
sum_of_categories k NaN x y = ends y ok_bits
sum_of_categories k Infinity x y = ends y ok_bits
sum_of_categories Normal Normal x y = sum_of_numbers x y

abbrev pub pair_sum : Pair → Pair → Steps Pair
pair_sum x y = sum_of_categories (pair_category x) (pair_category y) x y

abbrev pub IsPairSum : Round → Pair → Pair → Pair → ℕ → Type 0
IsPairSum mode x y answer status = Leads double mode (pair_sum x y) answer status

-- the sum with the negated pair
abbrev pub IsPairDifference : Round → Pair → Pair → Pair → ℕ → Type 0
IsPairDifference mode x y answer status = IsPairSum mode x (negated_pair y) answer status
