-- The product of two pairs of doubles, as a chain of roundings in the mode; the flags of the steps are joined.
use Rattle.std.specs.Prelude.{ℕ, if◌then◌else◌}
use Rattle.apfloat_model.specs.declared.kinds.{Round.Round, NonfiniteBehavior.TheVariants.IEEE754, Category.Category}
use Rattle.apfloat_model.specs.declared.kinds.Category.TheVariants.{Zero, Normal, Infinity, NaN}
use Rattle.apfloat_model.specs.{formats.Datum.Datum, rounding.Rounding.ok_bits, rounding.Negation.negated}
use Rattle.apfloat_model.specs.rounding.Steps.{Steps, ends, after, Leads}
use Rattle.apfloat_model.specs.order.Classes.{is_finite_non_zero}
use Rattle.apfloat_model.specs.arithmetic.{Sums.sum, Products.product, FusedSums.fused_sum}
use Rattle.apfloat_pair_theory.specs.{PairFormats.double, Pairs.Pair, Pairs.alone, Pairs.pair_category, Pairs.pair_nan}
use Rattle.apfloat_pair_theory.specs.PairSums.{◌∪◌, continued, closing}

-- the error of t = a * c, rounded once, plus the products of a high part and a low part
abbrev pub lost_of_product : Datum → Datum → Datum → Datum → Datum → Steps Datum
lost_of_product a b c d t =
    after (fused_sum double a c (negated IEEE754 t)) (λ lost lost_flags.
    after (product double a d) (λ v v_flags. after (product double b c) (λ w w_flags.
    after (sum double v w) (λ cross cross_flags. after (sum double lost cross) (λ tau tau_flags.
    ends tau (lost_flags ∪ v_flags ∪ w_flags ∪ cross_flags ∪ tau_flags))))))

abbrev pub number_product : Pair → Pair → Datum → ℕ → Steps Pair
number_product x y t flags =
    continued (lost_of_product x.high x.low y.high y.low t) (λ tau s. closing t tau (flags ∪ s))

abbrev pub product_of_numbers : Pair → Pair → Steps Pair
product_of_numbers x y =
    after (product double x.high y.high) (λ t s.
    if is_finite_non_zero t then number_product x y t s else ends (alone t) s)

-- The first row that matches. A zero or an infinity is returned unchanged, with its own sign.
abbrev pub product_of_categories : Category → Category → Pair → Pair → Steps Pair
product_of_categories NaN k x y = ends x ok_bits
product_of_categories k NaN x y = ends y ok_bits
product_of_categories Zero Infinity x y = ends pair_nan ok_bits
product_of_categories Infinity Zero x y = ends pair_nan ok_bits
product_of_categories Zero k x y = ends x ok_bits
product_of_categories Infinity k x y = ends x ok_bits
product_of_categories k Zero x y = ends y ok_bits
product_of_categories k Infinity x y = ends y ok_bits
product_of_categories Normal Normal x y = product_of_numbers x y

abbrev pub pair_product : Pair → Pair → Steps Pair
pair_product x y = product_of_categories (pair_category x) (pair_category y) x y

abbrev pub IsPairProduct : Round → Pair → Pair → Pair → ℕ → Type 0
IsPairProduct mode x y answer status = Leads double mode (pair_product x y) answer status
