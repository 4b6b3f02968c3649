-- The chain of a product of pairs is sound, so that it leads to one result with one status, whose flags go together.
use Rattle.std.proofs.Common.{ℕ}
use Rattle.apfloat_model.specs.declared.kinds.{NonfiniteBehavior.TheVariants.IEEE754, Category.Category}
use Rattle.apfloat_model.specs.declared.kinds.Category.TheVariants.{Normal, NaN}
use Rattle.apfloat_model.specs.{formats.Datum.Datum, rounding.Negation.negated, rounding.RaisedFlags.FlagsGoTogether}
use Rattle.apfloat_model.specs.{rounding.Steps.ends, rounding.Steps.AreSound, order.Classes.is_finite_non_zero}
use Rattle.apfloat_model.proofs.Outcomes.{sum_sound, product_sound, fused_sum_sound}
use Rattle.apfloat_model.proofs.rounding.StatusesTogether.{ok_together, union_together}
use Rattle.apfloat_pair_theory.specs.{PairFormats.double, Pairs.Pair, Pairs.alone, Pairs.pair_category}
use Rattle.apfloat_pair_theory.specs.PairSums.{◌∪◌, closing}
use Rattle.apfloat_pair_theory.specs.PairProducts.{lost_of_product, number_product, product_of_numbers}
use Rattle.apfloat_pair_theory.specs.PairProducts.{product_of_categories, pair_product}
use Rattle.apfloat_pair_theory.proofs.sums.SumsSound.{sound_after, sound_if, continued_sound, closing_sound}

lost_of_product_sound : (a b c d t : Datum) → AreSound (lost_of_product a b c d t)
lost_of_product_sound a b c d t =
    sound_after (fused_sum_sound double a c (negated IEEE754 t)) (λ l s f.
    sound_after (product_sound double a d) (λ v u g. sound_after (product_sound double b c) (λ w x h.
    sound_after (sum_sound double v w) (λ cross y k. sound_after (sum_sound double l cross) (λ tau z m.
    union_together _ z (union_together _ y (union_together _ x (union_together s u f g) h) k) m)))))

number_product_sound : (x y : Pair) (t : Datum) (flags : ℕ) → FlagsGoTogether flags
    → AreSound (number_product x y t flags)
number_product_sound x y t flags f =
    continued_sound (lost_of_product x.high x.low y.high y.low t) (λ tau s. closing t tau (flags ∪ s))
    (lost_of_product_sound x.high x.low y.high y.low t)
    (λ tau s g. closing_sound t tau (flags ∪ s) (union_together flags s f g))

product_of_numbers_sound : (x y : Pair) → AreSound (product_of_numbers x y)
product_of_numbers_sound x y =
    sound_after (product_sound double x.high y.high) (λ t s f.
    sound_if (is_finite_non_zero t) (number_product x y t s) (ends (alone t) s) (number_product_sound x y t s f) f)

product_of_categories_sound : (first second : Category) (x y : Pair) → AreSound (product_of_categories first second x y)
product_of_categories_sound Normal Normal x y = product_of_numbers_sound x y
product_of_categories_sound first NaN x y = ok_together
product_of_categories_sound first second x y = ok_together

pub pair_product_sound : (x y : Pair) → AreSound (pair_product x y)
pair_product_sound x y = product_of_categories_sound (pair_category x) (pair_category y) x y
