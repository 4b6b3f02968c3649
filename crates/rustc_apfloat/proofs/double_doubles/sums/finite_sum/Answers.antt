use Rattle.std.proofs.Common.{◌≡◌, ℕ, Bool, true, false, not, ◌&&◌, if◌then◌else◌, refl, sym, ap, ◌∙◌, subst}
use Rattle.apfloat_model.specs.{arithmetic.Exact.same_sign, formats.Datum.Datum, formats.Datum.finite}
use Rattle.apfloat_model.specs.{formats.Datum.infinite, formats.Datum.nan, order.Classes.category_of}
use Rattle.apfloat_model.specs.declared.kinds.{Category.TheVariants.Zero, Category.TheVariants.Normal, Round.Round}
use Rattle.apfloat_model.specs.order.{Classes.is_negative, Classes.same_datum, Predicates.is_zero_category}
use Rattle.apfloat_model.specs.rounding.{Flags.bits_of, Rounding.ok_bits, Steps.ends, Steps.Leads}
use Rattle.apfloat_pair_theory.specs.Pairs.{Pair, alone, positive_zero}
use Rattle.apfloat_pair_theory.specs.PairSums.{◌∪◌, closing, finite_sum, lost}
use Rattle.apfloat_pair_theory.specs.PairFormats.{double}
use Rattle.apfloat_pair_theory.proofs.sums.SumsSound.{at_test, continued_leads}
use Rattle.rustc_apfloat.proofs.double_doubles.sums.finite_sum.Goals as goal

-- a finite datum that is zero and has no sign is +0
zero_without_sign : (negative is_zero : Bool)
    → (is_zero_category (if is_zero then Zero else Normal) && not negative) ≡ (same_sign negative false && is_zero)
zero_without_sign true true = refl
zero_without_sign true false = refl
zero_without_sign false true = refl
zero_without_sign false false = refl

-- the language's test for +0 is that of the model
is_positive_zero : (x : Datum) → (is_zero_category (category_of x) && not (is_negative x)) ≡ same_datum x positive_zero
is_positive_zero (finite b n) = zero_without_sign b _
is_positive_zero (infinite b) = refl
is_positive_zero (nan b s) = refl

-- the steps after the error, by whether there is none
from_error : (mode : Round) (x y : Pair) (z zz : Datum) (z_flags zz_flags : ℕ) (is_none value : Bool) (answer : Pair)
    (status : ℕ) → Leads double mode (lost x.high x.low y.high y.low z) zz zz_flags
    → is_none ≡ (is_zero_category (category_of zz) && not (is_negative zz)) → is_none ≡ value
    → Leads double mode (if value then ends (alone z) ok_bits else closing z zz (z_flags ∪ zz_flags)) answer status
    → Leads double mode (finite_sum x y z z_flags) answer status
from_error mode x y z zz z_flags zz_flags is_none value answer status error test e h =
    continued_leads double mode (lost x.high x.low y.high y.low z)
    (λ w s. if same_datum w positive_zero then ends (alone z) ok_bits else closing z w (z_flags ∪ s))
    zz zz_flags answer status error
    (at_test mode value (same_datum zz positive_zero) (ends (alone z) ok_bits) (closing z zz (z_flags ∪ zz_flags))
    answer status (sym e ∙ test ∙ is_positive_zero zz) h)

closing_at : (mode : Round) (z zz : Datum) (flags other : ℕ) (answer : Pair) (status : ℕ) → flags ≡ other
    → Leads double mode (closing z zz flags) answer status → Leads double mode (closing z zz other) answer status
closing_at mode z zz flags other answer status e h =
    subst (λ (i : ℕ). Leads double mode (closing z zz i) answer status) e h

pub returns-then-is_pos_zero : goal.returns-then-is_pos_zero
returns-then-is_pos_zero c =
    from_error c.args.round c.args.x c.args.y c.args.z.value c.lost.result.value (bits_of c.args.z.status)
    (bits_of c.lost.result.status) _ true _ _ c.lost.ensures c.is_pos_zero.ensures c.if-is_pos_zero.true
    (c.and.ensures.value ∙ c.alone.ensures, ap bits_of c.and.ensures.status)

pub returns-else-is_pos_zero : goal.returns-else-is_pos_zero
returns-else-is_pos_zero c =
    from_error c.args.round c.args.x c.args.y c.args.z.value c.lost.result.value (bits_of c.args.z.status)
    (bits_of c.lost.result.status) _ false _ _ c.lost.ensures c.is_pos_zero.ensures c.if-is_pos_zero.false
    (closing_at c.args.round c.args.z.value c.lost.result.value _ _ _ _ (c.unpack-union-status.ensures tt) assumption)
