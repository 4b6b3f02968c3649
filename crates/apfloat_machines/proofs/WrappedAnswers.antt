-- Wrapped answers: the bias adjustment of a lawful format, that there is one answer, and that it is exact.
use Rattle.std.proofs.Common.{◌≡◌, ℕ, ◌-◌, ◌*◌, ◌^◌, Bool, zero, suc, refl, sym, ap, ◌∙◌, subst, arith}
use Rattle.std.proofs.Common.{pos, neg_ℤ, ◌+ℤ◌, ◌-ℤ◌}
use Rattle.std.proofs.lemmas.{Int.ints, Nat.pow_pos}
use Rattle.std.specs.{Bool.MatchBool, Prelude.ℤ, Prelude.unsigned_abs}
use Rattle.apfloat_model.specs.declared.kinds.{NonfiniteBehavior.NonfiniteBehavior, Round.TheVariants.TowardZero}
use Rattle.apfloat_model.specs.declared.status.StatusAnd.{StatusAnd}
use Rattle.apfloat_model.specs.formats.{Format.Format, Lawful.Constants, Lawful.IsLawful, Lawful.format_with}
use Rattle.apfloat_model.specs.formats.{Datum.Datum, Datum.finite, Datum.infinite, Datum.nan}
use Rattle.apfloat_model.specs.rounding.{Answer.IsAnswer, Flags.bits_of, Rounding.overflow_bit, Rounding.underflow_bit}
use Rattle.apfloat_model.specs.rounding.Rounding.{signed_quanta, zero_sign}
use Rattle.apfloat_model.specs.arithmetic.{Conversions.IsConversion, Exact.up, Exact.down, Scaling.IsScaling}
use Rattle.apfloat_model.proofs.{Determined.gives_once, Once.Once, Once.answer_once, Once.conversion_once}
use Rattle.apfloat_model.proofs.{Once.scaling_once, arithmetic.ExactConversions.exactly_converted}
use Rattle.apfloat_model.proofs.{general.Choices.match_case, rounding.Deliveries.signed_some}
use Rattle.apfloat_model.proofs.rounding.Laws.{delivered_once, exact_delivered}
use Rattle.apfloat_machines.specs.{Flushing.is_flushed, Wrapping.IsExactlyMoved, Wrapping.IsMoved}
use Rattle.apfloat_machines.specs.Wrapping.{MovedAreExact, WrappedHaveOneAnswer, bias_adjustment, half_of_exponents}

-- a number of a format, with its sign
signed_is : (kind : NonfiniteBehavior) (negative : Bool) (n : ℕ) → (n ≡ 0 → negative ≡ zero_sign kind negative)
    → signed_quanta kind negative n ≡ finite negative n
signed_is kind negative zero h = ap (λ (s : Bool). finite s 0) (sym (h refl))
signed_is kind negative (suc n) h = signed_some kind negative (suc n) (omega arith)

-- one more than the greatest exponent
pub half_is : (c : Constants) → IsLawful c → c.max_exp +ℤ pos 1 ≡ pos (half_of_exponents (format_with c))
half_is c law =
    let p = law.parameters in
    let scale : pos (c.precision - 1) -ℤ c.min_exp ≡ pos (unsigned_abs (pos (c.precision - 1) -ℤ c.min_exp)) =
    omega (arith, ints, p.precision_low, p.min_exp_high) in
    let span : c.max_exp -ℤ c.min_exp ≡ pos (unsigned_abs (c.max_exp -ℤ c.min_exp)) =
    omega (arith, ints, p.precision_low, p.max_exp_low, p.min_exp_high) in
    omega (arith, ints, scale, span, p.precision_low, p.max_exp_low, p.min_exp_high)

-- ---- one answer

moved_once : (g f : Format) (places : ℤ) (flag : ℕ) (wide : StatusAnd Datum) → Once (IsMoved g f places flag wide)
moved_once g f places flag wide v w r s h k =
    let same = scaling_once g TowardZero wide.value places h.scaled k.scaled h.is_scaled k.is_scaled in
    let e = conversion_once g f TowardZero k.scaled v w h.flags k.flags h.loses_info k.loses_info
    (subst (λ (x : Datum). IsConversion g f TowardZero x v h.flags h.loses_info) same h.is_converted) k.is_converted in
    (e.0, h.status_is ∙ sym k.status_is)

pub wrapped_once : WrappedHaveOneAnswer
wrapped_once g f plain wide =
    let places = pos (bias_adjustment f) in
    gives_once _ (match_case Once _ (IsMoved g f (neg_ℤ places) overflow_bit wide)
    (λ v s. MatchBool (is_flushed f plain.value (bits_of plain.status)) (IsMoved g f places underflow_bit wide v s)
    (IsAnswer plain.value (bits_of plain.status) v s))
    (moved_once g f (neg_ℤ places) overflow_bit wide)
    (match_case Once _ (IsMoved g f places underflow_bit wide) (IsAnswer _ _) (moved_once g f places underflow_bit wide)
    (answer_once _ _)))

-- ---- exact numbers

moved_exactly : (g f : Format) (places : ℤ) (x scaled value : Datum) (flags : ℕ) (loses : Bool)
    → IsScaling g TowardZero x places scaled → IsConversion g f TowardZero scaled value flags loses
    → IsExactlyMoved g f places x value
moved_exactly g f places (nan b s) scaled value flags loses h converted = tt
moved_exactly g f places (infinite b) scaled value flags loses h converted = tt
moved_exactly g f places (finite b m) scaled value flags loses h converted = λ k n e kept same into.
    let d = exact_delivered g TowardZero b k (m * 2 ^ up places) (2 ^ down places) (pow_pos (down places)) kept.on_grid
    kept.within (sym e) in
    let signed : scaled ≡ signed_quanta g.nonfinite b k =
    (delivered_once g TowardZero b (m * 2 ^ up places) (2 ^ down places) scaled (signed_quanta g.nonfinite b k) h.0 0
    h.1 d).0 in
    let is : scaled ≡ finite b k = signed ∙ signed_is g.nonfinite b k kept.zero_has in
    (exactly_converted g f TowardZero (finite b k) value flags loses
    (subst (λ (x : Datum). IsConversion g f TowardZero x value flags loses) is converted) n same into).value_is

pub moved_are_exact : MovedAreExact
moved_are_exact g f places flag wide value status h =
    moved_exactly g f places wide.value h.scaled value h.flags h.loses_info h.is_scaled h.is_converted
