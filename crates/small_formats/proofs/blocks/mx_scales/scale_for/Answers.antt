use Rattle.std.proofs.Common.{arith, refl, sym, w32, ◌^◌, ◌∙◌, pos, ◌-ℤ◌}
use Rattle.std.proofs.lemmas.Int.{ints, to_z-of_z}
use Rattle.apfloat_model.specs.{arithmetic.Exponents.IsLogarithm, order.Classes.quanta_of, rounding.Bounds.IsWithin}
use Rattle.apfloat_model.proofs.{arithmetic.Significands.exponent_fits, formats.LawfulRanges.ranges_of}
use Rattle.apfloat_model.proofs.general.Choices.{match_false, match_true}
use Rattle.apfloat_model.proofs.order.PositiveValues.{logarithm_of, logarithm_within}
use Rattle.apfloat_ieee.specs.Types.{constants_of, format_of}
use Rattle.small_formats.specs.blocks.Elements.{max_exp}
use Rattle.small_formats.proofs.blocks_lemmas.Greatest.{positive_of, zero_test}
use Rattle.small_formats.proofs.blocks.mx_scales.scale_for.{Given.Over, Goals.After-ilogb}
use Rattle.small_formats.proofs.blocks.mx_scales.scale_for.Goals as goal

pub returns-then-is_zero-clause-value : goal.returns-then-is_zero-clause-value
returns-then-is_zero-clause-value g c =
    match_true _ _ _ (sym (zero_test c.args.greatest c.requires.sign) ∙ sym c.is_zero.ensures ∙ c.if-is_zero.true) refl

-- the exponent of the greatest magnitude
record HasExponent (g : Over) (c : After-ilogb g) : Type 0 where
  log : IsLogarithm (format_of g.S.Semantics) (quanta_of c.args.greatest) c.ilogb.result
  within : IsWithin (2 ^ 22) c.ilogb.result

exponent : (g : Over) → (c : After-ilogb g) → HasExponent g c
exponent g c =
    let f = format_of g.S.Semantics in
    let positive = positive_of f c.args.greatest c.requires.sign
    (sym (zero_test c.args.greatest c.requires.sign) ∙ sym c.is_zero.ensures ∙ c.if-is_zero.false) c.requires.member in
    let log = logarithm_of f c.args.greatest c.ilogb.result positive c.ilogb.ensures in
    record {
      log = log;
      within = logarithm_within f (quanta_of c.args.greatest) c.ilogb.result
          (ranges_of (constants_of g.S.Semantics) g.S.Semantics.lawful) positive.member.within log;
    }

pub overflow_sub-ilogb : goal.overflow_sub-ilogb
overflow_sub-ilogb g c =
    let within = (exponent g (goal.at.overflow_sub-ilogb g c).After-ilogb).within in
    let exact = to_z-of_z w32 c.ilogb.result (record { sfits = c.ilogb.type_inv }) in
    let most = to_z-of_z w32 c.max_exp.result (record { sfits = c.max_exp.type_inv }) in
    let element = c.max_exp.ensures in
    rw (exact, most)
    (exponent_fits (c.ilogb.result -ℤ c.max_exp.result)
    (record { low = omega (arith, ints, within, element); high = omega (arith, ints, within, element) }))

pub clamped_code-requires : goal.clamped_code-requires
clamped_code-requires g c =
    let within = (exponent g (goal.at.clamped_code-requires g c).After-ilogb).within in
    let exact = to_z-of_z w32 c.ilogb.result (record { sfits = c.ilogb.type_inv }) in
    let most = to_z-of_z w32 c.max_exp.result (record { sfits = c.max_exp.type_inv }) in
    let element = c.max_exp.ensures in
    record {
      low = omega (arith, ints, within, exact, most, element);
      high = omega (arith, ints, within, exact, most, element);
    }

pub returns-clause-value : goal.returns-clause-value
returns-clause-value g c =
    let at = exponent g (goal.at.returns-clause-value g c).After-ilogb in
    let first = c.ilogb.result in
    let within = at.within in
    let exact = to_z-of_z w32 first (record { sfits = c.ilogb.type_inv }) in
    let most = to_z-of_z w32 c.max_exp.result (record { sfits = c.max_exp.type_inv }) in
    let few = c.max_exp.ensures.few in
    let z = first -ℤ pos (max_exp c.args.element) in
    let whole = to_z-of_z w32 z
    (exponent_fits z (record { low = omega (arith, ints, within, few); high = omega (arith, ints, within, few) })) in
    match_false _ _ _
    (sym (zero_test c.args.greatest c.requires.sign) ∙ sym c.is_zero.ensures ∙ c.if-is_zero.false)
    (record {
      exponent = first;
      is_logarithm = at.log;
      code_is = rw (exact, most, c.max_exp.ensures.value, whole) at c.clamped_code.ensures;
    })
