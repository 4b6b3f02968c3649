use Rattle.std.proofs.Common.{ℕ, ◌*◌, ◌^◌, ap, max, refl, sym, subst, ◌∙◌, length, replicate}
use Rattle.apfloat_model.specs.order.Classes.{quanta_of}
use Rattle.apfloat_model.proofs.general.Choices.{match_false, match_true}
use Rattle.apfloat_ieee.specs.Types.{format_of}
use Rattle.small_formats.specs.blocks.{Magnitudes.greatest_magnitude, Nvfp4.IsNvScale, Nvfp4.scale_quanta}
use Rattle.small_formats.proofs.blocks_lemmas.{Counted.none_counted, Greatest.own_quanta, NvScales.divisor_some}
use Rattle.small_formats.proofs.blocks.nvfp4.quantize_some.Goals as goal

-- a block with an infinity or a NaN
pub returns-then-not-are_finite : goal.returns-then-not-are_finite
returns-then-not-are_finite g c =
    match_false _ _ _ (sym c.are_finite.ensures ∙ c.if-not-are_finite.true)
    (record {
      scale_is = refl;
      codes_are = c.write_zeros.ensures ∙ ap (λ (n : ℕ). replicate n 0) c.requires.lengths;
      counted = none_counted (length c.args.values.now);
      finite_is = refl;
    })

pub nvfp4_scale-scale-requires-clause-sign : goal.nvfp4_scale-scale-requires-clause-sign
nvfp4_scale-scale-requires-clause-sign g c =
    own_quanta c.greatest_of.result (greatest_magnitude c.args.values.now) c.greatest_of.ensures.value

-- a block of numbers: the elements by `write_quotients` for the product of both scales
pub returns : goal.returns
returns g c =
    let f = format_of g.S.Semantics in
    let code = c.nvfp4_scale-scale.result.0 in
    let t : ℕ = quanta_of c.args.tensor in
    match_true _ _ _ (sym c.are_finite.ensures ∙ c.if-not-are_finite.false)
    (record {
      scale_is = subst (λ (n : ℕ). IsNvScale f c.args.round t n code)
          (ap quanta_of c.greatest_of.ensures.value) c.nvfp4_scale-scale.ensures.code;
      elements = c.write_quotients-counts.ensures (max 1 (scale_quanta code) * t) (2 ^ 158)
          (divisor_some code t c.requires.tensor.some) c.nvfp4_scale-scale.ensures.divisor;
      finite_is = refl;
    })
