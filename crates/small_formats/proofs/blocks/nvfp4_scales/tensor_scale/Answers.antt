use Rattle.std.proofs.Common.{ℕ, ap, refl, sym, subst, ◌∙◌}
use Rattle.apfloat_model.specs.order.Classes.{quanta_of}
use Rattle.apfloat_model.proofs.general.Choices.{match_false, match_true}
use Rattle.apfloat_ieee.specs.Types.{format_of}
use Rattle.small_formats.specs.blocks.{Magnitudes.greatest_magnitude, Nvfp4.IsTensorScale}
use Rattle.small_formats.proofs.blocks_lemmas.Greatest.{own_quanta}
use Rattle.small_formats.proofs.blocks.nvfp4_scales.tensor_scale.Goals as goal

pub returns-then-not-are_finite : goal.returns-then-not-are_finite
returns-then-not-are_finite g c = match_false _ _ _ (sym c.are_finite.ensures ∙ c.if-not-are_finite.true) refl

pub scale_of-requires : goal.scale_of-requires
scale_of-requires g c =
    own_quanta c.greatest_of.result (greatest_magnitude c.args.values.now) c.greatest_of.ensures.value

pub returns : goal.returns
returns g c =
    match_true _ _ _ (sym c.are_finite.ensures ∙ c.if-not-are_finite.false)
    (record {
      scale = c.scale_of.result;
      is = refl;
      is_scale = subst (λ (n : ℕ). IsTensorScale (format_of g.S.Semantics) n c.scale_of.result)
          (ap quanta_of c.greatest_of.ensures.value) c.scale_of.ensures;
    })
