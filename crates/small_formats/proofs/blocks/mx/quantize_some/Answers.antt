use Rattle.std.proofs.Common.{◌≡◌, ℕ, ◌+◌, ◌*◌, ◌^◌, refl, ap, ◌∙◌, sym, subst, length}
use Rattle.std.proofs.{Common.replicate, lemmas.Nat.pow_pos}
use Rattle.apfloat_model.specs.order.Classes.{quanta_of}
use Rattle.apfloat_model.proofs.general.Choices.{match_false, match_true}
use Rattle.apfloat_ieee.specs.Types.{format_of}
use Rattle.small_formats.specs.blocks.{Magnitudes.greatest_magnitude, MxScales.IsScaleBy}
use Rattle.small_formats.proofs.blocks_lemmas.{Counted.none_counted, Greatest.own_quanta, Powers.scale_quanta}
use Rattle.small_formats.proofs.blocks.mx.quantize_some.Goals as goal

-- a block with an infinity or a NaN
pub returns-then-not-are_finite : goal.returns-then-not-are_finite
returns-then-not-are_finite g c =
    match_false _ _ _ (sym c.are_finite.ensures ∙ c.if-not-are_finite.true)
    (record {
      scale_is = refl;
      codes_are = c.write_zeros.ensures ∙ ap (λ (n : ℕ). replicate n 0) c.requires;
      counted = none_counted (length c.args.values.now);
      finite_is = refl;
    })

pub scale_by-scale-requires-clause-sign : goal.scale_by-scale-requires-clause-sign
scale_by-scale-requires-clause-sign g c =
    own_quanta c.greatest_of.result (greatest_magnitude c.args.values.now) c.greatest_of.ensures.value

-- a block of numbers: the scale by `scale_by`, the elements by `write_quotients` for 2 ^ scale / 2 ^ 127
pub returns : goal.returns
returns g c =
    let scale = c.scale_by-scale.result in
    let divided : 2 ^ scale * 2 ^ 133 ≡ 2 ^ (scale + 6) * 2 ^ 127 = sym (scale_quanta scale) in
    match_true _ _ _ (sym c.are_finite.ensures ∙ c.if-not-are_finite.false)
    (record {
      scale_is = subst (λ (n : ℕ). IsScaleBy c.args.rule c.args.element (format_of g.S.Semantics) n scale)
          (ap quanta_of c.greatest_of.ensures.value) c.scale_by-scale.ensures.value;
      elements = c.write_quotients-counts.ensures (2 ^ scale) (2 ^ 127) (pow_pos scale)
          (divided ∙ ap (λ (n : ℕ). n * 2 ^ 127) (sym c.power_of.ensures.value));
      finite_is = refl;
    })
