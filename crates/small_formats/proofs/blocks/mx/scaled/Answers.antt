use Rattle.std.proofs.Common.{ℕ, ◌*◌, ◌^◌, ap, ◌∙◌, sym}
use Rattle.std.proofs.lemmas.Bool.{eq-eqb, ne_eqb}
use Rattle.apfloat_model.specs.rounding.Flags.{bits_of}
use Rattle.apfloat_model.proofs.general.Choices.{match_false, match_true}
use Rattle.small_formats.proofs.blocks_lemmas.Powers.{scale_quanta}
use Rattle.small_formats.proofs.blocks.mx.scaled.Goals as goal

pub returns-then-scale-eq-NAN_SCALE : goal.returns-then-scale-eq-NAN_SCALE
returns-then-scale-eq-NAN_SCALE g c =
    match_true _ _ _ (eq-eqb c.args.scale 255 c.if-scale-eq-NAN_SCALE.true)
    (record { value_is = c.and.ensures.value ∙ c.qnan.ensures; status_is = ap bits_of c.and.ensures.status })

-- the product with 2 ^ scale / 2 ^ 127, which `scale_of` is
pub returns : goal.returns
returns g c =
    let off = ne_eqb c.args.scale 255 c.if-scale-eq-NAN_SCALE.false in
    match_false _ _ _ off
    (rw off (c.product_of.ensures (2 ^ c.args.scale) 127
    (sym (scale_quanta c.args.scale) ∙ ap (λ (n : ℕ). n * 2 ^ 127) (sym c.power_of.ensures.value))))
