use Rattle.std.proofs.Common.{ℕ, ◌*◌, ◌^◌, ap, sym, ◌∙◌}
use Rattle.std.proofs.lemmas.Nat.{pow_pos}
use Rattle.small_formats.proofs.blocks_lemmas.Powers.{scale_quanta}
use Rattle.apfloat_arrays.proofs.scaled_blocks.elements.write_in.Goals as goal

pub returns : goal.returns
returns g c =
    let scale = c.args.call.scale in
    c.write_codes.ensures (2 ^ scale) (2 ^ 127) (pow_pos scale)
    (sym (scale_quanta scale) ∙ ap (λ (n : ℕ). n * 2 ^ 127) (sym c.power_of.ensures.value))
