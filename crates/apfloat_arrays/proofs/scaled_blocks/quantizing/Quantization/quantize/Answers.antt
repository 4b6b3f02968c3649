use Rattle.std.proofs.Common.{ℕ, ◌*◌, length, refl, ap, sym, ◌∙◌, subst}
use Rattle.std.specs.Prelude.{Result, Ok, Err}
use Rattle.apfloat_arrays.specs.declared.scaled_blocks.errors.ArrayError.{ArrayError}
use Rattle.apfloat_arrays.specs.scaled_blocks.{Lengths.blocks_in, Quantized.IsQuantizedArray}
use Rattle.apfloat_arrays.proofs.scaled_blocks_lemmas.Fitting.{fitting}
use Rattle.apfloat_arrays.proofs.scaled_blocks.quantizing.Quantization.quantize.Goals as goal

pub quantize_each-requires-clause-values : goal.quantize_each-requires-clause-values
quantize_each-requires-clause-values c =
    let fits = fitting c.args.self.format c.args.self.length c.width-width.result (length c.args.values.now)
    (length c.args.scales.now) (length c.args.codes.now) c.in-Ok.blocks (sym c.in-Ok.ensures.count) in
    fits.values_are ∙ ap (λ (n : ℕ). n * c.width-width.result) fits.codes_are

pub quantize_each-requires-clause-scales : goal.quantize_each-requires-clause-scales
quantize_each-requires-clause-scales c =
    let fits = fitting c.args.self.format c.args.self.length c.width-width.result (length c.args.values.now)
    (length c.args.scales.now) (length c.args.codes.now) c.in-Ok.blocks (sym c.in-Ok.ensures.count) in
    fits.scales_are

pub quantize_each-requires-clause-codes : goal.quantize_each-requires-clause-codes
quantize_each-requires-clause-codes c =
    let fits = fitting c.args.self.format c.args.self.length c.width-width.result (length c.args.values.now)
    (length c.args.scales.now) (length c.args.codes.now) c.in-Ok.blocks (sym c.in-Ok.ensures.count) in
    fits.codes_are

pub returns-in-Err : goal.returns-in-Err
returns-in-Err c =
    let known = c.in-Err.ensures.count
    ∙ ap (λ (w : ℕ). blocks_in c.args.self.format c.args.self.length w (length c.args.values.now)
    (length c.args.scales.now) (length c.args.codes.now)) c.width-width.ensures.is in
    subst
    (λ (r : Result ℕ ArrayError). IsQuantizedArray c.args.self r c.args.values.now c.args.scales.now
    c.args.scales.now c.args.codes.now c.args.codes.now (Err c.in-Err.error)) known (refl, refl, refl)

pub returns-in-Ok : goal.returns-in-Ok
returns-in-Ok c =
    let known = c.in-Ok.ensures.count
    ∙ ap (λ (w : ℕ). blocks_in c.args.self.format c.args.self.length w (length c.args.values.now)
    (length c.args.scales.now) (length c.args.codes.now)) c.width-width.ensures.is in
    subst
    (λ (r : Result ℕ ArrayError). IsQuantizedArray c.args.self r c.args.values.now c.args.scales.now
    c.quantize_each.new.scales c.args.codes.now c.quantize_each.new.codes (Ok c.quantize_each.result))
    known c.quantize_each.ensures

pub quantize_each-requires-clause-format : goal.quantize_each-requires-clause-format
quantize_each-requires-clause-format c = c.in-Ok.ensures.scale _ refl
