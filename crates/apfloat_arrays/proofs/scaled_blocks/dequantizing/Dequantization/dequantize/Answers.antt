use Rattle.std.proofs.Common.{ℕ, ◌*◌, length, refl, ap, sym, ◌∙◌, subst}
use Rattle.std.specs.Prelude.{Result, Ok, Err}
use Rattle.apfloat_arrays.specs.declared.scaled_blocks.errors.ArrayError.{ArrayError}
use Rattle.apfloat_arrays.specs.scaled_blocks.{Dequantized.IsDequantizedArray, Lengths.blocks_in}
use Rattle.apfloat_arrays.proofs.scaled_blocks_lemmas.Fitting.{fitting}
use Rattle.apfloat_arrays.proofs.scaled_blocks.dequantizing.Dequantization.dequantize.Goals as goal

pub dequantize_each-requires-clause-codes : goal.dequantize_each-requires-clause-codes
dequantize_each-requires-clause-codes c =
    let fits = fitting c.args.self.format c.args.self.length c.width-width.result (length c.args.values.now)
    (length c.args.scales.now) (length c.args.codes.now) _ (sym c.in-Ok.ensures.count) in
    fits.codes_are ∙ ap (λ (n : ℕ). n * c.args.self.length) (sym fits.scales_are)

pub dequantize_each-requires-clause-values : goal.dequantize_each-requires-clause-values
dequantize_each-requires-clause-values c =
    let fits = fitting c.args.self.format c.args.self.length c.width-width.result (length c.args.values.now)
    (length c.args.scales.now) (length c.args.codes.now) _ (sym c.in-Ok.ensures.count) in
    fits.values_are

pub dequantize_each-requires-clause-width : goal.dequantize_each-requires-clause-width
dequantize_each-requires-clause-width c = rw c.built_in.ensures at c.width-width.ensures.is

pub returns-in-Err : goal.returns-in-Err
returns-in-Err c =
    let width = rw c.built_in.ensures at c.width-width.ensures.is in
    let known = c.in-Err.ensures.count
    ∙ ap (λ (w : ℕ). blocks_in c.args.self.format c.args.self.length w (length c.args.values.now)
    (length c.args.scales.now) (length c.args.codes.now)) width in
    subst
    (λ (r : Result ℕ ArrayError). IsDequantizedArray c.args.self r c.args.scales.now c.args.codes.now
    c.args.values.now c.args.values.now (Err c.in-Err.error)) known (refl, refl)

pub returns-in-Ok : goal.returns-in-Ok
returns-in-Ok c =
    let width = rw c.built_in.ensures at c.width-width.ensures.is in
    let fits = fitting c.args.self.format c.args.self.length c.width-width.result (length c.args.values.now)
    (length c.args.scales.now) (length c.args.codes.now) _ (sym c.in-Ok.ensures.count) in
    let known = ap (λ (n : ℕ). Ok n) fits.scales_are ∙ c.in-Ok.ensures.count
    ∙ ap (λ (w : ℕ). blocks_in c.args.self.format c.args.self.length w (length c.args.values.now)
    (length c.args.scales.now) (length c.args.codes.now)) width in
    subst
    (λ (r : Result ℕ ArrayError). IsDequantizedArray c.args.self r c.args.scales.now c.args.codes.now
    c.args.values.now c.dequantize_each.new.values c.dequantize_each.result) known c.dequantize_each.ensures

pub dequantize_each-requires-clause-format : goal.dequantize_each-requires-clause-format
dequantize_each-requires-clause-format c = c.in-Ok.ensures.scale _ refl
