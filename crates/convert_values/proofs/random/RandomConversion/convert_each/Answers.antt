use Rattle.std.proofs.Common.{arith, ◌≡◌, ℕ, ◌+◌, ◌*◌, ◌<◌, ◌≤◌, length, sym, ap, ◌∙◌, subst}
use Rattle.apfloat_arrays.specs.declared.Widths.{Widths}
use Rattle.apfloat_arrays.proofs.Places.{place_below, place_size}
use Rattle.convert_values.proofs.random.RandomConversion.convert_each.Goals as goal

within : (index count width size : ℕ) → index < count → size ≡ count * width → index * width + width ≤ size
within index count width size before all =
    subst (λ (n : ℕ). index * width + width ≤ n) (sym all) (place_below index count width before)

pub overflow_mul-from : goal.overflow_mul-from
overflow_mul-from c =
    let at = place_below c.loop-index.index c.args.count c.args.widths.source c.loop-index-test.true in
    record { fits = omega (arith, at, c.requires.input) }

pub overflow_add-source : goal.overflow_add-source
overflow_add-source c =
    let at = place_below c.loop-index.index c.args.count c.args.widths.source c.loop-index-test.true in
    record { fits = omega (arith, at, c.requires.input) }

pub slice_bounds-source-end : goal.slice_bounds-source-end
slice_bounds-source-end c = within _ c.args.count c.args.widths.source _ c.loop-index-test.true c.requires.input

pub overflow_mul-to : goal.overflow_mul-to
overflow_mul-to c =
    let at = place_below c.loop-index.index c.args.count c.args.widths.target c.loop-index-test.true in
    record { fits = omega (arith, at, c.loop-index.auto.output, c.requires.output) }

pub overflow_add-target : goal.overflow_add-target
overflow_add-target c =
    let at = place_below c.loop-index.index c.args.count c.args.widths.target c.loop-index-test.true in
    record { fits = omega (arith, at, c.loop-index.auto.output, c.requires.output) }

pub slice_bounds-target-end : goal.slice_bounds-target-end
slice_bounds-target-end c =
    within _ c.args.count c.args.widths.target _ c.loop-index-test.true
    (c.loop-index.auto.output ∙ c.requires.output)

pub convert_value-requires-clause-input : goal.convert_value-requires-clause-input
convert_value-requires-clause-input c =
    place_size c.args.widths.source c.loop-index.index c.args.count c.args.input.now c.loop-index-test.true
    c.requires.input
    ∙ ap (λ (w : Widths). w.source) c.requires.widths

pub convert_value-requires-clause-output : goal.convert_value-requires-clause-output
convert_value-requires-clause-output c =
    place_size c.args.widths.target c.loop-index.index c.args.count c.loop-index.output c.loop-index-test.true
    (c.loop-index.auto.output ∙ c.requires.output)
    ∙ ap (λ (w : Widths). w.target) c.requires.widths
