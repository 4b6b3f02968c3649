use Rattle.std.proofs.Common.{◌≡◌, ℕ, ◌*◌, ◌/◌, ◌≤◌, length, ◌∙◌, ap, sym, arith}
use Rattle.std.proofs.Math.Nat.{div-mul-le_self, mul-le-mul_right}
use Rattle.rustc_apfloat.specs.FlaggedTypes.{constants_of}
use Rattle.apfloat_arrays.specs.{Values.IsConvertedBy, Widths.bytes_of}
use Rattle.apfloat_arrays.proofs.Tasks.{singles_after, singles_joined, singles_width}
use Rattle.apfloat_arrays.proofs.single_blocks.convert_few.Goals as goal

pub convert_blocks-counts-requires-clause-given : goal.convert_blocks-counts-requires-clause-given
convert_blocks-counts-requires-clause-given g c =
    singles_width (constants_of g.S.Flagged) (constants_of g.T.Flagged) _ c.bytes_of-width.result _ _ _
    (sym (c.bytes_of-width.ensures ∙ ap bytes_of c.BITS.ensures)) c.requires.given

pub convert_last-requires-2-clause-given : goal.convert_last-requires-2-clause-given
convert_last-requires-2-clause-given g c =
    let task = c.args.task in
    singles_after (constants_of g.S.Flagged) (constants_of g.T.Flagged) _ c.bytes_of-width.result
    (task.count / 64 * 64) task.count task.input.now c.args.output.now c.convert_blocks-counts.new.output
    (c.bytes_of-width.ensures ∙ ap bytes_of c.BITS.ensures) (div-mul-le_self task.count 64)
    c.convert_blocks-counts.auto.output c.requires.given

pub returns-then-done-count : goal.returns-then-done-count
returns-then-done-count g c =
    let width : c.bytes_of-width.result ≡ bytes_of g.T.Flagged.BITS =
    c.bytes_of-width.ensures ∙ ap bytes_of c.BITS.ensures in
    rw (width, c.if-done-count.true) at c.convert_blocks-counts.ensures

pub slice_bounds-target-count : goal.slice_bounds-target-count
slice_bounds-target-count g c = mul-le-mul_right c.bytes_of-width.result (div-mul-le_self c.args.task.count 64)

pub slice_bounds-target-end : goal.slice_bounds-target-end
slice_bounds-target-end g c =
    let room : c.args.task.count * c.bytes_of-width.result ≤ length c.convert_blocks-counts.new.output =
    omega (
      arith,
      c.convert_blocks-counts.auto.output,
      c.requires.given.output,
      ap (λ (n : ℕ). c.args.task.count * n) (c.bytes_of-width.ensures ∙ ap bytes_of c.BITS.ensures),
    ) in
    room

pub returns : goal.returns
returns g c =
    let task = c.args.task in
    rw c.add.ensures
    (singles_joined (IsConvertedBy task.overflow (constants_of g.S.Flagged) (constants_of g.T.Flagged) task.round)
    (bytes_of g.T.Flagged.BITS) c.bytes_of-width.result (task.count / 64 * 64) task.count task.input.now
    c.convert_blocks-counts.new.output c.convert_last-2.new.output c.convert_blocks-counts.result
    c.convert_last-2.result (c.bytes_of-width.ensures ∙ ap bytes_of c.BITS.ensures) (div-mul-le_self task.count 64)
    (omega (arith, c.requires.given.input, c.ranges.task.0))
    (c.convert_blocks-counts.auto.output ∙ c.requires.given.output) c.convert_last-2.auto.output
    c.convert_last-2.ensures c.convert_blocks-counts.ensures)
