use Rattle.std.proofs.Common.{◌≡◌, ℕ, ◌*◌, List, ◌++◌, length, drop, ◌∙◌, ap}
use Rattle.std.specs.Prelude.{replicate}
use Rattle.rustc_apfloat.specs.FlaggedTypes.{constants_of}
use Rattle.apfloat_arrays.specs.{Blocks.value_at, Bytes.number_of, Values.IsConvertedBy, Widths.bytes_of}
use Rattle.apfloat_arrays.proofs.FirstValues.{block_first, padded_first, padded_zero}
use Rattle.apfloat_arrays.proofs.{Joined.block_width, Rows.zeros_quiet}
use Rattle.apfloat_arrays.proofs.singles.convert_between.Goals as goal

pub returns : goal.returns
returns g c =
    let from = constants_of g.S.Flagged in
    let to = constants_of g.T.Flagged in
    let Holds = IsConvertedBy c.args.task.overflow from to c.args.task.round in
    let count = c.args.task.count in
    let target = c.bytes_of-width.result in
    let few = c.requires.few in
    let width : c.bytes_of-width.result ≡ bytes_of g.T.Flagged.BITS =
    c.bytes_of-width.ensures ∙ ap bytes_of c.BITS.ensures in
    let given = c.copy_from_slice.new.self in
    let filled : c.copy_from_slice.new.self ≡ c.args.task.input.now = c.copy_from_slice.ensures.after in
    let size : length c.copy_from_slice.new.self ≡ c.args.task.count * 4 =
    ap length filled ∙ c.requires.given.input in
    let zeros : c.args.singles.now ≡ replicate 256 0 = c.requires.zeros in
    let singles : List ℕ = given ++ drop (count * 4) c.args.singles.now in
    let made = c.convert_block-counts.new.output in
    block_width Holds 4 target (bytes_of g.T.Flagged.BITS) count c.args.task.input.now _ _ width
    (rw c.copy_from_slice-2.ensures.after
    (block_first Holds 4 target 64 count singles c.args.task.input.now made c.convert_block-counts.result few
    (λ k low. padded_first count k c.args.singles.now given size low ∙ ap (value_at 4 k) filled)
    (λ k after low bytes o it. zeros_quiet c.args.task.overflow from to c.args.task.round c.requires.given.single
    (value_at 4 k singles) bytes o
    (ap (λ (xs : List ℕ). number_of (value_at 4 k (given ++ drop (count * 4) xs))) zeros
    ∙ padded_zero count k given size after low) it)
    c.convert_block-counts.ensures))
