use Rattle.std.proofs.Common.{◌≡◌, ℕ, ◌+◌, ◌*◌, ◌%◌, ◌^◌, ◌<◌, subst, List, arith}
use Rattle.rustc_apfloat.specs.FlaggedTypes.{constants_of}
use Rattle.apfloat_arrays.specs.{Bytes.number_of, Rows.IsRow, Rows.number_from, Values.IsConvertedBy}
use Rattle.apfloat_arrays.proofs.{Joined.in_range, Rows.done_there, Rows.numbers_there, Rows.row_block, Rows.row_given}
use Rattle.apfloat_arrays.proofs.specials.convert_specials.Goals.{then-not-are_numbers, else-not-are_numbers}
use Rattle.apfloat_arrays.proofs.specials.convert_specials.Goals as goal

pub loop-group-init : goal.loop-group-init
loop-group-init g c = c.requires.numbers

pub convert_group-counts-requires-clause-numbers : goal.convert_group-counts-requires-clause-numbers
convert_group-counts-requires-clause-numbers g c = c.loop-group.invariant

pub loop-group-preserved : goal.loop-group-preserved
loop-group-preserved g c =
    let task = c.args.task in
    let Holds = IsConvertedBy task.overflow (constants_of g.S.Flagged) (constants_of g.T.Flagged) task.round in
    let input = c.args.task.input.now in
    let done = c.loop-group.group * 16 in
    let next : done + 16 ≡ (c.loop-group.group + 1) * 16 = omega arith in
    elim c.if-not-are_numbers.branch [
      | then-not-are_numbers w ↦ subst
          (λ (n : ℕ). IsRow Holds (number_from n input) c.args.width g.row.N c.if-not-are_numbers.output
          c.if-not-are_numbers.counts) next (rw (w.output-is, w.counts-is) w.convert_group-counts.ensures)
      | else-not-are_numbers w ↦
          let numbers = c.are_numbers.ensures w.if-not-are_numbers.false in
          subst
          (λ (n : ℕ). IsRow Holds (number_from n input) c.args.width g.row.N c.if-not-are_numbers.output
          c.if-not-are_numbers.counts) next
          (rw (w.output-is, w.counts-is)
          (row_given Holds (number_from done input) (number_from (done + 16) input) c.args.width g.row.N
          c.loop-group.output c.loop-group.counts
          (λ k low. numbers_there done 16 input
          (λ j within. subst (λ (bytes : List ℕ). number_of bytes % 2 ^ 31 < 255 * 2 ^ 23)
          (in_range 4 done 16 j input within) (numbers j within)) k)
          c.loop-group.invariant))
    ]

pub returns : goal.returns
returns g c =
    let past = c.loop-group-test.false in
    let done = c.loop-group.group * 16 in
    let task = c.args.task in
    row_block (IsConvertedBy task.overflow (constants_of g.S.Flagged) (constants_of g.T.Flagged) task.round)
    (number_from done task.input.now) 4 c.args.width g.row.N task.input.now c.loop-group.output c.loop-group.counts
    (λ k before. done_there done c.args.task.input.now k (omega (arith, before, past))) c.loop-group.invariant
