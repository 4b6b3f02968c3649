use Rattle.std.proofs.Common.{◌≡◌, ℕ, ◌+◌, ◌*◌, ◌%◌, ◌^◌, ◌<◌, length, false, ltb, ap, ◌∙◌, sym, subst, List, arith}
use Rattle.rustc_apfloat.specs.FlaggedTypes.{constants_of}
use Rattle.apfloat_arrays.specs.{Blocks.value_at, Bytes.number_of, Rows.IsRow, Rows.number_from, Values.IsConvertedBy}
use Rattle.apfloat_arrays.proofs.Places.{place_size}
use Rattle.apfloat_arrays.proofs.Rows.{done_there, next_number, next_there, row_given, row_set, zero_quiet, zero_there}
use Rattle.apfloat_arrays.proofs.specials.convert_group.Goals.{then-not-is_finite, else-not-is_finite}
use Rattle.apfloat_arrays.proofs.specials.convert_group.Goals as goal

pub loop-index-init : goal.loop-index-init
loop-index-init g c = c.requires.numbers

pub loop-index-preserved : goal.loop-index-preserved
loop-index-preserved g c =
    let task = c.args.task in
    let Holds = IsConvertedBy task.overflow (constants_of g.S.Flagged) (constants_of g.T.Flagged) task.round in
    let input = c.args.task.input.now in
    let index = c.loop-index.index in
    let next = c.loop-index-test.true in
    let within = c.requires.within in
    let before : c.loop-index.index < g.row.N = omega (arith, next, within) in
    let room : length c.loop-index.output ≡ g.row.N * c.args.width =
    c.loop-index.auto.output ∙ c.requires.given.output in
    let number : c.is_finite.result ≡ ltb (number_of (value_at 4 index input) % 2 ^ 31) (255 * 2 ^ 23) =
    c.is_finite.ensures ∙ ap (λ (n : ℕ). ltb (n % 2 ^ 31) (255 * 2 ^ 23)) c.word_of.ensures in
    elim c.if-not-is_finite.branch [
      | then-not-is_finite w ↦
          let special : ltb (number_of (value_at 4 index input) % 2 ^ 31) (255 * 2 ^ 23) ≡ false =
          sym number ∙ w.if-not-is_finite.true in
          rw (w.output-is, w.counts-is, w.raise.ensures)
          (row_set Holds (number_from index input) (number_from (index + 1) input) c.args.width index g.row.N
          c.loop-index.output w.convert_slowly.new.output c.loop-index.counts w.convert_slowly.result before
          (omega arith) room
          (w.convert_slowly.auto.output ∙ place_size c.args.width index g.row.N c.loop-index.output before room)
          (next_there index input)
          (subst (λ (bytes : List ℕ). Holds bytes w.convert_slowly.new.output w.convert_slowly.result)
          (sym (done_there (index + 1) input index (omega arith))) w.convert_slowly.ensures)
          (λ bytes o it. zero_quiet task.overflow (constants_of g.S.Flagged) (constants_of g.T.Flagged) task.round
          c.requires.given.single bytes o
          (subst (λ (given : List ℕ). Holds given bytes o) (zero_there index input special) it))
          c.loop-index.invariant)
      | else-not-is_finite w ↦ rw (w.output-is, w.counts-is)
          (row_given Holds (number_from index input) (number_from (index + 1) input) c.args.width g.row.N
          c.loop-index.output c.loop-index.counts
          (λ k low. next_number index input (sym number ∙ w.if-not-is_finite.false) k)
          c.loop-index.invariant)
    ]

pub returns : goal.returns
returns g c =
    let most = c.loop-index.auto.index-end in
    let all : c.loop-index.index ≡ c.args.first + 16 = omega (arith, c.loop-index-test.false, most) in
    subst
    (λ (n : ℕ).
    IsRow (IsConvertedBy c.args.task.overflow (constants_of g.S.Flagged) (constants_of g.T.Flagged) c.args.task.round)
    (number_from n c.args.task.input.now) c.args.width g.row.N c.loop-index.output c.loop-index.counts) all
    c.loop-index.invariant
