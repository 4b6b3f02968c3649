use Rattle.std.proofs.Common.{◌≡◌, ℕ, ◌*◌, length, ◌∙◌, sym, subst, arith}
use Rattle.apfloat_arrays.specs.{Bytes.number_of, Singles.counts_with, Singles.outcome_of, Rows.IsRow}
use Rattle.apfloat_arrays.specs.Values.{IsAnswerAt, IsConvertedBy}
use Rattle.apfloat_arrays.proofs.{LittleEndian.fits, Places.place_size, Rows.row_more, Rows.row_none}
use Rattle.apfloat_arrays.proofs.singles.convert_halves.Goals as goal

pub loop-index-init : goal.loop-index-init
loop-index-init g c = record {
  few_are = record {
    inexact = omega arith;
    underflow = omega arith;
    overflow = omega arith;
    invalid = omega arith;
    nans = omega arith;
  };
  row = λ overflow from to mode given is_single is_plan read.
      row_none (IsConvertedBy overflow from to mode) given c.args.width c.args.output.now;
}

pub write_number-requires : goal.write_number-requires
write_number-requires g c =
    let size : length c.loop-index.output ≡ g.row.N * c.args.width = c.loop-index.auto.output ∙ c.requires.output in
    let width = place_size c.args.width c.loop-index.index g.row.N c.loop-index.output c.loop-index-test.true size in
    rw (c.from.ensures, width)
    (fits c.convert-lane.result.bits (g.P.SinglesPlan.bits c.args.plan) c.args.width c.convert-lane.ensures.below
    c.requires.width)

pub loop-index-preserved : goal.loop-index-preserved
loop-index-preserved g c =
    let index = c.loop-index.index in
    let before = c.loop-index-test.true in
    let outcome = outcome_of c.convert-lane.result in
    let size : length c.loop-index.output ≡ g.row.N * c.args.width = c.loop-index.auto.output ∙ c.requires.output in
    let width : length c.write_number.new.bytes ≡ c.args.width =
    c.write_number.auto.bytes ∙ place_size c.args.width index g.row.N c.loop-index.output before size in
    record {
      few_are = c.counted-few.ensures.most index c.loop-index.invariant.few_are;
      row = λ overflow from to mode given is_single is_plan read.
          rw (c.counted-few.ensures.counts index)
          (row_more (IsConvertedBy overflow from to mode) given c.args.width index g.row.N c.loop-index.output
          c.write_number.new.bytes (counts_with c.loop-index.few index)
          (outcome_of c.convert-lane.result) before size width
          (subst (λ (n : ℕ). IsAnswerAt overflow from to mode (number_of (given index)) n outcome)
          (sym (c.write_number.ensures ∙ c.from.ensures))
          (c.convert-lane.ensures.converted overflow from to mode (number_of (given index)) is_single is_plan
          (read index before)))
          (c.loop-index.invariant.row overflow from to mode given is_single is_plan read));
    }

pub returns : goal.returns
returns g c = λ overflow from to mode given is_single is_plan read.
    let last : c.loop-index.index ≡ g.row.N = omega (arith, c.loop-index-test.false, c.loop-index.auto.index-end) in
    subst
    (λ (n : ℕ). IsRow (IsConvertedBy overflow from to mode) given c.args.width n c.loop-index.output
    (counts_with c.loop-index.few n)) last
    (c.loop-index.invariant.row overflow from to mode given is_single is_plan read)
