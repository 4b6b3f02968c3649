use Rattle.std.proofs.Common.{◌≤◌, arith, inr}
use Rattle.rustc_apfloat.specs.{FlaggedTypes.constants_of, Flags.bits_of}
use Rattle.arrays_for_c.proofs.{ElementCalls.place_within, ExactSums.added_more, ExactSums.added_none}
use Rattle.arrays_for_c.proofs.ExactSums.{all_added}
use Rattle.arrays_for_c.proofs.reductions.reduced_in.Goals as goal

pub loop-index-init : goal.loop-index-init
loop-index-init g c =
    let none = added_none (constants_of g.S.Flagged) c.args.reduction c.args.width c.args.xs.now c.args.ys.now
    c.args.count _ c.new-sum.ensures in
    record { terms = none.terms; total = none.total }

pub number_at-x-requires-clause-within : goal.number_at-x-requires-clause-within
number_at-x-requires-clause-within g c =
    place_within c.loop-index.index c.args.count c.args.width _ (inr c.requires.xs) c.loop-index-test.true

pub number_at-y-requires-clause-within : goal.number_at-y-requires-clause-within
number_at-y-requires-clause-within g c =
    place_within c.loop-index.index c.args.count c.args.width _ (inr c.requires.ys) c.loop-index-test.true

pub loop-index-preserved : goal.loop-index-preserved
loop-index-preserved g c =
    let more = added_more (constants_of g.S.Flagged) c.args.reduction c.args.width c.args.xs.now c.args.ys.now
    c.args.count c.loop-index.index _ _ _ _ c.loop-index-test.true c.number_at-x.ensures c.number_at-y.ensures
    c.add_term.ensures
    (record { terms = c.loop-index.invariant.terms; total = c.loop-index.invariant.total }) in
    record { terms = more.terms; total = more.total }

pub returns : goal.returns
returns g c =
    let past : c.args.count ≤ c.loop-index.index = omega (arith, c.loop-index-test.false) in
    record {
      given = c.rounded.result;
      holds = all_added (constants_of g.S.Flagged) c.args.reduction c.args.round c.args.width c.args.xs.now
          c.args.ys.now c.args.count c.loop-index.index c.loop-index.sum c.rounded.result.value
          (bits_of c.rounded.result.status) past
          (record { terms = c.loop-index.invariant.terms; total = c.loop-index.invariant.total }) c.rounded.ensures;
      is_written = c.in_bits.ensures;
    }
