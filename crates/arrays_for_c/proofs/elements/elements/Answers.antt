use Rattle.std.proofs.Common.{◌≡◌, ℕ, ◌*◌, length, ap, ◌∙◌, inr, arith}
use Rattle.std.proofs.Math.Nat.{le_antisymm}
use Rattle.apfloat_arrays.proofs.Places.{place_size}
use Rattle.arrays_for_c.specs.ArrayCalls.{bytes_in}
use Rattle.arrays_for_c.proofs.ElementCalls.{elements_more, place_in, place_within, room_for}
use Rattle.arrays_for_c.proofs.elements.elements.Goals as goal

pub number_at-x-requires-clause-within : goal.number_at-x-requires-clause-within
number_at-x-requires-clause-within g c =
    place_within c.loop-index.index c.args.count c.args.width _ (inr c.requires.operands.xs_are) c.loop-index-test.true

pub number_at-y-requires-clause-within : goal.number_at-y-requires-clause-within
number_at-y-requires-clause-within g c =
    place_within c.loop-index.index c.args.count c.args.width _ c.requires.operands.ys_are c.loop-index-test.true

pub number_at-z-requires-clause-within : goal.number_at-z-requires-clause-within
number_at-z-requires-clause-within g c =
    place_within c.loop-index.index c.args.count c.args.width _ c.requires.operands.zs_are c.loop-index-test.true

pub slice_bounds-target-end : goal.slice_bounds-target-end
slice_bounds-target-end g c =
    place_in c.loop-index.index c.args.count c.args.width _ (c.loop-index.auto.output ∙ c.requires.operands.output_is)
    c.loop-index-test.true

pub count-requires : goal.count-requires
count-requires g c =
    let so_far = c.loop-index.invariant in
    room_for so_far.elements c.loop-index.counted so_far.counted_are
    (omega (arith, so_far.places.size, c.loop-index-test.true))

pub returns : goal.returns
returns g c = rw (le_antisymm c.loop-index.auto.index-end c.loop-index-test.false) at c.loop-index.invariant

pub loop-index-preserved : goal.loop-index-preserved
loop-index-preserved g c =
    let by_width : length c.loop-index.output ≡ c.args.count * c.args.width =
    c.loop-index.auto.output ∙ c.requires.operands.output_is in
    let size : length c.loop-index.output ≡ c.args.count * bytes_in (g.C.ElementCalls.map c.args.calls).kind =
    by_width ∙ ap (λ (w : ℕ). c.args.count * w) c.requires.operands.width_is in
    let long : length c.element.new.bytes ≡ c.args.width =
    c.element.auto.bytes
    ∙ place_size c.args.width c.loop-index.index c.args.count c.loop-index.output c.loop-index-test.true by_width in
    rw c.count.ensures
    (elements_more (g.C.ElementCalls.map c.args.calls) c.args.xs.now c.args.ys.now c.args.zs.now c.args.width
    c.loop-index.index c.args.count c.number_at-x.result c.number_at-y.result c.number_at-z.result
    c.loop-index.output c.element.new.bytes c.loop-index.counted c.element.result c.requires.operands.width_is
    c.loop-index-test.true size long c.number_at-x.ensures c.number_at-y.ensures c.number_at-z.ensures
    c.element.ensures c.loop-index.invariant)
