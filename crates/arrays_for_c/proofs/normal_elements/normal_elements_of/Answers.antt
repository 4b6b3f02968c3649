use Rattle.std.proofs.Common.{◌≡◌, ℕ, ◌+◌, ◌*◌, ◌^◌, ◌<◌, false, length, refl, sym, subst, ap, ◌∙◌, arith}
use Rattle.std.proofs.Math.Nat.{le_antisymm}
use Rattle.std.specs.Prelude.{slice_range}
use Rattle.rustc_apfloat.specs.FlaggedTypes.{constants_of}
use Rattle.apfloat_arrays.specs.Bytes.{number_of}
use Rattle.apfloat_arrays.proofs.Places.{place_size}
use Rattle.arrays_for_c.specs.ArrayCalls.{bytes_in}
use Rattle.arrays_for_c.proofs.ElementCalls.{elements_more, place_in, place_within, room_for}
use Rattle.arrays_for_c.proofs.NormalElements.{normal_element, normal_fits}
use Rattle.arrays_for_c.proofs.normal_elements.normal_elements_of.Goals as goal
use Rattle.arrays_for_c.proofs.normal_elements.normal_elements_of.Goals.{in-Some, in_default}

pub write_number-requires : goal.write_number-requires
write_number-requires g c =
    let by_width : length c.loop-index.output ≡ c.args.count * c.args.width =
    c.loop-index.auto.output ∙ c.requires.operands.output_is in
    let long = place_size c.args.width c.loop-index.index c.args.count c.loop-index.output c.loop-index-test.true
    by_width in
    subst (λ (w : ℕ). c.in-Some.normal.bits < 256 ^ w) (sym (long ∙ c.requires.operands.width_is))
    (normal_fits (constants_of g.S.Flagged) c.args.calls.map.kind c.in-Some.normal.bits _ c.requires.kind
    c.in-Some.ensures.is_answer.is_encoded)

pub number_at-z-requires-clause-within : goal.number_at-z-requires-clause-within
number_at-z-requires-clause-within g c =
    place_within c.loop-index.index c.args.count c.args.width _ c.requires.operands.zs_are c.loop-index-test.true

pub number_in-x-requires-clause-within : goal.number_in-x-requires-clause-within
number_in-x-requires-clause-within g c =
    place_in c.loop-index.index c.args.count c.args.width _ c.requires.operands.xs_are c.loop-index-test.true

pub number_in-y-requires-clause-within : goal.number_in-y-requires-clause-within
number_in-y-requires-clause-within g c =
    place_in c.loop-index.index c.args.count c.args.width _ c.requires.ys c.loop-index-test.true

pub slice_bounds-target-end : goal.slice_bounds-target-end
slice_bounds-target-end g c =
    place_in c.loop-index.index c.args.count c.args.width _ (c.loop-index.auto.output ∙ c.requires.operands.output_is)
    c.loop-index-test.true

pub count-requires : goal.count-requires
count-requires g c =
    let so_far = c.loop-index.invariant in
    room_for so_far.elements c.loop-index.counted so_far.counted_are
    (omega (arith, so_far.places.size, c.loop-index-test.true))

pub count-requires-in_default : goal.count-requires-in_default
count-requires-in_default g c =
    let so_far = c.loop-index.invariant in
    room_for so_far.elements c.loop-index.counted so_far.counted_are
    (omega (arith, so_far.places.size, c.loop-index-test.true))

pub returns : goal.returns
returns g c = rw (le_antisymm c.loop-index.auto.index-end c.loop-index-test.false) at c.loop-index.invariant

pub loop-index-preserved : goal.loop-index-preserved
loop-index-preserved g c =
    let map = c.args.calls.map in
    let by_width : length c.loop-index.output ≡ c.args.count * c.args.width =
    c.loop-index.auto.output ∙ c.requires.operands.output_is in
    let size : length c.loop-index.output ≡ c.args.count * bytes_in map.kind =
    by_width ∙ ap (λ (w : ℕ). c.args.count * w) c.requires.operands.width_is in
    let place = place_size c.args.width c.loop-index.index c.args.count c.loop-index.output c.loop-index-test.true
    by_width in
    elim c.match-normal_in.branch [
      | in-Some w ↦
          rw (w.output-is, w.counted-is, w.count.ensures)
          (elements_more map c.args.xs.now c.args.ys.now c.args.zs.now c.args.width c.loop-index.index c.args.count
          c.number_in-x.result c.number_in-y.result
          (number_of (slice_range c.args.zs.now (c.loop-index.index * c.args.width)
          (c.loop-index.index * c.args.width + c.args.width)))
          c.loop-index.output w.write_number.new.bytes c.loop-index.counted
          (record { status = w.bits.result; is_nan = false }) c.requires.operands.width_is c.loop-index-test.true size
          (w.write_number.auto.bytes ∙ place) c.number_in-x.ensures c.number_in-y.ensures refl
          (normal_element (constants_of g.S.Flagged) map _ c.number_in-x.result c.number_in-y.result _
          w.in-Some.normal w.write_number.new.bytes _ c.requires.kind c.requires.operation w.in-Some.ensures
          w.write_number.ensures (w.bits.ensures tt) refl)
          c.loop-index.invariant)
      | in_default w ↦
          rw (w.output-is, w.counted-is, w.count-in_default.ensures)
          (elements_more map c.args.xs.now c.args.ys.now c.args.zs.now c.args.width c.loop-index.index c.args.count
          c.number_in-x.result c.number_in-y.result w.number_at-z.result
          c.loop-index.output w.element_apart.new.bytes c.loop-index.counted w.element_apart.result
          c.requires.operands.width_is c.loop-index-test.true size (w.element_apart.auto.bytes ∙ place)
          c.number_in-x.ensures c.number_in-y.ensures
          w.number_at-z.ensures w.element_apart.ensures c.loop-index.invariant)
    ]
