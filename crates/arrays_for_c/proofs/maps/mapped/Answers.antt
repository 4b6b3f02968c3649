use Rattle.std.proofs.Common.{ℕ, ◌*◌, ◌/◌, ◌≤◌, length, ap, sym, ◌∙◌, refl, rules}
use Rattle.std.proofs.lemmas.List.{length-take-le}
use Rattle.formats_at_run_time.specs.{FlaggedKinds.flagged_kind_coded, Modes.mode_coded}
use Rattle.arrays_for_c.specs.ArrayCalls.{bytes_in, operation_coded}
use Rattle.arrays_for_c.proofs.ArrayCalls.{first_whole, map_is_known, map_left, map_room, other_whole}
use Rattle.arrays_for_c.proofs.maps.mapped.Goals as goal

pub overflow_mul-front : goal.overflow_mul-front
overflow_mul-front c =
    let room = map_room c.args.format c.args.mode c.args.operation (length c.args.xs.now) (length c.args.ys.now)
    (length c.args.zs.now) (length c.args.results.now) c.in-Ok.map c.bytes_in-width.result
    c.bytes_in-width.ensures.is (sym c.known_map-known.ensures ∙ c.in-Ok.is) in
    let enough : length c.args.xs.now / c.bytes_in-width.result * c.bytes_in-width.result
    ≤ length c.args.results.now = room.enough in
    search rules

pub slice_bounds-front-end : goal.slice_bounds-front-end
slice_bounds-front-end c =
    (map_room c.args.format c.args.mode c.args.operation (length c.args.xs.now) (length c.args.ys.now)
    (length c.args.zs.now) (length c.args.results.now) c.in-Ok.map c.bytes_in-width.result
    c.bytes_in-width.ensures.is (sym c.known_map-known.ensures ∙ c.in-Ok.is)).enough

pub slice_bounds-front-end-in-Ok : goal.slice_bounds-front-end-in-Ok
slice_bounds-front-end-in-Ok c =
    let room = map_room c.args.format c.args.mode c.args.operation (length c.args.xs.now) (length c.args.ys.now)
    (length c.args.zs.now) (length c.args.results.now) c.in-Ok.map c.bytes_in-width.result
    c.bytes_in-width.ensures.is (sym c.known_map-known.ensures ∙ c.in-Ok.is) in
    sym (length-take-le _ c.args.results.now room.enough)

pub over_with-counted-requires : goal.over_with-counted-requires
over_with-counted-requires c =
    let room = map_room c.args.format c.args.mode c.args.operation (length c.args.xs.now) (length c.args.ys.now)
    (length c.args.zs.now) (length c.args.results.now) c.in-Ok.map c.bytes_in-width.result
    c.bytes_in-width.ensures.is (sym c.known_map-known.ensures ∙ c.in-Ok.is) in
    let known = map_is_known (flagged_kind_coded c.args.format) (mode_coded c.args.mode)
    (operation_coded c.args.operation) (length c.args.xs.now) (length c.args.ys.now)
    (length c.args.zs.now) (length c.args.results.now) c.in-Ok.map (sym c.known_map-known.ensures ∙ c.in-Ok.is) in
    let xs = first_whole (length c.args.xs.now) c.bytes_in-width.result (bytes_in c.in-Ok.map.kind)
    (length c.args.results.now) c.bytes_in-width.ensures.is room in
    record {
      has = known.has;
      operands = record {
        width_is = refl;
        xs_are = xs;
        ys_are = other_whole (length c.args.ys.now) (length c.args.xs.now) _ known.second_is xs;
        zs_are = other_whole (length c.args.zs.now) (length c.args.xs.now) _ known.third_is xs;
        output_is = length-take-le _ c.args.results.now room.enough
            ∙ ap (λ (w : ℕ). length c.args.xs.now / c.bytes_in-width.result * w) c.bytes_in-width.ensures.is;
      };
    }

pub returns-in-Ok-clause-written : goal.returns-in-Ok-clause-written
returns-in-Ok-clause-written c =
    let room = map_room c.args.format c.args.mode c.args.operation (length c.args.xs.now) (length c.args.ys.now)
    (length c.args.zs.now) (length c.args.results.now) c.in-Ok.map c.bytes_in-width.result
    c.bytes_in-width.ensures.is (sym c.known_map-known.ensures ∙ c.in-Ok.is) in
    map_left _ c.in-Ok.map c.bytes_in-width.result c.args.xs.now c.args.ys.now c.args.zs.now c.args.results.now
    c.over_with-counted.new.output c.over_with-counted.result c.args.answer.now c.of.result c.bytes_in-width.ensures.is
    (sym c.known_map-known.ensures ∙ c.in-Ok.is)
    (c.over_with-counted.auto.output ∙ length-take-le _ c.args.results.now room.enough)
    c.over_with-counted.ensures c.of.ensures
