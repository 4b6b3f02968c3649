use Rattle.std.proofs.Common.{◌*◌, ◌/◌, length, ap, sym, ◌∙◌, rules, ◌≤◌}
use Rattle.std.proofs.lemmas.List.{length-take-le}
use Rattle.apfloat_arrays.specs.declared.Widths.{Widths}
use Rattle.arrays_for_c.proofs.ArrayCalls.{conversion_left, conversion_room}
use Rattle.arrays_for_c.proofs.arrays.convert_array.Goals as goal

pub overflow_mul-front : goal.overflow_mul-front
overflow_mul-front c =
    let room = conversion_room c.args.format c.args.mode c.args.to (length c.args.values.now)
    (length c.args.results.now) c.in-Ok.conversion c.widths-widths.result c.widths-widths.ensures.is
    (sym c.known_array_conversion-known.ensures ∙ c.in-Ok.is) in
    let enough : length c.args.values.now / c.widths-widths.result.source * c.widths-widths.result.target
    ≤ length c.args.results.now = room.enough in
    search rules

pub slice_bounds-front-end : goal.slice_bounds-front-end
slice_bounds-front-end c =
    (conversion_room c.args.format c.args.mode c.args.to (length c.args.values.now)
    (length c.args.results.now) c.in-Ok.conversion c.widths-widths.result c.widths-widths.ensures.is
    (sym c.known_array_conversion-known.ensures ∙ c.in-Ok.is)).enough

pub slice_bounds-front-end-in-Ok : goal.slice_bounds-front-end-in-Ok
slice_bounds-front-end-in-Ok c =
    sym (length-take-le _ c.args.results.now
    (conversion_room c.args.format c.args.mode c.args.to (length c.args.values.now)
    (length c.args.results.now) c.in-Ok.conversion c.widths-widths.result c.widths-widths.ensures.is
    (sym c.known_array_conversion-known.ensures ∙ c.in-Ok.is)).enough)

pub convert_with-counts-requires : goal.convert_with-counts-requires
convert_with-counts-requires c =
    let room = conversion_room c.args.format c.args.mode c.args.to (length c.args.values.now)
    (length c.args.results.now) c.in-Ok.conversion c.widths-widths.result c.widths-widths.ensures.is
    (sym c.known_array_conversion-known.ensures ∙ c.in-Ok.is) in
    record {
      input = room.whole
          ∙ ap (λ (w : Widths). length c.args.values.now / c.widths-widths.result.source * w.source)
          c.widths-widths.ensures.is;
      output = length-take-le _ c.args.results.now room.enough
          ∙ ap (λ (w : Widths). length c.args.values.now / c.widths-widths.result.source * w.target)
          c.widths-widths.ensures.is;
    }

pub returns-in-Ok-clause-written : goal.returns-in-Ok-clause-written
returns-in-Ok-clause-written c =
    let room = conversion_room c.args.format c.args.mode c.args.to (length c.args.values.now)
    (length c.args.results.now) c.in-Ok.conversion c.widths-widths.result c.widths-widths.ensures.is
    (sym c.known_array_conversion-known.ensures ∙ c.in-Ok.is) in
    conversion_left _ c.in-Ok.conversion c.widths-widths.result c.args.values.now c.args.results.now
    c.convert_with-counts.new.output c.convert_with-counts.result c.args.answer.now c.of.result
    c.widths-widths.ensures.is (sym c.known_array_conversion-known.ensures ∙ c.in-Ok.is)
    (c.convert_with-counts.auto.output ∙ length-take-le _ c.args.results.now room.enough)
    c.convert_with-counts.ensures c.of.ensures
