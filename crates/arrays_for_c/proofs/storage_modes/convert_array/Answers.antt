use Rattle.std.proofs.Common.{ℕ, ◌*◌, ◌/◌, length, sym, ap, subst, ◌∙◌, mul-one, Result}
use Rattle.std.specs.Prelude.{IfOk}
use Rattle.std.proofs.lemmas.List.{length-take-le}
use Rattle.apfloat_arrays.specs.declared.stored.ModeConversion.{ModeConversion}
use Rattle.apfloat_arrays.specs.stored.ByMode.{HasDigits, HasRandoms, mode_width}
use Rattle.arrays_for_c.proofs.StorageModes.{array_is_known, enough_room, mode_left}
use Rattle.arrays_for_c.proofs.storage_modes.convert_array.Goals as goal

pub slice_bounds-front-end : goal.slice_bounds-front-end
slice_bounds-front-end c =
    enough_room c.args.asked c.width-width.result (length c.args.randoms.now) (length c.args.values.now)
    (length c.args.results.now) c.in-Ok.conversion (sym c.known_mode_array-known.ensures ∙ c.in-Ok.is)
    c.width-width.ensures.is

pub slice_bounds-front-end-in-Ok : goal.slice_bounds-front-end-in-Ok
slice_bounds-front-end-in-Ok c =
    sym (length-take-le _ c.args.results.now
    (enough_room c.args.asked c.width-width.result (length c.args.randoms.now) (length c.args.values.now)
    (length c.args.results.now) c.in-Ok.conversion (sym c.known_mode_array-known.ensures ∙ c.in-Ok.is)
    c.width-width.ensures.is))

pub convert-counts-requires : goal.convert-counts-requires
convert-counts-requires c =
    let it = c.in-Ok.conversion in
    let given = length c.args.values.now in
    let known = array_is_known c.args.asked (length c.args.randoms.now) given (length c.args.results.now) it
    (sym c.known_mode_array-known.ensures ∙ c.in-Ok.is) in
    let width_is = c.width-width.ensures.is in
    record {
      digits = subst (λ (r : Result ModeConversion ℕ). IfOk r (λ (i : ModeConversion). HasDigits i.round))
          known.asked_is c.requires;
      randoms = subst (λ (w : ℕ). HasRandoms it.round (given / w) (length c.args.randoms.now)) (sym width_is)
          known.randoms_are;
      input = known.whole ∙ ap (λ (w : ℕ). given / w * mode_width it) (sym width_is);
      output =
          length-take-le _ c.args.results.now
          (enough_room c.args.asked c.width-width.result (length c.args.randoms.now) given
          (length c.args.results.now) it (sym c.known_mode_array-known.ensures ∙ c.in-Ok.is) width_is)
          ∙ sym (mul-one _);
    }

pub returns-in-Ok : goal.returns-in-Ok
returns-in-Ok c =
    mode_left _ c.in-Ok.conversion c.width-width.result c.args.randoms.now c.args.values.now c.args.results.now
    c.convert-counts.new.output c.convert-counts.result c.args.answer.now c.of.result c.width-width.ensures.is
    (sym c.known_mode_array-known.ensures ∙ c.in-Ok.is)
    (c.convert-counts.auto.output ∙ length-take-le _ c.args.results.now
    (enough_room c.args.asked c.width-width.result (length c.args.randoms.now) (length c.args.values.now)
    (length c.args.results.now) c.in-Ok.conversion (sym c.known_mode_array-known.ensures ∙ c.in-Ok.is)
    c.width-width.ensures.is))
    c.convert-counts.ensures c.of.ensures
