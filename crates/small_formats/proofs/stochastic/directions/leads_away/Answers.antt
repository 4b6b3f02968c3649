use Rattle.std.proofs.Common.{ℕ, ◌+◌, ◌*◌, ◌/◌, ◌%◌, ◌^◌, Bool, ◌||◌, leb, sym, ap, ◌∙◌, w32}
use Rattle.std.proofs.lemmas.Int.{to_z-of_z}
use Rattle.apfloat_model.specs.rounding.Standing.{up, down}
use Rattle.apfloat_rounding.specs.Shapes.{format_at}
use Rattle.small_formats.proofs.stochastic_lemmas.RestDistances.{direction_is}
use Rattle.small_formats.proofs.stochastic.directions.leads_away.Goals as goal

pub returns-then-past : goal.returns-then-past
returns-then-past c = λ amount parts some h.
    let e = to_z-of_z w32 c.args.unit c.ranges.unit in
    let kept = c.cut-kept.result in
    let n : ℕ = 2 ^ c.args.bits.digits in
    let reached : Bool = leb n (n * (c.args.digits % 2 ^ kept.places) / 2 ^ kept.places + c.args.bits.random) in
    direction_is (format_at c.args.shape) c.args.bits.digits c.args.bits.random _ c.args.digits kept.places
    kept.significand kept.place amount parts (up c.args.unit) (down c.args.unit)
    c.is_past-past.result c.is_past-past.result some (rw e at c.cut-kept.ensures.places) c.cut-kept.ensures.quotient h
    ((rw e at c.cut-kept.ensures.cut) amount parts some h).0 c.is_past-past.ensures
    (c.if-past.true ∙ ap (λ (b : Bool). b || reached) (sym c.if-past.true))

pub returns-else-past : goal.returns-else-past
returns-else-past c = λ amount parts some h.
    let e = to_z-of_z w32 c.args.unit c.ranges.unit in
    let kept = c.cut-kept.result in
    let n : ℕ = 2 ^ c.args.bits.digits in
    let reached : Bool = leb n (n * (c.args.digits % 2 ^ kept.places) / 2 ^ kept.places + c.args.bits.random) in
    direction_is (format_at c.args.shape) c.args.bits.digits c.args.bits.random _ c.args.digits kept.places
    kept.significand kept.place amount parts (up c.args.unit) (down c.args.unit) c.is_past-past.result
    c.reaches_whole-reaches.result some (rw e at c.cut-kept.ensures.places) c.cut-kept.ensures.quotient h
    ((rw e at c.cut-kept.ensures.cut) amount parts some h).0 c.is_past-past.ensures
    (c.reaches_whole-reaches.ensures
    ∙ ap (λ (parts : ℕ). leb n (parts + c.args.bits.random)) c.parts_of_rest.ensures.value
    ∙ ap (λ (b : Bool). b || reached) (sym c.if-past.false))
