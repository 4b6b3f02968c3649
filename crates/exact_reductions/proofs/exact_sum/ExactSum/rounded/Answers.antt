use Rattle.std.proofs.Common.{◌≡◌, Option, Some, None, refl, arith}
use Rattle.apfloat_model.specs.{formats.Datum.Datum, rounding.Flags.bits_of}
use Rattle.apfloat_model.proofs.formats.LawfulRanges.{ranges_of}
use Rattle.apfloat_ieee.specs.FlaggedTypes.{constants_of, format_of}
use Rattle.exact_reductions.proofs.BlockDots.{total_in_own}
use Rattle.exact_reductions.proofs.exact_sum.ExactSum.rounded.Goals as goal

none_of : (x : Option Datum) → ((d : Datum) → x ≡ Some d → ⊥) → x ≡ None
none_of None h = refl
none_of (Some d) h = absurd (h d refl)

pub returns-in-false-false : goal.returns-in-false-false
returns-in-false-false g c =
    let some = (ranges_of (constants_of g.S.Flagged) g.S.Flagged.lawful).precision_low in
    let a = c.self.inside in
    let none : a.first_nan ≡ None = none_of a.first_nan c.in_default.not-Some in
    rw (← c.self.view_is, none, c.in-false-false.is-0, c.in-false-false.is-1)
    (total_in_own (format_of g.S.Flagged) c.args.round _ _ c.deliver_sides.result.value
    (bits_of c.deliver_sides.result.status) (omega (arith, some)) c.deliver_sides.ensures)
