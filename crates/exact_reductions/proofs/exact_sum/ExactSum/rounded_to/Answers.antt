use Rattle.std.proofs.Common.{◌≡◌, false, Option, Some, None, is_some, refl, sym, ◌∙◌}
use Rattle.apfloat_model.specs.formats.{Datum.Datum}
use Rattle.exact_reductions.proofs.exact_sum.ExactSum.rounded_to.Goals as goal

none_of : (x : Option Datum) → is_some x ≡ false → x ≡ None
none_of None e = refl
none_of (Some d) e = absurd cc

pub returns-in-false-false : goal.returns-in-false-false
returns-in-false-false g c =
    let none : c.self.inside.first_nan ≡ None =
    none_of c.self.inside.first_nan (sym c.is_some.ensures ∙ c.if-is_some.false) in
    rw (← c.self.view_is, none, c.in-false-false.is-0, c.in-false-false.is-1) c.deliver_sides.ensures
