-- Square roots in another format (IEEE 754-2019 5.4.1).
--
-- The root of a number of one format need not be the root of quanta of another, so it is that of an integer, divided by
-- parts.
use Rattle.std.specs.Prelude.{ℕ, ◌*◌, ◌^◌, false, eqb, if◌then◌else◌}
use Rattle.apfloat_model.specs.{declared.kinds.Round.Round, formats.Format.Format, formats.Datum.Datum}
use Rattle.apfloat_model.specs.{formats.Datum.finite, rounding.Outcome.Outcome, rounding.Outcome.rooted}
use Rattle.apfloat_model.specs.rounding.{Outcome.exactly, Outcome.invalid, Outcome.Yields, Rounding.zero_sign}
use Rattle.apfloat_arithmetic.specs.other_formats.Extended.{Extended, number, infinity, not_number, seen}
use Rattle.apfloat_arithmetic.specs.other_formats.FormatOf.{nan_to, infinity_to}

-- The root of a zero is that zero, with its sign if g has it. The root of amount * 2 ^ -places is that of
-- amount * 2 ^ places, divided by 2 ^ places.
abbrev pub root_of : Format → Extended → Outcome
root_of g (not_number s d) = nan_to s d
root_of g (infinity b) = if b then invalid g else infinity_to g false
root_of g (number b n s) =
    if eqb n 0 then exactly (finite (zero_sign g.nonfinite b) 0)
    else (if b then invalid g else rooted (n * 2 ^ s * (2 ^ g.scale * 2 ^ g.scale)) (2 ^ s))

abbrev pub IsRootOf : Format → Round → Extended → Datum → ℕ → Type 0
IsRootOf g mode x value status = Yields g mode (root_of g x) value status

-- the root of a datum of f, in g
abbrev pub IsRootTo : Format → Format → Round → Datum → Datum → ℕ → Type 0
IsRootTo f g mode x value status = IsRootOf g mode (seen f g x) value status
