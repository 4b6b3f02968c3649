-- Square roots (IEEE 754-2019 5.4.1, 6.1, 6.3, 7.2).
use Rattle.std.specs.Prelude.{ℕ, ◌*◌, ◌^◌, false, eqb, if◌then◌else◌}
use Rattle.apfloat_model.specs.{declared.kinds.Round.Round, formats.Format.Format}
use Rattle.apfloat_model.specs.formats.Datum.{Datum, finite, infinite, nan}
use Rattle.apfloat_model.specs.rounding.Outcome.{Outcome, rooted, exactly, invalid, of_nan, Yields}
pub use Rattle.apfloat_model.specs.rounding.DeliveredRoots.{square_of, IsBelowRoot, IsAboveRoot, root_between}
pub use Rattle.apfloat_model.specs.rounding.DeliveredRoots.{IsRootPick, root_rounds_below_normal, is_tiny_root}
pub use Rattle.apfloat_model.specs.rounding.DeliveredRoots.{root_status, IsDeliveredRoot}

-- a zero is its own root, with its sign
abbrev pub root : Format → Datum → Outcome
root f (nan b s) = of_nan f b s
root f (infinite b) = if b then invalid f else exactly (infinite false)
root f (finite b n) =
    if eqb n 0 then exactly (finite b 0) else (if b then invalid f else rooted (n * 2 ^ f.scale) 1)

abbrev pub IsRoot : Format → Round → Datum → Datum → ℕ → Type 0
IsRoot f mode x value status = Yields f mode (root f x) value status
