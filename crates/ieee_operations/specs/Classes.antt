-- The ten classes of data (IEEE 754-2019 5.7.2, class).
use Rattle.std.specs.Prelude.{eqb, ltb, if◌then◌else◌}
use Rattle.apfloat_model.specs.formats.Format.{Format, smallest_normalized}
use Rattle.apfloat_model.specs.formats.{Datum.Datum, Datum.finite, Datum.infinite, Datum.nan, Nan.is_signaling}
use Rattle.ieee_operations.specs.declared.classes.Class.{Class}
use Rattle.ieee_operations.specs.declared.classes.Class.TheVariants.{SignalingNan, QuietNan, NegativeInfinity}
use Rattle.ieee_operations.specs.declared.classes.Class.TheVariants.{NegativeNormal, NegativeSubnormal, NegativeZero}
use Rattle.ieee_operations.specs.declared.classes.Class.TheVariants.{PositiveZero, PositiveSubnormal, PositiveNormal}
use Rattle.ieee_operations.specs.declared.classes.Class.TheVariants.{PositiveInfinity}

abbrev pub class_of : Format → Datum → Class
class_of f (nan b s) = if is_signaling f s then SignalingNan else QuietNan
class_of f (infinite b) = if b then NegativeInfinity else PositiveInfinity
class_of f (finite b n) =
    if eqb n 0 then (if b then NegativeZero else PositiveZero)
    else (if ltb n (smallest_normalized f) then (if b then NegativeSubnormal else PositiveSubnormal)
    else (if b then NegativeNormal else PositiveNormal))
