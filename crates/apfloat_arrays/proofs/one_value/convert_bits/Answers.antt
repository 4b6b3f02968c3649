use Rattle.std.proofs.Common.{List, Option, subst}
use Rattle.std.specs.Prelude.{IfSome}
use Rattle.rustc_apfloat.specs.FlaggedTypes.{constants_of}
use Rattle.apfloat_arrays.specs.{declared.converted.Converted.Converted, FarNumbers.AreFarAnswers}
use Rattle.apfloat_arrays.proofs.{FarNumbers.answered_far, NormalNumbers.number_answered}
use Rattle.apfloat_arrays.proofs.one_value.convert_bits.Goals as goal

pub returns-in-Some-far_place : goal.returns-in-Some-far_place
returns-in-Some-far_place g c =
    answered_far c.args.overflow (constants_of g.S.Flagged) (constants_of g.T.Flagged) c.args.round c.args.bits
    c.in-Some-far_place.place c.in-Some-far.answers _
    (subst
    (λ (o : Option (List Converted)). IfSome o (AreFarAnswers c.args.overflow (constants_of g.T.Flagged) c.args.round))
    c.in-Some-far.is c.requires.far) c.in-Some-far_place.ensures.place

pub returns-in-Some : goal.returns-in-Some
returns-in-Some g c =
    number_answered c.args.overflow (constants_of g.S.Flagged) (constants_of g.T.Flagged) c.args.round c.args.bits
    c.in-Some.number c.converted_number.result c.in-Some.ensures
    c.converted_number.ensures.bits c.converted_number.ensures.status c.converted_number.ensures.no_nan
