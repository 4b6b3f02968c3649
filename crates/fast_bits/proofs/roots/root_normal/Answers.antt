use Rattle.std.proofs.Common.{subst, sym}
use Rattle.std.specs.Prelude.{IfSome}
use Rattle.apfloat_model.specs.{arithmetic.Roots.IsRoot, formats.Datum.Datum}
use Rattle.apfloat_ieee.specs.FlaggedTypes.{constants_of, format_of}
use Rattle.fast_bits.specs.Encoded.{IsEncodedAnswer}
use Rattle.fast_bits.proofs.RootAnswers.{root_if_some}
use Rattle.fast_bits.proofs.roots.root_normal.Goals as goal

pub returns-else-number : goal.returns-else-number
returns-else-number g c =
    let is = c.in-Some.ensures in
    subst
    (λ (x : Datum). IfSome c.root_of_number.result (IsEncodedAnswer (constants_of g.S.Flagged)
    (IsRoot (format_of g.S.Flagged) c.args.round x))) (sym is.read)
    (root_if_some (constants_of g.S.Flagged) c.args.round c.in-Some.number c.root_of_number.result is.is_full
    c.if-number.false c.root_of_number.ensures)
