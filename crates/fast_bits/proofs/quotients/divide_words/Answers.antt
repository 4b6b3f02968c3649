use Rattle.std.proofs.Common.{sym}
use Rattle.std.proofs.Math.Path.{subst₂}
use Rattle.std.specs.Prelude.{IfSome}
use Rattle.apfloat_ieee.specs.FlaggedTypes.{constants_of, format_of}
use Rattle.apfloat_model.specs.arithmetic.Quotients.{IsQuotient}
use Rattle.fast_bits.specs.{Encoded.IsNumberAnswer}
use Rattle.fast_bits.proofs.{OddNumbers.quotient_if_some}
use Rattle.fast_bits.proofs.quotients.divide_words.Goals as goal

pub returns-in-Some : goal.returns-in-Some
returns-in-Some g c =
    let both = c.in-Some.ensures in
    let left = c.in-Some.operands.left in
    let right = c.in-Some.operands.right in
    subst₂
    (λ x y. IfSome c.divide_numbers.result (IsNumberAnswer (constants_of g.S.Flagged)
    (IsQuotient (format_of g.S.Flagged) c.args.round x y))) (sym both.0.read) (sym both.1.read)
    (quotient_if_some (constants_of g.S.Flagged) c.args.round left right c.divide_numbers.result both.1.is_full
    c.divide_numbers.ensures)
