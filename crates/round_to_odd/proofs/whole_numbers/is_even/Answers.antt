use Rattle.std.proofs.Common.{not, sym, ap, ◌∙◌}
use Rattle.apfloat_ieee.specs.FlaggedTypes.{constants_of, format_of}
use Rattle.apfloat_model.proofs.formats.LawfulRanges.{ranges_of}
use Rattle.round_to_odd.proofs.Wholes.{zero_even, half_is_integer}
use Rattle.round_to_odd.proofs.whole_numbers.is_even.Goals as goal

pub returns-in-Zero : goal.returns-in-Zero
returns-in-Zero g c = zero_even (format_of g.S.Flagged) c.args.x (sym c.category.ensures.category ∙ c.in-Zero.is)

pub returns-in-Normal : goal.returns-in-Normal
returns-in-Normal g c = λ sign t e. half_is_integer (format_of g.S.Flagged) c.args.x c.scalbn.result sign t
    (ranges_of (constants_of g.S.Flagged) g.S.Flagged.lawful) c.category.ensures.member c.scalbn.ensures e
    ∙ ap not (sym c.is_integer.ensures)
