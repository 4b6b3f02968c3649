use Rattle.std.proofs.Common.{sym, ◌∙◌}
use Rattle.apfloat_ieee.specs.FlaggedTypes.{format_of}
use Rattle.ieee_operations.proofs.Truncated.{number_ordered}
use Rattle.ieee_operations.proofs.two_formats.number_against.Goals as goal

pub returns-in-Some : goal.returns-in-Some
returns-in-Some g c =
    rw (c.unless_cut.ensures, c.is_negative.ensures)
    (number_ordered (format_of g.S.Flagged) (format_of g.T.Flagged) c.args.x c.args.y _ _ c.requires
    (record { status = _; is_conversion = c.convert_r-truncated.ensures.converted })
    c.category.ensures.member c.in-Some.order (sym c.partial_cmp.ensures ∙ c.in-Some.is))
