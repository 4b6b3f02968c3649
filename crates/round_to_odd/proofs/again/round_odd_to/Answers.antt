use Rattle.std.proofs.Common.{ap, ◌∙◌}
use Rattle.apfloat_model.specs.rounding.Flags.{bits_of}
use Rattle.apfloat_ieee.specs.FlaggedTypes.{constants_of, format_of}
use Rattle.apfloat_model.proofs.formats.LawfulRanges.{ranges_of}
use Rattle.round_to_odd.proofs.RoundedOnce.{rounded_once}
use Rattle.round_to_odd.proofs.again.round_odd_to.Goals as goal

pub returns-clause-once : goal.returns-clause-once
returns-clause-once g c = λ room negative amount parts nonzero some odd.
    rounded_once (format_of g.S.Flagged) (format_of g.T.Flagged) c.args.round negative amount parts c.args.first
    c.and.result (ranges_of (constants_of g.T.Flagged) g.T.Flagged.lawful).precision_low room nonzero some odd
    (record {
      again = bits_of c.convert_r-again.result.status;
      loses_info = c.convert_r-again.new.loses_info;
      is_conversion = rw c.and.ensures.value c.convert_r-again.ensures.converted;
      status_is = ap bits_of c.and.ensures.status ∙ c.joined.ensures;
    })
