use Rattle.apfloat_model.proofs.bits.Encodings.{lawful_interchange}
use Rattle.apfloat_ieee.specs.FlaggedTypes.{constants_of}
use Rattle.apfloat_ieee.proofs.ieee_float.widths_of.Goals as goal

pub returns-clause-interchange : goal.returns-clause-interchange
returns-clause-interchange g c = lawful_interchange (constants_of g.S.Flagged) g.S.Flagged.lawful c.requires
