use Rattle.rustc_apfloat.specs.FlaggedTypes.{constants_of}
use Rattle.apfloat_arrays.proofs.ShortSources.{short_within}
use Rattle.apfloat_arrays.proofs.short_sources.short_of.Goals as goal

pub returns-then-bits-unit-eq0-clause-within : goal.returns-then-bits-unit-eq0-clause-within
returns-then-bits-unit-eq0-clause-within g c =
    (short_within (constants_of g.S.Flagged) (constants_of g.Z.Flagged) c.args.bits c.PRECISION.result
    c.requires.short g.S.Flagged.lawful g.Z.Flagged.lawful c.requires.read c.requires.listed c.requires.bits
    c.requires.below c.PRECISION.ensures).whole

pub returns-else-bits-unit-eq0-clause-within : goal.returns-else-bits-unit-eq0-clause-within
returns-else-bits-unit-eq0-clause-within g c =
    (short_within (constants_of g.S.Flagged) (constants_of g.Z.Flagged) c.args.bits c.PRECISION.result
    c.requires.short g.S.Flagged.lawful g.Z.Flagged.lawful c.requires.read c.requires.listed c.requires.bits
    c.requires.below c.PRECISION.ensures).odd
