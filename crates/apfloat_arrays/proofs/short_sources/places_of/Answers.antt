use Rattle.apfloat_arrays.proofs.ShortSources.{places_fit}
use Rattle.apfloat_arrays.proofs.short_sources.places_of.Goals as goal

pub returns-clause-most : goal.returns-clause-most
returns-clause-most g c = places_fit c.BITS.result g.Z.Flagged.BITS c.BITS.ensures c.requires
