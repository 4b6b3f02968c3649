-- The constants of a type of formats of P3109.
use Rattle.p3109_formats.specs.declared.{descriptor.Descriptor.Descriptor, projection.Projection.Ghosts}
use Rattle.p3109_formats.specs.Projections.{projection_with}

abbrev pub projection_of : {X : Type 0} → Ghosts X → Descriptor
projection_of s = projection_with s.BITS s.PRECISION s.SIGNED s.EXTENDED
