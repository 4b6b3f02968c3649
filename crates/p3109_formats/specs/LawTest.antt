-- The law of a format of P3109 as a test that can be computed.
use Rattle.std.specs.Prelude.{◌≡◌, ℕ, ◌+◌, Bool, true, ◌&&◌, leb, if◌then◌else◌, Option, Some, None}
use Rattle.std.proofs.lemmas.Bool.{and_parts, leb-true}
use Rattle.p3109_formats.specs.declared.descriptor.Descriptor.{Descriptor}
use Rattle.p3109_formats.specs.Projections.{IsProjection, projection_with, sign_bits}

abbrev pub projection_test : Descriptor → Bool
projection_test c = leb 3 c.bits && (leb c.bits 15 && (leb 1 c.precision && leb (c.precision + sign_bits c) c.bits))

-- constants that pass the test are lawful
pub projection_from_test : (c : Descriptor) → projection_test c ≡ true → IsProjection c
projection_from_test c e =
    let a = and_parts _ _ e in
    let b = and_parts _ _ a.1 in
    let d = and_parts _ _ b.1 in
    record {
      bits_low = leb-true _ _ a.0;
      bits_high = leb-true _ _ b.0;
      precision_low = leb-true _ _ d.0;
      exponent = leb-true _ _ d.1;
    }

-- the constants, if a format has them
abbrev pub descriptor_with : ℕ → ℕ → Bool → Bool → Option Descriptor
descriptor_with bits precision signed extended =
    let made = projection_with bits precision signed extended in if projection_test made then Some made else None
