-- Which kinds of values have products, and which have fused sums.
use Rattle.std.specs.Prelude.{Bool, false, true, nat_le}
use Rattle.rustc_apfloat.specs.{Products.product_limit, FusedSums.fused_limit}
use Rattle.formats_at_run_time.specs.ValueKinds.{Kind, of_format, of_pairs}

abbrev pub multiplies : Kind → Bool
multiplies (of_format c) = nat_le c.precision product_limit
multiplies of_pairs = true

abbrev pub fuses : Kind → Bool
fuses (of_format c) = nat_le c.precision fused_limit
fuses of_pairs = false
