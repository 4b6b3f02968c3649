use Rattle.std.proofs.Common.{ℕ, ◌^◌, ◌<◌, length, sym, subst}
use Rattle.std.specs.Prelude.{IfSome, Option}
use Rattle.small_formats.specs.Types.{constants_of as storage_constants_of}
use Rattle.apfloat_arrays.specs.scaled_blocks.Products.{IsCodedAs}
use Rattle.apfloat_arrays.proofs.LittleEndian.{fits}
use Rattle.apfloat_arrays.proofs.scaled_blocks.dequantizing.write_one.Goals as goal

pub write_number-requires : goal.write_number-requires
write_number-requires g c =
    let s = storage_constants_of g.F.StorageFormat in
    let coded : IsCodedAs c.args.format s c.in-Some.most =
    subst (λ (o : Option ℕ). IfSome o (IsCodedAs c.args.format s)) c.in-Some.is c.requires.coded in
    let exact = c.in-Some-product_bits.ensures c.args.format coded in
    fits c.from.result _ (length c.args.bytes.now)
    (subst (λ (n : ℕ). n < 2 ^ g.T.Flagged.BITS) (sym c.from.ensures) exact.is_encoded.below) c.requires.bytes
