use Rattle.std.proofs.Common.{subst}
use Rattle.rustc_apfloat.specs.{Datum.Datum, Flags.bits_of, Types.format_of}
use Rattle.apfloat_arrays.specs.stored.Stored.{IsStoredBy}
use Rattle.apfloat_arrays.proofs.stored.numbers.StoreBitsInFormat.in_format.Goals as goal

pub returns : goal.returns
returns g c =
    let it = c.args.self in
    rw c.from.ensures
    (record {
      is_stored =
          subst
          (λ (x : Datum). IsStoredBy it.overflow it.target (format_of g.S.Semantics) it.round x
          c.store-answer.result.value (bits_of c.store-answer.result.status))
          c.from_bits-x.ensures.read c.store-answer.ensures.stored;
      fits = c.store-answer.ensures.below;
      nan_is = c.is_nan.ensures;
    })
