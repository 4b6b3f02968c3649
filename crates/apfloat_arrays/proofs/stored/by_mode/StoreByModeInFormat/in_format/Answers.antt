use Rattle.std.proofs.Common.{subst}
use Rattle.rustc_apfloat.specs.{Datum.Datum, Flags.bits_of, Types.format_of}
use Rattle.apfloat_arrays.specs.stored.ByMode.{IsOwnBy}
use Rattle.apfloat_arrays.proofs.stored.by_mode.StoreByModeInFormat.in_format.Goals as goal

pub returns : goal.returns
returns g c =
    let it = c.args.self in
    rw c.from.ensures
    (record {
      loses = c.from_value_by-answer.new.loses_info;
      is_own =
          subst
          (λ (x : Datum). IsOwnBy it.target (format_of g.S.Semantics) it.mode x c.from_value_by-answer.result.value
          (bits_of c.from_value_by-answer.result.status) c.from_value_by-answer.new.loses_info)
          c.from_bits-x.ensures.read c.from_value_by-answer.ensures.stored;
      fits = c.from_value_by-answer.ensures.below;
      nan_is = c.is_nan.ensures;
    })
