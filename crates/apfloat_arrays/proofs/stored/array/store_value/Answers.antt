use Rattle.std.proofs.Common.{ap, ◌∙◌, subst}
use Rattle.rustc_apfloat.specs.{Datum.Datum, Flags.bits_of, Types.constants_of, Types.format_of}
use Rattle.formats_at_run_time.specs.ValueKinds.{value_of}
use Rattle.apfloat_arrays.specs.stored.Stored.{IsStoredBy}
use Rattle.apfloat_arrays.proofs.stored.array.store_value.Goals as goal

pub returns : goal.returns
returns g c =
    rw (c.write_number.ensures, c.from.ensures)
    (record {
      is_stored =
          subst
          (λ (x : Datum). IsStoredBy c.args.overflow c.args.target (format_of g.S.Semantics) c.args.round x
          c.store-answer.result.value (bits_of c.store-answer.result.status))
          (c.from_bits-x.ensures.read ∙ ap (value_of (constants_of g.S.Semantics)) c.number_of.ensures)
          c.store-answer.ensures.stored;
      fits = c.store-answer.ensures.below;
      nan_is = c.is_nan.ensures;
    })
