use Rattle.std.proofs.Common.{◌∙◌, ap, arith, subst, w32}
use Rattle.std.proofs.lemmas.Int.{to_z-of_z}
use Rattle.rustc_apfloat.specs.{Classes.is_nan, Datum.Datum, Flags.bits_of, FlaggedTypes.format_of}
use Rattle.rustc_apfloat.specs.{FlaggedTypes.layout_of, Layout.IsEncodedBy}
use Rattle.apfloat_model.proofs.order.PredicatesAgree.{nan_agrees}
use Rattle.apfloat_arrays.proofs.FarNumbers.{far_delivered}
use Rattle.apfloat_arrays.proofs.far_numbers.far_answer.Goals as goal

pub returns : goal.returns
returns g c = λ amount parts far.
    let exponent = to_z-of_z w32 c.far_exponent-exponent.result (record { sfits = c.far_exponent-exponent.type_inv }) in
    let known = rw exponent at c.deliver-delivered.ensures in
    let precise = g.T.Flagged.lawful.parameters.precision_low in
    record {
      rounded = c.deliver-delivered.result.value;
      is_delivered =
          far_delivered c.args.past (format_of g.T.Flagged) c.args.round c.args.negative _
          c.deliver-delivered.result.value (bits_of c.deliver-delivered.result.status) (omega (arith, precise))
          c.far_exponent-exponent.ensures.unit known amount parts far;
      is_encoded =
          subst (λ (x : Datum). IsEncodedBy (format_of g.T.Flagged) (layout_of g.T.Flagged) c.to_bits.result x)
          c.with_overflow-value.ensures c.to_bits.ensures.written;
      nan_is = c.is_nan.ensures ∙ nan_agrees c.with_overflow-value.result ∙ ap is_nan c.with_overflow-value.ensures;
    }
