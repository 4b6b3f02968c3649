use Rattle.std.proofs.Common.{subst}
use Rattle.rustc_apfloat.specs.{FlaggedTypes.constants_of, Datum.Datum, Flags.bits_of, Lawful.format_with}
use Rattle.apfloat_model.specs.arithmetic.Conversions.{IsConversion}
use Rattle.formats_at_run_time.specs.ValueKinds.{value_of}
use Rattle.coded_calls.proofs.{MachineAnswers.finite_on_machine, UsualAnswers.fits_and_finite}
use Rattle.coded_calls.proofs.machine_operations.number_converted.Goals as goal

pub returns : goal.returns
returns g c = λ machine.
    let k = constants_of g.S.Flagged in
    let f = format_with k in
    let to = format_with (constants_of g.T.Flagged) in
    let plain = c.convert_r-plain.result in
    let loses = c.convert_r-plain.new.loses_info in
    record {
      given = plain;
      holds = finite_on_machine f to machine c.args.round (value_of k c.args.x) plain loses
          (fits_and_finite k c.args.x c.requires.number).1
          (subst (λ (x : Datum). IsConversion f to c.args.round x plain.value (bits_of plain.status) loses)
          c.value-x.ensures c.convert_r-plain.ensures.converted);
      is_written = c.written.ensures;
    }
