use Rattle.std.proofs.Common.{sym}
use Rattle.rustc_apfloat.specs.{Flags.bits_of, FlaggedTypes.constants_of, FlaggedTypes.format_of}
use Rattle.ieee_operations.specs.WholeNumbers.{IsRoundedToIntegral}
use Rattle.ieee_operations.proofs.WithoutInexact.{integral_lowered}
use Rattle.formats_at_run_time.specs.ValueKinds.{value_of}
use Rattle.coded_calls.proofs.NumberAnswers.{value_of_encoded}
use Rattle.coded_calls.proofs.ieee_answers.integral.Goals as goal

pub returns-in-Some : goal.returns-in-Some
returns-in-Some g c =
    let f = format_of g.S.Flagged in
    let x = value_of (constants_of g.S.Flagged) c.args.x in
    let number = c.in-Some.number in
    let exact = c.in-Some.ensures in
    let value = value_of_encoded (constants_of g.S.Flagged) (IsRoundedToIntegral f c.args.round x)
    (record { bits = number.bits; status = c.lower_flags-status.result }) c.of.result
    (record {
      value = exact.value;
      says =
          rw c.lower_flags-status.ensures
          (integral_lowered f c.args.round x exact.value (bits_of number.status) exact.says);
      is_encoded = exact.is_encoded;
    }) c.of.ensures.bits c.of.ensures.status c.of.ensures.number in
    record { given = value.given; holds = value.holds; is_written = value.is_written }

pub returns : goal.returns
returns g c =
    rw (sym c.value-x.ensures)
    (record {
      given = c.round_to_integral_in.result;
      holds = c.round_to_integral_in.ensures;
      is_written = c.written.ensures;
    })
