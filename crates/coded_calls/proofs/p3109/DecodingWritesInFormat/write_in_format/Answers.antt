use Rattle.std.proofs.Common.{◌∙◌}
use Rattle.std.specs.Int.{w32}
use Rattle.std.proofs.lemmas.Int.{to_z-of_z}
use Rattle.coded_calls.proofs.p3109.DecodingWritesInFormat.write_in_format.Goals as goal

pub returns : goal.returns
returns g c =
    let told = to_z-of_z w32 c.one_if.result (record { sfits = c.one_if.type_inv }) in
    record {
      given = c.convert_r-made.result;
      loses = c.convert_r-made.new.loses_info;
      holds = rw c.low_bits-code.ensures.code at c.convert_r-made.ensures;
      is_written = record {
        is_encoded = rw c.of.ensures.bits c.to_bits.ensures.written;
        status_is = c.of.ensures.status;
        number_is = c.of.ensures.number ∙ told ∙ c.one_if.ensures;
      };
    }
