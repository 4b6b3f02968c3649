use Rattle.std.proofs.Common.{refl, inl, inr, ap, Option}
use Rattle.std.specs.Prelude.{is_some}
use Rattle.rustc_apfloat.specs.PairFormats.{wide}
use Rattle.apfloat_model.specs.{declared.parse_error.Fault.Fault, rounding.Flags.bits_of}
use Rattle.coded_calls.proofs.MeaningfulTexts.{read_ascii}
use Rattle.apfloat_c.proofs.decimals.read_pair.Goals as goal

pub returns-in-Ok : goal.returns-in-Ok
returns-in-Ok c =
    let read = c.in-Ok.read in
    let split = c.in-Ok.ensures in
    let ascii = read_ascii wide c.args.round c.args.text.now split.value (bits_of read.status) split.is_value in
    inl (refl, (ascii, record { given = read; holds = split; is_written = c.pair_in_bits.ensures }))

pub returns-in-Err : goal.returns-in-Err
returns-in-Err c = inr (refl, refl, λ ascii. ap (λ (fault : Option Fault). is_some fault) c.in-Err.ensures.is_first)
