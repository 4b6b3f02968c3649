-- Calls that convert one value into a format of IEEE P3109 or out of it.
use Rattle.std.specs.Prelude.{◌≡◌, ℕ, ◌/◌, ◌%◌, ◌^◌, ◌<◌, ◌==◌, Bool, true, false, ◌&&◌, nat_le, if◌then◌else◌}
use Rattle.std.specs.Prelude.{refl, Option, Some, None, ok_or, option_and_then, Result, Ok, Err}
use Rattle.std.proofs.{Math.Nat.mod-lt, lemmas.Bool.and_parts, lemmas.Bool.leb-true, lemmas.Nat.pow_pos}
use Rattle.rustc_apfloat.specs.{declared.Round.Round, Conversions.IsConversion, Datum.Datum, Format.Format}
use Rattle.rustc_apfloat.specs.Lawful.{Constants, format_with}
use Rattle.formats_at_run_time.specs.{BuiltIns.constants_in, FlaggedKinds.flagged_constants}
use Rattle.formats_at_run_time.specs.{FlaggedKinds.format_without_rule, ValueKinds.value_of, Modes.mode_coded}
use Rattle.formats_at_run_time.specs.declared.FlaggedKind.{FlaggedKind, TheVariants.OfFormat, TheVariants.Pairs}
use Rattle.small_formats.specs.declared.ConversionRound.TheVariants.{Ieee, Stochastic, ToOdd}
use Rattle.small_formats.specs.declared.RandomDigits.{RandomDigits}
use Rattle.p3109_formats.specs.{LawTest.descriptor_with, ModeConversions.IsIntoProjectionBy}
use Rattle.p3109_formats.specs.declared.{descriptor.Descriptor.Descriptor, rules.ProjectionRound.ProjectionRound}
use Rattle.p3109_formats.specs.declared.rules.ProjectionRound.TheVariants.{By, StochasticB, StochasticC}
use Rattle.p3109_formats.specs.declared.rules.{ProjectionRule.ProjectionRule, Saturation.Saturation}
use Rattle.p3109_formats.specs.declared.rules.Saturation.TheVariants.{Finite, Overflow, Propagate}
use Rattle.p3109_formats.specs.Projections.{IsProjection, projected_datum, projected_format}
use Rattle.coded_calls.specs.declared.{data.Answer.Answer, p3109.P3109Call.P3109Call, p3109.P3109Call.TheVariants.Into}
use Rattle.coded_calls.specs.declared.p3109.{P3109Call.TheVariants.OutOf, P3109Format.P3109Format}
use Rattle.coded_calls.specs.Answers.{IsAnswerConverted, one_if, whole}
use Rattle.coded_calls.specs.KnownCalls.{◌>>=◌, answered, no_such_operation, unknown_format, unknown_mode}
use Rattle.coded_calls.specs.KnownCalls.{wrong_width}

-- ---- what is asked for

abbrev pub flag_coded : ℕ → Option Bool
flag_coded code = if code == 0 then Some false else if code == 1 then Some true else None

abbrev pub descriptor_coded : P3109Format → Option Descriptor
descriptor_coded format =
    option_and_then
    (λ signed. option_and_then (λ extended. descriptor_with format.bits format.precision signed extended)
    (flag_coded format.is_extended))
    (flag_coded format.is_signed)

-- after the codes of the modes of IEEE 754 that of rounding to odd
abbrev pub round_coded : ℕ → Result ProjectionRound ℕ
round_coded mode =
    if mode == 5 then Ok (By ToOdd) else ok_or (mode_coded mode) unknown_mode >>= λ round. Ok (By (Ieee round))

abbrev pub digits_fit : ℕ → Bool
digits_fit digits = nat_le 1 digits && nat_le digits 32

-- the lowest digits of a random number, 1 to 32 of them
abbrev pub digits_if : (digits random : ℕ) (fit : Bool) → digits_fit digits ≡ fit → Result RandomDigits ℕ
digits_if digits random true fit =
    let both = and_parts (nat_le 1 digits) _ fit in
    Ok (record {
      digits = digits;
      random = random % 2 ^ digits;
      are_random =
          record { some = leb-true _ _ both.0; few = leb-true _ _ both.1; fits = mod-lt random (pow_pos digits) };
    })
digits_if digits random false fit = Err wrong_width

abbrev pub lowest_digits : ℕ → ℕ → Result RandomDigits ℕ
lowest_digits digits random = digits_if digits random _ refl

-- after it those of the three ways to round with random digits
abbrev pub round_with_digits : ℕ → Result RandomDigits ℕ → Result ProjectionRound ℕ
round_with_digits mode digits =
    if mode == 6 then (digits >>= λ bits. Ok (By (Stochastic bits)))
    else if mode == 7 then (digits >>= λ bits. Ok (StochasticB bits))
    else if mode == 8 then (digits >>= λ bits. Ok (StochasticC bits))
    else round_coded mode

abbrev pub saturation_coded : ℕ → Option Saturation
saturation_coded code =
    if code == 0 then Some Overflow else if code == 1 then Some Propagate else if code == 3 then Some Finite else None

-- the code of a saturation may be joined to that of a mode
abbrev pub rule_with : Option Saturation → Result ProjectionRound ℕ → Result ProjectionRule ℕ
rule_with saturation round =
    ok_or saturation unknown_mode >>= λ past. round >>= λ way. Ok (record { round = way; saturation = past })

abbrev pub rule_coded : ℕ → Result ProjectionRule ℕ
rule_coded mode = rule_with (saturation_coded (mode / 256)) (round_coded (mode % 256))

abbrev pub rule_with_digits : ℕ → ℕ → ℕ → Result ProjectionRule ℕ
rule_with_digits mode digits random =
    rule_with (saturation_coded (mode / 256)) (round_with_digits (mode % 256) (lowest_digits digits random))

-- there are no conversions of pairs of doubles
abbrev pub into_by : FlaggedKind → ProjectionRule → Descriptor → ℕ → Result P3109Call ℕ
into_by (OfFormat source) rule target bits = Ok (Into (format_without_rule source) rule target bits)
into_by Pairs rule target bits = Err no_such_operation

abbrev pub out_of_by : Descriptor → Round → FlaggedKind → ℕ → Result P3109Call ℕ
out_of_by source mode (OfFormat target) code = Ok (OutOf source mode target code)
out_of_by source mode Pairs code = Err no_such_operation

-- The faults in their order: the format, the mode and its digits, the format converted to, that there is no conversion.
abbrev pub known_into : Option FlaggedKind → Result ProjectionRule ℕ → Option Descriptor → ℕ
    → Result P3109Call ℕ
known_into source rule target bits =
    ok_or source unknown_format >>= λ from. rule >>= λ rounding.
    ok_or target unknown_format >>= λ to. into_by from rounding to bits

abbrev pub known_out_of : Option Descriptor → Option Round → Option FlaggedKind → ℕ → Result P3109Call ℕ
known_out_of source mode target code =
    ok_or source unknown_format >>= λ from. ok_or mode unknown_mode >>= λ rounding.
    ok_or target unknown_format >>= λ to. out_of_by from rounding to code

abbrev pub IsLawful : P3109Call → Type 0
IsLawful (Into source rule target bits) = IsProjection target
IsLawful (OutOf source mode target code) = IsProjection source

-- ---- what a call leaves

-- the code, its flags, and whether information was lost
pub record IsProjectedAnswer (c : Descriptor) (f : Format) (rule : ProjectionRule) (x : Datum) (answer : Answer)
    : Type 0 where
  pub code : ℕ
  pub status : ℕ
  pub loses : Bool
  pub lawful : IsProjection c
  pub is_into : IsIntoProjectionBy c f rule x code status loses
  pub below : code < 2 ^ c.bits
  pub bits_are : whole answer.bits ≡ code
  pub status_is : answer.status ≡ status
  pub number_is : answer.number ≡ one_if loses

-- the value of the code that the lowest bits are, its flags, and whether information was lost
abbrev pub IsDecodedAnswer : Descriptor → Constants → Round → ℕ → Answer → Type 0
IsDecodedAnswer c d mode code answer =
    IsAnswerConverted d (IsConversion (projected_format c) (format_with d) mode (projected_datum c (code % 2 ^ c.bits)))
    answer

abbrev pub IsP3109Answer : P3109Call → Answer → Type 0
IsP3109Answer (Into source rule target bits) answer =
    IsProjectedAnswer target (format_with (constants_in source)) rule (value_of (constants_in source) bits) answer
IsP3109Answer (OutOf source mode target code) answer =
    IsDecodedAnswer source (flagged_constants target) mode code answer

-- the code 0 and the conversion, or the code of the error and the previous answer
abbrev pub IsP3109Reply : Result P3109Call ℕ → Answer → Answer → ℕ → Type 0
IsP3109Reply (Ok call) before after code = (code ≡ answered) × IsP3109Answer call after
IsP3109Reply (Err error) before after code = (code ≡ error) × (after ≡ before)
