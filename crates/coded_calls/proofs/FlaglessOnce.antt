-- A call that raises no flag leaves one code and one result.
use Rattle.std.proofs.Common.{Option, None, Some, sym, ◌∙◌, lit<}
use Rattle.std.specs.declared.cmp.Ordering.{Ordering}
use Rattle.rustc_apfloat.specs.{declared.Round.TheVariants.NearestTiesToEven, Determined.Determines, Meaning.Meaning}
use Rattle.apfloat_pair_theory.proofs.calls.PairsDetermined.{pairs_determined}
use Rattle.formats_at_run_time.specs.{BuiltIns.kind_of, Relations.in_format, Relations.in_pairs}
use Rattle.formats_at_run_time.specs.ValueKinds.{Kind, of_format, of_pairs}
use Rattle.coded_calls.specs.declared.flagless_call.FlaglessCall.{FlaglessCall}
use Rattle.coded_calls.specs.declared.flagless_call.FlaglessCall.TheVariants.{Negation, AbsoluteValue, SignCopy}
use Rattle.coded_calls.specs.declared.flagless_call.FlaglessCall.TheVariants.{LesserNumber, GreaterNumber, Minimum}
use Rattle.coded_calls.specs.declared.flagless_call.FlaglessCall.TheVariants.{Maximum, QuietNan, SignalingNan, SignTest}
use Rattle.coded_calls.specs.Answers.{whole}
use Rattle.coded_calls.specs.FlaglessCalls.{IsFlagless, IsFlaglessAnswer, IsFlaglessKindAnswer, kind_without_rule}
use Rattle.coded_calls.specs.OneReply.{IsFlaglessReplyOnce}
use Rattle.coded_calls.proofs.ExportsOnce.{KindHasLaw, OnceAnswer, built_in_kind_law, format_determined, given_once}
use Rattle.coded_calls.proofs.ExportsOnce.{unchanged}

-- no value of a type is written as two numbers
module _ {A : Type 0} (meaning : Meaning A) (order : A → A → Option Ordering)
    (bits : (value : A) → Determines (meaning.writes_bits value)) where
  -- a value leaves one result
  flagless_once : (value : A) → OnceAnswer (IsFlagless meaning value)
  flagless_once value a b x y =
      record {
        bits = bits value (whole a.bits) (whole b.bits) x.is_encoded y.is_encoded;
        status = x.status_is ∙ sym y.status_is;
        number = x.number_is ∙ sym y.number_is;
      }

  flagless_type_once : (call : FlaglessCall) → OnceAnswer (IsFlaglessAnswer meaning order call)
  flagless_type_once (Negation x) = flagless_once _
  flagless_type_once (AbsoluteValue x) = flagless_once _
  flagless_type_once (SignCopy x y) = flagless_once _
  flagless_type_once (LesserNumber x y) = flagless_once _
  flagless_type_once (GreaterNumber x y) = flagless_once _
  flagless_type_once (Minimum x y) = flagless_once _
  flagless_type_once (Maximum x y) = flagless_once _
  flagless_type_once (QuietNan negative payload) = flagless_once _
  flagless_type_once (SignalingNan negative payload) = flagless_once _
  flagless_type_once (SignTest x) = given_once _

flagless_kind_once : (kind : Kind) → KindHasLaw kind → (call : FlaglessCall)
    → OnceAnswer (IsFlaglessKindAnswer kind call)
flagless_kind_once (of_format c) has call =
    flagless_type_once (in_format c).meaning (in_format c).order
    (λ value. (format_determined c has NearestTiesToEven).bits has.wide value) call
flagless_kind_once of_pairs has call =
    flagless_type_once in_pairs.meaning in_pairs.order
    (λ value. (pairs_determined NearestTiesToEven).bits (lit< tt) value) call

-- two replies to the same arguments are the same
pub flagless_reply_once : IsFlaglessReplyOnce
flagless_reply_once None call old a b code other x y = (x.0 ∙ sym y.0, unchanged old a b x.1 y.1)
flagless_reply_once (Some kind) call old a b code other x y = (
  x.0 ∙ sym y.0,
  flagless_kind_once (kind_of (kind_without_rule kind)) (built_in_kind_law (kind_without_rule kind)) call a b x.1 y.1,
)
