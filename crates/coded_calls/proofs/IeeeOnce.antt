-- An operation of IEEE 754-2019 leaves one code and one result.
use Rattle.std.proofs.Common.{ℕ, Bool, true, false, Some, None, sym, ap, ◌∙◌}
use Rattle.rustc_apfloat.specs.{declared.Round.Round, declared.StatusAnd.StatusAnd, Datum.Datum, Determined.Determines}
use Rattle.rustc_apfloat.specs.{Flags.Gives, Flags.bits_of, Format.Format, Lawful.Constants, Lawful.format_with}
use Rattle.apfloat_model.specs.Determined.{DeterminesBoth}
use Rattle.apfloat_model.proofs.Determined.{gives_once, same_answer}
use Rattle.ieee_operations.specs.declared.extrema.Extremum.{Extremum}
use Rattle.ieee_operations.proofs.{OneAnswer.compared_once, IntegralOnce.rounded_to_integral_once}
use Rattle.ieee_operations.proofs.Logarithms.{log_b_once, scaled_once}
use Rattle.apfloat_arithmetic.specs.other_formats.FormatOf.{IsSumTo, IsDifferenceTo, IsProductTo, IsQuotientTo}
use Rattle.apfloat_arithmetic.specs.other_formats.Theorems.{HasOneSum, HasOneDifference, HasOneProduct, HasOneQuotient}
use Rattle.apfloat_arithmetic.specs.other_formats.Theorems.{HasOneFusedSum, HasOneRoot}
use Rattle.formats_at_run_time.specs.declared.FlaggedKind.TheVariants.{OfFormat, Pairs}
use Rattle.formats_at_run_time.specs.{BuiltIns.constants_in, FlaggedKinds.flagged_constants}
use Rattle.formats_at_run_time.specs.{FlaggedKinds.format_without_rule, Relations.in_format, ValueKinds.value_of}
use Rattle.formats_at_run_time.proofs.FormatLaws.{HasLaw, format_law}
use Rattle.coded_calls.specs.declared.ieee_call.IeeeCall.{IeeeCall, TheVariants.Predicated}
use Rattle.coded_calls.specs.declared.ieee_call.IeeeCall.TheVariants.{TotalOrder, ExtremumOf, LogB, ScaleB, Integral}
use Rattle.coded_calls.specs.declared.ieee_call.InAnotherCall.{InAnotherCall}
use Rattle.coded_calls.specs.declared.ieee_call.InAnotherCall.TheVariants.{SumTo, DifferenceTo, ProductTo, QuotientTo}
use Rattle.coded_calls.specs.declared.ieee_call.InAnotherCall.TheVariants.{FusedSumTo, RootTo}
use Rattle.coded_calls.specs.Answers.{IsValue, one_if}
use Rattle.coded_calls.specs.IeeeCalls.{IsExtremumBy, IsIeeeAnswer, IsInAnotherFormat, IsTruth}
use Rattle.coded_calls.specs.OneReply.{IsIeeeReplyOnce, IsInAnotherReplyOnce}
use Rattle.coded_calls.proofs.ExportsOnce.{OnceAnswer, format_determined, given_once, unchanged, value_once}

-- if a relation has one truth value with one status, it leaves one result
truth_once : (Holds : StatusAnd Bool → Type 0) → Determines Holds → OnceAnswer (IsTruth Holds)
truth_once Holds determines a b x y =
    let same = determines x.given y.given x.holds y.holds in
    record {
      bits = x.bits_are ∙ sym y.bits_are;
      status = x.status_is ∙ ap (λ (d : StatusAnd Bool). bits_of d.status) same ∙ sym y.status_is;
      number = x.number_is ∙ ap (λ (d : StatusAnd Bool). one_if d.value) same ∙ sym y.number_is;
    }

-- a minimum or a maximum has one value and one status
extremum_once : (prefers_number : Bool) (c : Constants) (which : Extremum) (x y : Datum)
    → Determines (IsExtremumBy prefers_number c which x y)
extremum_once true c which x y answer other h k =
    same_answer answer other (h.value_is ∙ sym k.value_is) (h.status_is ∙ sym k.status_is)
extremum_once false c which x y answer other h k =
    same_answer answer other (h.value_is ∙ sym k.value_is) (h.status_is ∙ sym k.status_is)

module _ (c : Constants) (has : HasLaw c) (mode : Round) where
  -- if a relation has one value with one status in the format, it leaves one result
  pub in_format_once : (Holds : StatusAnd Datum → Type 0) → Determines Holds → OnceAnswer (IsValue (in_format c) Holds)
  in_format_once Holds determines =
      value_once (in_format c) mode c.precision c.bits has.wide
      (format_determined c has mode) Holds determines

  ieee_answer_once : (call : IeeeCall) → OnceAnswer (IsIeeeAnswer c mode call)
  ieee_answer_once (Predicated predicate on_nan x y) =
      truth_once _ (compared_once (format_with c) predicate on_nan (value_of c x) (value_of c y))
  ieee_answer_once (TotalOrder x y) = given_once _
  ieee_answer_once (ExtremumOf which prefers_number x y) =
      in_format_once _ (extremum_once prefers_number c which (value_of c x) (value_of c y))
  ieee_answer_once (LogB x) = in_format_once _ (log_b_once (format_with c) mode (value_of c x))
  ieee_answer_once (ScaleB x power) = in_format_once _ (scaled_once (format_with c) mode (value_of c x) power)
  ieee_answer_once (Integral x) = in_format_once _ (rounded_to_integral_once (format_with c) mode (value_of c x))

-- each operation whose result is of another format has one value and one status
pub record EachHasOne : Type 0 where
  pub sum : HasOneSum
  pub difference : HasOneDifference
  pub product : HasOneProduct
  pub quotient : HasOneQuotient
  pub fused_sum : HasOneFusedSum
  pub root : HasOneRoot

of_two_once : (Says : Format → Format → Format → Round → Datum → Datum → Datum → ℕ → Type 0)
    → ((f h g : Format) (mode : Round) (x y : Datum) → DeterminesBoth (Says f h g mode x y))
    → (from c : Constants) → HasLaw c → (mode : Round) (x y : ℕ)
    → OnceAnswer (IsValue (in_format c) (λ given.
    Gives (Says (format_with from) (format_with from) (format_with c) mode (value_of from x) (value_of from y)) given))
of_two_once Says one from c has mode x y =
    let f = format_with from in
    in_format_once c has mode _ (gives_once _ (one f f (format_with c) mode (value_of from x) (value_of from y)))

-- the result in a lawful format of a call on values of another
in_another_once : EachHasOne → (from c : Constants) (has : HasLaw c) (mode : Round) (call : InAnotherCall)
    → OnceAnswer (IsInAnotherFormat from c mode call)
in_another_once one from c has mode (SumTo x y) = of_two_once IsSumTo one.sum from c has mode x y
in_another_once one from c has mode (DifferenceTo x y) = of_two_once IsDifferenceTo one.difference from c has mode x y
in_another_once one from c has mode (ProductTo x y) = of_two_once IsProductTo one.product from c has mode x y
in_another_once one from c has mode (QuotientTo x y) = of_two_once IsQuotientTo one.quotient from c has mode x y
in_another_once one from c has mode (FusedSumTo x y z) =
    let f = format_with from in
    in_format_once c has mode _
    (gives_once _
    (one.fused_sum f f f (format_with c) mode (value_of from x) (value_of from y) (value_of from z)))
in_another_once one from c has mode (RootTo x) =
    in_format_once c has mode _ (gives_once _ (one.root (format_with from) (format_with c) mode (value_of from x)))

-- two replies to the same arguments are the same
pub ieee_reply_once : IsIeeeReplyOnce
ieee_reply_once None mode call old a b code other x y = (x.0 ∙ sym y.0, unchanged old a b x.1 y.1)
ieee_reply_once (Some (OfFormat f)) None call old a b code other x y = (x.0 ∙ sym y.0, unchanged old a b x.1 y.1)
ieee_reply_once (Some Pairs) None call old a b code other x y = (x.0 ∙ sym y.0, unchanged old a b x.1 y.1)
ieee_reply_once (Some Pairs) (Some mode) call old a b code other x y =
    (x.0 ∙ sym y.0, unchanged old a b x.1 y.1)
ieee_reply_once (Some (OfFormat f)) (Some mode) None old a b code other x y =
    (x.0 ∙ sym y.0, unchanged old a b x.1 y.1)
ieee_reply_once (Some (OfFormat f)) (Some mode) (Some call) old a b code other x y =
    (x.0 ∙ sym y.0, ieee_answer_once (flagged_constants f) (format_law f) mode call a b x.1 y.1)

pub in_another_reply_once : EachHasOne → IsInAnotherReplyOnce
in_another_reply_once one None target mode call old a b code other x y =
    (x.0 ∙ sym y.0, unchanged old a b x.1 y.1)
in_another_reply_once one (Some kind) None mode call old a b code other x y =
    (x.0 ∙ sym y.0, unchanged old a b x.1 y.1)
in_another_reply_once one (Some kind) (Some target) None call old a b code other x y =
    (x.0 ∙ sym y.0, unchanged old a b x.1 y.1)
in_another_reply_once one (Some kind) (Some target) (Some mode) None old a b code other x y =
    (x.0 ∙ sym y.0, unchanged old a b x.1 y.1)
in_another_reply_once one (Some Pairs) (Some target) (Some mode) (Some call) old a b code other x y =
    (x.0 ∙ sym y.0, unchanged old a b x.1 y.1)
in_another_reply_once one (Some (OfFormat f)) (Some Pairs) (Some mode) (Some call) old a b code other x y =
    (x.0 ∙ sym y.0, unchanged old a b x.1 y.1)
in_another_reply_once one (Some (OfFormat f)) (Some (OfFormat g)) (Some mode) (Some call) old a b code other x y = (
  x.0 ∙ sym y.0,
  in_another_once one (constants_in (format_without_rule f)) (flagged_constants g) (format_law g) mode call a b x.1 y.1,
)
