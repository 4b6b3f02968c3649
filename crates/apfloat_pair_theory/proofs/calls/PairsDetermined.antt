-- The calls on pairs determine their results.
use Rattle.std.proofs.Common.{ℕ, Bool, List, Result, Ok, Err}
use Rattle.apfloat_model.specs.declared.{kinds.Round.Round, parse_error.ParseError.ParseError}
use Rattle.apfloat_model.specs.{declared.status.StatusAnd.StatusAnd, rounding.Flags.Gives, rounding.Flags.bits_of}
use Rattle.apfloat_model.specs.Determined.{Determines, DeterminesBoth, AreOneReading, IsDetermined}
use Rattle.apfloat_model.proofs.Determined.{same_answer, refusal_once, reading_or_refusal}
use Rattle.apfloat_model.proofs.Steps.{leads_once}
use Rattle.apfloat_pair_theory.specs.PairFormats.{double, wide}
use Rattle.apfloat_pair_theory.specs.{Pairs.Pair, Pairs.negated_pair, Pairs.IsPairEncodedBy, PairAnswers.OncePair}
use Rattle.apfloat_pair_theory.specs.PairSums.{pair_sum, IsPairSum, IsPairDifference}
use Rattle.apfloat_pair_theory.specs.PairProducts.{pair_product, IsPairProduct}
use Rattle.apfloat_pair_theory.specs.PairParts.{IsPairIlogb, IsPairScaling, IsPairFraction}
use Rattle.apfloat_pair_theory.specs.PairCalls.{IsPairQuotient, IsPairTruncatedRemainder, IsPairNearestRemainder}
use Rattle.apfloat_pair_theory.specs.PairCalls.{IsPairRoundToIntegral, IsPairNextUp, IsPairNextDown, IsPairExactInverse}
use Rattle.apfloat_pair_theory.specs.PairCalls.{IsPairReading, IsPairRead, IsPairFromUnsigned, IsPairFromSigned}
use Rattle.apfloat_pair_theory.specs.PairCalls.{IsPairToUnsigned, IsPairToSigned}
use Rattle.apfloat_pair_theory.proofs.pairs.PairBits.{pair_encoded_once}
use Rattle.apfloat_pair_theory.proofs.calls.CallsOnce.{OnceWhole, pair_quotient_once, pair_truncated_remainder_once}
use Rattle.apfloat_pair_theory.proofs.calls.CallsOnce.{pair_nearest_remainder_once, pair_round_to_integral_once}
use Rattle.apfloat_pair_theory.proofs.calls.CallsOnce.{pair_next_up_once, pair_next_down_once, pair_reading_once}
use Rattle.apfloat_pair_theory.proofs.calls.CallsOnce.{pair_exact_inverse_once, pair_from_unsigned_once}
use Rattle.apfloat_pair_theory.proofs.calls.CallsOnce.{pair_from_signed_once, pair_to_unsigned_once}
use Rattle.apfloat_pair_theory.proofs.calls.CallsOnce.{pair_to_signed_once, pair_ilogb_once, pair_scaling_once}
use Rattle.apfloat_pair_theory.proofs.calls.CallsOnce.{pair_fraction_once}

-- a relation that determines the pair and the status bits determines the pair and the status
pair_gives_once : (Says : Pair → ℕ → Type 0) → OncePair Says
    → Determines (λ (answer : StatusAnd Pair). Gives Says answer)
pair_gives_once Says once r s h k =
    let e = once r.value s.value (bits_of r.status) (bits_of s.status) h k in
    same_answer r s e.0 e.1

-- a relation that determines the number, the status bits and the exactness determines the number and the status
whole_gives_once : {Number : Type 0} (Says : Number → ℕ → Bool → Type 0) → OnceWhole Says
    → DeterminesBoth (λ (answer : StatusAnd Number) (exact : Bool). Says answer.value (bits_of answer.status) exact)
whole_gives_once Says once r s a b h k =
    let e = once r.value s.value (bits_of r.status) (bits_of s.status) a b h k in
    (same_answer r s e.0 e.1, e.2)

-- the result of reading a text as a pair is determined, whether it is a value or a refusal
pair_read_once : (mode : Round) (text : List ℕ) (answer other : Result (StatusAnd Pair) ParseError)
    → IsPairRead mode text answer → IsPairRead mode text other → AreOneReading answer other
pair_read_once mode text (Ok r) (Ok s) h k =
    pair_gives_once (IsPairReading mode text) (pair_reading_once mode text) r s h k
pair_read_once mode text (Ok r) (Err e) h k =
    reading_or_refusal wide mode text e.0.now h.value (bits_of r.status) h.is_value k
pair_read_once mode text (Err e) (Ok r) h k =
    reading_or_refusal wide mode text e.0.now k.value (bits_of r.status) k.is_value h
pair_read_once mode text (Err e) (Err d) h k = refusal_once text e.0.now d.0.now h k

-- each operation on pairs determines its result
pub pairs_determined : (mode : Round)
    → IsDetermined mode 106 128 (λ x y round answer. Gives (IsPairSum round x y) answer)
    (λ x y round answer. Gives (IsPairDifference round x y) answer)
    (λ x y round answer. Gives (IsPairProduct round x y) answer)
    (λ x y round answer. Gives (IsPairQuotient round x y) answer) IsPairExactInverse
    (λ x y answer. Gives (IsPairTruncatedRemainder x y) answer)
    (λ x y answer. Gives (IsPairNearestRemainder x y) answer) (λ x bits. IsPairEncodedBy bits x)
    (λ number round answer. Gives (IsPairFromUnsigned round number) answer)
    (λ number round answer. Gives (IsPairFromSigned round number) answer)
    (λ x round answer. Gives (IsPairRoundToIntegral round x) answer)
    (λ x width round answer exact. IsPairToUnsigned round width x answer.value (bits_of answer.status) exact)
    (λ x width round answer exact. IsPairToSigned round width x answer.value (bits_of answer.status) exact)
    (λ x answer. Gives (IsPairNextUp x) answer) (λ x answer. Gives (IsPairNextDown x) answer)
    (λ x power round answer. IsPairScaling round x power answer) IsPairIlogb
    (λ x round answer exponent. IsPairFraction round x answer exponent)
    (λ text round answer. IsPairRead round text answer)
pairs_determined mode = record {
  sum = λ x y. pair_gives_once (IsPairSum mode x y) (leads_once double mode (pair_sum x y));
  difference = λ x y.
      pair_gives_once (IsPairDifference mode x y) (leads_once double mode (pair_sum x (negated_pair y)));
  product = λ x y. pair_gives_once (IsPairProduct mode x y) (leads_once double mode (pair_product x y));
  quotient = λ x y. pair_gives_once (IsPairQuotient mode x y) (pair_quotient_once mode x y);
  inverse = λ x. pair_exact_inverse_once x;
  remainder = λ x y. pair_gives_once (IsPairTruncatedRemainder x y) (pair_truncated_remainder_once x y);
  nearest_remainder = λ x y. pair_gives_once (IsPairNearestRemainder x y) (pair_nearest_remainder_once x y);
  bits = λ h x a b. pair_encoded_once x a b;
  of_unsigned = λ number. pair_gives_once (IsPairFromUnsigned mode number) (pair_from_unsigned_once mode number);
  of_signed = λ number. pair_gives_once (IsPairFromSigned mode number) (pair_from_signed_once mode number);
  integral = λ x. pair_gives_once (IsPairRoundToIntegral mode x) (pair_round_to_integral_once mode x);
  to_unsigned = λ x width. whole_gives_once (IsPairToUnsigned mode width x) (pair_to_unsigned_once mode width x);
  to_signed = λ x width. whole_gives_once (IsPairToSigned mode width x) (pair_to_signed_once mode width x);
  above = λ x. pair_gives_once (IsPairNextUp x) (pair_next_up_once x);
  below = λ x. pair_gives_once (IsPairNextDown x) (pair_next_down_once x);
  scaled = λ x places. pair_scaling_once mode x places;
  exponent = λ x. pair_ilogb_once x;
  fraction = λ x v w d e. pair_fraction_once mode x v w d e;
  reading = λ text. pair_read_once mode text;
}
