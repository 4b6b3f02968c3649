-- Operations on pairs of doubles that join a pair into the wide format, operate there, and split the result; the status
-- is that of the wide operation. Signed integers are converted from unsigned ones, and the next value down is the
-- negation of the next value up of the negation.
use Rattle.std.specs.Prelude.{◌≡◌, ⊤, ℕ, ◌-◌, ℤ, pos, Bool, Option, Some, None, Result, Ok, Err, List}
use Rattle.std.specs.{Prelude.unsigned_abs, Prelude.int_lt, Bool.MatchBool}
use Rattle.apfloat_model.specs.declared.{kinds.Round.Round, parse_error.ParseError.ParseError}
use Rattle.apfloat_model.specs.{declared.status.StatusAnd.StatusAnd, rounding.Flags.Gives, rounding.Negation.swapped}
use Rattle.apfloat_model.specs.{formats.Datum.Datum, order.Classes.is_negative, order.Classes.is_zero}
use Rattle.apfloat_model.specs.arithmetic.{Quotients.IsQuotient, Remainders.IsTruncatedRemainder}
use Rattle.apfloat_model.specs.arithmetic.{Remainders.IsNearestRemainder, Exponents.IsExactInverse, NextUp.IsNextUp}
use Rattle.apfloat_model.specs.whole_numbers.WholeNumbers.{IsFromUnsigned, IsRoundToIntegral}
use Rattle.apfloat_model.specs.whole_numbers.{WholeNumbersOut.IsToUnsigned, SignedWholes.IsNegatedWhole}
use Rattle.apfloat_model.specs.texts.Readings.{IsReading, IsRefusal}
use Rattle.apfloat_pair_theory.specs.{PairFormats.wide, Pairs.Pair, Pairs.negated_pair}
use Rattle.apfloat_pair_theory.specs.Pairs.{IsJoined, IsSplit, IsSplitAnswer, IsWideAnswer, IsWideAnswerOfTwo}

-- ---- on two pairs

abbrev pub IsPairQuotient : Round → Pair → Pair → Pair → ℕ → Type 0
IsPairQuotient mode x y answer status = IsWideAnswerOfTwo (IsQuotient wide mode) x y answer status

abbrev pub IsPairTruncatedRemainder : Pair → Pair → Pair → ℕ → Type 0
IsPairTruncatedRemainder x y answer status = IsWideAnswerOfTwo (IsTruncatedRemainder wide) x y answer status

abbrev pub IsPairNearestRemainder : Pair → Pair → Pair → ℕ → Type 0
IsPairNearestRemainder x y answer status = IsWideAnswerOfTwo (IsNearestRemainder wide) x y answer status

-- ---- on one pair

abbrev pub IsPairRoundToIntegral : Round → Pair → Pair → ℕ → Type 0
IsPairRoundToIntegral mode x answer status = IsWideAnswer (IsRoundToIntegral wide mode) x answer status

abbrev pub IsPairNextUp : Pair → Pair → ℕ → Type 0
IsPairNextUp x answer status = IsWideAnswer (IsNextUp wide) x answer status

-- the negation of the next value up of the negation
pub record IsPairNextDown (x answer : Pair) (status : ℕ) : Type 0 where
  pub up_of_negated : Pair
  pub is_next_up : IsPairNextUp (negated_pair x) up_of_negated status
  pub is : answer ≡ negated_pair up_of_negated

abbrev pub IsSplitOption : Option Datum → Option Pair → Type 0
IsSplitOption None None = ⊤
IsSplitOption None (Some answer) = ⊥
IsSplitOption (Some value) None = ⊥
IsSplitOption (Some value) (Some answer) = IsSplit value answer

pub record IsPairExactInverse (x : Pair) (answer : Option Pair) : Type 0 where
  pub joined : Datum
  pub inverse : Option Datum
  pub is_joined : IsJoined x joined
  pub is_inverse : IsExactInverse wide joined inverse
  pub is_split : IsSplitOption inverse answer

-- ---- texts; whether a text is refused does not depend on the format

abbrev pub IsPairReading : Round → List ℕ → Pair → ℕ → Type 0
IsPairReading mode text answer status = IsSplitAnswer (IsReading wide mode text) answer status

-- as `IsRead` for a format
abbrev pub IsPairRead : Round → List ℕ → Result (StatusAnd Pair) ParseError → Type 0
IsPairRead mode text (Ok answer) = Gives (IsPairReading mode text) answer
IsPairRead mode text (Err error) = IsRefusal text error.0.now

-- ---- from integers

abbrev pub IsPairFromUnsigned : Round → ℕ → Pair → ℕ → Type 0
IsPairFromUnsigned mode number answer status = IsSplitAnswer (IsFromUnsigned wide mode number) answer status

-- a negative number is the negation of its magnitude under the swapped mode
pub record IsPairFromNegative (mode : Round) (magnitude : ℕ) (answer : Pair) (status : ℕ) : Type 0 where
  pub positive : Pair
  pub is_positive : IsPairFromUnsigned (swapped mode) magnitude positive status
  pub is : answer ≡ negated_pair positive

abbrev pub IsPairFromSigned : Round → ℤ → Pair → ℕ → Type 0
IsPairFromSigned mode number answer status =
    MatchBool (int_lt number (pos 0)) (IsPairFromNegative mode (unsigned_abs number) answer status)
    (IsPairFromUnsigned mode (unsigned_abs number) answer status)

-- ---- to integers

pub record IsPairToUnsigned (mode : Round) (width : ℕ) (x : Pair) (number status : ℕ) (is_exact : Bool) : Type 0 where
  pub joined : Datum
  pub is_joined : IsJoined x joined
  pub is : IsToUnsigned wide mode width joined number status is_exact

-- with a minus sign: from the magnitude, under the swapped mode
pub record IsPairToNegative (mode : Round) (width : ℕ) (x : Pair) (number : ℤ) (status : ℕ)
    (is_exact : Bool) : Type 0 where
  pub magnitude : ℕ
  pub flags : ℕ
  pub exact : Bool
  pub is_magnitude : IsPairToUnsigned (swapped mode) width (negated_pair x) magnitude flags exact
  pub is : IsNegatedWhole (is_zero x.high) width magnitude flags exact number status is_exact

pub record IsPairToNatural (mode : Round) (width : ℕ) (x : Pair) (number : ℤ) (status : ℕ)
    (is_exact : Bool) : Type 0 where
  pub magnitude : ℕ
  pub is_magnitude : IsPairToUnsigned mode width x magnitude status is_exact
  pub is : number ≡ pos magnitude

abbrev pub IsPairToSigned : Round → ℕ → Pair → ℤ → ℕ → Bool → Type 0
IsPairToSigned mode width x number status is_exact =
    MatchBool (is_negative x.high) (IsPairToNegative mode width x number status is_exact)
    (IsPairToNatural mode (width - 1) x number status is_exact)
