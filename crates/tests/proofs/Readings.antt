-- The status of the reading of a text.
use Rattle.std.proofs.Common.{ℕ}
use Rattle.std.specs.Prelude.{List, Result, Ok, Err}
use Rattle.apfloat_model.specs.declared.{kinds.Round.Round, parse_error.ParseError.ParseError}
use Rattle.apfloat_model.specs.declared.status.StatusAnd.{StatusAnd}
use Rattle.apfloat_model.proofs.rounding.FlagsTogether.{reading_together}
use Rattle.rustc_apfloat.specs.{Datum.Datum, Flags.bits_of, Format.Format, PairCalls.IsPairRead, Pairs.Pair}
use Rattle.rustc_apfloat.specs.Parsing.{IsRead}
use Rattle.apfloat_pair_theory.proofs.calls.PairFlagsTogether.{pair_reading_together}
use Rattle.tests.specs.Statuses.{HasFlagsTogether}

pub read_together : (format : Format) (mode : Round) (text : List ℕ) (result : Result (StatusAnd Datum) ParseError)
    → IsRead format mode text result → HasFlagsTogether result
read_together format mode text (Ok answer) h = reading_together format mode text answer.value (bits_of answer.status) h
read_together format mode text (Err error) h = tt

pub pair_read_together : (mode : Round) (text : List ℕ) (result : Result (StatusAnd Pair) ParseError)
    → IsPairRead mode text result → HasFlagsTogether result
pair_read_together mode text (Ok answer) h = pair_reading_together mode text answer.value (bits_of answer.status) h
pair_read_together mode text (Err error) h = tt
