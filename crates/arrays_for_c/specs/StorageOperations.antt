-- Operations on codes of the storage formats all of whose codes are numbers.
use Rattle.std.specs.Prelude.{◌≡◌, ℕ, ◌%◌, ◌^◌, ◌<◌, ◌==◌, pos, if◌then◌else◌, Option, Some, None, ok_or}
use Rattle.std.specs.Prelude.{Result, Ok, Err}
use Rattle.apfloat_model.specs.rounding.Outcome.{Outcome, exactly}
use Rattle.rustc_apfloat.specs.{declared.Round.Round, Datum.Datum, Format.Format, FusedSums.fused_sum, Order.maximum}
use Rattle.rustc_apfloat.specs.{Order.minimum, Products.product, Quotients.quotient, Roots.root, Sums.difference}
use Rattle.rustc_apfloat.specs.Sums.{sum}
use Rattle.small_formats.specs.{Arithmetic.IsStored, Codes.datum_of, Storage.IsLawfulStorage, Storage.StorageConstants}
use Rattle.small_formats.specs.Storage.{format_with}
use Rattle.apfloat_arrays.specs.declared.stored.StoredFormat.{StoredFormat, TheVariants.E2M1FN, TheVariants.E2M3FN}
use Rattle.apfloat_arrays.specs.declared.stored.StoredFormat.TheVariants.{E3M2FN, E3M4, E8M0FNU, UE4M3}
use Rattle.apfloat_arrays.specs.stored.Formats.{e2m1fn_constants, e2m3fn_constants, e3m2fn_constants}
use Rattle.coded_calls.specs.{declared.data.Answer.Answer, Answers.whole, OneReply.SameAnswer}
use Rattle.coded_calls.specs.KnownCalls.{◌>>=◌, answered, no_such_operation, unknown_format, unknown_mode}
use Rattle.arrays_for_c.specs.declared.storage_operations.StorageOperation.{StorageOperation, TheVariants.Sum}
use Rattle.arrays_for_c.specs.declared.storage_operations.StorageOperation.TheVariants.{Difference, Product, Quotient}
use Rattle.arrays_for_c.specs.declared.storage_operations.StorageOperation.TheVariants.{FusedSum, SquareRoot, Minimum}
use Rattle.arrays_for_c.specs.declared.storage_operations.StorageOperation.TheVariants.{Maximum}

-- ---- what is asked for

abbrev pub number_constants : StoredFormat → Option StorageConstants
number_constants E2M1FN = Some e2m1fn_constants
number_constants E2M3FN = Some e2m3fn_constants
number_constants E3M2FN = Some e3m2fn_constants
number_constants E3M4 = None
number_constants E8M0FNU = None
number_constants UE4M3 = None

abbrev pub storage_operation_coded : ℕ → Option StorageOperation
storage_operation_coded code =
    if code == 1 then Some Sum
    else if code == 2 then Some Difference
    else if code == 3 then Some Product
    else if code == 4 then Some Quotient
    else if code == 7 then Some FusedSum
    else if code == 8 then Some SquareRoot
    else if code == 14 then Some Minimum
    else if code == 15 then Some Maximum
    else None

pub record StorageRequest : Type 0 where
  pub constants : StorageConstants
  pub operation : StorageOperation
  pub round : Round

-- The faults in their order: the format, the mode, and that the format does not have the operation.
abbrev pub known_request : Option StoredFormat → Option Round → Option StorageOperation
    → Result StorageRequest ℕ
known_request format mode operation =
    ok_or format unknown_format >>= λ stored. ok_or mode unknown_mode >>= λ rounding.
    ok_or operation no_such_operation >>= λ asked. ok_or (number_constants stored) no_such_operation >>= λ numbers.
    Ok (record { constants = numbers; operation = asked; round = rounding })

-- ---- what a call leaves

-- of the code in the lowest bits; it has at most eight
abbrev pub number_in : StorageConstants → ℕ → Datum
number_in c bits = datum_of c (bits % 256 % 2 ^ c.bits)

abbrev pub outcome_of : StorageOperation → Format → Datum → Datum → Datum → Outcome
outcome_of Sum f x y z = sum f x y
outcome_of Difference f x y z = difference f x y
outcome_of Product f x y z = product f x y
outcome_of Quotient f x y z = quotient f x y
outcome_of FusedSum f x y z = fused_sum f x y z
outcome_of SquareRoot f x y z = root f x
outcome_of Minimum f x y z = exactly (minimum x y)
outcome_of Maximum f x y z = exactly (maximum x y)

-- the code and the flags
pub record IsOperated (c : StorageConstants) (operation : StorageOperation) (mode : Round) (x y z code status : ℕ)
    : Type 0 where
  pub lawful : IsLawfulStorage c
  pub is_stored : IsStored c mode
      (outcome_of operation (format_with c) (number_in c x) (number_in c y) (number_in c z)) code status
  pub fits : code < 2 ^ c.bits

-- the code 0 and the result, or the code of the error and the previous answer
abbrev pub IsOperationReply : Result StorageRequest ℕ → ℕ → ℕ → ℕ → Answer → Answer → ℕ → Type 0
IsOperationReply (Ok it) x y z before after code =
    (code ≡ answered) × IsOperated it.constants it.operation it.round x y z (whole after.bits) after.status
    × (after.number ≡ pos 0)
IsOperationReply (Err error) x y z before after code = (code ≡ error) × (after ≡ before)

-- one code and one answer
abbrev pub IsOperationReplyOnce : Type 0
IsOperationReplyOnce =
    (known : Result StorageRequest ℕ) (x y z : ℕ) (old first second : Answer) (code other : ℕ)
    → IsOperationReply known x y z old first code → IsOperationReply known x y z old second other
    → (code ≡ other) × SameAnswer first second
