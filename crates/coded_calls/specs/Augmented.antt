-- Augmented operations and payloads of NaNs.
use Rattle.std.specs.Prelude.{◌≡◌, ℕ, pos, ◌==◌, if◌then◌else◌, Option, Some, None, ok_or, Result, Ok, Err}
use Rattle.rustc_apfloat.specs.{Datum.Datum, Flags.bits_of, Format.Format, Layout.IsEncodedBy}
use Rattle.rustc_apfloat.specs.Lawful.{Constants, format_with, layout_with}
use Rattle.ieee_operations.specs.augmented.Augmented.{IsAugmentedDifference, IsAugmentedProduct, IsAugmentedSum}
use Rattle.ieee_operations.specs.augmented.Payloads.{get_payload, set_payload, set_payload_signaling}
use Rattle.formats_at_run_time.specs.{BuiltIns.constants_in, ValueKinds.value_of}
use Rattle.formats_at_run_time.specs.declared.{BuiltInFormat.BuiltInFormat, FlaggedKind.FlaggedKind}
use Rattle.coded_calls.specs.declared.{data.Answer.Answer, data.Halves.Halves, augmented.Augmentation.Augmentation}
use Rattle.coded_calls.specs.declared.augmented.{Parts.Parts, PayloadCall.PayloadCall}
use Rattle.coded_calls.specs.declared.augmented.Augmentation.TheVariants.{Sum, Difference, Product}
use Rattle.coded_calls.specs.declared.augmented.PayloadCall.TheVariants.{Get, Set, SetSignaling}
use Rattle.coded_calls.specs.Answers.{whole}
use Rattle.coded_calls.specs.KnownCalls.{◌>>=◌, answered, no_such_operation, text_format}

abbrev pub augmentation_coded : ℕ → Option Augmentation
augmentation_coded code =
    if code == 1 then Some Sum else if code == 2 then Some Difference else if code == 3 then Some Product else None

abbrev pub payload_coded : ℕ → Option PayloadCall
payload_coded code =
    if code == 0 then Some Get else if code == 1 then Some Set else if code == 2 then Some SetSignaling else None

-- ---- augmented operations

pub record KnownAugmentation : Type 0 where
  pub format : BuiltInFormat
  pub operation : Augmentation

-- The faults in their order: the format, pairs of doubles, and the operation.
abbrev pub known_augmentation : Option FlaggedKind → Option Augmentation → Result KnownAugmentation ℕ
known_augmentation format operation =
    text_format format >>= λ known. ok_or operation no_such_operation >>= λ made.
    Ok (record { format = known; operation = made })

abbrev pub IsAugmentedBy : Augmentation → Format → Datum → Datum → Datum → Datum → ℕ → Type 0
IsAugmentedBy Sum f x y head tail status = IsAugmentedSum f x y head tail status
IsAugmentedBy Difference f x y head tail status = IsAugmentedDifference f x y head tail status
IsAugmentedBy Product f x y head tail status = IsAugmentedProduct f x y head tail status

-- both results, encoded, with their flags
pub record IsAugmentedOf (c : Constants) (operation : Augmentation)
    (x y head_bits tail_bits status : ℕ) : Type 0 where
  pub head : Datum
  pub tail : Datum
  pub says : IsAugmentedBy operation (format_with c) (value_of c x) (value_of c y) head tail status
  pub head_is : IsEncodedBy (format_with c) (layout_with c) head_bits head
  pub tail_is : IsEncodedBy (format_with c) (layout_with c) tail_bits tail

abbrev pub AreParts : Constants → Augmentation → ℕ → ℕ → Parts → Type 0
AreParts c operation x y parts = IsAugmentedOf c operation x y parts.head parts.tail (bits_of parts.status)

pub record IsAugmentedLeft (known : KnownAugmentation) (x y : ℕ) (tail : Halves) (new : Answer) : Type 0 where
  pub of : IsAugmentedOf (constants_in known.format) known.operation x y (whole new.bits) (whole tail) new.status
  pub number : new.number ≡ pos 0

abbrev pub IsAugmentedCall : Result KnownAugmentation ℕ → ℕ → ℕ → Halves → Halves → Answer
    → Answer → ℕ → Type 0
IsAugmentedCall (Err error) x y old_tail tail old new code = (code ≡ error) × (tail ≡ old_tail) × (new ≡ old)
IsAugmentedCall (Ok known) x y old_tail tail old new code = (code ≡ answered) × IsAugmentedLeft known x y tail new

-- ---- payloads

pub record KnownPayload : Type 0 where
  pub format : BuiltInFormat
  pub operation : PayloadCall

abbrev pub known_payload : Option FlaggedKind → Option PayloadCall → Result KnownPayload ℕ
known_payload format operation =
    text_format format >>= λ known. ok_or operation no_such_operation >>= λ made.
    Ok (record { format = known; operation = made })

abbrev pub payload_value : PayloadCall → Format → Datum → Datum
payload_value Get f x = get_payload f x
payload_value Set f x = set_payload f x
payload_value SetSignaling f x = set_payload_signaling f x

abbrev pub IsPayloadIn : Constants → PayloadCall → ℕ → ℕ → Type 0
IsPayloadIn c operation x bits =
    IsEncodedBy (format_with c) (layout_with c) bits (payload_value operation (format_with c) (value_of c x))

pub record IsPayloadLeft (known : KnownPayload) (x : ℕ) (new : Answer) : Type 0 where
  pub of : IsPayloadIn (constants_in known.format) known.operation x (whole new.bits)
  pub status : new.status ≡ 0
  pub number : new.number ≡ pos 0

abbrev pub IsPayloadCall : Result KnownPayload ℕ → ℕ → Answer → Answer → ℕ → Type 0
IsPayloadCall (Err error) x old new code = (code ≡ error) × (new ≡ old)
IsPayloadCall (Ok known) x old new code = (code ≡ answered) × IsPayloadLeft known x new
