-- What a call asks for, or its error.
use Rattle.std.specs.Prelude.{ℕ, ◌+◌, ◌==◌, Bool, ◌&&◌, nat_le, if◌then◌else◌, List, [], ◌∷◌, Option, is_none, Some}
use Rattle.std.specs.{Prelude.None, Prelude.ok_or, Prelude.Result, Prelude.Ok, Prelude.Err, Char.is_ascii}
use Rattle.rustc_apfloat.specs.{declared.Round.Round, Digits.every, Faults.fault_of}
use Rattle.formats_at_run_time.specs.declared.{BuiltInFormat.BuiltInFormat, FlaggedKind.FlaggedKind}
use Rattle.formats_at_run_time.specs.declared.FlaggedKind.TheVariants.{OfFormat, Pairs}
use Rattle.formats_at_run_time.specs.FlaggedKinds.{flagged_kind_of, format_without_rule}
use Rattle.formats_at_run_time.specs.ValueKinds.{Kind, of_format, of_pairs}
use Rattle.coded_calls.specs.declared.exported_call.ExportedCall.{ExportedCall, TheVariants.FusedSum}
use Rattle.coded_calls.specs.declared.exported_call.ExportedCall.TheVariants.{ToUnsigned, ToSigned, Conversion, Text}

-- ---- codes

-- the value with that code, where codes count from that of the first value
abbrev pub counted : {A : Type 0} → ℕ → List A → ℕ → Option A
counted first [] code = None
counted first (value ∷ values) code = if code == first then Some value else counted (first + 1) values code

-- what a call returns
abbrev pub answered : ℕ
answered = 0

abbrev pub unknown_format : ℕ
unknown_format = 1

abbrev pub unknown_mode : ℕ
unknown_mode = 2

abbrev pub no_such_operation : ℕ
no_such_operation = 3

abbrev pub wrong_width : ℕ
wrong_width = 4

abbrev pub refused_text : ℕ
refused_text = 5

abbrev pub wrong_length : ℕ
wrong_length = 6

-- ---- what a kind of values refuses

abbrev pub unless : Bool → ℕ → Option ℕ
unless holds error = if holds then None else Some error

-- the least width of an unsigned integer is 1, and that of a signed one 2
abbrev pub width_fault : ℕ → ℕ → Option ℕ
width_fault least width = unless (nat_le least width && nat_le width 128) wrong_width

abbrev pub is_text : List ℕ → Bool
is_text text = every is_ascii text && is_none (fault_of text)

-- there is no conversion to pairs of doubles
abbrev pub target_fault : Option FlaggedKind → Option ℕ
target_fault None = Some unknown_format
target_fault (Some Pairs) = Some no_such_operation
target_fault (Some (OfFormat target)) = None

abbrev pub unknown_target : Option FlaggedKind → ℕ
unknown_target None = unknown_format
unknown_target (Some target) = no_such_operation

-- what a type refuses; fused sums and conversions are not calls of a type
abbrev pub type_fault : ExportedCall → Option ℕ
type_fault (ToUnsigned x width) = width_fault 1 width
type_fault (ToSigned x width) = width_fault 2 width
type_fault (Text text) = unless (is_text text.now) refused_text
type_fault call = None

-- formats have the fused sum, and are converted to formats; pairs have neither
abbrev pub fault_in : Kind → ExportedCall → Option ℕ
fault_in (of_format c) (FusedSum x y z) = None
fault_in (of_format c) (Conversion x target) = target_fault target
fault_in of_pairs (FusedSum x y z) = Some no_such_operation
fault_in of_pairs (Conversion x target) = Some (unknown_target target)
fault_in kind call = type_fault call

-- ---- requests

pub record KnownCall : Type 0 where
  pub kind : Kind
  pub mode : Round
  pub call : ExportedCall

infixl 10 ◌>>=◌
abbrev pub ◌>>=◌ : {A B : Type 0} → Result A ℕ → (A → Result B ℕ) → Result B ℕ
(Ok x) >>= next = next x
(Err error) >>= next = Err error

abbrev pub without : {A : Type 0} → Option ℕ → A → Result A ℕ
without None x = Ok x
without (Some fault) x = Err fault

-- the faults of a call in a known kind of values: the mode, what the kind refuses
abbrev pub known_in : Kind → Option Round → ExportedCall → Result KnownCall ℕ
known_in kind mode call =
    ok_or mode unknown_mode >>= λ rounding.
    without (fault_in kind call) (record { kind = kind; mode = rounding; call = call })

-- The faults in their order: the format, the mode, what the format refuses.
abbrev pub known_call : Option FlaggedKind → Option Round → ExportedCall → Result KnownCall ℕ
known_call format mode call =
    ok_or format unknown_format >>= λ known. ok_or mode unknown_mode >>= λ rounding.
    without (fault_in (flagged_kind_of known) call)
    (record { kind = flagged_kind_of known; mode = rounding; call = call })

-- the format with the flags of the built-in ones has the same values; pairs of doubles have none
abbrev pub text_format : Option FlaggedKind → Result BuiltInFormat ℕ
text_format None = Err unknown_format
text_format (Some Pairs) = Err no_such_operation
text_format (Some (OfFormat format)) = Ok (format_without_rule format)
