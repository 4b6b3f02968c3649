-- Decimals with any rule of flags.
use Rattle.std.specs.Prelude.{◌≡◌, ℕ, ◌||◌, if◌then◌else◌, List, ◌++◌, codes, Option, ok_or}
use Rattle.std.specs.{Prelude.Result, Prelude.Ok, Prelude.Err, Str.str_eq_ignore_ascii_case}
use Rattle.apfloat_model.specs.texts.Specials.{after_mark, is_minus, mark_of}
use Rattle.rustc_apfloat.specs.declared.Round.{Round}
use Rattle.apfloat_decimals.specs.Texts.{sign_text}
use Rattle.formats_at_run_time.specs.{declared.FlaggedKind.FlaggedKind, FlaggedKinds.flagged_kind_of}
use Rattle.coded_calls.specs.declared.data.Answer.{Answer}
use Rattle.coded_calls.specs.KnownCalls.{◌>>=◌, unknown_format, unknown_mode}
use Rattle.coded_calls.specs.OneReply.{SameAnswer}
use Rattle.apfloat_c.specs.Decimals.{IsReadInto}

-- the text; of an infinity or a NaN in any case and with any sign (IEEE 754-2019 5.12.1), a spelling that is read
abbrev pub known_spelling : List ℕ → List ℕ
known_spelling text =
    let word : List ℕ = after_mark text in
    let sign : List ℕ = sign_text (is_minus (mark_of text)) in
    if str_eq_ignore_ascii_case word (codes "inf") || str_eq_ignore_ascii_case word (codes "infinity")
    then sign ++ codes "inf"
    else if str_eq_ignore_ascii_case word (codes "nan") then sign ++ codes "nan"
    else if str_eq_ignore_ascii_case word (codes "snan") then sign ++ codes "snan"
    else text

pub record KnownText : Type 0 where
  pub kind : FlaggedKind
  pub mode : Round

-- The faults in their order: the format, and the mode.
abbrev pub known_text : Option FlaggedKind → Option Round → Result KnownText ℕ
known_text format mode =
    ok_or format unknown_format >>= λ known. ok_or mode unknown_mode >>= λ rounding.
    Ok (record { kind = known; mode = rounding })

-- the value in the kind with its rule of flags, or the code of the error and the previous contents
abbrev pub IsDecimalRead : Result KnownText ℕ → List ℕ → Answer → Answer → ℕ → Type 0
IsDecimalRead (Err error) text old new code = (code ≡ error) × (new ≡ old)
IsDecimalRead (Ok known) text old new code = IsReadInto (flagged_kind_of known.kind) known.mode text old new code

abbrev pub IsDecimalReadOnce : Type 0
IsDecimalReadOnce =
    (known : Result KnownText ℕ) (text : List ℕ) (old first second : Answer) (code other : ℕ)
    → IsDecimalRead known text old first code → IsDecimalRead known text old second other
    → (code ≡ other) × SameAnswer first second
