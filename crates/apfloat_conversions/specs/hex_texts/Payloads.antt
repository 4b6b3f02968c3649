-- Payloads while they are read, and the special values of the code as those of the model.
use Rattle.std.specs.Prelude.{◌≡◌, ℕ, ◌+◌, ◌*◌, ◌^◌, ◌<◌, Bool, false, true, ◌&&◌, ltb, if◌then◌else◌, List, take, drop}
use Rattle.std.specs.Prelude.{fold, Option, Some, None}
use Rattle.apfloat_model.specs.{declared.marks.Radix.Radix, texts.Digits.every, texts.Digits.digit_value}
use Rattle.apfloat_model.specs.texts.Specials as model
use Rattle.apfloat_conversions.specs.declared.hex_texts.special.Special.{Special}
use Rattle.apfloat_conversions.specs.declared.hex_texts.special.Special.TheVariants.{Infinity, Quiet, Signaling}

-- an integer followed by one more digit, if it is below 2 ^ 128
abbrev pub longer : Radix → ℕ → ℕ → ℕ
longer radix n c = n * model.base_of radix + digit_value c

abbrev pub next : Radix → ℕ → ℕ → Option ℕ
next radix n c = if model.is_digit_of radix c && ltb (longer radix n c) (2 ^ 128) then Some (longer radix n c)
    else None

-- the integer whose first digits have the value n and are followed by these digits, if it is below 2 ^ 128
abbrev pub read_on : Radix → ℕ → List ℕ → Option ℕ
read_on radix n digits =
    if every (model.is_digit_of radix) digits && ltb (fold (longer radix) n digits) (2 ^ 128)
    then Some (fold (longer radix) n digits) else None

-- a payload, in terms of the digits read so far and those that are left
pub record IsPayloadRead (radix : Radix) (digits left : List ℕ) (number : ℕ) : Type 0 where
  pub small : number < 2 ^ 128
  pub read : model.number_of_digits radix digits ≡ read_on radix number left

-- the payload after the name of a NaN
abbrev pub named_payload : List ℕ → Option ℕ
named_payload text = if model.is_nan_name (take 3 text) then model.payload_of (drop 3 text) else None

abbrev pub meaning_of : Bool → Special → model.TextMeaning
meaning_of negative Infinity = model.infinity negative
meaning_of negative (Quiet payload) = model.not_a_number negative false payload
meaning_of negative (Signaling payload) = model.not_a_number negative true payload

abbrev pub meaning_at : Bool → Option Special → Option model.TextMeaning
meaning_at negative None = None
meaning_at negative (Some special) = Some (meaning_of negative special)
