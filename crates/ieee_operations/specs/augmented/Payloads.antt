-- Payloads of NaNs as data (IEEE 754-2019 9.7). The payload is the significand without the bits that say whether the
-- NaN is quiet: where the integer bit is written, without that bit too (6.2.1).
use Rattle.std.specs.Prelude.{◌≡◌, ℕ, ◌-◌, ◌*◌, ◌/◌, ◌%◌, ◌^◌, ◌<◌, ◌≤◌, Bool}
use Rattle.std.specs.Prelude.{true, false, not, ◌&&◌, leb, ltb, Option, Some, None, if◌then◌else◌}
use Rattle.apfloat_model.specs.declared.kinds.NonfiniteBehavior.{NonfiniteBehavior}
use Rattle.apfloat_model.specs.declared.kinds.NonfiniteBehavior.TheVariants.{IEEE754, NanOnly, NanNegativeZero}
use Rattle.apfloat_model.specs.formats.{Format.Format, Constants.zero_datum, Datum.Datum, Datum.finite, Datum.infinite}
use Rattle.apfloat_model.specs.formats.{Datum.nan, Nan.qnan, Nan.snan}
use Rattle.apfloat_model.specs.order.Classes.{quanta_of, is_negative, is_integer}

-- how many bits a payload has; a format with a single significand for NaNs has none, and each of its payloads is 0
abbrev pub payload_bits_of : NonfiniteBehavior → ℕ → ℕ
payload_bits_of IEEE754 precision = precision - 2
payload_bits_of NanOnly precision = 0
payload_bits_of NanNegativeZero precision = 0

abbrev pub payload_bits : Format → ℕ
payload_bits f = payload_bits_of f.nonfinite f.precision

abbrev pub payload_of : Format → ℕ → ℕ
payload_of f significand = significand % 2 ^ payload_bits f

-- an integer as a datum
abbrev pub integer_datum : Format → Bool → ℕ → Datum
integer_datum f negative integer = finite negative (integer * 2 ^ f.scale)

-- the payload of a NaN, and -1 for any other datum
abbrev pub get_payload : Format → Datum → Datum
get_payload f (nan b s) = integer_datum f false (payload_of f s)
get_payload f (infinite b) = integer_datum f true 1
get_payload f (finite b n) = integer_datum f true 1

-- the integer of a datum that is one
abbrev pub integer_of : Format → Datum → ℕ
integer_of f x = quanta_of x / 2 ^ f.scale

-- whether the datum is an integer that a payload can be, and at least `least`; -0 is not
abbrev pub is_payload : Format → ℕ → Datum → Bool
is_payload f least x =
    not (is_negative x) && is_integer f x && leb least (integer_of f x)
    && ltb (integer_of f x) (2 ^ payload_bits f)

abbrev pub payload_from : Format → ℕ → Datum → Option ℕ
payload_from f least x = if is_payload f least x then Some (integer_of f x) else None

-- the quiet NaN with that payload, or +0; the signaling one, which needs a payload other than 0, or +0
abbrev pub set_payload : Format → Datum → Datum
set_payload f x = if is_payload f 0 x then qnan f (integer_of f x) else zero_datum

abbrev pub set_payload_signaling : Format → Datum → Datum
set_payload_signaling f x = if is_payload f 1 x then snan f (integer_of f x) else zero_datum

-- ---- a law

-- the payload of the NaN with a payload is that payload
abbrev pub ArePayloadsKept : Type 0
ArePayloadsKept =
    (f : Format) → 3 ≤ f.precision → (payload : ℕ) → payload < 2 ^ payload_bits f
    → (get_payload f (set_payload f (integer_datum f false payload)) ≡ integer_datum f false payload)
    × (1 ≤ payload
    → get_payload f (set_payload_signaling f (integer_datum f false payload)) ≡ integer_datum f false payload)
