-- Decimals, rounded to odd and encoded.
use Rattle.std.proofs.Common.{ℕ, ◌+◌, ◌*◌, ◌^◌, ◌≤◌, ℤ, pos, ◌+ℤ◌, Bool, inl, subst, arith}
use Rattle.std.proofs.{Common.List, Common.Option, Common.Some, Common.None, Math.Nat.pow-le-pow_right}
use Rattle.std.specs.Prelude.{IfSome}
use Rattle.apfloat_model.specs.{declared.kinds.Round.Round, formats.Datum.finite, formats.Lawful.Constants}
use Rattle.apfloat_model.specs.{formats.Lawful.format_with, rounding.Flags.bits_of}
use Rattle.apfloat_model.specs.rounding.{Rounding.IsDelivered, RoundingToOdd.IsRoundedToOdd, Standing.up, Standing.down}
use Rattle.apfloat_model.proofs.{general.Powers.two_pos, rounding.OddRoundings.to_odd_least}
use Rattle.apfloat_decimals.specs.{DecimalTexts.IsDecimalReading, OddDecimals.IsOddDecimal, Parsing.Spells}
use Rattle.apfloat_decimals.proofs.cuts.OddProducts.{quanta_odd}
use Rattle.fast_bits.specs.{declared.encoded.Encoded.Encoded, Encoded.IsEncodedAnswer, Encoded.IsEncodedNumber}

-- a decimal rounded to odd is so in quanta, with two digits more than a format of at most 59 digits keeps
pub decimal_odd : (precision digits s scale : ℕ) (exponent place : ℤ) → precision ≤ 59
    → IsOddDecimal digits exponent s place
    → IsRoundedToOdd (2 ^ (precision + 1)) s
    (digits * 10 ^ up exponent * 2 ^ scale * 2 ^ down (place +ℤ pos scale))
    (10 ^ down exponent * 2 ^ up (place +ℤ pos scale))
decimal_odd precision digits s scale exponent place short odd =
    let few : precision + 1 ≤ 60 = omega (arith, short) in
    let least : 2 ^ (precision + 1) ≤ 2 ^ 60 = pow-le-pow_right two_pos few in
    quanta_odd (2 ^ (precision + 1)) s (digits * 10 ^ up exponent) (10 ^ down exponent) scale place
    (to_odd_least (2 ^ 60) (2 ^ (precision + 1)) s (digits * 10 ^ up exponent * 2 ^ down place)
    (10 ^ down exponent * 2 ^ up place) least odd.rounded)

-- an encoded number that a text spells is the value of the text
pub spelled_if_some : (c : Constants) (mode : Round) (text : List ℕ) (negative : Bool) (digits : ℕ) (exponent : ℤ)
    (answer : Option Encoded) → Spells text negative digits exponent
    → IfSome answer (IsEncodedNumber c mode negative (digits * 10 ^ up exponent * 2 ^ (format_with c).scale)
    (10 ^ down exponent))
    → IfSome answer (IsEncodedAnswer c (IsDecimalReading (format_with c) mode text))
spelled_if_some c mode text negative digits exponent None spells given = given
spelled_if_some c mode text negative digits exponent (Some encoded) spells given = record {
  value = finite negative given.quanta;
  says = inl (record {
    digits = digits;
    exponent = exponent;
    is_text = spells.is_text;
    delivered = subst
        (λ (b : Bool). IsDelivered (format_with c) mode b (digits * 10 ^ up exponent * 2 ^ (format_with c).scale)
        (10 ^ down exponent) (finite negative given.quanta) (bits_of encoded.status)) spells.sign given.is_delivered;
  });
  is_encoded = given.is_encoded;
}
