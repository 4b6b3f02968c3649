-- Values that are not NaNs, by their bits.
use Rattle.std.specs.Prelude.{◌≡◌, ℕ, zero, suc, ◌+◌, ◌-◌, ◌*◌, ◌^◌, ◌<◌, ◌⊎◌, Bool, ℤ}
use Rattle.apfloat_model.specs.{arithmetic.Exact.signed, bits.Layout.all_ones, bits.Layout.fields_of}
use Rattle.apfloat_model.specs.formats.{Datum.Datum, Datum.finite, Datum.infinite}
use Rattle.apfloat_model.specs.formats.Lawful.{Constants, format_with, layout_with}
use Rattle.fast_bits.specs.Encoded.{value_in}

-- how many quanta a biased exponent and a trailing significand stand for, also at the exponent of infinities
abbrev pub quanta_at : (least biased trailing : ℕ) → ℕ
quanta_at least zero trailing = trailing
quanta_at least (suc place) trailing = (least + trailing) * 2 ^ place

-- a number of fewer quanta than an infinity counts for, or an infinity
abbrev pub CountsFor : (top : ℕ) (negative : Bool) (n : ℕ) → Datum → Type 0
CountsFor top negative n x = ((x ≡ finite negative n) × (n < top)) ⊎ ((x ≡ infinite negative) × (n ≡ top))

-- The bits encode no NaN, and without the sign bit they are a number that has, with the sign, this value.
pub record IsPlaceOf (c : Constants) (bits : ℕ) (place : ℤ) : Type 0 where
  pub counts : let least = 2 ^ (c.precision - 1) in
      let x = fields_of (format_with c) (layout_with c) bits in
      CountsFor (quanta_at least (all_ones c.exp_bits) 0) x.negative
      (quanta_at least x.biased_exponent x.trailing) (value_in c bits)
  pub is : let x = fields_of (format_with c) (layout_with c) bits in
      place ≡ signed x.negative (x.biased_exponent * 2 ^ (c.precision - 1) + x.trailing)
  pub fits : let x = fields_of (format_with c) (layout_with c) bits in
      x.biased_exponent * 2 ^ (c.precision - 1) + x.trailing < 2 ^ 63
