-- Normal numbers that are read from bits.
use Rattle.std.proofs.Common.{◌≡◌, ℕ, ◌+◌, ◌-◌, ◌*◌, ◌/◌, ◌%◌, ◌^◌, ◌<◌, ◌≤◌}
use Rattle.std.proofs.Common.{Bool, true, false, eqb, refl, ⊎_elim, ap, ◌∙◌, subst, arith, pos, ◌-ℤ◌}
use Rattle.std.proofs.{Math.Nat.pow-le-pow_right, Math.Pow.mod-mod-pow, lemmas.Int.ints, lemmas.Nat.field_of}
use Rattle.std.proofs.lemmas.{Nat.mod_below, Nat.pow_pos, Bool.cases_lt, Bool.and_left, Bool.cond-false, Bool.ne_eqb}
use Rattle.apfloat_model.specs.declared.kinds.NonfiniteBehavior.{NonfiniteBehavior}
use Rattle.apfloat_model.specs.declared.kinds.NonfiniteBehavior.TheVariants.{IEEE754, NanOnly, NanNegativeZero}
use Rattle.apfloat_model.specs.formats.{Datum.finite, Format.Format}
use Rattle.apfloat_model.specs.formats.Lawful.{Constants, IsLawful, AreParameters, format_with, layout_with}
use Rattle.apfloat_model.specs.bits.{Interchange.IsInterchange, Layout.Layout, Layout.all_ones}
use Rattle.apfloat_model.specs.bits.Layout.{trailing_bits, fields_of, implied_datum, datum_of, datum_of_fields}
use Rattle.apfloat_model.proofs.general.Powers.{two_pos, lower_mod}
use Rattle.apfloat_model.proofs.bits.{EncodedOnce.fields_with, Encodings.lawful_interchange}
use Rattle.fast_bits.specs.{declared.numbers.Number.Number, Numbers.IsNumberOf}

-- the significand of a number with these fields, at its place
abbrev pub quanta_with : ℕ → ℕ → ℕ → ℕ
quanta_with precision biased trailing = (2 ^ (precision - 1) + trailing) * 2 ^ (biased - 1)

-- fields between those of zeros and those of the greatest exponent are those of a number, in each kind of format
number_of_fields : (kind : NonfiniteBehavior) (f : Format) (layout : Layout) (negative : Bool) (biased trailing : ℕ)
    → eqb biased 0 ≡ false → eqb biased (all_ones layout.exponent_bits) ≡ false
    → implied_datum kind f layout (fields_with negative biased trailing)
    ≡ finite negative (quanta_with f.precision biased trailing)
number_of_fields IEEE754 f layout negative biased trailing some few = rw (few, some) refl
number_of_fields NanOnly f layout negative biased trailing some few = rw (few, some) refl
number_of_fields NanNegativeZero f layout true biased trailing some few =
    rw (and_left (eqb biased 0) (eqb trailing 0) some, some) refl
number_of_fields NanNegativeZero f layout false biased trailing some few = rw some refl

pub number_read : (c : Constants) (bits : ℕ) → c.explicit_integer_bit ≡ false
    → 0 < (fields_of (format_with c) (layout_with c) bits).biased_exponent
    → (fields_of (format_with c) (layout_with c) bits).biased_exponent + 1 < 2 ^ c.exp_bits
    → datum_of (format_with c) (layout_with c) bits
    ≡ finite (fields_of (format_with c) (layout_with c) bits).negative
    (quanta_with c.precision (fields_of (format_with c) (layout_with c) bits).biased_exponent
    (fields_of (format_with c) (layout_with c) bits).trailing)
number_read c bits implied some few =
    let x = fields_of (format_with c) (layout_with c) bits in
    cond-false c.explicit_integer_bit _ _ implied
    ∙ number_of_fields c.nonfinite (format_with c) (layout_with c) x.negative x.biased_exponent x.trailing
    (ne_eqb x.biased_exponent 0 (λ e. omega arith))
    (ne_eqb x.biased_exponent (all_ones c.exp_bits) (λ e. omega arith))

pub trailing_low : (c : Constants) (bits : ℕ) → c.explicit_integer_bit ≡ false
    → (fields_of (format_with c) (layout_with c) bits).trailing < 2 ^ (c.precision - 1)
trailing_low c bits implied =
    let low : bits % 2 ^ trailing_bits (format_with c) < 2 ^ trailing_bits (format_with c) =
    mod_below bits (2 ^ trailing_bits (format_with c)) (pow_pos (trailing_bits (format_with c))) in
    let width : trailing_bits (format_with c) ≡ c.precision - 1 = cond-false c.explicit_integer_bit _ _ implied in
    let same : 2 ^ trailing_bits (format_with c) ≡ 2 ^ (c.precision - 1) = ap (λ (n : ℕ). 2 ^ n) width in
    omega arith

-- ---- the number of exponents

pub span_is : (c : Constants) → AreParameters c.precision c.min_exp c.max_exp
    → pos (format_with c).span ≡ c.max_exp -ℤ c.min_exp
span_is c are = omega (arith, ints, are)

-- there are fewer than 2 ^ 22 biased exponents
few_biased : (c : Constants) → IsLawful c → c.precision < c.bits → 2 ^ c.exp_bits < 2 ^ 22
few_biased c lawful wide =
    let are = lawful.parameters in
    omega (arith, ints, are, span_is c are, (lawful_interchange c lawful wide).span)

pub few_bits : (c : Constants) → IsLawful c → c.precision < c.bits → c.exp_bits < 22
few_bits c lawful wide =
    ⊎_elim (λ (few : c.exp_bits < 22). few)
    (λ (many : 22 ≤ c.exp_bits).
    let more : 2 ^ 22 ≤ 2 ^ c.exp_bits = pow-le-pow_right two_pos many in
    let less = few_biased c lawful wide in
    absurd (omega arith))
    (cases_lt c.exp_bits 22)

-- a biased exponent is below 2 ^ 22
pub biased_fits : (c : Constants) (bits digits result : ℕ) → IsLawful c → c.precision < c.bits
    → result ≡ bits % 2 ^ digits → digits ≡ c.exp_bits → result < 2 ^ 22
biased_fits c bits digits result lawful wide is all =
    let low : bits % 2 ^ digits < 2 ^ digits = mod_below bits (2 ^ digits) (pow_pos digits) in
    let same : 2 ^ digits ≡ 2 ^ c.exp_bits = ap (λ (n : ℕ). 2 ^ n) all in
    let few = few_biased c lawful wide in
    omega arith

-- the bits encode the number that the fields give
pub number_is : (c : Constants) (bits biased : ℕ) (x : Number) → c.explicit_integer_bit ≡ false
    → biased ≡ (fields_of (format_with c) (layout_with c) bits).biased_exponent → 0 < biased
    → biased + 1 < 2 ^ c.exp_bits → biased < 2 ^ 22
    → x.negative ≡ (fields_of (format_with c) (layout_with c) bits).negative → x.place ≡ biased - 1
    → x.significand ≡ 2 ^ (c.precision - 1) + (fields_of (format_with c) (layout_with c) bits).trailing
    → x.significand < 2 ^ c.precision → IsNumberOf c bits x
number_is c bits biased x implied biased_is some few near negative_is place_is significand_is fits =
    let fields = fields_of (format_with c) (layout_with c) bits in
    let some_there : 0 < fields.biased_exponent = subst (λ (n : ℕ). 0 < n) biased_is some in
    let few_there : fields.biased_exponent + 1 < 2 ^ c.exp_bits =
    subst (λ (n : ℕ). n + 1 < 2 ^ c.exp_bits) biased_is few in
    let place_there : x.place ≡ fields.biased_exponent - 1 = place_is ∙ ap (λ (n : ℕ). n - 1) biased_is in
    let read = number_read c bits implied some_there few_there in
    record {
      is_full = record { full = omega (arith, significand_is); fits = fits; near = omega (arith, place_is, near) };
      read = rw (negative_is, place_there, significand_is) read;
    }

-- ---- the low word

-- a field within a word
pub word_field : (n word k j : ℕ) → k + j ≤ word → n % 2 ^ word / 2 ^ k % 2 ^ j ≡ n / 2 ^ k % 2 ^ j
word_field n word k j room =
    let at : word ≡ word - (j + k) + j + k = omega (arith, room) in
    ap (λ (x : ℕ). n % 2 ^ x / 2 ^ k % 2 ^ j) at ∙ ap (λ (m : ℕ). m % 2 ^ j) (field_of n (word - (j + k) + j) k)
    ∙ mod-mod-pow (n / 2 ^ k) (word - (j + k)) j

-- a word that has all bits of a value encodes it
pub word_read : (c : Constants) (bits word : ℕ) → IsInterchange (format_with c) (layout_with c) → c.bits ≤ word
    → datum_of (format_with c) (layout_with c) (bits % 2 ^ word) ≡ datum_of (format_with c) (layout_with c) bits
word_read c bits word law room =
    let f = format_with c in
    let layout = layout_with c in
    let t = trailing_bits (format_with c) in
    let sign : bits % 2 ^ word / 2 ^ (c.bits - 1) % 2 ^ 1 ≡ bits / 2 ^ (c.bits - 1) % 2 ^ 1 =
    word_field bits word (c.bits - 1) 1 (omega (arith, law.bits, room)) in
    let biased : bits % 2 ^ word / 2 ^ t % 2 ^ c.exp_bits ≡ bits / 2 ^ t % 2 ^ c.exp_bits =
    word_field bits word t c.exp_bits (omega (arith, law.bits, room)) in
    let trailing : bits % 2 ^ word % 2 ^ t ≡ bits % 2 ^ t = lower_mod bits word t (omega (arith, law.bits, room)) in
    ap (λ (n : ℕ). datum_of_fields f layout (fields_with (eqb n 1) (bits % 2 ^ word / 2 ^ t % 2 ^ c.exp_bits)
    (bits % 2 ^ word % 2 ^ t))) sign
    ∙ ap (λ (n : ℕ). datum_of_fields f layout (fields_with (eqb (bits / 2 ^ (c.bits - 1) % 2) 1) n
    (bits % 2 ^ word % 2 ^ t))) biased
    ∙ ap (λ (n : ℕ). datum_of_fields f layout (fields_with (eqb (bits / 2 ^ (c.bits - 1) % 2) 1)
    (bits / 2 ^ t % 2 ^ c.exp_bits) n)) trailing
