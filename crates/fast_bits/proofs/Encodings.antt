-- The encoding of a normal number: its sign, its place and its significand, added.
use Rattle.std.proofs.Common.{◌≡◌, ℕ, ◌+◌, ◌-◌, ◌*◌, ◌^◌, ◌<◌, ◌≤◌, Bool, false, cond}
use Rattle.std.proofs.Common.{sym, refl, ap, ◌∙◌, subst, inr, ⊎_elim, arith}
use Rattle.std.proofs.{Math.Nat.pow-le-pow_right, Math.Nat.lt_of_lt_of_le, lemmas.Nat.pow_pos, lemmas.Bool.cases_lt}
use Rattle.apfloat_model.specs.{bits.Interchange.IsInterchange, bits.Layout.IsEncodedBy, formats.Datum.finite}
use Rattle.apfloat_model.specs.formats.{Format.largest, Lawful.Constants, Lawful.format_with, Lawful.layout_with}
use Rattle.apfloat_model.proofs.{general.Powers.twice_half, general.Powers.two_pos, rounding.Neighbours.carried}
use Rattle.apfloat_rounding.proofs.CutRests.{within_format}
use Rattle.fast_bits.proofs.lanes_lemmas.Codes.{code_encoded}

-- ---- within the largest value

-- a place with room for two more exponents is below the span of the exponents
inner_place : (c : Constants) (place : ℕ) → IsInterchange (format_with c) (layout_with c)
    → place + 5 ≤ 2 ^ c.exp_bits → place + 2 ≤ (format_with c).span
inner_place c place law inner = omega (arith, law.span, inner)

-- a significand that was rounded up, at such a place, is within the largest value
pub inner_within : (c : Constants) (n place : ℕ) → IsInterchange (format_with c) (layout_with c)
    → place + 5 ≤ 2 ^ c.exp_bits → n ≤ 2 ^ c.precision → n * 2 ^ place ≤ largest (format_with c)
inner_within c n place law inner fits =
    let precise = law.precise in
    let below = inner_place c place law inner in
    ⊎_elim
    (λ (less : n < 2 ^ c.precision). within_format (format_with c) n place precise less (omega (arith, below)))
    (λ (most : 2 ^ c.precision ≤ n).
    let halves : 2 * 2 ^ (c.precision - 1) ≡ 2 ^ c.precision = twice_half c.precision (omega (arith, precise)) in
    let half_some : 0 < 2 ^ (c.precision - 1) = pow_pos (c.precision - 1) in
    let half_low : 2 ^ (c.precision - 1) < 2 ^ c.precision = omega (arith, halves, half_some) in
    let top : n ≡ 2 * 2 ^ (c.precision - 1) = omega (arith, halves, fits, most) in
    let moved : n * 2 ^ place ≡ 2 ^ (c.precision - 1) * 2 ^ (place + 1) =
    ap (λ (x : ℕ). x * 2 ^ place) top ∙ carried (2 ^ (c.precision - 1)) place in
    subst (λ (x : ℕ). x ≤ largest (format_with c)) (sym moved)
    (within_format (format_with c) (2 ^ (c.precision - 1)) (place + 1) precise half_low (omega (arith, below))))
    (cases_lt n (2 ^ c.precision))

-- ---- the bits

-- a significand with all its digits, which may have been rounded up to the next power of two
pub encoded_inner : (c : Constants) (negative : Bool) (place n bits : ℕ) → IsInterchange (format_with c) (layout_with c)
    → c.explicit_integer_bit ≡ false → 2 ^ (c.precision - 1) ≤ n → n ≤ 2 ^ c.precision → place + 5 ≤ 2 ^ c.exp_bits
    → bits ≡ cond negative (2 ^ (c.bits - 1)) 0 + place * 2 ^ (c.precision - 1) + n
    → IsEncodedBy (format_with c) (layout_with c) bits (finite negative (n * 2 ^ place))
encoded_inner c negative place n bits law implied full fits inner is =
    let some : 0 < 2 ^ (c.precision - 1) = pow_pos (c.precision - 1) in
    code_encoded (format_with c) (layout_with c) negative place n bits law implied
    (λ none. absurd (omega (arith, none, full, some))) (inr full) fits (inner_within c n place law inner fits) is

-- the bits fit in a word
pub bits_fit : (c : Constants) (negative : Bool) (place n : ℕ) → IsInterchange (format_with c) (layout_with c)
    → c.explicit_integer_bit ≡ false → c.bits ≤ 64 → 2 ^ (c.precision - 1) ≤ n → n ≤ 2 ^ c.precision
    → place + 5 ≤ 2 ^ c.exp_bits → cond negative (2 ^ (c.bits - 1)) 0 + place * 2 ^ (c.precision - 1) + n < 2 ^ 64
bits_fit c negative place n law implied word full fits inner =
    let below = (encoded_inner c negative place n
    (cond negative (2 ^ (c.bits - 1)) 0 + place * 2 ^ (c.precision - 1) + n) law implied full fits inner refl).below in
    let most : 2 ^ c.bits ≤ 2 ^ 64 = pow-le-pow_right two_pos word in
    lt_of_lt_of_le below most
