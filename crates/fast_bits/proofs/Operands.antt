-- Sums and products of numbers that are counted in quanta.
use Rattle.std.proofs.Common.{◌≡◌, ℕ, ℤ, pos, ◌+ℤ◌, ◌-ℤ◌, ◌≤ℤ◌, ◌+◌, ◌-◌, ◌*◌, ◌/◌, ◌%◌, ◌^◌, ◌<◌, ◌≤◌, Bool, Option}
use Rattle.std.proofs.Common.{Some, None, sym, refl, ap, ◌∙◌, subst, arith}
use Rattle.std.proofs.Math.{Path.subst₂, Nat.mul-le-mul_left, Nat.mul-lt-mul_of_pos_right, Nat.mul-pos}
use Rattle.std.proofs.lemmas.{Int.ints, Nat.mod_below, Nat.pow-add, Nat.pow_pos}
use Rattle.std.specs.Prelude.{neg_ℤ, IfSome}
use Rattle.apfloat_model.specs.{declared.kinds.Round.Round, formats.Datum.Datum, formats.Datum.finite}
use Rattle.apfloat_model.specs.{formats.Lawful.Constants, formats.Lawful.format_with, order.Classes.is_nan}
use Rattle.apfloat_model.specs.arithmetic.Exact.{down, signed, up}
use Rattle.apfloat_model.specs.rounding.{Flags.bits_of, Rounding.IsDelivered, RoundingToOdd.IsRoundedToOdd}
use Rattle.apfloat_model.proofs.rounding.KeptDigits.{fits_cut, full_cut}
use Rattle.apfloat_words.specs.Totals.{counted, IsSignedToOdd}
use Rattle.apfloat_words.proofs.Totals.{no_down}
use Rattle.apfloat_rounding.proofs.CutRests.{IsSplitRest, split_encloses, split_fits, split_full, split_stands}
use Rattle.apfloat_rounding.proofs.OddCuts.{IsTopSplit, top_cut_encloses, top_cut_fits, top_cut_full, top_cut_stands}
use Rattle.apfloat_rounding.proofs.OddCuts.{top_fits, top_full}
use Rattle.apfloat_arithmetic.proofs.Additions.{IsRepresentedToOdd, read_odd_sum}
use Rattle.fast_bits.specs.{Encoded.IsEncodedNumber, Encoded.IsNumberAnswer, Numbers.IsFullNumber, Numbers.quanta_of}
use Rattle.fast_bits.specs.declared.{encoded.Encoded.Encoded, numbers.Number.Number}
use Rattle.fast_bits.proofs.Kept.{IsKeptNumber, word_room}

-- ---- sums

-- a significand at a place, counted from a base that is `digits` places below the quantum
quanta_from : (m place digits : ℕ) (base : ℤ) → (base +ℤ pos digits) ≡ pos 0
    → m * 2 ^ up (pos place -ℤ base) ≡ m * 2 ^ place * 2 ^ digits
quanta_from m place digits base at =
    let none : down (pos place -ℤ base) ≡ 0 = no_down (pos place -ℤ base) (omega (arith, ints, at)) in
    let places : up (pos place -ℤ base) ≡ place + digits = omega (arith, ints, at, none) in
    let power : 2 ^ up (pos place -ℤ base) ≡ 2 ^ place * 2 ^ digits =
    ap (λ (x : ℕ). 2 ^ x) places ∙ pow-add 2 place digits in
    let scaled : m * 2 ^ up (pos place -ℤ base) ≡ m * (2 ^ place * 2 ^ digits) = ap (λ (x : ℕ). m * x) power in
    omega (arith, scaled)

-- the sum of two terms whose exponents are places represents the sum of their numbers of quanta
pub total_read : (least digits m mp n np q : ℕ) (exponent : ℤ) (left right negative : Bool)
    → ((base : ℤ) → (base +ℤ pos digits) ≤ℤ pos mp → (base +ℤ pos digits) ≤ℤ pos np
    → IsSignedToOdd least base (counted base left (pos mp) m +ℤ counted base right (pos np) n) negative exponent q)
    → IsRepresentedToOdd least (signed left (m * 2 ^ mp) +ℤ signed right (n * 2 ^ np)) negative exponent q
total_read least digits m mp n np q exponent left right negative rounded =
    let base = neg_ℤ (pos digits) in
    let at : (neg_ℤ (pos digits) +ℤ pos digits) ≡ pos 0 = omega (arith, ints) in
    let total = rounded base (omega (arith, ints)) (omega (arith, ints)) in
    read_odd_sum least base exponent exponent digits (m * 2 ^ mp) (n * 2 ^ np) left right negative q
    (omega (arith, ints))
    (subst₂ (λ (z : ℕ) (v : ℕ). IsSignedToOdd least base (signed left z +ℤ signed right v) negative exponent q)
    (quanta_from m mp digits base at) (quanta_from n np digits base at) total)

-- ---- products

-- the product of two numbers, moved up
product_stands : (m from n to moved scale : ℕ)
    → m * 2 ^ from * (n * 2 ^ to) * 2 ^ (scale + moved) ≡ m * n * 2 ^ moved * (2 ^ scale * 2 ^ (from + to))
product_stands m from n to moved scale =
    let left : 2 ^ (scale + moved) ≡ 2 ^ scale * 2 ^ moved = pow-add 2 scale moved in
    let right : 2 ^ (from + to) ≡ 2 ^ from * 2 ^ to = pow-add 2 from to in
    let first : m * 2 ^ from * (n * 2 ^ to) * 2 ^ (scale + moved)
    ≡ m * 2 ^ from * (n * 2 ^ to) * (2 ^ scale * 2 ^ moved) =
    ap (λ (x : ℕ). m * 2 ^ from * (n * 2 ^ to) * x) left in
    let second : m * n * 2 ^ moved * (2 ^ scale * 2 ^ (from + to))
    ≡ m * n * 2 ^ moved * (2 ^ scale * (2 ^ from * 2 ^ to)) =
    ap (λ (x : ℕ). m * n * 2 ^ moved * (2 ^ scale * x)) right in
    omega (arith, first, second)

-- the highest digits of a product
pub product_kept : (precision m from n to moved scale product place half : ℕ) → 0 < precision
    → product ≡ m * n * 2 ^ moved → product < 2 ^ (2 * precision) → 2 ^ (2 * precision - 1) ≤ product
    → half ≡ 2 ^ (precision - 1) → place + (scale + moved) ≡ from + to + precision
    → IsKeptNumber precision (product / 2 ^ precision) (product % 2 ^ precision) half place
    (m * 2 ^ from * (n * 2 ^ to)) (2 ^ scale)
product_kept precision m from n to moved scale product place half some is fits full half_is balance =
    let digits : 2 * precision - precision ≡ precision = omega arith in
    let long : precision < 2 * precision = omega (arith, some) in
    let rest_is : product % 2 ^ precision ≡ product % 2 ^ (2 * precision - precision) =
    ap (λ (x : ℕ). product % 2 ^ x) (sym digits) in
    let half_there : half ≡ 2 ^ (2 * precision - precision - 1) = half_is ∙ ap (λ (x : ℕ). 2 ^ (x - 1)) (sym digits) in
    let split : IsSplitRest precision product (2 * precision) place (product % 2 ^ precision) half (from + to)
    (scale + moved) = record {
      some = some;
      long = long;
      fits = fits;
      full = full;
      half_is = half_there;
      rest_is = rest_is;
      place_is = omega (arith, balance);
    } in
    let stands = product_stands m from n to moved scale in
    let exact : m * 2 ^ from * (n * 2 ^ to) * 2 ^ (scale + moved) ≡ product * (2 ^ scale * 2 ^ (from + to)) =
    stands ∙ ap (λ (x : ℕ). x * (2 ^ scale * 2 ^ (from + to))) (sym is) in
    let there : IsKeptNumber precision (product / 2 ^ (2 * precision - precision)) (product % 2 ^ precision) half place
    (m * 2 ^ from * (n * 2 ^ to)) (2 ^ scale) = record {
      full = split_full precision product (2 * precision) some long full;
      fits = split_fits precision product (2 * precision) long fits;
      enclosed =
          split_encloses precision product (2 * precision) place (product % 2 ^ precision) half (from + to)
          (scale + moved) (m * 2 ^ from * (n * 2 ^ to)) (2 ^ scale) split (pow_pos scale) exact;
      stands =
          split_stands precision product (2 * precision) place (product % 2 ^ precision) half (from + to)
          (scale + moved) (m * 2 ^ from * (n * 2 ^ to)) (2 ^ scale) split (pow_pos scale) exact;
    } in
    subst
    (λ (x : ℕ). IsKeptNumber precision (product / 2 ^ x) (product % 2 ^ precision) half place
    (m * 2 ^ from * (n * 2 ^ to)) (2 ^ scale)) digits there

-- ---- products of significands

pub product_fits : (precision m n : ℕ) → m < 2 ^ precision → n < 2 ^ precision → m * n < 2 ^ (2 * precision)
product_fits precision m n left right =
    let twice : 2 * precision ≡ precision + precision = omega arith in
    let power : 2 ^ (2 * precision) ≡ 2 ^ precision * 2 ^ precision =
    ap (λ (x : ℕ). 2 ^ x) twice ∙ pow-add 2 precision precision in
    let low : m * n ≤ m * 2 ^ precision = mul-le-mul_left m (omega (arith, right)) in
    let high : m * 2 ^ precision < 2 ^ precision * 2 ^ precision = mul-lt-mul_of_pos_right left (pow_pos precision) in
    omega (arith, power, low, high)

-- the highest digits of a product with twice the digits
pub upper_fits : (precision product : ℕ) → 0 < precision → product < 2 ^ (2 * precision)
    → product / 2 ^ precision < 2 ^ precision
upper_fits precision product some fits =
    let digits : 2 * precision - precision ≡ precision = omega arith in
    let there = split_fits precision product (2 * precision) (omega (arith, some)) fits in
    subst (λ (x : ℕ). product / 2 ^ x < 2 ^ precision) digits there

pub upper_full : (precision product : ℕ) → 0 < precision → 2 ^ (2 * precision - 1) ≤ product
    → 2 ^ (precision - 1) ≤ product / 2 ^ precision
upper_full precision product some full =
    let digits : 2 * precision - precision ≡ precision = omega arith in
    let there = split_full precision product (2 * precision) some (omega (arith, some)) full in
    subst (λ (x : ℕ). 2 ^ (precision - 1) ≤ product / 2 ^ x) digits there

-- the lowest digits fit in a word
pub lower_fits : (precision product : ℕ) → precision ≤ 59 → product % 2 ^ precision < 2 ^ 63
lower_fits precision product short =
    word_room precision (product % 2 ^ precision) short (mod_below product (2 ^ precision) (pow_pos precision))

-- ---- a total that was rounded to odd

pub total_kept : (precision m digits top place last half up down amount parts : ℕ) → 3 ≤ precision → precision ≤ 59
    → digits ≤ 64 → 0 < digits → m < 2 ^ digits → 2 ^ (digits - 1) ≤ m → top ≡ m * 2 ^ (64 - digits)
    → last ≡ 2 ^ (64 - precision) → half ≡ 2 ^ (64 - precision - 1) → digits + up ≡ place + precision + down
    → 0 < parts → IsRoundedToOdd (2 ^ (precision + 1)) m (amount * 2 ^ down) (parts * 2 ^ up)
    → IsKeptNumber precision (top / last) (top % last) half place amount parts
total_kept precision m digits top place last half up down amount parts some short word any fits full top_is last_is
    half_is place_is parts_some rounded =
    let split : IsTopSplit 64 precision m digits top place (top % 2 ^ (64 - precision)) half up down = record {
      some = omega (arith, some);
      short = omega (arith, short);
      word = word;
      any = any;
      fits = fits;
      full = full;
      top_is = top_is;
      half_is = half_is;
      rest_is = refl;
      place_is = place_is;
    } in
    let there : IsKeptNumber precision (top / 2 ^ (64 - precision)) (top % 2 ^ (64 - precision)) half place amount
    parts =
    record {
      full = top_cut_full 64 precision m digits top place (top % 2 ^ (64 - precision)) half up down split;
      fits = top_cut_fits 64 precision m digits top place (top % 2 ^ (64 - precision)) half up down split;
      enclosed =
          top_cut_encloses 64 precision m digits top place (top % 2 ^ (64 - precision)) half up down amount parts split
          parts_some rounded;
      stands =
          top_cut_stands 64 precision m digits top place (top % 2 ^ (64 - precision)) half up down amount parts split
          parts_some rounded;
    } in
    subst (λ (x : ℕ). IsKeptNumber precision (top / x) (top % x) half place amount parts) (sym last_is) there

-- the highest digits of a significand at the top of a word are all those of the precision
pub total_full : (precision m digits top last : ℕ) → 3 ≤ precision → precision ≤ 59 → digits ≤ 64 → 0 < digits
    → m < 2 ^ digits → 2 ^ (digits - 1) ≤ m → top ≡ m * 2 ^ (64 - digits) → last ≡ 2 ^ (64 - precision)
    → (2 ^ (precision - 1) ≤ top / last) × (top / last < 2 ^ precision)
total_full precision m digits top last some short word any fits full top_is last_is =
    let low : 2 ^ (64 - 1) ≤ top =
    subst (λ (x : ℕ). 2 ^ (64 - 1) ≤ x) (sym top_is) (top_full 64 m digits any word full) in
    let high : top < 2 ^ 64 = subst (λ (x : ℕ). x < 2 ^ 64) (sym top_is) (top_fits 64 m digits word fits) in
    let precise : 0 < precision = omega (arith, some) in
    let places : 64 - precision + precision ≡ 64 = omega (arith, short) in
    subst (λ (x : ℕ). (2 ^ (precision - 1) ≤ top / x) × (top / x < 2 ^ precision)) (sym last_is) (
      full_cut top 64 (64 - precision) precision precise (λ _. low) (omega (arith, short)),
      fits_cut top 64 (64 - precision) precision high (omega (arith, short)),
    )

-- an encoded number is the answer that a relation asks for
pub answered_if_some : (c : Constants) (mode : Round) (negative sign : Bool) (amount parts : ℕ)
    (answer : Option Encoded) → negative ≡ sign → IfSome answer (IsEncodedNumber c mode negative amount parts)
    → IfSome answer (IsNumberAnswer c (IsDelivered (format_with c) mode sign amount parts))
answered_if_some c mode negative sign amount parts None same given = given
answered_if_some c mode negative sign amount parts (Some encoded) same given = record {
  is_answer = record {
    value = finite negative given.quanta;
    says = subst
        (λ (b : Bool). IsDelivered (format_with c) mode b amount parts (finite negative given.quanta)
        (bits_of encoded.status)) same given.is_delivered;
    is_encoded = given.is_encoded;
  };
  is_number = ap (λ (x : Datum). is_nan x) given.is_encoded.is;
}

-- a positive number of quanta
pub quanta_some : (c : Constants) (x : Number) → IsFullNumber c x → 0 < quanta_of x
quanta_some c x is =
    let whole : 0 < 2 ^ (c.precision - 1) = pow_pos (c.precision - 1) in
    mul-pos (omega (arith, is.full, whole)) (pow_pos x.place)
