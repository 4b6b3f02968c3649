-- Quotients and totals that are rounded to odd.
use Rattle.std.proofs.Common.{◌≡◌, ℕ, ℤ, pos, ◌+ℤ◌, ◌-ℤ◌, ◌≤ℤ◌, ◌+◌, ◌-◌, ◌*◌, ◌%◌, ◌^◌, ◌<◌, ◌≤◌, ◌⊎◌}
use Rattle.std.proofs.Common.{Bool, true, false, cond, eqb, Option, Some, None, refl, sym, ap, ◌∙◌, subst}
use Rattle.std.proofs.Common.{inl, inr, ⊎_elim, arith}
use Rattle.std.proofs.Math.{Path.subst₂, Nat.add-mul-mod_self_right, Nat.eq_of_mul-eq-mul_right, Nat.mod-eq_of_lt}
use Rattle.std.proofs.Math.Nat.{mul-le-mul_right, mul-pos}
use Rattle.std.proofs.lemmas.{Bool.cases_lt, Bool.eq-eqb, Bool.ne_eqb, Int.ints, Nat.pow-add, Nat.pow_pos}
use Rattle.std.specs.Prelude.{neg_ℤ, IfSome}
use Rattle.apfloat_model.specs.rounding.{RoundingToOdd.IsRoundedToOdd, RoundingToOdd.odd_for_rest}
use Rattle.apfloat_model.specs.rounding.{RoundingToOdd.odd_quotient, Standing.up, Standing.down}
use Rattle.apfloat_model.proofs.general.Powers.{exponent_below, pow3}
use Rattle.apfloat_model.proofs.rounding.OddRoundings.{long_to_odd, quotient_to_odd, to_odd_cancel, to_odd_times}
use Rattle.apfloat_words.proofs.{LongDivisions.whole_quotient, PowerRests.left_of, WideTotals.to_odd_again}
use Rattle.apfloat_words.{specs.Totals.IsSignedToOdd, specs.Totals.counted, proofs.Totals.no_down}
use Rattle.apfloat_arithmetic.proofs.Additions.{IsRepresentedToOdd, read_odd_sum}
use Rattle.apfloat_arithmetic.proofs.WordQuotients.{IsClose, moved_close, moved_fits, moved_places}
use Rattle.apfloat_arithmetic.proofs.WordQuotients.{odd_quotient_fits, odd_quotient_long, quotient_long}
use Rattle.apfloat_model.specs.arithmetic.{Exact.product_sign, Exact.signed, Quotients.IsQuotient}
use Rattle.apfloat_model.specs.{declared.kinds.Round.Round, formats.Datum.Datum, formats.Datum.finite}
use Rattle.apfloat_model.specs.{formats.Lawful.Constants, formats.Lawful.format_with, order.Classes.is_nan}
use Rattle.apfloat_arithmetic.proofs.ZeroAnswers.{some_quotient}
use Rattle.fast_bits.specs.declared.{encoded.Encoded.Encoded, numbers.Number.Number}
use Rattle.fast_bits.specs.{Encoded.IsEncodedNumber, Encoded.IsNumberAnswer, Numbers.IsFullNumber, Numbers.quanta_of}
use Rattle.fast_bits.proofs.Operands.{quanta_some}

-- ---- units

-- an amount and a unit by factors of the same ratio
pub to_odd_rescaled : (least q amount unit a b c d : ℕ) → 0 < a → 0 < c → b * c ≡ d * a
    → IsRoundedToOdd least q (amount * a) (unit * b) → IsRoundedToOdd least q (amount * c) (unit * d)
to_odd_rescaled least q amount unit a b c d some any ratio given =
    let scaled : unit * (b * c) ≡ unit * (d * a) = ap (λ (x : ℕ). unit * x) ratio in
    let left : amount * a * c ≡ amount * c * a = omega arith in
    let right : unit * b * c ≡ unit * d * a = omega (arith, scaled) in
    to_odd_cancel least q (amount * c) (unit * d) a some
    (subst₂ (λ (x : ℕ) (y : ℕ). IsRoundedToOdd least q x y) left right
    (to_odd_times least q (amount * a) (unit * b) c any given))

-- ---- quotients

-- what a difference that wraps around leaves of a number, if that is less than twice the divisor
pub left_of_guess : (n taken d size : ℕ) → n < size → taken + 2 * d ≤ size
    → (n + (size - taken)) % size < 2 * d → taken + (n + (size - taken)) % size ≡ n
left_of_guess n taken d size fits room less =
    ⊎_elim
    (λ (l : n < taken).
    let same : (n + (size - taken)) % size ≡ n + (size - taken) = mod-eq_of_lt (omega (arith, l, room)) in
    absurd (omega (arith, same, less, room)))
    (λ (l : taken ≤ n).
    let moved : n + (size - taken) ≡ n - taken + 1 * size = omega (arith, l, room) in
    let same : (n + (size - taken)) % size ≡ n - taken =
    ap (λ (x : ℕ). x % size) moved ∙ add-mul-mod_self_right (n - taken) 1 size
    ∙ mod-eq_of_lt (omega (arith, fits)) in
    omega (arith, same, l))
    (cases_lt n taken)

odd_once : (q d rest n s : ℕ) (lost : Bool) → q * d + rest ≡ n → rest < d → (lost ≡ true → rest ≡ 0 → ⊥)
    → (lost ≡ false → rest ≡ 0) → s ≡ cond lost (q + (1 - q % 2)) q → s ≡ odd_quotient n d
odd_once q d rest n s true is below some none given =
    let last : eqb rest 0 ≡ false = ne_eqb rest 0 (some refl) in
    let odd : s ≡ cond false q (q + 1 - q % 2) = omega (arith, given) in
    subst₂ (λ (x : ℕ) (y : ℕ). s ≡ odd_for_rest x y) (whole_quotient q d rest n is below) (left_of q d rest n is below)
    (subst (λ (b : Bool). s ≡ cond b q (q + 1 - q % 2)) (sym last) odd)
odd_once q d rest n s false is below some none given =
    let last : eqb rest 0 ≡ true = eq-eqb rest 0 (none refl) in
    subst₂ (λ (x : ℕ) (y : ℕ). s ≡ odd_for_rest x y) (whole_quotient q d rest n is below) (left_of q d rest n is below)
    (subst (λ (b : Bool). s ≡ cond b q (q + 1 - q % 2)) (sym last) given)

-- the quotient by a guess that is right or one less, and what it leaves of the dividend
pub odd_of_guess : (guess left d less n s : ℕ) (lost : Bool) → guess * d + left ≡ n → left < 2 * d
    → (left < d → less ≡ 1) → (d ≤ left → less ≡ 0) → (lost ≡ true → (left ≡ 0 → ⊥) × (left ≡ d → ⊥))
    → (lost ≡ false → (left ≡ 0) ⊎ (left ≡ d))
    → s ≡ cond lost (guess + 1 - less + (1 - (guess + 1 - less) % 2)) (guess + 1 - less) → s ≡ odd_quotient n d
odd_of_guess guess left d less n s lost is below fewer close some none given =
    ⊎_elim
    (λ (l : left < d).
    let q : guess + 1 - less ≡ guess = omega (arith, fewer l) in
    odd_once guess d left n s lost is l (λ e. (some e).0)
    (λ e. ⊎_elim (λ (z : left ≡ 0). z) (λ (z : left ≡ d). absurd (omega (arith, z, l))) (none e))
    (subst (λ (x : ℕ). s ≡ cond lost (x + (1 - x % 2)) x) q given))
    (λ (l : d ≤ left).
    let q : guess + 1 - less ≡ guess + 1 = omega (arith, close l) in
    odd_once (guess + 1) d (left - d) n s lost (omega (arith, is, l)) (omega (arith, below, l))
    (λ e z. (some e).1 (omega (arith, z, l)))
    (λ e. ⊎_elim (λ (z : left ≡ 0). omega (arith, z)) (λ (z : left ≡ d). omega (arith, z)) (none e))
    (subst (λ (x : ℕ). s ≡ cond lost (x + (1 - x % 2)) x) q given))
    (cases_lt left d)

-- two numbers, the first of which is moved up if its significand is less
pub are_close : (c : Constants) (x y : Number) (up : ℕ) → 3 ≤ c.precision → IsFullNumber c x → IsFullNumber c y
    → (x.significand < y.significand → up ≡ 1) → (y.significand ≤ x.significand → up ≡ 0)
    → IsClose x.significand y.significand c.precision up
are_close c x y up some left right less close = record {
  some = omega (arith, some);
  dividend_fits = left.fits;
  dividend_full = left.full;
  divisor_fits = right.fits;
  divisor_full = right.full;
  less = less;
  close = close;
}

-- a quotient with two digits more than the precision
pub record IsLongQuotient (precision m n up q : ℕ) : Type 0 where
  pub fits : q < 2 ^ (precision + 2)
  pub full : 2 ^ (precision + 2 - 1) ≤ q
  pub rounded : IsRoundedToOdd (2 ^ (precision + 1)) q (m * 2 ^ (precision + 1 + up)) n

pub is_long : (precision m n up q : ℕ) → precision ≤ 59 → IsClose m n precision up
    → q ≡ odd_quotient (m * 2 ^ up % 2 ^ 64 * 2 ^ (precision + 1)) n → IsLongQuotient precision m n up q
is_long precision m n up q short close is =
    let places = precision + 1 in
    let some : 0 < n = omega (arith, close.divisor_full, pow_pos (precision - 1)) in
    let there : q ≡ odd_quotient (m * 2 ^ up * 2 ^ places) n =
    is ∙ ap (λ (x : ℕ). odd_quotient (x * 2 ^ places) n) (moved_fits m n precision up short close) in
    let near = moved_close m n precision up close in
    let digits : places + 1 ≡ precision + 2 = omega arith in
    let last : places ≡ precision + 2 - 1 = omega arith in
    record {
      fits =
          subst (λ (x : ℕ). q < 2 ^ x) digits (odd_quotient_fits q (m * 2 ^ up) n places some near.1 there);
      full =
          subst (λ (x : ℕ). 2 ^ x ≤ q) last (odd_quotient_long q (m * 2 ^ up) n places some near.0 there);
      rounded =
          subst₂ (λ (x : ℕ) (y : ℕ). IsRoundedToOdd (2 ^ places) x y n) (sym there) (moved_places m up places)
          (quotient_to_odd (2 ^ places) (m * 2 ^ up * 2 ^ places) n some
          (quotient_long (m * 2 ^ up) n places some near.0));
    }

-- a quotient of significands as that of their numbers of quanta
pub quotient_in_quanta : (least q m from n to scale places up down : ℕ) → to + up + places ≡ from + scale + down
    → IsRoundedToOdd least q (m * 2 ^ places) n
    → IsRoundedToOdd least q (m * 2 ^ from * 2 ^ scale * 2 ^ down) (n * 2 ^ to * 2 ^ up)
quotient_in_quanta least q m from n to scale places up down balance given =
    let c = 2 ^ from * 2 ^ scale * 2 ^ down in
    let power : 2 ^ from * 2 ^ scale * 2 ^ down ≡ 2 ^ to * 2 ^ up * 2 ^ places =
    sym (pow3 from scale down) ∙ ap (λ (x : ℕ). 2 ^ x) (sym balance) ∙ pow3 to up places in
    let one : n ≡ n * 1 = omega arith in
    let ratio : 1 * c ≡ 2 ^ to * 2 ^ up * 2 ^ places = omega (arith, power) in
    let left : m * c ≡ m * 2 ^ from * 2 ^ scale * 2 ^ down = omega arith in
    let right : n * (2 ^ to * 2 ^ up) ≡ n * 2 ^ to * 2 ^ up = omega arith in
    subst₂ (λ (x : ℕ) (y : ℕ). IsRoundedToOdd least q x y) left right
    (to_odd_rescaled least q m n (2 ^ places) 1 c (2 ^ to * 2 ^ up) (pow_pos places)
    (mul-pos (mul-pos (pow_pos from) (pow_pos scale)) (pow_pos down)) ratio
    (subst (λ (x : ℕ). IsRoundedToOdd least q (m * 2 ^ places) x) one given))

-- an encoded quotient of numbers is that of their values
pub quotient_if_some : (c : Constants) (mode : Round) (x y : Number) (answer : Option Encoded) → IsFullNumber c y
    → IfSome answer (IsEncodedNumber c mode (product_sign x.negative y.negative)
    (quanta_of x * 2 ^ (format_with c).scale) (quanta_of y))
    → IfSome answer (IsNumberAnswer c
    (IsQuotient (format_with c) mode (finite x.negative (quanta_of x)) (finite y.negative (quanta_of y))))
quotient_if_some c mode x y None full given = given
quotient_if_some c mode x y (Some encoded) full given = record {
  is_answer = record {
    value = finite (product_sign x.negative y.negative) given.quanta;
    says =
        some_quotient (format_with c) mode x.negative y.negative (quanta_of x) (quanta_of y) _ _ (quanta_some c y full)
        given.is_delivered;
    is_encoded = given.is_encoded;
  };
  is_number = ap (λ (datum : Datum). is_nan datum) given.is_encoded.is;
}

-- ---- fused sums

-- a product of significands that was moved up counts the product of their numbers of quanta
pub product_counted : (m from n to moved s : ℕ) (exponent : ℤ) → (exponent +ℤ pos moved) ≡ pos (from + to)
    → s ≡ m * n * 2 ^ moved → s * 2 ^ up exponent ≡ m * 2 ^ from * (n * 2 ^ to) * 2 ^ down exponent
product_counted m from n to moved s exponent at is =
    let balance : moved + up exponent ≡ from + to + down exponent = omega (arith, ints, at) in
    let power : 2 ^ moved * 2 ^ up exponent ≡ 2 ^ from * 2 ^ to * 2 ^ down exponent =
    sym (pow-add 2 moved (up exponent)) ∙ ap (λ (x : ℕ). 2 ^ x) balance ∙ pow3 from to (down exponent) in
    let scaled : m * n * (2 ^ moved * 2 ^ up exponent) ≡ m * n * (2 ^ from * 2 ^ to * 2 ^ down exponent) =
    ap (λ (x : ℕ). m * n * x) power in
    let whole : s * 2 ^ up exponent ≡ m * n * 2 ^ moved * 2 ^ up exponent = ap (λ (x : ℕ). x * 2 ^ up exponent) is in
    omega (arith, whole, scaled)

-- an addend that was moved up counts its number of quanta, scaled
pub addend_counted : (m place scale moved s : ℕ) (exponent : ℤ) → (exponent +ℤ pos moved) ≡ pos (place + scale)
    → s ≡ m * 2 ^ moved → s * 2 ^ up exponent ≡ m * 2 ^ place * 2 ^ scale * 2 ^ down exponent
addend_counted m place scale moved s exponent at is =
    let one : s ≡ m * 1 * 2 ^ moved = omega (arith, is) in
    omega (arith, product_counted m place 1 scale moved s exponent at one)

-- what a term counts, in a small unit
counted_from : (amount s k : ℕ) (exponent base : ℤ) → base ≤ℤ exponent → (base +ℤ pos k) ≡ pos 0
    → s * 2 ^ up exponent ≡ amount * 2 ^ down exponent → s * 2 ^ up (exponent -ℤ base) ≡ amount * 2 ^ k
counted_from amount s k exponent base below at is =
    let none : down (exponent -ℤ base) ≡ 0 = no_down (exponent -ℤ base) (omega (arith, ints, below)) in
    let balance : up (exponent -ℤ base) + down exponent ≡ up exponent + k = omega (arith, ints, at, none) in
    let power : 2 ^ up (exponent -ℤ base) * 2 ^ down exponent ≡ 2 ^ up exponent * 2 ^ k =
    sym (pow-add 2 (up (exponent -ℤ base)) (down exponent)) ∙ ap (λ (x : ℕ). 2 ^ x) balance
    ∙ pow-add 2 (up exponent) k in
    let scaled : s * (2 ^ up (exponent -ℤ base) * 2 ^ down exponent) ≡ s * (2 ^ up exponent * 2 ^ k) =
    ap (λ (x : ℕ). s * x) power in
    let counted : s * 2 ^ up exponent * 2 ^ k ≡ amount * 2 ^ down exponent * 2 ^ k = ap (λ (x : ℕ). x * 2 ^ k) is in
    eq_of_mul-eq-mul_right (2 ^ down exponent) (pow_pos (down exponent)) (s * 2 ^ up (exponent -ℤ base))
    (amount * 2 ^ k) (omega (arith, scaled, counted))

-- the total of two terms, rounded to odd, represents the sum of what they count
pub total_of_terms : (least digits bound : ℕ) (x y e : ℤ) (left right negative : Bool) (s t m n q : ℕ)
    → neg_ℤ (pos bound) ≤ℤ x → neg_ℤ (pos bound) ≤ℤ y → s * 2 ^ up x ≡ m * 2 ^ down x → t * 2 ^ up y ≡ n * 2 ^ down y
    → ((base : ℤ) → (base +ℤ pos digits) ≤ℤ x → (base +ℤ pos digits) ≤ℤ y
    → IsSignedToOdd least base (counted base left x s +ℤ counted base right y t) negative e q)
    → IsRepresentedToOdd least (signed left m +ℤ signed right n) negative e q
total_of_terms least digits bound x y e left right negative s t m n q above over first second total =
    let base = neg_ℤ (pos (bound + digits)) in
    let at : (neg_ℤ (pos (bound + digits)) +ℤ pos (bound + digits)) ≡ pos 0 = omega (arith, ints) in
    read_odd_sum least base e e (bound + digits) m n left right negative q (omega (arith, ints))
    (subst₂ (λ (z : ℕ) (v : ℕ). IsSignedToOdd least base (signed left z +ℤ signed right v) negative e q)
    (counted_from m s (bound + digits) x base (omega (arith, ints, above)) at first)
    (counted_from n t (bound + digits) y base (omega (arith, ints, over)) at second)
    (total base (omega (arith, ints, above)) (omega (arith, ints, over))))

pub odd_above : (lost : Bool) (n s : ℕ) → s ≡ cond lost (n + (1 - n % 2)) n → n ≤ s
odd_above true n s is = omega (arith, is)
odd_above false n s is = omega (arith, is)

-- the highest 64 digits of a total, rounded to odd, are those of the amount that it was rounded from
pub upper_to_odd : (least q word s amount unit : ℕ) → least ≤ word → 0 < unit → q * 2 ^ s < 2 ^ 128
    → IsRoundedToOdd 1 word (q * 2 ^ s) (2 ^ 64) → IsRoundedToOdd (2 ^ 125) q amount unit
    → IsRoundedToOdd least word (amount * 2 ^ s) (unit * 2 ^ 64)
upper_to_odd least q word s amount unit long some fits upper (inl is) =
    let exact : q * 2 ^ s * unit ≡ amount * 2 ^ s = omega (arith, ap (λ (x : ℕ). x * 2 ^ s) is) in
    let same : 2 ^ 64 * unit ≡ unit * 2 ^ 64 = omega arith in
    long_to_odd least 1 word (amount * 2 ^ s) (unit * 2 ^ 64) long
    (subst₂ (λ (x : ℕ) (y : ℕ). IsRoundedToOdd 1 word x y) exact same
    (to_odd_times 1 word (q * 2 ^ s) (2 ^ 64) unit some upper))
upper_to_odd least q word s amount unit long some fits upper (inr near) =
    let few : 125 + s < 128 = exponent_below (125 + s) 128
    (let power : 2 ^ (125 + s) ≡ 2 ^ 125 * 2 ^ s = pow-add 2 125 s in
    omega (arith, power, fits, mul-le-mul_right (2 ^ s) near.long)) in
    let places = 64 - s in
    let power : 2 ^ 64 ≡ 2 ^ places * 2 ^ s =
    ap (λ (x : ℕ). 2 ^ x) (let e : 64 ≡ 64 - s + s = omega (arith, few) in e) ∙ pow-add 2 places s in
    let cut = to_odd_cancel 1 word q (2 ^ places) (2 ^ s) (pow_pos s)
    (subst (λ (x : ℕ). IsRoundedToOdd 1 word (q * 2 ^ s) x) power upper) in
    let again = to_odd_again least (2 ^ 125) word q amount unit places some long cut (inr near) in
    let same : 2 ^ places * unit * 2 ^ s ≡ unit * 2 ^ 64 = omega (arith, ap (λ (x : ℕ). unit * x) power) in
    subst (λ (x : ℕ). IsRoundedToOdd least word (amount * 2 ^ s) x) same
    (to_odd_times least word amount (2 ^ places * unit) (2 ^ s) (pow_pos s) again)

-- the highest digits of a total, in quanta
pub total_in_quanta : (least q amount s scale : ℕ) (exponent place : ℤ)
    → (place +ℤ pos (scale + s)) ≡ (exponent +ℤ pos 64)
    → IsRoundedToOdd least q (amount * 2 ^ down exponent * 2 ^ s) (1 * 2 ^ up exponent * 2 ^ 64)
    → IsRoundedToOdd least q (amount * 2 ^ down place) (2 ^ scale * 2 ^ up place)
total_in_quanta least q amount s scale exponent place at given =
    let balance : up exponent + 64 + down place ≡ scale + up place + (down exponent + s) = omega (arith, ints, at) in
    let power : 2 ^ up exponent * 2 ^ 64 * 2 ^ down place ≡ 2 ^ scale * 2 ^ up place * 2 ^ (down exponent + s) =
    sym (pow3 (up exponent) 64 (down place)) ∙ ap (λ (x : ℕ). 2 ^ x) balance
    ∙ pow3 scale (up place) (down exponent + s) in
    let left : amount * 2 ^ down exponent * 2 ^ s ≡ amount * 2 ^ (down exponent + s) =
    omega (arith, ap (λ (x : ℕ). amount * x) (pow-add 2 (down exponent) s)) in
    let right : 1 * 2 ^ up exponent * 2 ^ 64 ≡ 1 * (2 ^ up exponent * 2 ^ 64) = omega arith in
    let one : 1 * (2 ^ scale * 2 ^ up place) ≡ 2 ^ scale * 2 ^ up place = omega arith in
    subst (λ (x : ℕ). IsRoundedToOdd least q (amount * 2 ^ down place) x) one
    (to_odd_rescaled least q amount 1 (2 ^ (down exponent + s)) (2 ^ up exponent * 2 ^ 64) (2 ^ down place)
    (2 ^ scale * 2 ^ up place) (pow_pos (down exponent + s)) (pow_pos (down place)) power
    (subst₂ (λ (x : ℕ) (y : ℕ). IsRoundedToOdd least q x y) left right given))
