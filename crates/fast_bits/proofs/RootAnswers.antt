-- Square roots of numbers that are counted in quanta.
use Rattle.std.proofs.Common.{◌≡◌, ℕ, ◌+◌, ◌-◌, ◌*◌, ◌/◌, ◌%◌, ◌^◌, ◌<◌, ◌≤◌}
use Rattle.std.proofs.Common.{Option, Some, None, false, sym, ap, ◌∙◌, subst, inr, ⊎_elim, arith}
use Rattle.std.proofs.Math.Nat.{mod-eq_of_lt, mul-le-mul_left, mul-le-mul_right, mul-lt-mul_of_pos_right, mul-pos}
use Rattle.std.proofs.{Math.Nat.pow-le-pow_right, lemmas.Bool.cases_lt}
use Rattle.std.proofs.lemmas.Nat.{div-add-mod', mul-le, pow-add, pow_pos}
use Rattle.std.specs.Prelude.{IfSome}
use Rattle.apfloat_model.specs.arithmetic.Roots.{IsDeliveredRoot, IsRoot}
use Rattle.apfloat_model.specs.declared.{kinds.Round.Round, loss.Loss.Loss}
use Rattle.apfloat_model.specs.declared.loss.Loss.TheVariants.{ExactlyZero, LessThanHalf, ExactlyHalf, MoreThanHalf}
use Rattle.apfloat_model.specs.formats.{Datum.finite, Lawful.Constants, Lawful.format_with}
use Rattle.apfloat_model.specs.rounding.{Enclosure.IsEnclosed, Flags.bits_of, Rounding.IsDelivered, Standing.StandsFor}
use Rattle.apfloat_model.proofs.arithmetic.RootDeliveries.{root_delivered}
use Rattle.apfloat_model.proofs.arithmetic.RootSides.{AgreesWithRoot, agreeing, coarser, root_lt}
use Rattle.apfloat_model.proofs.{general.Powers.two_pos, rounding.KeptDigits.enclosed_from}
use Rattle.apfloat_words.specs.RootStanding.{RootStandsFor}
use Rattle.apfloat_words.proofs.RootSteps.{radicand_full}
use Rattle.apfloat_arithmetic.proofs.{RootCases.positive_root, RootStandings.stands}
use Rattle.fast_bits.specs.declared.{encoded.Encoded.Encoded, numbers.Number.Number}
use Rattle.fast_bits.specs.{Encoded.IsEncodedAnswer, Encoded.IsEncodedNumber, Numbers.IsFullNumber, Numbers.quanta_of}
use Rattle.fast_bits.proofs.Operands.{quanta_some}

-- ---- digits

-- the square of the integral root is not above the radicand
whole_low : (whole : ℕ) (loss : Loss) (square : ℕ) → RootStandsFor whole loss square → whole * whole ≤ square
whole_low whole ExactlyZero square s = omega (arith, s)
whole_low whole LessThanHalf square s = let a = s.0 in omega (arith, a)
whole_low whole ExactlyHalf square s = omega (arith, s)
whole_low whole MoreThanHalf square s = let a = s.0 in omega (arith, a)

-- the root of a significand with at most as many zeros as it has digits has no more digits
pub root_fits : (precision places m whole : ℕ) (loss : Loss) → places ≤ precision → m < 2 ^ precision
    → RootStandsFor whole loss (m * 2 ^ places) → whole < 2 ^ precision
root_fits precision places m whole loss short fits is =
    let most : 2 ^ places ≤ 2 ^ precision = pow-le-pow_right two_pos short in
    let low : m * 2 ^ places ≤ m * 2 ^ precision = mul-le-mul_left m most in
    let some : 0 < 2 ^ precision = pow_pos precision in
    let gap : 0 < (2 ^ precision - m) * 2 ^ precision = mul-pos (omega (arith, fits)) some in
    let split : 2 ^ precision ≡ m + (2 ^ precision - m) = omega (arith, fits) in
    let whole_square : 2 ^ precision * 2 ^ precision ≡ (m + (2 ^ precision - m)) * 2 ^ precision =
    ap (λ (x : ℕ). x * 2 ^ precision) split in
    root_lt whole (2 ^ precision) (omega (arith, low, gap, whole_square, whole_low whole loss (m * 2 ^ places) is))

-- the number is below the square after that of the integral root
square_above : (whole : ℕ) (loss : Loss) (square : ℕ) → RootStandsFor whole loss square
    → square < (whole + 1) * (whole + 1)
square_above whole ExactlyZero square s = omega (arith, s)
square_above whole LessThanHalf square s = let a = s.1 in omega (arith, a)
square_above whole ExactlyHalf square s = omega (arith, s)
square_above whole MoreThanHalf square s = s.1

-- the root of a significand with as many zeros as give it all digits has all of them
pub root_full : (precision places m whole : ℕ) (loss : Loss) → 0 < precision → precision ≤ places + 1
    → places ≤ precision → m < 2 ^ precision → 2 ^ (precision - 1) ≤ m
    → RootStandsFor whole loss (m * 2 ^ places) → 2 ^ (precision - 1) ≤ whole
root_full precision places m whole loss some long short fits full is =
    let radicand = radicand_full precision places m some long short fits full in
    let less : 2 ^ (precision - 1) < whole + 1 =
    root_lt (2 ^ (precision - 1)) (whole + 1) (omega (arith, radicand, square_above whole loss (m * 2 ^ places) is)) in
    omega (arith, less)

-- ---- guesses

-- a significand moved to the top of a word, or one place below it
pub root_top : (precision m odd : ℕ) → 0 < precision → precision ≤ 59 → odd ≤ 1
    → 2 ^ (precision - 1) ≤ m → m < 2 ^ precision → 2 ^ 62 ≤ m * 2 ^ (63 - precision + odd) % 2 ^ 64
root_top precision m odd some short few full fits =
    let low_is = pow-add 2 (precision - 1) (63 - precision + odd) in
    let high_is = pow-add 2 precision (63 - precision + odd) in
    let from : 62 ≤ precision - 1 + (63 - precision + odd) = omega (arith, some, short) in
    let to : precision + (63 - precision + odd) ≤ 64 = omega (arith, short, few) in
    let least : 2 ^ 62 ≤ 2 ^ (precision - 1 + (63 - precision + odd)) = pow-le-pow_right two_pos from in
    let most : 2 ^ (precision + (63 - precision + odd)) ≤ 2 ^ 64 = pow-le-pow_right two_pos to in
    let word : m * 2 ^ (63 - precision + odd) % 2 ^ 64 ≡ m * 2 ^ (63 - precision + odd) =
    mod-eq_of_lt (omega (arith, mul-lt-mul_of_pos_right fits (pow_pos (63 - precision + odd)), high_is, most)) in
    rw word (omega (arith, mul-le-mul_right (2 ^ (63 - precision + odd)) full, low_is, least))

-- a word without at least two of its digits
pub short_guess : (guess places : ℕ) → guess < 2 ^ 64 → 2 ≤ places → guess / 2 ^ places < 2 ^ 62
short_guess guess places fits some =
    let four : 2 ^ 2 ≤ 2 ^ places = pow-le-pow_right two_pos some in
    let all : guess / 2 ^ places * 2 ^ places + guess % 2 ^ places ≡ guess = div-add-mod' guess (2 ^ places) in
    ⊎_elim
    (λ (less : guess / 2 ^ places < 2 ^ 62). less)
    (λ (more : 2 ^ 62 ≤ guess / 2 ^ places).
    let product : 2 ^ 62 * 2 ^ 2 ≤ guess / 2 ^ places * 2 ^ places = mul-le _ _ _ _ more four in
    absurd (omega (arith, product, all, fits)))
    (cases_lt (guess / 2 ^ places) (2 ^ 62))

-- ---- rounding

-- the radicand in squares of the root's lowest digit
radicand_is : (m from scale zeros place : ℕ) → from + scale ≡ zeros + (place + place)
    → m * 2 ^ from * 2 ^ scale * (1 * 1) ≡ m * 2 ^ zeros * (2 ^ place * 2 ^ place)
radicand_is m from scale zeros place balance =
    let left : 2 ^ (from + scale) ≡ 2 ^ from * 2 ^ scale = pow-add 2 from scale in
    let right : 2 ^ (zeros + (place + place)) ≡ 2 ^ zeros * (2 ^ place * 2 ^ place) =
    pow-add 2 zeros (place + place) ∙ ap (λ (x : ℕ). 2 ^ zeros * x) (pow-add 2 place place) in
    let powers : 2 ^ from * 2 ^ scale ≡ 2 ^ zeros * (2 ^ place * 2 ^ place) =
    sym left ∙ ap (λ (x : ℕ). 2 ^ x) balance ∙ right in
    let scaled : m * (2 ^ from * 2 ^ scale) ≡ m * (2 ^ zeros * (2 ^ place * 2 ^ place)) =
    ap (λ (x : ℕ). m * x) powers in
    omega (arith, scaled)

-- a root whose digits and loss are encoded as those of any fraction that they represent
root_answered : (c : Constants) (mode : Round) (square radicand over whole : ℕ) (loss : Loss) (answer : Encoded)
    → 0 < over → square * (1 * 1) ≡ radicand * (over * over) → RootStandsFor whole loss radicand
    → ((amount parts : ℕ) → 0 < parts → StandsFor whole loss amount (over * parts)
    → IsEncodedNumber c mode false amount parts answer)
    → IsEncodedAnswer c (IsDeliveredRoot (format_with c) mode square 1) answer
root_answered c mode square radicand over whole loss answer some same is encoded =
    let g = agreeing square 4 (omega arith) in
    let halves : AgreesWithRoot square (2 * 1) g.amount g.parts =
    coarser square (2 * 1) 2 g.amount g.parts (omega arith) g.agrees in
    let there = stands square radicand over 1 g.amount g.parts some same halves whole loss is in
    let amount : g.amount * 1 ≡ g.amount = omega arith in
    let unit : g.parts * over ≡ over * g.parts = omega arith in
    let placed : StandsFor whole loss g.amount (over * g.parts) =
    subst (λ (x : ℕ). StandsFor whole loss x (over * g.parts)) amount
    (subst (λ (x : ℕ). StandsFor whole loss (g.amount * 1) x) unit there) in
    let whole_parts : g.parts ≡ g.parts * 1 = omega arith in
    let number = encoded g.amount g.parts g.agrees.some placed in
    record {
      value = finite false number.quanta;
      says =
          root_delivered square 1 g.amount g.parts g.agrees (format_with c) mode (finite false number.quanta)
          (bits_of answer.status)
          (subst (λ (x : ℕ). IsDelivered (format_with c) mode false g.amount x (finite false number.quanta)
          (bits_of answer.status)) whole_parts number.is_delivered);
      is_encoded = number.is_encoded;
    }

pub root_encoded : (c : Constants) (mode : Round) (m from zeros place whole : ℕ) (loss : Loss) (answer : Encoded)
    → 0 < c.precision → 2 ^ (c.precision - 1) ≤ whole → whole < 2 ^ c.precision
    → from + (format_with c).scale ≡ zeros + (place + place) → RootStandsFor whole loss (m * 2 ^ zeros)
    → ((amount parts : ℕ) → 0 < parts
    → IsEnclosed c.precision (2 ^ (c.precision - 1)) whole place amount parts
    → StandsFor whole loss amount (2 ^ place * parts)
    → IsEncodedNumber c mode false amount parts answer)
    → IsEncodedAnswer c (IsDeliveredRoot (format_with c) mode (m * 2 ^ from * 2 ^ (format_with c).scale) 1) answer
root_encoded c mode m from zeros place whole loss answer some full fits balance is encoded =
    root_answered c mode (m * 2 ^ from * 2 ^ (format_with c).scale) (m * 2 ^ zeros) (2 ^ place) whole loss answer
    (pow_pos place) (radicand_is m from (format_with c).scale zeros place balance) is
    (λ amount parts parts_some standing.
    encoded amount parts parts_some
    (enclosed_from c.precision whole place loss amount parts some parts_some fits (inr full) standing) standing)

-- ---- answers

-- the root of a positive number is the answer
pub root_if_some : (c : Constants) (mode : Round) (x : Number) (answer : Option Encoded) → IsFullNumber c x
    → x.negative ≡ false
    → IfSome answer (IsEncodedAnswer c
    (IsDeliveredRoot (format_with c) mode (quanta_of x * 2 ^ (format_with c).scale) 1))
    → IfSome answer (IsEncodedAnswer c (IsRoot (format_with c) mode (finite x.negative (quanta_of x))))
root_if_some c mode x None full positive given = given
root_if_some c mode x (Some encoded) full positive given = record {
  value = given.value;
  says =
      positive_root (format_with c) mode x.negative (quanta_of x) given.value (bits_of encoded.status)
      (quanta_some c x full) positive given.says;
  is_encoded = given.is_encoded;
}
