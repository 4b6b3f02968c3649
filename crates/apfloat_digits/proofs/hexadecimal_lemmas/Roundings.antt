-- A value rounded to a number of digits, and that the result is the only one.
use Rattle.std.proofs.Common.{◌≡◌, ℕ, zero, suc, ◌+◌, ◌-◌, ◌*◌, ◌%◌, ◌^◌, ◌<◌, ◌≤◌, Bool, true, false, cond, eqb, refl}
use Rattle.std.proofs.Common.{sym, ap, ◌∙◌, subst, ⊎_elim, arith, List, ℤ, pos, ◌+ℤ◌}
use Rattle.std.proofs.Math.Nat.{lt_of_mul-lt-mul_right, pow-le-pow_right}
use Rattle.std.proofs.lemmas.{Bool.MatchBool-at_false, Bool.cases_lt, Bool.ne_eqb, Int.ints, Nat.pow-add, Nat.pow_pos}
use Rattle.apfloat_model.specs.{formats.Format.Format, rounding.Enclosure.rounds_up, rounding.Standing.StandsFor}
use Rattle.apfloat_model.specs.arithmetic.{Exact.up, Exact.down, Exponents.IsLogarithm}
use Rattle.apfloat_model.specs.declared.{kinds.Round.Round, loss.Loss.Loss, loss.Loss.TheVariants.ExactlyZero}
use Rattle.apfloat_model.specs.formats.Datum.{Datum, finite, infinite, nan}
use Rattle.apfloat_model.specs.whole_numbers.WholeNumbers.{whole_pick}
use Rattle.apfloat_model.proofs.{general.Powers.two_pos, rounding.Losses.stands_from, rounding.Losses.stands_to}
use Rattle.apfloat_model.proofs.arithmetic.Inverses.{logarithm_once}
use Rattle.apfloat_conversions.proofs.Wholes.{whole_at, exact_at}
use Rattle.apfloat_decimals.proofs.numbers.DecimalPowers.{stands_moved}
use Rattle.apfloat_digits.specs.hexadecimal.HexTexts.{last_place, number_text}
use Rattle.apfloat_digits.specs.hexadecimal.RoundedTexts.{units, unit, IsHexCarried, IsHexRoundedNumber, IsRoundedText}
use Rattle.apfloat_digits.specs.hexadecimal.RoundedTexts.{IsRoundedHexText}
use Rattle.apfloat_digits.proofs.hexadecimal_lemmas.{Numbers.sixteens, AlignedDigits.IsWide}

-- ---- the digits that are kept

-- the first digits of a value, and the loss below them
pub record IsHexCut (f : Format) (q places s : ℕ) (loss : Loss) (first : ℤ) : Type 0 where
  pub low : 16 ^ places ≤ s
  pub high : s < 2 * 16 ^ places
  pub stands : StandsFor s loss (units f q places first) (unit f places first)

pub cut_of : (f : Format) (q places digits s k : ℕ) (loss : Loss) (first : ℤ) → places ≤ 31 → k ≡ 4 * (31 - places)
    → IsWide f q digits first → ((amount parts : ℕ) → 0 < parts → StandsFor digits ExactlyZero amount parts
    → StandsFor s loss amount (2 ^ k * parts)) → IsHexCut f q places s loss first
cut_of f q places digits s k loss first few is wide step =
    let z = last_place f 31 first in
    let w = last_place f places first in
    let low = wide.low in
    let high = wide.high in
    let there = step (q * 2 ^ down z) (2 ^ up z) (pow_pos (up z)) wide.number in
    let joined : 2 ^ k * 2 ^ up z ≡ 1 * 2 ^ (k + up z) = once (pow-add 2 k (up z)) in
    let here : StandsFor s loss (q * 2 ^ down w) (1 * 2 ^ up w) = stands_moved s loss q 1 (down z) (k + up z) (down w)
    (up w) (omega (arith, ints, few, is)) (subst (λ (n : ℕ). StandsFor s loss (q * 2 ^ down z) n) joined there) in
    let one : 1 * 2 ^ up w ≡ 2 ^ up w = omega arith in
    -- in units of 1
    let plain : StandsFor s loss digits (2 ^ k * 1) = step digits 1 (omega arith) (omega arith) in
    let parts : 2 ^ k * 1 ≡ 2 ^ k = omega arith in
    let alone : StandsFor s loss digits (2 ^ k) = subst (λ (n : ℕ). StandsFor s loss digits n) parts plain in
    let from : s * 2 ^ k ≤ digits = stands_from s loss digits (2 ^ k) alone in
    let to : digits < (s + 1) * 2 ^ k = stands_to s loss digits (2 ^ k) (pow_pos k) alone in
    let top : 16 ^ places * 2 ^ k ≡ 2 ^ 124 =
    ap (λ (n : ℕ). n * 2 ^ k) (sixteens places) ∙ sym (pow-add 2 (4 * places) k)
    ∙ ap (λ (n : ℕ). 2 ^ n) (let e : 4 * places + k ≡ 124 = omega (arith, few, is) in e) in
    let next : 2 ^ 125 ≡ 2 * 2 ^ 124 = refl in
    record {
      low = omega (arith, lt_of_mul-lt-mul_right (2 ^ k) (over (16 ^ places) s (2 ^ k) digits _ low to top));
      high = lt_of_mul-lt-mul_right (2 ^ k) (under (16 ^ places) s (2 ^ k) digits _ _ high from top next);
      stands = subst (λ (n : ℕ). StandsFor s loss (q * 2 ^ down w) n) one here;
    }
  where
    once : {a b : ℕ} → a ≡ b → b ≡ 1 * a
    once {a} {b} e = omega (arith, e)

    over : (p s k digits top : ℕ) → top ≤ digits → digits < (s + 1) * k → p * k ≡ top → p * k < (s + 1) * k
    over p s k digits top l h e = omega (arith, l, h, e)

    under : (p s k digits top next : ℕ) → digits < next → s * k ≤ digits → p * k ≡ top → next ≡ 2 * top
        → s * k < 2 * p * k
    under p s k digits top next h l e n = omega (arith, h, l, e, n)

-- ---- the first digit

pub carried_not : (places n one : ℕ) (first : ℤ) → one ≡ 2 ^ (4 * places) → 16 ^ places ≤ n → n < 2 * one
    → IsHexCarried places n first (n - one) first
carried_not places n one first is least less =
    let same = sixteens places in record {
      fitting = λ h. (omega (arith, is, same, least), refl);
      carried = λ h. absurd (omega (arith, h, is, same, less));
    }

pub carried_up : (places n one : ℕ) (first : ℤ) → one ≡ 2 ^ (4 * places) → 2 * one ≤ n
    → IsHexCarried places n first 0 (first +ℤ pos 1)
carried_up places n one first is most =
    record { fitting = λ h. absurd (omega (arith, h, is, sixteens places, most)); carried = λ h. (refl, refl) }

pub one_within : (places one : ℕ) → places ≤ 31 → one ≡ 2 ^ (4 * places) → one ≤ 2 ^ 124
one_within places one few is =
    let most : 4 * places ≤ 124 = omega (arith, few) in
    let below : 2 ^ (4 * places) ≤ 2 ^ 124 = pow-le-pow_right two_pos most in
    omega (arith, is, below)

-- ---- rounded

pub rounded_at : (f : Format) (mode : Round) (negative : Bool) (q places s n fraction : ℕ) (loss : Loss)
    (moves exact : Bool) (first exponent : ℤ) → IsLogarithm f q first → IsHexCut f q places s loss first
    → moves ≡ rounds_up mode negative loss (eqb (s % 2) 1) → n ≡ cond moves (s + 1) s
    → (exact ≡ true → loss ≡ ExactlyZero) → (exact ≡ false → loss ≡ ExactlyZero → ⊥)
    → IsHexCarried places n first fraction exponent
    → IsHexRoundedNumber f mode negative q places fraction exponent exact
rounded_at f mode negative q places s n fraction loss moves exact first exponent log cut moved picked when unless
    carried =
    let some : 0 < unit f places first = pow_pos (up (last_place f places first)) in
    let pick : n ≡ whole_pick mode negative (units f q places first) (unit f places first) =
    picked ∙ ap (λ (b : Bool). cond b (s + 1) s) moved
    ∙ sym (whole_at mode negative s (units f q places first) (unit f places first) loss some cut.stands) in
    record {
      first = first;
      is_first = log;
      picked = subst (λ (k : ℕ). IsHexCarried places k first fraction exponent) pick carried;
      exact_is = exact_at mode negative s (units f q places first) (unit f places first) loss exact some cut.stands
          when unless;
    }

-- ---- one result

record AreSame (fraction other : ℕ) (exponent place : ℤ) (exact lost : Bool) : Type 0 where
  fractions : fraction ≡ other
  exponents : exponent ≡ place
  exactly : exact ≡ lost

one_rounded : (f : Format) (mode : Round) (negative : Bool) (q places fraction other : ℕ)
    (exponent place : ℤ) (exact lost : Bool) → IsHexRoundedNumber f mode negative q places fraction exponent exact
    → IsHexRoundedNumber f mode negative q places other place lost → AreSame fraction other exponent place exact lost
one_rounded f mode negative q places fraction other exponent place exact lost x y =
    let same : y.first ≡ x.first = logarithm_once f q y.first x.first y.is_first x.is_first in
    let picked = subst (λ (z : ℤ).
    IsHexCarried places (whole_pick mode negative (units f q places z) (unit f places z)) z other place) same
    y.picked in
    let told = subst (λ (z : ℤ).
    lost ≡ eqb (whole_pick mode negative (units f q places z) (unit f places z) * unit f places z)
    (units f q places z)) same y.exact_is in
    let n : ℕ = whole_pick mode negative (units f q places x.first) (unit f places x.first) in
    ⊎_elim
    (λ (l : n < 2 * 16 ^ places).
    let a = x.picked.fitting l in
    let b = picked.fitting l in
    record {
      fractions = equal (16 ^ places) fraction other (sym a.0 ∙ b.0);
      exponents = a.1 ∙ sym b.1;
      exactly = x.exact_is ∙ sym told;
    })
    (λ (l : 2 * 16 ^ places ≤ n).
    let a = x.picked.carried l in
    let b = picked.carried l in
    record { fractions = a.0 ∙ sym b.0; exponents = a.1 ∙ sym b.1; exactly = x.exact_is ∙ sym told })
    (cases_lt n (2 * 16 ^ places))
  where
    equal : (p a b : ℕ) → p + a ≡ p + b → a ≡ b
    equal p a b e = omega (arith, e)

one_rounded_text : (f : Format) (mode : Round) (negative : Bool) (q places : ℕ) (text other : List ℕ)
    (exact lost : Bool) → IsRoundedText f mode negative q places text exact
    → IsRoundedText f mode negative q places other lost → (text ≡ other) × (exact ≡ lost)
one_rounded_text f mode negative q places text other exact lost x y =
    let same = one_rounded f mode negative q places x.fraction y.fraction x.exponent y.exponent exact lost x.number
    y.number in (
      x.text_is ∙ ap (λ (a : ℕ). number_text negative 1 places a x.exponent) same.fractions
          ∙ ap (λ (e : ℤ). number_text negative 1 places y.fraction e) same.exponents ∙ sym y.text_is,
      same.exactly,
    )

pub one_text : (f : Format) (mode : Round) (places : ℕ) (x : Datum) (text other : List ℕ) (exact lost : Bool)
    → IsRoundedHexText f mode places x text exact → IsRoundedHexText f mode places x other lost
    → (text ≡ other) × (exact ≡ lost)
one_text f mode places (finite negative zero) text other exact lost h k = (h.0 ∙ sym k.0, h.1 ∙ sym k.1)
one_text f mode places (finite negative (suc q)) text other exact lost h k =
    let some : eqb (suc q) 0 ≡ false = ne_eqb (suc q) 0 (λ e. omega (arith, e)) in
    one_rounded_text f mode negative (suc q) places text other exact lost
    (MatchBool-at_false _ (IsRoundedText f mode negative (suc q) places text exact) some h)
    (MatchBool-at_false _ (IsRoundedText f mode negative (suc q) places other lost) some k)
one_text f mode places (infinite negative) text other exact lost h k = (h.0 ∙ sym k.0, h.1 ∙ sym k.1)
one_text f mode places (nan negative significand) text other exact lost h k = (h.0 ∙ sym k.0, h.1 ∙ sym k.1)
