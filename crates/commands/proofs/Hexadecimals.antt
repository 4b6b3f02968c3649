-- Hexadecimal digits, written from the last to the first.
use Rattle.std.proofs.Common.{◌≡◌, ℕ, suc, zero, ◌+◌, ◌-◌, ◌*◌, ◌/◌, ◌%◌, ◌^◌, ◌<◌, ◌≤◌, List, ◌∷◌, length, take, drop}
use Rattle.std.proofs.Common.{set, refl, sym, ap, ◌∙◌, arith, add-one, length-set, []}
use Rattle.std.proofs.lemmas.List.{drop-set, take_all}
use Rattle.std.proofs.Math.{Nat.div-div-eq-div-mul, Nat.div-one, Nat.pow-suc, ListN.drop_of_length-le}
use Rattle.commands.specs.Replies.{hexadecimal_digit, hexadecimal_text}

-- the last `place` digits of the number are written, and `rest` is the number above them
pub record IsWrittenTo (number rest place : ℕ) (text : List ℕ) : Type 0 where
  pub size : length text ≡ 32
  pub rest_is : rest ≡ number / 16 ^ place
  pub digits : drop (32 - place) text ≡ hexadecimal_text number place

-- the text of one more place begins with the digit of that place
text_more : (number place : ℕ)
    → hexadecimal_text number (place + 1) ≡ hexadecimal_digit (number / 16 ^ place % 16) ∷ hexadecimal_text number place
unfolding hexadecimal_text
text_more number place = rw (add-one place) refl

-- the text of no digits is empty
text_none : (number : ℕ) → hexadecimal_text number 0 ≡ []
unfolding hexadecimal_text
text_none number = refl

-- divided by 16, the number above a place is the number above the next place
rest_more : (number rest place : ℕ) → rest ≡ number / 16 ^ place → rest / 16 ≡ number / 16 ^ (place + 1)
rest_more number rest place e =
    let longer : 16 ^ place * 16 ≡ 16 ^ (place + 1) = rw (add-one place) (sym (pow-suc 16 place)) in
    ap (λ n. n / 16) e ∙ div-div-eq-div-mul number (16 ^ place) 16 ∙ ap (λ n. number / n) longer

-- at the start, no digit is written
pub write_none : (number : ℕ) (text : List ℕ) → length text ≡ 32 → IsWrittenTo number number 0 text
write_none number text size = record {
  size = size;
  rest_is = sym (div-one number);
  digits = (let short : length text ≤ 32 = omega arith in drop_of_length-le text short) ∙ sym (text_none number);
}

-- one more digit before the others gives the text of one more place
digits_more : (number rest place digit : ℕ) (text : List ℕ) → place < 32 → IsWrittenTo number rest place text
    → digit ≡ hexadecimal_digit (rest % 16)
    → drop (32 - (place + 1)) (set text (31 - place) digit) ≡ hexadecimal_text number (place + 1)
digits_more number rest place digit text within so_far digit_is =
    let here : 32 - (place + 1) ≡ 31 - place = omega arith in
    let step : 31 - place + 1 ≡ 32 - place = omega arith in
    let size = so_far.size in
    let inside : 31 - place < length text = omega arith in
    ap (λ n. drop n (set text (31 - place) digit)) here
    ∙ drop-set text (31 - place) digit inside ∙ ap (λ n. digit ∷ drop n text) step ∙ ap (λ l. digit ∷ l) so_far.digits
    ∙ ap (λ d. d ∷ hexadecimal_text number place) (digit_is ∙ ap (λ n. hexadecimal_digit (n % 16)) so_far.rest_is)
    ∙ sym (text_more number place)

-- one more digit is written before the others
pub write_more : (number rest place digit : ℕ) (text : List ℕ) → place < 32 → IsWrittenTo number rest place text
    → digit ≡ hexadecimal_digit (rest % 16) → IsWrittenTo number (rest / 16) (place + 1) (set text (31 - place) digit)
write_more number rest place digit text within so_far digit_is = record {
  size = length-set text _ _ ∙ so_far.size;
  rest_is = rest_more number rest place so_far.rest_is;
  digits = digits_more number rest place digit text within so_far digit_is;
}

-- the text of a number of digits has that length
length-text : (number digits : ℕ) → length (hexadecimal_text number digits) ≡ digits
unfolding hexadecimal_text
length-text number zero = refl
length-text number (suc digits) = ap suc (length-text number digits)

-- the last digits of the text are those of the number
pub last_digits : (number digits : ℕ) (text : List ℕ) → digits ≤ 32
    → drop (32 - digits) text ≡ hexadecimal_text number digits
    → take (32 - (32 - digits)) (drop (32 - digits) text) ≡ hexadecimal_text number digits
last_digits number digits text within last =
    let size = length-text number digits in
    let whole : length (hexadecimal_text number digits) ≤ 32 - (32 - digits) = omega arith in
    ap (take (32 - (32 - digits))) last ∙ take_all _ (hexadecimal_text number digits) whole
