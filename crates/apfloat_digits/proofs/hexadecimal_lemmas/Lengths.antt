-- How long texts are.
use Rattle.std.proofs.Common.{◌≡◌, ℕ, zero, suc, ◌+◌, ◌^◌, ◌<◌, ◌≤◌, Bool, false, cond, sym, subst, arith, lit≤, eqb}
use Rattle.std.proofs.Common.{length, length-append, ◌++◌, ◌∷◌, List, [], codes, ℤ, pos, negsuc}
use Rattle.std.proofs.lemmas.{Bool.ne_eqb, Fmt.length_signed_le, Int.ints}
use Rattle.std.specs.Fmt.{signed_decimal}
use Rattle.apfloat_model.specs.rounding.Bounds.{IsWithin}
use Rattle.apfloat_decimals.specs.Texts.{sign_text}
use Rattle.apfloat_decimals.proofs.spelled.{WrittenNumbers.length_more, Lines.sign_length}
use Rattle.apfloat_digits.specs.hexadecimal.HexTexts.{character, digits_text, dotted, magnitude_text, number_text}
use Rattle.apfloat_digits.proofs.hexadecimal_lemmas.Characters.{digits_length}

pub exponent_length : (e : ℤ) → IsWithin (2 ^ 23) e → length (signed_decimal e) ≤ 8
exponent_length (pos n) w =
    let few : n + 1 < 10 ^ 7 = omega (arith, ints, w.high) in
    length_signed_le 7 (pos n) few (omega (arith, few))
exponent_length (negsuc n) w =
    let few : n + 1 < 10 ^ 7 = omega (arith, ints, w.low) in
    length_signed_le 7 (negsuc n) few (omega (arith, few))

pub dotted_length : (places fraction : ℕ) → length (dotted places fraction) ≤ places + 1
dotted_length zero fraction = lit≤ tt
dotted_length (suc p) fraction =
    let some : eqb (suc p) 0 ≡ false = ne_eqb (suc p) 0 (λ e. omega (arith, e)) in
    let digits = digits_length (suc p) fraction in
    let both = length-append (codes ".") (digits_text (suc p) fraction) in
    subst (λ (b : Bool). length (cond b [] (codes "." ++ digits_text (suc p) fraction)) ≤ suc p + 1) (sym some)
    (omega (arith, digits, both))

pub number_length : (negative : Bool) (first places fraction : ℕ) (e : ℤ) → places ≤ 31 → IsWithin (2 ^ 23) e
    → length (number_text negative first places fraction e) ≤ 45
number_length negative first places fraction e few within =
    let a = length-append (codes "p") (signed_decimal e) in
    let b = length-append (dotted places fraction) (codes "p" ++ signed_decimal e) in
    let c = length-append (codes "0x") (character first ∷ (dotted places fraction ++ (codes "p" ++ signed_decimal e)))
    in
    let d = length-append (sign_text negative) (magnitude_text first places fraction e) in
    omega (arith, sign_length negative, dotted_length places fraction, exponent_length e within, a, b, c, d, few)

-- a number up to its exponent
pub front_length : (line : List ℕ) (a b c places fraction : ℕ) → length line ≤ 1 → places ≤ 31
    → length ((((line ++ (a ∷ [])) ++ (b ∷ [])) ++ (c ∷ [])) ++ dotted places fraction) ≤ 36
front_length line a b c places fraction start few =
    let second = length_more (line ++ (a ∷ [])) b in
    let third = length_more ((line ++ (a ∷ [])) ++ (b ∷ [])) c in
    let all = length-append (((line ++ (a ∷ [])) ++ (b ∷ [])) ++ (c ∷ [])) (dotted places fraction) in
    omega (arith, dotted_length places fraction, length_more line a, second, third, all, start, few)

pub tail_room : (text : List ℕ) (c : ℕ) (e : ℤ) → length text ≤ 36 → IsWithin (2 ^ 23) e
    → length (text ++ (c ∷ [])) + length (signed_decimal e) ≤ 64
tail_room text c e short within = omega (arith, length_more text c, exponent_length e within, short)
