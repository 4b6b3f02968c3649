-- At most 32 hexadecimal digits represent a number below 2 ^ 128.
use Rattle.std.proofs.Common.{◌≡◌, ℕ, ◌+◌, ◌*◌, ◌^◌, ◌<◌, ◌≤◌, Bool, true, false, not, ◌&&◌, nat_lt, nat_le}
use Rattle.std.proofs.Common.{if◌then◌else◌, List, [], ◌∷◌, length, fold, Some, None, refl, sym, subst, arith, lit<}
use Rattle.std.proofs.lemmas.Bool.{false≢true, lt-ltb, le-leb, Decides.nat_tests}
use Rattle.std.proofs.Math.Nat.{pow-le-pow_right}
use Rattle.apfloat_model.proofs.general.MoreDigits.{digit_more}
use Rattle.apfloat_model.specs.{declared.marks.Radix.TheVariants.Sixteen, texts.Specials.number_of_digits}
use Rattle.rustc_apfloat.specs.Digits.{every, is_empty, is_hexadecimal, digit_value, number}
use Rattle.apfloat_conversions.specs.hex_texts.Payloads.{longer}
use Rattle.commands.specs.Commands.{bits_of_digits}

-- ---- the bound

-- the value of a digit is below 16
digit_below : (c : ℕ) → is_hexadecimal c ≡ true → digit_value c < 16
digit_below c e = grind (arith, nat_tests)

-- if both tests pass, each does
both : (first second : Bool) → (first && second) ≡ true → (first ≡ true) × (second ≡ true)
both true second e = (refl, e)
both false second e = cc

-- each digit moves the bound up by one place
fold_below : (n place : ℕ) (digits : List ℕ) → n < 16 ^ place → every is_hexadecimal digits ≡ true
    → fold (longer Sixteen) n digits < 16 ^ (place + length digits)
fold_below n place [] small e = rw (let same : place + 0 ≡ place = omega arith in same) small
fold_below n place (c ∷ digits) small e =
    let each = both (is_hexadecimal c) (every is_hexadecimal digits) e in
    let more = digit_more 16 n (digit_value c) place small (digit_below c each.0) in
    let rest = fold_below (longer Sixteen n c) (place + 1) digits more each.1 in
    let size : place + 1 + length digits ≡ place + length (c ∷ digits) = omega arith in
    subst (λ k. fold (longer Sixteen) (longer Sixteen n c) digits < 16 ^ k) size rest

-- a number of at most 32 hexadecimal digits is below 2 ^ 128
number_below : (digits : List ℕ) → length digits ≤ 32 → every is_hexadecimal digits ≡ true
    → nat_lt (number 16 digits) (2 ^ 128) ≡ true
number_below digits few e =
    let size : 0 + length digits ≡ length digits = omega arith in
    let below : number 16 digits < 16 ^ length digits =
    subst (λ k. number 16 digits < 16 ^ k) size (fold_below 0 0 digits (lit< tt) e) in
    let base : 0 < 16 = lit< tt in
    let wide : 16 ^ length digits ≤ 2 ^ 128 = pow-le-pow_right base few in
    lt-ltb _ _ (omega arith)

-- ---- the tests that remain

no_bits_by : (some few read fits within : Bool) (n : ℕ) → (read ≡ true → fits ≡ true)
    → (if some && read && fits then Some n else None) ≡ None
    → (if some && few && read && within then Some n else None) ≡ None
no_bits_by false few read fits within n h e = refl
no_bits_by true false read fits within n h e = refl
no_bits_by true true false fits within n h e = refl
no_bits_by true true true true within n h e = cc
no_bits_by true true true false within n h e = absurd (false≢true (h refl))

bits_by : (some few read fits : Bool) (n m : ℕ) (within : ℕ → Bool) → few ≡ true → within m ≡ true
    → (if some && read && fits then Some n else None) ≡ Some m
    → (if some && few && read && within n then Some n else None) ≡ Some m
bits_by false few read fits n m within p q e = cc
bits_by true false read fits n m within p q e = cc
bits_by true true false fits n m within p q e = cc
bits_by true true true false n m within p q e = cc
bits_by true true true true n m within p q e =
    let same : n ≡ m = cc in
    subst (λ k. (if within k then Some k else None) ≡ Some m) (sym same) (rw q refl)

-- at most 32 characters that do not spell a number are not bits
pub no_bits : (width : ℕ) (digits : List ℕ) → length digits ≤ 32 → number_of_digits Sixteen digits ≡ None
    → bits_of_digits width digits ≡ None
no_bits width digits few e =
    no_bits_by (not (is_empty digits)) (nat_le (length digits) 32) (every is_hexadecimal digits)
    (nat_lt (number 16 digits) (2 ^ 128)) (nat_lt (number 16 digits) (2 ^ width)) (number 16 digits)
    (number_below digits few) e

-- at most 32 digits spell bits, if the number is within the width
pub has_bits : (width : ℕ) (digits : List ℕ) (n : ℕ) → length digits ≤ 32 → number_of_digits Sixteen digits ≡ Some n
    → nat_lt n (2 ^ width) ≡ true → bits_of_digits width digits ≡ Some n
has_bits width digits n few e within =
    bits_by (not (is_empty digits)) (nat_le (length digits) 32) (every is_hexadecimal digits)
    (nat_lt (number 16 digits) (2 ^ 128)) (number 16 digits) n (λ k. nat_lt k (2 ^ width)) (le-leb _ _ few) within e
