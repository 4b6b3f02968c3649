-- The digits of a payload are read one by one.
use Rattle.std.proofs.Common.{◌≡◌, ℕ, ◌^◌, ◌<◌, ◌≤◌, Bool, true, false, ◌&&◌, ltb}
use Rattle.std.proofs.Common.{if◌then◌else◌, List, [], ◌∷◌, fold, Some, None, refl, ap, ◌∙◌, arith}
use Rattle.std.proofs.lemmas.Bool.{le-ltb, ltb-false, ltb-true}
use Rattle.apfloat_model.specs.declared.marks.Radix.{Radix, TheVariants.Sixteen, TheVariants.Eight, TheVariants.Ten}
use Rattle.apfloat_model.specs.texts.{Digits.every, Specials.is_digit_of, Specials.number_of_digits}
use Rattle.apfloat_model.proofs.general.Choices.{first_holds, first_fails, last_fails}
use Rattle.apfloat_conversions.specs.hex_texts.Payloads.{longer, next, read_on, IsPayloadRead}

-- ---- one digit

-- one more digit makes no smaller number
grown : (radix : Radix) (n c : ℕ) → n ≤ longer radix n c
grown Sixteen n c = omega arith
grown Eight n c = omega arith
grown Ten n c = omega arith

-- more digits make no smaller number
fold_grows : (radix : Radix) (n : ℕ) (digits : List ℕ) → n ≤ fold (longer radix) n digits
fold_grows radix n [] = omega arith
fold_grows radix n (c ∷ digits) = omega (arith, fold_grows radix (longer radix n c) digits, grown radix n c)

-- a character that is not a digit, or leads past the bound, ends the reading
stops : (radix : Radix) (n c : ℕ) (digits : List ℕ) (is_digit fits : Bool) → is_digit_of radix c ≡ is_digit
    → ltb (longer radix n c) (2 ^ 128) ≡ fits
    → (if is_digit && fits then Some (longer radix n c) else None) ≡ None → read_on radix n (c ∷ digits) ≡ None
stops radix n c digits false l p q e = first_fails (is_digit_of radix c) (every (is_digit_of radix) digits) _ _ p
stops radix n c digits true false p q e =
    let f = ltb-false (longer radix n c) (2 ^ 128) q in
    first_holds (is_digit_of radix c) (every (is_digit_of radix) digits) _ _ p ∙ last_fails
    (every (is_digit_of radix) digits) _ _ (le-ltb _ _ (omega (arith, fold_grows radix (longer radix n c) digits, f)))
stops radix n c digits true true p q e = cc

-- after any other character, reading goes on with the longer number
goes : (radix : Radix) (n c m : ℕ) (digits : List ℕ) (is_digit fits : Bool) → is_digit_of radix c ≡ is_digit
    → ltb (longer radix n c) (2 ^ 128) ≡ fits → (if is_digit && fits then Some (longer radix n c) else None) ≡ Some m
    → (m < 2 ^ 128) × (read_on radix n (c ∷ digits) ≡ read_on radix m digits)
goes radix n c m digits false l p q e = cc
goes radix n c m digits true false p q e = cc
goes radix n c m digits true true p q e =
    let same : longer radix n c ≡ m = cc in
    let small = ltb-true (longer radix n c) (2 ^ 128) q in (
      omega (arith, same, small),
      first_holds (is_digit_of radix c) (every (is_digit_of radix) digits) _ _ p ∙
          ap (λ (k : ℕ). read_on radix k digits) same,
    )

-- ---- all of them

-- a character that is not a digit, or a digit too many, leaves no payload
pub payload_stops : (radix : Radix) (digits left : List ℕ) (n c : ℕ) → IsPayloadRead radix digits (c ∷ left) n
    → next radix n c ≡ None → number_of_digits radix digits ≡ None
payload_stops radix digits left n c i e = i.read ∙ stops radix n c left _ _ refl refl e

-- after any other digit, reading the payload goes on
pub payload_goes : (radix : Radix) (digits left : List ℕ) (n c m : ℕ) → IsPayloadRead radix digits (c ∷ left) n
    → next radix n c ≡ Some m → IsPayloadRead radix digits left m
payload_goes radix digits left n c m i e =
    let g = goes radix n c m left _ _ refl refl e in
    record { small = g.0; read = i.read ∙ g.1 }
