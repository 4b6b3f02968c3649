-- The text within one pair of parentheses.
use Rattle.std.proofs.Common.{◌≡◌, ℕ, ◌-◌, ◌<◌, ◌≤◌, Bool, false, ◌&&◌, eqb, List, [], ◌∷◌, ◌++◌, length, take, drop}
use Rattle.std.proofs.{Common.get_or, Common.refl, Common.sym, Common.ap, Common.◌∙◌, Common.arith, Math.Bool.and-true}
use Rattle.std.proofs.lemmas.Bool.{eq-eqb, ne_eqb, and_right, cond-true, cond-false}
use Rattle.apfloat_model.specs.texts.Digits.{same}
use Rattle.apfloat_model.specs.texts.Specials.{inside, in_parentheses, plain_payload, payload_of}
use Rattle.apfloat_model.proofs.general.Choices.{eqb_self}

-- replacing the last character by `)` leaves a text unchanged exactly if that character is `)`
last_same : (d : ℕ) (ys : List ℕ)
    → same (d ∷ ys) (take (length ys) (d ∷ ys) ++ (41 ∷ [])) ≡ eqb (get_or (d ∷ ys) (length ys) 0) 41
last_same d [] = and-true (eqb d 41)
last_same d (e ∷ ys) = rw (eqb_self d) (last_same e ys)

-- a text of two characters or more is in parentheses if its ends are
by_ends : (c d : ℕ) (ys : List ℕ)
    → same (c ∷ d ∷ ys) (in_parentheses (inside (c ∷ d ∷ ys))) ≡ (eqb c 40 && eqb (get_or (d ∷ ys) (length ys) 0) 41)
by_ends c d ys =
    let e : length (c ∷ d ∷ ys) - 2 ≡ length ys = omega arith in
    rw e (ap (λ (b : Bool). eqb c 40 && b) (last_same d ys))

-- the last character of a text of two or more is the last one after the first
last_of : (c d : ℕ) (ys : List ℕ) → get_or (c ∷ d ∷ ys) (length (c ∷ d ∷ ys) - 1) 0 ≡ get_or (d ∷ ys) (length ys) 0
last_of c d ys =
    let e : length (c ∷ d ∷ ys) - 1 ≡ length (d ∷ ys) = omega arith in
    ap (λ (n : ℕ). get_or (c ∷ d ∷ ys) n 0) e

-- the payload in parentheses is that of the text inside
pub within : (xs : List ℕ) → 2 ≤ length xs → get_or xs 0 0 ≡ 40 → get_or xs (length xs - 1) 0 ≡ 41
    → payload_of xs ≡ plain_payload (inside xs)
within [] h p q = absurd (omega (arith, h))
within (c ∷ []) h p q = absurd (omega (arith, h))
within (c ∷ d ∷ ys) h p q =
    let l : get_or (d ∷ ys) (length ys) 0 ≡ 41 = sym (last_of c d ys) ∙ q in
    cond-true _ _ _ (by_ends c d ys ∙ rw (eq-eqb c 40 p, eq-eqb (get_or (d ∷ ys) (length ys) 0) 41 l) refl)

-- without an opening parenthesis, a payload is plain
pub without_start : (xs : List ℕ) → 2 ≤ length xs → (get_or xs 0 0 ≡ 40 → ⊥) → payload_of xs ≡ plain_payload xs
without_start [] h p = absurd (omega (arith, h))
without_start (c ∷ []) h p = absurd (omega (arith, h))
without_start (c ∷ d ∷ ys) h p =
    cond-false _ _ _ (by_ends c d ys ∙ ap (λ (b : Bool). b && eqb (get_or (d ∷ ys) (length ys) 0) 41) (ne_eqb c 40 p))

-- without a closing parenthesis, a payload is plain
pub without_end : (xs : List ℕ) → 2 ≤ length xs → (get_or xs (length xs - 1) 0 ≡ 41 → ⊥)
    → payload_of xs ≡ plain_payload xs
without_end [] h p = absurd (omega (arith, h))
without_end (c ∷ []) h p = absurd (omega (arith, h))
without_end (c ∷ d ∷ ys) h p =
    cond-false _ _ _
    (by_ends c d ys ∙ and_right (eqb c 40) _ (ne_eqb (get_or (d ∷ ys) (length ys) 0) 41 (λ e. p (last_of c d ys ∙ e))))

-- a text too short for both parentheses is a plain payload
pub too_short : (xs : List ℕ) → 1 ≤ length xs → length xs < 2 → payload_of xs ≡ plain_payload xs
too_short [] h l = absurd (omega (arith, h))
too_short (c ∷ []) h l = cond-false _ _ _ (and_right (eqb c 40) false refl)
too_short (c ∷ d ∷ ys) h l = absurd (omega (arith, l))

-- the text inside is that without the first and the last character
pub inside_is : (xs : List ℕ) → take (length xs - 1 - 1) (drop 1 xs) ≡ inside xs
inside_is xs =
    let e : length xs - 1 - 1 ≡ length xs - 2 = omega arith in
    ap (λ (n : ℕ). take n (drop 1 xs)) e
