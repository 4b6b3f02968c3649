-- What a hexadecimal text without a fault means, from its parts.
use Rattle.std.proofs.Common.{◌≡◌, ℕ, true, refl, inl, inr, ⊎_elim, List, ◌++◌, drop, codes, None}
use Rattle.apfloat_model.specs.texts.Specials.{hexadecimal, mark_of, after_mark, is_minus}
use Rattle.apfloat_model.specs.texts.Texts.{IsHexadecimal, Means}
use Rattle.apfloat_model.specs.texts.Faults.{begins_literal, after_prefix_fault}
use Rattle.apfloat_model.specs.texts.Literals.{digits_number, places_after_dot, exponent_text, exponent_number}
use Rattle.apfloat_model.proofs.texts.OneMeaning.{literal_of_hexadecimal, IsLiteral}
use Rattle.apfloat_model.proofs.texts.EachText.{literal_from, begun_of, IsAnyHexadecimal}

-- the parts of a hexadecimal number are those read after its prefix
by_parts : (body rest : List ℕ) → drop 2 body ≡ rest → IsAnyHexadecimal body
    → IsHexadecimal body (digits_number rest) (places_after_dot rest) (exponent_number (exponent_text rest))
by_parts body rest e x =
    let m : IsLiteral rest x.h x.f x.e = rw e at (literal_of_hexadecimal body x.h x.f x.e x.is) in
    rw (← m.h_is, ← m.f_is, ← m.e_is) x.is

-- the meaning of a literal has the number that its digits spell, the places after its dot, and its exponent
pub literal_meaning : (text : List ℕ) → begins_literal (after_mark text) ≡ true
    → after_prefix_fault (drop 2 (after_mark text)) ≡ None
    → Means text (hexadecimal (is_minus (mark_of text)) (digits_number (drop 2 (after_mark text)))
    (places_after_dot (drop 2 (after_mark text))) (exponent_number (exponent_text (drop 2 (after_mark text)))))
literal_meaning text b n =
    let body = after_mark text in
    let rest = drop 2 body in
    ⊎_elim
    (λ (p : body ≡ codes "0x" ++ rest).
    (refl, by_parts body rest refl (literal_from body (codes "0x") rest p (inl refl) n)))
    (λ (p : body ≡ codes "0X" ++ rest).
    (refl, by_parts body rest refl (literal_from body (codes "0X") rest p (inr refl) n)))
    (begun_of body b)
