use Rattle.std.proofs.Common.{◌+◌, ◌-◌, ◌/◌, ℕ, List, [], ◌∷◌, ◌++◌, ap, ◌∙◌, arith, codes, refl, ◌≡◌, length-append}
use Rattle.apfloat_digits.specs.hexadecimal.HexTexts.{digits_text}
use Rattle.apfloat_digits.proofs.hexadecimal_lemmas.Characters.{digits_length}
use Rattle.apfloat_digits.proofs.hexadecimal_lemmas.NanPayloads.{count_some, payload_of_some, prefixed}
use Rattle.apfloat_digits.proofs.hexadecimal.payloads.push_payload.Goals as goal

pub returns-clause-text : goal.returns-clause-text
returns-clause-text c =
    let none = c.if-payload-eq0.false in
    let digits = digits_text ((c.digits.result - 1) / 4 + 1) c.args.payload in
    let count = count_some c.args.payload c.digits.result (omega (arith, none)) c.digits.ensures.below in (
      codes "0x" ++ digits,
      payload_of_some c.args.payload c.digits.result (codes "0x" ++ digits) (omega (arith, none))
          (c.digits.ensures.full count) c.digits.ensures.below refl,
      c.push_digits.ensures ∙ ap (λ (t : List ℕ). t ++ digits)
          (c.push-2.ensures ∙ ap (λ (t : List ℕ). t ++ (120 ∷ [])) c.push.ensures)
          ∙ prefixed c.args.line.now digits,
    )

pub returns-clause-room : goal.returns-clause-room
returns-clause-room c =
    let digits = digits_text ((c.digits.result - 1) / 4 + 1) c.args.payload in
    let text : c.push_digits.new.line ≡ c.args.line.now ++ (codes "0x" ++ digits) =
    c.push_digits.ensures ∙ ap (λ (t : List ℕ). t ++ digits)
    (c.push-2.ensures ∙ ap (λ (t : List ℕ). t ++ (120 ∷ [])) c.push.ensures)
    ∙ prefixed c.args.line.now digits in
    let all = length-append c.args.line.now (codes "0x" ++ digits) in
    let prefix = length-append (codes "0x") digits in
    let places = digits_length ((c.digits.result - 1) / 4 + 1) c.args.payload in
    rw text (omega (arith, all, prefix, places, c.digits.ensures.bound, c.requires))
