use Rattle.std.proofs.Common.{◌∙◌, ◌%◌, List, ℕ, [], ◌∷◌, ◌++◌, ap, arith}
use Rattle.apfloat_digits.specs.hexadecimal.HexTexts.{character}
use Rattle.apfloat_digits.proofs.hexadecimal_lemmas.Characters.{last_digit, room_for_last}
use Rattle.apfloat_digits.proofs.hexadecimal.texts.+push_digits.Goals as goal

pub push_digits-requires : goal.push_digits-requires
push_digits-requires t c = (omega (arith, c.decreases, c.if-places-eq0.false), omega (arith, c.requires))

pub push-requires : goal.push-requires
push-requires t c =
    rw c.push_digits.ensures
    (room_for_last c.args.line.now c.args.places c.args.number (omega (arith, c.if-places-eq0.false)) c.requires)

pub returns : goal.returns
returns t c =
    c.push.ensures ∙ ap (λ (d : ℕ). c.push_digits.new.line ++ (d ∷ [])) c.character.ensures
    ∙ ap (λ (x : List ℕ). x ++ (character (c.args.number % 16) ∷ [])) c.push_digits.ensures
    ∙ last_digit c.args.line.now c.args.places c.args.number (omega (arith, c.if-places-eq0.false))
