use Rattle.std.proofs.Common.{◌∙◌, ap, sym, rules}
use Rattle.apfloat_model.specs.texts.Specials.{plain_payload}
use Rattle.apfloat_conversions.proofs.hex_texts_lemmas.Parentheses.{inside_is, within, without_start, without_end}
use Rattle.apfloat_conversions.proofs.hex_texts_lemmas.Parentheses.{too_short}
use Rattle.apfloat_conversions.proofs.hex_texts.payload.payload.Goals as goal
use Rattle.apfloat_conversions.proofs.hex_texts.payload.payload.Goals.{in_default-via-then-text-lt2}
use Rattle.apfloat_conversions.proofs.hex_texts.payload.payload.Goals.{in_default-via-else-text-lt2+in-40+in_default-1}
use Rattle.apfloat_conversions.proofs.hex_texts.payload.payload.Goals.{in_default-via-else-text-lt2+in_default-1}

pub returns-in-empty : goal.returns-in-empty
returns-in-empty c = search rules

pub returns-in-40 : goal.returns-in-40
returns-in-40 c =
    c.plain.ensures ∙ ap plain_payload (inside_is c.args.text.now) ∙
    sym (within c.args.text.now (search rules) (search rules) (search rules))

pub returns-in_default : goal.returns-in_default
returns-in_default c =
    elim c.in_default.branch [
      | in_default-via-then-text-lt2 w ↦ c.plain-in_default.ensures ∙
          sym (too_short c.args.text.now (search rules) (search rules))
      | in_default-via-else-text-lt2+in-40+in_default-1 w ↦ c.plain-in_default.ensures ∙
          sym (without_end c.args.text.now (search rules) (search rules))
      | in_default-via-else-text-lt2+in_default-1 w ↦ c.plain-in_default.ensures ∙
          sym (without_start c.args.text.now (search rules) (search rules))
    ]
