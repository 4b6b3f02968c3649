use Rattle.std.proofs.Common.{◌∙◌, List, ℕ, drop, sym, ap}
use Rattle.apfloat_model.specs.rounding.Flags.{bits_of}
use Rattle.apfloat_model.specs.texts.{Digits.is_empty, Specials.is_minus, Faults.begins_literal}
use Rattle.apfloat_conversions.proofs.hex_texts_lemmas.FaultsRead.{some_text}
use Rattle.apfloat_conversions.proofs.hex_texts_lemmas.TextReadings.{special_read, literal_text}
use Rattle.apfloat_conversions.proofs.hex_texts.reading.read_bytes.Goals as goal

pub returns-in-Some : goal.returns-in-Some
returns-in-Some c =
    let body = c.split_mark-mark.ensures.rest in
    let prefix = c.in-Some.ensures in
    literal_text c.args.shape c.args.round c.args.text.now c.in-Some.rest.now c.is_minus.result
    c.read_literal.result (some_text c.args.text.now c.if-is_empty.ensures)
    (ap is_empty (sym body) ∙ some_text c.split_mark-mark.result.1.now c.if-is_empty-2.ensures)
    (ap begins_literal (sym body) ∙ prefix.0) (prefix.1 ∙ ap (λ (t : List ℕ). drop 2 t) body)
    (c.is_minus.ensures ∙ ap is_minus c.split_mark-mark.ensures.mark) c.read_literal.ensures

pub returns-in-Some-special_of : goal.returns-in-Some-special_of
returns-in-Some-special_of c =
    let mark = c.split_mark-mark.ensures.mark in
    let e = rw (mark, c.split_mark-mark.ensures.rest) at c.in-Some-special_of.ensures in
    let n = c.is_minus-in-Some-special_of.ensures ∙ ap is_minus mark in
    special_read c.args.shape c.args.round c.args.text.now c.is_minus-in-Some-special_of.result
    c.in-Some-special_of.special c.special_value.result c.and.result (rw n (sym e)) c.special_value.ensures.stored
    c.special_value.ensures.meant c.and.ensures.value (ap bits_of c.and.ensures.status)
