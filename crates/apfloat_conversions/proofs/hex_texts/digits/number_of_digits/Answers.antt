use Rattle.std.proofs.Common.{◌∙◌, List, ℕ, sym}
use Rattle.apfloat_conversions.specs.hex_texts.Payloads.{IsPayloadRead}
use Rattle.apfloat_model.proofs.general.ListLaws.{parted}
use Rattle.apfloat_conversions.proofs.hex_texts_lemmas.Payloads.{payload_stops, payload_goes}
use Rattle.apfloat_conversions.proofs.hex_texts.digits.number_of_digits.Goals as goal

pub returns-in_err-number : goal.returns-in_err-number
returns-in_err-number c =
    let i = parted (λ (l : List ℕ). IsPayloadRead c.args.radix c.args.digits.now l c.loop-left.number)
    c.loop-left.left.now c.in-len1-up.len_at_least c.loop-left.invariant in
    c.from_residual.ensures ∙ sym (payload_stops _ _ _ _ _ i (sym c.in_err-number.ensures))

pub loop-left-preserved : goal.loop-left-preserved
loop-left-preserved c =
    let i = parted (λ (l : List ℕ). IsPayloadRead c.args.radix c.args.digits.now l c.loop-left.number)
    c.loop-left.left.now c.in-len1-up.len_at_least c.loop-left.invariant in
    payload_goes _ _ _ _ _ _ i (sym c.in_ok-number.ensures)
