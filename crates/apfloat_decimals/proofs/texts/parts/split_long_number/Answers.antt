use Rattle.std.proofs.Common.{◌≡◌, ℕ, ◌+◌, ◌%◌, ◌^◌, ◌∙◌, ◌≤◌, ◌++◌, List, ap, length, take, drop, sym}
use Rattle.apfloat_model.specs.texts.Digits.{after_run, is_decimal, run}
use Rattle.apfloat_decimals.specs.LeadingDigits.{number_from}
use Rattle.apfloat_decimals.proofs.digits.EightDigits.{number_after_eights, run_after}
use Rattle.apfloat_decimals.proofs.texts.parts.split_long_number.Goals.{After-split_number-number}
use Rattle.apfloat_decimals.proofs.texts.parts.split_long_number.Goals as goal

-- the digits after the groups of eight end those of the text
ends : (state : After-split_number-number) → let text = state.args.text.now in
    let count = state.eights-count.result.0 in let few = state.split_number-number.result.0.now in
    (count + length few ≤ length text) × (take (count + length few) text ≡ run is_decimal text)
    × (drop (count + length few) text ≡ after_run is_decimal text)
    × (take (count + length few) text ≡ take count text ++ few)
ends c =
    run_after c.args.text.now c.split_number-number.result.0.now c.eights-count.result.0 c.eights-count.ensures.within
    c.eights-count.ensures.digits (c.split_number-number.ensures.digits ∙ ap (run is_decimal) c.split_at.ensures.back)

pub split_at-requires-2 : goal.split_at-requires-2
split_at-requires-2 c = (ends (goal.at.split_at-requires-2 c).After-split_number-number).0

pub returns-clause-digits : goal.returns-clause-digits
returns-clause-digits c =
    c.split_at-2.ensures.front ∙ (ends (goal.at.returns-clause-digits c).After-split_number-number).1

pub returns-clause-rest : goal.returns-clause-rest
returns-clause-rest c = c.split_at-2.ensures.back ∙ (ends (goal.at.returns-clause-rest c).After-split_number-number).2

pub returns-clause-number : goal.returns-clause-number
returns-clause-number c =
    let after = ends (goal.at.returns-clause-number c).After-split_number-number in
    number_after_eights c.args.text.now c.split_number-number.result.0.now c.args.first c.eights-count.result.1
    c.split_number-number.result.2 c.eights-count.result.0 after.1 after.3 c.eights-count.ensures.number
    (c.split_number-number.ensures.number
    ∙ ap (λ (digits : List ℕ). number_from c.eights-count.result.1 digits % 2 ^ 64)
    (sym c.split_number-number.ensures.digits))
