use Rattle.std.proofs.Common.{◌≡◌, ℕ, ◌+◌, ◌*◌, ◌/◌, ◌%◌, ◌^◌, arith}
use Rattle.apfloat_arrays.proofs.ConvertedLanes.{plan_answers}
use Rattle.apfloat_arrays.proofs.singles.PlanSinglesPlan.convert.Goals as goal

-- a word by its halves
word_parts : (word upper lower : ℕ) → upper ≡ word / 2 ^ 16 → lower ≡ word % 2 ^ 16
    → upper * 2 ^ 16 + lower ≡ word
word_parts word upper lower upper_is lower_is = omega (arith, upper_is, lower_is)

pub returns-clause-converted : goal.returns-clause-converted
returns-clause-converted c = λ overflow from to mode word is_single is_plan taken.
    let plan = c.args.self in
    plan_answers overflow from to mode plan.target plan.saturates plan.round word _ c.convert_single.result is_plan
    (word_parts word c.args.upper c.args.lower taken.0 taken.1) (c.convert_single.ensures.converted _ _ is_single)
