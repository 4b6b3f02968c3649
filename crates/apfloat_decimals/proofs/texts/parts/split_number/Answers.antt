use Rattle.std.proofs.Common.{◌≡◌, ℕ, ◌+◌, ◌*◌, ◌-◌, ◌%◌, ◌^◌, ◌∙◌, List, drop, take, true, false, get_or, sym, ap}
use Rattle.std.proofs.Common.{arith}
use Rattle.apfloat_model.specs.texts.Digits.{begins, is_decimal}
use Rattle.apfloat_decimals.specs.LeadingDigits.{number_from}
use Rattle.apfloat_decimals.proofs.numbers.LeadingNumbers.{begins_next, begins_none, decimal_value, every_next}
use Rattle.apfloat_decimals.proofs.numbers.LeadingNumbers.{number_next, split_until}
use Rattle.apfloat_decimals.proofs.texts.parts.split_number.Goals.{After-split_at, then-loop-count-test+else-is_decimal}
use Rattle.apfloat_decimals.proofs.texts.parts.split_number.Goals.{else-loop-count-test}
use Rattle.apfloat_decimals.proofs.texts.parts.split_number.Goals as goal

-- the text after the split does not begin with a digit
stops : (state : After-split_at) → begins is_decimal (drop state.loop-count.count state.args.text.now) ≡ false
stops c =
    elim c.loop-count-test.branch [
      | then-loop-count-test+else-is_decimal w ↦ begins_next c.args.text.now c.loop-count.count
          w.loop-count-test.true (sym w.is_decimal.ensures ∙ w.if-is_decimal.false)
      | else-loop-count-test w ↦ begins_none c.args.text.now c.loop-count.count w.loop-count-test.false
    ]

-- a number counted in one word, with one more digit
one_more : (n d : ℕ) → (n % 2 ^ 64 * 10 % 2 ^ 64 + d) % 2 ^ 64 ≡ (n * 10 + d) % 2 ^ 64
one_more n d = omega arith

pub loop-count-preserved : goal.loop-count-preserved
loop-count-preserved c =
    let text = c.args.text.now in
    let i = c.loop-count.count in
    let digit : is_decimal (get_or text i 0) ≡ true = sym c.is_decimal.ensures ∙ c.if-is_decimal.true in
    let n = number_from c.args.first (take i text) in
    let next : number_from c.args.first (take (i + 1) text) ≡ n * 10 + (get_or text i 0 - 48) =
    number_next text i c.args.first c.loop-count-test.true
    ∙ ap (λ (v : ℕ). n * 10 + v) (decimal_value (get_or text i 0) digit) in
    record {
      within = omega arith;
      digits = every_next text i c.loop-count-test.true c.loop-count.invariant.digits digit;
      number = ap (λ (v : ℕ). (v * 10 % 2 ^ 64 + c.from.result) % 2 ^ 64) c.loop-count.invariant.number
          ∙ ap (λ (v : ℕ). (n % 2 ^ 64 * 10 % 2 ^ 64 + v) % 2 ^ 64) c.from.ensures
          ∙ one_more n (get_or text i 0 - 48) ∙ ap (λ (v : ℕ). v % 2 ^ 64) (sym next);
    }

pub returns : goal.returns
returns c =
    let split = split_until c.args.text.now _ _ c.loop-count.count c.split_at.ensures.front c.split_at.ensures.back
    c.loop-count.invariant.digits (stops (goal.at.returns c).After-split_at) in
    let spelled = sym c.split_at.ensures.front ∙ split.0 in
    record {
      digits = split.0;
      rest = split.1;
      number = c.loop-count.invariant.number
          ∙ ap (λ (digits : List ℕ). number_from c.args.first digits % 2 ^ 64) spelled;
    }
