use Rattle.std.proofs.Common.{◌≡◌, ℕ, List, take, ap, ◌∙◌, arith}
use Rattle.std.proofs.lemmas.List.{take_all}
use Rattle.apfloat_decimals.specs.LeadingDigits.{number_from}
use Rattle.apfloat_decimals.proofs.spelled.ParsedNumbers.{digit_next, number_past}
use Rattle.apfloat_decimals.proofs.parsing.followed_by.Goals as goal

pub returns-in_default : goal.returns-in_default
returns-in_default c =
    let past = number_past c.args.digits.now c.loop-i.i c.args.number c.loop-i.all c.requires c.loop-i-test.true
    c.loop-i.invariant in
    omega (arith, past, c.in_default.ensures)

pub returns-in_default-checked_add : goal.returns-in_default-checked_add
returns-in_default-checked_add c =
    let past = number_past c.args.digits.now c.loop-i.i c.args.number c.loop-i.all c.requires c.loop-i-test.true
    c.loop-i.invariant in
    omega (arith, past, c.in_default-checked_add.ensures, c.in-Some.ensures.1, c.from-digit.ensures)

pub loop-i-preserved : goal.loop-i-preserved
loop-i-preserved c =
    let next = digit_next c.args.digits.now c.loop-i.i c.args.number c.requires c.loop-i-test.true in
    omega (arith, next, c.in-Some.ensures.1, c.in-Some-checked_add.ensures.1, c.loop-i.invariant, c.from-digit.ensures)

pub returns : goal.returns
returns c =
    let all : take c.loop-i.i c.args.digits.now ≡ c.args.digits.now =
    take_all c.loop-i.i c.args.digits.now (omega arith) in
    c.loop-i.invariant ∙ ap (λ (t : List ℕ). number_from c.args.number t) all
