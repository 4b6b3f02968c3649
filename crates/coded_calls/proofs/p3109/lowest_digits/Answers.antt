use Rattle.std.proofs.Common.{◌≡◌, ℕ, ◌*◌, ◌%◌, ◌^◌, ◌<◌, ◌≤◌, nat_le, sym, ap, ◌∙◌, arith}
use Rattle.std.proofs.Math.{Nat.mod-eq_of_lt, Pow.pow-lt}
use Rattle.std.proofs.lemmas.Bool.{and_parts, leb-true}
use Rattle.coded_calls.proofs.RandomDigits.{lowest_are_given, refused}
use Rattle.coded_calls.proofs.p3109.lowest_digits.Goals as goal

pub returns-then-not-digits_fit : goal.returns-then-not-digits_fit
returns-then-not-digits_fit c = refused c.args.digits c.args.random (sym c.if-not-digits_fit.ensures)

pub returns-in-Ok : goal.returns-in-Ok
returns-in-Ok c =
    let digits = c.args.digits in
    let fit = sym c.if-not-digits_fit.ensures in
    let few : digits ≤ 32 = leb-true _ _ (and_parts (nat_le 1 digits) _ fit).1 in
    let below : 2 ^ digits < 2 ^ 64 = pow-lt {i = digits} {j = 64} (omega (arith, few)) in
    let number : c.from.result ≡ c.args.random = c.from.ensures in
    lowest_are_given digits c.args.random c.in-Ok.bits fit c.in-Ok.ensures.0
    (c.in-Ok.ensures.1 ∙ ap (λ (parts : ℕ). c.from.result % parts) (mod-eq_of_lt (omega (arith, below)))
    ∙ ap (λ (n : ℕ). n % (1 * 2 ^ digits)) number ∙ ap (λ (parts : ℕ). c.args.random % parts) (omega arith))
