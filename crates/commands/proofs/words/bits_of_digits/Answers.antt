use Rattle.std.proofs.Common.{◌≤◌, length, sym, ◌∙◌, arith}
use Rattle.commands.proofs.HexadecimalNumbers.{no_bits, has_bits}
use Rattle.commands.proofs.words.bits_of_digits.Goals as goal

pub returns-in_err-bits : goal.returns-in_err-bits
returns-in_err-bits c =
    let few : length c.args.digits.now ≤ 32 = omega arith in
    c.from_residual.ensures ∙ sym (no_bits c.args.width c.args.digits.now few (sym c.in_err-bits.ensures))

pub returns-then-is_within : goal.returns-then-is_within
returns-then-is_within c =
    let few : length c.args.digits.now ≤ 32 = omega arith in
    sym (has_bits c.args.width c.args.digits.now _ few (sym c.in_ok-bits.ensures)
    (sym c.is_within.ensures ∙ c.if-is_within.true))
