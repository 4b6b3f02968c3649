use Rattle.std.proofs.Common.{◌≡◌, Some, subst, sym}
use Rattle.rustc_apfloat.specs.Types.{constants_of}
use Rattle.commands.specs.Commands.{bits_of_word}
use Rattle.commands.proofs.RepliesOnce.{only_fused_sum}
use Rattle.commands.proofs.calculation.fused_sum.Goals as goal

pub returns-clause-reply : goal.returns-clause-reply
returns-clause-reply g c =
    let first = subst (λ n. bits_of_word n c.args.left.now ≡ Some c.in-Some.x) c.BITS.ensures (sym c.in-Some.ensures) in
    let second = subst (λ n. bits_of_word n c.args.right.now ≡ Some c.in-Some-bits_of.y) c.BITS-2.ensures
    (sym c.in-Some-bits_of.ensures) in
    let third = subst (λ n. bits_of_word n c.args.addend.now ≡ Some c.in-Some-bits_of-2.z) c.BITS-3.ensures
    (sym c.in-Some-bits_of-2.ensures) in
    only_fused_sum (constants_of g.S.Semantics) c.args.round c.args.left.now c.args.right.now c.args.addend.now _ _
    _ _ _ _ _ _ first second third
    c.from_bits.ensures.read c.from_bits-2.ensures.read c.from_bits-3.ensures.read c.mul_add_r.ensures
    c.line.ensures.line
