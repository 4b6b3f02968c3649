use Rattle.std.proofs.Common.{◌≡◌, Some, subst, sym}
use Rattle.formats_at_run_time.specs.Relations.{relations_of}
use Rattle.commands.specs.Commands.{bits_of_word}
use Rattle.commands.proofs.RepliesOnce.{only_of_two}
use Rattle.commands.proofs.calculation.of_two.Goals as goal

pub returns-clause-reply : goal.returns-clause-reply
returns-clause-reply g c =
    let first = subst (λ n. bits_of_word n c.args.left.now ≡ Some c.in-Some.x) c.BITS.ensures (sym c.in-Some.ensures) in
    let second = subst (λ n. bits_of_word n c.args.right.now ≡ Some c.in-Some-bits_of.y) c.BITS-2.ensures
    (sym c.in-Some-bits_of.ensures) in
    only_of_two (relations_of g.F.Float g.F.PartialOrd.partial_cmp g.F.ValueType.takes_root)
    c.args.round g.F.Float.PRECISION g.F.Float.BITS c.args.operation c.args.left.now c.args.right.now _ _ _ _ _ _
    (g.met.F.Float.determined c.args.round) first second c.from_bits.ensures c.from_bits-2.ensures c.answer.ensures
    c.line.ensures.line
