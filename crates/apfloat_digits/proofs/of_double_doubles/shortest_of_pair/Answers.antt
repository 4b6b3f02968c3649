use Rattle.apfloat_digits.proofs.of_double_doubles_lemmas.PairShortest.{given, not_given}
use Rattle.apfloat_digits.proofs.of_double_doubles.shortest_of_pair.Goals as goal

pub returns-then-bitwise_eq : goal.returns-then-bitwise_eq
returns-then-bitwise_eq c =
    given c.args.x c.pair_of_joined.result c.joined_of_pair-joined.result _ _ c.joined_of_pair-joined.ensures
    c.pair_of_joined.ensures c.bitwise_eq.ensures c.if-bitwise_eq.true c.shortest.ensures

pub returns-else-bitwise_eq : goal.returns-else-bitwise_eq
returns-else-bitwise_eq c =
    not_given c.args.x c.pair_of_joined.result c.joined_of_pair-joined.result _ c.joined_of_pair-joined.ensures
    c.pair_of_joined.ensures c.bitwise_eq.ensures c.if-bitwise_eq.false
