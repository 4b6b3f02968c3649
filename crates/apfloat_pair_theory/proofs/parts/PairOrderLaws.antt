-- The order of pairs is a partial order, and equality a partial equivalence, since those of their parts are.
use Rattle.std.specs.Cmp.{IsPartialEquivalence, IsPartialOrder, on_per, on_po, and_per, then_po}
use Rattle.apfloat_model.proofs.order.OrderLaws.{equal_laws, compared_laws}
use Rattle.apfloat_pair_theory.specs.{Pairs.Pair, PairParts.is_equal_pair, PairParts.compared_pairs}

-- equality of pairs is symmetric and transitive
pub equal_pair_laws : IsPartialEquivalence is_equal_pair
equal_pair_laws = and_per (on_per (λ (x : Pair). x.high) equal_laws) (on_per (λ (x : Pair). x.low) equal_laws)

-- the order of pairs is a partial order that agrees with equality
pub compared_pair_laws : IsPartialOrder is_equal_pair compared_pairs
compared_pair_laws = then_po (on_po (λ (x : Pair). x.high) compared_laws) (on_po (λ (x : Pair). x.low) compared_laws)
