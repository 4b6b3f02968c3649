-- The order of data is partial, and equality by it a partial equivalence (IEEE 754-2019 5.11).
use Rattle.std.specs.Prelude.{◌≡◌, Bool, true, false, Option, Some, None}
use Rattle.std.specs.declared.cmp.Ordering.{Ordering, TheVariants.Less, TheVariants.Equal, TheVariants.Greater}
use Rattle.std.specs.Ordering.{nat_cmp, int_cmp, on, then_cmp, is_eq, is_some_and, ordering_reverse}
use Rattle.std.specs.{Option.option_map, Bool.Decides, Cmp.IsPartialEquivalence}
use Rattle.std.specs.Cmp.{IsPartialOrder, IsTotalOrder, Equal-is, nat_cmp_total, int_cmp_total, on_total, then_total}
use Rattle.std.proofs.{Common.refl, Common.ap, lemmas.Option.same_Some}
use Rattle.apfloat_model.specs.formats.Datum.{Datum, finite, infinite, nan}
use Rattle.apfloat_model.specs.order.{Classes.is_nan, Order.level, Order.number, Order.compared, Order.is_equal}

-- the order of data that are not NaNs
abbrev rank : Datum → Datum → Ordering
rank = then_cmp (on level nat_cmp) (on number int_cmp)

-- the order of data that are not NaNs is total
rank_total : IsTotalOrder rank
rank_total = then_total (on_total level nat_cmp_total) (on_total number int_cmp_total)

-- an order, or none if one of two tests holds
abbrev unless : Bool → Bool → Ordering → Option Ordering
unless true n r = None
unless false true r = None
unless false false r = Some r

-- two data are compared by rank unless one of them is a NaN
by_rank : (x y : Datum) → compared x y ≡ unless (is_nan x) (is_nan y) (rank x y)
by_rank (nan b s) y = refl
by_rank (finite b m) (nan c t) = refl
by_rank (infinite b) (nan c t) = refl
by_rank (finite b m) (finite c n) = refl
by_rank (finite b m) (infinite c) = refl
by_rank (infinite b) (finite c n) = refl
by_rank (infinite b) (infinite c) = refl

-- with the operands swapped, the comparison is reversed
turned : (left right : Bool) (order opposite : Ordering) → order ≡ ordering_reverse opposite
    → unless left right order ≡ option_map ordering_reverse (unless right left opposite)
turned true true r s e = refl
turned true false r s e = refl
turned false true r s e = refl
turned false false r s e = ap Some e

-- if the operands are ordered, both tests fail
tests_fail : (left right : Bool) (order answer : Ordering) → unless left right order ≡ Some answer
    → (left ≡ false) × (right ≡ false) × (order ≡ answer)
tests_fail true n r o e = cc
tests_fail false true r o e = cc
tests_fail false false r o e = (refl, refl, same_Some r o e)

-- the operands are equal if and only if their order is `Equal`
decides : (left right : Bool) (order : Ordering)
    → Decides (is_some_and is_eq (unless left right order)) (unless left right order ≡ Some Equal)
decides true n r = (λ e. cc, λ e. cc)
decides false true r = (λ e. cc, λ e. cc)
decides false false r = (λ e. ap Some ((Equal-is r).0 e), λ e. (Equal-is r).1 (cc))

-- if the operands are equal, both tests fail
equal : (left right : Bool) (order : Ordering) → is_some_and is_eq (unless left right order) ≡ true
    → (left ≡ false) × (right ≡ false) × (order ≡ Equal)
equal m n r e = tests_fail m n r Equal ((decides m n r).0 e)

-- the comparison is antisymmetric and transitive, and agrees with equality
pub compared_laws : IsPartialOrder is_equal compared
compared_laws = record {
  antisymm =
      λ x y. rw (by_rank x y, by_rank y x)
      (turned (is_nan x) (is_nan y) (rank x y) (rank y x) (rank_total.antisymm x y));
  trans = λ x y z p q.
      let a = tests_fail (is_nan x) (is_nan y) (rank x y) Less (rw (by_rank x y) at p) in
      let b = tests_fail (is_nan y) (is_nan z) (rank y z) Less (rw (by_rank y z) at q) in
      rw (by_rank x z, a.0, b.1, rank_total.trans x y z a.2 b.2) refl;
  matches_eq = λ x y. rw (by_rank x y) (decides (is_nan x) (is_nan y) (rank x y));
  congr = λ x y z p.
      let a = equal (is_nan x) (is_nan y) (rank x y) (rw (by_rank x y) at p) in
      rw (by_rank x z, by_rank y z, a.0, a.1, rank_total.congr x y z a.2) refl;
}

-- equality stays the same with the operands swapped
symmetric : (left right : Bool) (order opposite : Ordering) → order ≡ ordering_reverse opposite
    → is_some_and is_eq (unless left right order) ≡ is_some_and is_eq (unless right left opposite)
symmetric true true r s e = refl
symmetric true false r s e = refl
symmetric false true r s e = refl
symmetric false false r Less e = ap is_eq e
symmetric false false r Equal e = ap is_eq e
symmetric false false r Greater e = ap is_eq e

-- equality is symmetric and transitive
pub equal_laws : IsPartialEquivalence is_equal
equal_laws = record {
  symm = λ x y. rw (by_rank x y, by_rank y x)
      (symmetric (is_nan x) (is_nan y) (rank x y) (rank y x) (rank_total.antisymm x y));
  trans = λ x y z p q.
      let a = equal (is_nan x) (is_nan y) (rank x y) (rw (by_rank x y) at p) in
      let b = equal (is_nan y) (is_nan z) (rank y z) (rw (by_rank y z) at q) in
      rw (by_rank x z, a.0, b.1, rank_total.congr x y z a.2, b.2) refl;
}
