-- Worked products of pairs; and the laws for 3 times 5: their premises can be met, and they give 15.
use Rattle.std.proofs.Common.{◌≡◌, ℕ, ◌*◌, ◌^◌, ◌≤◌, true, false, refl, lit<, lit≤}
use Rattle.std.specs.Prelude.{pos, neg_ℤ, ◌*ℤ◌}
use Rattle.apfloat_model.specs.{declared.kinds.Round.TheVariants.NearestTiesToEven, formats.Datum.finite}
use Rattle.apfloat_model.specs.{formats.Members.IsFiniteOf, rounding.Rounding.ok_bits, rounding.Rounding.inexact_bit}
use Rattle.apfloat_model.proofs.{rows.RowsIn.rounded, Steps.leads_somewhere}
use Rattle.apfloat_pair_theory.proofs.sums.{SumsSound.step, PairSumLaws.single_normalised}
use Rattle.apfloat_pair_theory.proofs.pairs.LawOperands.{double_alone}
use Rattle.apfloat_pair_theory.proofs.products.{ProductRanges.have_exponents, ProductsSound.pair_product_sound}
use Rattle.apfloat_pair_theory.proofs.products.PairProductLaws.{error_free_product, accurate_product}
use Rattle.apfloat_pair_theory.specs.{PairFormats.double, Pairs.Pair, Pairs.alone, Pairs.IsNormalised}
use Rattle.apfloat_pair_theory.specs.{Pairs.pair_number, PairProducts.pair_product, PairProducts.IsPairProduct}
use Rattle.apfloat_pair_theory.specs.PairAccuracy.{HaveExponents, HasZeroLow}

-- ---- products with 1 + 2 ^ -1074, which is one quantum above 1

abbrev one_and_quantum : Pair
one_and_quantum = record { high = finite false (2 ^ 1074); low = finite false 1 }

-- 1 times that: the result keeps the quantum, and the closing sum is inexact
one_times : IsPairProduct NearestTiesToEven (alone (finite false (2 ^ 1074))) one_and_quantum one_and_quantum
    inexact_bit
one_times =
    step (finite false (2 ^ 1074)) 0 (rounded (2 ^ 52) 1022 refl refl refl)
    (step (finite false 0) 0 (rounded 0 0 refl refl refl)
    (step (finite false 1) 0 (rounded 1 0 refl refl refl) (step (finite false 0) 0 (rounded 0 0 refl refl refl)
    (step (finite false 1) 0 (rounded 1 0 refl refl refl) (step (finite false 1) 0 (rounded 1 0 refl refl refl)
    (step (finite false (2 ^ 1074)) 16 (rounded (2 ^ 52) 1022 refl refl refl)
    (step (finite false 0) 0 (rounded 0 0 refl refl refl)
    (step (finite false 1) 0 (rounded 1 0 refl refl refl) (refl, refl)))))))))

-- one quantum above -1 times that: the cross products cancel, and the result is -1
minus_one_times : IsPairProduct NearestTiesToEven (record { high = finite true (2 ^ 1074); low = finite false 1 })
    one_and_quantum
    (alone (finite true (2 ^ 1074))) ok_bits
minus_one_times =
    step (finite true (2 ^ 1074)) 0 (rounded (2 ^ 52) 1022 refl refl refl)
    (step (finite false 0) 0 (rounded 0 0 refl refl refl)
    (step (finite true 1) 0 (rounded 1 0 refl refl refl) (step (finite false 1) 0 (rounded 1 0 refl refl refl)
    (step (finite false 0) 0 (rounded 0 0 refl refl refl) (step (finite false 0) 0 (rounded 0 0 refl refl refl)
    (step (finite true (2 ^ 1074)) 0 (rounded (2 ^ 52) 1022 refl refl refl)
    (step (finite false 0) 0 (rounded 0 0 refl refl refl)
    (step (finite false 0) 0 (rounded 0 0 refl refl refl) (refl, refl)))))))))

-- ---- the laws

abbrev pub three : Pair
three = alone (finite false (3 * 2 ^ 1074))

abbrev pub five : Pair
five = alone (finite false (5 * 2 ^ 1074))

-- 3 and 5 are doubles
three_is : IsFiniteOf double false (3 * 2 ^ 1074)
three_is = record {
  on_grid = record { significand = 3; place = 1074; fits = lit< tt; is = refl };
  within = lit≤ tt;
  zero_has = λ h. refl;
}

five_is : IsFiniteOf double false (5 * 2 ^ 1074)
five_is = record {
  on_grid = record { significand = 5; place = 1074; fits = lit< tt; is = refl };
  within = lit≤ tt;
  zero_has = λ h. refl;
}

-- 3 and 5 are pairs with low part +0
three_single : HasZeroLow three
three_single = record { is_finite = refl; low_is = refl }

five_single : HasZeroLow five
five_single = record { is_finite = refl; low_is = refl }

-- the pairs of 3 and of 5 are normalized
three_normalised : IsNormalised three
three_normalised = single_normalised three (double_alone three three_is three_single) (lit≤ tt)

five_normalised : IsNormalised five
five_normalised = single_normalised five (double_alone five five_is five_single) (lit≤ tt)

-- the exponents of 3 and 5 are 1 and 2
exponents : (below above : ℕ) → 3 ≤ above → HaveExponents three five (neg_ℤ (pos below)) (pos above)
exponents below above h =
    have_exponents three five 1 2 below above refl refl
    (record { place = 1075; low = lit≤ tt; high = lit< tt; is = refl })
    (record { place = 1076; low = lit≤ tt; high = lit< tt; is = refl }) h

-- some pair is the product, it is normalized, and its number times 2 ^ 1074 quanta is 3 times 5
pub fifteen : (answer : Pair)
    × ((status : ℕ) × (IsPairProduct NearestTiesToEven three five answer status × IsNormalised answer
    × ((pair_number answer *ℤ pos (2 ^ 1074)) ≡ (pair_number three *ℤ pair_number five))))
fifteen =
    let r = leads_somewhere double NearestTiesToEven (pair_product three five) (lit< tt)
    (pair_product_sound three five) in
    let e = error_free_product three five r.0 r.1.0 three_is five_is r.1.1 three_single five_single
    (exponents 970 1021 (lit≤ tt)) in
    let a = accurate_product three five r.0 r.1.0 r.1.1 three_normalised five_normalised
    (exponents 900 1021 (lit≤ tt)) in
    (r.0, (r.1.0, (r.1.1, a.normalised, e.number_is)))
