-- A pair whose low part is a zero is joined to its high part.
use Rattle.std.proofs.{lemmas.Bool.false≢true, lemmas.Bool.lt-ltb, lemmas.Bool.ne_eqb, Math.IntN.+ℤ_idr}
use Rattle.std.proofs.Common.{◌≡◌, ℕ, zero, suc, Bool, true, false, refl, sym, ◌∙◌, subst, le_trans, lit≤, arith}
use Rattle.std.specs.Prelude.{◌+ℤ◌}
use Rattle.apfloat_model.specs.{declared.kinds.Round.TheVariants.NearestTiesToEven, formats.Datum.Datum}
use Rattle.apfloat_model.specs.{rounding.Rounding.ok_bits, order.Classes.category_of}
use Rattle.apfloat_model.specs.formats.{Datum.finite, Datum.infinite, Datum.nan, Members.IsMember, Members.IsFiniteOf}
use Rattle.apfloat_model.specs.order.{Classes.is_finite_non_zero, Classes.is_zero, Predicates.is_zero_category}
use Rattle.apfloat_model.specs.arithmetic.{Exact.signed, Exact.IsRounded, Sums.IsSum, Sums.zero_sum_sign}
use Rattle.apfloat_model.proofs.{arithmetic.Signs.magnitude_signed, general.Choices.match_true}
use Rattle.apfloat_model.proofs.order.PredicatesAgree.{zero_agrees}
use Rattle.apfloat_pair_theory.specs.PairFormats.{double, wide}
use Rattle.apfloat_pair_theory.specs.Pairs.{Pair, IsJoined, IsSumOfParts, IsWidened}
use Rattle.apfloat_pair_theory.proofs.{numbers.Signed.on_grid_as, pairs.Normalised.rounded_exactly}
use Rattle.apfloat_pair_theory.proofs.pairs.SplitSteps.{more_digits, widened_same}

-- a zero in the wide format
zero_widened : (negative : Bool) → IsWidened (finite negative 0) (finite negative 0)
zero_widened true = record {
  status = ok_bits;
  loses_info = false;
  is_conversion = record { value_is = refl; status_is = refl; loses_is = refl };
}
zero_widened false = record {
  status = ok_bits;
  loses_info = false;
  is_conversion = record { value_is = refl; status_is = refl; loses_is = refl };
}

-- a zero of either sign adds nothing
plus_zero : (negative other : Bool) (n : ℕ) → (signed negative n +ℤ signed other 0) ≡ signed negative n
plus_zero b true n = +ℤ_idr (signed b n)
plus_zero b false n = +ℤ_idr (signed b n)

-- a nonzero double is rounded to itself
some_rounded : (negative of_zero : Bool) (n : ℕ) → IsFiniteOf double negative (suc n)
    → IsRounded wide NearestTiesToEven of_zero (signed negative (suc n)) 1 (finite negative (suc n)) ok_bits
some_rounded true z n m =
    let q = magnitude_signed true (suc n) in
    subst (λ (i : ℕ). IsRounded wide NearestTiesToEven z (signed true (suc n)) 1 (finite true i) ok_bits) q
    (rounded_exactly wide z (signed true (suc n)) refl (on_grid_as (sym q) (more_digits (suc n) m.on_grid))
    (rw q (le_trans m.within (lit≤ tt))))
some_rounded false z n m =
    let q = magnitude_signed false (suc n) in
    subst (λ (i : ℕ). IsRounded wide NearestTiesToEven z (signed false (suc n)) 1 (finite false i) ok_bits) q
    (rounded_exactly wide z (signed false (suc n)) refl (on_grid_as (sym q) (more_digits (suc n) m.on_grid))
    (rw q (le_trans m.within (lit≤ tt))))

-- the sum of a nonzero double and a zero is the double itself
sum_with_zero : (negative other : Bool) (n : ℕ) → IsFiniteOf double negative (suc n)
    → IsSum wide NearestTiesToEven (finite negative (suc n)) (finite other 0) (finite negative (suc n)) ok_bits
sum_with_zero b c n m = rw (plus_zero b c (suc n)) (some_rounded b (zero_sum_sign NearestTiesToEven b c) n m)

-- the join of a pair whose low part is a zero, by cases of the parts
parts_joined : (first second high : Datum) → IsMember double first → is_zero second ≡ true → IsWidened first high
    → IsJoined (record { high = first; low = second }) high
parts_joined (finite b zero) y high m z w = w
parts_joined (finite b (suc n)) (finite c zero) high m z w =
    let x : Pair = record { high = finite b (suc n); low = finite c 0 } in
    match_true (is_finite_non_zero x.high) (IsSumOfParts x high) (IsWidened x.high high)
    (lt-ltb 0 (suc n) (omega arith))
    (record {
      high = high;
      low = finite c 0;
      status = ok_bits;
      high_is = w;
      low_is = zero_widened c;
      is_sum = rw (widened_same b (suc n) high m w) (sum_with_zero b c n m);
    })
parts_joined (finite b (suc n)) (finite c (suc k)) high m z w =
    absurd (false≢true (sym (ne_eqb (suc k) 0 (λ e. absurd (omega (arith, e)))) ∙ z))
parts_joined (finite b (suc n)) (infinite c) high m z w = absurd (false≢true z)
parts_joined (finite b (suc n)) (nan c q) high m z w = absurd (false≢true z)
parts_joined (infinite b) y high m z w = w
parts_joined (nan b q) y high m z w = w

-- the join of such a pair
pub joined_with_zero : (x : Pair) (high : Datum) (is_zero_low : Bool) → IsMember double x.high
    → is_zero_low ≡ is_zero_category (category_of x.low) → is_zero_low ≡ true → IsWidened x.high high → IsJoined x high
joined_with_zero x high z m e t w = parts_joined x.high x.low high m (sym (zero_agrees x.low) ∙ sym e ∙ t) w
