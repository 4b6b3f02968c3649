-- Consequences of a pair being normalized, and conditions for it.
use Rattle.std.proofs.Common.{◌≡◌, ℕ, zero, suc, ◌≤◌, Bool, true, false, sym, refl, ap, ◌∙◌, subst}
use Rattle.std.proofs.{Common.arith, Common.lit<, lemmas.Bool.false≢true, Math.IntN.+ℤ_idr}
use Rattle.std.specs.Prelude.{ℤ, pos, negsuc, ◌+ℤ◌}
use Rattle.std.specs.declared.cmp.Ordering.{Ordering, TheVariants.Less, TheVariants.Equal, TheVariants.Greater}
use Rattle.std.specs.{Ordering.int_cmp, Ordering.is_eq, Ordering.MatchOrdering, Cmp.int_cmp_is, Cmp.int_ranks}
use Rattle.apfloat_model.specs.declared.kinds.NonfiniteBehavior.{NonfiniteBehavior, TheVariants.IEEE754}
use Rattle.apfloat_model.specs.{declared.kinds.Round.TheVariants.NearestTiesToEven, formats.Format.Format}
use Rattle.apfloat_model.specs.formats.{Format.largest, Datum.Datum, Datum.finite, Datum.infinite, Datum.nan}
use Rattle.apfloat_model.specs.rounding.Rounding.{zero_sign, ok_bits, signed_quanta}
use Rattle.apfloat_model.specs.order.{Classes.is_finite, Order.number, Order.is_equal}
use Rattle.apfloat_model.specs.arithmetic.Exact.{magnitude, signed, sign_of, IsRounded}
use Rattle.apfloat_model.specs.arithmetic.Sums.{IsSum, zero_sum_sign}
use Rattle.apfloat_model.proofs.rounding.Laws.{delivered_once, zero_delivered, exact_delivered}
use Rattle.apfloat_model.proofs.arithmetic.{Signs.no_sign, SumLaws.signed_quanta_is}
use Rattle.apfloat_pair_theory.specs.{PairFormats.double, Pairs.Pair, Pairs.IsNormalised}
use Rattle.apfloat_pair_theory.proofs.numbers.{Signed.IsGridNumber, Signed.on_grid_as, Nearest.IsNearest}
use Rattle.apfloat_pair_theory.proofs.numbers.Roundings.{sum_finite, signed_exact}

-- ---- equal data

-- data that compare equal satisfy the middle of three cases
equal_from : (order : Ordering) (P Q R : Type 0) → is_eq order ≡ true → MatchOrdering order P Q R → Q
equal_from Less P Q R h m = absurd (false≢true h)
equal_from Equal P Q R h m = m
equal_from Greater P Q R h m = absurd (false≢true h)

-- a datum equal to a finite datum is finite
pub equal_finite : (x y : Datum) → is_finite x ≡ true → is_equal x y ≡ true → is_finite y ≡ true
equal_finite (finite b m) (finite c n) p h = refl
equal_finite (finite b m) (infinite true) p h = absurd (false≢true h)
equal_finite (finite b m) (infinite false) p h = absurd (false≢true h)
equal_finite (finite b m) (nan c n) p h = absurd (false≢true h)
equal_finite (infinite b) y p h = absurd (false≢true p)
equal_finite (nan b m) y p h = absurd (false≢true p)

-- data that compare equal have the same number
pub equal_number : (x y : Datum) → is_finite x ≡ true → is_equal x y ≡ true → number x ≡ number y
equal_number (finite b m) (finite c n) p h =
    equal_from (int_cmp (signed b m) (signed c n)) _ _ _ h (int_ranks (signed b m) (signed c n))
equal_number (finite b m) (infinite true) p h = absurd (false≢true h)
equal_number (finite b m) (infinite false) p h = absurd (false≢true h)
equal_number (finite b m) (nan c n) p h = absurd (false≢true h)
equal_number (infinite b) y p h = absurd (false≢true p)
equal_number (nan b m) y p h = absurd (false≢true p)

-- finite data with the same number compare equal
pub is_equal_by : (x y : Datum) → is_finite x ≡ true → is_finite y ≡ true → number x ≡ number y → is_equal x y ≡ true
is_equal_by (finite b m) (finite c n) p q e = ap is_eq (sym (int_cmp_is (signed b m) (signed c n) Equal e))
is_equal_by (finite b m) (infinite c) p q e = absurd (false≢true q)
is_equal_by (finite b m) (nan c n) p q e = absurd (false≢true q)
is_equal_by (infinite b) y p q e = absurd (false≢true p)
is_equal_by (nan b m) y p q e = absurd (false≢true p)

-- ---- the rounded value of an exact number, whatever the sign of a zero

pub record IsSameAnswer (format : Format) (of_zero : Bool) (exact : ℤ) (value : Datum) : Type 0 where
  pub nearest : Datum
  pub status : ℕ
  pub is_nearest : IsRounded format NearestTiesToEven of_zero exact 1 nearest status
  pub same_number : is_equal value nearest ≡ true

-- finite rounded values of the same number are equal, whatever the sign of a zero
same_answer : (format : Format) (of_zero other : Bool) (exact : ℤ) (value : Datum) (status : ℕ)
    → format.nonfinite ≡ IEEE754 → is_finite value ≡ true
    → IsRounded format NearestTiesToEven of_zero exact 1 value status → IsSameAnswer format other exact value
same_answer format of_zero other (pos zero) value status k h x =
    let zero = zero_delivered format NearestTiesToEven of_zero 1 (magnitude (pos 0)) (lit< tt) refl in
    let e = (delivered_once format NearestTiesToEven of_zero (magnitude (pos 0)) 1 value _ status ok_bits x zero).0 in
    record {
      nearest = finite (zero_sign format.nonfinite other) 0;
      status = ok_bits;
      is_nearest = zero_delivered format NearestTiesToEven other 1 (magnitude (pos 0)) (lit< tt) refl;
      same_number =
          is_equal_by value (finite (zero_sign format.nonfinite other) 0) h refl
          (ap number e ∙ no_sign _ ∙ sym (no_sign _));
    }
same_answer format of_zero other (pos (suc n)) value status k h x = record {
  nearest = value;
  status = status;
  is_nearest = x;
  same_number = is_equal_by value value h h refl;
}
same_answer format of_zero other (negsuc n) value status k h x = record {
  nearest = value;
  status = status;
  is_nearest = x;
  same_number = is_equal_by value value h h refl;
}

-- the high part compares equal to the rounded sum of the parts
pub record IsHighOf (format : Format) (high low : Datum) : Type 0 where
  pub nearest : Datum
  pub status : ℕ
  pub is_nearest : IsSum format NearestTiesToEven high low nearest status
  pub same_number : is_equal high nearest ≡ true

-- a pair of finite parts whose high part is that of both is normalized
pub normalised_high : (x : Pair) → is_finite x.high ≡ true → is_finite x.low ≡ true → IsHighOf double x.high x.low
    → IsNormalised x
normalised_high x h l n = record {
  finite_high = h;
  finite_low = l;
  nearest = n.nearest;
  status = n.status;
  is_nearest = n.is_nearest;
  same_number = n.same_number;
}

-- a pair of finite parts whose sum rounds to the high part is normalized
pub normalised_by : (x : Pair) (status : ℕ) → is_finite x.high ≡ true → is_finite x.low ≡ true
    → IsSum double NearestTiesToEven x.high x.low x.high status → IsNormalised x
normalised_by x status h l n =
    normalised_high x h l
    (record { nearest = x.high; status = status; is_nearest = n; same_number = is_equal_by x.high x.high h h refl })

-- a rounded sum is the high part of a pair whose low part is its error
pub high_of_sum : (format : Format) (sum rest high low : Datum) (status : ℕ) → format.nonfinite ≡ IEEE754
    → is_finite sum ≡ true → is_finite rest ≡ true → is_finite high ≡ true → is_finite low ≡ true
    → (number high +ℤ number low) ≡ (number sum +ℤ number rest) → IsSum format NearestTiesToEven sum rest high status
    → IsHighOf format high low
high_of_sum format (finite b m) (finite c n) (finite d i) (finite e j) status k fz fy fh fl s x =
    let a = same_answer format (zero_sum_sign NearestTiesToEven b c) (zero_sum_sign NearestTiesToEven d e)
    (signed d i +ℤ signed e j) (finite d i) status k refl
    (subst (λ (u : ℤ). IsRounded format NearestTiesToEven (zero_sum_sign NearestTiesToEven b c) u 1 (finite d i) status)
    (sym s) x) in
    record { nearest = a.nearest; status = a.status; is_nearest = a.is_nearest; same_number = a.same_number }
high_of_sum format (finite b m) (finite c n) (finite d i) (infinite e) status k fz fy fh fl s x = absurd (false≢true fl)
high_of_sum format (finite b m) (finite c n) (finite d i) (nan e j) status k fz fy fh fl s x = absurd (false≢true fl)
high_of_sum format (finite b m) (finite c n) (infinite d) l status k fz fy fh fl s x = absurd (false≢true fh)
high_of_sum format (finite b m) (finite c n) (nan d i) l status k fz fy fh fl s x = absurd (false≢true fh)
high_of_sum format (finite b m) (infinite c) h l status k fz fy fh fl s x = absurd (false≢true fy)
high_of_sum format (finite b m) (nan c n) h l status k fz fy fh fl s x = absurd (false≢true fy)
high_of_sum format (infinite b) y h l status k fz fy fh fl s x = absurd (false≢true fz)
high_of_sum format (nan b m) y h l status k fz fy fh fl s x = absurd (false≢true fz)

-- a number of the format rounds to itself
pub rounded_exactly : (format : Format) (of_zero : Bool) (exact : ℤ) → format.nonfinite ≡ IEEE754
    → IsGridNumber format.precision exact → magnitude exact ≤ largest format
    → IsRounded format NearestTiesToEven of_zero exact 1 (finite (sign_of of_zero exact) (magnitude exact)) ok_bits
rounded_exactly format of_zero exact k g w =
    let s = sign_of of_zero exact in
    let q : signed_quanta format.nonfinite s (magnitude exact) ≡ finite s (magnitude exact) =
    ap (λ (i : NonfiniteBehavior). signed_quanta i s (magnitude exact)) k ∙ signed_quanta_is s (magnitude exact) in
    subst (λ (v : Datum). IsRounded format NearestTiesToEven of_zero exact 1 v ok_bits) q
    (exact_delivered format NearestTiesToEven s (magnitude exact) (magnitude exact) 1 (lit< tt) g w (omega arith))

-- a finite double is the high part of a pair with low part +0
pub high_alone : (format : Format) (datum : Datum) → format.nonfinite ≡ IEEE754 → is_finite datum ≡ true
    → IsGridNumber format.precision (number datum) → magnitude (number datum) ≤ largest format
    → IsHighOf format datum (finite false 0)
high_alone format (finite b m) k fh g w =
    let of_zero = zero_sum_sign NearestTiesToEven b false in
    let nearest : Datum = finite (sign_of of_zero (signed b m +ℤ pos 0)) (magnitude (signed b m +ℤ pos 0)) in
    let e : (signed b m +ℤ pos 0) ≡ signed b m = +ℤ_idr (signed b m) in
    record {
      nearest = nearest;
      status = ok_bits;
      is_nearest = rounded_exactly format of_zero (signed b m +ℤ pos 0) k (on_grid_as (sym (ap magnitude e)) g)
          (subst (λ (i : ℤ). magnitude i ≤ largest format) (sym e) w);
      same_number = is_equal_by (finite b m) nearest refl refl (sym (signed_exact of_zero (signed b m +ℤ pos 0) ∙ e));
    }
high_alone format (infinite b) k fh g w = absurd (false≢true fh)
high_alone format (nan b m) k fh g w = absurd (false≢true fh)

-- a high part that equals the rounded sum of the parts is nearest to their sum
pub high_nearest : (format : Format) (high low nearest : Datum) (status : ℕ) → format.nonfinite ≡ IEEE754
    → is_finite high ≡ true → is_finite low ≡ true → IsSum format NearestTiesToEven high low nearest status
    → is_equal high nearest ≡ true → IsNearest format.precision (number high +ℤ number low) (number high)
high_nearest format h l nearest status k fh fl s e =
    let r = sum_finite format h l nearest status k fh fl (equal_finite h nearest fh e) s in
    subst (λ (z : ℤ). IsNearest format.precision (number h +ℤ number l) z) (sym (equal_number h nearest fh e)) r.nearest
