-- The negation of a normalized pair is normalized, and has the negated number.
use Rattle.std.proofs.Common.{◌≡◌, ℕ, zero, suc, ◌<◌, Bool, true, false, not, ltb, cond, sym, refl, ap}
use Rattle.std.proofs.Common.{◌∙◌, subst, arith, lit<}
use Rattle.std.proofs.{lemmas.Int.ints, lemmas.Bool.false≢true, lemmas.Bool.lt-ltb, Math.Bool.not-not}
use Rattle.std.specs.Prelude.{ℤ, pos, negsuc, neg_ℤ, ◌+ℤ◌}
use Rattle.apfloat_model.specs.declared.kinds.NonfiniteBehavior.{NonfiniteBehavior, TheVariants.IEEE754}
use Rattle.apfloat_model.specs.declared.kinds.Round.TheVariants.{NearestTiesToEven}
use Rattle.apfloat_model.specs.formats.Format.{Format, largest}
use Rattle.apfloat_model.specs.formats.{Datum.Datum, Datum.finite, Datum.infinite, Datum.nan, Members.IsMember}
use Rattle.apfloat_model.specs.rounding.{Rounding.zero_sign, Rounding.ok_bits, Rounding.IsDelivered, Negation.negated}
use Rattle.apfloat_model.specs.order.Classes.{is_finite, is_finite_non_zero, quanta_of}
use Rattle.apfloat_model.specs.{order.Order.number, order.Order.is_equal, arithmetic.Exact.magnitude}
use Rattle.apfloat_model.specs.arithmetic.{Exact.signed, Exact.IsRounded, Sums.IsSum, Sums.zero_sum_sign}
use Rattle.apfloat_model.proofs.rounding.Laws.{delivered_once, zero_delivered, delivered_swapped}
use Rattle.apfloat_model.proofs.{arithmetic.Signs.no_sign, whole_numbers.SignedNumbers.negated_is}
use Rattle.apfloat_pair_theory.specs.PairFormats.{double}
use Rattle.apfloat_pair_theory.specs.Pairs.{Pair, pair_number, negated_pair, IsNormalised}
use Rattle.apfloat_pair_theory.proofs.numbers.{Signed.magnitude-neg, Roundings.negated_finite, Roundings.negated_number}
use Rattle.apfloat_pair_theory.proofs.calls.PairsOnce.{parts_same}
use Rattle.apfloat_pair_theory.proofs.pairs.Normalised.{IsSameAnswer, IsHighOf, equal_finite, equal_number, is_equal_by}

-- ---- the nearest value of the negated number

-- a rounding to nearest is the same on both sides of zero
negative_answer : (format : Format) (negative : Bool) (amount negated_amount : ℕ) (nearest : Datum) (status : ℕ)
    → format.nonfinite ≡ IEEE754 → 0 < largest format → amount ≡ negated_amount
    → IsDelivered format NearestTiesToEven negative amount 1 nearest status
    → IsDelivered format NearestTiesToEven (not negative) negated_amount 1 (negated IEEE754 nearest) status
negative_answer format s amount negated_amount nearest status k l e x =
    subst (λ (n : ℕ). IsDelivered format NearestTiesToEven (not s) n 1 (negated IEEE754 nearest) status) e
    (subst (λ (i : NonfiniteBehavior). IsDelivered format NearestTiesToEven (not s) amount 1 (negated i nearest) status)
    k (delivered_swapped format NearestTiesToEven s amount 1 nearest status l x))

-- equal numbers have equal negations
negated_equal : (datum opposite nearest : Datum) → is_finite datum ≡ true → is_finite opposite ≡ true
    → number opposite ≡ neg_ℤ (number datum) → is_equal datum nearest ≡ true
    → is_equal opposite (negated IEEE754 nearest) ≡ true
negated_equal h g nearest fh fg e q =
    let fn = equal_finite h nearest fh q in
    is_equal_by g (negated IEEE754 nearest) fg (negated_finite nearest fn)
    (e ∙ ap neg_ℤ (equal_number h nearest fh q) ∙ sym (negated_number nearest fn))

-- the nearest data of opposite numbers are opposite
negated_answer : (format : Format) (of_zero other : Bool) (exact : ℤ) (datum opposite nearest : Datum) (status : ℕ)
    → format.nonfinite ≡ IEEE754 → 0 < largest format → is_finite datum ≡ true → is_finite opposite ≡ true
    → number opposite ≡ neg_ℤ (number datum)
    → is_equal datum nearest ≡ true → IsRounded format NearestTiesToEven of_zero exact 1 nearest status
    → IsSameAnswer format other (neg_ℤ exact) opposite
negated_answer format of_zero other (pos zero) h g nearest status k l fh fg e q x =
    let zero = zero_delivered format NearestTiesToEven of_zero 1 (magnitude (pos 0)) (lit< tt) refl in
    let n = (delivered_once format NearestTiesToEven of_zero (magnitude (pos 0)) 1 nearest _ status ok_bits x zero).0 in
    record {
      nearest = finite (zero_sign format.nonfinite other) 0;
      status = ok_bits;
      is_nearest = zero_delivered format NearestTiesToEven other 1 (magnitude (pos 0)) (lit< tt) refl;
      same_number = is_equal_by g (finite (zero_sign format.nonfinite other) 0) fg refl
          (e ∙ ap neg_ℤ (equal_number h nearest fh q ∙ ap number n ∙ no_sign _) ∙ sym (no_sign _));
    }
negated_answer format of_zero other (pos (suc n)) h g nearest status k l fh fg e q x = record {
  nearest = negated IEEE754 nearest;
  status = status;
  is_nearest =
      negative_answer format false _ (magnitude (negsuc n)) nearest status k l (sym (magnitude-neg (pos (suc n)))) x;
  same_number = negated_equal h g nearest fh fg e q;
}
negated_answer format of_zero other (negsuc n) h g nearest status k l fh fg e q x = record {
  nearest = negated IEEE754 nearest;
  status = status;
  is_nearest =
      negative_answer format true _ (magnitude (pos (suc n))) nearest status k l (sym (magnitude-neg (negsuc n))) x;
  same_number = negated_equal h g nearest fh fg e q;
}

-- the sum of two negated numbers is the negated sum
negated_sum : (a b c d : ℤ) → c ≡ neg_ℤ a → d ≡ neg_ℤ b → neg_ℤ (a +ℤ b) ≡ (c +ℤ d)
negated_sum a b c d e g = omega (arith, ints)

-- if both parts are negated, the high part is still nearest to their sum
negated_high : (format : Format) (high low opposite_high opposite_low nearest : Datum) (status : ℕ)
    → format.nonfinite ≡ IEEE754 → 0 < largest format → is_finite high ≡ true → is_finite low ≡ true
    → is_finite opposite_high ≡ true → is_finite opposite_low ≡ true → number opposite_high ≡ neg_ℤ (number high)
    → number opposite_low ≡ neg_ℤ (number low) → IsSum format NearestTiesToEven high low nearest status
    → is_equal high nearest ≡ true → IsHighOf format opposite_high opposite_low
negated_high format (finite b i) (finite c j) (finite d u) (finite e v) nearest status k p fh fl fg fm eh el s q =
    let a = negated_answer format (zero_sum_sign NearestTiesToEven b c) (zero_sum_sign NearestTiesToEven d e)
    (signed b i +ℤ signed c j) (finite b i) (finite d u) nearest status k p refl refl eh q s in
    record {
      nearest = a.nearest;
      status = a.status;
      is_nearest =
          subst (λ (z : ℤ). IsRounded format NearestTiesToEven (zero_sum_sign NearestTiesToEven d e) z 1 a.nearest
          a.status) (negated_sum (signed b i) (signed c j) (signed d u) (signed e v) eh el) a.is_nearest;
      same_number = a.same_number;
    }
negated_high format (finite b i) (finite c j) (finite d u) (infinite e) nearest status k p fh fl fg fm eh el s q =
    absurd (false≢true fm)
negated_high format (finite b i) (finite c j) (finite d u) (nan e v) nearest status k p fh fl fg fm eh el s q =
    absurd (false≢true fm)
negated_high format (finite b i) (finite c j) (infinite d) m nearest status k p fh fl fg fm eh el s q =
    absurd (false≢true fg)
negated_high format (finite b i) (finite c j) (nan d u) m nearest status k p fh fl fg fm eh el s q =
    absurd (false≢true fg)
negated_high format (finite b i) (infinite c) g m nearest status k p fh fl fg fm eh el s q = absurd (false≢true fl)
negated_high format (finite b i) (nan c j) g m nearest status k p fh fl fg fm eh el s q = absurd (false≢true fl)
negated_high format (infinite b) l g m nearest status k p fh fl fg fm eh el s q = absurd (false≢true fh)
negated_high format (nan b i) l g m nearest status k p fh fl fg fm eh el s q = absurd (false≢true fh)

-- ---- pairs

-- a zero of either sign has the negated number of a zero
not_of : (negative : Bool) → signed negative 0 ≡ neg_ℤ (signed negative 0)
not_of true = refl
not_of false = refl

-- the low part of the negation
abbrev pub negated_low : Datum → Datum
negated_low l = cond (is_finite_non_zero l) (negated IEEE754 l) l

-- a finite low part has a finite negation
low_finite : (datum : Datum) → is_finite datum ≡ true → is_finite (negated_low datum) ≡ true
low_finite (finite s n) h = either (is_finite_non_zero (finite s n)) where
  either : (b : Bool) → is_finite (cond b (negated IEEE754 (finite s n)) (finite s n)) ≡ true
  either true = negated_finite (finite s n) refl
  either false = refl
low_finite (infinite s) h = absurd (false≢true h)
low_finite (nan s n) h = absurd (false≢true h)

-- the number of the negation of a finite low part is the negated number
low_number : (datum : Datum) → is_finite datum ≡ true → number (negated_low datum) ≡ neg_ℤ (number datum)
low_number (finite s zero) h = not_of s
low_number (finite s (suc n)) h =
    let e : ltb 0 (suc n) ≡ true = lt-ltb 0 (suc n) (omega arith) in
    rw e (negated_number (finite s (suc n)) refl)
low_number (infinite s) h = absurd (false≢true h)
low_number (nan s n) h = absurd (false≢true h)

-- the negation of a normalized pair is normalized, even if its number is zero
pub negated_normalised : (x : Pair) → IsNormalised x → IsNormalised (negated_pair x)
negated_normalised x n =
    let fh = negated_finite x.high n.finite_high in
    let fl = low_finite x.low n.finite_low in
    let a = negated_high double x.high x.low (negated IEEE754 x.high) (negated_low x.low) n.nearest n.status refl
    (lit< tt) n.finite_high n.finite_low fh fl
    (negated_number x.high n.finite_high) (low_number x.low n.finite_low) n.is_nearest n.same_number in
    record {
      finite_high = fh;
      finite_low = fl;
      nearest = a.nearest;
      status = a.status;
      is_nearest = a.is_nearest;
      same_number = a.same_number;
    }

-- the number of the negated pair is the negated number
pub negated_pair_number : (x : Pair) → is_finite x.high ≡ true → is_finite x.low ≡ true
    → pair_number (negated_pair x) ≡ neg_ℤ (pair_number x)
negated_pair_number x fh fl =
    sym (negated_sum (number x.high) (number x.low) (number (negated IEEE754 x.high)) (number (negated_low x.low))
    (negated_number x.high fh) (low_number x.low fl))

-- negation keeps the number of quanta
pub negated_quanta : (datum : Datum) → quanta_of (negated IEEE754 datum) ≡ quanta_of datum
negated_quanta (finite s n) = ap quanta_of (negated_is s n)
negated_quanta (infinite s) = refl
negated_quanta (nan s n) = refl

-- a finite double has a negation that is a double
pub negated_member : (datum : Datum) → is_finite datum ≡ true → IsMember double datum
    → IsMember double (negated IEEE754 datum)
negated_member (finite s n) e m =
    subst (λ (v : Datum). IsMember double v) (sym (negated_is s n)) (record {
      on_grid = m.on_grid;
      within = m.within;
      zero_has = λ z. refl;
    })
negated_member (infinite s) e m = absurd (false≢true e)
negated_member (nan s n) e m = absurd (false≢true e)

-- ---- a pair negated twice

-- a datum negated twice is itself
negated_twice : (datum : Datum) → negated IEEE754 (negated IEEE754 datum) ≡ datum
negated_twice (finite b n) =
    ap (negated IEEE754) (negated_is b n) ∙ negated_is (not b) n ∙ ap (λ (s : Bool). finite s n) (not-not b)
negated_twice (infinite b) = ap infinite (not-not b)
negated_twice (nan b s) = ap (λ (c : Bool). nan c s) (not-not b)

-- a negated datum is finite and nonzero exactly if the datum is
negated_is_number : (datum : Datum) → is_finite_non_zero (negated IEEE754 datum) ≡ is_finite_non_zero datum
negated_is_number (finite b n) = ap is_finite_non_zero (negated_is b n)
negated_is_number (infinite b) = refl
negated_is_number (nan b s) = refl

-- a low part negated twice is itself, even if its sign is kept
low_twice : (is_number : Bool) (datum : Datum) → is_number ≡ is_finite_non_zero datum
    → negated_low (cond is_number (negated IEEE754 datum) datum) ≡ datum
low_twice true x e = rw (negated_is_number x, ← e) (negated_twice x)
low_twice false x e = rw (← e) refl

-- a pair negated twice is itself
pub negated_pair_twice : (x : Pair) → negated_pair (negated_pair x) ≡ x
negated_pair_twice x =
    parts_same (negated_pair (negated_pair x)) x (negated_twice x.high)
    (low_twice (is_finite_non_zero x.low) x.low refl)
