-- A split loses nothing: within the largest double, the pair is normalized and has the number of the wide datum.
use Rattle.std.proofs.Common.{◌≡◌, ℕ, zero, suc, ◌-◌, ◌*◌, ◌/◌, ◌%◌, ◌^◌, ◌<◌, ◌≤◌, Bool, true, false, not, ◌&&◌, cond}
use Rattle.std.proofs.Common.{eqb, ltb, refl, sym, ap, ◌∙◌, subst, ⊎_elim, arith, lit<, mul_assoc}
use Rattle.std.proofs.Math.Nat.{mul-le-mul_right, le_of_mul-le-mul_right, eq_of_mul-eq-mul_right}
use Rattle.std.proofs.lemmas.{Nat.pow-add, Nat.pow_pos, Bool.MatchBool-at_false}
use Rattle.std.proofs.lemmas.Bool.{cases_lt, cases_eq, false≢true, lt-ltb, le-ltb, ne_eqb, eqb-true, ltb-true}
use Rattle.std.proofs.lemmas.Int.{ints}
use Rattle.std.specs.Prelude.{ℤ, pos, neg_ℤ, ◌+ℤ◌, ◌-ℤ◌}
use Rattle.apfloat_model.specs.declared.kinds.Round.TheVariants.{NearestTiesToEven}
use Rattle.apfloat_model.specs.formats.{Datum.Datum, Datum.finite, Datum.infinite, Datum.nan, Members.IsMember}
use Rattle.apfloat_model.specs.formats.Format.{Format, largest}
use Rattle.apfloat_model.specs.rounding.{Rounding.delivered_status, Rounding.is_tiny, Rounding.ok_bits, Grid.IsOnGrid}
use Rattle.apfloat_model.specs.rounding.Rounding.{takes_above, pick_between, IsPick, IsDelivered, delivered_value}
use Rattle.apfloat_model.specs.order.{Classes.is_finite, Classes.is_finite_non_zero, Order.number}
use Rattle.apfloat_model.specs.arithmetic.{Exact.magnitude, Exact.signed, Exact.IsRounded, Sums.IsSum}
use Rattle.apfloat_model.specs.arithmetic.{Sums.zero_sum_sign, Conversions.IsConversion, Conversions.IsConvertedNumber}
use Rattle.apfloat_model.proofs.{rounding.Picks.takes_scaled, general.Scaled.less_scaled}
use Rattle.apfloat_model.proofs.arithmetic.Signs.{magnitude_signed, no_sign, one_side}
use Rattle.apfloat_model.proofs.whole_numbers.SignedProducts.{times_one}
use Rattle.apfloat_pair_theory.specs.PairFormats.{double, wide}
use Rattle.apfloat_pair_theory.specs.Pairs.{Pair, pair_number, IsSplit, left_over, low_part, positive_zero}
use Rattle.apfloat_pair_theory.specs.PairAccuracy.{IsExactPair, IsExactSplit, IsLosslessSplit}
use Rattle.apfloat_pair_theory.proofs.numbers.Signed.{magnitude-sub, IsGridNumber, on_grid_as, IsMultiple}
use Rattle.apfloat_pair_theory.proofs.numbers.Signed.{coarse_multiple, grid_bound}
use Rattle.apfloat_pair_theory.proofs.numbers.WholeProducts.{IsWholeProduct, product_error_on_grid, IsWholeNumberAt}
use Rattle.apfloat_pair_theory.proofs.numbers.Roundings.{signed_exact, IsRoundedTo, within_nearest, finite_nearest}
use Rattle.apfloat_pair_theory.proofs.numbers.Roundings.{within_is, beyond_is}
use Rattle.apfloat_pair_theory.proofs.sums.{PairRoundings.error_eighth, ClosingSums.wide_enough}
use Rattle.apfloat_pair_theory.proofs.pairs.Normalised.{is_equal_by}

-- ---- an integral number of quanta, in parts of a quantum

-- how many parts a quantum has does not change the pick
pick_times : (negative : Bool) (below above m u : ℕ) → 0 < u
    → pick_between NearestTiesToEven negative below above (m * u) u
    ≡ pick_between NearestTiesToEven negative below above m 1
pick_times negative below above m u p =
    let odd = eqb (below / (above - below) % 2) 1 in
    let e₁ : (m * u) - (below * u) ≡ (m - below * 1) * u =
    sym (less_scaled m below u) ∙ ap (λ (i : ℕ). (m - i) * u) (omega arith) in
    let e₂ : (above * u) - (m * u) ≡ (above * 1 - m) * u =
    sym (less_scaled above m u) ∙ ap (λ (i : ℕ). (i - m) * u) (omega arith) in
    ap (λ (i : ℕ). cond (takes_above NearestTiesToEven negative i (above * u - m * u) odd) above below) e₁ ∙
    ap (λ (i : ℕ). cond (takes_above NearestTiesToEven negative ((m - below * 1) * u) i odd) above below) e₂ ∙
    ap (λ (b : Bool). cond b above below)
    (sym (takes_scaled NearestTiesToEven negative odd (m - below * 1) (above * 1 - m) u p))

-- the pick for a number of quanta given in parts is the pick for that number
pick_whole : (precision : ℕ) (negative : Bool) (m u p : ℕ) → 0 < u
    → IsPick precision NearestTiesToEven negative (m * u) u p → IsPick precision NearestTiesToEven negative m 1 p
pick_whole precision s m u p h x =
    record {
      below = x.below;
      above = x.above;
      is_below = record {
        on_grid = x.is_below.on_grid;
        not_above = omega (arith, le_of_mul-le-mul_right x.is_below.not_above h);
        greatest = λ other o k. x.is_below.greatest other o (mul-le-mul_right u (omega (arith, k)));
      };
      is_above = record {
        on_grid = x.is_above.on_grid;
        not_below = omega (arith, le_of_mul-le-mul_right x.is_above.not_below h);
        least = λ other o k. x.is_above.least other o (mul-le-mul_right u (omega (arith, k)));
      };
      is = x.is ∙ pick_times s x.below x.above m u h;
    }

-- the value delivered for a number of quanta given in parts is the same; only the flags may differ
pub delivered_whole : (format : Format) (negative : Bool) (m u : ℕ) (value : Datum) (status : ℕ) → 0 < u
    → IsDelivered format NearestTiesToEven negative (m * u) u value status
    → (again : ℕ) × IsDelivered format NearestTiesToEven negative m 1 value again
delivered_whole format s m u value status h x = (
  delivered_status format NearestTiesToEven s m 1 x.pick,
  record {
    pick = x.pick;
    is_pick = pick_whole format.precision s m u x.pick h x.is_pick;
    value_is = x.value_is;
    status_is = refl;
  },
)

-- ---- the high part is the wide number rounded to nearest

-- a delivered magnitude is a rounded signed number
rounded_of : (format : Format) (of_zero negative : Bool) (m : ℕ) (value : Datum) (status : ℕ) → 0 < m
    → IsDelivered format NearestTiesToEven negative m 1 value status
    → IsRounded format NearestTiesToEven of_zero (signed negative m) 1 value status
rounded_of format z b zero value status p x = absurd (omega (arith, p))
rounded_of format z true (suc n) value status p x =
    subst (λ (i : ℕ). IsDelivered format NearestTiesToEven true i 1 value status)
    (sym (magnitude_signed true (suc n))) x
rounded_of format z false (suc n) value status p x =
    subst (λ (i : ℕ). IsDelivered format NearestTiesToEven false i 1 value status)
    (sym (magnitude_signed false (suc n))) x

-- the flags of an inexact result, tiny or not, are not OK
never_ok : (tiny : Bool) → ok_bits ≡ cond tiny 24 16 → ⊥
never_ok true e = absurd (omega (arith, e))
never_ok false e = absurd (omega (arith, e))

-- the status OK means that nothing was lost
ok_is_exact : (format : Format) (negative : Bool) (amount u p status : ℕ) → p ≤ largest format
    → status ≡ delivered_status format NearestTiesToEven negative amount u p → status ≡ ok_bits → p * u ≡ amount
ok_is_exact format s amount u p status l d o =
    ⊎_elim
    (λ (e : p * u ≡ amount). e)
    (λ (h : p * u ≡ amount → ⊥).
    let a : ltb (largest format) p ≡ false = le-ltb (largest format) p l in
    let b : eqb (p * u) amount ≡ false = ne_eqb (p * u) amount h in
    let e : delivered_status format NearestTiesToEven s amount u p
    ≡ cond (is_tiny format NearestTiesToEven s amount u p) 24 16 =
    rw (a, b) refl in
    absurd (never_ok (is_tiny format NearestTiesToEven s amount u p) (sym o ∙ d ∙ e)))
    (cases_eq (p * u) amount)

-- ---- the low part is the rest

-- the low part has the number of the rest, or is +0 if there is none
low_at : (some ok negative high_negative : Bool) (m n : ℕ) → (ok ≡ true → signed high_negative n ≡ signed negative m)
    → (some ≡ false → signed high_negative n ≡ signed negative m)
    → IsWholeNumberAt (signed negative m -ℤ signed high_negative n)
    (cond (some && not ok) (left_over (finite negative m) (finite high_negative n)) positive_zero)
low_at true false b c m n f g = record { is_finite = refl; number_is = signed_exact false (signed b m -ℤ signed c n) }
low_at true true b c m n f g = let e = f refl in record { is_finite = refl; number_is = omega (arith, ints, e) }
low_at false u b c m n f g = let e = g refl in record { is_finite = refl; number_is = omega (arith, ints, e) }

-- the low part is exactly the wide number minus the high part
low_left : (negative : Bool) (m : ℕ) (high : Datum) (status : ℕ) → is_finite high ≡ true
    → (status ≡ ok_bits → number high ≡ signed negative m)
    → (is_finite_non_zero high ≡ false → number high ≡ signed negative m)
    → IsWholeNumberAt (signed negative m -ℤ number high) (low_part (finite negative m) high status)
low_left b m (finite c n) status h f g =
    low_at (ltb 0 n) (eqb status ok_bits) b c m n (λ e. f (eqb-true status ok_bits e)) g
low_left b m (infinite c) status h f g = absurd (false≢true h)
low_left b m (nan c s) status h f g = absurd (false≢true h)

-- one quantum with the sign of a nonzero number is nearer to it than 0 is
nearer_one : (negative : Bool) (m : ℕ) (h : ℤ) → 0 < m → h ≡ pos 0
    → magnitude (h -ℤ signed negative m) ≤ magnitude (signed negative 1 -ℤ signed negative m) → ⊥
nearer_one true m h p e l =
    absurd (omega (arith, ints, p, e, l, one_side (h -ℤ neg_ℤ (pos m)), one_side (neg_ℤ (pos 1) -ℤ neg_ℤ (pos m))))
nearer_one false m h p e l = absurd (omega (arith, ints, p, e, l, one_side (h -ℤ pos m), one_side (pos 1 -ℤ pos m)))

-- a finite datum that is not nonzero is 0
zero_is : (datum : Datum) → is_finite datum ≡ true → is_finite_non_zero datum ≡ false → number datum ≡ pos 0
zero_is (finite c zero) f z = no_sign c
zero_is (finite c (suc n)) f z = absurd (false≢true (sym z ∙ lt-ltb 0 (suc n) (omega arith)))
zero_is (infinite c) f z = absurd (false≢true f)
zero_is (nan c s) f z = absurd (false≢true f)

-- a nonzero wide number does not round to zero, since the wide format has the quantum of doubles
never_zero : (negative : Bool) (m : ℕ) (high : Datum) → 0 < m → IsRoundedTo double.precision (signed negative m) high
    → is_finite_non_zero high ≡ false → ⊥
never_zero b m h p r z =
    let one : IsGridNumber double.precision (signed b 1) =
    on_grid_as (sym (magnitude_signed b 1)) (record { significand = 1; place = 0; fits = lit< tt; is = refl }) in
    nearer_one b m (number h) p (zero_is h r.is_finite z) (r.nearest.nearest (signed b 1) one)

-- ---- both parts

-- the sum of two finite data is the rounded value of the number they add up to
again_sum : (high low value : Datum) (status : ℕ) (x : ℤ) → is_finite high ≡ true → is_finite low ≡ true
    → (number high +ℤ number low) ≡ x → ((of_zero : Bool) → IsRounded double NearestTiesToEven of_zero x 1 value status)
    → IsSum double NearestTiesToEven high low value status
again_sum (finite d i) (finite e j) value status x f g s r =
    subst (λ (n : ℤ). IsRounded double NearestTiesToEven (zero_sum_sign NearestTiesToEven d e) n 1 value status) (sym s)
    (r (zero_sum_sign NearestTiesToEven d e))
again_sum (finite d i) (infinite e) value status x f g s r = absurd (false≢true g)
again_sum (finite d i) (nan e j) value status x f g s r = absurd (false≢true g)
again_sum (infinite d) l value status x f g s r = absurd (false≢true f)
again_sum (nan d i) l value status x f g s r = absurd (false≢true f)

-- a number and x minus that number add up to x
rest_joined : (h l x : ℤ) → l ≡ (x -ℤ h) → (h +ℤ l) ≡ x
rest_joined h l x e = omega (arith, ints, e)

-- the pick is within the largest double, since the high part is finite
finite_pick : (negative : Bool) (p : ℕ) (high : Datum) → is_finite high ≡ true
    → high ≡ delivered_value double NearestTiesToEven negative p → p ≤ largest double
finite_pick b p high f v =
    ⊎_elim
    (λ (h : largest double < p).
    let e : high ≡ infinite b = v ∙ beyond_is double b p refl h in absurd (false≢true (sym (ap is_finite e) ∙ f)))
    (λ (h : p ≤ largest double). h)
    (cases_lt (largest double) p)

-- a split with a finite high part: normalized, with the number of the wide datum
pub record IsCut (negative : Bool) (m : ℕ) (answer : Pair) : Type 0 where
  pub exactly : IsExactPair (signed negative m) 1 answer
  pub high_is : IsRoundedTo double.precision (signed negative m) answer.high
  pub low_is : IsWholeNumberAt (signed negative m -ℤ number answer.high) answer.low

-- a finite high part is the nearest double to the wide number
pub high_rounded_to : (negative : Bool) (m : ℕ) (high : Datum) (status : ℕ) → 0 < m → is_finite high ≡ true
    → IsDelivered double NearestTiesToEven negative m 1 high status
    → IsRoundedTo double.precision (signed negative m) high
high_rounded_to b m high status p f x =
    finite_nearest double true (signed b m) high status refl f (rounded_of double true b m high status p x)

-- a nonzero wide number is converted as a number, not as a zero
pub number_converted : (negative : Bool) (m : ℕ) (high : Datum) (status : ℕ) (loses_info : Bool) → 0 < m
    → IsConversion wide double NearestTiesToEven (finite negative m) high status loses_info
    → IsConvertedNumber wide double NearestTiesToEven negative m high status loses_info
number_converted b m high status loses_info p c =
    MatchBool-at_false _ (IsConvertedNumber wide double NearestTiesToEven b m high status loses_info)
    (ne_eqb m 0 (λ z. omega (arith, p, z))) c

-- if the high part is finite, the pair is normalized and has the number of the wide datum
pub split_exactly : (negative : Bool) (m : ℕ) (answer : Pair) → 0 < m → is_finite answer.high ≡ true
    → IsSplit (finite negative m) answer → IsCut negative m answer
split_exactly b m answer p f s =
    let u : 0 < 2 ^ double.scale = pow_pos double.scale in
    let x = (number_converted b m answer.high s.status s.loses_info p s.high_is).is_delivered in
    let w = delivered_whole double b m (2 ^ double.scale) answer.high s.status u x in
    let r = high_rounded_to b m answer.high w.0 p f w.1 in
    let q = finite_pick b x.pick answer.high f x.value_is in
    let exactly : s.status ≡ ok_bits → number answer.high ≡ signed b m =
    λ o. ap number (x.value_is ∙ within_is double b x.pick refl q)
    ∙ ap (λ (i : ℕ). signed b i) (eq_of_mul-eq-mul_right (2 ^ double.scale) u x.pick m
    (ok_is_exact double b (m * 2 ^ double.scale) (2 ^ double.scale) x.pick s.status q x.status_is o)) in
    let n = low_left b m answer.high s.status r.is_finite exactly (λ z. absurd (never_zero b m answer.high p r z)) in
    let n' : IsWholeNumberAt (signed b m -ℤ number answer.high) answer.low =
    subst (λ (d : Datum). IsWholeNumberAt (signed b m -ℤ number answer.high) d) (sym s.low_is) n in
    let e = rest_joined (number answer.high) (number answer.low) (signed b m) n'.number_is in
    record {
      exactly = record {
        normalised = record {
          finite_high = r.is_finite;
          finite_low = n'.is_finite;
          nearest = answer.high;
          status = w.0;
          is_nearest =
              again_sum answer.high answer.low answer.high w.0 (signed b m) r.is_finite n'.is_finite e
              (λ z. rounded_of double z b m answer.high w.0 p w.1);
          same_number = is_equal_by answer.high answer.high r.is_finite r.is_finite refl;
        };
        number_is = times_one (pair_number answer) ∙ e;
      };
      high_is = r;
      low_is = n';
    }

-- within the largest double, the high part is finite
within_finite : (negative : Bool) (m : ℕ) (answer : Pair) → 0 < m → m ≤ largest double
    → IsSplit (finite negative m) answer → is_finite answer.high ≡ true
within_finite b m answer p l s =
    let k = number_converted b m answer.high s.status s.loses_info p s.high_is in
    let w = delivered_whole double b m (2 ^ double.scale) answer.high s.status (pow_pos double.scale) k.is_delivered in
    (within_nearest double true (signed b m) answer.high w.0 refl
    (subst (λ (i : ℕ). i ≤ largest double) (sym (magnitude_signed b m)) l)
    (rounded_of double true b m answer.high w.0 p w.1)).is_finite

-- ---- the low part is a double

-- a grid number within the largest value is a double
pub member_of : (datum : Datum) → is_finite datum ≡ true → IsGridNumber double.precision (number datum)
    → magnitude (number datum) ≤ largest double → IsMember double datum
member_of (finite b n) f g l = record {
  on_grid = on_grid_as (magnitude_signed b n) g;
  within = subst (λ (i : ℕ). i ≤ largest double) (magnitude_signed b n) l;
  zero_has = λ z. refl;
}
member_of (infinite b) f g l = absurd (false≢true f)
member_of (nan b s) f g l = absurd (false≢true f)

-- a wide number has at most twice the digits of a double
pub wide_number : (negative : Bool) (m : ℕ) → IsOnGrid wide.precision m
    → IsWholeProduct double.precision 0 (signed negative m) (pos 1) (signed negative m)
wide_number b m g =
    let e = magnitude_signed b m in
    let c : m < 2 ^ 106 * 2 ^ g.place = grid_bound wide.precision m g in
    let t : 2 ^ 106 * 2 ^ g.place ≡ 2 ^ 53 * (2 ^ 53 * 2 ^ g.place) =
    ap (λ (i : ℕ). i * 2 ^ g.place) (pow-add 2 53 53) ∙ mul_assoc (2 ^ 53) (2 ^ 53) (2 ^ g.place) in
    let c' : m < 2 ^ 53 * (2 ^ 53 * 2 ^ g.place) = subst (λ (i : ℕ). m < i) t c in
    record {
      is = refl;
      place = g.place;
      multiple =
          subst (λ (i : ℕ). IsMultiple (2 ^ g.place) i) (sym e)
          (coarse_multiple wide.precision m g.place g (omega arith));
      bound = subst (λ (i : ℕ). i < 2 ^ 53 * (2 ^ 53 * 2 ^ g.place)) (sym e) c';
    }

-- within the largest double, nothing is lost, and the rest is a double
pub lossless_split : (x : Datum) (answer : Pair) → IsSplit x answer → IsLosslessSplit x answer
lossless_split (finite b m) answer s member some l =
    let p : 0 < m = ltb-true 0 m some in
    let r = split_exactly b m answer p (within_finite b m answer p l s) s in
    let o = product_error_on_grid double.precision wide_enough 0 (signed b m) (pos 1) (signed b m) (number answer.high)
    (wide_number b m member.on_grid) r.high_is.nearest in
    let g : IsGridNumber double.precision (number answer.low) =
    on_grid_as (magnitude-sub (number answer.high) (signed b m) ∙ ap magnitude (sym r.low_is.number_is)) o in
    let e = error_eighth double.precision wide_enough (signed b m) (number answer.high) r.high_is.nearest in
    let v = magnitude-sub (number answer.high) (signed b m) in
    let d = magnitude_signed b m in
    (r.exactly, member_of answer.low r.low_is.is_finite g (omega (arith, e, v, ap magnitude r.low_is.number_is, d, l)))
lossless_split (infinite b) answer s member some l = absurd (false≢true some)
lossless_split (nan b n) answer s member some l = absurd (false≢true some)

-- ---- any finite high part

-- two zeros add up to zero, whatever their signs
zero_adds : (left right : Bool) → (signed left 0 +ℤ signed right 0) ≡ signed left 0
zero_adds b c = rw (no_sign b, no_sign c) refl

-- the split of a zero is exact
split_zero : (negative : Bool) (answer : Pair) → IsSplit (finite negative 0) answer
    → pair_number answer ≡ signed negative 0
split_zero b answer s =
    let h : answer.high ≡ finite b 0 = s.high_is.value_is in
    let l : answer.low ≡ positive_zero = s.low_is ∙ ap (λ (d : Datum). low_part (finite b 0) d s.status) h in
    ap (λ (d : Datum). number d +ℤ number answer.low) h ∙ ap (λ (d : Datum). signed b 0 +ℤ number d) l ∙
    zero_adds b false

-- the parts of a cut add up to the wide number
whole_exactly : (negative : Bool) (m : ℕ) (answer : Pair) → IsCut negative m answer
    → pair_number answer ≡ signed negative m
whole_exactly b m answer c = sym (times_one (pair_number answer)) ∙ c.exactly.number_is

-- the parts of a split add up to the wide datum
pub exact_split : (x : Datum) (answer : Pair) → IsSplit x answer → IsExactSplit x answer
exact_split (finite b zero) answer s f = split_zero b answer s
exact_split (finite b (suc m)) answer s f =
    whole_exactly b (suc m) answer (split_exactly b (suc m) answer (omega arith) f s)
exact_split (infinite b) answer s f = absurd (false≢true (ap is_finite (sym s.high_is.value_is) ∙ f))
exact_split (nan b n) answer s f = absurd (false≢true (ap is_finite (sym s.high_is.value_is) ∙ f))
