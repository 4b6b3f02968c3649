-- A pair that a wide number is split into is joined to that number again, so it has a shortest decimal.
use Rattle.std.proofs.Common.{◌≡◌, ◌<◌, ◌≤◌, ◌*◌, ℕ, zero, suc, ◌∙◌, Bool, true, false}
use Rattle.std.proofs.Common.{refl, sym, ap, subst, ⊎_elim, Option, Some, None, arith, lit≤, ℤ, pos, ◌+ℤ◌}
use Rattle.std.proofs.Math.Path.{subst₂}
use Rattle.std.proofs.lemmas.{Bool.cases_lt, Bool.false≢true, Bool.lt-ltb, Int.ints}
use Rattle.std.specs.Prelude.{IsSome}
use Rattle.apfloat_model.specs.{declared.kinds.Round.TheVariants.NearestTiesToEven, formats.Datum.Datum}
use Rattle.apfloat_model.specs.formats.{Datum.finite, Datum.infinite, Datum.nan, Format.largest, Members.IsMember}
use Rattle.apfloat_model.specs.{formats.Members.IsFiniteOf, order.Classes.is_finite, order.Classes.is_finite_non_zero}
use Rattle.apfloat_model.specs.{order.Order.number, arithmetic.Exact.signed, arithmetic.Exact.sign_of}
use Rattle.apfloat_model.specs.arithmetic.{Exact.magnitude, Exact.IsRounded, Sums.IsSum, Sums.zero_sum_sign}
use Rattle.apfloat_model.specs.rounding.{Grid.IsOnGrid, Rounding.ok_bits, Rounding.delivered_value}
use Rattle.apfloat_model.proofs.{arithmetic.Signs.magnitude_signed, order.Categories.same_of}
use Rattle.apfloat_model.proofs.{rounding.Laws.delivered_once, general.Choices.chosen}
use Rattle.apfloat_pair_theory.specs.PairFormats.{double, wide}
use Rattle.apfloat_pair_theory.specs.{PairParts.same_pair, Pairs.Pair, Pairs.pair_number}
use Rattle.apfloat_pair_theory.specs.Pairs.{positive_zero, low_part, IsJoined, IsSplit, IsSumOfParts, IsWidened}
use Rattle.apfloat_pair_theory.proofs.calls.PairsOnce.{split_once}
use Rattle.apfloat_pair_theory.proofs.numbers.Roundings.{beyond_is, finite_is}
use Rattle.apfloat_pair_theory.proofs.numbers.Signed.{magnitude-sub, on_grid_as, IsGridNumber}
use Rattle.apfloat_pair_theory.proofs.{numbers.WholeProducts.product_error_on_grid, pairs.Normalised.rounded_exactly}
use Rattle.apfloat_pair_theory.proofs.pairs.SplitLaws.{exact_split, number_converted, split_exactly, wide_number}
use Rattle.apfloat_pair_theory.proofs.pairs.{SplitLaws.member_of, SplitSteps.widened_same, SplitSteps.eighth_within}
use Rattle.apfloat_pair_theory.proofs.sums.{ClosingSums.wide_enough, PairRoundings.error_eighth}
use Rattle.apfloat_decimals.specs.{declared.decimal.Decimal.Decimal, ShortestSearch.GivesShortest}
use Rattle.apfloat_digits.specs.of_double_doubles.PairShortest.{GivesPairShortest}

-- ---- the parts are doubles

-- a pick that gives a finite value is within the largest double
finite_within : (negative : Bool) (p : ℕ) (high : Datum) → is_finite high ≡ true
    → high ≡ delivered_value double NearestTiesToEven negative p → magnitude (number high) ≤ largest double
finite_within b p high f v =
    ⊎_elim
    (λ (h : largest double < p).
    let e : high ≡ infinite b = v ∙ beyond_is double b p refl h in absurd (false≢true (sym (ap is_finite e) ∙ f)))
    (λ (h : p ≤ largest double).
    let e : high ≡ finite b p = finite_is double b p high refl f v in
    subst (λ (d : Datum). magnitude (number d) ≤ largest double) (sym e)
    (subst (λ (i : ℕ). i ≤ largest double) (sym (magnitude_signed b p)) h))
    (cases_lt (largest double) p)

-- ---- the join

-- a wide number is rounded to itself
rounded_itself : (negative of_zero : Bool) (n : ℕ) → IsOnGrid wide.precision (suc n) → suc n ≤ largest wide
    → IsRounded wide NearestTiesToEven of_zero (signed negative (suc n)) 1 (finite negative (suc n)) ok_bits
rounded_itself true z n g w =
    let q = magnitude_signed true (suc n) in
    subst (λ (i : ℕ). IsRounded wide NearestTiesToEven z (signed true (suc n)) 1 (finite true i) ok_bits) q
    (rounded_exactly wide z (signed true (suc n)) refl (on_grid_as (sym q) g) (rw q w))
rounded_itself false z n g w =
    let q = magnitude_signed false (suc n) in
    subst (λ (i : ℕ). IsRounded wide NearestTiesToEven z (signed false (suc n)) 1 (finite false i) ok_bits) q
    (rounded_exactly wide z (signed false (suc n)) refl (on_grid_as (sym q) g) (rw q w))

parts_joined : (negative : Bool) (n : ℕ) (high low joined : Datum) → IsFiniteOf wide negative (suc n)
    → IsMember double high → IsMember double low → is_finite high ≡ true → is_finite low ≡ true
    → (number high +ℤ number low) ≡ signed negative (suc n)
    → IsSumOfParts (record { high = high; low = low }) joined → joined ≡ finite negative (suc n)
parts_joined b n (finite c h) (finite d l) joined m mh ml fh fl e s =
    let z = zero_sum_sign NearestTiesToEven c d in
    let x = widened_same c h s.high mh s.high_is in
    let y = widened_same d l s.low ml s.low_is in
    let sum = subst₂ (λ (p : Datum) (q : Datum). IsSum wide NearestTiesToEven p q joined s.status) x y s.is_sum in
    let r : IsRounded wide NearestTiesToEven z (signed b (suc n)) 1 joined s.status =
    subst (λ (k : ℤ). IsRounded wide NearestTiesToEven z k 1 joined s.status) e sum in
    (delivered_once wide NearestTiesToEven (sign_of z (signed b (suc n))) (magnitude (signed b (suc n))) 1 joined
    (finite b (suc n)) s.status ok_bits r (rounded_itself b z n m.on_grid m.within)).0
parts_joined b n (finite c h) (infinite d) joined m mh ml fh fl e s = absurd (false≢true fl)
parts_joined b n (finite c h) (nan d t) joined m mh ml fh fl e s = absurd (false≢true fl)
parts_joined b n (infinite c) low joined m mh ml fh fl e s = absurd (false≢true fh)
parts_joined b n (nan c t) low joined m mh ml fh fl e s = absurd (false≢true fh)

-- a high part of a nonzero number is not zero
no_zero : (negative other : Bool) (n : ℕ) → (signed other 0 +ℤ pos 0) ≡ signed negative (suc n) → ⊥
no_zero true true n e = omega (arith, ints, e)
no_zero true false n e = omega (arith, ints, e)
no_zero false true n e = omega (arith, ints, e)
no_zero false false n e = omega (arith, ints, e)

some_high : (negative : Bool) (n : ℕ) (high : Datum) → is_finite high ≡ true
    → (is_finite_non_zero high ≡ false → (number high +ℤ pos 0) ≡ signed negative (suc n))
    → is_finite_non_zero high ≡ true
some_high b n (finite c zero) f e = absurd (no_zero b c n (e refl))
some_high b n (finite c (suc k)) f e = lt-ltb 0 (suc k) (omega arith)
some_high b n (infinite c) f e = absurd (false≢true f)
some_high b n (nan c s) f e = absurd (false≢true f)

-- the low part beside a zero
zero_low : (x high low : Datum) (status : ℕ) → is_finite_non_zero high ≡ false → low ≡ low_part x high status
    → number low ≡ pos 0
zero_low x high low status z l =
    let none : low_part x high status ≡ positive_zero = rw z refl in
    ap (λ (d : Datum). number d) (l ∙ none)

-- a wide number that is split, with a finite high part, is what the pair is joined to
number_joined : (negative : Bool) (n : ℕ) (x : Pair) (joined : Datum) → IsFiniteOf wide negative (suc n)
    → is_finite x.high ≡ true → IsSplit (finite negative (suc n)) x → IsJoined x joined
    → joined ≡ finite negative (suc n)
number_joined b n x joined m f s j =
    let some : 0 < suc n = omega arith in
    let r = split_exactly b (suc n) x some f s in
    let e : pair_number x ≡ signed b (suc n) = exact_split (finite b (suc n)) x s f in
    let v = magnitude-sub (number x.high) (signed b (suc n)) in
    let a = ap magnitude r.low_is.number_is in
    let o = product_error_on_grid double.precision wide_enough 0 (signed b (suc n)) (pos 1) (signed b (suc n))
    (number x.high) (wide_number b (suc n) m.on_grid) r.high_is.nearest in
    let g : IsGridNumber double.precision (number x.low) = on_grid_as (v ∙ sym a) o in
    let k = error_eighth double.precision wide_enough (signed b (suc n)) (number x.high) r.high_is.nearest in
    let c : 8 * magnitude (number x.low) ≤ suc n = omega (arith, k, v, a, magnitude_signed b (suc n)) in
    let low = member_of x.low r.low_is.is_finite g
    (eighth_within (magnitude (number x.low)) (suc n) (largest double) (largest wide) c m.within (lit≤ tt)) in
    let t = number_converted b (suc n) x.high s.status s.loses_info some s.high_is in
    let high = member_of x.high f r.high_is.nearest.on_grid
    (finite_within b t.is_delivered.pick x.high f t.is_delivered.value_is) in
    let nonzero = some_high b n x.high f
    (λ z. subst (λ (i : ℤ). (number x.high +ℤ i) ≡ signed b (suc n))
    (zero_low (finite b (suc n)) x.high x.low s.status z s.low_is) e) in
    parts_joined b n x.high x.low joined m high low f r.low_is.is_finite e
    (chosen (is_finite_non_zero x.high) (IsSumOfParts x joined) (IsWidened x.high joined) nonzero j)

-- ---- a decimal

pair_itself : (x : Pair) → same_pair x x ≡ true
pair_itself x = rw (same_of x.high, same_of x.low) refl

found : (b : Bool) (n : ℕ) (answer : Option Decimal) → GivesShortest wide (finite b n) answer → IsSome answer
found b n None g = absurd g
found b n (Some d) g = refl

-- the split of a wide number to which it is joined again has a shortest decimal
pub joined_has_decimal : (negative : Bool) (quanta : ℕ) (x : Pair) (answer : Option Decimal)
    → IsSplit (finite negative quanta) x → (given : GivesPairShortest x answer) → given.joined ≡ finite negative quanta
    → IsSome answer
joined_has_decimal b n x answer s g e =
    let back : g.back ≡ x = split_once (finite b n) g.back x (subst (λ (d : Datum). IsSplit d g.back) e g.is_split) s in
    let same : same_pair g.back x ≡ true = subst (λ (y : Pair). same_pair y x ≡ true) (sym back) (pair_itself x) in
    found b n answer
    (subst (λ (d : Datum). GivesShortest wide d answer) e
    (chosen (same_pair g.back x) (GivesShortest wide g.joined answer) (answer ≡ None) same g.is_answer))

-- so has the split of a nonzero wide number, if its high part is finite
pub split_has_decimal : (negative : Bool) (quanta : ℕ) (x : Pair) (answer : Option Decimal) → 0 < quanta
    → IsFiniteOf wide negative quanta → is_finite x.high ≡ true → IsSplit (finite negative quanta) x
    → GivesPairShortest x answer → IsSome answer
split_has_decimal b zero x answer p m f s g = absurd (omega (arith, p))
split_has_decimal b (suc n) x answer p m f s g =
    joined_has_decimal b (suc n) x answer s g (number_joined b n x g.joined m f s g.is_joined)
