-- The total order is a total order, and agrees with `<`: it compares five keys in turn.
use Rattle.std.specs.Prelude.{◌≡◌, ◌⊎◌, ℕ, Bool, true, false, not, ◌&&◌, ◌||◌, eqb, ltb, leb}
use Rattle.std.specs.Prelude.{◌<◌, Option, Some, None, if◌then◌else◌}
use Rattle.std.specs.{Option.option_map, declared.cmp.Ordering.Ordering}
use Rattle.std.specs.declared.cmp.Ordering.TheVariants.{Less, Equal, Greater}
use Rattle.std.specs.Ordering.{nat_cmp, int_cmp, on, then_cmp, flip_args, is_gt, is_lt, is_eq, is_some_and}
use Rattle.std.specs.Ordering.{ordering_reverse, ordering_then, MatchOrdering}
use Rattle.std.specs.Cmp.{IsTotalOrder, nat_cmp_total, int_cmp_total, on_total, then_total, back_total, tied_itself}
use Rattle.std.specs.Cmp.{upto, ranks, ranked, int_ranked}
use Rattle.std.proofs.Common.{refl, sym, ap, ◌∙◌, inl, inr, arith}
use Rattle.std.proofs.lemmas.Bool.{le-leb, lt-leb, false≢true}
use Rattle.apfloat_model.specs.formats.{Format.Format, Datum.Datum, Datum.finite, Datum.infinite, Datum.nan}
use Rattle.apfloat_model.specs.{formats.Nan.is_signaling, arithmetic.Exact.signed, arithmetic.Exact.magnitude}
use Rattle.apfloat_model.specs.order.{Classes.is_negative, Order.is_below, Order.compared, Order.number}
use Rattle.apfloat_model.proofs.{arithmetic.Signs.magnitude_signed, order.OrderLaws.compared_laws}
use Rattle.ieee_operations.specs.TotalOrder.{total_order, numbers_in_order, HasTotalOrder}

-- ---- the keys

-- the place of a NaN: below or above everything else, a signaling one nearer to it
abbrev nan_region : Bool → Bool → ℕ
nan_region true true = 1
nan_region true false = 0
nan_region false true = 5
nan_region false false = 6

-- negative NaNs, the negative infinity, numbers, the positive infinity, positive NaNs
abbrev region : Format → Datum → ℕ
region f (nan b s) = nan_region b (is_signaling f s)
region f (infinite b) = if b then 2 else 4
region f (finite b n) = 3

-- the sign of a number, which tells the zeros apart
abbrev sign_key : Datum → ℕ
sign_key (nan b s) = 0
sign_key (infinite b) = 0
sign_key (finite b n) = if b then 0 else 1

-- the significand of a positive NaN, and of a negative one
abbrev high : Datum → ℕ
high (nan b s) = if b then 0 else s
high (infinite b) = 0
high (finite b n) = 0

abbrev low : Datum → ℕ
low (nan b s) = if b then s else 0
low (infinite b) = 0
low (finite b n) = 0

abbrev significands : Datum → Datum → Ordering
significands = then_cmp (on high nat_cmp) (flip_args (on low nat_cmp))

abbrev rank : Format → Datum → Datum → Ordering
rank f = then_cmp (on (region f) nat_cmp) (then_cmp (on number int_cmp) (then_cmp (on sign_key nat_cmp) significands))

-- each key is totally ordered, and so are all of them in turn
rank_total : (f : Format) → IsTotalOrder (rank f)
rank_total f =
    then_total (on_total (region f) nat_cmp_total) (then_total (on_total number int_cmp_total)
    (then_total (on_total sign_key nat_cmp_total)
    (then_total (on_total high nat_cmp_total) (back_total (on_total low nat_cmp_total)))))

-- ---- the total order is that of the keys

-- a number is at most another exactly if it does not compare greater
at_most : (s t : ℕ) (r : Ordering) → MatchOrdering r (s < t) (s ≡ t) (t < s) → leb s t ≡ not (is_gt r)
at_most s t Less h = le-leb s t (omega arith)
at_most s t Equal h = le-leb s t (omega arith)
at_most s t Greater h = lt-leb s t h

leb_is : (s t : ℕ) → leb s t ≡ not (is_gt (nat_cmp s t))
leb_is s t = at_most s t (nat_cmp s t) (ranks s t)

-- two numbers, by their order and their signs
of_numbers : (r : Ordering) (b c : Bool) → (is_lt r || (is_eq r && (b || not c)))
    ≡ not (is_gt (ordering_then r (ordering_then (nat_cmp (if b then 0 else 1) (if c then 0 else 1)) Equal)))
of_numbers Less b c = refl
of_numbers Greater b c = refl
of_numbers Equal true true = refl
of_numbers Equal true false = refl
of_numbers Equal false true = refl
of_numbers Equal false false = refl

-- a NaN against a number, on either side
nan_first : (b q : Bool) (rest : Ordering) → b ≡ not (is_gt (ordering_then (nat_cmp (nan_region b q) 3) rest))
nan_first true true rest = refl
nan_first true false rest = refl
nan_first false true rest = refl
nan_first false false rest = refl

nan_second : (c p : Bool) (rest : Ordering) → not c ≡ not (is_gt (ordering_then (nat_cmp 3 (nan_region c p)) rest))
nan_second true true rest = refl
nan_second true false rest = refl
nan_second false true rest = refl
nan_second false false rest = refl

-- a NaN before an infinity, and after it
nan_and_infinity : (b q c : Bool) (rest : Ordering)
    → (b ≡ not (is_gt (ordering_then (nat_cmp (nan_region b q) (if c then 2 else 4)) rest)))
    × (not b ≡ not (is_gt (ordering_then (nat_cmp (if c then 2 else 4) (nan_region b q)) rest)))
nan_and_infinity true true true rest = (refl, refl)
nan_and_infinity true true false rest = (refl, refl)
nan_and_infinity true false true rest = (refl, refl)
nan_and_infinity true false false rest = (refl, refl)
nan_and_infinity false true true rest = (refl, refl)
nan_and_infinity false true false rest = (refl, refl)
nan_and_infinity false false true rest = (refl, refl)
nan_and_infinity false false false rest = (refl, refl)

-- two positive NaNs, by whether each is signaling and the order of the significands
of_positive : (q p u : Bool) (r : Ordering) → u ≡ not (is_gt r) → (if q then not p || u else not p && u)
    ≡ not (is_gt (ordering_then (nat_cmp (nan_region false q) (nan_region false p)) (ordering_then r Equal)))
of_positive true true u Less e = e
of_positive true true u Equal e = e
of_positive true true u Greater e = e
of_positive true false u r e = refl
of_positive false true u r e = refl
of_positive false false u Less e = e
of_positive false false u Equal e = e
of_positive false false u Greater e = e

-- two negative NaNs, with the right one first
of_negative : (q p u : Bool) (r : Ordering) → u ≡ not (is_gt r) → (if p then not q || u else not q && u)
    ≡ not (is_gt (ordering_then (nat_cmp (nan_region true q) (nan_region true p)) r))
of_negative true true u r e = e
of_negative true false u r e = refl
of_negative false true u r e = refl
of_negative false false u r e = e

-- NaNs of opposite signs
of_opposite : (q p : Bool) (rest : Ordering)
    → true ≡ not (is_gt (ordering_then (nat_cmp (nan_region true q) (nan_region false p)) rest))
of_opposite true true rest = refl
of_opposite true false rest = refl
of_opposite false true rest = refl
of_opposite false false rest = refl

of_opposite_back : (q p : Bool) (rest : Ordering)
    → false ≡ not (is_gt (ordering_then (nat_cmp (nan_region false q) (nan_region true p)) rest))
of_opposite_back true true rest = refl
of_opposite_back true false rest = refl
of_opposite_back false true rest = refl
of_opposite_back false false rest = refl

-- the first datum is at or below the second exactly if its keys do not compare greater
by_keys : (f : Format) (x y : Datum) → total_order f x y ≡ not (is_gt (rank f x y))
by_keys f (nan true s) (nan true t) =
    of_negative (is_signaling f s) (is_signaling f t) (leb t s) (nat_cmp t s) (leb_is t s)
by_keys f (nan true s) (nan false t) = of_opposite (is_signaling f s) (is_signaling f t) _
by_keys f (nan false s) (nan true t) = of_opposite_back (is_signaling f s) (is_signaling f t) _
by_keys f (nan false s) (nan false t) =
    of_positive (is_signaling f s) (is_signaling f t) (leb s t) (nat_cmp s t) (leb_is s t)
by_keys f (nan b s) (finite c n) = nan_first b (is_signaling f s) _
by_keys f (nan b s) (infinite c) = (nan_and_infinity b (is_signaling f s) c _).0
by_keys f (finite b m) (nan c t) = nan_second c (is_signaling f t) _
by_keys f (infinite b) (nan c t) = (nan_and_infinity c (is_signaling f t) b _).1
by_keys f (finite b m) (finite c n) = of_numbers (int_cmp (signed b m) (signed c n)) b c
by_keys f (finite b m) (infinite true) = refl
by_keys f (finite b m) (infinite false) = refl
by_keys f (infinite true) (finite c n) = refl
by_keys f (infinite false) (finite c n) = refl
by_keys f (infinite true) (infinite true) = refl
by_keys f (infinite true) (infinite false) = refl
by_keys f (infinite false) (infinite true) = refl
by_keys f (infinite false) (infinite false) = refl

-- ---- data with the same keys are the same

both_equal : (r s : Ordering) → ordering_then r s ≡ Equal → (r ≡ Equal) × (s ≡ Equal)
both_equal Less s e = cc
both_equal Equal s e = (refl, e)
both_equal Greater s e = cc

same_numbers : (m n : ℕ) → nat_cmp m n ≡ Equal → m ≡ n
same_numbers m n e = ranked m n Equal (sym e)

-- what the regions of two data with the same keys say
nan_side : (b q : Bool) → ltb (nan_region b q) 3 ≡ b
nan_side true true = refl
nan_side true false = refl
nan_side false true = refl
nan_side false false = refl

abbrev is_middle : ℕ → Bool
is_middle n = leb 2 n && leb n 4

nan_apart : (b q : Bool) → is_middle (nan_region b q) ≡ false
nan_apart true true = refl
nan_apart true false = refl
nan_apart false true = refl
nan_apart false false = refl

infinity_within : (b : Bool) → is_middle (if b then 2 else 4) ≡ true
infinity_within true = refl
infinity_within false = refl

infinity_side : (b : Bool) → ltb (if b then 2 else 4) 3 ≡ b
infinity_side true = refl
infinity_side false = refl

infinity_apart : (b : Bool) → eqb (if b then 2 else 4) 3 ≡ false
infinity_apart true = refl
infinity_apart false = refl

sign_kept : (b : Bool) → eqb (if b then 0 else 1) 0 ≡ b
sign_kept true = refl
sign_kept false = refl

same_nans : (b : Bool) (s t : ℕ) → (if b then 0 else s) ≡ (if b then 0 else t)
    → (if b then t else 0) ≡ (if b then s else 0) → nan b s ≡ nan b t
same_nans true s t h k = ap (λ n. nan true n) (sym k)
same_nans false s t h k = ap (λ n. nan false n) h

nans_alike : (b c : Bool) (s t : ℕ) → b ≡ c → (if b then 0 else s) ≡ (if c then 0 else t)
    → (if c then t else 0) ≡ (if b then s else 0) → nan b s ≡ nan c t
nans_alike true true s t e h k = same_nans true s t h k
nans_alike true false s t e h k = cc
nans_alike false true s t e h k = cc
nans_alike false false s t e h k = same_nans false s t h k

numbers_alike : (b c : Bool) (m n : ℕ) → b ≡ c → signed b m ≡ signed c n → finite b m ≡ finite c n
numbers_alike true true m n e h =
    ap (λ k. finite true k) (sym (magnitude_signed true m) ∙ ap magnitude h ∙ magnitude_signed true n)
numbers_alike true false m n e h = cc
numbers_alike false true m n e h = cc
numbers_alike false false m n e h =
    ap (λ k. finite false k) (sym (magnitude_signed false m) ∙ ap magnitude h ∙ magnitude_signed false n)

pub record AreKeysSame (f : Format) (x y : Datum) : Type 0 where
  pub regions : region f x ≡ region f y
  pub numbers : number x ≡ number y
  pub signs : sign_key x ≡ sign_key y
  pub highs : high x ≡ high y
  pub lows : low y ≡ low x

keys_of : (f : Format) (x y : Datum) → rank f x y ≡ Equal → AreKeysSame f x y
keys_of f x y e =
    let a = both_equal (nat_cmp (region f x) (region f y)) _ e in
    let b = both_equal (int_cmp (number x) (number y)) _ a.1 in
    let c = both_equal (nat_cmp (sign_key x) (sign_key y)) _ b.1 in
    let d = both_equal (nat_cmp (high x) (high y)) _ c.1 in
    record {
      regions = same_numbers (region f x) (region f y) a.0;
      numbers = int_ranked (number x) (number y) Equal (sym b.0);
      signs = same_numbers (sign_key x) (sign_key y) c.0;
      highs = same_numbers (high x) (high y) d.0;
      lows = same_numbers (low y) (low x) d.1;
    }

same_data : (f : Format) (x y : Datum) → AreKeysSame f x y → x ≡ y
same_data f (nan b s) (nan c t) k =
    nans_alike b c s t
    (sym (nan_side b (is_signaling f s)) ∙ ap (λ n. ltb n 3) k.regions ∙ nan_side c (is_signaling f t)) k.highs k.lows
same_data f (nan b s) (infinite c) k =
    absurd (false≢true (sym (nan_apart b (is_signaling f s)) ∙ ap is_middle k.regions ∙ infinity_within c))
same_data f (nan b s) (finite c n) k =
    absurd (false≢true (sym (nan_apart b (is_signaling f s)) ∙ ap is_middle k.regions))
same_data f (infinite b) (nan c t) k =
    absurd (false≢true (sym (nan_apart c (is_signaling f t)) ∙ ap is_middle (sym k.regions) ∙ infinity_within b))
same_data f (infinite b) (infinite c) k =
    ap infinite (sym (infinity_side b) ∙ ap (λ n. ltb n 3) k.regions ∙ infinity_side c)
same_data f (infinite b) (finite c n) k = absurd (false≢true (sym (infinity_apart b) ∙ ap (λ n. eqb n 3) k.regions))
same_data f (finite b m) (nan c t) k =
    absurd (false≢true (sym (nan_apart c (is_signaling f t)) ∙ ap is_middle (sym k.regions)))
same_data f (finite b m) (infinite c) k =
    absurd (false≢true (sym (infinity_apart c) ∙ ap (λ n. eqb n 3) (sym k.regions)))
same_data f (finite b m) (finite c n) k =
    numbers_alike b c m n (sym (sign_kept b) ∙ ap (λ n. eqb n 0) k.signs ∙ sign_kept c) k.numbers

-- ---- the laws

not_greater : (answer greater : Bool) → answer ≡ not greater → answer ≡ true → greater ≡ false
not_greater answer true e h = absurd (false≢true (sym e ∙ h))
not_greater answer false e h = refl

even : (r s : Ordering) → r ≡ ordering_reverse s → is_gt r ≡ false → is_gt s ≡ false → r ≡ Equal
even Less Less e h k = cc
even Less Equal e h k = cc
even Less Greater e h k = cc
even Equal s e h k = refl
even Greater s e h k = cc

one_way : (r s : Ordering) → r ≡ ordering_reverse s → (not (is_gt r) ≡ true) ⊎ (not (is_gt s) ≡ true)
one_way Less s e = inl refl
one_way Equal s e = inl refl
one_way Greater Less e = inr refl
one_way Greater Equal e = cc
one_way Greater Greater e = cc

one_answer : (first second : Bool) {a b : Bool} → first ≡ a → second ≡ b → (a ≡ true) ⊎ (b ≡ true)
    → (first ≡ true) ⊎ (second ≡ true)
one_answer first second e d (inl h) = inl (e ∙ h)
one_answer first second e d (inr h) = inr (d ∙ h)

less_is : (order : Option Ordering) → is_some_and is_lt order ≡ true → order ≡ Some Less
less_is None h = cc
less_is (Some Less) h = refl
less_is (Some Equal) h = cc
less_is (Some Greater) h = cc

-- the order of two numbers, one of which is less
below_numbers : (x y : Datum) → is_below x y ≡ true → (numbers_in_order x y ≡ true) × (numbers_in_order y x ≡ false)
below_numbers x y h =
    let less : compared x y ≡ Some Less = less_is (compared x y) h in
    let greater : compared y x ≡ Some Greater =
    compared_laws.antisymm y x ∙ ap (option_map ordering_reverse) less in (
      ap (λ o. is_some_and is_lt o || (is_some_and is_eq o && (is_negative x || not (is_negative y)))) less,
      ap (λ o. is_some_and is_lt o || (is_some_and is_eq o && (is_negative y || not (is_negative x)))) greater,
    )

below : (f : Format) (x y : Datum) → is_below x y ≡ true → (total_order f x y ≡ true) × (total_order f y x ≡ false)
below f (nan b s) y h = cc
below f (finite b m) (nan c t) h = cc
below f (infinite b) (nan c t) h = cc
below f (finite b m) (finite c n) h = below_numbers (finite b m) (finite c n) h
below f (finite b m) (infinite c) h = below_numbers (finite b m) (infinite c) h
below f (infinite b) (finite c n) h = below_numbers (infinite b) (finite c n) h
below f (infinite b) (infinite c) h = below_numbers (infinite b) (infinite c) h

pub total_laws : (f : Format) → HasTotalOrder f
total_laws f = record {
  reflexive = λ x. by_keys f x x ∙ ap (λ r. not (is_gt r)) (tied_itself (rank_total f) x);
  antisymmetric = λ x y h k.
      same_data f x y (keys_of f x y (even (rank f x y) (rank f y x) ((rank_total f).antisymm x y)
      (not_greater (total_order f x y) (is_gt (rank f x y)) (by_keys f x y) h)
      (not_greater (total_order f y x) (is_gt (rank f y x)) (by_keys f y x) k)));
  transitive = λ x y z h k. by_keys f x z
      ∙ ap not (upto (rank_total f) x y z (not_greater (total_order f x y) (is_gt (rank f x y)) (by_keys f x y) h)
      (not_greater (total_order f y z) (is_gt (rank f y z)) (by_keys f y z) k));
  total = λ x y. one_answer (total_order f x y) (total_order f y x) (by_keys f x y) (by_keys f y x)
      (one_way (rank f x y) (rank f y x) ((rank_total f).antisymm x y));
  below = below f;
}
