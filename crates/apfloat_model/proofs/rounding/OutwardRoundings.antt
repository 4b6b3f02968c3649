-- One rounding downward and upward: the results are in order, and equal exactly where they are exact.
use Rattle.std.proofs.Common.{◌≡◌, ℕ, zero, suc, ◌*◌, ◌<◌, ◌≤◌, Bool, true, false, cond, ltb, sym}
use Rattle.std.proofs.Common.{refl, ap, ◌∙◌, subst, inl, inr, arith}
use Rattle.std.proofs.lemmas.{Bool.ltb-false, Bool.true≢false, Bool.false≢true, Int.ints}
use Rattle.std.specs.Prelude.{ℤ, ◌≤ℤ◌}
use Rattle.std.specs.{Bool.Decides, Cmp.int_ranks, Cmp.ranked_equal, Ordering.int_cmp, Ordering.is_eq}
use Rattle.apfloat_model.specs.declared.kinds.NonfiniteBehavior.{NonfiniteBehavior}
use Rattle.apfloat_model.specs.declared.kinds.NonfiniteBehavior.TheVariants.{IEEE754, NanOnly, NanNegativeZero}
use Rattle.apfloat_model.specs.declared.kinds.Round.{Round, TheVariants.TowardPositive, TheVariants.TowardNegative}
use Rattle.apfloat_model.specs.{arithmetic.Exact.signed, formats.Datum.Datum, formats.Datum.finite}
use Rattle.apfloat_model.specs.formats.{Datum.infinite, Datum.nan, Format.Format, Format.largest, Format.nan_base}
use Rattle.apfloat_model.specs.order.{Classes.is_nan, Order.is_equal, Order.AtMost}
use Rattle.apfloat_model.specs.rounding.Grid.{IsBelow, IsAbove}
use Rattle.apfloat_model.specs.rounding.Rounding.{ok_bits, past_largest, zero_sign, signed_quanta, IsDelivered}
use Rattle.apfloat_model.specs.rounding.TwoModes.{AreBounds, IsOk}
use Rattle.apfloat_model.proofs.{arithmetic.Signs.no_sign, rounding.Deliveries.signed_some}
use Rattle.apfloat_model.proofs.rounding.Laws.{delivered_once, exact_delivered, below_le_above}
use Rattle.apfloat_model.proofs.rounding.ModesAgree.{AgreesWhereOk, delivered_agrees}

-- ---- data in order

-- numbers compare equal exactly if their integers are equal
pub equal_numbers : (x y : ℤ) → Decides (is_eq (int_cmp x y)) (x ≡ y)
equal_numbers x y = ranked_equal x y (int_cmp x y) (int_ranks x y)

pub number_at_most : (z : ℤ) → z ≤ℤ z
number_at_most z = omega (arith, ints)

-- a datum that is not a NaN is at most itself
pub at_most_self : (v : Datum) → is_nan v ≡ false → AtMost v v
at_most_self (finite b n) h = number_at_most (signed b n)
at_most_self (infinite true) h = inl refl
at_most_self (infinite false) h = inr refl
at_most_self (nan b s) h = absurd (true≢false h)

-- a datum that is not a NaN is equal to itself
pub equal_to_self : (v : Datum) → is_nan v ≡ false → is_equal v v ≡ true
equal_to_self (finite b n) h = (equal_numbers (signed b n) (signed b n)).1 refl
equal_to_self (infinite true) h = refl
equal_to_self (infinite false) h = refl
equal_to_self (nan b s) h = absurd (true≢false h)

-- a count of quanta with a sign is that number, whatever the format's zeros
pub record IsNumber (z : ℤ) (value : Datum) : Type 0 where
  pub negative : Bool
  pub quanta : ℕ
  pub value_is : value ≡ finite negative quanta
  pub number_is : signed negative quanta ≡ z

signed_number : (kind : NonfiniteBehavior) (negative : Bool) (p : ℕ)
    → IsNumber (signed negative p) (signed_quanta kind negative p)
signed_number kind negative zero =
    record {
      negative = zero_sign kind negative;
      quanta = 0;
      value_is = refl;
      number_is = no_sign (zero_sign kind negative) ∙ sym (no_sign negative);
    }
signed_number kind negative (suc n) =
    record {
      negative = negative;
      quanta = suc n;
      value_is = signed_some kind negative (suc n) (omega arith);
      number_is = refl;
    }

-- ---- the two results of one rounding

-- in order, and equal only if the conclusion holds
abbrev InOrder : Datum → Datum → Type 0 → Type 0
InOrder low high Only = AtMost low high × (is_equal low high ≡ true → Only)

-- two numbers are in order if their integers are
numbers_in_order : (x y : ℤ) (low high : Datum) → IsNumber x low → IsNumber y high → x ≤ℤ y → InOrder low high (x ≡ y)
numbers_in_order x y low high a b l = rw (a.value_is, b.value_is, a.number_is, b.number_is) (l, (equal_numbers x y).0)

-- in order, where the first is rounded toward zero and the second away from it
abbrev InOrderOutward : Bool → Datum → Datum → Type 0 → Type 0
InOrderOutward false near far Only = InOrder near far Only
InOrderOutward true near far Only = InOrder far near Only

-- an infinity is past a number
before_infinity : (negative : Bool) (z : ℤ) (near : Datum) (Only : Type 0) → IsNumber z near
    → InOrderOutward negative near (infinite negative) Only
before_infinity false z near Only a = rw a.value_is (refl, λ e. absurd (false≢true e))
before_infinity true z near Only a = rw a.value_is (refl, λ e. absurd (false≢true e))

-- the value past the largest one, unless it is a NaN, is past a number
before_past : (kind : NonfiniteBehavior) (base : ℕ) (negative : Bool) (z : ℤ) (near : Datum) (Only : Type 0)
    → IsNumber z near → is_nan (past_largest kind base negative) ≡ false
    → InOrderOutward negative near (past_largest kind base negative) Only
before_past IEEE754 base negative z near Only a h = before_infinity negative z near Only a
before_past NanOnly base negative z near Only a h = absurd (true≢false h)
before_past NanNegativeZero base negative z near Only a h = absurd (true≢false h)

-- the value for a pick that is rounded toward zero, and for one that is rounded away from it
abbrev inner : NonfiniteBehavior → Bool → Bool → ℕ → ℕ → Datum
inner kind past negative top p = cond past (finite negative top) (signed_quanta kind negative p)

abbrev outer : NonfiniteBehavior → ℕ → Bool → Bool → ℕ → Datum
outer kind base past negative q = cond past (past_largest kind base negative) (signed_quanta kind negative q)

-- the one rounded toward zero is a number
inner_number : (kind : NonfiniteBehavior) (past negative : Bool) (top p : ℕ)
    → IsNumber (signed negative (cond past top p)) (inner kind past negative top p)
inner_number kind true negative top p =
    record { negative = negative; quanta = top; value_is = refl; number_is = refl }
inner_number kind false negative top p = signed_number kind negative p

-- the two neighbours are equal and in range
abbrev AreOne : ℕ → ℕ → ℕ → Type 0
AreOne top p q = (p ≡ q) × (q ≤ top)

same_positive : (p q : ℕ) → signed false p ≡ signed false q → p ≡ q
same_positive p q e = omega (arith, ints)

same_negative : (p q : ℕ) → signed true q ≡ signed true p → p ≡ q
same_negative p q e = omega (arith, ints)

-- the values for two neighbours in range are in order
numbers_outward : (kind : NonfiniteBehavior) (negative : Bool) (top p q : ℕ) → p ≤ q → q ≤ top
    → InOrderOutward negative (signed_quanta kind negative p) (signed_quanta kind negative q) (AreOne top p q)
numbers_outward kind false top p q l h =
    let o = numbers_in_order (signed false p) (signed false q) _ _ (signed_number kind false p)
    (signed_number kind false q) (omega (arith, ints)) in
    (o.0, λ e. (same_positive p q (o.1 e), h))
numbers_outward kind true top p q l h =
    let o = numbers_in_order (signed true q) (signed true p) _ _ (signed_number kind true q)
    (signed_number kind true p) (omega (arith, ints)) in
    (o.0, λ e. (same_negative p q (o.1 e), h))

-- the values for two neighbours are in order
outward : (kind : NonfiniteBehavior) (base : ℕ) (negative first second : Bool) (top p q : ℕ) → ltb top p ≡ first
    → ltb top q ≡ second → p ≤ q → is_nan (outer kind base second negative q) ≡ false
    → InOrderOutward negative (inner kind first negative top p) (outer kind base second negative q) (AreOne top p q)
outward kind base negative first true top p q x y l h =
    before_past kind base negative (signed negative (cond first top p)) (inner kind first negative top p)
    (AreOne top p q) (inner_number kind first negative top p) h
outward kind base negative true false top p q x y l h = absurd (grind arith)
outward kind base negative false false top p q x y l h = numbers_outward kind negative top p q l (ltb-false top q y)

-- a magnitude whose neighbours are equal and in range is delivered with status OK
one_neighbour_ok : (format : Format) (mode : Round) (negative : Bool) (amount parts p q : ℕ) (value : Datum)
    (status : ℕ) → 0 < parts → IsBelow format.precision p amount parts → IsAbove format.precision q amount parts
    → AreOne (largest format) p q → IsDelivered format mode negative amount parts value status → status ≡ ok_bits
one_neighbour_ok format mode negative amount parts p q v s h below above one d =
    let e : p * parts ≡ q * parts = ap (λ (x : ℕ). x * parts) one.0 in
    let l : p * parts ≤ amount = below.not_above in
    let m : amount ≤ q * parts = above.not_below in
    (delivered_once format mode negative amount parts v _ s ok_bits d
    (exact_delivered format mode negative q amount parts h above.on_grid one.1 (omega arith))).1

-- the results of one rounding downward and upward are in order
delivered_in_order : (format : Format) (negative : Bool) (amount parts : ℕ) (low high : Datum) (s t : ℕ)
    → 0 < parts → IsDelivered format TowardNegative negative amount parts low s
    → IsDelivered format TowardPositive negative amount parts high t
    → is_nan low ≡ false → is_nan high ≡ false → InOrder low high (s ≡ ok_bits)
delivered_in_order format false amount parts low high s t h d g n m =
    let p = d.is_pick.below in
    let q = g.is_pick.above in
    let kind = format.nonfinite in
    let base = nan_base format in
    let a : low ≡ inner kind (ltb (largest format) p) false (largest format) p = d.value_is ∙
    ap (λ (x : ℕ). inner kind (ltb (largest format) x) false (largest format) x) d.is_pick.is in
    let b : high ≡ outer kind base (ltb (largest format) q) false q = g.value_is ∙
    ap (λ (x : ℕ). outer kind base (ltb (largest format) x) false x) g.is_pick.is in
    let o = outward kind base false (ltb (largest format) p) (ltb (largest format) q) (largest format) p q refl refl
    (below_le_above format.precision p q amount parts h d.is_pick.is_below g.is_pick.is_above)
    (subst (λ (v : Datum). is_nan v ≡ false) b m) in
    let r : InOrder low high (AreOne (largest format) p q) = rw (a, b) o in (
      r.0,
      λ e.
          one_neighbour_ok format TowardNegative false amount parts p q low s h d.is_pick.is_below g.is_pick.is_above
          (r.1 e) d,
    )
delivered_in_order format true amount parts low high s t h d g n m =
    let p = g.is_pick.below in
    let q = d.is_pick.above in
    let kind = format.nonfinite in
    let base = nan_base format in
    let a : low ≡ outer kind base (ltb (largest format) q) true q = d.value_is ∙
    ap (λ (x : ℕ). outer kind base (ltb (largest format) x) true x) d.is_pick.is in
    let b : high ≡ inner kind (ltb (largest format) p) true (largest format) p = g.value_is ∙
    ap (λ (x : ℕ). inner kind (ltb (largest format) x) true (largest format) x) g.is_pick.is in
    let o = outward kind base true (ltb (largest format) p) (ltb (largest format) q) (largest format) p q refl refl
    (below_le_above format.precision p q amount parts h g.is_pick.is_below d.is_pick.is_above)
    (subst (λ (v : Datum). is_nan v ≡ false) a n) in
    let r : InOrder low high (AreOne (largest format) p q) = rw (a, b) o in (
      r.0,
      λ e.
          one_neighbour_ok format TowardNegative true amount parts p q low s h g.is_pick.is_below d.is_pick.is_above
          (r.1 e) d,
    )

-- ---- bounds

-- the results rounded downward and upward, unless one is a NaN, are bounds, equal exactly if a status is exact
abbrev pub Encloses : (ℕ → Type 0) → (Round → Datum → ℕ → Type 0) → Type 0
Encloses IsExact R =
    (low high : Datum) (s t : ℕ) → R TowardNegative low s → R TowardPositive high t
    → is_nan low ≡ false → is_nan high ≡ false → AreBounds IsExact low high s t

-- if a status is OK, so is the other, and the values are equal
equal_if_ok : (R : Round → Datum → ℕ → Type 0) (mode other : Round) (one two : Datum) (s t : ℕ) → AgreesWhereOk R
    → R mode one s → R other two t → s ≡ ok_bits → (two ≡ one) × (t ≡ ok_bits)
equal_if_ok R mode other one two s t agrees x y e = agrees mode other one two t (subst (λ (z : ℕ). R mode one z) e x) y

-- where results with status OK are the same in each mode, it is enough that equal ones have status OK
ok_bounds : (R : Round → Datum → ℕ → Type 0) (low high : Datum) (s t : ℕ) → AgreesWhereOk R → R TowardNegative low s
    → R TowardPositive high t → is_nan low ≡ false → InOrder low high (s ≡ ok_bits) → AreBounds IsOk low high s t
ok_bounds R low high s t agrees d g n o =
    record {
      in_order = o.0;
      equal_by_low = (
        o.1,
        λ e.
            let a = equal_if_ok R TowardNegative TowardPositive low high s t agrees d g e in
            subst (λ (v : Datum). is_equal low v ≡ true) (sym a.0) (equal_to_self low n),
      );
      equal_by_high = (
        λ e. (equal_if_ok R TowardNegative TowardPositive low high s t agrees d g (o.1 e)).1,
        λ e.
            let a = equal_if_ok R TowardPositive TowardNegative high low t s agrees g d e in
            subst (λ (v : Datum). is_equal low v ≡ true) a.0 (equal_to_self low n),
      );
    }

pub delivered_encloses : (format : Format) (negative : Bool) (amount parts : ℕ) → 0 < parts
    → Encloses IsOk (λ mode. IsDelivered format mode negative amount parts)
delivered_encloses format negative amount parts p low high s t d g n m =
    ok_bounds (λ mode. IsDelivered format mode negative amount parts) low high s t
    (delivered_agrees format negative amount parts p) d g n
    (delivered_in_order format negative amount parts low high s t p d g n m)
