-- The next values: their codes without a sign, with the sign of the number, are one more and one less.
use Rattle.std.proofs.Common.{◌≡◌, ℕ, zero, suc, ◌+◌, ◌-◌, ◌*◌, ◌^◌, ◌<◌, ◌≤◌, Bool, true, false, cond, ◌&&◌, eqb, leb}
use Rattle.std.proofs.Common.{ltb, sym, refl, ap, ◌∙◌, subst, ⊎_elim, arith, ℤ, pos, neg_ℤ, ◌+ℤ◌, ◌-ℤ◌, ◌≤ℤ◌, int_cmp}
use Rattle.std.proofs.{Common.Some, Common.None, lemmas.Int.ints, lemmas.Nat.mod_below, lemmas.Nat.pow_pos}
use Rattle.std.proofs.lemmas.Bool.{and_parts, cases_eq, cases_lt, eq-eqb, false≢true, ne_eqb}
use Rattle.std.specs.{Cmp.int_cmp_is, Cmp.int_ranks, Ordering.MatchOrdering}
use Rattle.std.specs.Prelude.{◌<ℤ◌}
use Rattle.std.specs.declared.cmp.Ordering.{Ordering, TheVariants.Less}
use Rattle.apfloat_model.specs.{arithmetic.Exact.signed, formats.Datum.Datum, order.Order.compared}
use Rattle.p3109_formats.specs.{declared.descriptor.Descriptor.Descriptor, Projections.IsProjection}
use Rattle.p3109_formats.specs.Laws.{AreNextValues, IsLess}
use Rattle.p3109_formats.specs.Projections.{code_above, code_below, coded, is_negative_code, largest_index, last_index}
use Rattle.p3109_formats.specs.Projections.{magnitude_of, nan_code, projected_datum, sign_bits, unsigned_codes}
use Rattle.p3109_formats.proofs.{OneAnswer.parts_of_code, Order.at_most_past, Order.known_order, Order.left_nan}
use Rattle.p3109_formats.proofs.{Order.right_nan, Values.largest_some}
use Rattle.p3109_formats.proofs.Codes.{IsCodedBy, all_codes, apart, four_codes, minus_code, nan_at, plain_code}

-- the code below the sign, with the sign
abbrev pub rank_of : Descriptor → ℕ → ℤ
rank_of c code = signed (is_negative_code c code) (magnitude_of c code)

-- ---- less is of lower rank

pub by_ranks : (c : Descriptor) (x y : ℕ) → IsProjection c → x < 2 ^ c.bits → y < 2 ^ c.bits
    → eqb x (nan_code c) ≡ false → eqb y (nan_code c) ≡ false
    → compared (projected_datum c x) (projected_datum c y) ≡ Some (int_cmp (rank_of c x) (rank_of c y))
by_ranks c x y law k l a b =
    rw (a, b) (known_order c.precision (largest_index c) (magnitude_of c x) (magnitude_of c y)
    (ltb (largest_index c) (magnitude_of c x)) (ltb (largest_index c) (magnitude_of c y))
    (is_negative_code c x) (is_negative_code c y) law.precision_low
    (at_most_past c x law k a) (at_most_past c y law l b))

no_order : (r : Ordering) → None ≡ Some r → ⊥
no_order r e = cc

left_known : (c : Descriptor) (x y : ℕ) → IsLess c x y → eqb x (nan_code c) ≡ false
left_known c x y h =
    ⊎_elim
    (λ (e : x ≡ nan_code c).
    let unknown = nan_at c x refl (eq-eqb x (nan_code c) e) in
    absurd (no_order Less (sym (ap (λ (d : Datum). compared d (projected_datum c y)) unknown
    ∙ left_nan (projected_datum c y)) ∙ h)))
    (λ (n : x ≡ nan_code c → ⊥). ne_eqb x (nan_code c) n)
    (cases_eq x (nan_code c))

right_known : (c : Descriptor) (x y : ℕ) → IsLess c x y → eqb y (nan_code c) ≡ false
right_known c x y h =
    ⊎_elim
    (λ (e : y ≡ nan_code c).
    let unknown = nan_at c y refl (eq-eqb y (nan_code c) e) in
    absurd (no_order Less (sym (ap (λ (d : Datum). compared (projected_datum c x) d) unknown
    ∙ right_nan (projected_datum c x)) ∙ h)))
    (λ (n : y ≡ nan_code c → ⊥). ne_eqb y (nan_code c) n)
    (cases_eq y (nan_code c))

one_order : (r s : Ordering) → Some r ≡ Some s → r ≡ s
one_order r s e = cc

below : (x y : ℤ) → int_cmp x y ≡ Less → x <ℤ y
below x y e = subst (λ (r : Ordering). MatchOrdering r (x <ℤ y) (x ≡ y) (y <ℤ x)) e (int_ranks x y)

lower : (c : Descriptor) (x y : ℕ) → IsProjection c → x < 2 ^ c.bits → y < 2 ^ c.bits → IsLess c x y
    → rank_of c x <ℤ rank_of c y
lower c x y law k l h =
    below (rank_of c x) (rank_of c y)
    (one_order _ Less (sym (by_ranks c x y law k l (left_known c x y h) (right_known c x y h)) ∙ h))

-- ---- codes by their ranks

record IsAtRank (c : Descriptor) (code : ℕ) (rank : ℤ) : Type 0 where
  bound : code < 2 ^ c.bits
  known : eqb code (nan_code c) ≡ false
  at : rank_of c code ≡ rank

less : (c : Descriptor) (x y : ℕ) (i j : ℤ) → IsProjection c → IsAtRank c x i → IsAtRank c y j → i <ℤ j → IsLess c x y
less c x y i j law a b l =
    by_ranks c x y law a.bound b.bound a.known b.known
    ∙ ap (λ (r : Ordering). Some r) (rw (a.at, b.at) (sym (int_cmp_is i j Less l)))

itself : (c : Descriptor) (code : ℕ) → code < 2 ^ c.bits → eqb code (nan_code c) ≡ false
    → IsAtRank c code (rank_of c code)
itself c code l isnt = record { bound = l; known = isnt; at = refl }

at_rank : (c : Descriptor) (negative : Bool) (index code : ℕ) → code < 2 ^ c.bits → IsCodedBy c negative index code
    → IsAtRank c code (signed negative index)
at_rank c negative index code l x = record {
  bound = l;
  known = x.no_nan;
  at = ap (λ (b : Bool). signed b (magnitude_of c code)) x.sign ∙ ap (λ (n : ℕ). signed negative n) x.rest;
}

plain_rank : (c : Descriptor) (index : ℕ) → IsProjection c → index ≤ last_index c → IsAtRank c index (pos index)
plain_rank c index law l =
    at_rank c false index index
    (rw (all_codes c law) (below_all c.signed (unsigned_codes c) index (omega (arith, l, (apart c law).last_below))))
    (plain_code c index law l)
  where
    below_all : (b : Bool) (codes i : ℕ) → i < codes → i < cond b (2 * codes) codes
    below_all true codes i l = omega (arith, l)
    below_all false codes i l = l

minus_rank : (c : Descriptor) (index : ℕ) → IsProjection c → c.signed ≡ true → 0 < index → index ≤ last_index c
    → IsAtRank c (unsigned_codes c + index) (neg_ℤ (pos index))
minus_rank c index law signed some l =
    let all : 2 ^ c.bits ≡ 2 * unsigned_codes c =
    all_codes c law ∙ ap (λ (b : Bool). cond b (2 * unsigned_codes c) (unsigned_codes c)) signed in
    at_rank c true index (unsigned_codes c + index) (omega (arith, all, l, (apart c law).last_below))
    (minus_code c index law signed some l)

-- what is no NaN is not past the last index
last_at : (signed extended negative : Bool) (codes code m : ℕ) → 4 ≤ codes → m < codes
    → code ≡ cond negative codes 0 + m → (signed && leb codes code) ≡ negative
    → eqb code (cond signed codes (codes - 1)) ≡ false
    → m ≤ codes - 1 - cond signed 0 1 - cond extended 1 0 + cond extended 1 0
last_at true true negative codes code m four l is sign other = omega (arith, four, l)
last_at true false negative codes code m four l is sign other = omega (arith, four, l)
last_at false extended true codes code m four l is sign other = absurd (false≢true sign)
last_at false true false codes code m four l is sign other =
    ⊎_elim (λ (k : m < codes - 1). omega (arith, k, four))
    (λ (k : codes - 1 ≤ m). absurd (false≢true (sym other ∙ eq-eqb code (codes - 1) (omega (arith, k, l, is)))))
    (cases_lt m (codes - 1))
last_at false false false codes code m four l is sign other =
    ⊎_elim (λ (k : m < codes - 1). omega (arith, k, four))
    (λ (k : codes - 1 ≤ m). absurd (false≢true (sym other ∙ eq-eqb code (codes - 1) (omega (arith, k, l, is)))))
    (cases_lt m (codes - 1))

pub at_most_last : (c : Descriptor) (code : ℕ) → IsProjection c → code < 2 ^ c.bits → eqb code (nan_code c) ≡ false
    → magnitude_of c code ≤ last_index c
at_most_last c code law l isnt =
    last_at c.signed c.extended (is_negative_code c code) (unsigned_codes c) code (magnitude_of c code)
    (four_codes c law) (mod_below code (unsigned_codes c) (pow_pos (c.bits - sign_bits c)))
    (parts_of_code c code law l) refl isnt

-- a rank is within the last one of each sign
signed_high : (b : Bool) (m last : ℕ) → m ≤ last → signed b m ≤ℤ pos last
signed_high true m last l = omega (arith, ints, l)
signed_high false m last l = omega (arith, ints, l)

signed_low : (b : Bool) (m last : ℕ) → m ≤ last → neg_ℤ (pos last) ≤ℤ signed b m
signed_low true m last l = omega (arith, ints, l)
signed_low false m last l = omega (arith, ints, l)

-- a negative code has a sign, and is not that of zero, which would be the NaN
pub record IsNegative (c : Descriptor) (code : ℕ) : Type 0 where
  pub signed : c.signed ≡ true
  pub is : code ≡ unsigned_codes c + magnitude_of c code
  pub some : 0 < magnitude_of c code
  pub at : rank_of c code ≡ neg_ℤ (pos (magnitude_of c code))

pub negative_code : (c : Descriptor) (code : ℕ) → IsProjection c → code < 2 ^ c.bits → eqb code (nan_code c) ≡ false
    → is_negative_code c code ≡ true → IsNegative c code
negative_code c code law l isnt e =
    let sign : c.signed ≡ true = (and_parts _ _ e).0 in
    let is : code ≡ unsigned_codes c + magnitude_of c code =
    parts_of_code c code law l ∙ ap (λ (b : Bool). cond b (unsigned_codes c) 0 + magnitude_of c code) e in
    let unknown : nan_code c ≡ unsigned_codes c =
    ap (λ (b : Bool). cond b (unsigned_codes c) (unsigned_codes c - 1)) sign in
    let some : 0 < magnitude_of c code = ⊎_elim
    (λ (k : magnitude_of c code < 1).
    absurd (false≢true (sym isnt ∙ eq-eqb code (nan_code c) (omega (arith, is, unknown, k)))))
    (λ (k : 1 ≤ magnitude_of c code). omega (arith, k)) (cases_lt (magnitude_of c code) 1) in
    record { signed = sign; is = is; some = some; at = ap (λ (b : Bool). signed b (magnitude_of c code)) e }

positive_code : (c : Descriptor) (code : ℕ) → IsProjection c → code < 2 ^ c.bits → is_negative_code c code ≡ false
    → code ≡ magnitude_of c code
positive_code c code law l e =
    parts_of_code c code law l ∙ ap (λ (b : Bool). cond b (unsigned_codes c) 0 + magnitude_of c code) e ∙ omega arith

-- with a sign, the code past that of a number is one, if the number is not the last
pub past_fits : (c : Descriptor) (code : ℕ) → IsProjection c → code < 2 ^ c.bits → is_negative_code c code ≡ true
    → (magnitude_of c code ≡ last_index c → ⊥) → code + 1 < 2 ^ c.bits
past_fits c code law l e other =
    let sign : c.signed ≡ true = (and_parts _ _ e).0 in
    let is : code ≡ unsigned_codes c + magnitude_of c code =
    parts_of_code c code law l ∙ ap (λ (b : Bool). cond b (unsigned_codes c) 0 + magnitude_of c code) e in
    let all : 2 ^ c.bits ≡ 2 * unsigned_codes c =
    all_codes c law ∙ ap (λ (b : Bool). cond b (2 * unsigned_codes c) (unsigned_codes c)) sign in
    let four = four_codes c law in
    let last : last_index c ≡ unsigned_codes c - 1 = signed_last c.extended (unsigned_codes c) four sign in
    omega (arith, is, all, mod_below code (unsigned_codes c) (pow_pos (c.bits - sign_bits c)), four, last, other)
  where
    last_by : (extended : Bool) (codes : ℕ) → 4 ≤ codes
        → codes - 1 - cond true 0 1 - cond extended 1 0 + cond extended 1 0 ≡ codes - 1
    last_by true codes l = omega (arith, l)
    last_by false codes l = omega (arith, l)

    signed_last : (extended : Bool) (codes : ℕ) → 4 ≤ codes → c.signed ≡ true
        → codes - 1 - cond c.signed 0 1 - cond extended 1 0 + cond extended 1 0 ≡ codes - 1
    signed_last extended codes l sign =
        ap (λ (b : Bool). codes - 1 - cond b 0 1 - cond extended 1 0 + cond extended 1 0) sign
        ∙ last_by extended codes l

-- ---- up

-- the code above that of a negative number has the next rank

above_negative : (c : Descriptor) (code : ℕ) → IsProjection c → code < 2 ^ c.bits → eqb code (nan_code c) ≡ false
    → is_negative_code c code ≡ true → IsAtRank c (code_above c code) (rank_of c code +ℤ pos 1)
above_negative c code law l isnt e =
    let n = negative_code c code law l isnt e in
    by_index (magnitude_of c code - 1) (omega (arith, n.some)) n.at (omega (arith, at_most_last c code law l isnt))
  where
    by_zero : (i : ℕ) → i ≤ last_index c → c.signed ≡ true → IsAtRank c (coded c true i) (neg_ℤ (pos i))
    by_zero zero k sign = plain_rank c 0 law k
    by_zero (suc i) k sign =
        let some : eqb (suc i) 0 ≡ false = ne_eqb (suc i) 0 (λ q. omega (arith, q)) in
        rw some (minus_rank c (suc i) law sign (omega arith) k)

    by_index : (i : ℕ) → magnitude_of c code ≡ i + 1 → rank_of c code ≡ neg_ℤ (pos (magnitude_of c code))
        → i ≤ last_index c → IsAtRank c (code_above c code) (rank_of c code +ℤ pos 1)
    by_index i m at k =
        let index : magnitude_of c code - 1 ≡ i = omega (arith, m) in
        let next : neg_ℤ (pos i) ≡ rank_of c code +ℤ pos 1 = omega (arith, ints, at, m) in
        subst (λ (z : ℤ). IsAtRank c (code_above c code) z) next
        (rw (isnt, e, index) (by_zero i k (negative_code c code law l isnt e).signed))

above_positive : (c : Descriptor) (code other : ℕ) → IsProjection c → code < 2 ^ c.bits → other < 2 ^ c.bits
    → eqb code (nan_code c) ≡ false → eqb other (nan_code c) ≡ false → rank_of c code <ℤ rank_of c other
    → is_negative_code c code ≡ false → IsAtRank c (code_above c code) (rank_of c code +ℤ pos 1)
above_positive c code other law l k isnt none lesser e =
    let m = positive_code c code law l e in
    let at : rank_of c code ≡ pos (magnitude_of c code) = ap (λ (b : Bool). signed b (magnitude_of c code)) e in
    let last = signed_high (is_negative_code c other) (magnitude_of c other) (last_index c)
    (at_most_last c other law k none) in
    let room : code < last_index c = omega (arith, ints, lesser, at, last, m) in
    let off : eqb code (last_index c) ≡ false = ne_eqb code (last_index c) (λ q. omega (arith, q, room)) in
    let next : pos (code + 1) ≡ rank_of c code +ℤ pos 1 = omega (arith, ints, at, m) in
    subst (λ (z : ℤ). IsAtRank c (code_above c code) z) next
    (rw (isnt, e, off) (stays c.extended (plain_rank c (code + 1) law (omega (arith, room)))))
  where
    stays : (b : Bool) {z : ℤ} → IsAtRank c (code + 1) z → IsAtRank c (cond (b && false) code (code + 1)) z
    stays true h = h
    stays false h = h

above : (c : Descriptor) (code other : ℕ) → IsProjection c → code < 2 ^ c.bits → other < 2 ^ c.bits
    → eqb code (nan_code c) ≡ false → eqb other (nan_code c) ≡ false → rank_of c code <ℤ rank_of c other
    → IsAtRank c (code_above c code) (rank_of c code +ℤ pos 1)
above c code other law l k isnt none lesser = by_sign (is_negative_code c code) refl
  where
    by_sign : (b : Bool) → is_negative_code c code ≡ b → IsAtRank c (code_above c code) (rank_of c code +ℤ pos 1)
    by_sign true e = above_negative c code law l isnt e
    by_sign false e = above_positive c code other law l k isnt none lesser e

-- ---- down

below_negative : (c : Descriptor) (code other : ℕ) → IsProjection c → code < 2 ^ c.bits → other < 2 ^ c.bits
    → eqb code (nan_code c) ≡ false → eqb other (nan_code c) ≡ false → rank_of c other <ℤ rank_of c code
    → is_negative_code c code ≡ true → IsAtRank c (code_below c code) (rank_of c code -ℤ pos 1)
below_negative c code other law l k isnt none lesser e =
    let n = negative_code c code law l isnt e in
    let m : ℕ = magnitude_of c code in
    let last = signed_low (is_negative_code c other) (magnitude_of c other) (last_index c)
    (at_most_last c other law k none) in
    let at = n.at in
    let room : m < last_index c = omega (arith, ints, lesser, at, last) in
    let off : eqb m (last_index c) ≡ false = ne_eqb m (last_index c) (λ q. omega (arith, q, room)) in
    let next : neg_ℤ (pos (m + 1)) ≡ rank_of c code -ℤ pos 1 = omega (arith, ints, at) in
    let code_is : unsigned_codes c + (m + 1) ≡ code + 1 = omega (arith, n.is) in
    subst (λ (z : ℤ). IsAtRank c (code_below c code) z) next
    (rw (isnt, e, off) (subst (λ (x : ℕ). IsAtRank c x (neg_ℤ (pos (m + 1)))) code_is
    (minus_rank c (m + 1) law n.signed (omega arith) (omega (arith, room)))))

-- without a sign no rank is below zero
sign_of : (c : Descriptor) (code : ℕ) → c.signed ≡ false → is_negative_code c code ≡ false
sign_of c code e = ap (λ (b : Bool). b && leb (unsigned_codes c) code) e

below_positive : (c : Descriptor) (code other : ℕ) → IsProjection c → code < 2 ^ c.bits
    → eqb code (nan_code c) ≡ false → rank_of c other <ℤ rank_of c code
    → is_negative_code c code ≡ false → IsAtRank c (code_below c code) (rank_of c code -ℤ pos 1)
below_positive c code other law l isnt lesser e =
    let at : rank_of c code ≡ pos (magnitude_of c code) = ap (λ (b : Bool). signed b (magnitude_of c code)) e in
    let m = positive_code c code law l e in
    let last = at_most_last c code law l isnt in
    ⊎_elim
    (λ (z : code ≡ 0).
    let next : neg_ℤ (pos 1) ≡ rank_of c code -ℤ pos 1 = omega (arith, ints, at, m, z) in
    subst (λ (r : ℤ). IsAtRank c (code_below c code) r) next
    (rw (isnt, e, eq-eqb code 0 z) (has_sign c.signed refl (omega (arith, ints, lesser, at, m, z)))))
    (λ (n : code ≡ 0 → ⊥).
    let next : pos (code - 1) ≡ rank_of c code -ℤ pos 1 = omega (arith, ints, at, m, n) in
    subst (λ (r : ℤ). IsAtRank c (code_below c code) r) next
    (rw (isnt, e, ne_eqb code 0 n) (plain_rank c (code - 1) law (omega (arith, last, m)))))
    (cases_eq code 0)
  where
    has_sign : (b : Bool) → c.signed ≡ b → rank_of c other <ℤ pos 0
        → IsAtRank c (cond c.signed (unsigned_codes c + 1) (nan_code c)) (neg_ℤ (pos 1))
    has_sign true s h =
        subst (λ (b : Bool). IsAtRank c (cond b (unsigned_codes c + 1) (nan_code c)) (neg_ℤ (pos 1))) (sym s)
        (minus_rank c 1 law s (omega arith) (omega (arith, largest_some c law, (apart c law).most_to)))
    has_sign false s h =
        let r : rank_of c other ≡ pos (magnitude_of c other) =
        ap (λ (b : Bool). signed b (magnitude_of c other)) (sign_of c other s) in
        absurd (omega (arith, ints, h, r))

below_it : (c : Descriptor) (code other : ℕ) → IsProjection c → code < 2 ^ c.bits → other < 2 ^ c.bits
    → eqb code (nan_code c) ≡ false → eqb other (nan_code c) ≡ false → rank_of c other <ℤ rank_of c code
    → IsAtRank c (code_below c code) (rank_of c code -ℤ pos 1)
below_it c code other law l k isnt none lesser = by_sign (is_negative_code c code) refl
  where
    by_sign : (b : Bool) → is_negative_code c code ≡ b → IsAtRank c (code_below c code) (rank_of c code -ℤ pos 1)
    by_sign true e = below_negative c code other law l k isnt none lesser e
    by_sign false e = below_positive c code other law l isnt lesser e

-- ---- both

pub next_values : AreNextValues
next_values c code other law l k = (up, down)
  where
    up : IsLess c code other → IsLess c code (code_above c code) × (IsLess c other (code_above c code) → ⊥)
    up h =
        let isnt = left_known c code other h in
        let rank = lower c code other law l k h in
        let a = above c code other law l k isnt (right_known c code other h) rank in
        let at = a.at in (
          less c code (code_above c code) (rank_of c code) (rank_of c code +ℤ pos 1) law (itself c code l isnt) a
              (omega (arith, ints)),
          λ x. let q = lower c other (code_above c code) law k a.bound x in omega (arith, ints, q, at, rank),
        )

    down : IsLess c other code → IsLess c (code_below c code) code × (IsLess c (code_below c code) other → ⊥)
    down h =
        let isnt = right_known c other code h in
        let rank = lower c other code law k l h in
        let a = below_it c code other law l k isnt (left_known c other code h) rank in
        let at = a.at in (
          less c (code_below c code) code (rank_of c code -ℤ pos 1) (rank_of c code) law a (itself c code l isnt)
              (omega (arith, ints)),
          λ x. let q = lower c (code_below c code) other law a.bound k x in omega (arith, ints, q, at, rank),
        )
