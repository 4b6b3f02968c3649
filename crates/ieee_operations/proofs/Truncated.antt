-- A number truncated to another format is ordered as the number itself, but for what was cut off.
use Rattle.std.specs.Prelude.{◌≡◌, ℕ, zero, suc, ◌*◌, ◌^◌, ◌<◌, ◌≤◌, Bool, true, false, not}
use Rattle.std.specs.Prelude.{eqb, ltb, pos, neg_ℤ, ◌<ℤ◌, Some, None, if◌then◌else◌}
use Rattle.std.specs.declared.cmp.Ordering.{Ordering, TheVariants.Less, TheVariants.Equal, TheVariants.Greater}
use Rattle.std.specs.Ordering.{nat_cmp, int_cmp, ordering_then}
use Rattle.std.specs.Cmp.{ranks, int_ranks, int_cmp_is}
use Rattle.std.proofs.Common.{refl, sym, ap, ◌∙◌, arith}
use Rattle.std.proofs.lemmas.{Cmp.by_ranked, Int.ints, Bool.eqb-true, Bool.ne_eqb, Bool.ltb-true, Nat.pow_pos}
use Rattle.std.proofs.{lemmas.Option.same_Some, Math.Nat.mul-lt-mul_of_pos_right}
use Rattle.apfloat_model.specs.declared.kinds.{Category.TheVariants.Normal, NonfiniteBehavior.NonfiniteBehavior}
use Rattle.apfloat_model.specs.{declared.kinds.Round.TheVariants.TowardZero, formats.Format.Format}
use Rattle.apfloat_model.specs.formats.{Format.largest, Datum.Datum, Datum.finite, Datum.infinite, Datum.nan}
use Rattle.apfloat_model.specs.{formats.Members.IsMember, rounding.Grid.IsOnGrid, rounding.Grid.IsBelow}
use Rattle.apfloat_model.specs.rounding.Rounding.{IsDelivered, signed_quanta, zero_sign, is_tiny, raises_overflow}
use Rattle.apfloat_model.specs.arithmetic.{Conversions.IsConversion, Conversions.IsConvertedNumber, Exact.signed}
use Rattle.apfloat_model.specs.order.{Classes.category_of, Classes.is_negative, Order.compared}
use Rattle.apfloat_model.proofs.general.Choices.{not_zero, eqb_self, above_zero}
use Rattle.apfloat_model.proofs.{arithmetic.Signs.no_sign, rounding.Deliveries.quanta_are, order.Categories.number_only}
use Rattle.ieee_operations.specs.TwoFormats.{in_common_unit, compared_between}

-- ---- magnitudes

-- q quanta are the most that are not above amount / parts, as far as m quanta can tell
pub record IsGreatest (amount parts q m : ℕ) (is_cut : Bool) : Type 0 where
  pub some_parts : 0 < parts
  pub some : 0 < amount
  pub not_above : q * parts ≤ amount
  pub greatest : m * parts ≤ amount → m ≤ q
  pub cut : is_cut ≡ not (eqb (q * parts) amount)

fewer : (amount parts q m : ℕ) (is_cut : Bool) → IsGreatest amount parts q m is_cut → q < m → amount < m * parts
fewer amount parts q m is_cut t h =
    by_ranked (amount < m * parts) (amount ≡ m * parts) (m * parts < amount) (nat_cmp amount (m * parts))
    (ranks amount (m * parts)) (λ e l. l)
    (λ e l. let k = t.greatest (omega (arith, l)) in absurd (omega (arith, h, k)))
    (λ e l. let k = t.greatest (omega (arith, l)) in absurd (omega (arith, h, k)))

more : (amount parts q m : ℕ) (is_cut : Bool) → IsGreatest amount parts q m is_cut → m < q → m * parts < amount
more amount parts q m is_cut t h =
    let k : m * parts < q * parts = mul-lt-mul_of_pos_right h t.some_parts in
    omega (arith, k, t.not_above)

test_kept : (test : Bool) → false ≡ not test → test ≡ true
test_kept true e = refl
test_kept false e = cc

test_lost : (test : Bool) → true ≡ not test → test ≡ false
test_lost true e = cc
test_lost false e = refl

-- q quanta are the amount if nothing was cut off, and otherwise less
all_kept : (k amount : ℕ) → false ≡ not (eqb k amount) → amount ≡ k
all_kept k amount e = sym (eqb-true k amount (test_kept (eqb k amount) e))

some_lost : (k amount : ℕ) → k ≤ amount → true ≡ not (eqb k amount) → k < amount
some_lost k amount h e =
    by_ranked (k < amount) (k ≡ amount) (amount < k) (nat_cmp k amount) (ranks k amount) (λ d l. l)
    (λ d l. let c : true ≡ false = sym (rw l (eqb_self amount)) ∙ test_lost (eqb k amount) e in cc)
    (λ d l. absurd (omega (arith, h, l)))

-- ---- orders

-- the order of a number, from that of the truncated number
abbrev settled : Ordering → Bool → Bool → Ordering
settled order is_cut negative = if is_cut then ordering_then order (if negative then Less else Greater) else order

stays_less : (order : Ordering) (is_cut negative : Bool) → order ≡ Less → settled order is_cut negative ≡ Less
stays_less order true b e = rw e refl
stays_less order false b e = e

stays_greater : (order : Ordering) (is_cut negative : Bool) → order ≡ Greater → settled order is_cut negative ≡ Greater
stays_greater order true b e = rw e refl
stays_greater order false b e = e

-- as many quanta, positive and negative
level_positive : (amount parts q m : ℕ) (is_cut : Bool) → IsGreatest amount parts q m is_cut → q ≡ m
    → (order : Ordering) → order ≡ Equal → settled order is_cut false ≡ int_cmp (pos amount) (pos (m * parts))
level_positive amount parts q m true t h order d =
    let l = some_lost (q * parts) amount t.not_above t.cut in
    rw d (int_cmp_is (pos amount) (pos (m * parts)) Greater (omega (arith, ints, l, ap (λ j. j * parts) h)))
level_positive amount parts q m false t h order d =
    d ∙ int_cmp_is (pos amount) (pos (m * parts)) Equal
    (ap pos (all_kept (q * parts) amount t.cut ∙ ap (λ j. j * parts) h))

level_negative : (amount parts q m : ℕ) (is_cut : Bool) → IsGreatest amount parts q m is_cut → q ≡ m
    → (order : Ordering) → order ≡ Equal
    → settled order is_cut true ≡ int_cmp (neg_ℤ (pos amount)) (neg_ℤ (pos (m * parts)))
level_negative amount parts q m true t h order d =
    let l = some_lost (q * parts) amount t.not_above t.cut in
    let k = ap (λ j. j * parts) h in
    rw d (int_cmp_is (neg_ℤ (pos amount)) (neg_ℤ (pos (m * parts))) Less (omega (arith, ints, l, k)))
level_negative amount parts q m false t h order d =
    d ∙ int_cmp_is (neg_ℤ (pos amount)) (neg_ℤ (pos (m * parts))) Equal
    (ap (λ j. neg_ℤ (pos j)) (all_kept (q * parts) amount t.cut ∙ ap (λ j. j * parts) h))

-- no quanta on opposite sides: something was cut off
level_zero : (amount parts q m : ℕ) (is_cut : Bool) → IsGreatest amount parts q m is_cut → q ≡ 0 → is_cut ≡ true
level_zero amount parts q m true t h = refl
level_zero amount parts q m false t h =
    absurd (omega (arith, all_kept (q * parts) amount t.cut, ap (λ j. j * parts) h, t.some))

-- the order of the truncated number and m quanta, settled, is that of the number
pub settles : (b c : Bool) (amount parts q m : ℕ) (is_cut : Bool) → IsGreatest amount parts q m is_cut
    → (order : Ordering) → order ≡ int_cmp (signed b q) (signed c m)
    → settled order is_cut b ≡ int_cmp (signed b amount) (signed c (m * parts))
settles false false amount parts q m is_cut t order e =
    by_ranked (pos q <ℤ pos m) (pos q ≡ pos m) (pos m <ℤ pos q) (int_cmp (pos q) (pos m)) (int_ranks (pos q) (pos m))
    (λ d h. let l = fewer amount parts q m is_cut t (omega (arith, ints, h)) in
    stays_less order is_cut false (e ∙ d) ∙ int_cmp_is (pos amount) (pos (m * parts)) Less (omega (arith, ints, l)))
    (λ d h. level_positive amount parts q m is_cut t (omega (arith, ints, h)) order (e ∙ d))
    (λ d h. let l = more amount parts q m is_cut t (omega (arith, ints, h)) in
    stays_greater order is_cut false (e ∙ d)
    ∙ int_cmp_is (pos amount) (pos (m * parts)) Greater (omega (arith, ints, l)))
settles true true amount parts q m is_cut t order e =
    by_ranked (neg_ℤ (pos q) <ℤ neg_ℤ (pos m)) (neg_ℤ (pos q) ≡ neg_ℤ (pos m)) (neg_ℤ (pos m) <ℤ neg_ℤ (pos q))
    (int_cmp (neg_ℤ (pos q)) (neg_ℤ (pos m))) (int_ranks (neg_ℤ (pos q)) (neg_ℤ (pos m)))
    (λ d h. let l = more amount parts q m is_cut t (omega (arith, ints, h)) in
    stays_less order is_cut true (e ∙ d)
    ∙ int_cmp_is (neg_ℤ (pos amount)) (neg_ℤ (pos (m * parts))) Less (omega (arith, ints, l)))
    (λ d h. level_negative amount parts q m is_cut t (omega (arith, ints, h)) order (e ∙ d))
    (λ d h. let l = fewer amount parts q m is_cut t (omega (arith, ints, h)) in
    stays_greater order is_cut true (e ∙ d)
    ∙ int_cmp_is (neg_ℤ (pos amount)) (neg_ℤ (pos (m * parts))) Greater (omega (arith, ints, l)))
settles false true amount parts q m is_cut t order e =
    let answer : Greater ≡ int_cmp (pos amount) (neg_ℤ (pos (m * parts))) =
    int_cmp_is (pos amount) (neg_ℤ (pos (m * parts))) Greater (omega (arith, ints, t.some)) in
    by_ranked (pos q <ℤ neg_ℤ (pos m)) (pos q ≡ neg_ℤ (pos m)) (neg_ℤ (pos m) <ℤ pos q)
    (int_cmp (pos q) (neg_ℤ (pos m))) (int_ranks (pos q) (neg_ℤ (pos m))) (λ d h. absurd (omega (arith, ints, h)))
    (λ d h. rw (level_zero amount parts q m is_cut t (omega (arith, ints, h)), e ∙ d) answer)
    (λ d h. stays_greater order is_cut false (e ∙ d) ∙ answer)
settles true false amount parts q m is_cut t order e =
    let answer : Less ≡ int_cmp (neg_ℤ (pos amount)) (pos (m * parts)) =
    int_cmp_is (neg_ℤ (pos amount)) (pos (m * parts)) Less (omega (arith, ints, t.some)) in
    by_ranked (neg_ℤ (pos q) <ℤ pos m) (neg_ℤ (pos q) ≡ pos m) (pos m <ℤ neg_ℤ (pos q))
    (int_cmp (neg_ℤ (pos q)) (pos m)) (int_ranks (neg_ℤ (pos q)) (pos m))
    (λ d h. stays_less order is_cut true (e ∙ d) ∙ answer)
    (λ d h. rw (level_zero amount parts q m is_cut t (omega (arith, ints, h)), e ∙ d) answer)
    (λ d h. absurd (omega (arith, ints, h)))

-- ---- what truncation delivers

record IsTruncated (g : Format) (b : Bool) (amount parts : ℕ) (value : Datum) (is_cut : Bool) : Type 0 where
  sign : Bool
  quanta : ℕ
  is : value ≡ finite sign quanta
  same : signed sign quanta ≡ signed b quanta
  not_above : quanta * parts ≤ amount
  greatest : (m : ℕ) → IsOnGrid g.precision m → m ≤ largest g → m * parts ≤ amount → m ≤ quanta
  cut : is_cut ≡ not (eqb (quanta * parts) amount)

-- a status is not OK past the largest value, and otherwise exactly if the number is not delivered exactly
past_not_ok : (test : Bool) (status : ℕ) → status ≡ (if test then 20 else 16) → not (eqb status 0) ≡ true
past_not_ok true status e = rw e refl
past_not_ok false status e = rw e refl

ok_if_exact : (exact tiny : Bool) (status : ℕ) → status ≡ (if exact then 0 else (if tiny then 24 else 16))
    → not (eqb status 0) ≡ not exact
ok_if_exact true tiny status e = rw e refl
ok_if_exact false true status e = rw e refl
ok_if_exact false false status e = rw e refl

same_number : (kind : NonfiniteBehavior) (b : Bool) (p : ℕ)
    → signed (if eqb p 0 then zero_sign kind b else b) p ≡ signed b p
same_number kind b zero = no_sign (zero_sign kind b) ∙ sym (no_sign b)
same_number kind b (suc p) = rw (not_zero (suc p) (omega arith)) refl

truncated_past : (g : Format) (b : Bool) (amount parts p : ℕ) (value : Datum) (status : ℕ) (is_cut : Bool)
    → 0 < parts → IsBelow g.precision p amount parts → largest g < p → value ≡ finite b (largest g)
    → status ≡ (if raises_overflow g TowardZero b then 20 else 16) → is_cut ≡ not (eqb status 0)
    → IsTruncated g b amount parts value is_cut
truncated_past g b amount parts p value status is_cut some below past v s c =
    let k : largest g * parts < p * parts = mul-lt-mul_of_pos_right past some in
    let less : largest g * parts < amount = omega (arith, k, below.not_above) in
    record {
      sign = b;
      quanta = largest g;
      is = v;
      same = refl;
      not_above = omega (arith, less);
      greatest = λ m o w h. w;
      cut = c ∙ past_not_ok (raises_overflow g TowardZero b) status s
          ∙ sym (ap not (ne_eqb (largest g * parts) amount (λ e. omega (arith, less, e))));
    }

truncated_within : (g : Format) (b : Bool) (amount parts p : ℕ) (value : Datum) (status : ℕ) (is_cut tiny : Bool)
    → IsBelow g.precision p amount parts → value ≡ signed_quanta g.nonfinite b p
    → status ≡ (if eqb (p * parts) amount then 0 else (if tiny then 24 else 16)) → is_cut ≡ not (eqb status 0)
    → IsTruncated g b amount parts value is_cut
truncated_within g b amount parts p value status is_cut tiny below v s c =
    record {
      sign = if eqb p 0 then zero_sign g.nonfinite b else b;
      quanta = p;
      is = v ∙ quanta_are g.nonfinite b p;
      same = same_number g.nonfinite b p;
      not_above = below.not_above;
      greatest = λ m o w h. below.greatest m o h;
      cut = c ∙ ok_if_exact (eqb (p * parts) amount) tiny status s;
    }

truncated_by : (g : Format) (b : Bool) (amount parts p : ℕ) (value : Datum) (status : ℕ) (is_cut past : Bool)
    → 0 < parts → IsBelow g.precision p amount parts → ltb (largest g) p ≡ past
    → value ≡ (if past then finite b (largest g) else signed_quanta g.nonfinite b p)
    → status ≡ (if past then (if raises_overflow g TowardZero b then 20 else 16)
    else (if eqb (p * parts) amount then 0 else (if is_tiny g TowardZero b amount parts p then 24 else 16)))
    → is_cut ≡ not (eqb status 0) → IsTruncated g b amount parts value is_cut
truncated_by g b amount parts p value status is_cut true some below e v s c =
    truncated_past g b amount parts p value status is_cut some below (ltb-true (largest g) p e) v s c
truncated_by g b amount parts p value status is_cut false some below e v s c =
    truncated_within g b amount parts p value status is_cut (is_tiny g TowardZero b amount parts p) below v s c

truncated : (g : Format) (b : Bool) (amount parts : ℕ) (value : Datum) (status : ℕ) (is_cut : Bool) → 0 < parts
    → IsDelivered g TowardZero b amount parts value status → is_cut ≡ not (eqb status 0)
    → IsTruncated g b amount parts value is_cut
truncated g b amount parts value status is_cut some d c =
    truncated_by g b amount parts d.pick value status is_cut (ltb (largest g) d.pick) some
    (rw d.is_pick.is d.is_pick.is_below) refl d.value_is d.status_is c

-- ---- a number against a datum of the other format

far : (order : Ordering) (is_cut b : Bool) (end : Ordering) → order ≡ end → (end ≡ Equal → ⊥)
    → Some (settled order is_cut b) ≡ Some end
far order true b Less e n = ap Some (stays_less order true b e)
far order true b Equal e n = absurd (n refl)
far order true b Greater e n = ap Some (stays_greater order true b e)
far order false b end e n = ap Some e

settled_against : (f g : Format) (b : Bool) (n : ℕ) (y r : Datum) (is_cut : Bool) → 0 < n
    → IsTruncated g b (n * 2 ^ g.scale) (2 ^ f.scale) r is_cut → IsMember g y → (order : Ordering)
    → compared r y ≡ Some order
    → Some (settled order is_cut b) ≡ compared (finite b (n * 2 ^ g.scale)) (in_common_unit f y)
settled_against f g b n (nan c s) r is_cut h t member order e =
    let e' : None ≡ Some order = rw t.is at e in cc
settled_against f g b n (infinite true) r is_cut h t member order e =
    let e' : Some Greater ≡ Some order = rw t.is at e in
    far order is_cut b Greater (sym (same_Some Greater order e')) (λ d. cc)
settled_against f g b n (infinite false) r is_cut h t member order e =
    let e' : Some Less ≡ Some order = rw t.is at e in
    far order is_cut b Less (sym (same_Some Less order e')) (λ d. cc)
settled_against f g b n (finite c m) r is_cut h t member order e =
    let e' : Some (int_cmp (signed t.sign t.quanta) (signed c m)) ≡ Some order = rw t.is at e in
    ap Some (settles b c (n * 2 ^ g.scale) (2 ^ f.scale) t.quanta m is_cut
    (record {
      some_parts = pow_pos f.scale;
      some =
          let k : 0 * 2 ^ g.scale < n * 2 ^ g.scale = mul-lt-mul_of_pos_right h (pow_pos g.scale) in
          omega (arith, k);
      not_above = t.not_above;
      greatest = λ k. t.greatest m member.on_grid member.within k;
      cut = t.cut;
    })
    order (sym (same_Some _ order e') ∙ ap (λ z. int_cmp z (signed c m)) t.same))

-- the conversion toward zero, with some status
pub record IsTruncation (f g : Format) (x r : Datum) (is_cut : Bool) : Type 0 where
  pub status : ℕ
  pub is_conversion : IsConversion f g TowardZero x r status is_cut

-- a nonzero number, converted toward zero
truncated_number : (f g : Format) (b : Bool) (n : ℕ) (r : Datum) (status : ℕ) (is_cut : Bool)
    → IsConvertedNumber f g TowardZero b n r status is_cut → IsTruncated g b (n * 2 ^ g.scale) (2 ^ f.scale) r is_cut
truncated_number f g b n r status is_cut d =
    truncated g b (n * 2 ^ g.scale) (2 ^ f.scale) r status is_cut (pow_pos f.scale) d.is_delivered d.loses_is

-- a nonzero number truncated to the format of a datum is ordered as the number, once it is settled
pub number_ordered : (f g : Format) (x y r : Datum) (is_cut : Bool) → category_of x ≡ Normal
    → IsTruncation f g x r is_cut → IsMember g y → (order : Ordering) → compared r y ≡ Some order
    → Some (if is_cut then ordering_then order (if is_negative x then Less else Greater) else order)
    ≡ compared_between f g x y
number_ordered f g (infinite b) y r is_cut e t member order c = cc
number_ordered f g (nan b s) y r is_cut e t member order c = cc
number_ordered f g (finite b n) y r is_cut e t member order c =
    let nonzero = number_only (eqb n 0) e in
    settled_against f g b n y r is_cut (above_zero n nonzero)
    (truncated_number f g b n r t.status is_cut (rw nonzero at t.is_conversion)) member order c
