-- The next value below the next value above a number is the number itself.
use Rattle.std.proofs.Common.{◌≡◌, ℕ, ◌+◌, ◌-◌, ◌^◌, ◌<◌, ◌≤◌, true, false, eqb, sym, refl, ap, ◌∙◌, subst, ⊎_elim}
use Rattle.std.proofs.Common.{arith}
use Rattle.std.proofs.lemmas.Bool.{cases_lt, cases_eq, eq-eqb, ne_eqb, ltb-true, false≢true}
use Rattle.apfloat_model.specs.declared.kinds.NonfiniteBehavior.{NonfiniteBehavior, TheVariants.IEEE754}
use Rattle.apfloat_model.specs.formats.{Format.Format, Format.largest, Datum.Datum, Datum.finite, Datum.infinite}
use Rattle.apfloat_model.specs.formats.{Datum.nan, Members.IsMember, Members.IsFiniteOf}
use Rattle.apfloat_model.specs.rounding.{Rounding.signed_quanta, Rounding.past_largest, Negation.negated, Grid.IsOnGrid}
use Rattle.apfloat_model.specs.{rounding.Grid.IsBelow, rounding.Grid.IsAbove, order.Classes.is_finite_non_zero}
use Rattle.apfloat_model.specs.arithmetic.NextUp.{IsNextGreater, IsNextLess, IsNextOfNumber, IsNextUp, IsNextDown}
use Rattle.apfloat_model.proofs.general.Choices.{not_zero}
use Rattle.apfloat_model.proofs.rounding.{Neighbours.multiple_on_grid, Deliveries.signed_some, Laws.number_swapped}

-- ---- the neighbour below the neighbour above, and the reverse

-- the value next below the upper neighbour is the number itself
below_above : (precision n next : ℕ) → IsOnGrid precision n → IsAbove precision next (n + 1) 1
    → IsBelow precision n (next - 1) 1
below_above precision n next g a =
    let l = a.not_below in
    record {
      on_grid = g;
      not_above = omega (arith, l);
      greatest = λ other o h.
          ⊎_elim (λ (k : n < other). let m : next ≤ other = a.least other o (omega (arith, k)) in
          absurd (omega (arith, m, h, l))) (λ (k : other ≤ n). k) (cases_lt n other);
    }

-- the value next above the lower neighbour is the number itself
above_below : (precision n next : ℕ) → 0 < n → IsOnGrid precision n → IsBelow precision next (n - 1) 1
    → IsAbove precision n (next + 1) 1
above_below precision n next p g b =
    record {
      on_grid = g;
      not_below = omega (arith, b.not_above, p);
      least = λ other o h.
          ⊎_elim (λ (k : other < n). let m : other ≤ next = b.greatest other o (omega (arith, k)) in
          absurd (omega (arith, m, h))) (λ (k : n ≤ other). k) (cases_lt other n);
    }

-- ---- of a positive number

-- the value past the largest number is the infinity, if the format has one
infinite_past : (kind : NonfiniteBehavior) (base : ℕ) → kind ≡ IEEE754 → past_largest kind base false ≡ infinite false
infinite_past kind base e = rw e refl

-- the value next below, from the value next above the negation
next_down_by : (format : Format) (value from up result : Datum) → value ≡ from
    → IsNextUp format (negated format.nonfinite from) up 0 → result ≡ negated format.nonfinite up
    → IsNextDown format value result 0
next_down_by format value from up result e h k =
    subst (λ (z : Datum). IsNextDown format z result 0) (sym e)
    (record { up_of_negated = up; is_next_up = h; is = k })

-- the value next below the infinity is the largest number
next_down_infinite : (format : Format) (n : ℕ) (value : Datum) → 0 < n → n ≡ largest format → value ≡ infinite false
    → IsNextDown format value (finite false n) 0
next_down_infinite format n v p e w =
    next_down_by format v (infinite false) (finite true n) (finite false n) w
    (record { value_is = ap (λ (k : ℕ). finite true k) e; status_is = refl })
    (number_swapped format.nonfinite true n p)

-- the value next below the next greater number is the number itself
next_down_greater : (format : Format) (n next : ℕ) (value : Datum) → 0 < n → IsOnGrid format.precision n
    → IsAbove format.precision next (n + 1) 1 → value ≡ finite false next → IsNextDown format value (finite false n) 0
next_down_greater format n next v p g a w =
    let q : 0 < next = omega (arith, a.not_below) in
    let less : IsNextLess format next (finite true n) 0 =
    record {
      next = n;
      is_below = below_above format.precision n next g a;
      is =
          record { value_is = sym (signed_some format.nonfinite true n p); status_is = refl };
    } in
    let up : IsNextUp format (finite true next) (finite true n) 0 = rw (not_zero next q) less in
    next_down_by format v (finite false next) (finite true n) (finite false n) w
    (subst (λ (z : Datum). IsNextUp format z (finite true n) 0) (number_swapped format.nonfinite false next q) up)
    (number_swapped format.nonfinite true n p)

-- ---- of a negative number

-- the negation of -0 is +0
zero_negated : (kind : NonfiniteBehavior) → kind ≡ IEEE754 → negated kind (signed_quanta kind true 0) ≡ finite false 0
zero_negated kind e = rw e refl

-- the value next below zero is the negative number of least magnitude
next_down_zero : (format : Format) (n : ℕ) (value : Datum) → format.nonfinite ≡ IEEE754 → n ≡ 1
    → value ≡ signed_quanta format.nonfinite true 0 → IsNextDown format value (finite true n) 0
next_down_zero format n v k e w =
    let up : IsNextUp format (finite false 0) (finite false n) 0 =
    record { value_is = ap (λ (j : ℕ). finite false j) e; status_is = refl } in
    next_down_by format v (signed_quanta format.nonfinite true 0) (finite false n) (finite true n) w
    (subst (λ (z : Datum). IsNextUp format z (finite false n) 0) (sym (zero_negated format.nonfinite k)) up)
    (number_swapped format.nonfinite false n (omega (arith, e)))

-- the value next below the next negative number of lesser magnitude is the number itself
next_down_less : (format : Format) (n next : ℕ) (value : Datum) → 0 < n → 0 < next → n ≤ largest format
    → IsOnGrid format.precision n → IsBelow format.precision next (n - 1) 1 → value ≡ finite true next
    → IsNextDown format value (finite true n) 0
next_down_less format n next v p q m g b w =
    let l = b.not_above in
    let z : eqb next (largest format) ≡ false = ne_eqb next (largest format) (λ e. omega (arith, e, l, m, p)) in
    let greater : IsNextGreater format next (finite false n) 0 =
    record {
      next = n;
      is_above = above_below format.precision n next p g b;
      is =
          record { value_is = refl; status_is = refl };
    } in
    let up : IsNextUp format (finite false next) (finite false n) 0 = rw (not_zero next q) (rw z greater) in
    next_down_by format v (finite true next) (finite false n) (finite true n) w
    (subst (λ (z : Datum). IsNextUp format z (finite false n) 0) (number_swapped format.nonfinite true next q) up)
    (number_swapped format.nonfinite false n p)

-- from the value next above a negative number, the value next below is the number itself
negative_back : (format : Format) (n : ℕ) (value : Datum) (status : ℕ) → format.nonfinite ≡ IEEE754
    → 1 < 2 ^ format.precision → 0 < n → IsFiniteOf format true n → IsNextLess format n value status
    → IsNextDown format value (finite true n) 0
negative_back format n v st k s p m u =
    ⊎_elim
    (λ (q : 0 < u.next). next_down_less format n u.next v p q m.within m.on_grid u.is_below
    (u.is.value_is ∙ signed_some format.nonfinite true u.next q))
    (λ (q : u.next ≤ 0).
    let e : u.next ≡ 0 = omega (arith, q) in
    let o : n ≡ 1 =
    ⊎_elim (λ (h : 1 < n). let t : 1 ≤ u.next =
    u.is_below.greatest 1 (multiple_on_grid format.precision 1 0 s) (omega (arith, h)) in absurd (omega (arith, t, q)))
    (λ (h : n ≤ 1). omega (arith, h, p)) (cases_lt 1 n) in
    next_down_zero format n v k o (u.is.value_is ∙ ap (λ (j : ℕ). signed_quanta format.nonfinite true j) e))
    (cases_lt 0 u.next)

-- from the value next above a positive number, the value next below is the number itself
positive_back : (format : Format) (n : ℕ) (value : Datum) (status : ℕ) → format.nonfinite ≡ IEEE754 → 0 < n
    → IsFiniteOf format false n → IsNextOfNumber format false n value status
    → IsNextDown format value (finite false n) 0
positive_back format n v st k p m u =
    ⊎_elim
    (λ (e : n ≡ largest format).
    let a = rw (eq-eqb n (largest format) e) at u in
    next_down_infinite format n v p e (a.value_is ∙ infinite_past format.nonfinite _ k))
    (λ (e : n ≡ largest format → ⊥).
    let a = rw (ne_eqb n (largest format) e) at u in
    next_down_greater format n a.next v p m.on_grid a.is_above a.is.value_is)
    (cases_eq n (largest format))

-- in a format with infinities, the value next below the value next above a nonzero number is the number itself
pub next_back : (format : Format) (x value : Datum) (status : ℕ) → format.nonfinite ≡ IEEE754 → 1 < 2 ^ format.precision
    → IsMember format x → is_finite_non_zero x ≡ true → IsNextUp format x value status → IsNextDown format value x 0
next_back format (finite true n) v st k s m z u =
    let p = ltb-true 0 n z in
    negative_back format n v st k s p m (rw (not_zero n p) at u)
next_back format (finite false n) v st k s m z u =
    let p = ltb-true 0 n z in
    positive_back format n v st k p m (rw (not_zero n p) at u)
next_back format (infinite b) v st k s m z u = absurd (false≢true z)
next_back format (nan b t) v st k s m z u = absurd (false≢true z)
