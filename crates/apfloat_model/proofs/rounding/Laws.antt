-- Laws of one rounding.
use Rattle.std.proofs.Common.{◌≡◌, ℕ, ◌-◌, ◌*◌, ◌/◌, ◌%◌, ◌^◌, ◌<◌, ◌≤◌, Bool}
use Rattle.std.proofs.Common.{true, false, not, ◌&&◌, ◌||◌, cond, ltb, leb, eqb, sym, refl, ap, ◌∙◌}
use Rattle.std.proofs.{Common.subst, Common.⊎_elim, Common.arith, Math.Nat.le_of_mul-le-mul_right, lemmas.Nat.pow_pos}
use Rattle.std.proofs.lemmas.Bool.{cases_lt, cases_eq, eq-eqb, ne_eqb, le-ltb}
use Rattle.apfloat_model.specs.declared.kinds.Round.{Round, TheVariants.NearestTiesToEven, TheVariants.TowardPositive}
use Rattle.apfloat_model.specs.declared.kinds.Round.TheVariants.{TowardNegative, TowardZero, NearestTiesToAway}
use Rattle.apfloat_model.specs.declared.kinds.NonfiniteBehavior.{NonfiniteBehavior}
use Rattle.apfloat_model.specs.declared.kinds.NonfiniteBehavior.TheVariants.{IEEE754, NanOnly, NanNegativeZero}
use Rattle.apfloat_model.specs.formats.Format.{Format, largest, smallest_normalized, nan_base}
use Rattle.apfloat_model.specs.{formats.Datum.Datum, formats.Datum.finite, rounding.Grid.IsOnGrid}
use Rattle.apfloat_model.specs.rounding.{Grid.IsBelow, Grid.IsAbove, Rounding.takes_above, Rounding.pick_between}
use Rattle.apfloat_model.specs.rounding.Rounding.{IsPick, IsDelivered, delivered_value, delivered_status, leads_out}
use Rattle.apfloat_model.specs.rounding.Rounding.{zero_sign, signed_quanta, past_largest, rounds_below_normal, ok_bits}
use Rattle.apfloat_model.specs.rounding.Negation.{swapped, negated}
use Rattle.apfloat_model.proofs.rounding.{NeighboursExist.below_exists, NeighboursExist.above_exists, Picks.pick_unique}
use Rattle.apfloat_model.proofs.general.{Powers.twice_half, Choices.cond_same, Choices.cond_grows, Choices.cond_within}

-- ---- one result

-- one rounding has at most one value and one status
pub delivered_once : (format : Format) (mode : Round) (negative : Bool) (amount parts : ℕ)
    (value other : Datum) (status other_status : ℕ) → IsDelivered format mode negative amount parts value status
    → IsDelivered format mode negative amount parts other other_status → (value ≡ other) × (status ≡ other_status)
delivered_once format mode negative amount parts v w s t x y =
    let e : x.pick ≡ y.pick = pick_unique format.precision mode negative amount parts x.pick y.pick x.is_pick y.is_pick
    in (
      x.value_is ∙ ap (λ (z : ℕ). delivered_value format mode negative z) e ∙ sym y.value_is,
      x.status_is ∙
          ap (λ (z : ℕ). delivered_status format mode negative amount parts z) e ∙ sym y.status_is,
    )

-- ---- an exact value

-- a grid number is its own neighbour below
pub exact_below : (precision g amount parts : ℕ) → 0 < parts → IsOnGrid precision g → amount ≡ g * parts
    → IsBelow precision g amount parts
exact_below precision g amount parts p o e = record {
  on_grid = o;
  not_above = omega arith;
  greatest = λ other h l. let l' : other * parts ≤ g * parts = omega arith in le_of_mul-le-mul_right l' p;
}

-- a grid number is its own neighbour above
pub exact_above : (precision g amount parts : ℕ) → 0 < parts → IsOnGrid precision g → amount ≡ g * parts
    → IsAbove precision g amount parts
exact_above precision g amount parts p o e = record {
  on_grid = o;
  not_below = omega arith;
  least = λ other h l. let l' : g * parts ≤ other * parts = omega arith in le_of_mul-le-mul_right l' p;
}

-- a grid number is picked in each mode
pub exact_is_picked : (precision : ℕ) (mode : Round) (negative : Bool) (g amount parts : ℕ) → 0 < parts
    → IsOnGrid precision g → amount ≡ g * parts → IsPick precision mode negative amount parts g
exact_is_picked precision mode negative g amount parts p o e = record {
  below = g;
  above = g;
  is_below = exact_below precision g amount parts p o e;
  is_above = exact_above precision g amount parts p o e;
  is = cond_same _ g;
}

-- a number of the format raises no flag
exact_status : (format : Format) (mode : Round) (negative : Bool) (g amount parts : ℕ) → g ≤ largest format
    → amount ≡ g * parts → ok_bits ≡ delivered_status format mode negative amount parts g
exact_status format mode negative g amount parts l e =
    let a : ltb (largest format) g ≡ false = le-ltb (largest format) g l in
    let b : eqb (g * parts) amount ≡ true = eq-eqb (g * parts) amount (sym e) in
    rw (a, b) refl

-- a number of the format is delivered unchanged, with no flag
pub exact_delivered : (format : Format) (mode : Round) (negative : Bool) (g amount parts : ℕ) → 0 < parts
    → IsOnGrid format.precision g → g ≤ largest format → amount ≡ g * parts
    → IsDelivered format mode negative amount parts (signed_quanta format.nonfinite negative g) ok_bits
exact_delivered format mode negative g amount parts p o l e = record {
  pick = g;
  is_pick = exact_is_picked format.precision mode negative g amount parts p o e;
  value_is = let a : ltb (largest format) g ≡ false = le-ltb (largest format) g l in rw a refl;
  status_is = exact_status format mode negative g amount parts l e;
}

pub zero_on_grid : (precision : ℕ) → IsOnGrid precision 0
zero_on_grid precision = record { significand = 0; place = 0; fits = pow_pos precision; is = refl }

-- a magnitude of 0 is delivered as the zero that the format has, with no flag
pub zero_delivered : (format : Format) (mode : Round) (negative : Bool) (parts amount : ℕ) → 0 < parts → amount ≡ 0
    → IsDelivered format mode negative amount parts (finite (zero_sign format.nonfinite negative) 0) ok_bits
zero_delivered format mode negative parts amount p e =
    exact_delivered format mode negative 0 amount parts p (zero_on_grid format.precision) (omega arith) (omega arith)

-- ---- negation

-- on the other side of zero, the swapped mode takes the neighbour above exactly if the mode does
takes_swapped : (mode : Round) (negative : Bool) (x y : ℕ) (odd : Bool)
    → takes_above (swapped mode) (not negative) x y odd ≡ takes_above mode negative x y odd
takes_swapped NearestTiesToEven negative x y odd = refl
takes_swapped TowardPositive true x y odd = refl
takes_swapped TowardPositive false x y odd = refl
takes_swapped TowardNegative true x y odd = refl
takes_swapped TowardNegative false x y odd = refl
takes_swapped TowardZero negative x y odd = refl
takes_swapped NearestTiesToAway negative x y odd = refl

-- on the other side of zero, the swapped mode leads out of the finite numbers exactly if the mode does
leads_swapped : (mode : Round) (negative : Bool) → leads_out (swapped mode) (not negative) ≡ leads_out mode negative
leads_swapped NearestTiesToEven negative = refl
leads_swapped TowardPositive true = refl
leads_swapped TowardPositive false = refl
leads_swapped TowardNegative true = refl
leads_swapped TowardNegative false = refl
leads_swapped TowardZero negative = refl
leads_swapped NearestTiesToAway negative = refl

-- on the other side of zero, the swapped mode rounds to a number below the smallest normalized one exactly if the mode
-- does
below_swapped : (precision : ℕ) (mode : Round) (negative : Bool) (amount parts : ℕ)
    → rounds_below_normal precision (swapped mode) (not negative) amount parts
    ≡ rounds_below_normal precision mode negative amount parts
below_swapped precision mode negative amount parts =
    ap (λ (b : Bool). leb (2 * amount) ((2 ^ precision - 1) * parts)
    || (ltb (2 * amount) (2 ^ precision * parts) && not b))
    (takes_swapped mode negative (2 * amount - (2 ^ precision - 1) * parts) (2 ^ precision * parts - 2 * amount) true)

-- the status, from whether the mode leads out and whether it rounds to a number below the smallest normalized one
abbrev status_with : Format → ℕ → ℕ → ℕ → Bool → Bool → ℕ
status_with format amount parts pick out below =
    cond (ltb (largest format) pick) (cond (format.ieee_flags || out) 20 16) (cond (eqb (pick * parts) amount) 0
    (cond (cond format.tiny_before_rounding (ltb amount (smallest_normalized format * parts))
    (cond format.ieee_flags below (ltb pick (smallest_normalized format)))) 24 16))

-- on the other side of zero, the swapped mode raises the same flags
status_swapped : (format : Format) (mode : Round) (negative : Bool) (amount parts pick : ℕ)
    → delivered_status format mode negative amount parts pick
    ≡ delivered_status format (swapped mode) (not negative) amount parts pick
status_swapped format mode negative amount parts pick =
    let b = sym (below_swapped format.precision mode negative amount parts) in
    ap (λ (x : Bool). status_with format amount parts pick x
    (rounds_below_normal format.precision mode negative amount parts)) (sym (leads_swapped mode negative))
    ∙ ap (λ (x : Bool). status_with format amount parts pick (leads_out (swapped mode) (not negative)) x) b

-- the swapped mode picks the same magnitude on the other side of zero
pub pick_swapped : (precision : ℕ) (mode : Round) (negative : Bool) (amount parts p : ℕ)
    → IsPick precision mode negative amount parts p → IsPick precision (swapped mode) (not negative) amount parts p
pick_swapped precision mode negative amount parts p x = record {
  below = x.below;
  above = x.above;
  is_below = x.is_below;
  is_above = x.is_above;
  is = x.is ∙ ap (λ (b : Bool). cond b x.above x.below) (sym (takes_swapped mode negative _ _ _));
}

-- ---- monotonicity

-- a mode that takes the neighbour above still does when the amount increases
takes_more : (mode : Round) (negative : Bool) (x y v w : ℕ) (odd : Bool) → x ≤ v → w ≤ y
    → takes_above mode negative x y odd ≡ true → takes_above mode negative v w odd ≡ true
takes_more NearestTiesToEven negative x y v w odd h l e = grind arith
takes_more TowardPositive negative x y v w odd h l e = e
takes_more TowardNegative negative x y v w odd h l e = e
takes_more TowardZero negative x y v w odd h l e = e
takes_more NearestTiesToAway negative x y v w odd h l e = grind arith

-- the neighbour below is not above the neighbour above
pub below_le_above : (precision low high amount parts : ℕ) → 0 < parts → IsBelow precision low amount parts
    → IsAbove precision high amount parts → low ≤ high
below_le_above precision low high amount parts h x y =
    let a : low * parts ≤ amount = x.not_above in
    let b : amount ≤ high * parts = y.not_below in
    let l : low * parts ≤ high * parts = omega arith in
    le_of_mul-le-mul_right l h

-- the pick is between the neighbours
pub pick_within : (precision : ℕ) (mode : Round) (negative : Bool) (amount parts p : ℕ) → 0 < parts
    → (pick : IsPick precision mode negative amount parts p) → (p ≤ pick.above) × (pick.below ≤ p)
pick_within precision mode negative amount parts p h pick =
    let w = cond_within (takes_above mode negative (amount - pick.below * parts) (pick.above * parts - amount)
    (eqb (pick.below / (pick.above - pick.below) % 2) 1)) pick.above pick.below
    (below_le_above precision pick.below pick.above amount parts h pick.is_below pick.is_above) in
    let e : p ≡ pick_between mode negative pick.below pick.above amount parts = pick.is in
    (subst (λ (z : ℕ). z ≤ pick.above) (sym e) w.0, subst (λ (z : ℕ). pick.below ≤ z) (sym e) w.1)

-- between the same two neighbours, the pick does not decrease as the magnitude increases
between_grows : (mode : Round) (negative : Bool) (low high a b parts : ℕ) → a ≤ b → low ≤ high
    → pick_between mode negative low high a parts ≤ pick_between mode negative low high b parts
between_grows mode negative low high a b parts l h =
    cond_grows _ _ high low h (λ e. takes_more mode negative (a - low * parts) (high * parts - a) (b - low * parts)
    (high * parts - b) (eqb (low / (high - low) % 2) 1) (omega arith) (omega arith) e)

-- picks with the same two neighbours do not decrease as the magnitude increases
grown : (precision : ℕ) (mode : Round) (negative : Bool) (a b parts p q : ℕ) → 0 < parts → a ≤ b
    → (low_pick : IsPick precision mode negative a parts p) → (high_pick : IsPick precision mode negative b parts q)
    → low_pick.below ≡ high_pick.below → low_pick.above ≡ high_pick.above → p ≤ q
grown precision mode negative a b parts p q h l low_pick high_pick e d =
    let w : q ≡ pick_between mode negative low_pick.below low_pick.above b parts = high_pick.is ∙
    ap (λ (z : ℕ). pick_between mode negative z high_pick.above b parts) (sym e) ∙
    ap (λ (z : ℕ). pick_between mode negative low_pick.below z b parts) (sym d) in
    let k : pick_between mode negative low_pick.below low_pick.above a parts
    ≤ pick_between mode negative low_pick.below low_pick.above b parts =
    between_grows mode negative low_pick.below low_pick.above a b parts l
    (below_le_above precision low_pick.below low_pick.above a parts h low_pick.is_below low_pick.is_above) in
    subst (λ (z : ℕ). z ≤ q) (sym low_pick.is)
    (subst (λ (z : ℕ). pick_between mode negative low_pick.below low_pick.above a parts ≤ z) (sym w) k)

-- the neighbour below does not decrease as the amount increases
below_grows : (precision low high a b parts : ℕ) → a ≤ b → IsBelow precision low a parts
    → IsBelow precision high b parts → low ≤ high
below_grows precision low high a b parts l x y = let k : low * parts ≤ a = x.not_above in
    y.greatest low x.on_grid (omega arith)

-- the neighbour above does not decrease as the amount increases
above_grows : (precision low high a b parts : ℕ) → a ≤ b → IsAbove precision low a parts
    → IsAbove precision high b parts → low ≤ high
above_grows precision low high a b parts l x y = let k : b ≤ high * parts = y.not_below in
    x.least high y.on_grid (omega arith)

-- a grid number below the neighbour above is not above the neighbour below
same_below : (precision low high point a parts : ℕ) → point < high → IsBelow precision low a parts
    → IsAbove precision high a parts → IsOnGrid precision point → point ≤ low
same_below precision low high point a parts h x y g =
    ⊎_elim (λ (q : point * parts < a). x.greatest point g (omega arith))
    (λ (q : a ≤ point * parts). let k : high ≤ point = y.least point g q in absurd (omega arith))
    (cases_lt (point * parts) a)

-- a grid number above the neighbour below is not below the neighbour above
same_above : (precision low high point b parts : ℕ) → low < point → IsBelow precision low b parts
    → IsAbove precision high b parts → IsOnGrid precision point → high ≤ point
same_above precision low high point b parts h x y g =
    ⊎_elim (λ (q : point * parts < b). let k : point ≤ low = x.greatest point g (omega arith) in
    absurd (omega arith)) (λ (q : b ≤ point * parts). y.least point g q) (cases_lt (point * parts) b)

-- the pick does not decrease as the magnitude increases
pub pick_grows : (precision : ℕ) (mode : Round) (negative : Bool) (a b parts p q : ℕ) → 0 < parts → a ≤ b
    → IsPick precision mode negative a parts p → IsPick precision mode negative b parts q → p ≤ q
pick_grows precision mode negative a b parts p q h l x y =
    let w = pick_within precision mode negative a parts p h x in
    let v = pick_within precision mode negative b parts q h y in
    ⊎_elim
    (λ (k : y.below < x.above).
    let e₁ : x.below ≤ y.below = below_grows precision x.below y.below a b parts l x.is_below y.is_below in
    let e₂ : y.below ≤ x.below =
    same_below precision x.below x.above y.below a parts k x.is_below x.is_above y.is_below.on_grid in
    let d₁ : x.above ≤ y.above = above_grows precision x.above y.above a b parts l x.is_above y.is_above in
    let d₂ : y.above ≤ x.above =
    same_above precision y.below y.above x.above b parts k y.is_below y.is_above x.is_above.on_grid in
    grown precision mode negative a b parts p q h l x y (omega arith) (omega arith))
    (λ (k : x.above ≤ y.below). let w₀ = w.0 in let v₁ = v.1 in omega (arith, w₀, v₁))
    (cases_lt y.below x.above)

-- ---- negation of the delivered value

-- the other sign negates the delivered value: past the largest value, at 0, at other numbers
past_swapped : (kind : NonfiniteBehavior) (base : ℕ) (negative : Bool)
    → past_largest kind base (not negative) ≡ negated kind (past_largest kind base negative)
past_swapped IEEE754 base negative = refl
past_swapped NanOnly base negative = refl
past_swapped NanNegativeZero base negative = refl

zero_swapped : (kind : NonfiniteBehavior) (negative : Bool)
    → signed_quanta kind (not negative) 0 ≡ negated kind (signed_quanta kind negative 0)
zero_swapped IEEE754 negative = refl
zero_swapped NanOnly negative = refl
zero_swapped NanNegativeZero negative = refl

nonzero_swapped : (kind : NonfiniteBehavior) (negative : Bool) (p : ℕ) → (p ≡ 0 → ⊥)
    → signed_quanta kind (not negative) p ≡ negated kind (signed_quanta kind negative p)
nonzero_swapped kind negative p n = let e : eqb p 0 ≡ false = ne_eqb p 0 n in rw e (rw e refl)

-- the other sign negates any number of quanta
signed_swapped : (kind : NonfiniteBehavior) (negative : Bool) (p : ℕ)
    → signed_quanta kind (not negative) p ≡ negated kind (signed_quanta kind negative p)
signed_swapped kind negative p =
    ⊎_elim (λ (z : p ≡ 0). subst (λ (x : ℕ). signed_quanta kind (not negative) x
    ≡ negated kind (signed_quanta kind negative x)) (sym z) (zero_swapped kind negative))
    (λ (n : p ≡ 0 → ⊥). nonzero_swapped kind negative p n) (cases_eq p 0)

-- the negation of a nonzero number has the other sign, in each kind of format
pub number_swapped : (kind : NonfiniteBehavior) (negative : Bool) (p : ℕ) → 0 < p
    → finite (not negative) p ≡ negated kind (finite negative p)
number_swapped kind negative p h = let e : eqb p 0 ≡ false = ne_eqb p 0 (λ z. omega arith) in rw e refl

-- the other sign negates the value of any pick, past the largest value or not
value_at : (format : Format) (negative : Bool) (p : ℕ) (past out : Bool) → 0 < largest format
    → cond past (cond out (past_largest format.nonfinite (nan_base format) (not negative))
    (finite (not negative) (largest format))) (signed_quanta format.nonfinite (not negative) p)
    ≡ negated format.nonfinite
    (cond past (cond out (past_largest format.nonfinite (nan_base format) negative) (finite negative (largest format)))
    (signed_quanta format.nonfinite negative p))
value_at format negative p true true h = past_swapped format.nonfinite (nan_base format) negative
value_at format negative p true false h = number_swapped format.nonfinite negative (largest format) h
value_at format negative p false out h = signed_swapped format.nonfinite negative p

-- the opposite number, rounded in the swapped mode, has the negated value and the same status
pub delivered_swapped : (format : Format) (mode : Round) (negative : Bool) (amount parts : ℕ) (value : Datum)
    (status : ℕ) → 0 < largest format → IsDelivered format mode negative amount parts value status
    → IsDelivered format (swapped mode) (not negative) amount parts (negated format.nonfinite value) status
delivered_swapped format mode negative amount parts v s h x = record {
  pick = x.pick;
  is_pick = pick_swapped format.precision mode negative amount parts x.pick x.is_pick;
  value_is =
      ap (λ (y : Datum). negated format.nonfinite y) x.value_is
      ∙ sym (value_at format negative x.pick (ltb (largest format) x.pick) (leads_out mode negative) h)
      ∙ ap (λ (b : Bool). cond (ltb (largest format) x.pick)
      (cond b (past_largest format.nonfinite (nan_base format) (not negative)) (finite (not negative) (largest format)))
      (signed_quanta format.nonfinite (not negative) x.pick)) (sym (leads_swapped mode negative));
  status_is = x.status_is ∙ status_swapped format mode negative amount parts x.pick;
}

-- each magnitude has a delivered value and status
pub delivered_exists : (format : Format) (mode : Round) (negative : Bool) (amount parts : ℕ) → 0 < format.precision
    → 0 < parts → (value : Datum) × ((status : ℕ) × IsDelivered format mode negative amount parts value status)
delivered_exists format mode negative amount parts p h =
    let e : 2 ^ format.precision ≡ 2 * 2 ^ (format.precision - 1) = sym (twice_half format.precision p) in
    let b = below_exists format.precision (2 ^ (format.precision - 1)) amount parts h e in
    let a = above_exists format.precision (2 ^ (format.precision - 1)) amount parts h e in
    let q = pick_between mode negative b.0 a.0 amount parts in (
      delivered_value format mode negative q,
      (
        delivered_status format mode negative amount parts q,
        record {
          pick = q;
          is_pick =
              record { below = b.0; above = a.0; is_below = b.1; is_above = a.1; is = refl };
          value_is = refl;
          status_is = refl;
        },
      ),
    )
