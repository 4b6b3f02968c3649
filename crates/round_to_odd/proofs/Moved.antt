-- A nonzero value and its magnitude, the next value after that, and zeros.
use Rattle.std.proofs.Common.{◌≡◌, ℕ, ◌+◌, ◌-◌, ◌^◌, ◌<◌, ◌≤◌, Bool, true, false}
use Rattle.std.proofs.Common.{◌||◌, eqb, if◌then◌else◌, sym, refl, ap, ◌∙◌, subst, arith}
use Rattle.std.proofs.lemmas.Bool.{MatchBool-at_false, eqb-true, ne_eqb, or_parts}
use Rattle.apfloat_model.specs.declared.kinds.Category.TheVariants.{Normal, Zero}
use Rattle.apfloat_model.specs.formats.Datum.{Datum, finite, infinite, nan}
use Rattle.apfloat_model.specs.formats.Format.{Format, largest}
use Rattle.apfloat_model.specs.arithmetic.NextUp.{IsNextUp, IsNextGreater}
use Rattle.apfloat_model.specs.order.Classes.{category_of, is_negative, quanta_of}
use Rattle.apfloat_model.specs.rounding.{Grid.IsOnGrid, Grid.IsAbove, Negation.negated}
use Rattle.apfloat_model.proofs.general.{Choices.not_zero, Choices.above_zero, Powers.twice_half}
use Rattle.apfloat_model.proofs.rounding.{Laws.exact_above, NeighboursExist.above_exists, FarMagnitudes.power_on_grid}
use Rattle.apfloat_model.proofs.order.Categories.{zero_only, number_only}
use Rattle.apfloat_model.proofs.whole_numbers.SignedNumbers.{largest_some}
use Rattle.round_to_odd.specs.Odd.{is_odd_below, IsMadeOdd, IsMadeOddNumber}

-- the magnitude of a nonzero number
magnitude_is : (f : Format) (x y : Datum) → category_of x ≡ Normal
    → y ≡ (if is_negative x then negated f.nonfinite x else x) → y ≡ finite false (quanta_of x)
magnitude_is f (finite true n) y e d =
    let z = number_only (eqb n 0) e in d ∙ rw z refl
magnitude_is f (finite false n) y e d = d
magnitude_is f (infinite b) y e d = cc
magnitude_is f (nan b s) y e d = cc

next_point : (f : Format) (n : ℕ) → 3 ≤ f.precision → (a : ℕ) × IsAbove f.precision a (n + 1) 1
next_point f n precise =
    above_exists f.precision (2 ^ (f.precision - 1)) (n + 1) 1 (omega arith)
    (sym (twice_half f.precision (omega (arith, precise))))

-- the test whether a magnitude stays
abbrev pub StaysIf : Format → ℕ → Bool → Type 0
StaysIf f n test =
    (above : ℕ) → IsAbove f.precision above (n + 1) 1 → test ≡ (is_odd_below n above || eqb n (largest f))

-- a number that stays
pub stays_made : (f : Format) (negative : Bool) (x y : Datum) (test : Bool) → 3 ≤ f.precision
    → category_of x ≡ Normal → y ≡ (if is_negative x then negated f.nonfinite x else x)
    → StaysIf f (quanta_of y) test → test ≡ true → IsMadeOdd f negative x x
stays_made f negative (finite b n) y test precise e d stays t =
    let q : quanta_of y ≡ n = ap quanta_of (magnitude_is f (finite b n) y e d) in
    let stays' : StaysIf f n test = subst (λ (k : ℕ). StaysIf f k test) q stays in
    let a = next_point f n precise in
    record {
      above = a.0;
      is_above = a.1;
      value_is = sym (ap (λ (v : Bool). if v then finite b n else finite negative a.0) (sym (stays' a.0 a.1) ∙ t));
    }
stays_made f negative (infinite b) y test precise e d stays t = refl
stays_made f negative (nan b s) y test precise e d stays t = refl

-- the value after a positive one that is not the largest
next_greater : (f : Format) (y value : Datum) (n status : ℕ) → y ≡ finite false n → 0 < n
    → eqb n (largest f) ≡ false → IsNextUp f y value status → IsNextGreater f n value status
next_greater f y value n status e some below up =
    let at : IsNextUp f (finite false n) value status = subst (λ (v : Datum). IsNextUp f v value status) e up in
    MatchBool-at_false _ _ below (MatchBool-at_false _ _ (not_zero n some) at)

-- a number that moves
pub moves_made : (f : Format) (negative : Bool) (x y next result : Datum) (test : Bool) (status : ℕ)
    → 3 ≤ f.precision → category_of x ≡ Normal → y ≡ (if is_negative x then negated f.nonfinite x else x)
    → StaysIf f (quanta_of y) test → test ≡ false → IsNextUp f y next status
    → ((quanta : ℕ) → 0 < quanta → next ≡ finite false quanta → result ≡ finite negative quanta)
    → IsMadeOdd f negative x result
moves_made f negative (finite b n) y next result test status precise e d stays t up signed =
    let m : y ≡ finite false n = magnitude_is f (finite b n) y e d in
    let stays' : StaysIf f n test = subst (λ (k : ℕ). StaysIf f k test) (ap quanta_of m) stays in
    let a = next_point f n precise in
    let none = or_parts (is_odd_below n a.0) (eqb n (largest f)) (sym (stays' a.0 a.1) ∙ t) in
    let greater = next_greater f y next n status m (above_zero n (number_only (eqb n 0) e)) none.1 up in
    let no : (is_odd_below n greater.next || eqb n (largest f)) ≡ false =
    sym (stays' greater.next greater.is_above) ∙ t in
    record {
      above = greater.next;
      is_above = greater.is_above;
      value_is =
          signed greater.next (omega (arith, greater.is_above.not_below)) greater.is.value_is
          ∙ sym (ap (λ (v : Bool). if v then finite b n else finite negative greater.next) no);
    }
moves_made f negative (infinite b) y next result test status precise e d stays t up signed = cc
moves_made f negative (nan b s) y next result test status precise e d stays t up signed = cc

-- a zero moves to the smallest value
pub zero_made : (f : Format) (negative : Bool) (x result : Datum) → 3 ≤ f.precision → category_of x ≡ Zero
    → result ≡ finite negative 1 → IsMadeOdd f negative x result
zero_made f negative (finite b n) result precise e is =
    let z : n ≡ 0 = eqb-true n 0 (zero_only (eqb n 0) e) in
    let some = largest_some f precise in
    let large : eqb 0 (largest f) ≡ false = ne_eqb 0 (largest f) (λ k. omega (arith, some, k)) in
    let one : IsOnGrid f.precision 1 = power_on_grid f.precision 0 (omega (arith, precise)) in
    subst (λ (k : ℕ). IsMadeOddNumber f negative b k result) (sym z)
    (record {
      above = 1;
      is_above = exact_above f.precision 1 1 1 (omega arith) one (omega arith);
      value_is = is ∙ rw large refl;
    })
zero_made f negative (infinite b) result precise e is = cc
zero_made f negative (nan b s) result precise e is = cc
