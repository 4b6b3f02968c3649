-- Tallies: joining them, one term more, and the terms of each kind.
use Rattle.std.proofs.Common.{◌≡◌, ℕ, ◌+◌, ◌*◌, ◌^◌, ◌<◌, ◌≤◌, eqb, Bool, true, false}
use Rattle.std.proofs.Common.{not, ◌&&◌, ◌||◌, ℤ, pos, ◌+ℤ◌, List, ◌∷◌, length, get_or, drop}
use Rattle.std.proofs.Common.{Option, Some, None, if◌then◌else◌, ⊎_elim, refl, sym, ap, ◌∙◌, arith}
use Rattle.std.proofs.Math.Bool.{or-false}
use Rattle.std.proofs.lemmas.{Bool.cases_eq, Bool.ne_eqb, Bool.false≢true, Int.ints, List.drop_more, List.drop_all}
use Rattle.apfloat_model.specs.declared.kinds.Category.TheVariants.{Infinity, Normal, Zero}
use Rattle.apfloat_model.specs.declared.kinds.Round.{Round}
use Rattle.apfloat_model.specs.formats.{Datum.Datum, Datum.finite, Datum.infinite, Datum.nan, Format.Format}
use Rattle.apfloat_model.specs.order.Classes.{category_of, is_finite, is_negative, quanta_of}
use Rattle.apfloat_model.specs.rounding.{Answer.IsAnswer, Rounding.ok_bits}
use Rattle.apfloat_model.specs.rounding.Outcome.{Outcome, exactly, invalid, Yields}
use Rattle.apfloat_model.specs.arithmetic.{Exact.product_sign, Exact.signed, Products.product, Products.IsProduct}
use Rattle.apfloat_model.specs.whole_numbers.WholeNumbers.{IsRoundToIntegral}
use Rattle.exact_reductions.specs.Amounts.{Amounts, with_amount, both_amounts, difference}
use Rattle.exact_reductions.specs.Reductions.{Tally, first_of, joined, no_terms, number_tally, special_tally, tally}
use Rattle.exact_reductions.specs.Reductions.{tally_of, value_term, value_terms, magnitude_of, magnitude_terms}
use Rattle.exact_reductions.specs.Reductions.{product_terms}

-- ---- joining

abbrev make : ℕ → Option Datum → Bool → Bool → Bool → Bool → Bool → ℤ → Tally
make terms first_nan wrong positive_infinity negative_infinity positive negative exact =
    record {
      terms = terms;
      first_nan = first_nan;
      invalid = wrong;
      positive_infinity = positive_infinity;
      negative_infinity = negative_infinity;
      positive = positive;
      negative = negative;
      exact = exact;
    }

made_same : (m n : ℕ) (x y : Option Datum) (a b c d e a' b' c' d' e' : Bool) (u v : ℤ) → m ≡ n → x ≡ y → a ≡ a' → b ≡ b'
    → c ≡ c' → d ≡ d' → e ≡ e' → u ≡ v → make m x a b c d e u ≡ make n y a' b' c' d' e' v
made_same m n x y a b c d e a' b' c' d' e' u v f g h i j k l o = rw (f, g, h, i, j, k, l, o) refl

-- tallies with the same fields are the same
pub same_tally : (s t : Tally) → s.terms ≡ t.terms → s.first_nan ≡ t.first_nan → s.invalid ≡ t.invalid
    → s.positive_infinity ≡ t.positive_infinity → s.negative_infinity ≡ t.negative_infinity
    → s.positive ≡ t.positive → s.negative ≡ t.negative → s.exact ≡ t.exact → s ≡ t
same_tally s t a b c d e f g h = made_same _ _ _ _ _ _ _ _ _ _ _ _ _ _ _ _ a b c d e f g h

pub first_none : (x : Option Datum) → first_of x None ≡ x
first_none (Some d) = refl
first_none None = refl

pub first_joined : (x y z : Option Datum) → first_of (first_of x y) z ≡ first_of x (first_of y z)
first_joined (Some d) y z = refl
first_joined None y z = refl

or_joined : (x y z : Bool) → ((x || y) || z) ≡ (x || (y || z))
or_joined true y z = refl
or_joined false y z = refl

pub joined_none : (t : Tally) → joined t no_terms ≡ t
joined_none t =
    same_tally (joined t no_terms) t (omega arith) (first_none t.first_nan) (or-false t.invalid)
    (or-false t.positive_infinity) (or-false t.negative_infinity) (or-false t.positive) (or-false t.negative)
    (omega (arith, ints))

pub none_joined : (t : Tally) → joined no_terms t ≡ t
none_joined t = same_tally (joined no_terms t) t (omega arith) refl refl refl refl refl refl (omega (arith, ints))

pub joined_again : (r s t : Tally) → joined (joined r s) t ≡ joined r (joined s t)
joined_again r s t =
    same_tally (joined (joined r s) t) (joined r (joined s t)) (omega arith)
    (first_joined r.first_nan s.first_nan t.first_nan) (or_joined r.invalid s.invalid t.invalid)
    (or_joined r.positive_infinity s.positive_infinity t.positive_infinity)
    (or_joined r.negative_infinity s.negative_infinity t.negative_infinity)
    (or_joined r.positive s.positive t.positive) (or_joined r.negative s.negative t.negative) (omega (arith, ints))

-- a loop over terms: `done` has i terms more than `before`, and the others are left
pub record IsUnderWay (before done all left : Tally) (i : ℕ) : Type 0 where
  pub terms : done.terms ≡ before.terms + i
  pub total : joined done left ≡ joined before all

-- a step of it
pub one_done : (before done next all left rest term : Tally) (i : ℕ) → IsUnderWay before done all left i
    → left ≡ joined term rest → next ≡ joined done term → term.terms ≡ 1 → IsUnderWay before next all rest (i + 1)
one_done before done next all left rest term i x here added one =
    let more = ap (λ (t : Tally). t.terms) added in
    let terms = x.terms in
    record {
      terms = omega (arith, more, one, terms);
      total = ap (λ (t : Tally). joined t rest) added ∙ joined_again done term rest
          ∙ ap (λ (t : Tally). joined done t) (sym here) ∙ x.total;
    }

-- its end
pub all_done : (before done all left : Tally) (i : ℕ) → IsUnderWay before done all left i → left ≡ no_terms
    → done ≡ joined before all
all_done before done all left i x none = sym (joined_none done) ∙ sym (ap (λ (t : Tally). joined done t) none) ∙ x.total

-- all terms, if there were none before
pub from_none : (before after all : Tally) → before ≡ no_terms → after ≡ joined before all → after ≡ all
from_none before after all e f = f ∙ ap (λ (t : Tally). joined t all) e ∙ none_joined all

-- ---- the terms from a place on

here_is : {X : Type 0} (xs : List X) (i : ℕ) (x : X) → i < length xs → x ≡ get_or xs i x
    → drop i xs ≡ x ∷ drop (i + 1) xs
here_is {X} xs i x h e = drop_more xs i x h ∙ ap (λ (z : X). z ∷ drop (i + 1) xs) (sym e)

pub values_here : (f : Format) (xs : List Datum) (i : ℕ) (x : Datum) → i < length xs → x ≡ get_or xs i x
    → tally (value_terms f (drop i xs)) ≡ joined (tally_of (value_term f x)) (tally (value_terms f (drop (i + 1) xs)))
values_here f xs i x h e = ap (λ (l : List Datum). tally (value_terms f l)) (here_is xs i x h e)

pub magnitudes_here : (f : Format) (xs : List Datum) (i : ℕ) (x : Datum) → i < length xs → x ≡ get_or xs i x
    → tally (magnitude_terms f (drop i xs))
    ≡ joined (tally_of (value_term f (magnitude_of f x))) (tally (magnitude_terms f (drop (i + 1) xs)))
magnitudes_here f xs i x h e = ap (λ (l : List Datum). tally (magnitude_terms f l)) (here_is xs i x h e)

pub products_here : (f : Format) (xs ys : List Datum) (i : ℕ) (x y : Datum) → i < length xs → i < length ys
    → x ≡ get_or xs i x → y ≡ get_or ys i y → tally (product_terms f (drop i xs) (drop i ys))
    ≡ joined (tally_of (product f x y)) (tally (product_terms f (drop (i + 1) xs) (drop (i + 1) ys)))
products_here f xs ys i x y h k e d =
    ap (λ (l : List Datum). tally (product_terms f l (drop i ys))) (here_is xs i x h e)
    ∙ ap (λ (l : List Datum). tally (product_terms f (x ∷ drop (i + 1) xs) l)) (here_is ys i y k d)

pub values_done : (f : Format) (xs : List Datum) (i : ℕ) → length xs ≤ i → tally (value_terms f (drop i xs)) ≡ no_terms
values_done f xs i l = ap (λ (z : List Datum). tally (value_terms f z)) (drop_all i xs l)

pub magnitudes_done : (f : Format) (xs : List Datum) (i : ℕ) → length xs ≤ i
    → tally (magnitude_terms f (drop i xs)) ≡ no_terms
magnitudes_done f xs i l = ap (λ (z : List Datum). tally (magnitude_terms f z)) (drop_all i xs l)

pub products_done : (f : Format) (xs ys : List Datum) (i : ℕ) → length xs ≤ i
    → tally (product_terms f (drop i xs) (drop i ys)) ≡ no_terms
products_done f xs ys i l = ap (λ (z : List Datum). tally (product_terms f z (drop i ys))) (drop_all i xs l)

-- ---- finite terms

pub finite_value : (f : Format) (x : Datum) → is_finite x ≡ true
    → tally_of (value_term f x) ≡ number_tally (is_negative x) (quanta_of x * 2 ^ f.scale)
finite_value f (finite b m) e = refl
finite_value f (infinite b) e = absurd (false≢true e)
finite_value f (nan b s) e = absurd (false≢true e)

pub finite_product : (f : Format) (x y : Datum) → is_finite x ≡ true → is_finite y ≡ true
    → tally_of (product f x y) ≡ number_tally (product_sign (is_negative x) (is_negative y)) (quanta_of x * quanta_of y)
finite_product f (finite b m) (finite c n) e d = refl
finite_product f (finite b m) (infinite c) e d = absurd (false≢true d)
finite_product f (finite b m) (nan c t) e d = absurd (false≢true d)
finite_product f (infinite b) y e d = absurd (false≢true e)
finite_product f (nan b s) y e d = absurd (false≢true e)

-- each is one term
pub value_one : (f : Format) (x : Datum) → (tally_of (value_term f x)).terms ≡ 1
value_one f (finite b m) = refl
value_one f (infinite b) = refl
value_one f (nan b s) = refl

one_if : (f : Format) (test sign : Bool) → (tally_of (if test then invalid f else exactly (infinite sign))).terms ≡ 1
one_if f true sign = refl
one_if f false sign = refl

pub product_one : (f : Format) (x y : Datum) → (tally_of (product f x y)).terms ≡ 1
product_one f (nan b s) y = refl
product_one f (finite b m) (nan c t) = refl
product_one f (infinite b) (nan c t) = refl
product_one f (finite b m) (infinite c) = one_if f (eqb m 0) (product_sign b c)
product_one f (infinite b) (finite c n) = one_if f (eqb n 0) (product_sign b c)
product_one f (infinite b) (infinite c) = refl
product_one f (finite b m) (finite c n) = refl

-- ---- infinite terms and NaNs

-- what is added is the term
pub record IsSpecial (value : Datum) (status : ℕ) (term : Outcome) : Type 0 where
  pub special : is_finite value ≡ false
  pub same : special_tally value status ≡ tally_of term

settled_special : (value : Datum) (status : ℕ) (term : Outcome) (d : Datum) (flags : ℕ) → IsAnswer d flags value status
    → is_finite d ≡ false → special_tally d flags ≡ tally_of term → IsSpecial value status term
settled_special value status term d flags h n t =
    record { special = ap is_finite h.value_is ∙ n; same = rw (h.value_is, h.status_is) t }

zero_or_infinite : (f : Format) (mode : Round) (test sign : Bool) (value : Datum) (status : ℕ)
    → Yields f mode (if test then invalid f else exactly (infinite sign)) value status
    → IsSpecial value status (if test then invalid f else exactly (infinite sign))
zero_or_infinite f mode true sign value status h = settled_special value status _ _ _ h refl refl
zero_or_infinite f mode false sign value status h = settled_special value status _ _ _ h refl refl

pub special_product : (f : Format) (mode : Round) (x y value : Datum) (status : ℕ)
    → (is_finite x && is_finite y) ≡ false → IsProduct f mode x y value status → IsSpecial value status (product f x y)
special_product f mode (nan b s) y value status e h = settled_special value status _ _ _ h refl refl
special_product f mode (finite b m) (nan c t) value status e h = settled_special value status _ _ _ h refl refl
special_product f mode (infinite b) (nan c t) value status e h = settled_special value status _ _ _ h refl refl
special_product f mode (finite b m) (infinite c) value status e h =
    zero_or_infinite f mode (eqb m 0) (product_sign b c) value status h
special_product f mode (infinite b) (finite c n) value status e h =
    zero_or_infinite f mode (eqb n 0) (product_sign b c) value status h
special_product f mode (infinite b) (infinite c) value status e h = settled_special value status _ _ _ h refl refl
special_product f mode (finite b m) (finite c n) value status e h = absurd (false≢true (sym e))

pub special_value : (f : Format) (mode : Round) (x value : Datum) (status : ℕ) → is_finite x ≡ false
    → IsRoundToIntegral f mode x value status → IsSpecial value status (value_term f x)
special_value f mode (nan b s) value status e h = settled_special value status _ _ _ h refl refl
special_value f mode (infinite b) value status e h = settled_special value status _ _ _ h refl refl
special_value f mode (finite b m) value status e h = absurd (false≢true (sym e))

not_infinite : (test : Bool) → (if test then Zero else Normal) ≡ Infinity → ⊥
not_infinite true e = cc
not_infinite false e = cc

pub infinite_tally : (x : Datum) (flags : ℕ) → category_of x ≡ Infinity → special_tally x flags
    ≡ record no_terms { terms = 1; positive_infinity = not (is_negative x); negative_infinity = is_negative x }
infinite_tally (finite b n) flags e = absurd (not_infinite (eqb n 0) e)
infinite_tally (infinite b) flags e = refl
infinite_tally (nan b s) flags e = absurd cc

pub nan_tally : (x : Datum) (flags : ℕ) → is_finite x ≡ false → (category_of x ≡ Infinity → ⊥)
    → special_tally x flags
    ≡ record no_terms { terms = 1; first_nan = Some x; invalid = not (eqb flags ok_bits) }
nan_tally (finite b n) flags e d = absurd (false≢true (sym e))
nan_tally (infinite b) flags e d = absurd (d refl)
nan_tally (nan b s) flags e d = refl

-- ---- amounts

pub none_more : (z : ℤ) → z ≡ (z +ℤ pos 0)
none_more z = omega (arith, ints)

-- if an infinity among either part says so, one among both does
pub either_part : (K : Type 0) (p q m n : Bool) → ((p || m) ≡ true → K) → ((q || n) ≡ true → K)
    → ((p || q) || (m || n)) ≡ true → K
either_part K true q m n f g h = f refl
either_part K false true m n f g h = g refl
either_part K false false true n f g h = f refl
either_part K false false false n f g h = g h

pub amount_added : (sides : Amounts) (negative : Bool) (amount : ℕ)
    → difference (with_amount negative amount sides) ≡ (difference sides +ℤ signed negative amount)
amount_added sides true amount = omega (arith, ints)
amount_added sides false amount = omega (arith, ints)

pub amount_twice : (sides : Amounts) (negative : Bool) (first second both : ℕ) → first + second ≡ both
    → with_amount negative second (with_amount negative first sides) ≡ with_amount negative both sides
amount_twice sides true first second both e =
    let f : sides.minus + first + second ≡ sides.minus + both = omega (arith, e) in rw f refl
amount_twice sides false first second both e =
    let f : sides.plus + first + second ≡ sides.plus + both = omega (arith, e) in rw f refl

pub gross_added : (sides : Amounts) (negative : Bool) (amount : ℕ)
    → (with_amount negative amount sides).plus + (with_amount negative amount sides).minus
    ≡ sides.plus + sides.minus + amount
gross_added sides true amount = omega arith
gross_added sides false amount = omega arith

pub amounts_joined : (sides others : Amounts)
    → difference (both_amounts sides others) ≡ (difference sides +ℤ difference others)
amounts_joined sides others = omega (arith, ints)

-- a finite value that is no nonzero number is a zero
zero_quanta : (n : ℕ) → ((if eqb n 0 then Zero else Normal) ≡ Normal → ⊥) → n ≡ 0
zero_quanta n h = ⊎_elim (λ (e : n ≡ 0). e) (λ (e : n ≡ 0 → ⊥). absurd (h (rw (ne_eqb n 0 e) refl))) (cases_eq n 0)

pub finite_zero : (x : Datum) → is_finite x ≡ true → (category_of x ≡ Normal → ⊥) → quanta_of x ≡ 0
finite_zero (finite b n) e h = zero_quanta n h
finite_zero (infinite b) e h = absurd (false≢true e)
finite_zero (nan b s) e h = absurd (false≢true e)
