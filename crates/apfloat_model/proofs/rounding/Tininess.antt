-- Whether a magnitude, rounded with an unbounded exponent, is below the smallest normalized number.
use Rattle.std.proofs.{Math.Nat.mul-le-mul_right, Math.Nat.mul-le-mul_left, lemmas.Nat.pow_pos}
use Rattle.std.proofs.Common.{◌≡◌, ℕ, ◌+◌, ◌-◌, ◌*◌, ◌%◌, ◌^◌, ◌<◌, ◌≤◌, Bool, true, false, not, ◌&&◌, ◌||◌, cond, ltb}
use Rattle.std.proofs.Common.{leb, eqb, sym, refl, ap, ◌∙◌, subst, inl, ⊎_elim, arith}
use Rattle.std.proofs.lemmas.Bool.{cases_lt, lt-ltb, le-ltb, lt-leb, le-leb, eq-eqb}
use Rattle.apfloat_model.specs.declared.{kinds.Round.Round, loss.Loss.Loss}
use Rattle.apfloat_model.specs.declared.loss.Loss.TheVariants.{ExactlyZero, LessThanHalf, ExactlyHalf, MoreThanHalf}
use Rattle.apfloat_model.specs.formats.{Format.Format, Datum.Datum}
use Rattle.apfloat_model.specs.rounding.{Grid.IsOnGrid, Standing.StandsFor, Enclosure.IsEnclosed, Enclosure.rounds_up}
use Rattle.apfloat_model.specs.rounding.Rounding.{takes_above, IsPick, IsDelivered, delivered_value}
use Rattle.apfloat_model.specs.rounding.Rounding.{rounds_below_normal}
use Rattle.apfloat_model.proofs.{general.Powers.twice_half, rounding.Picks.takes_less, rounding.Picks.takes_half}
use Rattle.apfloat_model.proofs.rounding.{Picks.takes_more, Picks.inexact_pick, Picks.pick_unique, Laws.pick_within}

-- ---- the three cases, over plain numbers: `last` and the number after it, in units of which `parts` make an amount

-- whether the amount is rounded to at most `last`
abbrev rounds_to_last : Round → Bool → ℕ → ℕ → ℕ → Bool
rounds_to_last mode negative last amount parts =
    leb amount (last * parts) || (ltb amount ((last + 1) * parts)
    && not (takes_above mode negative (amount - last * parts) ((last + 1) * parts - amount) true))

up_to_last : (mode : Round) (negative : Bool) (last amount parts : ℕ) → amount ≤ last * parts
    → rounds_to_last mode negative last amount parts ≡ true
up_to_last mode negative last amount parts h =
    let a : leb amount (last * parts) ≡ true = le-leb amount (last * parts) h in rw a refl

from_next : (mode : Round) (negative : Bool) (last amount parts : ℕ) → 0 < parts → (last + 1) * parts ≤ amount
    → rounds_to_last mode negative last amount parts ≡ false
from_next mode negative last amount parts p h =
    let a : leb amount (last * parts) ≡ false = lt-leb amount (last * parts) (omega arith) in
    let b : ltb amount ((last + 1) * parts) ≡ false = le-ltb amount ((last + 1) * parts) h in rw (a, b) refl

between_both : (mode : Round) (negative : Bool) (last amount parts : ℕ)
    → last * parts < amount → amount < (last + 1) * parts → rounds_to_last mode negative last amount parts
    ≡ not (takes_above mode negative (amount - last * parts) ((last + 1) * parts - amount) true)
between_both mode negative last amount parts h l =
    let a : leb amount (last * parts) ≡ false = lt-leb amount (last * parts) h in
    let b : ltb amount ((last + 1) * parts) ≡ true = lt-ltb amount ((last + 1) * parts) l in rw (a, b) refl

-- `last` is the greatest significand, counted in half quanta
at_last : (precision : ℕ) (mode : Round) (negative : Bool) (amount parts : ℕ)
    → rounds_below_normal precision mode negative amount parts
    ≡ rounds_to_last mode negative (2 ^ precision - 1) (2 * amount) parts
at_last precision mode negative amount parts =
    let w : 0 < 2 ^ precision = pow_pos precision in
    let e : 2 ^ precision ≡ 2 ^ precision - 1 + 1 = omega arith in
    ap (λ (x : ℕ). leb (2 * amount) ((2 ^ precision - 1) * parts) || (ltb (2 * amount) (x * parts)
    && not (takes_above mode negative (2 * amount - (2 ^ precision - 1) * parts) (x * parts - 2 * amount) true))) e

-- ---- from a significand and its loss

-- a loss decides which neighbour an odd significand is rounded to
taken : (mode : Round) (negative : Bool) (last amount parts : ℕ) (loss : Loss) → last * parts < amount
    → StandsFor last loss amount parts
    → takes_above mode negative (amount - last * parts) ((last + 1) * parts - amount) true
    ≡ rounds_up mode negative loss true
taken mode negative last amount parts ExactlyZero l h = absurd (omega (arith, h))
taken mode negative last amount parts LessThanHalf l h =
    let b = h.1 in takes_less mode negative true _ _ (omega (arith, b))
taken mode negative last amount parts ExactlyHalf l h = takes_half mode negative true _ _ (omega (arith, h))
taken mode negative last amount parts MoreThanHalf l h =
    let a = h.0 in let b = h.1 in takes_more mode negative true _ _ (omega (arith, a, b))

-- if a kept significand below the half is not the last one, the amount is below the half by a quantum or more
pub below_by_more : (precision half m c amount parts : ℕ) (mode : Round) (negative : Bool) → 0 < parts → m + 1 < half
    → IsEnclosed precision half m c amount parts → rounds_below_normal precision mode negative amount parts ≡ true
below_by_more precision half m c amount parts mode negative p l i =
    ⊎_elim
    (λ (z : c ≡ 0).
    let t : amount < (m + 1) * 2 ^ 0 * parts = subst (λ (x : ℕ). amount < (m + 1) * 2 ^ x * parts) z i.to in
    let d : 2 ^ precision ≡ 2 * half = i.double in
    let l' : 2 * (m + 1) ≤ 2 ^ precision - 1 = omega arith in
    at_last precision mode negative amount parts
    ∙ up_to_last mode negative (2 ^ precision - 1) (2 * amount) parts (omega (arith, t, mul-le-mul_right parts l')))
    (λ (f : half ≤ m). absurd (omega arith))
    i.full

-- if a kept significand is at least the half, the amount is not below the smallest normalized number
pub not_below : (precision half m c amount parts : ℕ) (mode : Round) (negative : Bool) → 0 < parts → half ≤ m
    → IsEnclosed precision half m c amount parts → rounds_below_normal precision mode negative amount parts ≡ false
not_below precision half m c amount parts mode negative p l i =
    let w : 1 ≤ 2 ^ c = pow_pos c in
    let a : m * 1 ≤ m * 2 ^ c = mul-le-mul_left m w in
    let b : half ≤ m * 2 ^ c = omega arith in
    let k : half * parts ≤ m * 2 ^ c * parts = mul-le-mul_right parts b in
    let f : m * 2 ^ c * parts ≤ amount = i.from in
    let d : 2 ^ precision ≡ 2 * half = i.double in
    let v : 0 < 2 ^ precision = pow_pos precision in
    let n : 2 ^ precision - 1 + 1 ≡ 2 * half = omega arith in
    at_last precision mode negative amount parts ∙ from_next mode negative (2 ^ precision - 1) (2 * amount) parts p
    (omega (arith, k, f, ap (λ (x : ℕ). x * parts) n))

-- an amount with a loss of at most half is at most half a unit above its significand
at_most_half : (m : ℕ) (loss : Loss) (amount parts : ℕ) → 0 < parts → (loss ≡ MoreThanHalf → ⊥)
    → StandsFor m loss amount parts → 2 * amount ≤ (2 * m + 1) * parts
at_most_half m ExactlyZero amount parts p n h = omega (arith, h)
at_most_half m LessThanHalf amount parts p n h = let a = h.1 in omega (arith, a)
at_most_half m ExactlyHalf amount parts p n h = omega (arith, h)
at_most_half m MoreThanHalf amount parts p n h = absurd (n refl)

-- if the significand is the last one before the half, with a loss of at most half, the amount is below the smallest
-- normalized number
pub below_by_half : (precision half m amount parts : ℕ) (mode : Round) (negative : Bool) (loss : Loss) → 0 < parts
    → 2 ^ precision ≡ 2 * half → m + 1 ≡ half → (loss ≡ MoreThanHalf → ⊥)
    → StandsFor m loss amount parts → rounds_below_normal precision mode negative amount parts ≡ true
below_by_half precision half m amount parts mode negative loss p d e n h =
    let t : 2 * m + 1 ≡ 2 ^ precision - 1 = omega arith in
    at_last precision mode negative amount parts ∙ up_to_last mode negative (2 ^ precision - 1) (2 * amount) parts
    (omega (arith, ap (λ (x : ℕ). x * parts) t, at_most_half m loss amount parts p n h))

-- less than half a quantum below the smallest normalized number, what is lost below half a quantum decides
pub just_below : (precision : ℕ) (mode : Round) (negative : Bool) (amount parts : ℕ) (loss : Loss)
    → (2 ^ precision - 1) * parts < 2 * amount → 2 * amount < 2 ^ precision * parts
    → StandsFor (2 ^ precision - 1) loss (2 * amount) parts
    → rounds_below_normal precision mode negative amount parts ≡ not (rounds_up mode negative loss true)
just_below precision mode negative amount parts loss a b h =
    let w : 0 < 2 ^ precision = pow_pos precision in
    let e : 2 ^ precision ≡ 2 ^ precision - 1 + 1 = omega arith in
    let k : 2 ^ precision * parts ≡ (2 ^ precision - 1 + 1) * parts = ap (λ (x : ℕ). x * parts) e in
    at_last precision mode negative amount parts ∙ between_both mode negative (2 ^ precision - 1) (2 * amount) parts a
    (omega (arith, b, k)) ∙ ap not (taken mode negative (2 ^ precision - 1) (2 * amount) parts loss a h)

-- ---- the rule by picks: the grid is the same at twice the magnitude

-- every number of at most `precision` digits is on the grid, and so is the power of two after the last of them
last_on_grid : (precision : ℕ) → IsOnGrid precision (2 ^ precision - 1)
last_on_grid precision =
    let w : 0 < 2 ^ precision = pow_pos precision in
    record { significand = 2 ^ precision - 1; place = 0; fits = omega arith; is = omega arith }

next_on_grid : (precision : ℕ) → 0 < precision → IsOnGrid precision (2 ^ precision)
next_on_grid precision p =
    let d : 2 * 2 ^ (precision - 1) ≡ 2 ^ precision = twice_half precision p in
    let w : 0 < 2 ^ (precision - 1) = pow_pos (precision - 1) in
    record { significand = 2 ^ (precision - 1); place = 1; fits = omega arith; is = omega arith }

-- the pick between the last number and the next one
pick_between_both : (precision : ℕ) (mode : Round) (negative : Bool) (amount parts p : ℕ) (up : Bool)
    → 0 < precision → (2 ^ precision - 1) * parts < amount → amount < 2 ^ precision * parts
    → IsPick precision mode negative amount parts p
    → takes_above mode negative (amount - (2 ^ precision - 1) * parts) ((2 ^ precision - 1 + 1) * parts - amount) true
    ≡ up → ltb p (2 ^ precision) ≡ not up
pick_between_both precision mode negative amount parts p up some l h x e =
    let d : 2 * 2 ^ (precision - 1) ≡ 2 ^ precision = twice_half precision some in
    let w : 0 < 2 ^ (precision - 1) = pow_pos (precision - 1) in
    let n : 2 ^ precision - 1 + 1 ≡ 2 ^ precision = omega arith in
    let k : (2 ^ precision - 1 + 1) * parts ≡ 2 ^ precision * parts = ap (λ (y : ℕ). y * parts) n in
    let m : ℕ = 2 ^ precision - 1 in
    let odd : eqb ((2 ^ precision - 1) % 2) 1 ≡ true = eq-eqb _ _ (omega arith) in
    let i : IsEnclosed precision (2 ^ (precision - 1)) (2 ^ precision - 1) 0 amount parts = record {
      double = sym d;
      fits = omega arith;
      full = inl refl;
      from = omega (arith, l);
      to = omega (arith, h, k);
    } in
    let t : takes_above mode negative (amount - (2 ^ precision - 1) * 2 ^ 0 * parts)
    ((2 ^ precision - 1 + 1) * 2 ^ 0 * parts - amount) (eqb ((2 ^ precision - 1) % 2) 1) ≡ up =
    ap (λ (b : Bool). takes_above mode negative (amount - (2 ^ precision - 1) * 2 ^ 0 * parts)
    ((2 ^ precision - 1 + 1) * 2 ^ 0 * parts - amount) b) odd
    ∙ ap (λ (y : ℕ). takes_above mode negative (amount - y * parts)
    ((2 ^ precision - 1 + 1) * 2 ^ 0 * parts - amount) true) (omega arith)
    ∙ ap (λ (y : ℕ). takes_above mode negative (amount - (2 ^ precision - 1) * parts) (y * parts - amount) true)
    (omega arith) ∙ e in
    let g = inexact_pick precision mode negative (2 ^ (precision - 1)) (2 ^ precision - 1) 0 amount parts up i
    (omega (arith, l)) t in
    let q : p ≡ cond up (2 ^ precision - 1 + 1) (2 ^ precision - 1) * 2 ^ 0 =
    pick_unique precision mode negative amount parts p (cond up (2 ^ precision - 1 + 1) (2 ^ precision - 1) * 2 ^ 0) x g
    in
    ap (λ (y : ℕ). ltb y (2 ^ precision)) q ∙ chosen up (2 ^ precision) (omega arith)
  where
    chosen : (up : Bool) (n : ℕ) → 0 < n → ltb (cond up (n - 1 + 1) (n - 1) * 2 ^ 0) n ≡ not up
    chosen true n h = le-ltb _ n (omega arith)
    chosen false n h = lt-ltb _ n (omega arith)

-- a magnitude is tiny after rounding exactly if the pick of twice the magnitude is below twice the smallest normalized
-- number: half quanta are to the doubled magnitude what quanta are to the magnitude
pub by_pick_of_twice : (precision : ℕ) (mode : Round) (negative : Bool) (amount parts p : ℕ) → 0 < precision
    → 0 < parts → IsPick precision mode negative (2 * amount) parts p
    → ltb p (2 * 2 ^ (precision - 1)) ≡ rounds_below_normal precision mode negative amount parts
by_pick_of_twice precision mode negative amount parts p some q x =
    let d : 2 * 2 ^ (precision - 1) ≡ 2 ^ precision = twice_half precision some in
    let w : 0 < 2 ^ (precision - 1) = pow_pos (precision - 1) in
    let n : 2 ^ precision - 1 + 1 ≡ 2 ^ precision = omega arith in
    let k : (2 ^ precision - 1 + 1) * parts ≡ 2 ^ precision * parts = ap (λ (y : ℕ). y * parts) n in
    let within = pick_within precision mode negative (2 * amount) parts p q x in
    ap (λ (y : ℕ). ltb p y) d
    ∙ ⊎_elim
    (λ (l : (2 ^ precision - 1) * parts < 2 * amount).
    ⊎_elim
    (λ (h : 2 * amount < 2 ^ precision * parts).
    pick_between_both precision mode negative (2 * amount) parts p _ some l h x refl
    ∙ sym (between_both mode negative (2 ^ precision - 1) (2 * amount) parts l (omega (arith, h, k))))
    (λ (h : 2 ^ precision * parts ≤ 2 * amount).
    let b : x.below ≤ p = within.1 in
    le-ltb p (2 ^ precision) (omega (arith, x.is_below.greatest (2 ^ precision) (next_on_grid precision some) h, b))
    ∙ sym (from_next mode negative (2 ^ precision - 1) (2 * amount) parts q (omega (arith, h, k))))
    (cases_lt (2 * amount) (2 ^ precision * parts)))
    (λ (l : 2 * amount ≤ (2 ^ precision - 1) * parts).
    let b : p ≤ x.above = within.0 in
    lt-ltb p (2 ^ precision) (omega (arith, x.is_above.least (2 ^ precision - 1) (last_on_grid precision) l, b))
    ∙ sym (up_to_last mode negative (2 ^ precision - 1) (2 * amount) parts l))
    (cases_lt ((2 ^ precision - 1) * parts) (2 * amount))
    ∙ sym (at_last precision mode negative amount parts)

-- ---- the choice of flags changes no value

pub same_value : (format : Format) (flags : Bool) (mode : Round) (negative : Bool) (amount parts : ℕ)
    (value other : Datum) (status other_status : ℕ) → IsDelivered format mode negative amount parts value status
    → IsDelivered (record format { ieee_flags = flags }) mode negative amount parts other other_status
    → value ≡ other
same_value format flags mode negative amount parts v w s t x y =
    let e : x.pick ≡ y.pick =
    pick_unique format.precision mode negative amount parts x.pick y.pick x.is_pick y.is_pick in
    x.value_is ∙ ap (λ (p : ℕ). delivered_value format mode negative p) e ∙ sym y.value_is
