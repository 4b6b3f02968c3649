-- The two multiples of the spacing that enclose a magnitude are its neighbours.
use Rattle.std.proofs.Common.{◌≡◌, ℕ, zero, suc, ◌+◌, ◌-◌, ◌*◌, ◌/◌, ◌%◌, ◌^◌, ◌<◌, ◌≤◌, ◌⊎◌, ⊎_elim, sym, subst, arith}
use Rattle.std.proofs.Math.Nat.{mul-le-mul_right, div-add-mod', pow-suc}
use Rattle.std.proofs.lemmas.{Nat.pow_pos, Bool.cases_lt}
use Rattle.std.specs.Int.{div_ceil}
use Rattle.apfloat_model.specs.rounding.{Grid.IsBelow, Grid.IsAbove, Enclosure.IsEnclosed}
use Rattle.apfloat_model.proofs.general.Powers.{twice_half}
use Rattle.apfloat_model.proofs.rounding.Neighbours.{below_is, above_is_same, above_is_next}
use Rattle.apfloat_model.proofs.rounding.NeighboursExist.{enclosed_by_quotient}
use Rattle.tests.specs.Plain.{IsSpacing}

-- multiples of the spacing enclose the magnitude
enclosed : (precision amount parts spacing : ℕ) → 0 < precision → 0 < parts
    → (spaced : IsSpacing precision amount parts spacing)
    → IsEnclosed precision (2 ^ (precision - 1)) (amount / (parts * 2 ^ spaced.place)) spaced.place amount parts
enclosed precision amount parts spacing h p spaced =
    enclosed_by_quotient precision (2 ^ (precision - 1)) spaced.place amount parts p (sym (twice_half precision h))
    (subst (λ (x : ℕ). amount < 2 ^ precision * (parts * x)) spaced.is spaced.few)
    (subst (λ (x : ℕ). (spaced.place ≡ 0) ⊎ (2 ^ (precision - 1) * (parts * x) ≤ amount)) spaced.is spaced.many)

-- the greatest multiple that is not above the magnitude is its lower neighbour
pub floor_is : (precision amount parts spacing : ℕ) → 0 < precision → 0 < parts
    → IsSpacing precision amount parts spacing → IsBelow precision (amount / (parts * spacing) * spacing) amount parts
floor_is precision amount parts spacing h p s =
    subst (λ (x : ℕ). IsBelow precision (amount / (parts * x) * x) amount parts) (sym s.is)
    (below_is precision (2 ^ (precision - 1)) (amount / (parts * 2 ^ s.place)) s.place amount parts
    (enclosed precision amount parts spacing h p s))

-- the least multiple that is not below the magnitude is its upper neighbour, for enclosed magnitudes
ceiling_of : (precision half c amount parts : ℕ) → 0 < parts
    → IsEnclosed precision half (amount / (parts * 2 ^ c)) c amount parts
    → IsAbove precision (div_ceil amount (parts * 2 ^ c) * 2 ^ c) amount parts
ceiling_of precision half c amount parts p i =
    let d : amount / (parts * 2 ^ c) * (parts * 2 ^ c) + amount % (parts * 2 ^ c) ≡ amount =
    div-add-mod' amount (parts * 2 ^ c) in
    ⊎_elim
    (λ (q : 0 < amount % (parts * 2 ^ c)).
    let e : amount / (parts * 2 ^ c) + 1 ≡ div_ceil amount (parts * 2 ^ c) = omega arith in
    subst (λ (x : ℕ). IsAbove precision (x * 2 ^ c) amount parts) e
    (above_is_next precision half (amount / (parts * 2 ^ c)) c amount parts i (omega arith)))
    (λ (q : amount % (parts * 2 ^ c) ≤ 0).
    let e : amount / (parts * 2 ^ c) ≡ div_ceil amount (parts * 2 ^ c) = omega arith in
    subst (λ (x : ℕ). IsAbove precision (x * 2 ^ c) amount parts) e
    (above_is_same precision half (amount / (parts * 2 ^ c)) c amount parts p i (omega arith)))
    (cases_lt 0 (amount % (parts * 2 ^ c)))

-- the least multiple that is not below the magnitude is its upper neighbour, for every magnitude and its spacing
pub ceiling_is : (precision amount parts spacing : ℕ) → 0 < precision → 0 < parts
    → IsSpacing precision amount parts spacing
    → IsAbove precision (div_ceil amount (parts * spacing) * spacing) amount parts
ceiling_is precision amount parts spacing h p s =
    subst (λ (x : ℕ). IsAbove precision (div_ceil amount (parts * x) * x) amount parts) (sym s.is)
    (ceiling_of precision (2 ^ (precision - 1)) s.place amount parts p (enclosed precision amount parts spacing h p s))

-- a power of two that is not below the magnitude is not below its upper neighbour
above_to : (precision above amount parts place : ℕ) → 0 < precision → IsAbove precision above amount parts
    → amount ≤ 2 ^ place * parts → above ≤ 2 ^ place
above_to precision above amount parts place h i l =
    let t : 2 * 2 ^ (precision - 1) ≡ 2 ^ precision = twice_half precision h in
    let q : 1 ≤ 2 ^ (precision - 1) = pow_pos (precision - 1) in
    i.least (2 ^ place) (record { significand = 1; place = place; fits = omega arith; is = omega arith }) l

-- a power of two that is not below the amount is not below the upper neighbour
pub above_bound : (precision above amount parts place : ℕ) → 0 < precision → 0 < parts
    → IsAbove precision above amount parts → amount ≤ 2 ^ place → above ≤ 2 ^ place
above_bound precision above amount parts place h p i l =
    let k : 2 ^ place * 1 ≤ 2 ^ place * parts = omega (arith, mul-le-mul_right (2 ^ place) p) in
    above_to precision above amount parts place h i (omega arith)

-- the upper neighbour is at most twice the magnitude plus 1
pub above_near : (precision above amount parts place : ℕ) → 0 < precision → 0 < parts
    → IsAbove precision above amount parts → above ≤ 2 ^ place → above * parts ≤ 2 * amount + parts
above_near precision above amount parts zero h p i l =
    let k : above * parts ≤ 1 * parts = mul-le-mul_right parts l in
    omega arith
above_near precision above amount parts (suc place) h p i l =
    ⊎_elim
    (λ (q : 2 ^ place * parts < amount).
    let k : above * parts ≤ 2 ^ place * 2 * parts =
    mul-le-mul_right parts (subst (λ (x : ℕ). above ≤ x) (pow-suc 2 place) l) in
    omega arith)
    (λ (q : amount ≤ 2 ^ place * parts). above_near precision above amount parts place h p i
    (above_to precision above amount parts place h i q))
    (cases_lt (2 ^ place * parts) amount)

-- the upper neighbour, multiplied by the parts, fits in 128 bits
pub above_fits : (precision above amount parts : ℕ) → 0 < precision → 0 < parts
    → IsAbove precision above amount parts → amount < 2 ^ 126 → parts < 2 ^ 64 → above * parts < 2 ^ 128
above_fits precision above amount parts h p i a b =
    let l : above ≤ 2 ^ 126 = above_bound precision above amount parts 126 h p i (omega arith) in
    let k : above * parts ≤ 2 * amount + parts = above_near precision above amount parts 126 h p i l in
    omega arith
