-- How many random numbers take a magnitude to its upper neighbour, and that one which is a point stays.
use Rattle.std.proofs.Common.{◌≡◌, ℕ, zero, suc, ◌+◌, ◌-◌, ◌*◌, ◌^◌, ◌<◌, ◌≤◌, Bool}
use Rattle.std.proofs.Common.{true, false, cond, leb, ltb, sym, refl, ap, ◌∙◌, ⊎_elim, arith}
use Rattle.std.proofs.Math.Nat.{div-lt_iff_lt-mul, mul-lt-mul_of_pos_right}
use Rattle.std.proofs.lemmas.{Bool.cases_lt, Bool.le-leb, Bool.lt-leb, Bool.lt-ltb, Bool.le-ltb, Nat.pow_pos}
use Rattle.apfloat_model.specs.rounding.Grid.{IsBelow, IsAbove}
use Rattle.apfloat_model.proofs.{general.Choices.cond_same, rounding.Laws.exact_below, rounding.Laws.exact_above}
use Rattle.apfloat_model.proofs.rounding.Neighbours.{below_unique, above_unique}
use Rattle.small_formats.specs.declared.modes.ConversionRound.TheVariants.{Stochastic}
use Rattle.small_formats.specs.ModeLaws.{AreRandomNumbersCounted, ArePicksOfModel, StaysExact, count_below}
use Rattle.small_formats.specs.Modes.{next_between, parts_above}

-- of the numbers below n, those that reach `top` together with `share`
pub reaching : (top share n : ℕ) → share ≤ top → count_below (λ random. leb top (share + random)) n ≡ share + n - top
reaching top share zero l = let z : 0 ≡ share + 0 - top = omega (arith, l) in z
reaching top share (suc n) l =
    let before = reaching top share n l in
    ⊎_elim
    (λ (h : share + n < top).
    let test : leb top (share + n) ≡ false = lt-leb top (share + n) h in
    rw test (omega (arith, before, h)))
    (λ (h : top ≤ share + n).
    let test : leb top (share + n) ≡ true = le-leb top (share + n) h in
    rw test (omega (arith, before, h)))
    (cases_lt (share + n) top)

-- tests that agree below n count the same
pub same_count : (one other : ℕ → Bool) (n : ℕ) → ((k : ℕ) → k < n → one k ≡ other k)
    → count_below one n ≡ count_below other n
same_count one other zero h = refl
same_count one other (suc n) h =
    ap (λ (b : Bool). cond b 1 0 + count_below one n) (h n (omega arith))
    ∙ ap (λ (x : ℕ). cond (other n) 1 0 + x) (same_count one other n (λ k l. h k (omega (arith, l))))

-- a magnitude below its upper neighbour has fewer than all parts
pub parts_below : (digits x y : ℕ) → 0 < y → parts_above digits x y < 2 ^ digits
parts_below digits x y p =
    let total : 0 < x + y = omega (arith, p) in
    let less : x < x + y = omega (arith, p) in
    let times : x * 2 ^ digits < (x + y) * 2 ^ digits = mul-lt-mul_of_pos_right less (pow_pos digits) in
    (div-lt_iff_lt-mul total).1 (omega (arith, times))

-- whether the neighbour above was taken
taken : (test : Bool) (below above : ℕ) → below < above → ltb below (cond test above below) ≡ test
taken true below above l = lt-ltb below above l
taken false below above l = le-ltb below below (omega arith)

-- the neighbours of a magnitude between them are apart
above_some : (precision below above amount parts : ℕ) → 0 < parts → below < above
    → IsBelow precision below amount parts → IsAbove precision above amount parts → 0 < above * parts - amount
above_some precision below above amount parts p l x y =
    ⊎_elim
    (λ (h : amount < above * parts). omega (arith, h))
    (λ (h : above * parts ≤ amount).
    let k : above ≤ below = x.greatest above y.on_grid h in
    absurd (omega (arith, k, l)))
    (cases_lt amount (above * parts))

pub random_numbers_counted : AreRandomNumbersCounted
random_numbers_counted precision digits below above amount parts negative bits pick p l x y all picks =
    let top : ℕ = 2 ^ digits in
    let by : ℕ = amount - below * parts in
    let to : ℕ = above * parts - amount in
    let share : ℕ = parts_above digits by to in
    let fewer = parts_below digits by to (above_some precision below above amount parts p l x y) in
    let test : (k : ℕ) → k < top → ltb below (pick k) ≡ leb top (share + k) = λ k h.
    let a = all k h in
    let q = picks k h in
    let low : q.below ≡ below = below_unique precision q.below below amount parts q.is_below x in
    let high : q.above ≡ above = above_unique precision q.above above amount parts q.is_above y in
    let is : pick k ≡ next_between (Stochastic (bits k)) negative below above amount parts =
    q.is ∙ ap (λ (n : ℕ). next_between (Stochastic (bits k)) negative n q.above amount parts) low
    ∙ ap (λ (n : ℕ). next_between (Stochastic (bits k)) negative below n amount parts) high in
    ap (λ (n : ℕ). ltb below n) is
    ∙ taken (leb (2 ^ (bits k).digits) (parts_above (bits k).digits by to + (bits k).random)) below above l
    ∙ ap (λ (n : ℕ). leb (2 ^ n) (parts_above n by to + (bits k).random)) a.0
    ∙ ap (λ (n : ℕ). leb top (share + n)) a.1 in
    same_count (λ k. ltb below (pick k)) (λ k. leb top (share + k)) top test
    ∙ reaching top share top (omega (arith, fewer)) ∙ (let e : share + top - top ≡ share = omega arith in e)

pub stays_exact : StaysExact
stays_exact precision mode negative point amount parts pick p grid e x =
    let low : x.below ≡ point =
    below_unique precision x.below point amount parts x.is_below (exact_below precision point amount parts p grid e) in
    let high : x.above ≡ point =
    above_unique precision x.above point amount parts x.is_above (exact_above precision point amount parts p grid e) in
    x.is ∙ ap (λ (n : ℕ). next_between mode negative n x.above amount parts) low
    ∙ ap (λ (n : ℕ). next_between mode negative point n amount parts) high ∙ sym (cond_same _ point)

pub picks_of_model : ArePicksOfModel
picks_of_model precision mode negative amount parts pick x = record {
  below = x.below;
  above = x.above;
  is_below = x.is_below;
  is_above = x.is_above;
  is = x.is;
}
