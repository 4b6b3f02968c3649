-- The neighbours of a magnitude in closed form.
use Rattle.std.proofs.Common.{◌≡◌, ℕ, ◌+◌, ◌-◌, ◌*◌, ◌^◌, ◌<◌, ◌≤◌, ◌⊎◌, sym}
use Rattle.std.proofs.Common.{refl, ap, ◌∙◌, subst, inl, inr, ⊎_elim, arith}
use Rattle.std.proofs.Math.Nat.{le_antisymm, mul-le-mul_right, mul-le-mul_left, lt_of_mul-lt-mul_right}
use Rattle.std.proofs.{Math.Nat.le_of_mul-le-mul_right, lemmas.Nat.pow-add, lemmas.Nat.pow_pos, lemmas.Bool.cases_lt}
use Rattle.apfloat_model.specs.rounding.{Grid.IsOnGrid, Grid.IsBelow, Grid.IsAbove, Enclosure.IsEnclosed}

-- a greater multiple is at least the next one
pub next_multiple : (m x u : ℕ) → m * u < x * u → (m + 1) * u ≤ x * u
next_multiple m x u h =
    let l : m < x = lt_of_mul-lt-mul_right u h in
    let k : m + 1 ≤ x = omega arith in
    mul-le-mul_right u k

-- a point with a finer unit, at most one digit too long, is not above a point that has all digits
pub finer_point : (t half m u w : ℕ) → t ≤ 2 * half → half ≤ m → 1 ≤ w → t * u ≤ m * (u * (2 * w))
finer_point t half m u w h l k =
    let a : t * u ≤ (2 * half) * u = mul-le-mul_right u h in
    let b : half * u ≤ m * u = mul-le-mul_right u l in
    let c : (m * u) * 1 ≤ (m * u) * w = mul-le-mul_left (m * u) k in
    omega arith

-- a greater point at a place not below c is at least the next multiple of 2 ^ c
pub coarse_point : (m c t d : ℕ) → m * 2 ^ c < t * 2 ^ (c + d) → (m + 1) * 2 ^ c ≤ t * 2 ^ (c + d)
coarse_point m c t d h =
    let e : t * 2 ^ (c + d) ≡ (t * 2 ^ d) * 2 ^ c = rw (pow-add 2 c d) (omega arith) in
    let h' : m * 2 ^ c < (t * 2 ^ d) * 2 ^ c = omega arith in
    let k : (m + 1) * 2 ^ c ≤ (t * 2 ^ d) * 2 ^ c = next_multiple m (t * 2 ^ d) (2 ^ c) h' in
    omega arith

-- a point at a place below c is not above a point that has all digits
pub fine_point : (half m j t d : ℕ) → t ≤ 2 * half → half ≤ m → t * 2 ^ j ≤ m * 2 ^ (j + (d + 1))
fine_point half m j t d h l =
    let e : 2 ^ (j + (d + 1)) ≡ 2 ^ j * (2 * 2 ^ d) = pow-add 2 j (d + 1) ∙
    ap (λ (x : ℕ). 2 ^ j * x) (pow-add 2 d 1 ∙ omega arith) in
    rw e (finer_point t half m (2 ^ j) (2 ^ d) h l (pow_pos d))

-- the same for units that are powers of two
pub fine_point_at : (half m j c t : ℕ) → j < c → t ≤ 2 * half → half ≤ m → t * 2 ^ j ≤ m * 2 ^ c
fine_point_at half m j c t q h l =
    let e : j + ((c - (j + 1)) + 1) ≡ c = omega arith in
    subst (λ (x : ℕ). t * 2 ^ j ≤ m * 2 ^ x) e (fine_point half m j t (c - (j + 1)) h l)

-- a greater point with a coarser unit is at least the next one
coarse_point_at : (m c t j : ℕ) → c ≤ j → m * 2 ^ c < t * 2 ^ j → (m + 1) * 2 ^ c ≤ t * 2 ^ j
coarse_point_at m c t j q h =
    let e : j ≡ c + (j - c) = omega arith in
    let h' : m * 2 ^ c < t * 2 ^ (c + (j - c)) = subst (λ (x : ℕ). m * 2 ^ c < t * 2 ^ x) e h in
    subst (λ (x : ℕ). (m + 1) * 2 ^ c ≤ t * 2 ^ x) (sym e) (coarse_point m c t (j - c) h')

-- a greater grid number is at least the next one, whatever its unit
not_fine : (precision half m c t j : ℕ) → 2 ^ precision ≡ 2 * half → (c ≡ 0) ⊎ (half ≤ m) → t < 2 ^ precision
    → m * 2 ^ c < t * 2 ^ j → j < c → (m + 1) * 2 ^ c ≤ t * 2 ^ j
not_fine precision half m c t j e (inl z) f h q = absurd (omega arith)
not_fine precision half m c t j e (inr l) f h q =
    let f' : t ≤ 2 * half = omega arith in
    let k : t * 2 ^ j ≤ m * 2 ^ c = fine_point_at half m j c t q f' l in
    absurd (omega arith)

-- no grid point is strictly between two neighbouring multiples of 2 ^ c
pub none_between : (precision half m c point : ℕ) → 2 ^ precision ≡ 2 * half → (c ≡ 0) ⊎ (half ≤ m)
    → IsOnGrid precision point → m * 2 ^ c < point → (m + 1) * 2 ^ c ≤ point
none_between precision half m c point e n g h =
    let h' : m * 2 ^ c < g.significand * 2 ^ g.place = subst (λ (x : ℕ). m * 2 ^ c < x) g.is h in
    let k : (m + 1) * 2 ^ c ≤ g.significand * 2 ^ g.place =
    ⊎_elim (λ q. not_fine precision half m c g.significand g.place e n g.fits h' q)
    (λ q. coarse_point_at m c g.significand g.place q h') (cases_lt g.place c) in
    subst (λ (x : ℕ). (m + 1) * 2 ^ c ≤ x) (sym g.is) k

-- a significand that fits is on the grid, whatever its place
pub multiple_on_grid : (precision m c : ℕ) → m < 2 ^ precision → IsOnGrid precision (m * 2 ^ c)
multiple_on_grid precision m c h = record { significand = m; place = c; fits = h; is = refl }

-- a significand with one digit too many is half that significand, one place up
pub carried : (half c : ℕ) → (2 * half) * 2 ^ c ≡ half * 2 ^ (c + 1)
carried half c = rw (pow-add 2 c 1) (omega arith)

-- the next number with the same unit is on the grid, even if it has one digit more
pub next_on_grid : (precision half m c : ℕ) → 2 ^ precision ≡ 2 * half → m < 2 ^ precision
    → IsOnGrid precision ((m + 1) * 2 ^ c)
next_on_grid precision half m c e h =
    ⊎_elim
    (λ (q : m + 1 < 2 ^ precision). multiple_on_grid precision (m + 1) c q)
    (λ (q : 2 ^ precision ≤ m + 1).
    let s : m + 1 ≡ 2 * half = omega arith in
    record {
      significand = half;
      place = c + 1;
      fits = omega arith;
      is = ap (λ (x : ℕ). x * 2 ^ c) s ∙
          carried half c;
    })
    (cases_lt (m + 1) (2 ^ precision))

-- no grid number within the amount is above the enclosing significand
greatest_of : (precision half m c amount parts other : ℕ) → IsEnclosed precision half m c amount parts
    → IsOnGrid precision other → other * parts ≤ amount → m * 2 ^ c < other → other ≤ m * 2 ^ c
greatest_of precision half m c amount parts other i g l q =
    let k : (m + 1) * 2 ^ c ≤ other = none_between precision half m c other i.double i.full g q in
    let k' : (m + 1) * 2 ^ c * parts ≤ other * parts = mul-le-mul_right parts k in
    let t : amount < (m + 1) * 2 ^ c * parts = i.to in
    absurd (omega arith)

-- the enclosing significand is the neighbour below
pub below_is : (precision half m c amount parts : ℕ) → IsEnclosed precision half m c amount parts
    → IsBelow precision (m * 2 ^ c) amount parts
below_is precision half m c amount parts i = record {
  on_grid = multiple_on_grid precision m c i.fits;
  not_above = i.from;
  greatest = λ other g l.
      ⊎_elim (λ q. greatest_of precision half m c amount parts other i g l q) (λ q. q) (cases_lt (m * 2 ^ c) other);
}

-- the enclosing significand is the neighbour above too, if it is the magnitude itself
pub above_is_same : (precision half m c amount parts : ℕ) → 0 < parts → IsEnclosed precision half m c amount parts
    → amount ≡ m * 2 ^ c * parts → IsAbove precision (m * 2 ^ c) amount parts
above_is_same precision half m c amount parts p i e = record {
  on_grid = multiple_on_grid precision m c i.fits;
  not_below = omega arith;
  least = λ other g l. let l' : m * 2 ^ c * parts ≤ other * parts = omega arith in le_of_mul-le-mul_right l' p;
}

-- if the enclosing significand is not the magnitude itself, the next one is the neighbour above
pub above_is_next : (precision half m c amount parts : ℕ) → IsEnclosed precision half m c amount parts
    → m * 2 ^ c * parts < amount → IsAbove precision ((m + 1) * 2 ^ c) amount parts
above_is_next precision half m c amount parts i h = record {
  on_grid = next_on_grid precision half m c i.double i.fits;
  not_below = omega arith;
  least = λ other g l.
      let l' : m * 2 ^ c * parts < other * parts = omega arith in
      none_between precision half m c other i.double i.full g (lt_of_mul-lt-mul_right parts l');
}

-- a magnitude has at most one neighbour below
pub below_unique : (precision a b amount parts : ℕ) → IsBelow precision a amount parts
    → IsBelow precision b amount parts → a ≡ b
below_unique precision a b amount parts x y =
    le_antisymm (y.greatest a x.on_grid x.not_above) (x.greatest b y.on_grid y.not_above)

-- a magnitude has at most one neighbour above
pub above_unique : (precision a b amount parts : ℕ) → IsAbove precision a amount parts
    → IsAbove precision b amount parts → a ≡ b
above_unique precision a b amount parts x y =
    le_antisymm (x.least b y.on_grid y.not_below) (y.least a x.on_grid x.not_below)
