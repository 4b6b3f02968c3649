-- The parts of a distance, rounded: scaled, of a rest that was cut off, and what they choose.
use Rattle.std.proofs.Common.{◌≡◌, ℕ, zero, suc, ◌+◌, ◌-◌, ◌*◌, ◌/◌, ◌%◌, ◌^◌, ◌<◌}
use Rattle.std.proofs.Common.{◌≤◌, ◌⊎◌, Bool, true, false, cond, leb, eqb, sym, refl, ap, ◌∙◌, subst}
use Rattle.std.proofs.{Common.arith, Math.Nat.eq_of_mul-eq-mul_right}
use Rattle.std.proofs.Math.Nat.{mul-lt-mul_of_pos_right, mul-pos, le_of_mul-le-mul_right, lt_of_mul-lt-mul_right}
use Rattle.std.proofs.lemmas.Nat.{div-add-mod', mod-pow-add, mod_below, pow-add, pow_pos}
use Rattle.std.specs.Bool.{MatchBool}
use Rattle.apfloat_model.specs.declared.{kinds.Round.Round, loss.Loss.Loss}
use Rattle.apfloat_model.specs.declared.loss.Loss.TheVariants.{ExactlyHalf, ExactlyZero, LessThanHalf, MoreThanHalf}
use Rattle.apfloat_model.specs.{whole_numbers.WholeNumbers.whole_pick, rounding.Standing.StandsFor}
use Rattle.apfloat_model.proofs.rounding.Picks.{kept}
use Rattle.apfloat_model.proofs.rounding.KeptDigits.{cut_fits, cut_full, same_unit, stands_cancel, stands_times}
use Rattle.apfloat_conversions.proofs.Wholes.{whole_at}
use Rattle.small_formats.specs.declared.{ConversionRound.TheVariants.Ieee, RandomDigits.RandomDigits}
use Rattle.small_formats.specs.{Codes.index_of, Codes.point, IndexPicks.index_between, Modes.takes_next}
use Rattle.small_formats.specs.{PicksBy.IsCodePickBy, PicksBy.IsPointPickBy, stochastic.Directions.direction}
use Rattle.small_formats.proofs.{CodePicks.code_pick_by, Points.at_index, Points.at_next}
use Rattle.p3109_formats.specs.{Picks.IsAway, Rules.IsRandomPick}
use Rattle.p3109_formats.proofs.OneAnswer.{point_pick_once}

-- the loss of what is cut off, without the digits above
rest_stands : (q a u b s r : ℕ) (loss : Loss) → s ≡ q * u + b → r ≡ a * u + b → StandsFor q loss s u
    → StandsFor a loss r u
rest_stands q a u b s r ExactlyZero e f h = omega (arith, e, f, h)
rest_stands q a u b s r LessThanHalf e f h = (omega (arith, e, f, h.0), omega (arith, e, f, h.1))
rest_stands q a u b s r ExactlyHalf e f h = omega (arith, e, f, h)
rest_stands q a u b s r MoreThanHalf e f h = (omega (arith, e, f, h.0), omega (arith, e, f, h.1))

-- the parts of a rest, which has at least as many digits as they
pub parts_kept : (number places digits high share amount parts : ℕ) (mode : Round) (loss : Loss) → digits ≤ places
    → high ≡ number / 2 ^ (places - digits) → share ≡ high % 2 ^ digits
    → StandsFor high loss number (2 ^ (places - digits) * 1) → 0 < parts
    → amount * 2 ^ places ≡ 2 ^ digits * (number % 2 ^ places) * parts
    → kept mode false loss share ≡ whole_pick mode false amount parts
parts_kept number places digits high share amount parts mode loss l top low h some is =
    let j : ℕ = places - digits in
    let k : ℕ = 2 ^ j in
    let t : ℕ = 2 ^ digits in
    let r : ℕ = number % 2 ^ places in
    let e : places ≡ digits + j = omega (arith, l) in
    let width : k * t ≡ 2 ^ places = sym (ap (λ (n : ℕ). 2 ^ n) e ∙ pow-add 2 digits j ∙ omega arith) in
    let sum : r ≡ share * k + number % k = ap (λ (n : ℕ). number % 2 ^ n) e ∙ mod-pow-add number digits j
    ∙ ap (λ (n : ℕ). n * k + number % k) (ap (λ (n : ℕ). n % t) (sym top) ∙ sym low) in
    let all : number ≡ high * k + number % k =
    sym (div-add-mod' number k) ∙ ap (λ (n : ℕ). n * k + number % k) (sym top) in
    let one : k * 1 ≡ k = omega arith in
    let rest : StandsFor share loss r k = rest_stands high share k (number % k) number r loss all sum
    (subst (λ (n : ℕ). StandsFor high loss number n) one h) in
    let amounts : r * (t * parts) ≡ amount * 2 ^ places = omega (arith, is) in
    let units : k * (t * parts) ≡ parts * 2 ^ places = omega arith ∙ ap (λ (n : ℕ). parts * n) width in
    sym (whole_at mode false share amount parts loss some
    (stands_cancel share loss amount parts (2 ^ places) (pow_pos places)
    (subst (λ (n : ℕ). StandsFor share loss (amount * 2 ^ places) n) units
    (subst (λ (n : ℕ). StandsFor share loss n (k * (t * parts))) amounts
    (stands_times share loss r k (t * parts) (mul-pos (pow_pos digits) some) rest)))))

-- the digits that are kept of a number enclose it, and what is cut off is its distance from the point there
pub away_is : (p number k c amount parts u d : ℕ) (mode : Round) (bits : RandomDigits) (away : Bool) → 0 < p
    → 0 < parts → 2 ^ 124 ≤ number → number < 2 ^ 125 → 125 + u ≤ c + p + d
    → (c ≡ 0) ⊎ (125 + u ≡ c + p + d) → k + u ≡ c + d → amount * 2 ^ d ≡ number * (parts * 2 ^ u)
    → ((n m : ℕ) → 0 < m → n * 2 ^ k ≡ 2 ^ bits.digits * (number % 2 ^ k) * m
    → away ≡ leb (2 ^ bits.digits) (whole_pick mode false n m + bits.random)) → IsAway p mode bits amount parts away
away_is p number k c amount parts u d mode bits away one some low high covers reached e a is =
    let q : ℕ = number / 2 ^ k in
    let r : ℕ = number % 2 ^ k in
    let w : ℕ = parts * 2 ^ u in
    let fits = cut_fits p number q 125 k c u d high covers e refl in
    let full = cut_full p number q 125 k c u d one (λ _. low) reached e refl in
    let here : point p (index_of p q c) ≡ q * 2 ^ c = at_index p q c one fits full in
    let next : point p (index_of p q c + 1) ≡ (q + 1) * 2 ^ c = at_next p q c one fits full in
    let below : ℕ = point p (index_of p q c) * parts in
    let above : ℕ = point p (index_of p q c + 1) * parts in
    let unit : 2 ^ k * w ≡ 2 ^ c * parts * 2 ^ d = same_unit parts k u d c e in
    let sum : number ≡ q * 2 ^ k + r = sym (div-add-mod' number (2 ^ k)) in
    let all : amount * 2 ^ d ≡ (q * 2 ^ k + r) * w = a ∙ ap (λ (n : ℕ). n * w) sum in
    let rest : r < 2 ^ k = mod_below number (2 ^ k) (pow_pos k) in
    let positive : 0 < w = mul-pos some (pow_pos u) in
    let less : r * w < 2 ^ k * w = mul-lt-mul_of_pos_right rest positive in
    let at : (n : ℕ) → n * 2 ^ c * parts * 2 ^ d ≡ n * (2 ^ k * w) = λ n.
    let x : n * (2 ^ k * w) ≡ n * (2 ^ c * parts * 2 ^ d) = ap (λ (y : ℕ). n * y) unit in omega (arith, x) in
    let lower : below * 2 ^ d ≡ q * (2 ^ k * w) = ap (λ (n : ℕ). n * parts * 2 ^ d) here ∙ at q in
    let upper : above * 2 ^ d ≡ (q + 1) * (2 ^ k * w) = ap (λ (n : ℕ). n * parts * 2 ^ d) next ∙ at (q + 1) in
    let from : below ≤ amount =
    le_of_mul-le-mul_right (let l : below * 2 ^ d ≤ amount * 2 ^ d = omega (arith, all, lower) in l) (pow_pos d) in
    let to : amount < above = lt_of_mul-lt-mul_right (2 ^ d) (omega (arith, all, upper, less)) in
    let by : ℕ = amount - below in
    let to_next : ℕ = above - amount in
    let b : amount * 2 ^ d ≡ (below + by) * 2 ^ d = ap (λ (n : ℕ). n * 2 ^ d) (omega (arith, from)) in
    let f : above * 2 ^ d ≡ (below + (by + to_next)) * 2 ^ d = ap (λ (n : ℕ). n * 2 ^ d) (omega (arith, from, to)) in
    let by_is : by * 2 ^ d ≡ r * w = omega (arith, b, all, lower) in
    let both : (by + to_next) * 2 ^ d ≡ 2 ^ k * w = omega (arith, f, lower, upper) in
    let cross : by * 2 ^ k * w ≡ r * (by + to_next) * w =
    eq_of_mul-eq-mul_right (2 ^ d) (pow_pos d) (by * 2 ^ k * w) (r * (by + to_next) * w)
    (let x : by * 2 ^ d * (2 ^ k * w) ≡ r * w * ((by + to_next) * 2 ^ d) =
    ap (λ (n : ℕ). n * (2 ^ k * w)) by_is ∙ ap (λ (n : ℕ). r * w * n) (sym both) in omega (arith, x)) in
    let same = eq_of_mul-eq-mul_right w positive (by * 2 ^ k) (r * (by + to_next)) cross in
    let times : 2 ^ bits.digits * by * 2 ^ k ≡ 2 ^ bits.digits * r * (by + to_next) =
    let x : 2 ^ bits.digits * (by * 2 ^ k) ≡ 2 ^ bits.digits * (r * (by + to_next)) =
    ap (λ (n : ℕ). 2 ^ bits.digits * n) same in omega (arith, x) in
    record {
      low = index_of p q c;
      from = from;
      to = to;
      is = is (2 ^ bits.digits * by) (by + to_next) (omega (arith, from, to)) times;
    }

takes_direction : (away odd : Bool) (x y : ℕ) → takes_next (Ieee (direction away false)) false x y odd ≡ away
takes_direction true odd x y = refl
takes_direction false odd x y = refl

-- the pick of the mode that rounds to that neighbour
pub chosen : (p : ℕ) (mode : Round) (bits : RandomDigits) (amount parts index : ℕ) (away : Bool) → 0 < p → 0 < parts
    → IsAway p mode bits amount parts away → IsPointPickBy p (Ieee (direction away false)) false amount parts index
    → IsRandomPick p mode bits amount parts index
chosen p mode bits amount parts index away one some a x =
    let round = Ieee (direction away false) in
    let j : ℕ = index_between (takes_next round false) (point p) amount parts a.low in
    let z : IsCodePickBy p round false amount parts j = record { low = a.low; from = a.from; to = a.to; is = refl } in
    let y = code_pick_by p round false amount parts j one some
    (λ m c v w. takes_direction away (eqb (m % 2) 1) v w
    ∙ sym (takes_direction away (eqb (index_of p m c % 2) 1) v w)) z in
    record {
      low = a.low;
      from = a.from;
      to = a.to;
      is = point_pick_once p round false amount parts index j one x (match_both (eqb p 1) _ _ z y)
          ∙ ap (λ (b : Bool). cond (eqb (point p a.low * parts) amount) a.low (cond b (a.low + 1) a.low))
          (takes_direction away (eqb (a.low % 2) 1) (amount - point p a.low * parts)
          (point p (a.low + 1) * parts - amount) ∙ a.is);
    }
  where
    match_both : (b : Bool) (A B : Type 0) → A → B → MatchBool b A B
    match_both true A B x y = x
    match_both false A B x y = y
