-- With two digits or more, the odd code has the odd significand.
use Rattle.std.proofs.Common.{◌≡◌, ℕ, ◌+◌, ◌-◌, ◌*◌, ◌%◌, ◌^◌, ◌<◌, ◌≤◌, Bool, false, cond, eqb, sym, refl, ap, ◌∙◌}
use Rattle.std.proofs.{Common.subst, Common.arith, Math.Nat.add-mul-mod_self_right}
use Rattle.apfloat_model.specs.rounding.Enclosure.{IsEnclosed}
use Rattle.apfloat_model.proofs.general.Powers.{twice_half}
use Rattle.small_formats.specs.{declared.modes.ConversionRound.ConversionRound, Codes.index_of, Codes.point}
use Rattle.small_formats.specs.{Modes.IsPickBy, Modes.takes_next, PicksBy.IsCodePickBy, PicksBy.moves}
use Rattle.small_formats.proofs.{ModePicks.index_is, ModePicks.picked_between, Points.HasForm, Points.at_index}
use Rattle.small_formats.proofs.{Points.at_next, Points.form_of, StoredPicks.moved_point}

-- the last digit of a significand is that of the index of its point
last_digit : (p m c : ℕ) → 2 ≤ p → index_of p m c % 2 ≡ m % 2
last_digit p m c two =
    let double : 2 * 2 ^ (p - 1 - 1) ≡ 2 ^ (p - 1) = twice_half (p - 1) (omega (arith, two)) in
    let even : m + c * 2 ^ (p - 1) ≡ m + c * 2 ^ (p - 1 - 1) * 2 =
    ap (λ (n : ℕ). m + c * n) (sym double) ∙ omega arith in
    ap (λ (n : ℕ). n % 2) even ∙ add-mul-mod_self_right m (c * 2 ^ (p - 1 - 1)) 2

-- ---- the points of a code and of the next one

pub form_point : (p low : ℕ) → 0 < p → (f : HasForm p low) → point p low ≡ f.m * 2 ^ f.c
form_point p low one f = ap (λ (n : ℕ). point p n) f.is ∙ at_index p f.m f.c one f.fits f.full

pub form_next : (p low : ℕ) → 0 < p → (f : HasForm p low) → point p (low + 1) ≡ (f.m + 1) * 2 ^ f.c
form_next p low one f = ap (λ (n : ℕ). point p (n + 1)) f.is ∙ at_next p f.m f.c one f.fits f.full

pub form_encloses : (p low amount parts : ℕ) → 0 < p → (f : HasForm p low) → point p low * parts ≤ amount
    → amount < point p (low + 1) * parts → IsEnclosed p (2 ^ (p - 1)) f.m f.c amount parts
form_encloses p low amount parts one f from to =
    let at : point p low * parts ≡ f.m * 2 ^ f.c * parts = ap (λ (n : ℕ). n * parts) (form_point p low one f) in
    let next : point p (low + 1) * parts ≡ (f.m + 1) * 2 ^ f.c * parts =
    ap (λ (n : ℕ). n * parts) (form_next p low one f) in
    record {
      double = sym (twice_half p one);
      fits = f.fits;
      full = f.full;
      from = omega (arith, from, at);
      to = omega (arith, to, next);
    }

-- ---- the pick

-- a pick by the last digit of the code is one by that of the significand, if the mode decides alike by both
pub code_pick_by : (p : ℕ) (mode : ConversionRound) (negative : Bool) (amount parts index : ℕ)
    → 0 < p → 0 < parts → ((m c x y : ℕ)
    → takes_next mode negative x y (eqb (m % 2) 1) ≡ takes_next mode negative x y (eqb (index_of p m c % 2) 1))
    → IsCodePickBy p mode negative amount parts index → IsPickBy p mode negative amount parts (point p index)
code_pick_by p mode negative amount parts index one some alike x =
    let f = form_of p x.low one in
    let next = form_next p x.low one f in
    let by : ℕ = amount - f.m * 2 ^ f.c * parts in
    let to : ℕ = (f.m + 1) * 2 ^ f.c * parts - amount in
    let moved : Bool = moves mode negative by to (eqb (f.m % 2) 1) in
    let odd : Bool = eqb (x.low % 2) 1 in
    let enclosed = form_encloses p x.low amount parts one f x.from x.to in
    let same : moved ≡ moves mode negative (amount - point p x.low * parts) (point p (x.low + 1) * parts - amount) odd =
    ap (λ (b : Bool). cond (eqb by 0) false b) (alike f.m f.c by to)
    ∙ ap (λ (n : ℕ). moves mode negative by to (eqb (n % 2) 1)) (sym f.is)
    ∙ ap (λ (n : ℕ). moves mode negative (amount - n * parts) to odd) (sym (form_point p x.low one f))
    ∙ ap (λ (n : ℕ). moves mode negative (amount - point p x.low * parts) (n * parts - amount) odd) (sym next) in
    let is = x.is ∙ sym (index_is p mode negative amount parts x.low moved x.from same) in
    let point_is : point p index ≡ cond moved (f.m + 1) f.m * 2 ^ f.c = ap (λ (n : ℕ). point p n) is
    ∙ ap (λ (n : ℕ). point p (cond moved (n + 1) n)) f.is ∙ moved_point p f.m f.c one f.fits f.full moved in
    subst (λ (n : ℕ). IsPickBy p mode negative amount parts n) (sym point_is)
    (picked_between p mode negative (2 ^ (p - 1)) f.m f.c amount parts moved some enclosed refl)

pub code_picks_by : (p : ℕ) (mode : ConversionRound) (negative : Bool) (amount parts index : ℕ) → 2 ≤ p → 0 < parts
    → IsCodePickBy p mode negative amount parts index → IsPickBy p mode negative amount parts (point p index)
code_picks_by p mode negative amount parts index two some x =
    code_pick_by p mode negative amount parts index (omega (arith, two)) some
    (λ m c by to. ap (λ (n : ℕ). takes_next mode negative by to (eqb n 1)) (sym (last_digit p m c two))) x
