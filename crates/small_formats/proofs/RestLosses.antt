-- What the loss of a cut says of the rest, and how it decides the mode.
use Rattle.std.proofs.Common.{◌≡◌, ℕ, ◌+◌, ◌-◌, ◌*◌, ◌/◌, ◌%◌, ◌^◌, ◌<◌, ◌≤◌, Bool, true, false, cond, sym, refl, ap}
use Rattle.std.proofs.Common.{◌∙◌, arith, subst, ⊎_elim, leb, not, ◌&&◌}
use Rattle.std.proofs.Math.Nat.{mul-div_cancel, mul-div-mul_right, mul-lt-mul_of_pos_right, mod-eq_of_lt}
use Rattle.std.proofs.Math.Nat.{pow-le-pow_right, div-lt_iff_lt-mul}
use Rattle.std.proofs.lemmas.Bool.{eq-eqb, ne_eqb, cases_lt, lt-leb}
use Rattle.std.proofs.lemmas.Nat.{pow-add, pow_pos, mod_below, mod-pow-add, div-mul-add}
use Rattle.apfloat_model.specs.declared.{kinds.Round.Round, loss.Loss.Loss}
use Rattle.apfloat_model.specs.declared.loss.Loss.TheVariants.{ExactlyZero, LessThanHalf, ExactlyHalf, MoreThanHalf}
use Rattle.apfloat_model.specs.rounding.{Enclosure.rounds_up, Rounding.takes_above, Standing.StandsFor}
use Rattle.apfloat_model.proofs.general.Powers.{two_pos}
use Rattle.apfloat_model.proofs.rounding.Picks.{takes_less, takes_half, takes_more}
use Rattle.small_formats.specs.{declared.modes.RandomDigits.RandomDigits, Modes.parts_above, Modes.takes_next}
use Rattle.small_formats.specs.declared.modes.ConversionRound.TheVariants.{Ieee, ToOdd, Stochastic}
use Rattle.small_formats.specs.PicksBy.{moves}

-- ---- nothing is lost exactly if the rest is 0

pub no_rest : (q s u r : ℕ) → q * u + r ≡ s → StandsFor q ExactlyZero s u → r ≡ 0
no_rest q s u r e h = omega (arith, e, h)

pub some_rest : (q s u r : ℕ) (loss : Loss) → 0 < u → q * u + r ≡ s → StandsFor q loss s u
    → (loss ≡ ExactlyZero → ⊥) → 0 < r
some_rest q s u r ExactlyZero p e h n = absurd (n refl)
some_rest q s u r LessThanHalf p e h n = let a = h.0 in omega (arith, a, e)
some_rest q s u r ExactlyHalf p e h n = omega (arith, h, e, p)
some_rest q s u r MoreThanHalf p e h n = let a = h.0 in omega (arith, a, e, p)

-- ---- the five modes

moved : (mode : Round) (negative odd : Bool) (x y : ℕ) (test : Bool) → 0 < x
    → takes_above mode negative x y odd ≡ test → test ≡ moves (Ieee mode) negative x y odd
moved mode negative odd x y test p e =
    sym (ap (λ (b : Bool). cond b false (takes_above mode negative x y odd))
    (ne_eqb x 0 (λ z. omega (arith, z, p))) ∙ e)

pub loss_moves : (mode : Round) (negative odd : Bool) (q s u r : ℕ) (loss : Loss) → 0 < u → q * u + r ≡ s → r < u
    → StandsFor q loss s u → rounds_up mode negative loss odd ≡ moves (Ieee mode) negative r (u - r) odd
loss_moves mode negative odd q s u r ExactlyZero p e l h =
    sym (ap (λ (b : Bool). cond b false (takes_above mode negative r (u - r) odd)) (eq-eqb r 0 (no_rest q s u r e h)))
loss_moves mode negative odd q s u r LessThanHalf p e l h =
    moved mode negative odd r (u - r) _ (let a = h.0 in omega (arith, a, e))
    (takes_less mode negative odd r (u - r) (omega (arith, h.1, e, l)))
loss_moves mode negative odd q s u r ExactlyHalf p e l h =
    moved mode negative odd r (u - r) _ (omega (arith, h, e, p))
    (takes_half mode negative odd r (u - r) (omega (arith, h, e, l)))
loss_moves mode negative odd q s u r MoreThanHalf p e l h =
    let a = h.0 in
    moved mode negative odd r (u - r) _ (omega (arith, a, e, p))
    (takes_more mode negative odd r (u - r) (omega (arith, a, e, l)))

-- ---- to odd

pub odd_moves : (negative odd : Bool) (q s u r : ℕ) (loss : Loss) (exact : Bool) → 0 < u → q * u + r ≡ s
    → StandsFor q loss s u → (exact ≡ true → loss ≡ ExactlyZero) → (exact ≡ false → loss ≡ ExactlyZero → ⊥)
    → (not exact && not odd) ≡ moves ToOdd negative r (u - r) odd
odd_moves negative odd q s u r loss true p e h when unless =
    let none = no_rest q s u r e (subst (λ (x : Loss). StandsFor q x s u) (when refl) h) in
    sym (ap (λ (b : Bool). cond b false (not odd)) (eq-eqb r 0 none))
odd_moves negative odd q s u r loss false p e h when unless =
    let some = some_rest q s u r loss p e h (unless refl) in
    sym (ap (λ (b : Bool). cond b false (not odd)) (ne_eqb r 0 (λ z. omega (arith, z, some))))

-- ---- random digits: the number reaches the whole with the parts of the rest

pub random_moves : (bits : RandomDigits) (negative odd : Bool) (u r share : ℕ) → r < u
    → bits.random < 2 ^ bits.digits → share ≡ 2 ^ bits.digits * r / u
    → leb (2 ^ bits.digits) (share + bits.random) ≡ moves (Stochastic bits) negative r (u - r) odd
random_moves bits negative odd u r share l fits is =
    let whole : r + (u - r) ≡ u = omega (arith, l) in
    let same : share ≡ parts_above bits.digits r (u - r) = is ∙ sym (ap (λ (n : ℕ). 2 ^ bits.digits * r / n) whole) in
    ⊎_elim
    (λ (z : r < 1).
    let none : r ≡ 0 = omega (arith, z) in
    let nothing : parts_above bits.digits r (u - r) ≡ 0 =
    ap (λ (n : ℕ). parts_above bits.digits n (u - r)) none ∙ no_parts bits.digits (u - r) (omega (arith, l, none)) in
    lt-leb (2 ^ bits.digits) (share + bits.random) (omega (arith, same, nothing, fits))
    ∙ sym (ap (λ (b : Bool). cond b false (takes_next (Stochastic bits) negative r (u - r) odd)) (eq-eqb r 0 none)))
    (λ (z : 1 ≤ r).
    ap (λ (n : ℕ). leb (2 ^ bits.digits) (n + bits.random)) same
    ∙ sym (ap (λ (b : Bool). cond b false (takes_next (Stochastic bits) negative r (u - r) odd))
    (ne_eqb r 0 (λ e. omega (arith, e, z)))))
    (cases_lt r 1)
  where
    no_parts : (digits y : ℕ) → 0 < y → parts_above digits 0 y ≡ 0
    no_parts digits y p =
        let some : 0 < 0 + y = omega (arith, p) in
        let less : parts_above digits 0 y < 1 = (div-lt_iff_lt-mul some).1 (omega (arith, p)) in
        omega (arith, less)

-- ---- random digits: the parts of the rest

-- the rest of fewer digits than are random
pub few_parts : (s places digits : ℕ) → places ≤ digits
    → 2 ^ digits * (s % 2 ^ places) / 2 ^ places ≡ s % 2 ^ places * 2 ^ (digits - places)
few_parts s places digits l =
    let r : ℕ = s % 2 ^ places in
    let e : digits ≡ digits - places + places = omega (arith, l) in
    let split : 2 ^ digits ≡ 2 ^ (digits - places) * 2 ^ places =
    ap (λ (n : ℕ). 2 ^ n) e ∙ pow-add 2 (digits - places) places in
    let top : 2 ^ digits * r ≡ r * 2 ^ (digits - places) * 2 ^ places = ap (λ (n : ℕ). n * r) split ∙ omega arith in
    ap (λ (n : ℕ). n / 2 ^ places) top ∙ mul-div_cancel (r * 2 ^ (digits - places)) (pow_pos places)

-- the rest of more digits, of which k are cut off
pub many_parts : (s k digits : ℕ) → 2 ^ digits * (s % 2 ^ (digits + k)) / 2 ^ (digits + k) ≡ s / 2 ^ k % 2 ^ digits
many_parts s k digits =
    let a : ℕ = s / 2 ^ k % 2 ^ digits in
    let b : ℕ = s % 2 ^ k in
    let low : b < 2 ^ k = mod_below s (2 ^ k) (pow_pos k) in
    let sum : s % 2 ^ (digits + k) ≡ a * 2 ^ k + b = mod-pow-add s digits k in
    let split : 2 ^ (digits + k) ≡ 2 ^ k * 2 ^ digits = pow-add 2 digits k ∙ omega arith in
    let top : 2 ^ digits * (s % 2 ^ (digits + k)) ≡ (a * 2 ^ k + b) * 2 ^ digits =
    ap (λ (n : ℕ). 2 ^ digits * n) sum ∙ omega arith in
    ap (λ (n : ℕ). n / 2 ^ (digits + k)) top ∙ ap (λ (n : ℕ). (a * 2 ^ k + b) * 2 ^ digits / n) split
    ∙ mul-div-mul_right (a * 2 ^ k + b) (2 ^ k) (pow_pos digits) ∙ div-mul-add a (2 ^ k) b low

-- the same with the digits that are cut off counted together
pub many_parts_at : (s places digits : ℕ) → digits ≤ places
    → 2 ^ digits * (s % 2 ^ places) / 2 ^ places ≡ s / 2 ^ (places - digits) % 2 ^ digits
many_parts_at s places digits l =
    let k : ℕ = places - digits in
    let e : places ≡ digits + k = omega (arith, l) in
    ap (λ (n : ℕ). 2 ^ digits * (s % 2 ^ n) / 2 ^ n) e ∙ many_parts s k digits

-- few digits of a rest, moved up, stay below 2 ^ 32, so that no machine word cuts them
pub few_fit : (s places digits : ℕ) → places ≤ digits → s % 2 ^ places * 2 ^ (digits - places) < 2 ^ digits
few_fit s places digits l =
    let r : s % 2 ^ places < 2 ^ places = mod_below s (2 ^ places) (pow_pos places) in
    let e : digits ≡ places + (digits - places) = omega (arith, l) in
    let split : 2 ^ digits ≡ 2 ^ places * 2 ^ (digits - places) =
    ap (λ (n : ℕ). 2 ^ n) e ∙ pow-add 2 places (digits - places) in
    omega (arith, mul-lt-mul_of_pos_right r (pow_pos (digits - places)), split)

pub few_below : (s places digits rest : ℕ) → digits ≤ 32 → places ≤ digits → rest ≡ s % 2 ^ places
    → rest * 2 ^ (digits - places) % 2 ^ 64 ≡ s % 2 ^ places * 2 ^ (digits - places)
few_below s places digits rest few l is =
    let short : digits ≤ 64 = omega (arith, few) in
    let top : 2 ^ digits ≤ 2 ^ 64 = pow-le-pow_right two_pos short in
    let same : rest * 2 ^ (digits - places) ≡ s % 2 ^ places * 2 ^ (digits - places) =
    ap (λ (n : ℕ). n * 2 ^ (digits - places)) is in
    ap (λ (n : ℕ). n % 2 ^ 64) same ∙ mod-eq_of_lt (omega (arith, few_fit s places digits l, top))
