-- What a loss states, and what a cut loses.
use Rattle.std.proofs.Common.{◌≡◌, ℕ, ◌+◌, ◌-◌, ◌*◌, ◌/◌, ◌%◌, ◌^◌, ◌<◌, ◌≤◌, ◌⊎◌, sym, refl, ap, ◌∙◌, subst, inl, inr}
use Rattle.std.proofs.{Common.⊎_elim, Common.arith, Math.Nat.mul-le-mul_right, Math.Nat.pow-le-pow_right}
use Rattle.std.proofs.{Math.Nat.div-eq_of_lt, Math.Nat.mod-eq_of_lt, Math.Nat.div-add-mod', lemmas.Nat.pow_below}
use Rattle.apfloat_model.proofs.general.Powers.{two_pos, twice_half}
use Rattle.apfloat_model.specs.declared.loss.Loss.{Loss}
use Rattle.apfloat_model.specs.declared.loss.Loss.TheVariants.{ExactlyZero, LessThanHalf, ExactlyHalf, MoreThanHalf}
use Rattle.apfloat_model.specs.rounding.Standing.{StandsFor}

-- the amount is not below what the significand represents
pub stands_from : (s : ℕ) (loss : Loss) (amount unit : ℕ) → StandsFor s loss amount unit → s * unit ≤ amount
stands_from s ExactlyZero amount unit h = omega (arith, h)
stands_from s LessThanHalf amount unit h = let a = h.0 in omega (arith, a)
stands_from s ExactlyHalf amount unit h = omega (arith, h)
stands_from s MoreThanHalf amount unit h = let a = h.0 in omega (arith, a)

-- the amount is below what the next significand would represent
pub stands_to : (s : ℕ) (loss : Loss) (amount unit : ℕ) → 0 < unit → StandsFor s loss amount unit
    → amount < (s + 1) * unit
stands_to s ExactlyZero amount unit u h = omega (arith, h)
stands_to s LessThanHalf amount unit u h = let a = h.1 in omega (arith, a)
stands_to s ExactlyHalf amount unit u h = omega (arith, h)
stands_to s MoreThanHalf amount unit u h = let a = h.1 in omega (arith, a)

-- if something was lost, the amount is above what the significand represents
pub stands_past : (s : ℕ) (loss : Loss) (amount unit : ℕ) → 0 < unit → (loss ≡ ExactlyZero → ⊥)
    → StandsFor s loss amount unit → s * unit < amount
stands_past s ExactlyZero amount unit u n h = absurd (n refl)
stands_past s LessThanHalf amount unit u n h = h.0
stands_past s ExactlyHalf amount unit u n h = omega (arith, h)
stands_past s MoreThanHalf amount unit u n h = let a = h.0 in omega (arith, a)

-- a point below the significand, or equal to it if something was lost, is below the amount
stands_above : (point s : ℕ) (loss : Loss) (amount unit : ℕ) → 0 < unit
    → (point < s) ⊎ ((loss ≡ ExactlyZero → ⊥) × (point ≤ s)) → StandsFor s loss amount unit → point * unit < amount
stands_above point s loss amount unit u (inl l) h =
    let a : s * unit ≤ amount = stands_from s loss amount unit h in
    let l' : point + 1 ≤ s = omega (arith, l) in
    let k : (point + 1) * unit ≤ s * unit = mul-le-mul_right unit l' in
    omega arith
stands_above point s loss amount unit u (inr n) h =
    let a : s * unit < amount = stands_past s loss amount unit u n.0 h in
    let k : point * unit ≤ s * unit = mul-le-mul_right unit n.1 in
    omega arith

-- a point above the significand is above the amount
stands_below : (point s : ℕ) (loss : Loss) (amount unit : ℕ) → 0 < unit → s < point → StandsFor s loss amount unit
    → amount < point * unit
stands_below point s loss amount unit u l h =
    let b : amount < (s + 1) * unit = stands_to s loss amount unit u h in
    let l' : s + 1 ≤ point = omega (arith, l) in
    let k : (s + 1) * unit ≤ point * unit = mul-le-mul_right unit l' in
    omega arith

-- a rest below half, with what was lost before, is a loss of less than half
pub cut_less : (q half rest : ℕ) (loss : Loss) (amount unit : ℕ) → 0 < unit → rest < half
    → (0 < rest) ⊎ (loss ≡ ExactlyZero → ⊥) → StandsFor (q * (2 * half) + rest) loss amount unit
    → StandsFor q LessThanHalf amount (2 * half * unit)
cut_less q half rest loss amount unit u l n h =
    let a : q * (2 * half) * unit < amount = stands_above (q * (2 * half)) _ loss amount unit u
    (⊎_elim (λ r. inl (omega (arith, r))) (λ z. inr (z, omega arith)) n) h in
    let b : amount < (q * (2 * half) + half) * unit =
    stands_below (q * (2 * half) + half) _ loss amount unit u (omega arith) h in
    (omega arith, omega arith)

-- a rest above half, or of half with something lost before, is a loss of more than half
pub cut_more : (q half rest : ℕ) (loss : Loss) (amount unit : ℕ) → 0 < unit → rest < 2 * half
    → (half < rest) ⊎ ((loss ≡ ExactlyZero → ⊥) × (half ≤ rest))
    → StandsFor (q * (2 * half) + rest) loss amount unit → StandsFor q MoreThanHalf amount (2 * half * unit)
cut_more q half rest loss amount unit u l n h =
    let a : (q * (2 * half) + half) * unit < amount =
    stands_above (q * (2 * half) + half) _ loss amount unit u
    (⊎_elim (λ r. inl (omega (arith, r))) (λ z. let r = z.1 in inr (z.0, omega (arith, r))) n) h in
    let b : amount < (q * (2 * half) + 2 * half) * unit =
    stands_below (q * (2 * half) + 2 * half) _ loss amount unit u (omega arith) h in
    (omega arith, omega arith)

-- a cut of `places` digits, from what is stated of the rest
pub cut_at : (s places half rest : ℕ) (loss answer : Loss) → 0 < places → half ≡ 2 ^ (places - 1)
    → rest ≡ s % 2 ^ places → ((q amount unit : ℕ) → 0 < unit → StandsFor (q * (2 * half) + rest) loss amount unit
    → StandsFor q answer amount (2 * half * unit)) → (amount unit : ℕ) → 0 < unit → StandsFor s loss amount unit
    → StandsFor (s / 2 ^ places) answer amount (2 ^ places * unit)
cut_at s places half rest loss answer p hw rest_is f amount unit u h =
    let t : 2 * 2 ^ (places - 1) ≡ 2 ^ places = twice_half places p in
    let e : 2 * half ≡ 2 ^ places = omega arith in
    let v : s / 2 ^ places * (2 * half) + rest ≡ s / 2 ^ places * 2 ^ places + s % 2 ^ places =
    ap (λ (x : ℕ). s / 2 ^ places * x + rest) e ∙ ap (λ (x : ℕ). s / 2 ^ places * 2 ^ places + x) rest_is in
    let g : StandsFor (s / 2 ^ places * (2 * half) + rest) loss amount unit =
    subst (λ (x : ℕ). StandsFor x loss amount unit) (sym (v ∙ div-add-mod' s (2 ^ places))) h in
    subst (λ (x : ℕ). StandsFor (s / 2 ^ places) answer amount (x * unit)) e (f (s / 2 ^ places) amount unit u g)

-- a cut of all digits leaves 0
cut_to_zero : (s places half : ℕ) (loss answer : Loss) → 0 < places → s < 2 ^ places → half ≡ 2 ^ (places - 1)
    → ((q amount unit : ℕ) → 0 < unit → StandsFor (q * (2 * half) + s) loss amount unit
    → StandsFor q answer amount (2 * half * unit))
    → (amount unit : ℕ) → 0 < unit → StandsFor s loss amount unit → StandsFor 0 answer amount (2 ^ places * unit)
cut_to_zero s places half loss answer p b hw f amount unit u h =
    subst (λ (x : ℕ). StandsFor x answer amount (2 ^ places * unit)) (div-eq_of_lt b)
    (cut_at s places half s loss answer p hw (sym (mod-eq_of_lt b)) f amount unit u h)

-- a cut of all 128 digits of the word leaves 0
pub cut_whole : (s places half : ℕ) (loss answer : Loss) → places ≡ 128 → s < 2 ^ 128 → half ≡ 2 ^ (places - 1)
    → ((q amount unit : ℕ) → 0 < unit → StandsFor (q * (2 * half) + s) loss amount unit
    → StandsFor q answer amount (2 * half * unit))
    → (amount unit : ℕ) → 0 < unit → StandsFor s loss amount unit → StandsFor 0 answer amount (2 ^ places * unit)
cut_whole s places half loss answer p b =
    cut_to_zero s places half loss answer (omega arith) (subst (λ (x : ℕ). s < 2 ^ x) (sym p) b)

-- a cut of more than 128 digits leaves 0, with a loss of less than half
pub cut_all : (s places : ℕ) (loss : Loss) (amount unit : ℕ) → 128 < places → s < 2 ^ 128 → 0 < unit
    → (0 < s) ⊎ (loss ≡ ExactlyZero → ⊥) → StandsFor s loss amount unit
    → StandsFor 0 LessThanHalf amount (2 ^ places * unit)
cut_all s places loss amount unit l b u n h =
    let p : 0 < places = omega arith in
    let m : 128 ≤ places - 1 = omega arith in
    let k : 2 ^ 128 ≤ 2 ^ (places - 1) = pow-le-pow_right two_pos m in
    let t = twice_half places p in
    let s' : s < 2 ^ (places - 1) = omega arith in
    cut_to_zero s places (2 ^ (places - 1)) loss LessThanHalf p (omega arith) refl
    (λ q a w v g. cut_less q (2 ^ (places - 1)) s loss a w v s' n g) amount unit u h

-- a machine word is 0 once more digits are cut off than it has
pub zero_beyond : (s places : ℕ) → 128 < places → s < 2 ^ 128 → 0 ≡ s / 2 ^ places
zero_beyond s places l b =
    let k : 2 ^ 128 < 2 ^ places = pow_below 128 places l in
    let b' : s < 2 ^ places = omega arith in
    sym (div-eq_of_lt b')
