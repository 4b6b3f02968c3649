-- Facts about cuts for which no digit below them is needed.
use Rattle.std.proofs.Common.{◌≡◌, ℕ, ◌+◌, ◌-◌, ◌*◌, ◌/◌, ◌^◌, ◌<◌, ◌≤◌, ◌⊎◌, true, not, eqb, sym, ap, ◌∙◌, subst}
use Rattle.std.proofs.{Common.⊎_elim, Common.arith, lemmas.Bool.cases_lt, lemmas.Bool.eq-eqb}
use Rattle.apfloat_model.specs.declared.loss.Loss.{Loss, TheVariants.ExactlyZero}
use Rattle.apfloat_model.specs.rounding.{Enclosure.IsEnclosed, Standing.StandsFor}
use Rattle.apfloat_model.proofs.general.Powers.{twice_half}
use Rattle.apfloat_rounding.specs.{Cuts.IsCutFinely, declared.rounding.Cut.Cut}

-- a cut that keeps all digits is fine, since it is not just below the smallest normalized value
pub all_kept : (precision : ℕ) (cut : Cut) (amount parts : ℕ) → 2 ^ (precision - 1) ≤ cut.significand
    → IsCutFinely precision cut amount parts
all_kept precision cut amount parts f = λ e m. absurd (omega (arith, f, e))

-- the significand just below the smallest normalized value is kept at the quantum
pub at_quantum : (precision m place : ℕ) → (place ≡ 0) ⊎ (2 ^ (precision - 1) ≤ m) → m + 1 ≡ 2 ^ (precision - 1)
    → place ≡ 0
at_quantum precision m place f e = ⊎_elim (λ z. z) (λ l. absurd (omega (arith, l, e))) f

-- a number below half of a power of two is below that power
pub below_whole : (precision m : ℕ) → 3 ≤ precision → m < 2 ^ (precision - 1) → m < 2 ^ precision
below_whole precision m p l =
    let t : 2 * 2 ^ (precision - 1) ≡ 2 ^ precision = twice_half precision (omega (arith, p)) in
    omega (arith, l, t)

-- a number divided by 2 ^ 0 is itself
pub div_one : (n : ℕ) → n / 2 ^ 0 ≡ n
div_one n = omega arith

-- with nothing lost, the kept significand is exact
pub as_exact : (precision s place : ℕ) (loss : Loss) (amount parts : ℕ) → loss ≡ ExactlyZero
    → IsEnclosed precision (2 ^ (precision - 1)) s place amount parts × StandsFor s loss amount (2 ^ place * parts)
    → IsEnclosed precision (2 ^ (precision - 1)) s place amount parts
    × StandsFor s ExactlyZero amount (2 ^ place * parts)
as_exact precision s place loss amount parts z h =
    (h.0, subst (λ (x : Loss). StandsFor s x amount (2 ^ place * parts)) z h.1)

-- a number that is at most another one, and different from it, is below it
pub below_last : (a b : ℕ) → not (eqb a b) ≡ true → a ≤ b → a < b
below_last a b e l =
    ⊎_elim
    (λ (k : a < b). k)
    (λ (k : b ≤ a).
    let z : eqb a b ≡ true = eq-eqb a b (omega (arith, l, k)) in
    let y = ap not z in
    let x = sym y ∙ e in cc)
    (cases_lt a b)
