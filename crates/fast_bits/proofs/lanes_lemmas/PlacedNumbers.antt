-- A number and its place, rounded apart.
use Rattle.std.proofs.Common.{◌≡◌, ℕ, ◌+◌, ◌-◌, ◌*◌, ◌/◌, ◌%◌, ◌^◌, ◌≤◌, Bool, true, false, cond, eqb, sym, ap, ◌∙◌}
use Rattle.std.proofs.Common.{arith}
use Rattle.apfloat_model.specs.{declared.kinds.Round.Round, rounding.Enclosure.rounds_up}
use Rattle.apfloat_model.proofs.general.Powers.{twice_half}
use Rattle.apfloat_rounding.specs.Cuts.{loss_at}
use Rattle.fast_bits.specs.Addends.{rounded_by}
use Rattle.fast_bits.proofs.lanes_lemmas.ScaledNumbers.{sum_cut}

moved_apart : (up : Bool) (base kept : ℕ) → cond up (base + kept + 1) (base + kept) ≡ cond up (kept + 1) kept + base
moved_apart true base kept = omega arith
moved_apart false base kept = omega arith

-- a place adds an even number to what is kept, so that ties go the same way
pub placed_rounded : (precision low : ℕ) (mode : Round) (negative : Bool) (s place : ℕ) → 3 ≤ precision
    → rounded_by low mode negative (s + place * 2 ^ (precision - 1 + low))
    ≡ rounded_by low mode negative s + place * 2 ^ (precision - 1)
placed_rounded precision low mode negative s place precise =
    let cut = sum_cut s low precision place in
    let base = place * 2 ^ (precision - 1) in
    let kept = s / 2 ^ low in
    let twice : 2 * 2 ^ (precision - 2) ≡ 2 ^ (precision - 1) =
    let places : precision - 1 - 1 ≡ precision - 2 = omega arith in
    ap (λ (x : ℕ). 2 * 2 ^ x) (sym places) ∙ twice_half (precision - 1) (omega (arith, precise)) in
    let even : place * 2 ^ (precision - 1) ≡ 2 * (place * 2 ^ (precision - 2)) =
    ap (λ (x : ℕ). place * x) (sym twice) ∙ omega arith in
    let parity : (place * 2 ^ (precision - 1) + s / 2 ^ low) % 2 ≡ s / 2 ^ low % 2 = omega (arith, even) in
    let up = rounds_up mode negative (loss_at (s % 2 ^ low) (2 ^ (low - 1))) (eqb (s / 2 ^ low % 2) 1) in
    (λ i. cond (rounds_up mode negative (loss_at (cut.1 i) (2 ^ (low - 1))) (eqb (cut.0 i % 2) 1)) (cut.0 i + 1)
    (cut.0 i))
    ∙ ap (λ (n : ℕ). cond (rounds_up mode negative (loss_at (s % 2 ^ low) (2 ^ (low - 1))) (eqb n 1))
    (base + kept + 1)
    (base + kept)) parity ∙ moved_apart up base kept
