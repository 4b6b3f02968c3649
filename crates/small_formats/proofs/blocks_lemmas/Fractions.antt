-- A quotient by a divisor that is given as a fraction.
use Rattle.std.proofs.Common.{◌≡◌, ℕ, ◌+◌, ◌*◌, ◌^◌, sym, ap, ◌∙◌, arith}
use Rattle.std.proofs.lemmas.Nat.{pow-add}

-- x quanta over y quanta of 2 ^ -other, in quanta of 2 ^ -into; y is divisor / unit of the number 1
pub element_fraction : (x y into other scale divisor unit : ℕ) → divisor * 2 ^ other ≡ y * unit
    → x * 2 ^ into * unit * (y * 2 ^ scale) ≡ 2 ^ scale * divisor * (x * 2 ^ (other + into))
element_fraction x y into other scale divisor unit e =
    let power : 2 ^ (other + into) ≡ 2 ^ other * 2 ^ into = pow-add 2 other into in
    let left : x * 2 ^ into * unit * (y * 2 ^ scale) ≡ x * 2 ^ into * 2 ^ scale * (y * unit) = omega arith in
    let right : x * 2 ^ into * 2 ^ scale * (divisor * 2 ^ other) ≡ 2 ^ scale * divisor * (x * (2 ^ other * 2 ^ into)) =
    omega arith in
    left ∙ ap (λ (n : ℕ). x * 2 ^ into * 2 ^ scale * n) (sym e) ∙ right
    ∙ ap (λ (n : ℕ). 2 ^ scale * divisor * (x * n)) (sym power)
