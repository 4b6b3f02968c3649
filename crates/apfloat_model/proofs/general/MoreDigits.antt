-- A number with one more digit appended, in any base.
use Rattle.std.proofs.Common.{◌≡◌, ℕ, ◌+◌, ◌*◌, ◌^◌, ◌<◌, ◌≤◌, suc, ap, ◌∙◌, arith}
use Rattle.std.proofs.Math.Nat.{mul-le-mul_right, pow-le-pow_right, pow-suc}

-- a number below a power of the base is below the next power with one digit more
pub digit_more : (base number digit place : ℕ) → number < base ^ place → digit < base
    → number * base + digit < base ^ (place + 1)
digit_more base number digit place small less =
    let power : base ^ (place + 1) ≡ base ^ place * base =
    ap (λ (k : ℕ). base ^ k) (let next : place + 1 ≡ suc place = omega arith in next) ∙ pow-suc base place in
    let next : (number + 1) * base ≤ base ^ place * base = mul-le-mul_right base (omega arith) in
    omega arith

-- a number with one digit more is below each power of at least that many digits
pub digit_fits : (base number digit place most : ℕ) → number < base ^ place → digit < base → place < most
    → number * base + digit < base ^ most
digit_fits base number digit place most small less within =
    let more = digit_more base number digit place small less in
    let some : 0 < base = omega arith in
    let all : base ^ (place + 1) ≤ base ^ most = pow-le-pow_right some (omega arith) in
    omega arith
