use Rattle.std.proofs.Common.{◌≡◌, ℕ, ◌*◌, ◌%◌, ◌^◌, ◌<◌, ◌∙◌, ap, sym, arith}
use Rattle.std.proofs.Math.Nat.{mod-eq_of_lt}
use Rattle.apfloat_decimals.proofs.{digits.FoundDigits.ten_most, numbers.DecimalPowers.ten_split}
use Rattle.apfloat_decimals.proofs.formatting.power_of_ten.Goals as goal

-- a power of ten of one word is the power of five, moved up
moved : (places five : ℕ) → places < 19 → five ≡ 5 ^ places → five * 2 ^ places % 2 ^ 64 ≡ 10 ^ places
moved places five few is =
    let ten : five * 2 ^ places ≡ 10 ^ places = ap (λ (k : ℕ). k * 2 ^ places) is ∙ sym (ten_split places) in
    let most = ten_most places 18 (omega (arith, few)) in
    let fits : 10 ^ places < 2 ^ 64 = omega (arith, most) in
    ap (λ (k : ℕ). k % 2 ^ 64) ten ∙ mod-eq_of_lt fits

pub returns : goal.returns
returns c = moved c.args.places c.small_power.result (omega arith) c.small_power.ensures
