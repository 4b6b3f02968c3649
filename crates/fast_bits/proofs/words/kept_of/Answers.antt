use Rattle.std.proofs.Common.{◌≡◌, ℕ, ◌+◌, ◌/◌, ◌^◌, ◌<◌, ◌≤◌, arith}
use Rattle.std.proofs.{Math.Nat.pow-le-pow_right, lemmas.Nat.and_le_r, lemmas.Nat.div_below, lemmas.Nat.pow_pos}
use Rattle.std.specs.Int.RustNames.{bit_and}
use Rattle.apfloat_model.proofs.general.Powers.{two_pos}
use Rattle.fast_bits.proofs.words.kept_of.Goals as goal

-- the bound of what is kept
kept_most : (digits always if_odd low : ℕ) → 32 ≤ low → digits < 2 ^ 56 → always < 2 ^ low → if_odd ≤ 1
    → (digits + (always + bit_and (digits / 2 ^ low) if_odd)) / 2 ^ low < 2 ^ 24 + 2
kept_most digits always if_odd low wide few below one =
    let unit : 2 ^ 32 ≤ 2 ^ low = pow-le-pow_right two_pos wide in
    div_below (digits + (always + bit_and (digits / 2 ^ low) if_odd)) (2 ^ low) (2 ^ 24 + 2) (pow_pos low)
    (omega (arith, unit, and_le_r (digits / 2 ^ low) if_odd, few, below, one))

pub overflow_cast-result-2 : goal.overflow_cast-result-2
overflow_cast-result-2 c =
    let most = kept_most c.args.digits c.args.addend.always c.args.addend.if_odd c.args.low c.requires.some
    c.requires.digits c.requires.always c.requires.one in
    omega (arith, most)

pub returns-clause-below : goal.returns-clause-below
returns-clause-below c =
    let most = kept_most c.args.digits c.args.addend.always c.args.addend.if_odd c.args.low c.requires.some
    c.requires.digits c.requires.always c.requires.one in
    omega (arith, most)
