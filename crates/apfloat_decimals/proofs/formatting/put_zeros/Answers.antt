use Rattle.std.proofs.Common.{◌≡◌, ℕ, ◌+◌, ◌-◌, ◌≤◌, ◌∙◌, slice_index, arith, rules}
use Rattle.std.proofs.lemmas.{Grind.common_steps, List.length-replicate}
use borrow.Rule.Slice.PartMut.{put_mid}
use Rattle.apfloat_decimals.proofs.formatting.put_zeros.Goals as goal

pub returns : goal.returns
returns c =
    let same : (i : ℕ) → c.args.at + c.args.count ≤ i
    → slice_index (put_mid c.args.at (c.args.at + c.args.count - c.args.at) c.args.bytes.now c.fill.new.self) i
    ≡ slice_index c.args.bytes.now i = first_of (search rules, grind (arith, common_steps)) in
    record {
      taken = first_of (search rules, grind (arith, common_steps));
      moved = omega (arith, length-replicate {A = ℕ} c.args.count 48);
      zeros = λ i l. same i l ∙ c.requires.zeros i (omega (arith, l));
    }
