use Rattle.std.proofs.Common.{◌≡◌, ℕ, ◌/◌, ◌%◌, ◌^◌, ap, ◌∙◌, arith, length-set}
use Rattle.apfloat_arrays.specs.{Blocks.value_at, Bytes.number_of}
use Rattle.apfloat_arrays.proofs.Items.{set_says}
use Rattle.apfloat_arrays.proofs.singles.PlanBlockPlan.read_halves.Goals as goal

pub loop-index-init : goal.loop-index-init
loop-index-init g c = record {
  size = c.told-uppers;
  lower_size = c.told-lowers;
  upper = λ k none. absurd (omega (arith, none));
  lower = λ k none. absurd (omega (arith, none));
}

pub loop-index-preserved : goal.loop-index-preserved
loop-index-preserved g c =
    let uppers = c.loop-index.uppers in
    let lowers = c.loop-index.lowers in
    let bytes = c.args.bytes.now in
    let index = c.loop-index.index in
    let size = c.loop-index.invariant.size in
    let lower_size = c.loop-index.invariant.lower_size in
    record {
      size = length-set uppers index (c.word_of-word.result / 2 ^ 16) ∙ size;
      lower_size = length-set lowers index (c.word_of-word.result % 2 ^ 16) ∙ lower_size;
      upper = λ k before.
          set_says (λ n half. half ≡ number_of (value_at 4 n bytes) / 2 ^ 16) uppers index
          (c.word_of-word.result / 2 ^ 16)
          (omega (arith, size, c.loop-index-test.true)) (ap (λ (n : ℕ). n / 2 ^ 16) c.word_of-word.ensures) k
          (λ other. c.loop-index.invariant.upper k (omega (arith, before, other)));
      lower = λ k before.
          set_says (λ n half. half ≡ number_of (value_at 4 n bytes) % 2 ^ 16) lowers index
          (c.word_of-word.result % 2 ^ 16)
          (omega (arith, lower_size, c.loop-index-test.true)) (ap (λ (n : ℕ). n % 2 ^ 16) c.word_of-word.ensures) k
          (λ other. c.loop-index.invariant.lower k (omega (arith, before, other)));
    }

pub returns : goal.returns
returns g c =
    λ k before. (
      c.loop-index.invariant.upper k (omega (arith, before, c.loop-index-test.false)),
      c.loop-index.invariant.lower k (omega (arith, before, c.loop-index-test.false)),
    )
