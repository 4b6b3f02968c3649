use Rattle.std.proofs.Common.{◌≡◌, ℕ, ◌^◌, ap, ◌∙◌, arith, length-set}
use Rattle.apfloat_model.specs.rounding.RoundingToOdd.{odd_quotient}
use Rattle.apfloat_arrays.specs.{Blocks.value_at, Bytes.number_of}
use Rattle.apfloat_arrays.proofs.Items.{set_says}
use Rattle.apfloat_arrays.proofs.short_singles.ShortPlanBlockPlan.read_halves.Goals as goal

pub loop-index-init : goal.loop-index-init
loop-index-init g c = record { size = c.told-uppers; each = λ k none. absurd (omega (arith, none)) }

pub loop-index-preserved : goal.loop-index-preserved
loop-index-preserved g c =
    let halves = c.loop-index.uppers in
    let bytes = c.args.bytes.now in
    let index = c.loop-index.index in
    let size = c.loop-index.invariant.size in
    record {
      size = length-set halves index c.upper_half.result ∙ size;
      each = λ k before.
          set_says (λ n half. half ≡ odd_quotient (number_of (value_at 4 n bytes)) (2 ^ 16)) halves index
          c.upper_half.result (omega (arith, size, c.loop-index-test.true))
          (c.upper_half.ensures ∙ ap (λ (n : ℕ). odd_quotient n (2 ^ 16)) c.word_of.ensures) k
          (λ other. c.loop-index.invariant.each k (omega (arith, before, other)));
    }

pub returns : goal.returns
returns g c = λ k before. c.loop-index.invariant.each k (omega (arith, before, c.loop-index-test.false))
