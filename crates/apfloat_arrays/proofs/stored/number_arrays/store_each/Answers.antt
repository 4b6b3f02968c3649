use Rattle.std.proofs.Common.{◌≡◌, ℕ, ◌/◌, refl, ◌∙◌, arith}
use Rattle.std.proofs.Math.Path.{subst₂}
use Rattle.rustc_apfloat.specs.{declared.Round.Round, Types.constants_of}
use Rattle.apfloat_arrays.specs.{Blocks.IsBlock, stored.Arrays.IsStoredIn}
use Rattle.apfloat_arrays.proofs.stored.number_arrays.store_each.Goals as goal

pub convert_each-requires-clause-can : goal.convert_each-requires-clause-can
convert_each-requires-clause-can g c =
    record {
      read = c.requires.given.read;
      format = c.requires.format;
      word = c.requires.source;
      low = c.word_plan.ensures.low ∙ c.digits_below.ensures.is;
      whole = omega (arith, c.requires.width, c.BITS.ensures);
      one = refl;
    }

pub returns : goal.returns
returns g c =
    let call = c.args.call in
    let width : c.BITS.result / 8 ≡ c.args.call.width = omega (arith, c.requires.width, c.BITS.ensures) in
    subst₂
    (λ (mode : Round) (n : ℕ). IsBlock (IsStoredIn call.overflow (constants_of g.S.Semantics) call.target mode) n 1
    call.count call.input.now c.convert_each.new.output c.convert_each.result)
    c.word_plan.ensures.round width c.convert_each.ensures
