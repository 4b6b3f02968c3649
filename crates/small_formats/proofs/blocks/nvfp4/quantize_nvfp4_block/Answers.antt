use Rattle.std.proofs.Common.{refl, sym, ◌∙◌}
use Rattle.std.proofs.lemmas.Bool.{eq-eqb, ne_eqb}
use Rattle.small_formats.proofs.blocks.nvfp4.quantize_nvfp4_block.Goals as goal

pub returns-then-is_empty : goal.returns-then-is_empty
returns-then-is_empty g c = rw (sym c.is_empty.ensures ∙ c.if-is_empty.true) (refl, refl)

pub returns-then-codes-values : goal.returns-then-codes-values
returns-then-codes-values g c =
    rw (sym c.is_empty.ensures ∙ c.if-is_empty.false, ne_eqb _ _ c.if-codes-values.true) (refl, refl)

pub returns-then-not-is_positive : goal.returns-then-not-is_positive
returns-then-not-is_positive g c =
    rw (
      sym c.is_empty.ensures ∙ c.if-is_empty.false,
      eq-eqb _ _ c.if-codes-values.false,
      sym c.is_positive.ensures.test ∙ c.if-not-is_positive.true,
    ) (refl, refl)

pub returns : goal.returns
returns g c =
    rw (
      sym c.is_empty.ensures ∙ c.if-is_empty.false,
      eq-eqb _ _ c.if-codes-values.false,
      sym c.is_positive.ensures.test ∙ c.if-not-is_positive.false,
    )
    (record { block = c.quantize_some.result; is = refl; is_block = c.quantize_some.ensures })
