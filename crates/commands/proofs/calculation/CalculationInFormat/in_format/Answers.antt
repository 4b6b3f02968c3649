use Rattle.std.proofs.Common.{◌≡◌, ◌≤◌, false, nat_le, refl, subst}
use Rattle.std.proofs.lemmas.Bool.{lt-leb}
use Rattle.rustc_apfloat.specs.{Types.constants_of, FusedSums.fused_limit}
use Rattle.commands.specs.Operands.{words_of}
use Rattle.commands.proofs.RepliesOnce.{only_fused, only_in_format}
use Rattle.commands.proofs.calculation.CalculationInFormat.in_format.Goals as goal
use Rattle.commands.proofs.calculation.CalculationInFormat.in_format.Goals.{in_default-via-in-FusedSum+else-PRECISION-le-FUSED_LIMIT}
use Rattle.commands.proofs.calculation.CalculationInFormat.in_format.Goals.{in_default-via-in_default}

pub returns-in-FusedSum : goal.returns-in-FusedSum
returns-in-FusedSum g c =
    let it = c.args.self in
    let within = subst (λ p. p ≤ fused_limit) c.PRECISION.ensures c.if-PRECISION-le-FUSED_LIMIT.true in (
      only_fused (constants_of g.S.Semantics) it.round it.operation it.name.now (words_of it.operands) _ _ _ _
          c.in-FusedSum.is within refl refl refl c.fused_sum.ensures.reply,
      c.fused_sum.ensures.short,
    )

pub returns-in_default : goal.returns-in_default
returns-in_default g c =
    let it = c.args.self in (
      only_in_format (constants_of g.S.Semantics) it.round it.operation it.name.now
          (words_of it.operands) _
          (elim c.in_default.branch [
            | in_default-via-in-FusedSum+else-PRECISION-le-FUSED_LIMIT w ↦
                (λ _. subst (λ p. nat_le p fused_limit ≡ false) w.PRECISION.ensures
                (lt-leb _ _ w.if-PRECISION-le-FUSED_LIMIT.false))
            | in_default-via-in_default w ↦ (λ e. absurd (w.in_default.not-FusedSum e))
          ])
          c.in_type.ensures.reply,
      c.in_type.ensures.short,
    )
