use Rattle.commands.specs.Operands.{words_of}
use Rattle.commands.proofs.RepliesOnce.{only_in_pairs}
use Rattle.commands.proofs.calculation.CalculationInKind.in_pairs.Goals as goal

pub returns : goal.returns
returns c =
    let it = c.args.self in (
      only_in_pairs it.round it.operation it.name.now (words_of it.operands) _ c.in_type.ensures.reply,
      c.in_type.ensures.short,
    )
