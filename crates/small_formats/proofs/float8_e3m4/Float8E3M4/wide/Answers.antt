use Rattle.std.proofs.Common.{ℕ, ◌<◌, subst, ap, ◌∙◌}
use Rattle.small_formats.specs.Float8E3M4.{wide_datum, widened}
use Rattle.small_formats.proofs.NarrowCodes.{widened_datum}
use Rattle.small_formats.proofs.float8_e3m4.Float8E3M4.wide.Goals as goal

pub returns : goal.returns
returns c =
    c.from_bits.ensures.read ∙ ap wide_datum (c.from.ensures ∙ c.widened.ensures ∙ ap widened c.self.view_is)
    ∙ widened_datum c.args.self (subst (λ (n : ℕ). n < 256) c.self.view_is c.self.invariant)
