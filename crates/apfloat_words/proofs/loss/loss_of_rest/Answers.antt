use Rattle.std.proofs.Common.{arith, inl, inr}
use Rattle.apfloat_model.proofs.rounding.Losses.{cut_less, cut_more}
use Rattle.apfloat_words.proofs.loss.loss_of_rest.Goals as goal

pub returns-else-rest-half-2 : goal.returns-else-rest-half-2
returns-else-rest-half-2 c =
    λ quotient amount unit u h. cut_more quotient c.args.half c.args.rest c.args.loss amount unit u c.requires
    (inl (omega arith)) h

pub returns-else-rest-half-3 : goal.returns-else-rest-half-3
returns-else-rest-half-3 c =
    λ quotient amount unit u h. cut_more quotient c.args.half c.args.rest c.args.loss amount unit u c.requires
    (inr (c.in_default.not-ExactlyZero, c.if-rest-half-3.false)) h

pub returns-then-rest-half : goal.returns-then-rest-half
returns-then-rest-half c =
    λ quotient amount unit u h. cut_less quotient c.args.half c.args.rest c.args.loss amount unit u (omega arith)
    (inl (omega arith)) h

pub returns-then-rest-half-3 : goal.returns-then-rest-half-3
returns-then-rest-half-3 c =
    λ quotient amount unit u h. cut_less quotient c.args.half c.args.rest c.args.loss amount unit u (omega arith)
    (inr c.in_default.not-ExactlyZero) h
