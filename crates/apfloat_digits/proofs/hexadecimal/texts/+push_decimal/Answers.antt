use Rattle.std.proofs.Common.{◌∙◌, ◌+◌, ◌%◌, List, ℕ, [], ◌∷◌, ◌++◌, ap, arith}
use Rattle.apfloat_decimals.proofs.spelled.Lines.{last_digit, only_digit, room_for_last}
use Rattle.apfloat_decimals.proofs.spelled.WrittenNumbers.{shorter, single}
use Rattle.apfloat_digits.proofs.hexadecimal.texts.+push_decimal.Goals.{then-number-ge10, else-number-ge10}
use Rattle.apfloat_digits.proofs.hexadecimal.texts.+push_decimal.Goals as goal

pub push_decimal-requires : goal.push_decimal-requires
push_decimal-requires t c =
    let less = shorter c.args.number c.if-number-ge10.true (omega (arith, c.ranges.number.fits)) in
    (omega (arith, c.decreases, c.if-number-ge10.true), omega (arith, less, c.requires))

pub push-requires : goal.push-requires
push-requires t c =
    elim c.if-number-ge10.branch [
      | then-number-ge10 w ↦ rw (w.line-is, w.push_decimal.ensures)
          (room_for_last c.args.line.now c.args.number w.if-number-ge10.true
          (omega (arith, c.ranges.number.fits)) c.requires)
      | else-number-ge10 w ↦
          let one = single c.args.number w.if-number-ge10.false in
          rw w.line-is (omega (arith, one, c.requires))
    ]

pub returns : goal.returns
returns t c =
    elim c.if-number-ge10.branch [
      | then-number-ge10 w ↦ c.push.ensures
          ∙ ap (λ (x : List ℕ). x ++ ((48 + c.args.number % 10) ∷ [])) (w.line-is ∙ w.push_decimal.ensures)
          ∙ last_digit c.args.line.now c.args.number w.if-number-ge10.true (omega (arith, c.ranges.number.fits))
      | else-number-ge10 w ↦
          c.push.ensures ∙ ap (λ (x : List ℕ). x ++ ((48 + c.args.number % 10) ∷ [])) w.line-is
          ∙ only_digit c.args.line.now c.args.number w.if-number-ge10.false
    ]
