use Rattle.std.proofs.Math.Nat.{pos_of_ne-zero}
use Rattle.apfloat_conversions.proofs.hex_texts_lemmas.NextDigits.{with_first_cut, with_next_cut}
use Rattle.apfloat_conversions.proofs.hex_texts.significand.Digits.followed_by.Goals as goal
use Rattle.apfloat_conversions.proofs.hex_texts.significand.Digits.followed_by.Goals.{then-self-eq0, else-self-eq0}

pub returns-clause-kept : goal.returns-clause-kept
returns-clause-kept c number k =
    elim c.if-self-eq0.branch [
      | then-self-eq0 w ↦
          rw (w.loss-is, ← w.from-then-self-eq0.ensures)
          (with_first_cut number c.args.self.significand w.from-then-self-eq0.result c.args.self.cut
          c.args.self.loss w.loss_of_rest-loss.result w.if-self-eq0.true c.if-self.false k
          w.loss_of_rest-loss.ensures)
      | else-self-eq0 w ↦
          rw w.loss-is (with_next_cut number c.args.self.significand c.args.digit c.args.self.cut c.args.self.loss
          w.loss_after-loss.result (pos_of_ne-zero w.if-self-eq0.false) c.if-self.false k
          (w.loss_after-loss.ensures number c.args.self.significand))
    ]
