use Rattle.std.proofs.Common.{◌∙◌, T, Bool, not, sym, subst, arith}
use Rattle.std.proofs.lemmas.{Int.ints, Bool.false≢true}
use Rattle.apfloat_rounding.proofs.ShapeExponents.{min_exp_word, max_exp_word}
use Rattle.apfloat_arithmetic.proofs.{ProductExponents.normal_near, ExactInverses.opposite_word}
use lib.Signed.{le_z_yes, lt_z_yes, lt_z_no}
use Rattle.apfloat_arithmetic.proofs.inverses.is_invertible.Goals as goal
use Rattle.apfloat_arithmetic.proofs.inverses.is_invertible.Goals.{then-x-integer_bit-via-then-x-integer_bit}
use Rattle.apfloat_arithmetic.proofs.inverses.is_invertible.Goals.{then-x-integer_bit-via-else-x-integer_bit+then-x-shape}

pub returns-then-x-integer_bit-clause-yes : goal.returns-then-x-integer_bit-clause-yes
returns-then-x-integer_bit-clause-yes c = λ h. absurd (false≢true h)

pub returns-then-x-integer_bit-clause-no : goal.returns-then-x-integer_bit-clause-no
returns-then-x-integer_bit-clause-no c = λ _ i.
    let s = c.args.shape in
    let w = (normal_near s c.args.x.significand c.args.x.exponent c.requires).word in
    let low = min_exp_word s in
    elim c.then-x-integer_bit.branch [
      | then-x-integer_bit-via-then-x-integer_bit j ↦ j.if-x-integer_bit.true (i.power ∙ sym c.integer_bit.ensures)
      | then-x-integer_bit-via-else-x-integer_bit+then-x-shape j ↦
          let n = rw (w, low) at j.if-x-shape.true in
          omega (arith, ints, lt_z_yes {a = c.args.x.exponent} {b = s.min_exp} (subst T (sym n) tt), i.normal)
    ]

pub overflow_sub-x : goal.overflow_sub-x
overflow_sub-x c = omega (arith, ints, c.args.shape.parameters, c.requires.operand.least, c.requires.operand.greatest)

pub overflow_sub-result : goal.overflow_sub-result
overflow_sub-result c =
    omega (arith, ints, c.args.shape.parameters, c.requires.operand.least, c.requires.operand.greatest)

pub returns-then-shape-x-clause-yes : goal.returns-then-shape-x-clause-yes
returns-then-shape-x-clause-yes c = λ h.
    let s = c.args.shape in
    let w = (normal_near s c.args.x.significand c.args.x.exponent c.requires).word in
    let e = opposite_word s c.args.x.significand c.args.x.exponent c.requires in
    let low = min_exp_word s in
    let high = max_exp_word s in
    let b = c.integer_bit.ensures in
    let p = c.if-x-integer_bit.false in
    let n = rw (w, low) at c.if-x-shape.false in
    let i = rw (w, e, low) at c.if-shape-x.true in
    let f = rw (w, e, high) at h in
    record {
      power = grind (arith, b, p);
      normal = lt_z_no (subst (λ (t : Bool). T (not t)) (sym n) tt);
      inverse_normal = le_z_yes (subst T (sym i) tt);
      inverse_within = le_z_yes (subst T (sym f) tt);
    }

pub returns-then-shape-x-clause-no : goal.returns-then-shape-x-clause-no
returns-then-shape-x-clause-no c = λ h i.
    let s = c.args.shape in
    let w = (normal_near s c.args.x.significand c.args.x.exponent c.requires).word in
    let e = opposite_word s c.args.x.significand c.args.x.exponent c.requires in
    let high = max_exp_word s in
    let f = rw (w, e, high) at h in
    subst T f i.inverse_within.le

pub returns-else-shape-x-clause-yes : goal.returns-else-shape-x-clause-yes
returns-else-shape-x-clause-yes c = λ h. absurd (false≢true (sym c.if-shape-x.false ∙ h))

pub returns-else-shape-x-clause-no : goal.returns-else-shape-x-clause-no
returns-else-shape-x-clause-no c = λ _ i.
    let s = c.args.shape in
    let w = (normal_near s c.args.x.significand c.args.x.exponent c.requires).word in
    let e = opposite_word s c.args.x.significand c.args.x.exponent c.requires in
    let low = min_exp_word s in
    let f = rw (w, e, low) at c.if-shape-x.false in
    subst T f i.inverse_normal.le
