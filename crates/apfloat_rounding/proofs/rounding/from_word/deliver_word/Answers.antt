use Rattle.std.proofs.Common.{◌≡◌, ℕ, ℤ, pos, ◌+ℤ◌, ◌≤ℤ◌, ◌+◌, ◌*◌, ◌^◌, ◌<◌, ◌⊎◌, sym, ap, ◌∙◌, subst, inl, inr, to_z}
use Rattle.std.proofs.{Common.of_z, Common.w32, Common.arith, lemmas.Int.ints, lemmas.Int.to_z-of_z}
use Rattle.apfloat_model.specs.{rounding.Flags.bits_of, declared.loss.Loss.TheVariants.ExactlyZero}
use Rattle.apfloat_model.specs.rounding.{RoundingToOdd.IsRoundedToOdd, Standing.StandsFor, Standing.up, Standing.down}
use Rattle.apfloat_rounding.specs.{Shapes.format_at, Stored.datum_at}
use Rattle.apfloat_rounding.proofs.{FineCuts.all_kept, OddCuts.word_digits, OddCuts.exact_below}
use Rattle.apfloat_rounding.proofs.QuantumCuts.{whole_delivered}
use Rattle.apfloat_rounding.proofs.rounding.from_word.deliver_word.Goals.{else-digits-gt0-via-then-digits-gt0+else-unit-digits}
use Rattle.apfloat_rounding.proofs.rounding.from_word.deliver_word.Goals.{else-digits-gt0-via-else-digits-gt0}
use Rattle.apfloat_rounding.proofs.rounding.from_word.deliver_word.Goals as goal

pub cut_word-cut-requires-clause-word : goal.cut_word-cut-requires-clause-word
cut_word-cut-requires-clause-word c =
    word_digits 64 c.from.result c.digits-digits.result (rw c.from.ensures c.ranges.significand.fits)
    c.digits-digits.ensures.full

pub returns-then-unit-digits-clause-delivered : goal.returns-then-unit-digits-clause-delivered
returns-then-unit-digits-clause-delivered c = λ amount h.
    let e = to_z-of_z w32 c.args.exponent c.ranges.exponent in
    let v = rw e at c.unit_place-unit.ensures.value in
    let w : to_z w32 (of_z w32 c.unit_place-unit.result) ≡ c.unit_place-unit.result =
    to_z-of_z w32 c.unit_place-unit.result (record { sfits = c.unit_place-unit.type_inv }) in
    let h' : IsRoundedToOdd (2 ^ (c.args.shape.precision + 1)) c.args.significand
    (amount * 2 ^ down (to_z w32 (of_z w32 c.unit_place-unit.result)))
    (1 * 2 ^ up (to_z w32 (of_z w32 c.unit_place-unit.result))) =
    subst (λ (x : ℤ). IsRoundedToOdd (2 ^ (c.args.shape.precision + 1)) c.args.significand (amount * 2 ^ down x)
    (1 * 2 ^ up x)) (sym v ∙ sym w) h in
    c.round.ensures.delivered amount 1 (omega arith) (c.cut_word-cut.ensures.cut amount 1 (omega arith) h')
    (λ r. all_kept c.args.shape.precision c.cut_word-cut.result amount 1 c.cut_word-cut.ensures.full)

pub whole_quanta-quanta-requires-clause-below : goal.whole_quanta-quanta-requires-clause-below
whole_quanta-quanta-requires-clause-below c =
    let s : c.args.significand < 2 ^ c.digits-digits.result = rw c.from.ensures at c.digits-digits.ensures.below in
    elim c.else-digits-gt0.branch [
      | else-digits-gt0-via-then-digits-gt0+else-unit-digits w ↦ inr (
          omega (
            arith,
            ints,
            w.if-unit-digits.false,
            c.args.shape.parameters,
            c.unit_place-unit.ensures.within,
            c.digits-digits.ensures.bound,
          )
          )
      | else-digits-gt0-via-else-digits-gt0 w ↦
          let z : c.digits-digits.result ≡ 0 = omega (arith, w.if-digits-gt0.false) in
          let k : c.args.significand < 2 ^ 0 = subst (λ (x : ℕ). c.args.significand < 2 ^ x) z s in
          inl (omega (arith, k))
    ]

pub returns-clause-delivered : goal.returns-clause-delivered
returns-clause-delivered c = λ amount h.
    let v = rw (to_z-of_z w32 c.args.exponent c.ranges.exponent) at c.unit_place-unit.ensures.value in
    let u = c.unit_place-unit.result in
    let s : c.args.significand < 2 ^ c.digits-digits.result = rw c.from.ensures at c.digits-digits.ensures.below in
    let d : (c.args.significand ≡ 0)
    ⊎ ((c.args.significand < 2 ^ c.digits-digits.result)
    × ((u +ℤ pos c.digits-digits.result) ≤ℤ pos c.args.shape.precision)) =
    elim c.else-digits-gt0.branch [
      | else-digits-gt0-via-then-digits-gt0+else-unit-digits w ↦ inr (
        s,
        omega (
          arith,
          ints,
          w.if-unit-digits.false,
          c.args.shape.parameters,
          c.unit_place-unit.ensures.within,
          c.digits-digits.ensures.bound,
        ),
      )
      | else-digits-gt0-via-else-digits-gt0 w ↦
          let z : c.digits-digits.result ≡ 0 = omega (arith, w.if-digits-gt0.false) in
          let k : c.args.significand < 2 ^ 0 = subst (λ (x : ℕ). c.args.significand < 2 ^ x) z s in
          inl (omega (arith, k))
    ] in
    let h' : IsRoundedToOdd (2 ^ (c.args.shape.precision + 1)) c.args.significand (amount * 2 ^ down u) (1 * 2 ^ up u) =
    subst (λ (x : ℤ). IsRoundedToOdd (2 ^ (c.args.shape.precision + 1)) c.args.significand (amount * 2 ^ down x)
    (1 * 2 ^ up x)) (sym v) h in
    let g : StandsFor c.args.significand ExactlyZero (amount * 2 ^ down u) (1 * 2 ^ up u) =
    exact_below c.args.significand c.digits-digits.result c.args.shape.precision amount u d h' in
    let w : to_z w32 (of_z w32 u) ≡ u = to_z-of_z w32 u (record { sfits = c.unit_place-unit.type_inv }) in
    let q = (rw w at c.whole_quanta-quanta.ensures.quanta) amount (omega (arith, g)) in
    whole_delivered (format_at c.args.shape) c.args.mode c.args.negative c.whole_quanta-quanta.result amount _ _
    c.args.shape.parameters.precision_low c.whole_quanta-quanta.ensures.few q
    (ap (datum_at c.args.shape) c.and.ensures.value ∙ c.from_few_quanta.ensures.datum) (ap bits_of c.and.ensures.status)
