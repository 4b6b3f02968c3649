use Rattle.std.proofs.Common.{◌≡◌, ◌+ℤ◌, pos, ◌-◌, Bool, cond, refl, sym, ap, ◌∙◌, subst, to_z, of_z, w32, arith}
use Rattle.std.proofs.lemmas.{Bool.false≢true, Int.to_z-of_z, Int.ints}
use Rattle.apfloat_words.specs.Totals.{StandsForSigned, counted}
use Rattle.apfloat_words.proofs.LossTotals.{together_stands, apart_stands, exponent_is}
use Rattle.apfloat_words.proofs.sum.sum_of.Goals.{then-difference, else-difference}
use Rattle.apfloat_model.proofs.general.Choices.{like, unlike}
use Rattle.apfloat_words.proofs.sum.sum_of.Goals as goal

pub returns-then-high-low-clause-stands : goal.returns-then-high-low-clause-stands
returns-then-high-low-clause-stands c = λ base l.
    let eh : to_z w32 (of_z w32 c.args.high.exponent) ≡ c.args.high.exponent = omega (arith, ints) in
    let el : to_z w32 (of_z w32 c.args.low.exponent) ≡ c.args.low.exponent = omega (arith, ints) in
    let g : (c.args.low.exponent +ℤ pos c.steps_between-gap.result) ≡ c.args.high.exponent =
    let k = rw (eh, el) at c.steps_between-gap.ensures in omega (arith, ints) in
    let r = together_stands base c.args.high.exponent c.args.low.exponent c.args.high.negative c.args.low.negative
    c.args.high.significand c.args.low.significand c.steps_between-gap.result c.together-sum.result.significand
    c.together-sum.result.loss l g (like c.args.high.negative c.args.low.negative c.if-high-low.true)
    c.together-sum.ensures in
    rw eh r

pub returns-clause-stands : goal.returns-clause-stands
returns-clause-stands c = λ base l.
    let eh : to_z w32 (of_z w32 c.args.high.exponent) ≡ c.args.high.exponent = omega (arith, ints) in
    let el : to_z w32 (of_z w32 c.args.low.exponent) ≡ c.args.low.exponent = omega (arith, ints) in
    let g : (c.args.low.exponent +ℤ pos c.steps_between-gap.result) ≡ c.args.high.exponent =
    let k = rw (eh, el) at c.steps_between-gap.ensures in omega (arith, ints) in
    let w : to_z w32 (of_z w32 c.exponent_apart.result) ≡ c.exponent_apart.result =
    to_z-of_z w32 c.exponent_apart.result (record { sfits = c.exponent_apart.type_inv }) in
    let d : (c.args.low.exponent +ℤ pos (c.steps_between-gap.result - 1)) ≡ c.exponent_apart.result =
    exponent_is c.args.high.exponent c.args.low.exponent c.exponent_apart.result c.steps_between-gap.result g
    (rw eh at c.exponent_apart.ensures.level) (rw eh at c.exponent_apart.ensures.halved) in
    let n : cond c.apart-difference.result.flipped c.args.low.negative c.args.high.negative
    ≡ c.if-difference.negative =
    elim c.if-difference.branch [
      | then-difference w ↦ ap (λ (x : Bool). cond x c.args.low.negative c.args.high.negative)
          w.if-difference.true ∙ sym w.negative-is
      | else-difference w ↦ ap (λ (x : Bool). cond x c.args.low.negative c.args.high.negative)
          w.if-difference.false ∙ sym w.negative-is
    ] in
    let r = apart_stands base c.args.high.exponent c.args.low.exponent c.exponent_apart.result c.args.high.negative
    c.args.low.negative c.apart-difference.result.flipped c.args.high.significand c.args.low.significand
    c.steps_between-gap.result c.apart-difference.result.significand c.apart-difference.result.loss l g d
    (unlike c.args.high.negative c.args.low.negative c.if-high-low.false) c.apart-difference.ensures.is in
    rw w (subst (λ (x : Bool). StandsForSigned base
    (counted base c.args.high.negative c.args.high.exponent c.args.high.significand +ℤ counted base
    c.args.low.negative c.args.low.exponent c.args.low.significand) x c.exponent_apart.result
    c.apart-difference.result.significand c.apart-difference.result.loss) n r)

pub steps_between-gap-requires-clause-above : goal.steps_between-gap-requires-clause-above
steps_between-gap-requires-clause-above c = omega (arith, ints)

pub steps_between-gap-requires-clause-high : goal.steps_between-gap-requires-clause-high
steps_between-gap-requires-clause-high c =
    record { low = omega (arith, ints, c.requires.high); high = omega (arith, ints, c.requires.high) }

pub steps_between-gap-requires-clause-low : goal.steps_between-gap-requires-clause-low
steps_between-gap-requires-clause-low c =
    record { low = omega (arith, ints, c.requires.low); high = omega (arith, ints, c.requires.low) }

pub together-sum-requires-clause-high_room : goal.together-sum-requires-clause-high_room
together-sum-requires-clause-high_room c = c.requires.high_room

pub together-sum-requires-clause-low_room : goal.together-sum-requires-clause-low_room
together-sum-requires-clause-low_room c = c.requires.low_room

pub returns-then-high-low-clause-zero : goal.returns-then-high-low-clause-zero
returns-then-high-low-clause-zero c = λ s l. refl

pub returns-then-high-low-clause-coarser : goal.returns-then-high-low-clause-coarser
returns-then-high-low-clause-coarser c = λ e. omega (arith, ints)

pub returns-then-high-low-clause-level : goal.returns-then-high-low-clause-level
returns-then-high-low-clause-level c = λ e. omega (arith, ints)

pub returns-then-high-low-clause-halved : goal.returns-then-high-low-clause-halved
returns-then-high-low-clause-halved c =
    λ n d. absurd (n (like c.args.high.negative c.args.low.negative c.if-high-low.true))

pub returns-then-high-low-clause-near : goal.returns-then-high-low-clause-near
returns-then-high-low-clause-near c = omega (arith, ints)

pub returns-then-high-low-clause-far : goal.returns-then-high-low-clause-far
returns-then-high-low-clause-far c = omega (arith, ints)

pub apart-difference-requires : goal.apart-difference-requires
apart-difference-requires c = record { high_room = c.requires.high_room }

pub exponent_apart-requires : goal.exponent_apart-requires
exponent_apart-requires c =
    record { low = omega (arith, ints, c.requires.high); high = omega (arith, ints, c.requires.high) }

pub returns-clause-coarser : goal.returns-clause-coarser
returns-clause-coarser c = λ e. absurd (unlike c.args.high.negative c.args.low.negative c.if-high-low.false e)

pub returns-clause-zero : goal.returns-clause-zero
returns-clause-zero c = λ s l.
    elim c.if-difference.branch [
      | then-difference w ↦ absurd (false≢true (sym (c.apart-difference.ensures.zero s l) ∙ w.if-difference.true))
      | else-difference w ↦ w.negative-is
    ]
