use Rattle.std.proofs.Common.{◌≡◌, ℕ, ◌+◌, ◌-◌, ◌*◌, Bool, cond, sym, ap, ◌∙◌, refl, arith, w32}
use Rattle.std.proofs.lemmas.Int.{ints, to_z-of_z}
use Rattle.apfloat_model.specs.order.Classes.{quanta_of}
use Rattle.apfloat_ieee.specs.Types.{format_of}
use Rattle.apfloat_digits.specs.hexadecimal.HexTexts.{number_text}
use Rattle.apfloat_model.proofs.arithmetic.Significands.{exponent_fits}
use Rattle.apfloat_digits.proofs.hexadecimal_lemmas.Roundings.{IsHexCut, cut_of, rounded_at}
use Rattle.apfloat_digits.proofs.hexadecimal.rounded.rounded_line.Given.{Over}
use Rattle.apfloat_digits.proofs.hexadecimal.rounded.rounded_line.Goals.{After-shift_right-cut, then-moves, else-moves}
use Rattle.apfloat_digits.proofs.hexadecimal.rounded.rounded_line.Goals as goal

cut_is : (g : Over) → (state : After-shift_right-cut g)
    → IsHexCut (format_of g.S.Semantics) (quanta_of state.args.x) state.args.places
    state.shift_right-cut.result.significand state.shift_right-cut.result.loss state.digits_of-number.result.exponent
cut_is g c =
    cut_of (format_of g.S.Semantics) (quanta_of c.args.x) c.args.places c.digits_of-number.result.digits
    c.shift_right-cut.result.significand (4 * (31 - c.args.places)) c.shift_right-cut.result.loss
    c.digits_of-number.result.exponent c.requires.few refl
    (record {
      low = c.digits_of-number.ensures.low;
      high = c.digits_of-number.ensures.high;
      number = c.digits_of-number.ensures.number;
    }) c.shift_right-cut.ensures.stands

pub carried-requires-clause-least : goal.carried-requires-clause-least
carried-requires-clause-least g c =
    let low = (cut_is g (goal.at.carried-requires-clause-least g c).After-shift_right-cut).low in
    elim c.if-moves.branch [
      | then-moves w ↦ rw w.units-is (omega (arith, low))
      | else-moves w ↦ rw w.units-is low
    ]

pub carried-requires-clause-most : goal.carried-requires-clause-most
carried-requires-clause-most g c =
    let high = (cut_is g (goal.at.carried-requires-clause-most g c).After-shift_right-cut).high in
    elim c.if-moves.branch [
      | then-moves w ↦ rw w.units-is (omega (arith, high))
      | else-moves w ↦ rw w.units-is (omega (arith, high))
    ]

pub returns : goal.returns
returns g c =
    let s = c.shift_right-cut.result.significand in
    let first = c.digits_of-number.result.exponent in
    let within = c.digits_of-number.ensures.within in
    let low = within.low in
    let high = within.high in
    let exact = to_z-of_z w32 first
    (exponent_fits first (record { low = omega (arith, ints, low); high = omega (arith, ints, high) })) in
    let next = to_z-of_z w32 c.carried.result.exponent
    (exponent_fits c.carried.result.exponent c.carried.ensures.within) in
    let picked : c.if-moves.units ≡ cond c.moves_up-moves.result (s + 1) s =
    elim c.if-moves.branch [
      | then-moves w ↦ w.units-is ∙ sym (ap (λ (b : Bool). cond b (s + 1) s) w.if-moves.true)
      | else-moves w ↦ w.units-is ∙ sym (ap (λ (b : Bool). cond b (s + 1) s) w.if-moves.false)
    ] in
    record {
      fraction = c.carried.result.fraction;
      exponent = c.carried.result.exponent;
      number = rounded_at (format_of g.S.Semantics) c.args.round c.args.negative (quanta_of c.args.x) c.args.places s
          c.if-moves.units c.carried.result.fraction c.shift_right-cut.result.loss c.moves_up-moves.result
          c.is_exact.result first c.carried.result.exponent c.digits_of-number.ensures.first
          (cut_is g (goal.at.returns g c).After-shift_right-cut) c.moves_up-moves.ensures picked
          c.is_exact.ensures.yes c.is_exact.ensures.no (rw exact at c.carried.ensures.carried);
      text_is = c.number_line.ensures.text ∙ ap (λ (a : ℕ).
          number_text c.args.negative a c.carried.result.places c.carried.result.fraction c.carried.result.exponent)
          c.carried.ensures.first
          ∙ ap (λ (p : ℕ). number_text c.args.negative 1 p c.carried.result.fraction c.carried.result.exponent)
          c.carried.ensures.places;
    }
