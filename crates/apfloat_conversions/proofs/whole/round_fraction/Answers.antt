use Rattle.std.proofs.Common.{◌≡◌, ℕ, ◌*◌, ◌^◌, ◌<◌, ◌≤◌, refl, arith}
use Rattle.std.proofs.Math.Nat.{pow-le-pow_right}
use Rattle.apfloat_model.proofs.general.Powers.{two_pos, fits_longer}
use Rattle.apfloat_model.specs.rounding.Standing.{StandsFor}
use Rattle.apfloat_model.proofs.rounding.PickedPoints.{kept_moved, kept_stayed}
use Rattle.apfloat_conversions.proofs.Wholes.{picked_at, cut_whole_stands, cut_below}
use Rattle.apfloat_conversions.proofs.whole.round_fraction.Goals.{After-shift_right-kept}
use Rattle.apfloat_conversions.proofs.whole.round_fraction.Goals as goal

pub round_in_word-requires-clause-short : goal.round_in_word-requires-clause-short
round_in_word-requires-clause-short c = fits_longer c.args.significand c.args.precision 62 c.requires.fits (omega arith)

pub overflow_add-result : goal.overflow_add-result
overflow_add-result c =
    let a : 2 ^ c.args.precision ≤ 2 ^ 125 = pow-le-pow_right two_pos c.requires.precise in
    record {
      fits =
          cut_below c.args.significand c.shift_right-kept.result.significand c.args.places
          (omega (arith, a, c.requires.fits)) c.shift_right-kept.ensures.quotient;
    }

-- the kept digits, with the loss, represent the value in any units
stands : (state : After-shift_right-kept) (amount parts : ℕ) → 0 < parts
    → amount * 2 ^ state.args.places ≡ state.args.significand * parts
    → StandsFor state.shift_right-kept.result.significand state.shift_right-kept.result.loss amount parts
stands c amount parts p e =
    cut_whole_stands c.args.significand c.shift_right-kept.result.significand c.args.places amount parts
    c.shift_right-kept.result.loss e (c.shift_right-kept.ensures.stands (c.args.significand * parts) parts p refl)

pub returns-then-moves_up-clause-picked : goal.returns-then-moves_up-clause-picked
returns-then-moves_up-clause-picked c = λ amount parts p e. picked_at c.args.round c.args.negative _ amount parts _ _ p
    (stands (goal.at.returns-then-moves_up-clause-picked c).After-shift_right-kept amount parts p e)
    c.is_exact-exact.ensures.yes c.is_exact-exact.ensures.no
    (kept_moved c.args.round c.args.negative c.shift_right-kept.result.loss c.shift_right-kept.result.significand
    c.moves_up.result c.moves_up.ensures c.if-moves_up.true)

pub returns-else-moves_up-clause-picked : goal.returns-else-moves_up-clause-picked
returns-else-moves_up-clause-picked c = λ amount parts p e. picked_at c.args.round c.args.negative _ amount parts _ _ p
    (stands (goal.at.returns-else-moves_up-clause-picked c).After-shift_right-kept amount parts p e)
    c.is_exact-exact.ensures.yes c.is_exact-exact.ensures.no
    (kept_stayed c.args.round c.args.negative c.shift_right-kept.result.loss c.shift_right-kept.result.significand
    c.moves_up.result c.moves_up.ensures c.if-moves_up.false)
