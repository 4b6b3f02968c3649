use Rattle.std.proofs.Common.{◌+◌, ◌/◌, ◌^◌, Bool, cond, nat_eq, sym, ◌∙◌, ap}
use Rattle.apfloat_rounding.specs.Cuts.{loss_at}
use Rattle.apfloat_conversions.proofs.Wholes.{whole_at, exact_at, word_cut_stands, rest_exact, rest_inexact}
use Rattle.apfloat_conversions.proofs.whole.round_in_word.Goals as goal

pub returns-clause-picked : goal.returns-clause-picked
returns-clause-picked c = λ amount parts p e.
    let shift = c.word_places-shift in
    let half = c.word_power-half.result in
    let rest = c.low_of_word-rest.result in
    let q = c.args.significand / 2 ^ shift.result in
    let h = word_cut_stands c.args.significand c.args.places shift.result half rest amount parts c.requires.short
    shift.ensures.near shift.ensures.far (shift.ensures.some c.requires.some) c.word_power-half.ensures
    c.low_of_word-rest.ensures p e in
    record {
      magnitude_is = c.from.ensures ∙ c.next_word_if.ensures
          ∙ ap (λ (b : Bool). cond b (q + 1) q) c.moves_past-moved.ensures
          ∙ sym (whole_at c.args.round c.args.negative q amount parts (loss_at rest half) p h);
      exact_is =
          exact_at c.args.round c.args.negative q amount parts (loss_at rest half) (nat_eq rest 0) p h
          (rest_exact rest half) (rest_inexact rest half);
    }
