use Rattle.std.proofs.Common.{◌≡◌, ℕ, ◌*◌, ◌∙◌, subst, arith}
use Rattle.rustc_apfloat.specs.FlaggedTypes.{constants_of}
use Rattle.apfloat_arrays.specs.{Tables.IsTable, Values.IsAnswerAt}
use Rattle.apfloat_arrays.proofs.short_sources.convert_with.Goals as goal

pub fill_table-requires-clause-has : goal.fill_table-requires-clause-has
fill_table-requires-clause-has g c =
    λ place below. (c.requires.listed, c.requires.given.have.written, c.far_answers_for-far.ensures)

pub convert_each-requires-clause-can : goal.convert_each-requires-clause-can
convert_each-requires-clause-can g c =
    let one : c.args.places * 1 ≡ c.args.places = omega arith in
    record {
      widths = c.requires.given.have;
      listed = c.requires.listed;
      short = c.requires.short;
      size = c.fill_table.auto.values ∙ c.requires.values ∙ one ∙ c.requires.places;
      all = c.fill_table.auto.outcomes ∙ c.requires.outcomes ∙ c.requires.places;
      table =
          subst
          (λ (n : ℕ).
          IsTable (IsAnswerAt c.args.task.overflow (constants_of g.Z.Flagged) (constants_of g.T.Flagged)
          c.args.task.round) 1 n c.fill_table.new.values c.fill_table.new.outcomes)
          c.requires.places c.fill_table.ensures;
    }
