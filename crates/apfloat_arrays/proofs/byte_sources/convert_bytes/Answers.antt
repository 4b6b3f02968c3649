use Rattle.std.proofs.Common.{ℕ, ◌≤◌, sym, ap, ◌∙◌, subst, arith}
use Rattle.rustc_apfloat.specs.FlaggedTypes.{constants_of}
use Rattle.apfloat_arrays.specs.{declared.widths.Widths.Widths, Tasks.IsDone, Tasks.IsGiven, Widths.bytes_of}
use Rattle.apfloat_arrays.proofs.{Tasks.same_widths, WidthBounds.in_bytes}
use Rattle.apfloat_arrays.proofs.byte_sources.convert_bytes.Goals as goal

pub convert_by_table-requires : goal.convert_by_table-requires
convert_by_table-requires g c =
    let given =
    subst
    (λ (w : Widths). IsGiven (constants_of g.S.Flagged) (constants_of g.T.Flagged) c.args.task w c.args.output.now)
    (same_widths c.args.widths (record { source = 1; target = c.bytes_of.result }) c.requires.source
    (c.requires.target ∙ sym (c.bytes_of.ensures ∙ ap bytes_of c.BITS.ensures))) c.requires.given in
    record {
      has = λ place below. (given.have.read, given.have.written, c.far_answers_for-far.ensures);
      width = given.have.room;
      few =
          subst (λ (n : ℕ). n ≤ 16) (sym (c.bytes_of.ensures ∙ ap bytes_of c.BITS.ensures))
          (in_bytes g.T.Flagged.BITS (omega (arith, given.have.written)) c.requires.few).greatest;
      input = given.input;
      output = given.output;
    }

pub returns : goal.returns
returns g c =
    subst
    (λ (w : Widths). IsDone (constants_of g.S.Flagged) (constants_of g.T.Flagged) c.args.task w
    c.convert_by_table.new.output c.convert_by_table.result)
    (sym (same_widths c.args.widths (record { source = 1; target = c.bytes_of.result }) c.requires.source
    (c.requires.target ∙ sym (c.bytes_of.ensures ∙ ap bytes_of c.BITS.ensures)))) c.convert_by_table.ensures
