use Rattle.std.proofs.Common.{◌≡◌, ◌*◌, length, sym, refl, ◌∙◌}
use Rattle.std.proofs.lemmas.List.{length-take-le, take_at}
use Rattle.rustc_apfloat.specs.Types.{constants_of}
use Rattle.apfloat_arrays.specs.Values.{IsConvertedBy}
use Rattle.apfloat_arrays.proofs.Places.{block_named}
use Rattle.apfloat_arrays.proofs.block_call.convert_front.Goals as goal

pub returns : goal.returns
returns g c =
    let size : length c.convert_block_by.new.output ≡ c.args.count * c.args.widths.target =
    c.convert_block_by.auto.output
    ∙ length-take-le (c.args.count * c.args.widths.target) c.args.buffer.now c.requires.room in
    block_named (IsConvertedBy c.args.overflow (constants_of g.S.Semantics) (constants_of g.T.Semantics) c.args.round)
    c.args.widths.source c.args.widths.target _ _ _ _ _ _ c.convert_block_by.result refl refl
    (sym (take_at c.convert_block_by.new.output _ _ size)) c.convert_block_by.ensures
