use Rattle.apfloat_ieee.specs.Types.{constants_of, format_of}
use Rattle.apfloat_model.proofs.formats.LawfulRanges.{ranges_of}
use Rattle.apfloat_digits.proofs.hexadecimal_lemmas.ReadTexts.{read_back}
use Rattle.apfloat_digits.proofs.hexadecimal.reading_back.text_reads_back.Goals as goal

pub returns : goal.returns
returns g c = λ mode x text answer member is read. read_back (format_of g.S.Semantics) mode x text answer
    (ranges_of (constants_of g.S.Semantics) g.S.Semantics.lawful) member is read
