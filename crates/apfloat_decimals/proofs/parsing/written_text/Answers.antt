use Rattle.apfloat_decimals.proofs.spelled.WrittenTexts.{text_spelled, written_same, written_stored}
use Rattle.apfloat_decimals.proofs.parsing.written_text.Goals as goal

pub returns : goal.returns
returns c = record { spells = text_spelled; number = written_same; fits = written_stored }
