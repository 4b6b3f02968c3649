-- Each type reads the texts that have no fault, and refuses the others.
use Rattle.std.proofs.Common.{Ok, Err}
use Rattle.rustc_apfloat.specs.Lawful.{Constants}
use Rattle.apfloat_model.proofs.texts.OneMeaning.{meaning_no_fault}
use Rattle.formats_at_run_time.specs.{Relations.in_format, Relations.in_pairs, TextReadings.ReadsTexts}

-- formats read these texts
pub format_reads : (constants : Constants) → ReadsTexts (in_format constants).meaning.reads
format_reads constants text mode (Ok answer) reading = meaning_no_fault text reading.meaning reading.means
format_reads constants text mode (Err error) refusal = refusal

-- pairs of doubles are read from these texts
pub pairs_read : ReadsTexts in_pairs.meaning.reads
pairs_read text mode (Ok answer) reading =
    meaning_no_fault text reading.is_value.meaning reading.is_value.means
pairs_read text mode (Err error) refusal = refusal
