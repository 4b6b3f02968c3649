-- Arrays that are converted between two formats.
use Rattle.std.specs.Prelude.{◌≡◌, ℕ, ◌*◌, ◌<◌, ◌≤◌, List, length}
use Rattle.fast_bits.specs.lanes.Targets.{IsSingleFormat, IsTarget}
use Rattle.rustc_apfloat.specs.Lawful.{Constants, format_with, layout_with}
use Rattle.apfloat_arrays.specs.declared.{counts.Counts.Counts, task.Task.Task, widths.Widths.Widths}
use Rattle.apfloat_arrays.specs.{Blocks.IsBlock, Rows.IsRow, Rows.number_from, Values.IsConvertedBy, Widths.bytes_of}

-- values of the formats take so many bytes, before and after their conversion
pub record HaveWidths (c d : Constants) (source target : ℕ) : Type 0 where
  pub read : c.precision < c.bits
  pub written : d.precision < d.bits
  pub few : source ≤ 16
  pub room : d.bits ≤ 8 * target

-- the bytes of so many values, and room for those of their conversions
pub record HasBytes (c d : Constants) (widths : Widths) (count : ℕ) (from into : List ℕ) : Type 0 where
  pub have : HaveWidths c d widths.source widths.target
  pub input : length from ≡ count * widths.source
  pub output : length into ≡ count * widths.target

-- the same of all values of a task
abbrev pub IsGiven : Constants → Constants → Task → Widths → List ℕ → Type 0
IsGiven c d task widths into = HasBytes c d widths task.count task.input.now into

abbrev pub IsDone : Constants → Constants → Task → Widths → List ℕ → Counts → Type 0
IsDone c d task widths output counts =
    IsBlock (IsConvertedBy task.overflow c d task.round) widths.source widths.target task.count task.input.now output
    counts

-- the bytes of so many singles, which are converted in blocks, and room for conversions of `size` bytes
pub record AreSingles (c d : Constants) (size count : ℕ) (from into : List ℕ) : Type 0 where
  pub read : c.precision < c.bits
  pub written : d.precision < d.bits
  pub single : IsSingleFormat (format_with c) (layout_with c)
  pub target : IsTarget (format_with d) (layout_with d) d.min_exp d.max_exp
  pub width : d.bits ≤ 8 * size
  pub input : length from ≡ count * 4
  pub output : length into ≡ count * size

abbrev pub AreConverted : Constants → Constants → Task → ℕ → ℕ → List ℕ → Counts → Type 0
AreConverted c d task width count output counts =
    IsBlock (IsConvertedBy task.overflow c d task.round) 4 width count task.input.now output counts

-- the same of all singles of a task, whose conversions take the usual number of bytes
abbrev pub HasSingles : Constants → Constants → Task → List ℕ → Type 0
HasSingles c d task output = AreSingles c d (bytes_of d.bits) task.count task.input.now output

abbrev pub HasConverted : Constants → Constants → Task → List ℕ → Counts → Type 0
HasConverted c d task output counts = AreConverted c d task (bytes_of d.bits) task.count output counts

-- the same of a block in which zeros stand for the infinities and NaNs after the first `done` values
abbrev pub AreNumbersOf : Constants → Constants → Task → ℕ → ℕ → ℕ → List ℕ → Counts → Type 0
AreNumbersOf c d task done width count output counts =
    IsRow (IsConvertedBy task.overflow c d task.round) (number_from done task.input.now) width count output counts
