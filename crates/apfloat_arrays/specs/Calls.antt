-- Calls in a format chosen at run time.
use Rattle.rustc_apfloat.specs.Lawful.{Constants}
use Rattle.std.specs.Prelude.{⊤}
use Rattle.formats_at_run_time.specs.ValueKinds.{Kind, of_format, of_pairs}

-- the statement holds of the constants of the format; nothing is said of pairs, for which no such call is made
abbrev pub at_format : Kind → (Constants → Type 0) → Type 0
at_format (of_format c) Holds = Holds c
at_format of_pairs Holds = ⊤
