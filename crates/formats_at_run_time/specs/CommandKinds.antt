-- The built-in kinds of values that commands have.
use Rattle.std.specs.Prelude.{ℕ, List, [], ◌∷◌, Option, Some, None, option_and_then}
use Rattle.formats_at_run_time.specs.{BuiltIns.kind_named, declared.built_in.BuiltInFormat.BuiltInFormat}
use Rattle.formats_at_run_time.specs.declared.built_in.BuiltInFormat.TheVariants.{Half as BuiltInHalf}
use Rattle.formats_at_run_time.specs.declared.built_in.BuiltInFormat.TheVariants.{Single as BuiltInSingle}
use Rattle.formats_at_run_time.specs.declared.built_in.BuiltInFormat.TheVariants.{Double as BuiltInDouble}
use Rattle.formats_at_run_time.specs.declared.built_in.BuiltInFormat.TheVariants.{Quad as BuiltInQuad}
use Rattle.formats_at_run_time.specs.declared.built_in.BuiltInFormat.TheVariants.{BFloat as BuiltInBFloat}
use Rattle.formats_at_run_time.specs.declared.built_in.BuiltInFormat.TheVariants.{E5M2 as BuiltInE5M2}
use Rattle.formats_at_run_time.specs.declared.built_in.BuiltInFormat.TheVariants.{E4M3FN as BuiltInE4M3FN}
use Rattle.formats_at_run_time.specs.declared.built_in.BuiltInFormat.TheVariants.{E4M3FNUZ as BuiltInE4M3FNUZ}
use Rattle.formats_at_run_time.specs.declared.built_in.BuiltInFormat.TheVariants.{X87 as BuiltInX87}
use Rattle.formats_at_run_time.specs.declared.built_in.BuiltInKind.{BuiltInKind}
use Rattle.formats_at_run_time.specs.declared.built_in.BuiltInKind.TheVariants.{OfFormat as OfBuiltIn}
use Rattle.formats_at_run_time.specs.declared.built_in.BuiltInKind.TheVariants.{Pairs as PairsOfDoubles}
use Rattle.formats_at_run_time.specs.declared.command_kind.CommandFormat.{CommandFormat, TheVariants.Half}
use Rattle.formats_at_run_time.specs.declared.command_kind.CommandFormat.TheVariants.{Single, Double, Quad, BFloat}
use Rattle.formats_at_run_time.specs.declared.command_kind.CommandFormat.TheVariants.{E5M2, E4M3FN, E4M3FNUZ, X87}
use Rattle.formats_at_run_time.specs.declared.command_kind.CommandKind.{CommandKind}
use Rattle.formats_at_run_time.specs.declared.command_kind.CommandKind.TheVariants.{OfFormat, Pairs}

abbrev pub format_of_command : CommandFormat → BuiltInFormat
format_of_command Half = BuiltInHalf
format_of_command Single = BuiltInSingle
format_of_command Double = BuiltInDouble
format_of_command Quad = BuiltInQuad
format_of_command BFloat = BuiltInBFloat
format_of_command E5M2 = BuiltInE5M2
format_of_command E4M3FN = BuiltInE4M3FN
format_of_command E4M3FNUZ = BuiltInE4M3FNUZ
format_of_command X87 = BuiltInX87

-- the same kind among all
abbrev pub built_in_kind : CommandKind → BuiltInKind
built_in_kind (OfFormat format) = OfBuiltIn (format_of_command format)
built_in_kind Pairs = PairsOfDoubles

-- all kinds of commands, in the order of their codes
abbrev pub all_command_kinds : List CommandKind
all_command_kinds =
    OfFormat Half
    ∷ OfFormat Single
    ∷ OfFormat Double
    ∷ OfFormat Quad
    ∷ OfFormat BFloat
    ∷ OfFormat E5M2
    ∷ OfFormat E4M3FN
    ∷ OfFormat E4M3FNUZ
    ∷ OfFormat X87
    ∷ Pairs
    ∷ []

-- the same kind, if commands have it
abbrev pub command_kind_in : BuiltInKind → Option CommandKind
command_kind_in (OfBuiltIn BuiltInHalf) = Some (OfFormat Half)
command_kind_in (OfBuiltIn BuiltInSingle) = Some (OfFormat Single)
command_kind_in (OfBuiltIn BuiltInDouble) = Some (OfFormat Double)
command_kind_in (OfBuiltIn BuiltInQuad) = Some (OfFormat Quad)
command_kind_in (OfBuiltIn BuiltInBFloat) = Some (OfFormat BFloat)
command_kind_in (OfBuiltIn BuiltInE5M2) = Some (OfFormat E5M2)
command_kind_in (OfBuiltIn BuiltInE4M3FN) = Some (OfFormat E4M3FN)
command_kind_in (OfBuiltIn BuiltInE4M3FNUZ) = Some (OfFormat E4M3FNUZ)
command_kind_in (OfBuiltIn BuiltInX87) = Some (OfFormat X87)
command_kind_in PairsOfDoubles = Some Pairs
command_kind_in kind = None

-- the kind that a word names in a command
abbrev pub command_kind_named : List ℕ → Option CommandKind
command_kind_named word = option_and_then command_kind_in (kind_named word)
