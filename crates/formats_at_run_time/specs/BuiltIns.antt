-- The built-in kinds of values, with their words and codes.
use Rattle.std.specs.Prelude.{◌≡◌, ℕ, ◌==◌, nat_lt, Bool, true, if◌then◌else◌, List, [], ◌∷◌, codes, Option, Some, None}
use Rattle.std.proofs.Common.{refl}
use Rattle.rustc_apfloat.specs.{Digits.same, Lawful.Constants, Lawful.IsLawful, Formats.half_constants}
use Rattle.rustc_apfloat.specs.Formats.{single_constants, double_constants, quad_constants, bfloat_constants}
use Rattle.rustc_apfloat.specs.Formats.{e5m2_constants, e4m3fn_constants, e4m3fnuz_constants, x87_constants}
use Rattle.rustc_apfloat.specs.Formats.{e4m3_constants, e5m2fnuz_constants, e4m3b11fnuz_constants, tf32_constants}
use Rattle.rustc_apfloat.proofs.LawTest.{lawful_from_test}
use Rattle.formats_at_run_time.specs.ValueKinds.{Kind, of_format, of_pairs}
use Rattle.formats_at_run_time.specs.declared.built_in.BuiltInFormat.{BuiltInFormat}
use Rattle.formats_at_run_time.specs.declared.built_in.BuiltInFormat.TheVariants.{Half, Single, Double, Quad, BFloat}
use Rattle.formats_at_run_time.specs.declared.built_in.BuiltInFormat.TheVariants.{E5M2, E4M3FN, E4M3FNUZ, X87, E4M3}
use Rattle.formats_at_run_time.specs.declared.built_in.BuiltInFormat.TheVariants.{E5M2FNUZ, E4M3B11FNUZ, TF32}
use Rattle.formats_at_run_time.specs.declared.built_in.BuiltInKind.{BuiltInKind}
use Rattle.formats_at_run_time.specs.declared.built_in.BuiltInKind.TheVariants.{OfFormat, Pairs}

-- a lawful format, whose values have more bits than digits
pub record KnownFormat : Type 0 where
  pub constants : Constants
  pub lawful : IsLawful constants
  pub wide : nat_lt constants.precision constants.bits ≡ true

abbrev known : (c : Constants) → IsLawful c → nat_lt c.precision c.bits ≡ true → KnownFormat
known c lawful wide = record { constants = c; lawful = lawful; wide = wide }

abbrev pub known_format : BuiltInFormat → KnownFormat
known_format Half = known half_constants (lawful_from_test _ refl) refl
known_format Single = known single_constants (lawful_from_test _ refl) refl
known_format Double = known double_constants (lawful_from_test _ refl) refl
known_format Quad = known quad_constants (lawful_from_test _ refl) refl
known_format BFloat = known bfloat_constants (lawful_from_test _ refl) refl
known_format E5M2 = known e5m2_constants (lawful_from_test _ refl) refl
known_format E4M3FN = known e4m3fn_constants (lawful_from_test _ refl) refl
known_format E4M3FNUZ = known e4m3fnuz_constants (lawful_from_test _ refl) refl
known_format X87 = known x87_constants (lawful_from_test _ refl) refl
known_format E4M3 = known e4m3_constants (lawful_from_test _ refl) refl
known_format E5M2FNUZ = known e5m2fnuz_constants (lawful_from_test _ refl) refl
known_format E4M3B11FNUZ = known e4m3b11fnuz_constants (lawful_from_test _ refl) refl
known_format TF32 = known tf32_constants (lawful_from_test _ refl) refl

abbrev pub constants_in : BuiltInFormat → Constants
constants_in format = (known_format format).constants

abbrev pub kind_of : BuiltInKind → Kind
kind_of (OfFormat format) = of_format (constants_in format)
kind_of Pairs = of_pairs

-- a kind of values, its word and its code
pub record KindRow : Type 0 where
  pub kind : BuiltInKind
  pub word : List ℕ
  pub code : ℕ

abbrev row : BuiltInKind → List ℕ → ℕ → KindRow
row kind word code = record { kind = kind; word = word; code = code }

abbrev pub kinds : List KindRow
kinds =
    row (OfFormat Half) (codes "half") 1
    ∷ row (OfFormat Single) (codes "single") 2
    ∷ row (OfFormat Double) (codes "double") 3
    ∷ row (OfFormat Quad) (codes "quad") 4
    ∷ row (OfFormat BFloat) (codes "bfloat") 5
    ∷ row (OfFormat E5M2) (codes "e5m2") 6
    ∷ row (OfFormat E4M3FN) (codes "e4m3fn") 7
    ∷ row (OfFormat E4M3FNUZ) (codes "e4m3fnuz") 8
    ∷ row (OfFormat X87) (codes "x87") 9
    ∷ row Pairs (codes "dd") 10
    ∷ row (OfFormat E4M3) (codes "e4m3") 16
    ∷ row (OfFormat E5M2FNUZ) (codes "e5m2fnuz") 17
    ∷ row (OfFormat E4M3B11FNUZ) (codes "e4m3b11fnuz") 18
    ∷ row (OfFormat TF32) (codes "tf32") 19
    ∷ []

-- the kind of the first row that passes the test
abbrev pub first_kind : (KindRow → Bool) → List KindRow → Option BuiltInKind
first_kind test [] = None
first_kind test (row ∷ rows) = if test row then Some row.kind else first_kind test rows

abbrev pub kind_named : List ℕ → Option BuiltInKind
kind_named word = first_kind (λ (row : KindRow). same word row.word) kinds

abbrev pub kind_coded : ℕ → Option BuiltInKind
kind_coded code = first_kind (λ (row : KindRow). code == row.code) kinds

-- the format of a kind, if it is one
abbrev pub format_in : BuiltInKind → Option BuiltInFormat
format_in (OfFormat format) = Some format
format_in Pairs = None
