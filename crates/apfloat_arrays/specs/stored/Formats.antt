-- The storage formats, with their words and codes, and what codes mean.
use Rattle.std.specs.Prelude.{ℕ, pos, negsuc, ◌%◌, ◌^◌, ◌==◌, Bool, true, false, if◌then◌else◌}
use Rattle.std.specs.Prelude.{List, [], ◌∷◌, codes, Option, Some, None}
use Rattle.rustc_apfloat.specs.{Datum.Datum, Digits.same, Format.Format}
use Rattle.small_formats.specs.{Codes.datum_of, Float8E3M4.e3m4_datum, Float8E3M4.e3m4_format, Scales.scale_format}
use Rattle.small_formats.specs.{Scales.scale_of, Storage.StorageConstants, Storage.constants_with, Storage.format_with}
use Rattle.small_formats.specs.Unsigned.{signed_format, unsigned_datum}
use Rattle.apfloat_arrays.specs.declared.stored.formats.StoredFormat.{StoredFormat, TheVariants.E2M1FN}
use Rattle.apfloat_arrays.specs.declared.stored.formats.StoredFormat.TheVariants.{E2M3FN, E3M2FN, E3M4, E8M0FNU, UE4M3}

-- ---- formats

abbrev pub e2m1fn_constants : StorageConstants
e2m1fn_constants = constants_with 4 2 (pos 0)

abbrev pub e2m3fn_constants : StorageConstants
e2m3fn_constants = constants_with 6 4 (pos 0)

abbrev pub e3m2fn_constants : StorageConstants
e3m2fn_constants = constants_with 6 3 (negsuc 1)

-- how many bits a code has
abbrev pub bits_in : StoredFormat → ℕ
bits_in E2M1FN = 4
bits_in E2M3FN = 6
bits_in E3M2FN = 6
bits_in E3M4 = 8
bits_in E8M0FNU = 8
bits_in UE4M3 = 7

abbrev pub format_in : StoredFormat → Format
format_in E2M1FN = format_with e2m1fn_constants
format_in E2M3FN = format_with e2m3fn_constants
format_in E3M2FN = format_with e3m2fn_constants
format_in E3M4 = e3m4_format
format_in E8M0FNU = scale_format
format_in UE4M3 = signed_format

-- what the code in a byte means; bits above those of the format are ignored
abbrev pub datum_in : StoredFormat → ℕ → Datum
datum_in E2M1FN byte = datum_of e2m1fn_constants (byte % 2 ^ 4)
datum_in E2M3FN byte = datum_of e2m3fn_constants (byte % 2 ^ 6)
datum_in E3M2FN byte = datum_of e3m2fn_constants (byte % 2 ^ 6)
datum_in E3M4 byte = e3m4_datum byte
datum_in E8M0FNU byte = scale_of byte
datum_in UE4M3 byte = unsigned_datum (byte % 128)

-- ---- saturation

-- the code of the largest number with this sign; a format without a sign has one
abbrev pub largest_code : StoredFormat → Bool → ℕ
largest_code E2M1FN negative = if negative then 15 else 7
largest_code E2M3FN negative = if negative then 63 else 31
largest_code E3M2FN negative = if negative then 63 else 31
largest_code E3M4 negative = if negative then 239 else 111
largest_code E8M0FNU negative = 254
largest_code UE4M3 negative = 126

-- Where only finite values are wanted: whether an infinity with this sign is converted as without saturation. So it is
-- where that gives the largest number already, and where the format has no numbers with that sign.
abbrev pub keeps_infinity : StoredFormat → Bool → Bool
keeps_infinity E2M1FN negative = true
keeps_infinity E2M3FN negative = true
keeps_infinity E3M2FN negative = true
keeps_infinity E3M4 negative = false
keeps_infinity E8M0FNU negative = negative
keeps_infinity UE4M3 negative = negative

-- ---- words and codes

pub record FormatRow : Type 0 where
  pub format : StoredFormat
  pub word : List ℕ
  pub code : ℕ

abbrev row : StoredFormat → List ℕ → ℕ → FormatRow
row format word code = record { format = format; word = word; code = code }

-- Formats without a sign have codes from 48 on.
abbrev pub stored_formats : List FormatRow
stored_formats =
    row E2M1FN (codes "e2m1fn") 32
    ∷ row E2M3FN (codes "e2m3fn") 33
    ∷ row E3M2FN (codes "e3m2fn") 34
    ∷ row E3M4 (codes "e3m4") 35
    ∷ row E8M0FNU (codes "e8m0fnu") 48
    ∷ row UE4M3 (codes "ue4m3") 49
    ∷ []

-- the format of the first row that passes the test
abbrev pub first_format : (FormatRow → Bool) → List FormatRow → Option StoredFormat
first_format test [] = None
first_format test (row ∷ rows) = if test row then Some row.format else first_format test rows

abbrev pub stored_format_named : List ℕ → Option StoredFormat
stored_format_named word = first_format (λ (row : FormatRow). same word row.word) stored_formats

abbrev pub stored_format_coded : ℕ → Option StoredFormat
stored_format_coded code = first_format (λ (row : FormatRow). code == row.code) stored_formats
