-- Codes that a table copies.
use Rattle.std.proofs.Common.{◌≡◌, ℕ, ◌+◌, ◌-◌, ◌*◌, ◌%◌, ◌^◌, ◌<◌, ◌≤◌, List, [], ◌∷◌, ◌++◌, length, sym, ap, ◌∙◌}
use Rattle.std.proofs.{Common.subst, Common.arith, lemmas.Nat.pow_pos}
use Rattle.rustc_apfloat.specs.{declared.Round.Round, Datum.Datum, Flags.bits_of, Lawful.Constants, Lawful.format_with}
use Rattle.small_formats.specs.{Codes.datum_of, Unsigned.unsigned_datum, declared.saturation.Overflow.Overflow}
use Rattle.small_formats.specs.saturation.Saturation.{IsConversionBy}
use Rattle.apfloat_arrays.specs.{declared.stored.formats.StoredFormat.TheVariants.UE4M3, Blocks.value_at}
use Rattle.apfloat_arrays.specs.{Bytes.number_of, Entries.HasEntry, Entries.IsEntry, Tables.outcome_tally}
use Rattle.apfloat_arrays.specs.declared.{counts.Outcome.Outcome, stored.formats.StoredFormat.StoredFormat}
use Rattle.apfloat_arrays.specs.declared.stored.formats.StoredFormat.TheVariants.{E2M1FN, E2M3FN, E3M2FN, E3M4, E8M0FNU}
use Rattle.apfloat_arrays.specs.stored.{Arrays.IsLoaded, CodeTables.AreCodeEntries, Formats.bits_in, Formats.datum_in}
use Rattle.apfloat_arrays.specs.stored.Formats.{e2m1fn_constants, e2m3fn_constants, e3m2fn_constants, format_in}
use Rattle.apfloat_arrays.proofs.{Places.places_more, TalliedResults.found}
use borrow.Rule.Slice.PartMut.{put_mid}

-- bytes that mean what an earlier one does
like_byte : (format : StoredFormat) (place : ℕ) → 2 ^ bits_in format ≤ place → place < 256
    → datum_in format (place - 2 ^ bits_in format) ≡ datum_in format place
like_byte E2M1FN place past within =
    let same : (place - 2 ^ 4) % 2 ^ 4 ≡ place % 2 ^ 4 = omega (arith, past) in
    ap (datum_of e2m1fn_constants) same
like_byte E2M3FN place past within =
    let same : (place - 2 ^ 6) % 2 ^ 6 ≡ place % 2 ^ 6 = omega (arith, past) in
    ap (datum_of e2m3fn_constants) same
like_byte E3M2FN place past within =
    let same : (place - 2 ^ 6) % 2 ^ 6 ≡ place % 2 ^ 6 = omega (arith, past) in
    ap (datum_of e3m2fn_constants) same
like_byte E3M4 place past within = absurd (omega (arith, past, within))
like_byte E8M0FNU place past within = absurd (omega (arith, past, within))
like_byte UE4M3 place past within =
    let same : (place - 2 ^ 7) % 128 ≡ place % 128 = omega (arith, past) in
    ap unsigned_datum same

loaded_like : (overflow : Overflow) (format : StoredFormat) (d : Constants) (mode : Round) (like place bits : ℕ)
    (outcome : Outcome) → datum_in format like ≡ datum_in format place
    → IsLoaded overflow format d mode like bits outcome → IsLoaded overflow format d mode place bits outcome
loaded_like overflow format d mode like place bits outcome same it =
    record {
      value = it.value;
      loses = it.loses;
      is_conversion =
          subst
          (λ (x : Datum). IsConversionBy overflow (format_in format) (format_with d) mode x it.value
          (bits_of outcome.status) it.loses) same it.is_conversion;
      is_encoded = it.is_encoded;
      nan_is = it.nan_is;
    }

-- one more entry is copied to its place
pub entry_copied : (overflow : Overflow) (format : StoredFormat) (d : Constants) (mode : Round) (codes place : ℕ)
    (table entry : List ℕ) → codes ≡ 2 ^ bits_in format → codes ≤ place → place < 256
    → length table ≡ 256 * 8 → length entry ≡ 8 → entry ≡ value_at 8 (place - codes) table
    → AreCodeEntries overflow format d mode place table
    → AreCodeEntries overflow format d mode (place + 1) (put_mid (place * 8) (place * 8 + 8 - place * 8) table entry)
entry_copied overflow format d mode codes place table entry codes_are past within long wide copied so_far =
    let Answers : ℕ → ℕ → Outcome → Type 0 = IsLoaded overflow format d mode in
    let some : 0 < 2 ^ bits_in format = pow_pos (bits_in format) in
    let from = found Answers outcome_tally (place - codes) place table (omega (arith, codes_are, past, some)) so_far in
    let like : datum_in format (place - codes) ≡ datum_in format place =
    ap (λ (n : ℕ). datum_in format (place - n)) codes_are
    ∙ like_byte format place (subst (λ (n : ℕ). n ≤ place) codes_are past) within in
    let made : HasEntry Answers outcome_tally place entry from.0 = record {
      result = from.1.result;
      is_answer = loaded_like overflow format d mode (place - codes) place from.1.result from.0 like from.1.is_answer;
      is_entry =
          subst (λ (bytes : List ℕ). IsEntry (number_of bytes) from.1.result (outcome_tally from.0)) (sym copied)
          from.1.is_entry;
    } in
    record {
      outcomes = so_far.outcomes ++ from.0 ∷ [];
      places = places_more (HasEntry Answers outcome_tally) 8 place 256 table entry so_far.outcomes from.0 within long
          wide made so_far.places;
    }
