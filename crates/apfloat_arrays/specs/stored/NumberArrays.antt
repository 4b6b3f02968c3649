-- Arrays of values that are converted into a storage format.
use Rattle.std.specs.Prelude.{◌≡◌, ℕ, ◌+◌, ◌-◌, ◌*◌, ◌<◌, ◌≤◌, pos, negsuc, false, List, length}
use Rattle.apfloat_model.specs.declared.kinds.NonfiniteBehavior.TheVariants.{IEEE754}
use Rattle.rustc_apfloat.specs.Lawful.{Constants, constants_with, format_with, layout_with}
use Rattle.fast_bits.specs.lanes.Targets.{IsSingleFormat}
use Rattle.fast_bits.specs.declared.words.WordPlan.{WordPlan}
use Rattle.small_formats.specs.Storage.{StorageConstants}
use Rattle.apfloat_arrays.specs.declared.{counts.Counts.Counts, stored.array.StoreCall.StoreCall}
use Rattle.apfloat_arrays.specs.{declared.stored.formats.StoredFormat.StoredFormat, Blocks.IsBlock}
use Rattle.apfloat_arrays.specs.declared.stored.formats.StoredFormat.TheVariants.{E3M4}
use Rattle.apfloat_arrays.specs.stored.{Arrays.IsStoredIn, NumberCodes.HasConstants, NumberCodes.IsWordSource}

-- the bytes of all values, and room for their codes
pub record AreStorable (c : Constants) (call : StoreCall) (into : List ℕ) : Type 0 where
  pub read : c.precision < c.bits
  pub width : call.width ≤ 16
  pub input : length call.input.now ≡ call.count * call.width
  pub output : length into ≡ call.count * 1

abbrev pub AreStored : Constants → StoreCall → List ℕ → Counts → Type 0
AreStored c call output counts =
    IsBlock (IsStoredIn call.overflow c call.target call.round) call.width 1 call.count call.input.now output counts

-- the numbers of values of so many bytes become codes from bits to bits
pub record HasNumbers (c : Constants) (s : StorageConstants) (target : StoredFormat) (plan : WordPlan)
    (source code : ℕ) : Type 0 where
  pub read : c.precision < c.bits
  pub format : HasConstants target s
  pub word : IsWordSource c s
  pub low : plan.low ≡ c.precision - s.precision + 32
  pub whole : 8 * source ≡ c.bits
  pub one : code ≡ 1

-- ---- `e3m4`

-- its constants, in the form of those of formats that have a type
abbrev pub e3m4_constants : Constants
e3m4_constants = constants_with 8 3 5 IEEE754 (pos 3) (pos 3) (negsuc 1) (negsuc 1) 0 15 8 false false

-- values of so many bytes are singles, and become codes of `e3m4`
pub record AreSinglesInto (c : Constants) (width : ℕ) (target : StoredFormat) : Type 0 where
  pub single : IsSingleFormat (format_with c) (layout_with c)
  pub bytes : width ≡ 4
  pub e3m4 : target ≡ E3M4
