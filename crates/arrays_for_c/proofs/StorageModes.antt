-- Arrays that are rounded into storage formats by the modes of conversions.
use Rattle.std.proofs.Common.{◌≡◌, ℕ, ◌+◌, ◌*◌, ◌/◌, ◌%◌, ◌≤◌, Bool, true, false, List}
use Rattle.std.proofs.Common.{◌++◌, length, take, drop, Result, Ok, Err, refl, sym, ap, subst, arith}
use Rattle.std.proofs.lemmas.{Bool.and_parts, Bool.eqb-true, List.take_at, Nat.div-add-mod', Slice.drop-append-drop}
use Rattle.std.specs.Prelude.{◌==◌}
use Rattle.apfloat_arrays.specs.declared.{Counts.Counts, stored.EachRound.EachRound}
use Rattle.apfloat_arrays.specs.declared.stored.EachRound.TheVariants.{Ieee, ToOdd, Stochastic}
use Rattle.apfloat_arrays.specs.declared.stored.ModeConversion.{ModeConversion}
use Rattle.apfloat_arrays.specs.stored.ByMode.{AreStoredWith, HasRandoms, mode_width}
use Rattle.arrays_for_c.specs.{declared.array_data.ArrayAnswer.ArrayAnswer, ArrayCalls.if_fitting}
use Rattle.arrays_for_c.specs.ArrayCalls.{lengths_fit}
use Rattle.arrays_for_c.specs.Arrays.{answer_with}
use Rattle.arrays_for_c.specs.StorageModes.{AreAllStored, IsModeArray, arrays_fit, known_mode_array, randoms_fit}
use Rattle.arrays_for_c.proofs.ArrayCalls.{roomy}

-- ---- lengths

has_randoms : (round : EachRound) (count size : ℕ) → randoms_fit round count size ≡ true
    → HasRandoms round count size
has_randoms (Ieee mode) count size fits = tt
has_randoms ToOdd count size fits = tt
has_randoms (Stochastic digits) count size fits =
    let parts = and_parts (size % 4 == 0) _ fits in
    let none : size % 4 ≡ 0 = eqb-true _ _ parts.0 in
    let all : size / 4 ≡ count = eqb-true _ _ parts.1 in
    let split : size / 4 * 4 + size % 4 ≡ size = div-add-mod' size 4 in
    let whole : size / 4 * 4 ≡ count * 4 = ap (λ (n : ℕ). n * 4) all in
    omega (arith, split, none, whole)

fitting_ok : (fits : Bool) (call known : ModeConversion) → if_fitting fits call ≡ Ok known
    → (fits ≡ true) × (call ≡ known)
fitting_ok true call known e = (refl, cc)
fitting_ok false call known e = absurd (cc)

-- An array that is not refused: an integral number of values, a random number for each, and room for their codes.
pub record IsKnownArray (asked : Result ModeConversion ℕ) (randoms given room : ℕ) (it : ModeConversion)
    : Type 0 where
  pub asked_is : asked ≡ Ok it
  pub whole : given ≡ given / mode_width it * mode_width it
  pub enough : given / mode_width it ≤ room
  pub randoms_are : HasRandoms it.round (given / mode_width it) randoms

pub array_is_known : (asked : Result ModeConversion ℕ) (randoms given room : ℕ) (it : ModeConversion)
    → known_mode_array asked randoms given room ≡ Ok it → IsKnownArray asked randoms given room it
array_is_known (Err error) randoms given room it e = absurd (cc)
array_is_known (Ok call) randoms given room it e =
    let both = fitting_ok (arrays_fit call randoms given room) call it e in
    let parts = and_parts (lengths_fit (mode_width call) 1 given room) _ both.0 in
    let room_is = roomy (mode_width call) 1 given room parts.0 in
    let enough = room_is.enough in
    subst (λ (i : ModeConversion). IsKnownArray (Ok call) randoms given room i) both.1
    (record {
      asked_is = refl;
      whole = room_is.whole;
      enough = omega (arith, enough);
      randoms_are = has_randoms call.round (given / mode_width call) randoms parts.1;
    })

-- there is room for as many codes
pub enough_room : (asked : Result ModeConversion ℕ) (width randoms given room : ℕ) (it : ModeConversion)
    → known_mode_array asked randoms given room ≡ Ok it → width ≡ mode_width it → given / width ≤ room
enough_room asked width randoms given room it known_is width_is =
    subst (λ (w : ℕ). given / w ≤ room) (sym width_is) (array_is_known asked randoms given room it known_is).enough

-- ---- results

-- the codes are at the front, and the bytes after them are as before
pub mode_left : (known : Result ModeConversion ℕ) (it : ModeConversion) (width : ℕ)
    (randoms given old front : List ℕ) (counts : Counts) (before after : ArrayAnswer) → width ≡ mode_width it
    → known ≡ Ok it → length front ≡ length given / width
    → AreStoredWith it randoms given (length given / width) front counts
    → after ≡ answer_with (record { counts = counts; div_by_zero = 0 })
    → IsModeArray known randoms given old (front ++ drop (length given / width) old) before after 0
mode_left known it width randoms given old front counts before after width_is known_is size stored after_is =
    let count = length given / width in
    let front_is : take count (front ++ drop count old) ≡ front = take_at front (drop count old) _ size in
    let At : ℕ → Type 0 = λ (w : ℕ). AreAllStored it (length given / w) randoms given old
    (front ++ drop count old) after in
    let stored_all : AreAllStored it count randoms given old (front ++ drop count old) after =
    record {
      counts = counts;
      are_stored = subst (λ (l : List ℕ). AreStoredWith it randoms given count l counts) (sym front_is) stored;
      kept = drop-append-drop count old front count (let least : count ≤ count = omega arith in least) size;
      answer_is = after_is;
    } in
    subst (λ (k : Result ModeConversion ℕ). IsModeArray k randoms given old (front ++ drop count old) before after 0)
    (sym known_is) (refl, subst At width_is stored_all)
