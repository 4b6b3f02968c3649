-- Numbers that become codes: a significand that is moved up, cut and rounded.
use Rattle.std.proofs.Common.{◌≡◌, ℕ, ◌+◌, ◌-◌, ◌*◌, ◌/◌, ◌%◌, ◌^◌, ◌<◌, ◌≤◌, ◌⊎◌, min, Bool, true, false, cond, not}
use Rattle.std.proofs.Common.{eqb, leb, ltb, refl, sym, ap, ◌∙◌, subst, inl, inr, ⊎_elim, arith}
use Rattle.std.proofs.Math.Nat.{add-mul-mod_self_right, div-eq_of_lt, min-eq_left, min-eq_right, min-le_right}
use Rattle.std.proofs.Math.Nat.{mod-eq_of_lt, mul-le-mul_right, mul-lt-mul_of_pos_right, pow-le-pow_right}
use Rattle.std.proofs.lemmas.{Bool.eqb-false, Bool.ne_eqb, Nat.div-add-mod', Nat.mod_below, Nat.pow-add, Nat.pow_pos}
use Rattle.std.proofs.lemmas.Bool.{cases_eq, cases_lt, cond-false, eq-eqb, eqb-true, le-leb, le-ltb, lt-leb, lt-ltb}
use Rattle.std.specs.{Bool.MatchBool, Int.RustNames.bit_and}
use Rattle.apfloat_model.specs.bits.Layout.{datum_of, datum_of_fields}
use Rattle.apfloat_model.specs.declared.kinds.{NonfiniteBehavior.TheVariants.IEEE754, Round.Round}
use Rattle.apfloat_model.specs.formats.{Datum.Datum, Datum.finite, Format.Format, Format.largest}
use Rattle.apfloat_model.specs.formats.Lawful.{Constants, format_with as constants_format, layout_with}
use Rattle.apfloat_model.specs.rounding.{Enclosure.IsEnclosed, Enclosure.rounds_up, Rounding.IsPick}
use Rattle.apfloat_model.specs.rounding.{Rounding.delivered_status, Rounding.leads_out, Standing.StandsFor}
use Rattle.apfloat_model.proofs.{bits.EncodedOnce.fields_with, general.Powers.twice_half, general.Powers.two_pos}
use Rattle.apfloat_model.proofs.rounding.{Laws.exact_is_picked, Laws.zero_on_grid, Picks.pick_unique}
use Rattle.apfloat_model.proofs.rounding.KeptDigits.{enclosed_from, fits_cut, full_cut}
use Rattle.apfloat_rounding.specs.Cuts.{loss_at}
use Rattle.apfloat_rounding.proofs.CutRests.{loss_zero, rest_stands, loss_some}
use Rattle.fast_bits.specs.Addends.{rounded_by}
use Rattle.fast_bits.proofs.lanes_lemmas.{Cuts.far_below, Cuts.in_quanta, Singles.fields_number}
use Rattle.small_formats.specs.{Picks.IsPickedAt, blocks.Elements.IsSaturatedIn}
use Rattle.small_formats.specs.Codes.{datum_of as number_of_code, largest_index, magnitude_of, point}
use Rattle.small_formats.specs.Conversions.{IsGiven, IsInto, IsStoredNumber, saturated_value}
use Rattle.small_formats.specs.Storage.{IsLawfulStorage, StorageConstants, format_with}
use Rattle.small_formats.proofs.Points.{points_in_order}
use Rattle.small_formats.proofs.StoredPicks.{largest_point, not_greater, picked_at, tiny_is}
use Rattle.apfloat_arrays.specs.stored.NumberCodes.{HasCodes, IsCodedNumber, biased_of, code_at, is_minus, quanta_in}
use Rattle.apfloat_arrays.specs.stored.NumberCodes.{significand_of, status_at}

-- ---- the cut

-- what is above `low` digits of t is kept of amount / parts quanta at a place, and the rest is the loss
pub record IsCutAt (p low place t amount parts : ℕ) : Type 0 where
  pub enclosed : IsEnclosed p (2 ^ (p - 1)) (t / 2 ^ low) place amount parts
  pub stands : StandsFor (t / 2 ^ low) (loss_at (t % 2 ^ low) (2 ^ (low - 1))) amount (2 ^ place * parts)

-- the number itself, moved up
near_stands : (low w m e to place from : ℕ) → 0 < low → low + e + to ≡ w + place + from
    → StandsFor (m * 2 ^ w / 2 ^ low) (loss_at (m * 2 ^ w % 2 ^ low) (2 ^ (low - 1))) (m * 2 ^ e * 2 ^ to)
    (2 ^ place * 2 ^ from)
near_stands low w m e to place from some balance =
    let t = m * 2 ^ w in
    let q = t / 2 ^ low in
    let rest = t % 2 ^ low in
    let half = 2 ^ (low - 1) in
    let twice : 2 * 2 ^ (low - 1) ≡ 2 ^ low = twice_half low some in
    let below : rest < 2 * half =
    subst (λ (x : ℕ). t % 2 ^ low < x) (sym twice) (mod_below t (2 ^ low) (pow_pos low)) in
    let whole : q * (2 * half) + rest ≡ t = ap (λ (x : ℕ). q * x + rest) twice ∙ div-add-mod' t (2 ^ low) in
    let units : t ≡ (q * (2 * half) + rest) * 2 ^ 0 = omega (arith, whole) in
    in_quanta q (loss_at rest half) m w low 0 e to place from (omega (arith, balance))
    (subst (λ (x : ℕ). StandsFor q (loss_at rest half) t (x * 2 ^ 0)) twice
    (rest_stands q half rest t (2 ^ 0) (pow_pos 0) below units))

none_stands : (low w m amount unit : ℕ) → m ≡ 0 → amount ≡ 0
    → StandsFor (m * 2 ^ w / 2 ^ low) (loss_at (m * 2 ^ w % 2 ^ low) (2 ^ (low - 1))) amount unit
none_stands low w m amount unit none nothing =
    let zero : m * 2 ^ w ≡ 0 = ap (λ (x : ℕ). x * 2 ^ w) none ∙ omega arith in
    let some : 0 < 2 ^ low = pow_pos low in
    let less : m * 2 ^ w < 2 ^ low = omega (arith, zero, some) in
    let quotient : m * 2 ^ w / 2 ^ low ≡ 0 = div-eq_of_lt less in
    let remainder : m * 2 ^ w % 2 ^ low ≡ 0 = mod-eq_of_lt less ∙ zero in
    rw (quotient, remainder) (omega (arith, nothing))

-- P digits of which p are kept, with 32 places of room
module _ (p P low first e m to from : ℕ) (some : 0 < p) (more : p ≤ P) (few : p ≤ 16) (fits : m < 2 ^ P)
    (full : (e ≡ 0) ⊎ (2 ^ (P - 1) ≤ m)) (scales : from ≡ to + (P - p) + first)
    (low_is : low ≡ P - p + 32) where
  abbrev Stands : ℕ → ℕ → Type 0
  Stands w place =
      StandsFor (m * 2 ^ w / 2 ^ low) (loss_at (m * 2 ^ w % 2 ^ low) (2 ^ (low - 1))) (m * 2 ^ e * 2 ^ to)
      (2 ^ place * 2 ^ from)

  far_stands : 32 < first - e → 0 < m → Stands 0 0
  far_stands far any =
      let same : m ≡ m * 2 ^ 0 = omega arith in
      let digits : P ≤ low - 1 = omega (arith, more, few, low_is) in
      let power : 2 ^ P ≤ 2 ^ (low - 1) = pow-le-pow_right two_pos digits in
      subst
      (λ (t : ℕ). StandsFor (t / 2 ^ low) (loss_at (t % 2 ^ low) (2 ^ (low - 1))) (m * 2 ^ e * 2 ^ to)
      (2 ^ 0 * 2 ^ from)) same
      (far_below m m low P e to from any fits any (omega (arith, fits, power)) (omega (arith, low_is))
      (omega (arith, scales, far, more, few)))

  some_stands : 0 < m → Stands (32 - min (first - e) 32) (e - first)
  some_stands any =
      ⊎_elim {C = Stands (32 - min (first - e) 32) (e - first)}
      (λ (far : 32 < first - e).
      let up : min (first - e) 32 ≡ 32 = min-eq_right (omega (arith, far)) in
      let w : 0 ≡ 32 - min (first - e) 32 = omega (arith, up) in
      let place : 0 ≡ e - first = omega (arith, far) in
      subst (λ (x : ℕ). Stands x (e - first)) w (subst (λ (x : ℕ). Stands 0 x) place (far_stands far any)))
      (λ (near : first - e ≤ 32).
      let up : min (first - e) 32 ≡ first - e = min-eq_left near in
      near_stands low (32 - min (first - e) 32) m e to (e - first) from (omega (arith, low_is))
      (omega (arith, up, near, low_is, scales, more)))
      (cases_lt 32 (first - e))

  all_stand : Stands (32 - min (first - e) 32) (e - first)
  all_stand =
      ⊎_elim {C = Stands (32 - min (first - e) 32) (e - first)}
      (λ (zero : m < 1).
      let none : m ≡ 0 = omega (arith, zero) in
      let left : m * 2 ^ e ≡ 0 = ap (λ (x : ℕ). x * 2 ^ e) none ∙ omega arith in
      let amount : m * 2 ^ e * 2 ^ to ≡ 0 = ap (λ (x : ℕ). x * 2 ^ to) left ∙ omega arith in
      none_stands low (32 - min (first - e) 32) m (m * 2 ^ e * 2 ^ to) (2 ^ (e - first) * 2 ^ from) none amount)
      (λ (any : 1 ≤ m). some_stands (omega (arith, any)))
      (cases_lt m 1)

  kept_fits : m * 2 ^ (32 - min (first - e) 32) / 2 ^ low < 2 ^ p
  kept_fits =
      let w : ℕ = 32 - min (first - e) 32 in
      let below : m * 2 ^ w < 2 ^ P * 2 ^ w = mul-lt-mul_of_pos_right fits (pow_pos w) in
      let power : 2 ^ (P + w) ≡ 2 ^ P * 2 ^ w = pow-add 2 P w in
      fits_cut (m * 2 ^ w) (P + w) low p (omega (arith, below, power)) (omega (arith, low_is, more))

  kept_full : (e - first ≡ 0) ⊎ (2 ^ (p - 1) ≤ m * 2 ^ (32 - min (first - e) 32) / 2 ^ low)
  kept_full =
      ⊎_elim {C = (e - first ≡ 0) ⊎ (2 ^ (p - 1) ≤ m * 2 ^ (32 - min (first - e) 32) / 2 ^ low)}
      (λ (above : first < e).
      let up : min (first - e) 32 ≡ first - e = min-eq_left (omega (arith, above)) in
      let w : 32 ≡ 32 - min (first - e) 32 = omega (arith, up, above) in
      let digits : 2 ^ (P - 1) ≤ m =
      ⊎_elim {C = 2 ^ (P - 1) ≤ m} (λ (z : e ≡ 0). absurd (omega (arith, z, above))) (λ h. h) full in
      let moved : 2 ^ (P - 1) * 2 ^ 32 ≤ m * 2 ^ 32 = mul-le-mul_right (2 ^ 32) digits in
      let power : 2 ^ (P - 1 + 32) ≡ 2 ^ (P - 1) * 2 ^ 32 = pow-add 2 (P - 1) 32 in
      let same : P + 32 - 1 ≡ P - 1 + 32 = omega (arith, some, more) in
      let last : 2 ^ (P + 32 - 1) ≤ m * 2 ^ 32 =
      subst (λ (x : ℕ). x ≤ m * 2 ^ 32) (sym (ap (λ (n : ℕ). 2 ^ n) same ∙ power)) moved in
      inr (subst (λ (x : ℕ). 2 ^ (p - 1) ≤ m * 2 ^ x / 2 ^ low) w
      (full_cut (m * 2 ^ 32) (P + 32) low p some (λ _. last) (omega (arith, low_is, more)))))
      (λ (under : e ≤ first). inl (omega (arith, under)))
      (cases_lt first e)

  pub cut_at : IsCutAt p low (e - first) (m * 2 ^ (32 - min (first - e) 32)) (m * 2 ^ e * 2 ^ to) (2 ^ from)
  cut_at =
      record {
        enclosed =
            enclosed_from p (m * 2 ^ (32 - min (first - e) 32) / 2 ^ low) (e - first)
            (loss_at (m * 2 ^ (32 - min (first - e) 32) % 2 ^ low) (2 ^ (low - 1))) (m * 2 ^ e * 2 ^ to) (2 ^ from)
            some (pow_pos from) kept_fits kept_full all_stand;
        stands = all_stand;
      }

-- ---- the pick

moved_sum : (up : Bool) (kept more : ℕ) → cond up (kept + 1) kept + more ≡ cond up (kept + more + 1) (kept + more)
moved_sum true kept more = omega arith
moved_sum false kept more = refl

pub picked : (p low place t amount parts index : ℕ) (mode : Round) (negative : Bool) → 0 < p → 0 < parts
    → IsCutAt p low place t amount parts → index ≡ rounded_by low mode negative t + place * 2 ^ (p - 1)
    → IsPickedAt p mode negative amount parts index (eqb (t % 2 ^ low) 0)
picked p low place t amount parts index mode negative some any it is =
    let kept = t / 2 ^ low in
    let rest = t % 2 ^ low in
    let loss = loss_at rest (2 ^ (low - 1)) in
    let up = rounds_up mode negative loss (eqb (kept % 2) 1) in
    picked_at p mode negative kept place amount parts index loss up (eqb rest 0) some any it.enclosed it.stands refl
    (is ∙ moved_sum up kept (place * 2 ^ (p - 1)))
    (λ e. loss_zero rest (2 ^ (low - 1)) (eqb-true rest 0 e))
    (λ e. let some = eqb-false rest 0 e in loss_some rest (2 ^ (low - 1)) (omega (arith, some)))

-- ---- what is delivered

-- the sign of a code, and the bits below it
record HasParts (half magnitude code : ℕ) (negative : Bool) : Type 0 where
  sign : leb half code ≡ negative
  rest : code % half ≡ magnitude

parts_of_code : (half magnitude code : ℕ) (negative : Bool) → magnitude < half → code ≡ cond negative half 0 + magnitude
    → HasParts half magnitude code negative
parts_of_code half magnitude code true l e =
    let swapped : code ≡ magnitude + 1 * half = omega (arith, e) in
    record {
      sign = le-leb half code (omega (arith, e));
      rest = ap (λ n. n % half) swapped ∙ add-mul-mod_self_right magnitude 1 half ∙ mod-eq_of_lt l;
    }
parts_of_code half magnitude code false l e =
    let same : code ≡ magnitude = omega (arith, e) in
    record { sign = lt-leb half code (omega (arith, same, l)); rest = ap (λ n. n % half) same ∙ mod-eq_of_lt l }

datum_is : (c : StorageConstants) (magnitude code : ℕ) (negative : Bool) → magnitude < 2 ^ (c.bits - 1)
    → code ≡ cond negative (2 ^ (c.bits - 1)) 0 + magnitude
    → number_of_code c code ≡ finite negative (point c.precision magnitude)
datum_is c magnitude code negative l e =
    let parts = parts_of_code (2 ^ (c.bits - 1)) magnitude code negative l e in
    ap (λ (b : Bool). finite b (point c.precision (magnitude_of c code))) parts.sign
    ∙ ap (λ (n : ℕ). finite negative (point c.precision n)) parts.rest

sign_most : (negative : Bool) (half : ℕ) → cond negative half 0 ≤ half
sign_most true half = omega arith
sign_most false half = omega arith

-- the code has the bits of its format
pub code_below : (c : StorageConstants) (negative : Bool) (most index code : ℕ) → 1 ≤ c.bits
    → most < 2 ^ (c.bits - 1) → code ≡ code_at c negative most index → code < 2 ^ c.bits
code_below c negative top index code some few is =
    let twice : 2 * 2 ^ (c.bits - 1) ≡ 2 ^ c.bits = twice_half c.bits some in
    let half : 0 < 2 ^ (c.bits - 1) = pow_pos (c.bits - 1) in
    let most : min index top ≤ top = min-le_right index top in
    let sign : cond negative (2 ^ (c.bits - 1)) 0 ≤ 2 ^ (c.bits - 1) = sign_most negative (2 ^ (c.bits - 1)) in
    omega (arith, twice, half, most, sign, few, is)

-- the status of an index that is not past the largest one
status_within : (s : StorageConstants) (leads exact : Bool) (most index status : ℕ)
    → status ≡ status_at s leads exact most index → index ≤ most
    → status ≡ cond exact 0 (cond (ltb index (2 ^ (s.precision - 1))) 24 16)
status_within s leads exact most index status flags within =
    flags
    ∙ ap (λ (b : Bool). cond b (cond leads 20 16) (cond exact 0 (cond (ltb index (2 ^ (s.precision - 1))) 24 16)))
    (le-ltb most index within)

pub saturated_by : (g : Format) (datum : ℕ → Datum) (s : StorageConstants) (mode : Round) (negative exact : Bool)
    (amount parts most index code status : ℕ) → HasCodes g datum s most
    → IsPickedAt s.precision mode negative amount parts index exact → code ≡ code_at s negative most index
    → status ≡ status_at s (leads_out mode negative) exact most index
    → IsSaturatedIn g mode negative amount parts (datum code) status
saturated_by g datum s mode negative exact amount parts most index code status has at is flags =
    let pick : ℕ = point s.precision index in
    let picked : IsPick g.precision mode negative amount parts (point s.precision index) =
    subst (λ (p : ℕ). IsPick p mode negative amount parts (point s.precision index)) (sym has.precision) at.is_pick in
    let top = has.top in
    ⊎_elim {C = IsSaturatedIn g mode negative amount parts (datum code) status}
    (λ (past : most < index).
    let least : min index most ≡ most = min-eq_right (omega (arith, past)) in
    let whole : code ≡ cond negative (2 ^ (s.bits - 1)) 0 + most =
    is ∙ ap (λ (n : ℕ). cond negative (2 ^ (s.bits - 1)) 0 + n) least in
    let value : datum code ≡ finite negative (largest g) =
    ap datum whole ∙ has.numbers negative most (omega arith) ∙ ap (finite negative) (sym top) in
    let more = points_in_order s.precision most index has.some past in
    let test : ltb (largest g) pick ≡ true = lt-ltb (largest g) pick (omega (arith, top, more)) in
    let raised : status ≡ cond (leads_out mode negative) 20 16 =
    flags
    ∙ ap (λ (b : Bool). cond b (cond (leads_out mode negative) 20 16)
    (cond exact 0 (cond (ltb index (2 ^ (s.precision - 1))) 24 16))) (lt-ltb most index past) in
    record { pick = pick; is_pick = picked; value_is = rw test value; status_is = rw (test, has.flags) raised })
    (λ (within : index ≤ most).
    let least : min index most ≡ index = min-eq_left within in
    let whole : code ≡ cond negative (2 ^ (s.bits - 1)) 0 + index =
    is ∙ ap (λ (n : ℕ). cond negative (2 ^ (s.bits - 1)) 0 + n) least in
    let below = not_greater s.precision index most has.some within in
    let test : ltb (largest g) pick ≡ false = le-ltb (largest g) pick (omega (arith, top, below)) in
    let raised : status ≡ cond (eqb (point s.precision index * parts) amount) 0
    (cond (ltb (point s.precision index) (2 ^ (s.precision - 1))) 24 16) =
    status_within s (leads_out mode negative) exact most index status flags within
    ∙ ap (λ (b : Bool). cond b 0 (cond (ltb index (2 ^ (s.precision - 1))) 24 16)) at.exact_is
    ∙ ap (λ (b : Bool). cond (eqb (point s.precision index * parts) amount) 0 (cond b 24 16))
    (tiny_is s.precision index has.some) in
    record {
      pick = pick;
      is_pick = picked;
      value_is = rw test (ap datum whole ∙ has.numbers negative index within);
      status_is = rw (test, has.tiny, has.flags, has.precision) raised;
    })
    (cases_lt most index)

-- those of a storage format
pub stored_codes : (c : StorageConstants) → IsLawfulStorage c
    → HasCodes (format_with c) (number_of_code c) c (largest_index c)
stored_codes c law =
    let half : 0 < 2 ^ (c.bits - 1) = pow_pos (c.bits - 1) in
    record {
      some = omega (arith, law.precision_low);
      precision = refl;
      tiny = refl;
      flags = refl;
      top = sym (largest_point c law);
      numbers = λ negative index within.
          datum_is c index (cond negative (2 ^ (c.bits - 1)) 0 + index) negative (omega (arith, half, within)) refl;
    }

pub no_overflow : (exact tiny : Bool) → bit_and (cond exact 0 (cond tiny 24 16)) 4 ≡ 0
no_overflow true tiny = refl
no_overflow false true = refl
no_overflow false false = refl

-- a number that is not past the largest one raises no OVERFLOW
pub overflow_only_past : (c : StorageConstants) (negative leads exact : Bool) (most index code status : ℕ)
    → code ≡ code_at c negative most index → status ≡ status_at c leads exact most index
    → (bit_and status 4 ≡ 0) ⊎ (code ≡ cond negative (2 ^ (c.bits - 1)) 0 + most)
overflow_only_past c negative leads exact most index code status is flags =
    ⊎_elim {C = (bit_and status 4 ≡ 0) ⊎ (code ≡ cond negative (2 ^ (c.bits - 1)) 0 + most)}
    (λ (past : most < index).
    inr (is ∙ ap (λ (n : ℕ). cond negative (2 ^ (c.bits - 1)) 0 + n) (min-eq_right (omega (arith, past)))))
    (λ (within : index ≤ most).
    let raised = status_within c leads exact most index status flags within in
    inl (ap (λ (n : ℕ). bit_and n 4) raised ∙ no_overflow exact (ltb index (2 ^ (c.precision - 1)))))
    (cases_lt most index)

-- ---- zeros and other numbers

-- a zero that is rounded is that zero
zero_given : (c : StorageConstants) (mode : Round) (negative : Bool) (amount parts code status : ℕ) → 0 < parts
    → amount ≡ 0 → IsSaturatedIn (format_with c) mode negative amount parts (number_of_code c code) status
    → IsGiven c (finite negative 0) 0 false code status (not (eqb status 0))
zero_given c mode negative amount parts code status some none is =
    let pick : is.pick ≡ 0 =
    pick_unique c.precision mode negative amount parts is.pick 0 is.is_pick
    (exact_is_picked c.precision mode negative 0 amount parts some (zero_on_grid c.precision) (omega (arith, none))) in
    let within : ltb (largest (format_with c)) 0 ≡ false = le-ltb (largest (format_with c)) 0 (omega arith) in
    let exact : eqb (0 * parts) amount ≡ true = eq-eqb (0 * parts) amount (omega (arith, none)) in
    let raised : status ≡ 0 =
    is.status_is ∙ ap (delivered_status (format_with c) mode negative amount parts) pick ∙ rw (within, exact) refl in
    record {
      value_is = is.value_is ∙ ap (saturated_value (format_with c) negative) pick ∙ rw within refl;
      status_is = raised;
      loses_is = ap (λ (n : ℕ). not (eqb n 0)) raised;
    }

-- a number, rounded, is the code of a value
pub number_into : (c : StorageConstants) (k : Constants) (f : Format) (mode : Round) (first bits code status : ℕ)
    → IsLawfulStorage c → f.scale ≡ (format_with c).scale + (k.precision - c.precision) + first
    → IsCodedNumber k c mode first (largest_index c) bits code status
    → IsInto c f mode (finite (is_minus k bits) (quanta_in k bits)) code status (not (eqb status 0))
number_into c k f mode first bits code status law scales is =
    let negative = is_minus k bits in
    let n = quanta_in k bits in
    let amount = n * 2 ^ (format_with c).scale in
    let saturated : IsSaturatedIn (format_with c) mode (is_minus k bits) (n * 2 ^ (format_with c).scale) (2 ^ f.scale)
    (number_of_code c code) status =
    saturated_by (format_with c) (number_of_code c) c mode negative is.exact amount (2 ^ f.scale) (largest_index c)
    is.index code status (stored_codes c law) (is.picked (format_with c).scale f.scale scales) is.code_is
    is.status_is in
    let Says : Bool → Type 0 = λ b. MatchBool b
    (IsGiven c (finite negative 0) 0 false code status (not (eqb status 0)))
    (IsStoredNumber c f mode negative n code status (not (eqb status 0))) in
    ⊎_elim {C = Says (eqb n 0)}
    (λ (none : n ≡ 0).
    let nothing : amount ≡ 0 = ap (λ (m : ℕ). m * 2 ^ (format_with c).scale) none ∙ omega arith in
    subst Says (sym (eq-eqb n 0 none))
    (zero_given c mode negative amount (2 ^ f.scale) code status (pow_pos f.scale) nothing saturated))
    (λ (other : n ≡ 0 → ⊥).
    subst Says (sym (ne_eqb n 0 other))
    (record {
      is_rounded = record {
        pick = saturated.pick;
        is_pick = saturated.is_pick;
        value_is = saturated.value_is;
        status_is = saturated.status_is;
      };
      loses_is = refl;
    }))
    (cases_eq n 0)

-- ---- from bits

pub number_read : (c : Constants) (x : ℕ) → c.nonfinite ≡ IEEE754 → c.explicit_integer_bit ≡ false
    → (biased_of c x ≡ 2 ^ c.exp_bits - 1 → ⊥) → datum_of (constants_format c) (layout_with c) x
    ≡ finite (is_minus c x) (significand_of c x * 2 ^ (biased_of c x - 1))
number_read c x kind implied some =
    let width = cond-false c.explicit_integer_bit _ _ implied in
    (λ i. datum_of_fields (constants_format c) (layout_with c)
    (fields_with (is_minus c x) (x / 2 ^ width i % 2 ^ c.exp_bits) (x % 2 ^ width i)))
    ∙ fields_number (constants_format c) (layout_with c) (is_minus c x) (biased_of c x)
    (x % 2 ^ (c.precision - 1)) kind
    implied (ne_eqb (biased_of c x) (2 ^ c.exp_bits - 1) some)

-- only denormal numbers lack the integer bit
pub normal_full : (c : Constants) (x : ℕ) → (biased_of c x - 1 ≡ 0) ⊎ (2 ^ (c.precision - 1) ≤ significand_of c x)
normal_full c x =
    ⊎_elim {C = (biased_of c x - 1 ≡ 0) ⊎ (2 ^ (c.precision - 1) ≤ significand_of c x)}
    (λ (z : biased_of c x < 1). inl (omega (arith, z)))
    (λ (q : 1 ≤ biased_of c x).
    let one : min (biased_of c x) 1 * 2 ^ (c.precision - 1) ≡ 1 * 2 ^ (c.precision - 1) =
    ap (λ (n : ℕ). n * 2 ^ (c.precision - 1)) (min-eq_right q) in
    inr (omega (arith, one)))
    (cases_lt (biased_of c x) 1)
