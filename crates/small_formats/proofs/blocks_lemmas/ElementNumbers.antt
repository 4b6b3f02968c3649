-- The numbers of the element formats: on the grid of their format, and at most its largest number.
use mathlib.Core.Bool.{true≢false}
use Rattle.std.proofs.Common.{lit≤, if◌then◌else◌, ◌≡◌, ℕ, zero, suc, ◌+◌, ◌-◌, ◌*◌, ◌^◌, ◌<◌, ◌≤◌, Bool, true, false}
use Rattle.std.proofs.Common.{◌&&◌, eqb, refl, sym, ap, ◌∙◌, subst, arith}
use Rattle.std.proofs.lemmas.{Bool.and_from, Bool.eq-eqb, Bool.ne_eqb, Nat.mod_below, Nat.pow_pos}
use Rattle.apfloat_model.specs.{order.Classes.is_finite, order.Classes.quanta_of, rounding.Grid.IsOnGrid}
use Rattle.apfloat_model.specs.bits.Layout.{fields_of, has_all_ones, implied_number}
use Rattle.apfloat_model.specs.formats.{Format.Format, Format.largest, Format.nan_base, Formats.e4m3fn_constants}
use Rattle.apfloat_model.specs.formats.{Formats.e5m2_constants, Lawful.format_with, Lawful.layout_with}
use Rattle.apfloat_model.specs.formats.Datum.{Datum, finite, infinite, nan}
use Rattle.apfloat_model.proofs.{general.Powers.twice_half, rounding.Neighbours.multiple_on_grid}
use Rattle.apfloat_model.proofs.bits.Encodings.{fields_within}
use Rattle.apfloat_model.proofs.formats.Ranges.{ieee_within, nan_only_within}
use Rattle.small_formats.specs.{Codes.largest_index, Codes.magnitude_of, Codes.point, LawTest.lawful_from_test}
use Rattle.small_formats.specs.Storage.{StorageConstants, IsLawfulStorage, format_with as stored_format}
use Rattle.small_formats.specs.declared.blocks.elements.ElementFormat.{ElementFormat}
use Rattle.small_formats.specs.declared.blocks.elements.ElementFormat.TheVariants.{E5M2, E4M3FN, E3M2FN, E2M3FN, E2M1FN}
use Rattle.small_formats.specs.blocks.Elements.{e2m1fn, e2m3fn, e3m2fn, element_datum, format_of_element, width}
use Rattle.small_formats.proofs.{Points.point_on_grid, StoredPicks.largest_point, StoredPicks.not_greater}
use Rattle.small_formats.proofs.blocks_lemmas.ElementsOnce.{e4m3fn_interchange, e5m2_interchange}

pub record IsElementNumber (element : ElementFormat) (quanta : ℕ) : Type 0 where
  pub on_grid : IsOnGrid (format_of_element element).precision quanta
  pub within : quanta ≤ largest (format_of_element element)

-- ---- storage formats

pub record IsStoredNumber (c : StorageConstants) (quanta : ℕ) : Type 0 where
  pub on_grid : IsOnGrid c.precision quanta
  pub within : quanta ≤ largest (stored_format c)

pub stored_number : (c : StorageConstants) (code : ℕ) → IsLawfulStorage c
    → IsStoredNumber c (point c.precision (magnitude_of c code))
stored_number c code law =
    let some : 0 < c.precision = omega (arith, law.precision_low) in
    let half : ℕ = 2 ^ (c.bits - 1) in
    let below : magnitude_of c code < half = mod_below code half (pow_pos (c.bits - 1)) in
    let most = not_greater c.precision (magnitude_of c code) (largest_index c) some (omega (arith, below)) in
    record {
      on_grid = point_on_grid c.precision (magnitude_of c code) some;
      within = let at = largest_point c law in omega (arith, most, at);
    }

e3m2fn_law : IsLawfulStorage e3m2fn
e3m2fn_law = lawful_from_test _ refl

e2m3fn_law : IsLawfulStorage e2m3fn
e2m3fn_law = lawful_from_test _ refl

pub e2m1fn_law : IsLawfulStorage e2m1fn
e2m1fn_law = lawful_from_test _ refl

-- ---- formats of 8 bits: a finite code is an implied number

pub record IsNumberIn (f : Format) (quanta : ℕ) : Type 0 where
  pub on_grid : IsOnGrid f.precision quanta
  pub within : quanta ≤ largest f

-- of a biased exponent and a trailing significand
implied_in : (f : Format) (negative : Bool) (biased trailing : ℕ) → 0 < f.precision → trailing < 2 ^ (f.precision - 1)
    → trailing ≤ largest f → (1 ≤ biased → (2 ^ (f.precision - 1) + trailing) * 2 ^ (biased - 1) ≤ largest f)
    → IsNumberIn f (quanta_of (if eqb biased 0 then finite negative trailing
    else finite negative ((2 ^ (f.precision - 1) + trailing) * 2 ^ (biased - 1))))
implied_in f negative zero trailing some fits low top =
    let double : 2 * 2 ^ (f.precision - 1) ≡ 2 ^ f.precision = twice_half f.precision some in
    record {
      on_grid = record { significand = trailing; place = 0; fits = omega (arith, fits, double); is = omega arith };
      within = low;
    }
implied_in f negative (suc biased) trailing some fits low top =
    let double : 2 * 2 ^ (f.precision - 1) ≡ 2 ^ f.precision = twice_half f.precision some in
    let m : ℕ = 2 ^ (f.precision - 1) + trailing in
    let off : eqb (suc biased) 0 ≡ false = ne_eqb (suc biased) 0 (λ e. omega (arith, e)) in
    let at : quanta_of (if eqb (suc biased) 0 then finite negative trailing
    else finite negative (m * 2 ^ (suc biased - 1))) ≡ m * 2 ^ (suc biased - 1) = rw off refl in
    subst (λ (q : ℕ). IsNumberIn f q) (sym at)
    (record {
      on_grid = multiple_on_grid f.precision m (suc biased - 1) (omega (arith, fits, double));
      within = top (omega arith);
    })

-- the greatest exponent is not that of a number
not_all : (ones none negative : Bool) (trailing : ℕ) (x : Datum)
    → is_finite (if ones then (if none then infinite negative else nan negative trailing) else x) ≡ true → ones ≡ false
not_all true true negative trailing x h = cc
not_all true false negative trailing x h = cc
not_all false none negative trailing x h = refl

not_last : (last negative : Bool) (base : ℕ) (x : Datum)
    → is_finite (if last then nan negative base else x) ≡ true → last ≡ false
not_last true negative base x h = cc
not_last false negative base x h = refl

ieee_number : (code : ℕ) → is_finite (element_datum E5M2 code) ≡ true
    → IsElementNumber E5M2 (quanta_of (element_datum E5M2 code))
ieee_number code h =
    let f = format_with e5m2_constants in
    let layout = layout_with e5m2_constants in
    let x = fields_of f layout code in
    let within = fields_within f layout e5m2_interchange code in
    let t = within.trailing in
    let off = not_all (has_all_ones layout x) (eqb x.trailing 0) x.negative x.trailing (implied_number f x) h in
    let low : 4 ≤ largest f = lit≤ tt in
    let n = implied_in f x.negative x.biased_exponent x.trailing (lit≤ tt) t (omega (arith, t, low))
    (λ some. ieee_within f layout (2 ^ 2 + x.trailing) x.biased_exponent e5m2_interchange refl (omega (arith, t))
    within.biased_exponent (λ e. true≢false (sym (eq-eqb x.biased_exponent 31 e) ∙ off))) in
    let at : element_datum E5M2 code ≡ implied_number f x = rw off refl in
    subst (λ (q : ℕ). IsElementNumber E5M2 q) (sym (ap quanta_of at))
    (record { on_grid = n.on_grid; within = n.within })

nan_only_number : (code : ℕ) → is_finite (element_datum E4M3FN code) ≡ true
    → IsElementNumber E4M3FN (quanta_of (element_datum E4M3FN code))
nan_only_number code h =
    let f = format_with e4m3fn_constants in
    let layout = layout_with e4m3fn_constants in
    let x = fields_of f layout code in
    let within = fields_within f layout e4m3fn_interchange code in
    let last : Bool = has_all_ones layout x && eqb x.trailing 7 in
    let off : last ≡ false = not_last last x.negative (nan_base f) (implied_number f x) h in
    let low : 8 ≤ largest f = lit≤ tt in
    let both : x.biased_exponent ≡ 15 → 2 ^ 3 + x.trailing ≡ 2 ^ 4 - 1 → ⊥ = λ e g.
    true≢false (sym (and_from (has_all_ones layout x) (eqb x.trailing 7) (eq-eqb x.biased_exponent 15 e)
    (eq-eqb x.trailing 7 (omega (arith, g)))) ∙ off) in
    let n = implied_in f x.negative x.biased_exponent x.trailing (lit≤ tt) within.trailing
    (omega (arith, within.trailing, low))
    (λ some. nan_only_within f layout (2 ^ 3 + x.trailing) x.biased_exponent e4m3fn_interchange refl some
    (omega (arith, within.trailing)) within.biased_exponent both) in
    let at : element_datum E4M3FN code ≡ implied_number f x = rw off refl in
    subst (λ (q : ℕ). IsElementNumber E4M3FN q) (sym (ap quanta_of at))
    (record { on_grid = n.on_grid; within = n.within })

-- ---- all of them

pub element_number : (element : ElementFormat) (code : ℕ) → code < 2 ^ width element
    → is_finite (element_datum element code) ≡ true → IsElementNumber element (quanta_of (element_datum element code))
element_number E5M2 code l h = ieee_number code h
element_number E4M3FN code l h = nan_only_number code h
element_number E3M2FN code l h =
    let n = stored_number e3m2fn code e3m2fn_law in record { on_grid = n.on_grid; within = n.within }
element_number E2M3FN code l h =
    let n = stored_number e2m3fn code e2m3fn_law in record { on_grid = n.on_grid; within = n.within }
element_number E2M1FN code l h =
    let n = stored_number e2m1fn code e2m1fn_law in record { on_grid = n.on_grid; within = n.within }
