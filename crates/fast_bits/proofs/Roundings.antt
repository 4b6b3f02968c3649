-- A cut whose digits are all kept, rounded to a normal number.
use Rattle.std.proofs.{Math.Nat.mul-pos, lemmas.Nat.pow_pos, lemmas.Bool.le-ltb}
use Rattle.std.proofs.Common.{◌≡◌, ℕ, ◌+◌, ◌-◌, ◌*◌, ◌%◌, ◌^◌, ◌<◌, ◌≤◌, Bool, true, false, cond, eqb, sym, refl, arith}
use Rattle.apfloat_model.specs.{bits.Interchange.IsInterchange, declared.kinds.Round.Round, formats.Datum.finite}
use Rattle.apfloat_model.specs.formats.{Format.largest, Lawful.Constants, Lawful.format_with, Lawful.layout_with}
use Rattle.apfloat_model.specs.rounding.{Rounding.IsDelivered, Standing.StandsFor}
use Rattle.apfloat_model.specs.rounding.Enclosure.{IsEnclosed, rounds_up}
use Rattle.apfloat_model.proofs.rounding.Deliveries.{signed_some}
use Rattle.apfloat_rounding.specs.Cuts.{loss_at}
use Rattle.apfloat_rounding.proofs.CutRests.{delivered_within, not_tiny}
use Rattle.fast_bits.proofs.Encodings.{inner_within}

-- the kept digits, moved up as the mode asks
pub moved_low : (moved : Bool) (m : ℕ) → m ≤ cond moved (m + 1) m
moved_low true m = omega arith
moved_low false m = omega arith

pub moved_high : (moved : Bool) (m : ℕ) → cond moved (m + 1) m ≤ m + 1
moved_high true m = omega arith
moved_high false m = omega arith

-- what is delivered for a cut at an inner place
pub inner_delivered : (c : Constants) (mode : Round) (negative moved : Bool)
    (m place amount parts rest half status : ℕ)
    → IsInterchange (format_with c) (layout_with c) → place + 5 ≤ 2 ^ c.exp_bits
    → 2 ^ (c.precision - 1) ≤ m → m < 2 ^ c.precision → 0 < parts
    → moved ≡ rounds_up mode negative (loss_at rest half) (eqb (m % 2) 1)
    → IsEnclosed c.precision (2 ^ (c.precision - 1)) m place amount parts
    → StandsFor m (loss_at rest half) amount (2 ^ place * parts)
    → (rest ≡ 0 → status ≡ 0) → ((rest ≡ 0 → ⊥) → status ≡ 16)
    → IsDelivered (format_with c) mode negative amount parts (finite negative (cond moved (m + 1) m * 2 ^ place))
    status
inner_delivered c mode negative moved m place amount parts rest half status law inner full fits some is enclosed
    stands exact inexact =
    let f = format_with c in
    let n = cond moved (m + 1) m in
    let low : m ≤ cond moved (m + 1) m = moved_low moved m in
    let high : cond moved (m + 1) m ≤ m + 1 = moved_high moved m in
    let half_some : 0 < 2 ^ (c.precision - 1) = pow_pos (c.precision - 1) in
    let within : n * 2 ^ place ≤ largest f = inner_within c n place law inner (omega (arith, high, fits)) in
    let above : 0 < n * 2 ^ place = mul-pos (omega (arith, low, full, half_some)) (pow_pos place) in
    delivered_within f mode negative m place amount parts (n * 2 ^ place) rest half moved false
    (finite negative (n * 2 ^ place)) status some is refl (le-ltb (largest f) (n * 2 ^ place) within) enclosed stands
    (not_tiny f mode negative m place amount parts n place some full (omega (arith, low, full)) enclosed)
    (sym (signed_some c.nonfinite negative (n * 2 ^ place) above)) exact inexact
