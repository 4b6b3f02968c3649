-- What a directed mode delivers for the neighbour that is picked is what the modes to nearest deliver for it, in a
-- format without the flags of IEEE 754. Past the largest value they deliver alike only away from zero.
use Rattle.std.proofs.Common.{◌≡◌, ℕ, ◌*◌, ◌<◌, ◌≤◌, Bool, true, false, cond, ◌||◌, ltb, eqb}
use Rattle.std.proofs.Common.{refl, sym, ap, ◌∙◌, ⊎_elim, arith}
use Rattle.std.proofs.lemmas.Bool.{cases_lt, lt-ltb, le-ltb, false≢true}
use Rattle.apfloat_model.specs.declared.kinds.Round.{Round, TheVariants.NearestTiesToEven, TheVariants.TowardZero}
use Rattle.apfloat_model.specs.formats.Format.{Format, largest, nan_base, smallest_normalized}
use Rattle.apfloat_model.specs.formats.Datum.{Datum, finite}
use Rattle.apfloat_model.specs.rounding.Rounding.{delivered_status, delivered_value, past_largest, leads_out}
use Rattle.apfloat_model.specs.rounding.Rounding.{rounds_below_normal, signed_quanta, takes_above}
use Rattle.small_formats.specs.stochastic.Directions.{direction}

pub takes_direction : (away negative odd : Bool) (x y : ℕ)
    → takes_above (direction away negative) negative x y odd ≡ away
takes_direction true true odd x y = refl
takes_direction true false odd x y = refl
takes_direction false true odd x y = refl
takes_direction false false odd x y = refl

leads_away : (negative : Bool) → leads_out (direction true negative) negative ≡ true
leads_away true = refl
leads_away false = refl

-- ---- whether a pick is past the largest value

-- what is past the largest value is past it farther up too
past_too : (top below above : ℕ) → below ≤ above → ltb top below ≡ true → ltb top above ≡ true
past_too top below above l e =
    ⊎_elim (λ (k : top < below). lt-ltb top above (omega (arith, k, l)))
    (λ (k : below ≤ top). absurd (false≢true (sym (le-ltb top below k) ∙ e))) (cases_lt top below)

left_off : (a b : Bool) → false ≡ (a || b) → a ≡ false
left_off true b e = absurd (false≢true e)
left_off false b e = refl

left_on : (a : Bool) → true ≡ (a || false) → a ≡ true
left_on true e = refl
left_on false e = absurd (false≢true (sym e))

-- ---- the value

value_by : Format → Bool → Bool → Bool → ℕ → Datum
value_by f negative past leads pick =
    cond past (cond leads (past_largest f.nonfinite (nan_base f) negative) (finite negative (largest f)))
    (signed_quanta f.nonfinite negative pick)

pub value_in_direction : (f : Format) (negative away takes : Bool) (below above : ℕ) → below ≤ above
    → away ≡ (ltb (largest f) below || takes)
    → delivered_value f (direction away negative) negative (cond away above below)
    ≡ delivered_value f NearestTiesToEven negative (cond takes above below)
unfolding value_by
value_in_direction f negative true true below above l e =
    ap (λ (b : Bool). value_by f negative (ltb (largest f) above) b above) (leads_away negative)
value_in_direction f negative true false below above l e =
    let low = left_on (ltb (largest f) below) e in
    let high = past_too (largest f) below above l low in
    ap (λ (b : Bool). value_by f negative (ltb (largest f) above) b above) (leads_away negative)
    ∙ ap (λ (b : Bool). value_by f negative b true above) high
    ∙ sym (ap (λ (b : Bool). value_by f negative b true below) low)
value_in_direction f negative false true below above l e =
    let low = left_off (ltb (largest f) below) true e in cc
value_in_direction f negative false false below above l e =
    let low = left_off (ltb (largest f) below) false e in
    ap (λ (b : Bool). value_by f negative b false below) low
    ∙ sym (ap (λ (b : Bool). value_by f negative b true below) low)

-- ---- the status

-- without the flags of IEEE 754, whether a result is tiny does not depend on the mode
tiny_by : Format → ℕ → ℕ → ℕ → Bool
tiny_by f amount parts pick =
    cond f.tiny_before_rounding (ltb amount (smallest_normalized f * parts)) (ltb pick (smallest_normalized f))

status_by : Bool → Bool → Bool → Bool → ℕ
status_by past leads exact tiny = cond past (cond leads 20 16) (cond exact 0 (cond tiny 24 16))

status_of : Format → Bool → Bool → ℕ → ℕ → ℕ → ℕ
status_of f past leads amount parts pick =
    status_by past leads (eqb (pick * parts) amount) (tiny_by f amount parts pick)

status_is : (f : Format) (mode : Round) (negative leads : Bool) (amount parts pick : ℕ) → f.ieee_flags ≡ false
    → leads_out mode negative ≡ leads
    → delivered_status f mode negative amount parts pick ≡ status_of f (ltb (largest f) pick) leads amount parts pick
unfolding status_of status_by tiny_by
status_is f mode negative leads amount parts pick plain out =
    let past : Bool = ltb (largest f) pick in
    let exact : Bool = eqb (pick * parts) amount in
    let before : Bool = ltb amount (smallest_normalized f * parts) in
    let judged : Bool → Bool = λ b. cond f.tiny_before_rounding before
    (cond b (rounds_below_normal f.precision mode negative amount parts) (ltb pick (smallest_normalized f))) in
    ap (λ (b : Bool). status_by past (b || leads_out mode negative) exact (judged b)) plain
    ∙ ap (λ (b : Bool). status_by past b exact (tiny_by f amount parts pick)) out

pub status_in_direction : (f : Format) (negative away takes : Bool) (below above amount parts : ℕ)
    → f.ieee_flags ≡ false → below ≤ above → away ≡ (ltb (largest f) below || takes)
    → delivered_status f (direction away negative) negative amount parts (cond away above below)
    ≡ delivered_status f NearestTiesToEven negative amount parts (cond takes above below)
unfolding status_of status_by
status_in_direction f negative true true below above amount parts plain l e =
    status_is f (direction true negative) negative true amount parts above plain (leads_away negative)
    ∙ sym (status_is f NearestTiesToEven negative true amount parts above plain refl)
status_in_direction f negative true false below above amount parts plain l e =
    let low = left_on (ltb (largest f) below) e in
    let high = past_too (largest f) below above l low in
    status_is f (direction true negative) negative true amount parts above plain (leads_away negative)
    ∙ ap (λ (b : Bool). status_of f b true amount parts above) high
    ∙ sym (status_is f NearestTiesToEven negative true amount parts below plain refl
    ∙ ap (λ (b : Bool). status_of f b true amount parts below) low)
status_in_direction f negative false true below above amount parts plain l e =
    let low = left_off (ltb (largest f) below) true e in cc
status_in_direction f negative false false below above amount parts plain l e =
    let low = left_off (ltb (largest f) below) false e in
    status_is f TowardZero negative false amount parts below plain refl
    ∙ ap (λ (b : Bool). status_of f b false amount parts below) low
    ∙ sym (status_is f NearestTiesToEven negative true amount parts below plain refl
    ∙ ap (λ (b : Bool). status_of f b true amount parts below) low)
