-- The point that is picked, from the digits that a cut keeps; what is delivered for it.
use Rattle.std.proofs.Common.{◌≡◌, ℕ, ◌+◌, ◌-◌, ◌*◌, ◌%◌, ◌^◌, ◌<◌, ◌≤◌}
use Rattle.std.proofs.Common.{◌⊎◌, Bool, true, false, cond, eqb, ltb, sym, refl, ap, ◌∙◌, subst, inl, inr}
use Rattle.std.proofs.{Common.⊎_elim, Common.arith, lemmas.Bool.cases_lt}
use Rattle.std.proofs.lemmas.{Bool.lt-ltb, Bool.le-ltb, Bool.eq-eqb, Bool.ne_eqb, Nat.pow-add, Nat.pow_pos}
use Rattle.apfloat_model.specs.declared.{kinds.Round.Round, loss.Loss.Loss, loss.Loss.TheVariants.ExactlyZero}
use Rattle.apfloat_model.specs.{formats.Datum.finite, formats.Format.largest, rounding.Enclosure.IsEnclosed}
use Rattle.apfloat_model.specs.rounding.{Enclosure.rounds_up, Rounding.IsPick, Rounding.leads_out, Standing.StandsFor}
use Rattle.apfloat_model.proofs.general.Powers.{twice_half}
use Rattle.apfloat_model.proofs.rounding.{Deliveries.exact_if, Deliveries.inexact_if, Picks.pick_is}
use Rattle.small_formats.specs.Codes.{datum_of, index_of, largest_index, point}
use Rattle.small_formats.specs.{Conversions.IsSaturated, Picks.IsPickedAt, Picks.IsPointDelivered}
use Rattle.small_formats.specs.Storage.{StorageConstants, IsLawfulStorage, format_with}
use Rattle.small_formats.proofs.Points.{at_index, at_next, low_point, points_in_order}

-- ---- the pick

-- the point after the one below, if the mode moves
pub moved_point : (p m c : ℕ) → 0 < p → m < 2 ^ p → (c ≡ 0) ⊎ (2 ^ (p - 1) ≤ m) → (moved : Bool)
    → point p (cond moved (index_of p m c + 1) (index_of p m c)) ≡ cond moved (m + 1) m * 2 ^ c
moved_point p m c some fits full true = at_next p m c some fits full
moved_point p m c some fits full false = at_index p m c some fits full

pub exact_cases : (exact : Bool) (a b : ℕ) → (exact ≡ true → a ≡ b) → (exact ≡ false → a ≡ b → ⊥) → exact ≡ eqb a b
exact_cases true a b when unless = sym (eq-eqb a b (when refl))
exact_cases false a b when unless = sym (ne_eqb a b (unless refl))

pub picked_at : (p : ℕ) (mode : Round) (negative : Bool) (m c amount parts index : ℕ) (loss : Loss)
    (moved exact : Bool) → 0 < p → 0 < parts → IsEnclosed p (2 ^ (p - 1)) m c amount parts
    → StandsFor m loss amount (2 ^ c * parts) → moved ≡ rounds_up mode negative loss (eqb (m % 2) 1)
    → index ≡ cond moved (index_of p m c + 1) (index_of p m c) → (exact ≡ true → loss ≡ ExactlyZero)
    → (exact ≡ false → loss ≡ ExactlyZero → ⊥) → IsPickedAt p mode negative amount parts index exact
picked_at p mode negative m c amount parts index loss moved exact some q i h moves is when unless =
    let at : point p index ≡ cond (rounds_up mode negative loss (eqb (m % 2) 1)) (m + 1) m * 2 ^ c =
    ap (λ (n : ℕ). point p n) is ∙ moved_point p m c some i.fits i.full moved
    ∙ ap (λ (b : Bool). cond b (m + 1) m * 2 ^ c) moves in
    let pick : IsPick p mode negative amount parts (point p index) =
    subst (λ (n : ℕ). IsPick p mode negative amount parts n) (sym at)
    (pick_is p mode negative (2 ^ (p - 1)) m c amount parts loss q i h) in
    record {
      is_pick = pick;
      exact_is = exact_cases exact (point p index * parts) amount
          (λ e. exact_if p mode negative (2 ^ (p - 1)) m c amount parts (point p index) loss (when e) q i h pick)
          (λ e. inexact_if p mode negative (2 ^ (p - 1)) m c amount parts (point p index) loss (unless e) q i h pick);
    }

-- ---- the largest number

-- the point of the last code, in a format with that many biased exponents
largest_at : (p half exponents codes : ℕ) → 0 < p → half ≡ 2 ^ (p - 1) → 2 ≤ exponents
    → codes ≡ exponents * half → point p (codes - 1) ≡ (2 ^ p - 1) * 2 ^ (exponents - 2)
largest_at p half exponents codes some h two e =
    let double : 2 * 2 ^ (p - 1) ≡ 2 ^ p = twice_half p some in
    let one : 1 ≤ 2 ^ (p - 1) = pow_pos (p - 1) in
    let d : ℕ = exponents - 2 in
    let whole : exponents ≡ d + 2 = omega (arith, two) in
    let product : exponents * half ≡ (d + 2) * 2 ^ (p - 1) =
    ap (λ (n : ℕ). n * half) whole ∙ ap (λ (n : ℕ). (d + 2) * n) h in
    let index : codes - 1 ≡ 2 ^ p - 1 + d * 2 ^ (p - 1) = omega (arith, e, product, double, one) in
    let full : 2 ^ (p - 1) ≤ 2 ^ p - 1 = omega (arith, double, one) in
    ap (λ (n : ℕ). point p n) index ∙ at_index p (2 ^ p - 1) d some (omega (arith, double, one)) (inr full)

pub largest_point : (c : StorageConstants) → IsLawfulStorage c
    → point c.precision (largest_index c) ≡ largest (format_with c)
largest_point c law =
    let low = law.precision_low in
    let above = law.exponent in
    let split : c.bits - 1 ≡ c.bits - c.precision + (c.precision - 1) = omega (arith, low, above) in
    let product : 2 ^ (c.bits - 1) ≡ 2 ^ (c.bits - c.precision) * 2 ^ (c.precision - 1) =
    ap (λ (n : ℕ). 2 ^ n) split ∙ pow-add 2 (c.bits - c.precision) (c.precision - 1) in
    let double : 2 * 2 ^ (c.bits - c.precision - 1) ≡ 2 ^ (c.bits - c.precision) =
    twice_half (c.bits - c.precision) (omega (arith, above)) in
    let one : 1 ≤ 2 ^ (c.bits - c.precision - 1) = pow_pos (c.bits - c.precision - 1) in
    largest_at c.precision (2 ^ (c.precision - 1)) (2 ^ (c.bits - c.precision)) (2 ^ (c.bits - 1))
    (omega (arith, low)) refl (omega (arith, double, one)) product

-- ---- what is delivered

pub not_greater : (p i j : ℕ) → 0 < p → i ≤ j → point p i ≤ point p j
not_greater p i j some l =
    ⊎_elim
    (λ (k : i < j). let q = points_in_order p i j some k in omega (arith, q))
    (λ (k : j ≤ i).
    let e : i ≡ j = omega (arith, l, k) in
    let same : point p i ≡ point p j = ap (λ (n : ℕ). point p n) e in
    omega (arith, same))
    (cases_lt i j)

-- a point is below the one of the half if its index is
pub tiny_is : (p index : ℕ) → 0 < p → ltb index (2 ^ (p - 1)) ≡ ltb (point p index) (2 ^ (p - 1))
tiny_is p index some =
    let h : ℕ = 2 ^ (p - 1) in
    ⊎_elim
    (λ (l : index < h). ap (λ (n : ℕ). ltb n h) (sym (low_point p index l)))
    (λ (l : h ≤ index).
    let double : 2 * h ≡ 2 ^ p = twice_half p some in
    let one : 1 ≤ h = pow_pos (p - 1) in
    let at₀ : point p (index_of p h 0) ≡ h * 2 ^ 0 = at_index p h 0 some (omega (arith, double, one)) (inl refl) in
    let at : point p h ≡ h = ap (λ (n : ℕ). point p n) (let e : h ≡ h + 0 * h = omega arith in e) ∙ at₀ ∙ omega arith in
    le-ltb index h l ∙ sym (le-ltb (point p index) h (omega (arith, at, not_greater p h index some l))))
    (cases_lt index h)

pub past_delivered : (c : StorageConstants) (mode : Round) (negative : Bool) (amount parts index code status : ℕ)
    → IsLawfulStorage c → largest_index c < index → datum_of c code ≡ finite negative (largest (format_with c))
    → status ≡ cond (leads_out mode negative) 20 16 → IsPointDelivered c mode negative amount parts index code status
past_delivered c mode negative amount parts index code status law l value flags =
    let more = points_in_order c.precision (largest_index c) index (omega (arith, law.precision_low)) l in
    let past : ltb (largest (format_with c)) (point c.precision index) ≡ true =
    lt-ltb (largest (format_with c)) (point c.precision index) (omega (arith, largest_point c law, more)) in
    record { value_is = rw past value; status_is = rw past flags }

pub within_delivered : (c : StorageConstants) (mode : Round) (negative : Bool) (amount parts index code status : ℕ)
    (exact : Bool) → IsLawfulStorage c → exact ≡ eqb (point c.precision index * parts) amount
    → index ≤ largest_index c → datum_of c code ≡ finite negative (point c.precision index)
    → status ≡ cond exact 0 (cond (ltb index (2 ^ (c.precision - 1))) 24 16)
    → IsPointDelivered c mode negative amount parts index code status
within_delivered c mode negative amount parts index code status exact law same l value flags =
    let some : 0 < c.precision = omega (arith, law.precision_low) in
    let most = not_greater c.precision index (largest_index c) some l in
    let within : ltb (largest (format_with c)) (point c.precision index) ≡ false =
    le-ltb (largest (format_with c)) (point c.precision index) (omega (arith, largest_point c law, most)) in
    let told : status ≡ cond (eqb (point c.precision index * parts) amount) 0
    (cond (ltb (point c.precision index) (2 ^ (c.precision - 1))) 24 16) =
    flags ∙ ap (λ (b : Bool). cond b 0 (cond (ltb index (2 ^ (c.precision - 1))) 24 16)) same
    ∙ ap (λ (b : Bool). cond (eqb (point c.precision index * parts) amount) 0 (cond b 24 16))
    (tiny_is c.precision index some) in
    record { value_is = rw within value; status_is = rw within told }

pub saturated : (c : StorageConstants) (mode : Round) (negative : Bool) (amount parts index code status : ℕ)
    (exact : Bool) → IsPickedAt c.precision mode negative amount parts index exact
    → IsPointDelivered c mode negative amount parts index code status
    → IsSaturated c mode negative amount parts code status
saturated c mode negative amount parts index code status exact x d =
    record { pick = point c.precision index; is_pick = x.is_pick; value_is = d.value_is; status_is = d.status_is }
