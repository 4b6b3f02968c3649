-- The picked point, and whether it is past the largest value.
use Rattle.std.proofs.Common.{◌≡◌, ℕ, ◌+◌, ◌-◌, ◌*◌, ◌%◌, ◌^◌, ◌<◌, ◌≤◌}
use Rattle.std.proofs.Common.{◌⊎◌, Bool, true, false, cond, ltb, eqb, sym, ap, ◌∙◌, inl, inr, ⊎_elim}
use Rattle.std.proofs.{Common.arith, Math.Nat.pow-le-pow_right, lemmas.Nat.pow_pos}
use Rattle.std.proofs.lemmas.Bool.{cases_lt, lt-ltb, le-ltb}
use Rattle.apfloat_model.specs.{declared.kinds.Round.Round, declared.loss.Loss.Loss, rounding.Enclosure.rounds_up}
use Rattle.apfloat_model.proofs.rounding.{Neighbours.fine_point_at, Picks.kept}
use Rattle.apfloat_model.proofs.general.{Powers.two_pos, Powers.twice_half, Choices.ltb_times}

-- a significand of at most 125 digits plus one fits a word of 128
pub room : (n precision : ℕ) → precision ≤ 125 → n < 2 ^ precision → n + 1 < 2 ^ 128
room n precision p h =
    let a : 2 ^ precision ≤ 2 ^ 125 = pow-le-pow_right two_pos p in
    omega arith

-- if the mode moves up, the next significand is kept
pub kept_moved : (mode : Round) (negative : Bool) (loss : Loss) (m : ℕ) (moved : Bool)
    → moved ≡ rounds_up mode negative loss (eqb (m % 2) 1) → moved ≡ true → m + 1 ≡ kept mode negative loss m
kept_moved mode negative loss m moved e t = ap (λ (b : Bool). cond b (m + 1) m) (sym t ∙ e)

-- if the mode does not move up, the significand itself is kept
pub kept_stayed : (mode : Round) (negative : Bool) (loss : Loss) (m : ℕ) (moved : Bool)
    → moved ≡ rounds_up mode negative loss (eqb (m % 2) 1) → moved ≡ false → m ≡ kept mode negative loss m
kept_stayed mode negative loss m moved e t = ap (λ (b : Bool). cond b (m + 1) m) (sym t ∙ e)

-- ---- past the largest

-- at the last place, a point is past the largest value if its significand is past the greatest
pub past_same : (s place greatest span : ℕ) → place ≡ span → ltb greatest s ≡ ltb (greatest * 2 ^ span) (s * 2 ^ place)
past_same s place greatest span e =
    ltb_times greatest s (2 ^ span) (pow_pos span) ∙ ap (λ (x : ℕ). ltb (greatest * 2 ^ span) (s * 2 ^ x)) (sym e)

-- a place past the last one is past the largest value
past_above : (half s place greatest span : ℕ) → greatest < 2 * half → (place ≡ 0) ⊎ (half ≤ s) → span < place
    → greatest * 2 ^ span < s * 2 ^ place
past_above half s place greatest span g (inl z) l = absurd (omega arith)
past_above half s place greatest span g (inr f) l =
    let g' : greatest + 1 ≤ 2 * half = omega arith in
    let k : (greatest + 1) * 2 ^ span ≤ s * 2 ^ place = fine_point_at half s span place (greatest + 1) l g' f in
    let p : 0 < 2 ^ span = pow_pos span in
    omega arith

-- at any other place, a point is past the largest value if its place is past the last one
pub past_other : (precision s place greatest span : ℕ) → 0 < precision → s < 2 ^ precision
    → (place ≡ 0) ⊎ (2 ^ (precision - 1) ≤ s) → greatest < 2 ^ precision → 2 ^ (precision - 1) ≤ greatest
    → (place ≡ span → ⊥) → ltb span place ≡ ltb (greatest * 2 ^ span) (s * 2 ^ place)
past_other precision s place greatest span p h f g k n =
    let t : 2 * 2 ^ (precision - 1) ≡ 2 ^ precision = twice_half precision p in
    let g' : greatest < 2 * 2 ^ (precision - 1) = omega arith in
    let h' : s ≤ 2 * 2 ^ (precision - 1) = omega arith in
    ⊎_elim (λ (l : span < place). lt-ltb span place l ∙
    sym (lt-ltb (greatest * 2 ^ span) (s * 2 ^ place) (past_above (2 ^ (precision - 1)) s place greatest span g' f l)))
    (λ (l : place ≤ span). le-ltb span place l ∙ sym (le-ltb (greatest * 2 ^ span) (s * 2 ^ place)
    (fine_point_at (2 ^ (precision - 1)) greatest place span s (omega arith) h' k))) (cases_lt span place)
