-- The point that is picked, for each precision, from the digits that a cut keeps.
use Rattle.std.proofs.Common.{◌≡◌, ℕ, ◌+◌, ◌-◌, ◌*◌, ◌/◌, ◌%◌, ◌^◌, ◌<◌, ◌≤◌}
use Rattle.std.proofs.Common.{Bool, true, false, cond, eqb, sym, ap, ◌∙◌, subst, ⊎_elim, arith}
use Rattle.std.proofs.Math.Nat.{mul-pos}
use Rattle.std.proofs.lemmas.{Bool.cases_eq, Bool.eq-eqb, Bool.ne_eqb, Nat.pow_pos}
use Rattle.apfloat_model.specs.declared.loss.Loss.{Loss, TheVariants.ExactlyZero}
use Rattle.apfloat_model.specs.rounding.{Enclosure.IsEnclosed, Standing.StandsFor}
use Rattle.apfloat_model.proofs.general.Choices.{match_true, match_false, off_both}
use Rattle.apfloat_model.proofs.rounding.Losses.{stands_past, stands_to}
use Rattle.small_formats.specs.{declared.modes.ConversionRound.ConversionRound, Codes.index_of, Codes.point}
use Rattle.small_formats.specs.PicksBy.{IsCodePickBy, IsPointAt, IsPointPickBy, moves}
use Rattle.small_formats.proofs.{CodePicks.code_picks_by, ModePicks.index_is, ModePicks.moves_kept, ModePicks.stays}
use Rattle.small_formats.proofs.{Points.at_index, Points.at_next, StoredPicks.exact_cases, StoredPicks.moved_point}

-- with two digits or more, the odd number has the odd significand
point_picked : (p : ℕ) (mode : ConversionRound) (negative : Bool) (amount parts index : ℕ) → 0 < p → 0 < parts
    → IsCodePickBy p mode negative amount parts index → IsPointPickBy p mode negative amount parts index
point_picked p mode negative amount parts index some q x =
    ⊎_elim (λ (one : p ≡ 1). match_true (eqb p 1) _ _ (eq-eqb p 1 one) x)
    (λ (more : p ≡ 1 → ⊥). match_false (eqb p 1) _ _ (ne_eqb p 1 more)
    (code_picks_by p mode negative amount parts index (omega (arith, some, more)) q x)) (cases_eq p 1)

-- the point is the number itself exactly if nothing was lost
exact_by : (p m c amount parts index : ℕ) (loss : Loss) (moved exact : Bool) → 0 < p → 0 < parts
    → IsEnclosed p (2 ^ (p - 1)) m c amount parts → StandsFor m loss amount (2 ^ c * parts)
    → (amount - m * 2 ^ c * parts ≡ 0 → moved ≡ false)
    → index ≡ cond moved (index_of p m c + 1) (index_of p m c) → (exact ≡ true → loss ≡ ExactlyZero)
    → (exact ≡ false → loss ≡ ExactlyZero → ⊥) → exact ≡ eqb (point p index * parts) amount
exact_by p m c amount parts index loss moved exact some q i h still is when unless =
    let times : point p index * parts ≡ cond moved (m + 1) m * 2 ^ c * parts =
    ap (λ (n : ℕ). n * parts) (ap (λ (n : ℕ). point p n) is ∙ moved_point p m c some i.fits i.full moved) in
    let same : loss ≡ ExactlyZero → cond moved (m + 1) m * 2 ^ c * parts ≡ amount = λ z.
    let exactly : amount ≡ m * (2 ^ c * parts) = subst (λ (x : Loss). StandsFor m x amount (2 ^ c * parts)) z h in
    let none : amount - m * 2 ^ c * parts ≡ 0 = omega (arith, exactly) in
    ap (λ (b : Bool). cond b (m + 1) m * 2 ^ c * parts) (still none) ∙ omega (arith, exactly) in
    let v : 0 < 2 ^ c * parts = mul-pos (pow_pos c) q in
    let off : (loss ≡ ExactlyZero → ⊥) → cond moved (m + 1) m * 2 ^ c * parts ≡ amount → ⊥ = λ n y.
    let top = stands_to m loss amount (2 ^ c * parts) v h in
    off_both moved m amount (2 ^ c * parts) (stands_past m loss amount (2 ^ c * parts) v n h) top (omega (arith, y)) in
    exact_cases exact (point p index * parts) amount (λ z. times ∙ same (when z))
    (λ z y. off (unless z) (sym times ∙ y))

pub point_at : (p : ℕ) (mode : ConversionRound) (negative : Bool) (number k m c amount parts u d index : ℕ)
    (loss : Loss) (moved exact : Bool) → 0 < p → 0 < parts → k + u ≡ c + d → m ≡ number / 2 ^ k
    → amount * 2 ^ d ≡ number * (parts * 2 ^ u) → IsEnclosed p (2 ^ (p - 1)) m c amount parts
    → StandsFor m loss amount (2 ^ c * parts)
    → moved ≡ moves mode negative (number % 2 ^ k) (2 ^ k - number % 2 ^ k) (eqb (index_of p m c % 2) 1)
    → index ≡ cond moved (index_of p m c + 1) (index_of p m c) → (exact ≡ true → loss ≡ ExactlyZero)
    → (exact ≡ false → loss ≡ ExactlyZero → ⊥) → IsPointAt p mode negative amount parts index exact
point_at p mode negative number k m c amount parts u d index loss moved exact some q e of a i h test is when unless =
    let low : ℕ = index_of p m c in
    let odd : Bool = eqb (low % 2) 1 in
    let by : ℕ = amount - m * 2 ^ c * parts in
    let to : ℕ = (m + 1) * 2 ^ c * parts - amount in
    let here : point p low ≡ m * 2 ^ c = at_index p m c some i.fits i.full in
    let after : point p (low + 1) ≡ (m + 1) * 2 ^ c = at_next p m c some i.fits i.full in
    let at : point p low * parts ≡ m * 2 ^ c * parts = ap (λ (n : ℕ). n * parts) here in
    let next : point p (low + 1) * parts ≡ (m + 1) * 2 ^ c * parts = ap (λ (n : ℕ). n * parts) after in
    let from = i.from in
    let kept = test ∙ sym (moves_kept mode negative odd number k m c amount parts u d q e of a) in
    let moved_is : moved ≡ moves mode negative (amount - point p low * parts) (point p (low + 1) * parts - amount) odd =
    kept ∙ ap (λ (n : ℕ). moves mode negative (amount - n) to odd) (sym at)
    ∙ ap (λ (n : ℕ). moves mode negative (amount - point p low * parts) (n - amount) odd) (sym next) in
    let start : point p low * parts ≤ amount = omega (arith, from, at) in
    record {
      is_pick = point_picked p mode negative amount parts index some q (record {
        low = low;
        from = start;
        to = omega (arith, i.to, next);
        is = is ∙ index_is p mode negative amount parts low moved start moved_is;
      });
      exact_is = exact_by p m c amount parts index loss moved exact some q i h
          (λ z. kept ∙ stays mode negative odd by to z) is when unless;
    }
