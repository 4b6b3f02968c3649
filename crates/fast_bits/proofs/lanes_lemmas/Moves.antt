-- A constant that is added below the last kept digit carries into it exactly if the mode rounds up.
use Rattle.std.proofs.Common.{◌≡◌, ℕ, ◌+◌, ◌-◌, ◌*◌, ◌/◌, ◌%◌, ◌^◌, ◌<◌, ◌≤◌}
use Rattle.std.proofs.Common.{Bool, true, false, cond, eqb, refl, sym, ap, ◌∙◌, subst, ⊎_elim, arith}
use Rattle.std.proofs.{Math.Nat.div-eq_of_lt, Math.Nat.mul-add-div_right, lemmas.Nat.and_mask, lemmas.Nat.div-add-mod'}
use Rattle.std.proofs.lemmas.{Nat.mod_below, Nat.pow_pos, Bool.cases_lt, Bool.eqb-true, Bool.eqb-false}
use Rattle.std.specs.Int.RustNames.{bit_and}
use Rattle.apfloat_model.specs.declared.kinds.Round.{Round, TheVariants.NearestTiesToEven}
use Rattle.apfloat_model.specs.declared.kinds.Round.TheVariants.{NearestTiesToAway, TowardZero, TowardPositive}
use Rattle.apfloat_model.specs.declared.{kinds.Round.TheVariants.TowardNegative, loss.Loss.Loss}
use Rattle.apfloat_model.specs.declared.loss.Loss.TheVariants.{ExactlyZero, LessThanHalf, ExactlyHalf, MoreThanHalf}
use Rattle.apfloat_model.specs.rounding.{Enclosure.rounds_up, Rounding.points_away}
use Rattle.apfloat_model.proofs.general.Powers.{twice_half}
use Rattle.apfloat_rounding.specs.Cuts.{loss_at}
use Rattle.apfloat_rounding.proofs.CutRests.{loss_half, loss_less, loss_more, loss_zero}

-- what is added to the rest below the last kept digit, of which `half` is a half; one more where that digit is odd, if
-- ties go to even
abbrev pub added_for : Round → Bool → ℕ → ℕ
added_for NearestTiesToEven negative half = half - 1
added_for NearestTiesToAway negative half = half
added_for TowardZero negative half = 0
added_for TowardPositive negative half = cond (points_away TowardPositive negative) (2 * half - 1) 0
added_for TowardNegative negative half = cond (points_away TowardNegative negative) (2 * half - 1) 0

abbrev pub odd_for : Round → ℕ
odd_for NearestTiesToEven = 1
odd_for NearestTiesToAway = 0
odd_for TowardZero = 0
odd_for TowardPositive = 0
odd_for TowardNegative = 0

-- what is added to the rest
abbrev pub added_to : Round → Bool → ℕ → ℕ → ℕ
added_to mode negative half last = added_for mode negative half + last % 2 ^ odd_for mode

-- whether the rest and what is added reach the next digit, as `up` says
abbrev pub Carries : ℕ → ℕ → ℕ → Bool → Type 0
Carries half rest added true = 2 * half ≤ rest + added
Carries half rest added false = rest + added < 2 * half

-- what is added carries as the mode says, if it does for each of the four losses
module _ (mode : Round) (negative : Bool) (rest half last : ℕ) (some : 0 < half) where
  abbrev Said : Loss → Type 0
  Said loss = Carries half rest (added_to mode negative half last) (rounds_up mode negative loss (eqb (last % 2) 1))

  by_loss : (rest ≡ 0 → Said ExactlyZero) → (0 < rest → rest < half → Said LessThanHalf)
      → (rest ≡ half → Said ExactlyHalf) → (half < rest → Said MoreThanHalf) → Said (loss_at rest half)
  by_loss none less equal more =
      ⊎_elim
      (λ (z : rest < 1).
      let e : rest ≡ 0 = omega (arith, z) in subst Said (sym (loss_zero rest half e)) (none e))
      (λ (p : 1 ≤ rest).
      ⊎_elim
      (λ (l : rest < half). subst Said (sym (loss_less rest half (omega (arith, p)) l)) (less (omega (arith, p)) l))
      (λ (h : half ≤ rest).
      ⊎_elim
      (λ (m : half < rest). subst Said (sym (loss_more rest half m)) (more m))
      (λ (e : rest ≤ half).
      let same : rest ≡ half = omega (arith, e, h) in
      subst Said (sym (loss_half rest half (omega (arith, p)) same)) (equal same))
      (cases_lt half rest))
      (cases_lt rest half))
      (cases_lt rest 1)

-- a tie goes up if the last kept digit is odd, which adds the one that is missing
tie_to_even : (half last : ℕ) (odd : Bool) → 0 < half → eqb (last % 2) 1 ≡ odd
    → Carries half half (half - 1 + last % 2 ^ 1) odd
tie_to_even half last true some e = let one = eqb-true (last % 2) 1 e in omega (arith, one, some)
tie_to_even half last false some e = let other = eqb-false (last % 2) 1 e in omega (arith, other, some)

pub carries : (mode : Round) (negative : Bool) (rest half last : ℕ) → 0 < half → rest < 2 * half
    → Carries half rest (added_to mode negative half last)
    (rounds_up mode negative (loss_at rest half) (eqb (last % 2) 1))
carries NearestTiesToEven negative rest half last some below =
    by_loss NearestTiesToEven negative rest half last some (λ e. omega (arith, e, some)) (λ p l. omega (arith, l))
    (λ e. subst
    (λ (n : ℕ). Carries half n (half - 1 + last % 2 ^ 1) (eqb (last % 2) 1)) (sym e)
    (tie_to_even half last (eqb (last % 2) 1) some refl))
    (λ m. omega (arith, m))
carries NearestTiesToAway negative rest half last some below =
    by_loss NearestTiesToAway negative rest half last some (λ e. omega (arith, e, some)) (λ p l. omega (arith, l))
    (λ e. omega (arith, e)) (λ m. omega (arith, m))
carries TowardZero negative rest half last some below =
    by_loss TowardZero negative rest half last some (λ e. omega (arith, below)) (λ p l. omega (arith, below))
    (λ e. omega (arith, below)) (λ m. omega (arith, below))
carries TowardPositive true rest half last some below =
    by_loss TowardPositive true rest half last some (λ e. omega (arith, below)) (λ p l. omega (arith, below))
    (λ e. omega (arith, below)) (λ m. omega (arith, below))
carries TowardPositive false rest half last some below =
    by_loss TowardPositive false rest half last some (λ e. omega (arith, e, some)) (λ p l. omega (arith, p))
    (λ e. omega (arith, e, some)) (λ m. omega (arith, m))
carries TowardNegative false rest half last some below =
    by_loss TowardNegative false rest half last some (λ e. omega (arith, below)) (λ p l. omega (arith, below))
    (λ e. omega (arith, below)) (λ m. omega (arith, below))
carries TowardNegative true rest half last some below =
    by_loss TowardNegative true rest half last some (λ e. omega (arith, e, some)) (λ p l. omega (arith, p))
    (λ e. omega (arith, e, some)) (λ m. omega (arith, m))

-- the sum, cut, is the kept number, moved up as the mode asks
next_by : (kept rest added unit : ℕ) (up : Bool) → 0 < unit → rest + added < 2 * unit
    → cond up (unit ≤ rest + added) (rest + added < unit)
    → (kept * unit + (rest + added)) / unit ≡ cond up (kept + 1) kept
next_by kept rest added unit true some short reaches =
    let more : kept * unit + (rest + added) ≡ (kept + 1) * unit + (rest + added - unit) = omega (arith, reaches) in
    ap (λ (x : ℕ). x / unit) more ∙ mul-add-div_right some (kept + 1) (rest + added - unit)
    ∙ ap (λ (x : ℕ). kept + 1 + x) (div-eq_of_lt (omega (arith, short, reaches, some))) ∙ omega arith
next_by kept rest added unit false some short stays =
    mul-add-div_right some kept (rest + added) ∙ ap (λ (x : ℕ). kept + x) (div-eq_of_lt stays) ∙ omega arith

-- at most a whole unit of the last kept digit, 2 * half, is added, so it carries at most once
added_most : (mode : Round) (negative : Bool) (half last : ℕ) → 0 < half → added_to mode negative half last ≤ 2 * half
added_most NearestTiesToEven negative half last some = omega (arith, some)
added_most NearestTiesToAway negative half last some = omega (arith, some)
added_most TowardZero negative half last some = omega (arith, some)
added_most TowardPositive true half last some = omega (arith, some)
added_most TowardPositive false half last some = omega (arith, some)
added_most TowardNegative true half last some = omega (arith, some)
added_most TowardNegative false half last some = omega (arith, some)

-- `Carries`, as a condition that `next_by` takes
as_cond : (half rest added : ℕ) (up : Bool) → Carries half rest added up
    → cond up (2 * half ≤ rest + added) (rest + added < 2 * half)
as_cond half rest added true h = h
as_cond half rest added false h = h

pub rounded_is : (mode : Round) (negative : Bool) (t low : ℕ) → 0 < low
    → (t + added_to mode negative (2 ^ (low - 1)) (t / 2 ^ low)) / 2 ^ low
    ≡ cond (rounds_up mode negative (loss_at (t % 2 ^ low) (2 ^ (low - 1))) (eqb (t / 2 ^ low % 2) 1))
    (t / 2 ^ low + 1) (t / 2 ^ low)
rounded_is mode negative t low some =
    let half = 2 ^ (low - 1) in
    let kept = t / 2 ^ low in
    let rest = t % 2 ^ low in
    let added = added_to mode negative half kept in
    let up = rounds_up mode negative (loss_at rest half) (eqb (kept % 2) 1) in
    let half_some : 0 < 2 ^ (low - 1) = pow_pos (low - 1) in
    let twice : 2 * 2 ^ (low - 1) ≡ 2 ^ low = twice_half low some in
    let whole : t / 2 ^ low * 2 ^ low + t % 2 ^ low ≡ t = div-add-mod' t (2 ^ low) in
    let rest_below : t % 2 ^ low < 2 ^ low = mod_below t (2 ^ low) (pow_pos low) in
    let below : rest < 2 * half = omega (arith, rest_below, twice) in
    let most : added ≤ 2 * half = added_most mode negative half kept half_some in
    let said = as_cond half rest added up (carries mode negative rest half kept half_some below) in
    let sum : t + added ≡ kept * 2 ^ low + (rest + added) = omega (arith, whole) in
    let reaches : cond up (2 ^ low ≤ rest + added) (rest + added < 2 ^ low) =
    subst (λ (n : ℕ). cond up (n ≤ rest + added) (rest + added < n)) twice said in
    ap (λ (x : ℕ). x / 2 ^ low) sum
    ∙ next_by kept rest added (2 ^ low) up (pow_pos low) (omega (arith, rest_below, twice, most)) reaches

-- the constants of a mode
pub addend_rounds : (low : ℕ) (mode : Round) (negative : Bool) (always if_odd : ℕ) → 0 < low
    → always ≡ added_for mode negative (2 ^ (low - 1)) → if_odd ≡ 2 ^ odd_for mode - 1 → (t : ℕ)
    → (t + (always + bit_and (t / 2 ^ low) if_odd)) / 2 ^ low
    ≡ cond (rounds_up mode negative (loss_at (t % 2 ^ low) (2 ^ (low - 1))) (eqb (t / 2 ^ low % 2) 1))
    (t / 2 ^ low + 1) (t / 2 ^ low)
addend_rounds low mode negative always if_odd some always_is odd_is t =
    let last : bit_and (t / 2 ^ low) if_odd ≡ t / 2 ^ low % 2 ^ odd_for mode =
    ap (λ (n : ℕ). bit_and (t / 2 ^ low) n) odd_is ∙ and_mask (t / 2 ^ low) (odd_for mode) in
    let added : always + bit_and (t / 2 ^ low) if_odd ≡ added_to mode negative (2 ^ (low - 1)) (t / 2 ^ low) =
    omega (arith, always_is, last) in
    ap (λ (n : ℕ). (t + n) / 2 ^ low) added ∙ rounded_is mode negative t low some

-- fewer digits than the rest can have are added
pub added_below : (mode : Round) (negative : Bool) (half : ℕ) → 0 < half
    → added_for mode negative half + (2 ^ odd_for mode - 1) < 2 * half
added_below NearestTiesToEven negative half some = omega (arith, some)
added_below NearestTiesToAway negative half some = omega (arith, some)
added_below TowardZero negative half some = omega (arith, some)
added_below TowardPositive true half some = omega (arith, some)
added_below TowardPositive false half some = omega (arith, some)
added_below TowardNegative true half some = omega (arith, some)
added_below TowardNegative false half some = omega (arith, some)

pub odd_most : (mode : Round) → 2 ^ odd_for mode - 1 ≤ 1
odd_most NearestTiesToEven = omega arith
odd_most NearestTiesToAway = omega arith
odd_most TowardZero = omega arith
odd_most TowardPositive = omega arith
odd_most TowardNegative = omega arith
