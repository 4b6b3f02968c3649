-- The scale that is picked for a number, and what is delivered for it.
use Rattle.std.proofs.{Math.Nat.pow-le-pow_right, lemmas.Bool.lt-ltb, lemmas.Bool.le-ltb}
use Rattle.std.proofs.Common.{◌≡◌, ℕ, ◌+◌, ◌-◌, ◌*◌, ◌/◌, ◌%◌, ◌^◌, ◌<◌, ◌≤◌, Bool, true, false, cond, eqb, ltb, sym}
use Rattle.std.proofs.Common.{refl, ap, ◌∙◌, subst, inl, inr, arith, ℤ, pos, ◌+ℤ◌}
use Rattle.std.proofs.Math.Nat.{lt_of_mul-lt-mul_right, mul-lt-mul_of_pos_right, mul-le-mul_right, mul-pos}
use Rattle.std.proofs.lemmas.{Bool.eq-eqb, Bool.ne_eqb, Nat.pow-add, Nat.pow_pos, Nat.div-mul-add, Int.ints}
use Rattle.apfloat_model.specs.declared.loss.Loss.{Loss, TheVariants.ExactlyZero}
use Rattle.apfloat_model.specs.rounding.{Rounding.leads_out, Standing.StandsFor, Standing.up, Standing.down}
use Rattle.apfloat_model.proofs.{general.Powers.two_pos, rounding.KeptDigits.kept_stands}
use Rattle.apfloat_model.proofs.rounding.Losses.{stands_from, stands_past, stands_to}
use Rattle.small_formats.specs.{declared.modes.ConversionRound.ConversionRound, IndexPicks.IsIndexPick, Modes.ieee_mode}
use Rattle.small_formats.specs.{Modes.takes_next, PicksBy.moves, ScaleModes.IsDeliveredScaleBy}
use Rattle.small_formats.proofs.ModePicks.{code_between, moves_kept, stays}

-- ---- below the least scale

pub below_least : (digits amount parts u d : ℕ) → digits < 2 ^ 125 → 0 < parts → u ≡ 0 → 125 ≤ d
    → amount * 2 ^ d ≡ digits * (parts * 2 ^ u) → amount < parts
below_least digits amount parts u d few some none far h =
    let one : 2 ^ u ≡ 1 = ap (λ (n : ℕ). 2 ^ n) none in
    let same : amount * 2 ^ d ≡ digits * parts = rw one at h ∙ omega arith in
    let less : digits * parts < 2 ^ 125 * parts = mul-lt-mul_of_pos_right few some in
    let more : 2 ^ 125 * parts ≤ 2 ^ d * parts = mul-le-mul_right parts (pow-le-pow_right two_pos far) in
    lt_of_mul-lt-mul_right (2 ^ d) (omega (arith, same, less, more))

-- ---- the digits of the scale below

one_digit : (n unit : ℕ) → 0 < unit → unit ≤ n → n < 2 * unit → n / unit ≡ 1
one_digit n unit some low high =
    let t : ℕ = n - unit in
    let whole : n ≡ 1 * unit + t = omega (arith, low) in
    let below : t < unit = omega (arith, whole, high) in
    ap (λ (x : ℕ). x / unit) whole ∙ div-mul-add 1 unit t below

first_digit : (digits : ℕ) → 2 ^ 124 ≤ digits → digits < 2 ^ 125 → digits / 2 ^ 124 ≡ 1
first_digit digits least most = one_digit digits (2 ^ 124) (pow_pos 124) least (omega (arith, most))

-- of 125 digits all but the first one are cut off, where the first one has the place `low`
pub cut_stands : (digits s amount parts low : ℕ) (loss : Loss) (z : ℤ) → pos low ≡ z +ℤ pos 124 → 2 ^ 124 ≤ digits
    → digits < 2 ^ 125 → s ≡ digits / 2 ^ 124 → StandsFor s loss (amount * 2 ^ down z) (2 ^ 124 * (parts * 2 ^ up z))
    → StandsFor 1 loss amount (2 ^ low * parts)
cut_stands digits s amount parts low loss z at least most is h =
    let one : s ≡ 1 = is ∙ first_digit digits least most in
    kept_stands 1 loss amount parts 124 (up z) (down z) low (omega (arith, ints, at))
    (subst (λ (n : ℕ). StandsFor n loss (amount * 2 ^ down z) (2 ^ 124 * (parts * 2 ^ up z))) one h)

-- ---- between two scales

twice : (low parts : ℕ) → 2 ^ (low + 1) * parts ≡ 2 * (2 ^ low * parts)
twice low parts = let e : 2 ^ (low + 1) ≡ 2 ^ low * 2 = pow-add 2 low 1 in rw e (omega arith)

-- the mode decides by the distances from both scales as by the digits that are cut off
pub code_moves : (mode : ConversionRound) (digits amount parts low : ℕ) (odd : Bool) (z : ℤ) → 0 < parts
    → pos low ≡ z +ℤ pos 124 → 2 ^ 124 ≤ digits → digits < 2 ^ 125 → amount * 2 ^ down z ≡ digits * (parts * 2 ^ up z)
    → moves mode false (digits % 2 ^ 124) (2 ^ 124 - digits % 2 ^ 124) odd
    ≡ moves mode false (amount - 2 ^ low * parts) (2 ^ (low + 1) * parts - amount) odd
code_moves mode digits amount parts low odd z some at least most h =
    let here : 1 * 2 ^ low * parts ≡ 2 ^ low * parts = omega arith in
    let next : (1 + 1) * 2 ^ low * parts ≡ 2 ^ (low + 1) * parts =
    let t = twice low parts in omega (arith, t) in
    sym (moves_kept mode false odd digits 124 1 low amount parts (up z) (down z) some (omega (arith, ints, at))
    (sym (first_digit digits least most)) h)
    ∙ ap (λ (n : ℕ). moves mode false (amount - n) ((1 + 1) * 2 ^ low * parts - amount) odd) here
    ∙ ap (λ (n : ℕ). moves mode false (amount - 2 ^ low * parts) (n - amount) odd) next

choice : (moved test : Bool) (low : ℕ) → moved ≡ test → cond moved (low + 1) low ≡ cond test (low + 1) low
choice moved test low e = ap (λ (b : Bool). cond b (low + 1) low) e

-- the code of one of the two scales around a number
abbrev pub IsPickedCode : ConversionRound → ℕ → ℕ → ℕ → Type 0
IsPickedCode mode amount parts code = IsIndexPick (takes_next mode false) (λ low. 2 ^ low) amount parts code

-- the mode moves a number from the scale below it, or not
abbrev pub MovesCode : ConversionRound → ℕ → ℕ → ℕ → Bool → Type 0
MovesCode mode amount parts low moved =
    moved ≡ moves mode false (amount - 2 ^ low * parts) (2 ^ (low + 1) * parts - amount) (eqb (low % 2) 1)

pub picked_code_is : (mode : ConversionRound) (amount parts low picked : ℕ) (loss : Loss) (moved : Bool) → 0 < parts
    → StandsFor 1 loss amount (2 ^ low * parts) → MovesCode mode amount parts low moved
    → picked ≡ cond moved (low + 1) low → IsPickedCode mode amount parts picked
picked_code_is mode amount parts low picked loss moved some h is at =
    let u : 0 < 2 ^ low * parts = mul-pos (pow_pos low) some in
    let from = stands_from 1 loss amount (2 ^ low * parts) h in
    let to = stands_to 1 loss amount (2 ^ low * parts) u h in
    let start : 2 ^ low * parts ≤ amount = omega (arith, from) in
    record {
      low = low;
      from = start;
      to = omega (arith, to, twice low parts);
      is = at ∙ code_between mode false amount (2 ^ low * parts) (2 ^ (low + 1) * parts) low moved start is;
    }

-- ---- exact or not

-- the picked scale is the number itself exactly if nothing was lost
pub exact_scale : (mode : ConversionRound) (amount parts low picked : ℕ) (loss : Loss) (moved exact : Bool)
    → 0 < parts → StandsFor 1 loss amount (2 ^ low * parts) → MovesCode mode amount parts low moved
    → picked ≡ cond moved (low + 1) low → (exact ≡ true → loss ≡ ExactlyZero)
    → (exact ≡ false → loss ≡ ExactlyZero → ⊥) → eqb (2 ^ picked * parts) amount ≡ exact
exact_scale mode amount parts low picked loss moved true some h is at when unless =
    let zero = when refl in
    let h' = subst (λ (x : Loss). StandsFor 1 x amount (2 ^ low * parts)) zero h in
    let none : amount - 2 ^ low * parts ≡ 0 = omega (arith, h') in
    let stayed : moved ≡ false = is ∙ stays mode false (eqb (low % 2) 1) (amount - 2 ^ low * parts) _ none in
    let same : picked ≡ low = at ∙ choice moved false low stayed in
    ap (λ (n : ℕ). eqb (2 ^ n * parts) amount) same ∙ eq-eqb (2 ^ low * parts) amount (omega (arith, h'))
exact_scale mode amount parts low picked loss moved false some h is at when unless =
    let u : 0 < 2 ^ low * parts = mul-pos (pow_pos low) some in
    let past = stands_past 1 loss amount (2 ^ low * parts) u (unless refl) h in
    let to = stands_to 1 loss amount (2 ^ low * parts) u h in
    ap (λ (n : ℕ). eqb (2 ^ n * parts) amount) at ∙ off moved past to
  where
    off : (test : Bool) → 1 * (2 ^ low * parts) < amount → amount < (1 + 1) * (2 ^ low * parts)
        → eqb (2 ^ cond test (low + 1) low * parts) amount ≡ false
    off true past to = ne_eqb (2 ^ (low + 1) * parts) amount (λ e. omega (arith, e, to, twice low parts))
    off false past to = ne_eqb (2 ^ low * parts) amount (λ e. omega (arith, e, past))

-- ---- what is delivered

pub least_delivered : (mode : ConversionRound) (amount parts code status : ℕ) → amount < parts → code ≡ 0 → status ≡ 24
    → IsDeliveredScaleBy mode amount parts code status
least_delivered mode amount parts code status l at flags =
    let off : eqb (2 ^ 0 * parts) amount ≡ false = ne_eqb (2 ^ 0 * parts) amount (λ e. omega (arith, e, l)) in
    let less : ltb amount parts ≡ true = lt-ltb amount parts l in
    record { picked = 0; is_picked = inl (l, refl); code_is = at; status_is = rw (off, less) flags }

pub scale_past : (mode : ConversionRound) (amount parts picked code status : ℕ) → IsPickedCode mode amount parts picked
    → 254 < picked → code ≡ cond (leads_out (ieee_mode mode) false) 255 254
    → status ≡ cond (leads_out (ieee_mode mode) false) 20 16 → IsDeliveredScaleBy mode amount parts code status
scale_past mode amount parts picked code status x l at flags =
    let past : ltb 254 picked ≡ true = lt-ltb 254 picked l in
    record { picked = picked; is_picked = inr x; code_is = rw past at; status_is = rw past flags }

pub scale_within : (mode : ConversionRound) (amount parts picked code status : ℕ) (exact : Bool)
    → IsPickedCode mode amount parts picked → eqb (2 ^ picked * parts) amount ≡ exact → picked ≤ 254 → code ≡ picked
    → status ≡ cond exact 0 16 → IsDeliveredScaleBy mode amount parts code status
scale_within mode amount parts picked code status exact x same l at flags =
    let within : ltb 254 picked ≡ false = le-ltb 254 picked l in
    let one : 1 ≤ 2 ^ x.low = pow_pos x.low in
    let least : 1 * parts ≤ 2 ^ x.low * parts = mul-le-mul_right parts one in
    let normal : ltb amount parts ≡ false = le-ltb amount parts (omega (arith, least, x.from)) in
    record { picked = picked; is_picked = inr x; code_is = rw within at; status_is = rw (within, same, normal) flags }
