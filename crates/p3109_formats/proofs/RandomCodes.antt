-- How many random numbers take a magnitude to the next code.
use Rattle.std.proofs.Common.{◌≡◌, ℕ, ◌+◌, ◌-◌, ◌*◌, ◌/◌, ◌%◌, ◌^◌, ◌<◌, ◌≤◌}
use Rattle.std.proofs.Common.{Bool, true, false, cond, eqb, leb, ltb, sym, refl, ap, ◌∙◌, subst, ⊎_elim, arith}
use Rattle.std.proofs.lemmas.Bool.{cases_lt, le-ltb, lt-ltb, ne_eqb}
use Rattle.std.specs.Bool.{MatchBool}
use Rattle.apfloat_model.specs.{declared.kinds.Round.Round, rounding.Grid.IsBelow, rounding.Grid.IsAbove}
use Rattle.apfloat_model.proofs.rounding.Neighbours.{below_is, above_is_next}
use Rattle.small_formats.specs.declared.{ConversionRound.TheVariants.Stochastic, RandomDigits.RandomDigits}
use Rattle.small_formats.specs.{Codes.point, Modes.IsPickBy, IndexPicks.index_between}
use Rattle.small_formats.specs.PicksBy.{IsCodePickBy, IsPointPickBy}
use Rattle.small_formats.proofs.CodePicks.{code_pick_by, form_encloses, form_next, form_point}
use Rattle.small_formats.proofs.Points.{form_of, increasing, points_in_order}
use Rattle.small_formats.proofs.RandomCounts.{parts_below, random_numbers_counted, reaching, same_count}
use Rattle.small_formats.proofs.StoredPicks.{not_greater}
use Rattle.p3109_formats.specs.ModeLaws.{AreRandomCodesCounted, AreRoundedPartsCounted}
use Rattle.p3109_formats.specs.Rules.{IsRandomPick, reaches_next, rounded_parts}
use Rattle.p3109_formats.proofs.OneAnswer.{random_pick_once}

-- the index of a point is greater exactly if the point is
order_kept : (p i j : ℕ) → 0 < p → ltb i j ≡ ltb (point p i) (point p j)
order_kept p i j some =
    ⊎_elim (λ (l : i < j). lt-ltb i j l ∙ sym (lt-ltb (point p i) (point p j) (points_in_order p i j some l)))
    (λ (l : j ≤ i). le-ltb i j l ∙ sym (le-ltb (point p i) (point p j) (not_greater p j i some l))) (cases_lt i j)

-- random digits do not ask what is odd, so their picks by codes are those by significands
random_pick : (p : ℕ) (bits : RandomDigits) (negative : Bool) (amount parts index : ℕ) → 0 < p → 0 < parts
    → IsPointPickBy p (Stochastic bits) negative amount parts index
    → IsPickBy p (Stochastic bits) negative amount parts (point p index)
random_pick p bits negative amount parts index one some = by_digits (eqb p 1)
  where
    by_digits : (single : Bool) → MatchBool single (IsCodePickBy p (Stochastic bits) negative amount parts index)
        (IsPickBy p (Stochastic bits) negative amount parts (point p index))
        → IsPickBy p (Stochastic bits) negative amount parts (point p index)
    by_digits true x = code_pick_by p (Stochastic bits) negative amount parts index one some (λ m c by to. refl) x
    by_digits false x = x

pub random_codes_counted : AreRandomCodesCounted
random_codes_counted p digits low amount parts negative bits index one some from to all picks =
    let f = form_of p low one in
    let at = form_point p low one f in
    let i = form_encloses p low amount parts one f (omega (arith, from)) to in
    let at_parts : point p low * parts ≡ f.m * 2 ^ f.c * parts = ap (λ (n : ℕ). n * parts) at in
    let below : IsBelow p (point p low) amount parts =
    subst (λ (n : ℕ). IsBelow p n amount parts) (sym at) (below_is p (2 ^ (p - 1)) f.m f.c amount parts i) in
    let above : IsAbove p (point p (low + 1)) amount parts =
    subst (λ (n : ℕ). IsAbove p n amount parts) (sym (form_next p low one f))
    (above_is_next p (2 ^ (p - 1)) f.m f.c amount parts i (omega (arith, from, at_parts))) in
    same_count (λ (k : ℕ). ltb low (index k)) (λ (k : ℕ). ltb (point p low) (point p (index k))) (2 ^ digits)
    (λ k h. order_kept p low (index k) one) ∙ random_numbers_counted p digits (point p low) (point p (low + 1))
    amount parts negative bits (λ (k : ℕ). point p (index k)) some (increasing p low one) below above all
    (λ k h. random_pick p (bits k) negative amount parts (index k) one some (picks k h))

-- ---- rounded parts

rounded_fit : (mode : Round) (digits x y : ℕ) → 0 < y → rounded_parts mode digits x y ≤ 2 ^ digits
rounded_fit mode digits x y p =
    at_most (eqb (2 ^ digits * x % (x + y)) 0) _ (2 ^ digits * x / (x + y)) (2 ^ digits) (parts_below digits x y p)
  where
    at_most : (none up : Bool) (q top : ℕ) → q < top → cond none q (cond up (q + 1) q) ≤ top
    at_most true up q top l = omega (arith, l)
    at_most false true q top l = omega (arith, l)
    at_most false false q top l = omega (arith, l)

next_index : (up : Bool) (low : ℕ) → ltb low (cond up (low + 1) low) ≡ up
next_index true low = lt-ltb low (low + 1) (omega arith)
next_index false low = le-ltb low low (omega arith)

pub rounded_parts_counted : AreRoundedPartsCounted
rounded_parts_counted p digits low amount parts mode bits index one from to all picks =
    let top : ℕ = 2 ^ digits in
    let by : ℕ = amount - point p low * parts in
    let rest : ℕ = point p (low + 1) * parts - amount in
    let share : ℕ = rounded_parts mode digits by rest in
    let fewer = rounded_fit mode digits by rest (omega (arith, to)) in
    let off : eqb (point p low * parts) amount ≡ false =
    ne_eqb (point p low * parts) amount (λ e. omega (arith, e, from)) in
    let test : (k : ℕ) → k < top → ltb low (index k) ≡ leb top (share + k) = λ k h.
    let a = all k h in
    let takes : ℕ → ℕ → Bool → Bool = λ below above odd. reaches_next mode (bits k) below above in
    let here : IsRandomPick p mode (bits k) amount parts (index_between takes (point p) amount parts low) =
    record { low = low; from = omega (arith, from); to = to; is = refl } in
    let same = random_pick_once p mode (bits k) amount parts (index k) _ one (picks k h) here in
    ap (λ (n : ℕ). ltb low n) same
    ∙ ap (λ (b : Bool). ltb low (cond b low (cond (reaches_next mode (bits k) by rest) (low + 1) low))) off
    ∙ next_index (reaches_next mode (bits k) by rest) low
    ∙ ap (λ (n : ℕ). leb (2 ^ n) (rounded_parts mode n by rest + (bits k).random)) a.0
    ∙ ap (λ (n : ℕ). leb top (share + n)) a.1 in
    same_count (λ k. ltb low (index k)) (λ k. leb top (share + k)) top test
    ∙ reaching top share top fewer
    ∙ (let e : share + top - top ≡ share = omega arith in e)
