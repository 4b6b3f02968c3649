-- A root that was rounded to odd, and rounded again to a format for which there is room, is rounded once. One fraction
-- compares like the root with quarters of quanta of both formats, and of fractions that is known.
use Rattle.std.proofs.Common.{◌≡◌, ℕ, ◌*◌, ◌^◌, ◌<◌, ◌≤◌, false, subst, arith}
use Rattle.std.proofs.{Math.Nat.mul-pos, lemmas.Nat.pow_pos}
use Rattle.apfloat_model.specs.declared.kinds.Round.{Round, TheVariants.TowardZero}
use Rattle.apfloat_model.specs.{declared.status.StatusAnd.StatusAnd, formats.Format.Format, formats.Datum.Datum}
use Rattle.apfloat_model.specs.rounding.{Flags.Gives, Flags.bits_of, Rounding.IsDelivered}
use Rattle.apfloat_model.specs.arithmetic.Roots.{IsDeliveredRoot}
use Rattle.apfloat_model.proofs.{general.Choices.not_zero, arithmetic.RootDeliveries.root_delivered}
use Rattle.apfloat_model.proofs.arithmetic.RootSides.{AgreesWithRoot, coarser, agreeing}
use Rattle.round_to_odd.specs.{Odd.IsToOdd, Odd.IsAnswerMadeOdd, Again.IsRoundedAgain, Again.HasRoomFor}
use Rattle.round_to_odd.specs.Roots.{IsRootRoundedOnce, IsOwnRootRoundedOnce}
use Rattle.round_to_odd.proofs.{MadeOdd.odd_of_truncated, RoundedOnce.rounded_once, RootFractions.scaled_agrees}
use Rattle.round_to_odd.proofs.RootFractions.{moved_agrees, root_some, fraction_delivered, multiplied_root}

-- Three digits at least, in the format with room.
precise_too : (f g : Format) → 3 ≤ g.precision → HasRoomFor g f → 3 ≤ f.precision
precise_too f g precise room = let digits = room.digits in omega (arith, precise, digits)

-- The root of `square`, divided by `parts`, in units of 1, and a fraction that agrees with it at quarters of quanta of
-- g: if that fraction is delivered in f toward zero, made odd and rounded again, the root is rounded once in g.
root_again : (f g : Format) (mode : Round) (square parts amount units : ℕ) (toward first answer : StatusAnd Datum)
    → 3 ≤ g.precision → HasRoomFor g f → 0 < square → 0 < parts → AgreesWithRoot square (4 * 2 ^ g.scale) amount units
    → Gives (IsDelivered f TowardZero false (amount * 2 ^ f.scale) (units * parts)) toward
    → IsAnswerMadeOdd f false toward first → Gives (IsRoundedAgain f g mode first) answer
    → Gives (IsDeliveredRoot g mode (square * (2 ^ g.scale * 2 ^ g.scale)) parts) answer
root_again f g mode square parts amount units toward first answer precise room some apart agrees d made second =
    let fine : ℕ = 2 ^ f.scale in
    let coarse : ℕ = 2 ^ g.scale in
    let p : 0 < fine = pow_pos f.scale in
    let g₁ : 0 < coarse = pow_pos g.scale in
    let q : 0 < 4 * coarse = omega (arith, g₁) in
    let pieces : 0 < units * parts = mul-pos agrees.some apart in
    let positive : 0 < amount * fine = mul-pos (root_some square (4 * coarse) amount units some q agrees) p in
    let odd : Gives (IsToOdd f false (amount * fine) (units * parts)) first = odd_of_truncated f false (amount * fine)
    (units * parts) toward first (precise_too f g precise room) pieces d made in
    let once : IsDelivered g mode false (amount * fine * coarse) (units * parts * fine) answer.value
    (bits_of answer.status) =
    rounded_once f g mode false (amount * fine) (units * parts) first answer precise room positive pieces odd second in
    let a : amount * fine * coarse ≡ amount * coarse * fine = omega arith in
    let b : units * parts * fine ≡ units * fine * parts = omega arith in
    let moved : IsDelivered g mode false (amount * coarse * fine) (units * fine * parts) answer.value
    (bits_of answer.status) =
    subst (λ (x : ℕ). IsDelivered g mode false (amount * coarse * fine) x answer.value (bits_of answer.status)) b
    (subst (λ (x : ℕ). IsDelivered g mode false x (units * parts * fine) answer.value (bits_of answer.status)) a
    once) in
    root_delivered (square * (coarse * coarse)) parts (amount * coarse * fine) (units * fine)
    (scaled_agrees (square * (coarse * coarse)) 4 (amount * coarse) units fine p
    (moved_agrees square 4 coarse amount units agrees)) g mode answer.value (bits_of answer.status) moved

pub root_rounded_once : IsRootRoundedOnce
root_rounded_once h f g mode quanta toward first answer precise room some root made second =
    let fine : ℕ = 2 ^ f.scale in
    let coarse : ℕ = 2 ^ g.scale in
    let parts : ℕ = 2 ^ h.scale in
    let square : ℕ = quanta * parts in
    let p : 0 < fine = pow_pos f.scale in
    let q : 0 < coarse = pow_pos g.scale in
    let s : 0 < parts = pow_pos h.scale in
    let four : 0 < 4 * fine = omega (arith, p) in
    let r = agreeing square (4 * fine * coarse) (mul-pos four q) in
    let in_f : AgreesWithRoot square (4 * fine) r.amount r.parts =
    coarser square (4 * fine) coarse r.amount r.parts q r.agrees in
    let e : 4 * fine * coarse ≡ 4 * coarse * fine = omega arith in
    let in_g : AgreesWithRoot square (4 * coarse) r.amount r.parts = coarser square (4 * coarse) fine r.amount r.parts p
    (subst (λ (x : ℕ). AgreesWithRoot square x r.amount r.parts) e r.agrees) in
    let three : 3 ≤ f.precision = precise_too f g precise room in
    let d : IsDelivered f TowardZero false (r.amount * fine) (r.parts * parts) toward.value (bits_of toward.status) =
    fraction_delivered f TowardZero (square * (fine * fine)) parts (r.amount * fine) r.parts toward.value
    (bits_of toward.status) (omega (arith, three)) s (moved_agrees square 4 fine r.amount r.parts in_f)
    (rw (not_zero quanta some) at root) in
    rw (not_zero quanta some)
    (root_again f g mode square parts r.amount r.parts toward first answer precise room (mul-pos some s) s in_g d made
    second)

pub own_root_rounded_once : IsOwnRootRoundedOnce
own_root_rounded_once f g mode quanta toward first answer precise room some root made second =
    let fine : ℕ = 2 ^ f.scale in
    let three : 3 ≤ f.precision = precise_too f g precise room in
    root_rounded_once f f g mode quanta toward first answer precise room some (rw (not_zero quanta some)
    (multiplied_root f TowardZero (quanta * fine) fine toward.value (bits_of toward.status) (omega (arith, three))
    (pow_pos f.scale) (rw (not_zero quanta some) at root))) made second
