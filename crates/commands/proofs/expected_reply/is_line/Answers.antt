use Rattle.std.proofs.Common.{◌≡◌, ℕ, List, [], ◌∷◌, ◌++◌, Some, append_assoc, refl}
use Rattle.std.proofs.lemmas.{Bool.Decides.Decides-eqb, Slice.Eq.strip_prefix_is}
use Rattle.rustc_apfloat.specs.Flags.{bits_of}
use Rattle.commands.specs.Replies.{hexadecimal_text, line_text, status_text}
use Rattle.commands.proofs.Hexadecimals.{last_digits}
use Rattle.commands.proofs.expected_reply.is_line.Goals as goal

-- a line is its digits, a space and its flags
line_is : (bits digits status : ℕ) (text shown rest names : List ℕ) → text ≡ shown ++ rest → rest ≡ 32 ∷ names
    → shown ≡ hexadecimal_text bits digits → status_text status ≡ names → line_text bits digits status ≡ text ++ 10 ∷ []
line_is bits digits status text shown rest names text_is rest_is shown_is names_is =
    rw (text_is, rest_is, shown_is, ← names_is) (simp append_assoc refl)

pub returns-in-Some-strip_prefix : goal.returns-in-Some-strip_prefix
returns-in-Some-strip_prefix c said =
    let text_is = strip_prefix_is Decides-eqb c.args.text.now _ (Some c.in-Some.rest) c.in-Some.ensures.cases in
    let rest_is = strip_prefix_is Decides-eqb c.in-Some.rest.now (32 ∷ []) (Some c.in-Some-strip_prefix.flags)
    c.in-Some-strip_prefix.ensures.cases in
    line_is c.args.bits c.args.digits (bits_of c.args.status) _ _ _ _ text_is rest_is
    (last_digits c.args.bits c.args.digits _ c.requires c.hexadecimal-shown.ensures) (c.is_status.ensures said)
