-- The words of a command: how many there are, and their places.
use Rattle.std.proofs.Common.{◌≡◌, ◌≤◌, ◌<◌, ◌⊎◌, inl, inr, ℕ, zero, suc, ◌-◌, Bool, true, false, ◌&&◌, nat_le, List}
use Rattle.std.proofs.Common.{[], ◌∷◌, length, get_or, map, take, drop, Some, Result, Ok, arith, refl, subst, sym}
use Rattle.std.proofs.lemmas.{Bool.lt-leb, Bool.le-leb, List.get_or-map, List.length-map}
use Rattle.rustc_apfloat.specs.declared.Round.{Round}
use Rattle.formats_at_run_time.specs.{declared.command_kind.CommandKind.CommandKind, BuiltIns.kind_of}
use Rattle.formats_at_run_time.specs.{CommandKinds.built_in_kind, CommandKinds.command_kind_named, ValueKinds.Kind}
use Rattle.commands.specs.declared.operation.Operation.{Operation}
use Rattle.commands.specs.declared.operation.Operation.TheVariants.{OfTwo, FusedSum, WholeNumber, Text}
use Rattle.commands.specs.Commands.{Command, arguments, calculation, command_of, commanded, named, operand_count}
use Rattle.commands.specs.Commands.{provided, with_format, word_at}
use Rattle.commands.specs.Replies.{Reply, IsOnly, IsReply, IsReplyTo, refused}
use Rattle.commands.proofs.Named.{named_count}
use denote.Ref.{Bor}

-- ---- too few or too many

only_fault : (holds : Bool) (word : List ℕ) (wanted : Result Command (List ℕ)) → holds ≡ false
    → IsOnly (IsReplyTo (provided holds word wanted)) (refused word)
only_fault true word wanted e = cc
only_fault false word wanted e = record { holds = refl; only = λ other h. h }

few_or_many : (n : ℕ) → (n < 4) ⊎ ((4 ≤ n) × (6 < n)) → (nat_le 4 n && nat_le n 6) ≡ false
few_or_many n (inl few) = rw (lt-leb 4 n few) refl
few_or_many n (inr many) = rw (le-leb 4 n many.0, lt-leb n 6 many.1) refl

-- any other number of words is refused
pub only_count : (given : List (List ℕ)) (n : ℕ) → length given ≡ n → (n < 4) ⊎ ((4 ≤ n) × (6 < n))
    → IsOnly (IsReply given) (refused arguments)
only_count given n count outside =
    let off : (nat_le 4 (length given) && nat_le (length given) 6) ≡ false = rw count (few_or_many n outside) in
    only_fault (nat_le 4 (length given) && nat_le (length given) 6) arguments
    (with_format (word_at given 0) (word_at given 1) (word_at given 2) (drop 3 given)) off

-- ---- 4 to 6 words

-- the operands are the words from the fourth on
operands_of : (given : List (List ℕ)) → 4 ≤ length given → length given ≤ 6
    → command_of given ≡ with_format (word_at given 0) (word_at given 1) (word_at given 2)
    (take (length given - 3) (word_at given 3 ∷ word_at given 4 ∷ word_at given 5 ∷ []))
operands_of [] some few = absurd (omega arith)
operands_of (a ∷ []) some few = absurd (omega arith)
operands_of (a ∷ b ∷ []) some few = absurd (omega arith)
operands_of (a ∷ b ∷ c ∷ []) some few = absurd (omega arith)
operands_of (a ∷ b ∷ c ∷ d ∷ []) some few = refl
operands_of (a ∷ b ∷ c ∷ d ∷ e ∷ []) some few = refl
operands_of (a ∷ b ∷ c ∷ d ∷ e ∷ f ∷ []) some few = refl
operands_of (a ∷ b ∷ c ∷ d ∷ e ∷ f ∷ g ∷ more) some few = absurd (omega arith)

-- a reply to the words in their places is the reply to the command
pub only_counted : (given : List (List ℕ)) (n : ℕ) (format operation mode first second third : List ℕ) (reply : Reply)
    → IsOnly (IsReplyTo (with_format format operation mode (take (n - 3) (first ∷ second ∷ third ∷ [])))) reply
    → length given ≡ n → 4 ≤ n → n ≤ 6 → format ≡ word_at given 0 → operation ≡ word_at given 1 → mode ≡ word_at given 2
    → first ≡ word_at given 3 → second ≡ word_at given 4 → third ≡ word_at given 5 → IsOnly (IsReply given) reply
only_counted given n format operation mode first second third reply only count some few format_is operation_is mode_is
    first_is second_is third_is =
    let enough : 4 ≤ length given = omega arith in
    let not_more : length given ≤ 6 = omega arith in
    let asked : command_of given ≡ with_format format operation mode (take (n - 3) (first ∷ second ∷ third ∷ [])) =
    rw (format_is, operation_is, mode_is, first_is, second_is, third_is, ← count) (operands_of given enough not_more) in
    subst (λ (command : Result Command (List ℕ)). IsOnly (IsReplyTo command) reply) (sym asked) only

-- a reply to words that are parts of a text, in their places, is the reply to the command
pub only_counted_texts : (words : List (Bor (List ℕ))) (none : Bor (List ℕ)) (second third : List ℕ) (reply : Reply)
    → IsOnly (IsReplyTo (with_format (get_or words 0 none).now (get_or words 1 none).now (get_or words 2 none).now
    (take (length words - 3) ((get_or words 3 none).now ∷ second ∷ third ∷ [])))) reply → 4 ≤ length words
    → length words ≤ 6 → second ≡ word_at (map (λ w. w.now) words) 4 → third ≡ word_at (map (λ w. w.now) words) 5
    → IsOnly (IsReply (map (λ w. w.now) words)) reply
only_counted_texts words none second third reply only some few second_is third_is =
    let text = λ (w : Bor (List ℕ)). w.now in
    only_counted (map text words) (length words) _ _ _ _ second third reply only (length-map words text) some few
    (sym (get_or-map text words 0 none [] (omega arith))) (sym (get_or-map text words 1 none [] (omega arith)))
    (sym (get_or-map text words 2 none [] (omega arith))) (sym (get_or-map text words 3 none [] (omega arith)))
    second_is third_is

-- ---- the operands in their places

length-operands : (count : ℕ) (first second third : List ℕ) → count ≤ 3
    → length (take count (first ∷ second ∷ third ∷ [])) ≡ count
length-operands zero first second third few = refl
length-operands (suc zero) first second third few = refl
length-operands (suc (suc zero)) first second third few = refl
length-operands (suc (suc (suc zero))) first second third few = refl
length-operands (suc (suc (suc (suc more)))) first second third few = absurd (omega arith)

-- the calculation of an operation depends only on as many words as it has operands
calculation_of : (kind : Kind) (known : Operation) (name first second third : List ℕ) (count : ℕ)
    → count ≡ operand_count known → calculation kind known name (take count (first ∷ second ∷ third ∷ []))
    ≡ calculation kind known name (first ∷ second ∷ third ∷ [])
calculation_of kind (OfTwo arithmetic) name first second third count e = rw e refl
calculation_of kind FusedSum name first second third count e = rw e refl
calculation_of kind WholeNumber name first second third count e = rw e refl
calculation_of kind Text name first second third count e = rw e refl

-- a reply to the named operation is the reply to the command
pub only_named : (format operation mode first second third : List ℕ) (count : ℕ) (kind : CommandKind)
    (known : Operation) (round : Round) (reply : Reply) → count ≤ 3 → command_kind_named format ≡ Some kind
    → named operation mode count ≡ Ok (known, round) → IsOnly (IsReplyTo (commanded (kind_of (built_in_kind kind)) round
    (calculation (kind_of (built_in_kind kind)) known operation (first ∷ second ∷ third ∷ [])))) reply
    → IsOnly (IsReplyTo (with_format format operation mode (take count (first ∷ second ∷ third ∷ [])))) reply
only_named format operation mode first second third count kind known round reply few kind_is names only =
    rw (
      kind_is,
      length-operands count first second third few,
      names,
      calculation_of (kind_of (built_in_kind kind)) known operation first second third count
          (named_count operation mode count known round names),
    ) only
