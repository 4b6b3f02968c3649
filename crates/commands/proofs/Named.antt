-- The operation and the mode that two words name.
use Rattle.std.proofs.Common.{◌≡◌, ℕ, ◌==◌, Bool, true, false, List, Option, Some, None, Result, Ok, refl, ap, ◌∙◌}
use Rattle.std.specs.Option.{ok_or}
use Rattle.std.proofs.lemmas.Bool.{eqb-true}
use Rattle.rustc_apfloat.specs.declared.Round.{Round}
use Rattle.formats_at_run_time.specs.Modes.{mode_named}
use Rattle.commands.specs.declared.operation.Operation.{Operation}
use Rattle.commands.specs.Commands.{◌>>=◌, arguments, found, named, operand_count, operations, provided}

-- a result that passed a condition is the given one, and the condition holds
provided_passed : {A : Type 0} (holds : Bool) (word : List ℕ) (given passed : A)
    → provided holds word (Ok given) ≡ Ok passed → (holds ≡ true) × (given ≡ passed)
provided_passed true word x y e = (refl, cc)
provided_passed false word x y e = cc

-- `named`, in terms of the entries of the tables
abbrev names : Option Operation → Option Round → List ℕ → List ℕ → ℕ → Result (Operation × Round) (List ℕ)
names operation mode first second count =
    ok_or operation first >>= λ k. ok_or mode second >>= λ r. provided (count == operand_count k) arguments (Ok (k, r))

-- an operation that is known and accepted comes with as many operands as it takes
count_of : (operation : Option Operation) (mode : Option Round) (first second : List ℕ) (count : ℕ) (known : Operation)
    (round : Round) → names operation mode first second count ≡ Ok (known, round) → count ≡ operand_count known
count_of None mode first second count known round e = cc
count_of (Some k) None first second count known round e = cc
count_of (Some k) (Some r) first second count known round e =
    let passed = provided_passed (count == operand_count k) arguments (k, r) (known, round) e in
    eqb-true _ _ passed.0 ∙ ap (λ (p : Operation × Round). operand_count p.0) passed.1

-- an operation that `named` accepts comes with as many operands as it takes
pub named_count : (operation mode : List ℕ) (count : ℕ) (known : Operation) (round : Round)
    → named operation mode count ≡ Ok (known, round) → count ≡ operand_count known
named_count operation mode count known round e =
    count_of (found operations operation) (mode_named mode) operation mode count known round e
