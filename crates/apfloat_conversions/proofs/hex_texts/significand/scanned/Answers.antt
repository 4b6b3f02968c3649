use Rattle.std.proofs.Common.{◌≡◌, List, ℕ, ◌∷◌, ◌-◌, ◌≤◌, length, get_or, take, drop, arith}
use Rattle.apfloat_conversions.specs.{hex_texts.Scans.IsScan, declared.hex_texts.significand.Scan.Scan}
use Rattle.apfloat_conversions.proofs.hex_texts_lemmas.Scanning.{refused_by}
use Rattle.apfloat_model.proofs.general.ListLaws.{parted}
use Rattle.apfloat_conversions.proofs.hex_texts.significand.scanned.Goals as goal
use Rattle.apfloat_conversions.proofs.hex_texts.significand.scanned.Goals.{then-left-lt1, in-46+in_ok-with_dot}
use Rattle.apfloat_conversions.proofs.hex_texts.significand.scanned.Goals.{else-left-lt1+in_default-1}

-- what is left begins with the dot
at_dot : (rest left : List ℕ) (scan : Scan) → 1 ≤ length left → get_or left 0 0 ≡ 46 → IsScan rest left scan
    → IsScan rest (46 ∷ take (length left - 1) (drop 1 left)) scan
at_dot rest left scan n e s =
    let i = parted (λ (l : List ℕ). IsScan rest l scan) left n s in
    rw e at i

pub returns-in_err-with_dot : goal.returns-in_err-with_dot
returns-in_err-with_dot c =
    let s = c.with_digits.ensures c.args.rest.now (c.none.ensures c.args.rest.now) in
    refused_by c.from_residual.result c.in_err-with_dot.field-0.0 _ _ c.from_residual.ensures.1
    (c.in_err-with_dot.ensures c.args.rest.now _ (at_dot c.args.rest.now _ _ c.in-46.len_at_least (omega arith) s))

pub with_digits-requires-in-46 : goal.with_digits-requires-in-46
with_digits-requires-in-46 c =
    let s = c.with_digits.ensures c.args.rest.now (c.none.ensures c.args.rest.now) in (
      c.args.rest.now,
      omega arith,
      c.in_ok-with_dot.ensures c.args.rest.now _ (at_dot c.args.rest.now _ _ c.in-46.len_at_least (omega arith) s),
    )

pub loop-left-init : goal.loop-left-init
loop-left-init c =
    let s = c.with_digits.ensures c.args.rest.now (c.none.ensures c.args.rest.now) in
    elim c.if-left-lt1.branch [
      | then-left-lt1 w ↦ rw (w.left-is, w.scan-is) s
      | in-46+in_ok-with_dot w ↦
          rw (w.left-is, w.scan-is)
          (w.with_digits-in-46.ensures c.args.rest.now
          (w.in_ok-with_dot.ensures c.args.rest.now _
          (at_dot c.args.rest.now _ _ w.in-46.len_at_least (omega arith) s)))
      | else-left-lt1+in_default-1 w ↦ rw (w.left-is, w.scan-is) s
    ]

pub returns-in_err-next : goal.returns-in_err-next
returns-in_err-next c =
    let i = parted (λ (l : List ℕ). IsScan c.args.rest.now l c.loop-left.scan) c.loop-left.left.now
    c.in-len1-up.len_at_least c.loop-left.invariant in
    refused_by c.from_residual-in_err-next.result c.in_err-next.field-0.0 _ _ c.from_residual-in_err-next.ensures.1
    (c.in_err-next.ensures c.args.rest.now _ i)
