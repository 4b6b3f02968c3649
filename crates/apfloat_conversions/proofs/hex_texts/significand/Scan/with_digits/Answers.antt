use Rattle.std.proofs.Common.{List, ℕ, arith}
use Rattle.apfloat_conversions.specs.hex_texts.Scans.{IsScan}
use Rattle.apfloat_model.proofs.general.ListLaws.{parted}
use Rattle.apfloat_conversions.proofs.hex_texts_lemmas.Scanning.{scan_remade}
use Rattle.apfloat_conversions.proofs.hex_texts.significand.Scan.with_digits.Goals as goal

pub with_digit-next-requires-clause-cut : goal.with_digit-next-requires-clause-cut
with_digit-next-requires-clause-cut c =
    omega (arith, (c.loop-left.invariant c.requires.0 c.requires.2).cut_fits, c.requires.1, c.in-len1-up.len_at_least)

pub with_digit-next-requires-clause-places : goal.with_digit-next-requires-clause-places
with_digit-next-requires-clause-places c =
    omega (arith, (c.loop-left.invariant c.requires.0 c.requires.2).places_fit, c.requires.1, c.in-len1-up.len_at_least)

pub loop-left-preserved : goal.loop-left-preserved
loop-left-preserved c rest s =
    let i = parted (λ (l : List ℕ). IsScan rest l c.loop-left.scan) c.loop-left.left.now
    c.in-len1-up.len_at_least (c.loop-left.invariant rest s) in
    scan_remade rest _ c.with_digit-next.result c.remade-scan.result c.remade-scan.ensures
    (c.with_digit-next.ensures rest _ i)

pub returns : goal.returns
returns c rest s = scan_remade rest _ c.loop-left.scan c.remade.result c.remade.ensures (c.loop-left.invariant rest s)
