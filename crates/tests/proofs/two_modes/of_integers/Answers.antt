use Rattle.std.specs.Int.{w128}
use Rattle.std.proofs.lemmas.Int.{to_z-of_z}
use Rattle.rustc_apfloat.specs.{TwoModes.IsOk, FlaggedTypes.format_of}
use Rattle.rustc_apfloat.specs.WholeNumbers.{IsFromUnsigned, IsFromSigned}
use Rattle.apfloat_model.proofs.rounding.ModesAgree.{from_unsigned_agrees, from_signed_agrees}
use Rattle.apfloat_model.proofs.rounding.OutwardResults.{from_unsigned_encloses, from_signed_encloses}
use Rattle.tests.proofs.TwoModes.{in_modes}
use Rattle.tests.proofs.two_modes.of_integers.Goals as goal

pub returns-clause-unsigned : goal.returns-clause-unsigned
returns-clause-unsigned g c =
    in_modes IsOk (λ mode. IsFromUnsigned (format_of g.S.Flagged) mode c.args.unsigned)
    (from_unsigned_agrees (format_of g.S.Flagged) c.args.unsigned)
    (from_unsigned_encloses (format_of g.S.Flagged) c.args.unsigned) c.args.mode c.args.other _ _
    c.from_u128_r.ensures c.from_u128_r-2.ensures

pub returns-clause-signed : goal.returns-clause-signed
returns-clause-signed g c =
    let whole = to_z-of_z w128 c.args.signed c.ranges.signed in
    in_modes IsOk (λ mode. IsFromSigned (format_of g.S.Flagged) mode c.args.signed)
    (from_signed_agrees (format_of g.S.Flagged) c.args.signed)
    (from_signed_encloses (format_of g.S.Flagged) c.args.signed) c.args.mode c.args.other _ _
    (rw whole at c.from_i128_r.ensures) (rw whole at c.from_i128_r-2.ensures)
