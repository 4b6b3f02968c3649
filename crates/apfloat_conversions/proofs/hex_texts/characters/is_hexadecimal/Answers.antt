use Rattle.std.proofs.Common.{ℕ, ◌+◌, ◌/◌, ◌%◌, ◌^◌, refl, arith}
use Rattle.std.proofs.{Math.Dec.eqb, lemmas.Bool.agree_below_at}
use Rattle.apfloat_model.specs.texts.Digits.{is_hexadecimal}
use Rattle.apfloat_conversions.specs.declared.hex_texts.characters.TheConstants.{HEXADECIMAL}
use Rattle.apfloat_conversions.proofs.hex_texts.characters.is_hexadecimal.Goals as goal

pub returns-then-place-lt64 : goal.returns-then-place-lt64
returns-then-place-lt64 c =
    let is_set = λ (byte : ℕ). eqb (HEXADECIMAL / 2 ^ ((byte + 208) % 256) % 2) 1 in
    agree_below_at is_set is_hexadecimal 256 c.args.byte refl (omega arith)
