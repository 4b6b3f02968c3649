-- How a user-defined format proves its law: a test of its constants is computed.
use Rattle.std.proofs.Common.{◌≡◌, true}
use Rattle.apfloat_model.specs.formats.Lawful.{Constants, IsLawful}
use Rattle.apfloat_model.proofs.formats.LawTest.{lawful_test}

-- constants that pass the test are lawful
pub lawful_from_test : (c : Constants) → lawful_test c ≡ true → IsLawful c
lawful_from_test c e = Rattle.apfloat_model.proofs.formats.LawTest.lawful_from_test c e
