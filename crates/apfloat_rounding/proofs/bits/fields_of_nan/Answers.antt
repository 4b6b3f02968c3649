use Rattle.std.proofs.Common.{◌≡◌, ℕ, Bool, false}
use Rattle.apfloat_model.specs.declared.kinds.NonfiniteBehavior.{NonfiniteBehavior, TheVariants.NanNegativeZero}
use Rattle.apfloat_model.specs.formats.{Members.IsNanSignificand, Nan.nan_sign}
use Rattle.apfloat_model.proofs.bits.FieldsOf.{nan_fields_of, one_nan_fields_of}
use Rattle.apfloat_rounding.specs.{Shapes.format_at, Encoded.layout_at}
use Rattle.apfloat_rounding.proofs.bits.fields_of_nan.Goals as goal

no_significand : (kind : NonfiniteBehavior) (explicit : Bool) (precision s : ℕ) → kind ≡ NanNegativeZero
    → IsNanSignificand kind explicit precision s → s ≡ 0
no_significand kind explicit precision s e h = rw e at h

no_sign : (kind : NonfiniteBehavior) (negative : Bool) → kind ≡ NanNegativeZero → negative ≡ nan_sign kind negative
    → negative ≡ false
no_sign kind b e h = rw e at h

pub returns-in-NanNegativeZero : goal.returns-in-NanNegativeZero
returns-in-NanNegativeZero c =
    let s = no_significand _ _ _ _ c.in-NanNegativeZero.is c.requires.nan.member.significand_is in
    let b = no_sign _ _ c.in-NanNegativeZero.is c.requires.nan.member.sign_is in
    rw (s, b) (one_nan_fields_of (format_at c.args.shape) (layout_at c.args.widths) c.requires.interchange
    c.in-NanNegativeZero.is)

pub returns-in_default : goal.returns-in_default
returns-in_default c =
    rw c.greatest_exponent.ensures (nan_fields_of (format_at c.args.shape) (layout_at c.args.widths) c.args.x.negative
    c.args.x.significand c.requires.interchange c.in_default.not-NanNegativeZero c.requires.nan.member.significand_is)
