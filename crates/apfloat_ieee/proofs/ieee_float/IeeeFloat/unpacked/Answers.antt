use Rattle.std.proofs.Common.{◌≡◌, sym, subst}
use Rattle.apfloat_model.specs.{formats.Datum.Datum, formats.Members.IsMember, order.Classes.category_of}
use Rattle.apfloat_ieee.specs.FlaggedTypes.{shape_of, format_of}
use Rattle.apfloat_rounding.proofs.StoredMembers.{category_is, member_is}
use Rattle.apfloat_ieee.proofs.ieee_float.IeeeFloat.unpacked.Goals as goal

pub returns-clause-category : goal.returns-clause-category
returns-clause-category g c =
    subst (λ (d : Datum). c.self.inside.unpacked.category ≡ category_of d) c.self.view_is
    (sym (category_is (shape_of g.S.Flagged) c.self.inside.unpacked c.self.invariant))

pub returns-clause-member : goal.returns-clause-member
returns-clause-member g c =
    subst (IsMember (format_of g.S.Flagged)) c.self.view_is
    (member_is (shape_of g.S.Flagged) c.self.inside.unpacked c.self.invariant)
