-- Conversions into a format of P3109 by a rule. What is delivered for a pick, and what becomes of zeros and NaNs, is
-- that of `Projections`.
use Rattle.std.specs.Prelude.{◌≡◌, ℕ, ◌*◌, ◌^◌, Bool, not, ◌&&◌, eqb}
use Rattle.std.specs.Bool.{MatchBool}
use Rattle.apfloat_model.specs.formats.{Datum.Datum, Datum.finite, Datum.infinite, Datum.nan, Format.Format}
use Rattle.apfloat_model.specs.rounding.Rounding.{leads_out, ok_bits}
use Rattle.p3109_formats.specs.declared.{descriptor.Descriptor.Descriptor, rules.ProjectionRule.ProjectionRule}
use Rattle.p3109_formats.specs.Projections.{IsIntoProjection, IsWithoutCode, projected_datum, projected_format}
use Rattle.p3109_formats.specs.Projections.{projected_status, projected_value}
use Rattle.p3109_formats.specs.Rules.{IsInfinityBy, IsRulePick, passes, round_of}

-- as `IsProjected`; saturation changes no flags
pub record IsProjectedBy (c : Descriptor) (rule : ProjectionRule) (negative : Bool) (amount parts code status : ℕ)
    : Type 0 where
  pub index : ℕ
  pub is_pick : IsRulePick c.precision rule.round negative amount parts index
  pub value_is : projected_datum c code
      ≡ projected_value c (passes rule.saturation (leads_out (round_of rule.round) negative)) negative index
  pub status_is : status ≡ projected_status c (round_of rule.round) negative amount parts index

pub record IsProjectedNumberBy (c : Descriptor) (f : Format) (rule : ProjectionRule) (negative : Bool)
    (quanta code status : ℕ) (loses_info : Bool) : Type 0 where
  pub is_rounded : IsProjectedBy c rule negative (quanta * 2 ^ (projected_format c).scale) (2 ^ f.scale) code status
  pub loses_is : loses_info ≡ not (eqb status ok_bits)

-- A value of the format f becomes this code. A NaN and a zero become the same by each rule.
abbrev pub IsIntoProjectionBy : Descriptor → Format → ProjectionRule → Datum → ℕ → ℕ → Bool → Type 0
IsIntoProjectionBy c f rule (nan b s) code status loses_info =
    IsIntoProjection c f (round_of rule.round) (nan b s) code status loses_info
IsIntoProjectionBy c f rule (infinite b) code status loses_info =
    MatchBool (b && not c.signed) (IsWithoutCode c code status loses_info)
    (IsInfinityBy rule.saturation c b code status loses_info)
IsIntoProjectionBy c f rule (finite b n) code status loses_info =
    MatchBool (eqb n 0) (IsIntoProjection c f (round_of rule.round) (finite b 0) code status loses_info)
    (IsProjectedNumberBy c f rule b n code status loses_info)
