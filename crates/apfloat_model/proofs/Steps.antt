-- What holds of every chain of roundings: it leads to one result with one status, whose flags go together.
use Rattle.std.proofs.Common.{ℕ, ◌<◌, refl, sym, ◌∙◌, subst}
use Rattle.apfloat_model.specs.{declared.kinds.Round.Round, formats.Format.Format, formats.Datum.Datum}
use Rattle.apfloat_model.specs.rounding.RaisedFlags.{FlagsGoTogether}
use Rattle.apfloat_model.specs.rounding.Steps.{Steps, ends, after, Leads, AreSound}
use Rattle.apfloat_model.proofs.rounding.{RootsOnce.Once, StatusesTogether.Together}
use Rattle.apfloat_model.proofs.Outcomes.{yields_once, yields_something, yields_together}

pub leads_once : {A : Type 0} (f : Format) (mode : Round) (steps : Steps A) → Once (Leads f mode steps)
leads_once f mode (ends given flags) v w r s x y = (x.0 ∙ sym y.0, x.1 ∙ sym y.1)
leads_once f mode (after outcome next) v w r s x y =
    let e = yields_once f mode outcome x.0 y.0 x.1 y.1 x.2 y.2 in
    leads_once f mode (next y.0 y.1) v w r s (subst (λ (t : ℕ). Leads f mode (next y.0 t) v r) e.1
    (subst (λ (d : Datum). Leads f mode (next d x.1) v r) e.0 x.3)) y.3

pub leads_somewhere : {A : Type 0} (f : Format) (mode : Round) (steps : Steps A) → 0 < f.precision → AreSound steps
    → (value : A) × ((status : ℕ) × Leads f mode steps value status)
leads_somewhere f mode (ends given flags) p h = (given, (flags, (refl, refl)))
leads_somewhere f mode (after outcome next) p h =
    let o = yields_something f mode outcome p h.0 in
    let t = yields_together f mode outcome h.0 o.0 o.1.0 o.1.1 in
    let r = leads_somewhere f mode (next o.0 o.1.0) p (h.1 o.0 o.1.0 t) in
    (r.0, (r.1.0, (o.0, o.1.0, o.1.1, r.1.1)))

pub leads_together : {A : Type 0} (f : Format) (mode : Round) (steps : Steps A) → AreSound steps
    → Together (Leads f mode steps)
leads_together f mode (ends given flags) h v s x = subst FlagsGoTogether (sym x.1) h
leads_together f mode (after outcome next) h v s x =
    leads_together f mode (next x.0 x.1) (h.1 x.0 x.1 (yields_together f mode outcome h.0 x.0 x.1 x.2)) v s x.3
