use Rattle.std.proofs.Common.{◌≡◌, rules, subst}
use Rattle.apfloat_base.proofs.float.Float.next_down.Goals as goal

-- what holds of a value holds of an equal value
moved : {X : Type 0} (P : X → Type 0) {x y : X} → P x → x ≡ y → P y
moved P p e = subst P e p

pub returns : goal.returns
returns g c =
    let up = moved (λ x. g.Self.Float.meaning.steps_up x c.next_up.result) c.next_up.ensures
    (g.met.Self.Float.neg_law c.args.self _ assumption) in
    let down = g.met.Self.Float.steps_down_law c.args.self c.next_up.result up in
    search (rules, g.met.Self.Float.neg_law) steps 1000000
