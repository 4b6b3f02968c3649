use Rattle.apfloat_model.specs.rounding.Flags.{bits_of}
use Rattle.apfloat_ieee.specs.FlaggedTypes.{format_of}
use Rattle.ieee_operations.proofs.augmented_lemmas.Rests.{rest_exact, first_exact, first_of_nearest, second_of_nearest}
use Rattle.ieee_operations.proofs.augmented.sums.rest_of.Goals as goal

pub returns-then-is_ok-clause-exact : goal.returns-then-is_ok-clause-exact
returns-then-is_ok-clause-exact g c =
    let f = format_of g.S.Flagged in
    let first = c.sub_r-first.result in
    let exact = first_exact f c.args.x c.args.head first.value (bits_of first.status) c.requires.head.is_finite
    c.requires.left.is_finite c.sub_r-first.ensures.difference (c.is_ok.ensures.yes c.if-is_ok.true) in
    λ o. rest_exact f c.args.x c.args.y c.args.head first.value c.sub_r.result.value (bits_of c.sub_r.result.status)
    c.requires.right.is_finite exact c.sub_r.ensures.difference o

pub returns-then-is_ok-clause-nearest : goal.returns-then-is_ok-clause-nearest
returns-then-is_ok-clause-nearest g c =
    let f = format_of g.S.Flagged in
    let first = c.sub_r-first.result in
    let exact = first_exact f c.args.x c.args.head first.value (bits_of first.status) c.requires.head.is_finite
    c.requires.left.is_finite c.sub_r-first.ensures.difference (c.is_ok.ensures.yes c.if-is_ok.true) in
    λ n. second_of_nearest f g.S.Flagged.lawful.parameters.precision_low c.args.x c.args.y c.args.head first.value
    c.sub_r.result.value (bits_of c.sub_r.result.status) c.requires.left c.requires.right exact n
    c.sub_r.ensures.difference

pub returns-else-is_ok-clause-nearest : goal.returns-else-is_ok-clause-nearest
returns-else-is_ok-clause-nearest g c =
    let f = format_of g.S.Flagged in
    let first = c.sub_r-first.result in
    λ n. first_of_nearest f g.S.Flagged.lawful.parameters.precision_low c.args.x c.args.y c.args.head first.value
    (bits_of first.status) c.requires.left c.requires.right c.requires.head c.requires.order n
    c.sub_r-first.ensures.difference
