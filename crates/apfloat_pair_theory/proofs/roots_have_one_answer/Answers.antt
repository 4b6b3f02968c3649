use Rattle.std.proofs.Common.{lit<}
use Rattle.apfloat_model.specs.arithmetic.Roots.{IsRoot}
use Rattle.apfloat_model.proofs.{Once.root_once, AnswersExist.root_exists}
use Rattle.apfloat_pair_theory.specs.PairFormats.{wide}
use Rattle.apfloat_pair_theory.proofs.calls.{PairsOnce.wide_answer_once, CallsExist.wide_answer_exists}
use Rattle.apfloat_pair_theory.proofs.roots_have_one_answer.Goals as goal

pub returns : goal.returns
returns c mode x = record {
  exists = wide_answer_exists (IsRoot wide mode) (root_exists wide (lit< tt) mode) x;
  once = wide_answer_once (IsRoot wide mode) (root_once wide mode) x;
}
