use Rattle.apfloat_pair_theory.proofs.RefusedAnswers.{dropped_error, skipped_closing_step, dropped_cross_term}
use Rattle.apfloat_pair_theory.proofs.wrong_answers_are_refused.Goals as goal

pub returns-clause-dropped_error : goal.returns-clause-dropped_error
returns-clause-dropped_error c = dropped_error

pub returns-clause-skipped_closing_step : goal.returns-clause-skipped_closing_step
returns-clause-skipped_closing_step c = skipped_closing_step

pub returns-clause-dropped_cross_term : goal.returns-clause-dropped_cross_term
returns-clause-dropped_cross_term c = dropped_cross_term
