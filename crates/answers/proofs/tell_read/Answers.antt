use lib.ListN.{drop}
use Rattle.meaning.specs.Answers.{header_fields, plan_read}
use Rattle.answers.proofs.Tells.{fits}
use Rattle.answers.proofs.tell_read.Goals as goal

pub overflow_cast-result : goal.overflow_cast-result
unfolding plan_read header_fields
overflow_cast-result c = fits (λ a. drop 2 (plan_read a).fields) c.in-Ok.is c.requires 0

pub overflow_cast-result-in-Ok : goal.overflow_cast-result-in-Ok
unfolding plan_read header_fields
overflow_cast-result-in-Ok c = fits (λ a. drop 2 (plan_read a).fields) c.in-Ok.is c.requires 1

pub overflow_cast-result-in-Ok-2 : goal.overflow_cast-result-in-Ok-2
unfolding plan_read header_fields
overflow_cast-result-in-Ok-2 c = fits (λ a. drop 2 (plan_read a).fields) c.in-Ok.is c.requires 2

pub overflow_cast-result-in-Ok-3 : goal.overflow_cast-result-in-Ok-3
unfolding plan_read header_fields
overflow_cast-result-in-Ok-3 c = fits (λ a. drop 2 (plan_read a).fields) c.in-Ok.is c.requires 3

pub overflow_cast-result-in-Ok-4 : goal.overflow_cast-result-in-Ok-4
unfolding plan_read header_fields
overflow_cast-result-in-Ok-4 c = fits (λ a. drop 2 (plan_read a).fields) c.in-Ok.is c.requires 4

pub overflow_cast-result-in-Ok-5 : goal.overflow_cast-result-in-Ok-5
unfolding plan_read header_fields
overflow_cast-result-in-Ok-5 c = fits (λ a. drop 2 (plan_read a).fields) c.in-Ok.is c.requires 5
