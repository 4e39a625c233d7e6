use Rattle.explain_cli.proofs.Promises.{ended_so}
use Rattle.explain_cli.proofs.program.explain_main.Goals as goal

pub returns-clause-answers : goal.returns-clause-answers
returns-clause-answers g c = record {
  begun = ended_so _ _ _ _ _ _ c.perform-ended.ensures.begun c.say-end.ensures.end;
  said = c.say-end.ensures.line;
  later = (c.perform-ended.ensures.files_later, c.perform-ended.ensures.out_later, c.say-end.ensures.later);
}
