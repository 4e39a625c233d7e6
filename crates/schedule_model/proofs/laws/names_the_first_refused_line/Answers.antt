use Rattle.schedule_model.proofs.Schedules.{refused_takes, refused_again}
use Rattle.schedule_model.proofs.laws.names_the_first_refused_line.Goals as goal

pub returns : goal.returns
returns c = λ bytes n. (refused_takes bytes n, refused_again bytes n)
