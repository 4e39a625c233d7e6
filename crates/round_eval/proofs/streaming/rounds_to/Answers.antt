use Rattle.std.proofs.Common.{◌≡◌, ◌*◌, Err, ap, refl, subst}
use Rattle.det_host.specs.Writing.{output_of}
use Rattle.run_model.specs.Console.{most_output}
use Rattle.demand_eval.specs.Streams.{StandsStill}
use Rattle.demand_eval.proofs.Streams.{prefix_in_all, prefix_settled, stands_at_first, stands_behind}
use Rattle.round_eval.specs.Apart.{ByOneQuantum}
use Rattle.round_eval.proofs.streaming.rounds_to.Goals as goal

pub returns-in-Ok-clause-write : goal.returns-in-Ok-clause-write
returns-in-Ok-clause-write g c = λ at failed. stands_behind _ _ _ _ _ _ _ _ _ _ c.in-Ok.ensures.later c.in-Ok.ensures.ok (c.rounds_on.ensures.write at failed)

pub returns-in-Ok-clause-prefix : goal.returns-in-Ok-clause-prefix
returns-in-Ok-clause-prefix g c =
    prefix_in_all c.rounds_on.result _ _ _ (g.O.Sink.faults c.write_console.new.out) (g.O.Sink.faults c.rounds_on.new.out) c.args.space c.in-Ok.ensures.ok c.rounds_on.ensures.meaning c.rounds_on.ensures.writes c.rounds_on.ensures.begins

pub returns-in-Err-Failed-clause-write : goal.returns-in-Err-Failed-clause-write
returns-in-Err-Failed-clause-write g c = λ at failed.
    let same : c.args.space ≡ at = cc in
    subst (StandsStill (c.args.quantum * most_output) (ByOneQuantum c.args.quantum) (output_of g.O.Sink.taken g.O.Sink.faults c.args.out.now c.write_console.new.out) c.args.space) same
    (stands_at_first _ _ _ _ c.requires.sound (c.in-Err-Failed.ensures.failed (ap Err c.in-Err-Failed.field-0-is)))

pub returns-in-Err-Failed-clause-prefix : goal.returns-in-Err-Failed-clause-prefix
returns-in-Err-Failed-clause-prefix g c = prefix_settled _ _ c.args.space c.args.space refl c.in-Err-Failed.ensures.prefix

pub returns-in-Err-Memory-clause-prefix : goal.returns-in-Err-Memory-clause-prefix
returns-in-Err-Memory-clause-prefix g c = prefix_settled _ _ c.args.space c.args.space refl c.in-Err-Memory.ensures.prefix
