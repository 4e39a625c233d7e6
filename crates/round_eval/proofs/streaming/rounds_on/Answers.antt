use Rattle.round_eval.specs.Apart.{ByOneQuantum}
use Rattle.round_eval.proofs.RootFirst.{begins_on, lags_more, meaning_on, one_quantum_from, writes_on}
use Rattle.demand_eval.proofs.Streams.{lags_then}
use Rattle.round_eval.proofs.streaming.rounds_on.Goals as goal

pub returns-in-Ok-clause-meaning : goal.returns-in-Ok-clause-meaning
returns-in-Ok-clause-meaning g c = meaning_on c.settle_on.result c.args.space c.go_to.new.space c.in-Ok.ensures.same c.settle_on.ensures.meaning

pub returns-in-Ok-clause-writes : goal.returns-in-Ok-clause-writes
returns-in-Ok-clause-writes g c =
    writes_on c.settle_on.result _ _ _ (g.O.Sink.faults c.args.out.now) (g.O.Sink.faults c.go_to.new.out) (g.O.Sink.faults c.settle_on.new.out) c.args.space c.go_to.new.space c.in-Ok.ensures.writes c.settle_on.ensures.writes

pub returns-in-Ok-clause-write : goal.returns-in-Ok-clause-write
returns-in-Ok-clause-write g c = λ at failed.
    lags_then _ (ByOneQuantum c.args.quantum) _ _ _ (g.O.Sink.faults c.args.out.now) _ _ c.args.space c.go_to.new.space at c.in-Ok.ensures.later c.in-Ok.ensures.same
    (λ count h. one_quantum_from _ _ count _ _ _ c.in-Ok.ensures.reached h) c.in-Ok.ensures.writes
    (lags_more _ c.args.quantum _ c.go_to.new.space at c.requires.quantum (c.settle_on.ensures.write at failed))

pub returns-in-Ok-clause-begins : goal.returns-in-Ok-clause-begins
returns-in-Ok-clause-begins g c =
    begins_on c.settle_on.result _ _ _ (g.O.Sink.faults c.args.out.now) (g.O.Sink.faults c.go_to.new.out) (g.O.Sink.faults c.settle_on.new.out) c.args.space c.go_to.new.space c.in-Ok.ensures.same c.in-Ok.ensures.writes c.settle_on.ensures.begins
