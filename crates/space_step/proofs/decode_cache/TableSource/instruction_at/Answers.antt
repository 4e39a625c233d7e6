use Rattle.instruction_model.specs.Outcome.{view_of}
use Rattle.rv_exec.specs.Flat.{meaning}
use Rattle.space_step.proofs.Caching.{known_stands}
use Rattle.space_step.proofs.decode_cache.TableSource.instruction_at.Goals as goal

pub returns-then-find-clause-instruction : goal.returns-then-find-clause-instruction
returns-then-find-clause-instruction c =
    let known = c.kept.ensures (view_of c.args.memory.now.memory) c.find.ensures.agrees (c.find.ensures.found c.if-find.true) in
    known_stands (view_of c.args.memory.now.memory) c.args.at (meaning c.kept.result) known.0 known.2

pub returns-then-find-clause-fields : goal.returns-then-find-clause-fields
returns-then-find-clause-fields c = (c.kept.ensures (view_of c.args.memory.now.memory) c.find.ensures.agrees (c.find.ensures.found c.if-find.true)).1
