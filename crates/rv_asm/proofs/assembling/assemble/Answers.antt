use Rattle.rv_asm.proofs.Answers.{found, only, fault, rest}
use Rattle.rv_asm.proofs.assembling.assemble.Goals as goal

pub returns-clause-found : goal.returns-clause-found
returns-clause-found c = found c.args.source.now c.whole.result c.whole.ensures.exact

pub returns-clause-only : goal.returns-clause-only
returns-clause-only c = λ i s. only c.args.source.now c.whole.result i c.whole.ensures.exact s

pub returns-clause-fault : goal.returns-clause-fault
returns-clause-fault c = fault c.args.source.now c.whole.result c.whole.ensures.exact

pub returns-clause-rest : goal.returns-clause-rest
returns-clause-rest c = λ e s. rest c.args.source.now c.whole.result e c.whole.ensures.exact s
