use Rattle.program_tests.proofs.streams.stream.Goals as goal

pub returns-in-Demand : goal.returns-in-Demand
returns-in-Demand g c = λ at is. let still = c.settle_to.ensures.write at is in still.sound

pub returns-in-Rounds : goal.returns-in-Rounds
returns-in-Rounds g c = λ at is. let still = c.rounds_to.ensures.write at is in still.sound
