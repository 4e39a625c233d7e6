-- What a step does to a memory, whatever it does to which pages are owned.
use Rattle.std.proofs.Common.{ap, true, Result, Ok, Err}
use Rattle.std.specs.declared.alloc.AllocError.{AllocError}
use Rattle.memory_model.specs.Memory.{with_number}
use Rattle.instruction_model.specs.Outcome.{Registers, Outcome, goes, stores, calls, traps}
use Rattle.rv_exec.specs.declared.stepping.Stepped.{Stepped}
use Rattle.rv_exec.specs.declared.stepping.Stepped.TheVariants.{Next, Call, Trap}
use Rattle.rv_exec.specs.Steps.{Steps}
use Rattle.space_mem.specs.Held.{Held, with_stored}

pub steps_seen : (o : Outcome) (r : Result Stepped AllocError) (s t : Registers) (g h : Held) → Steps with_stored true o r s g t h → Steps with_number true o r s g.memory t h.memory
steps_seen (goes u) (Ok Next) s t g h steps = (steps.0, ap (λ x. x.memory) steps.1)
steps_seen (goes u) (Ok Call) s t g h steps = absurd steps
steps_seen (goes u) (Ok (Trap c v)) s t g h steps = absurd steps
steps_seen (goes u) (Err e) s t g h steps = absurd steps
steps_seen (stores u at width v) (Ok Next) s t g h steps = (steps.0, ap (λ x. x.memory) steps.1)
steps_seen (stores u at width v) (Ok Call) s t g h steps = absurd steps
steps_seen (stores u at width v) (Ok (Trap c w)) s t g h steps = absurd steps
steps_seen (stores u at width v) (Err e) s t g h steps = (steps.0, steps.1, ap (λ x. x.memory) steps.2)
steps_seen calls (Ok Next) s t g h steps = absurd steps
steps_seen calls (Ok Call) s t g h steps = (steps.0, ap (λ x. x.memory) steps.1)
steps_seen calls (Ok (Trap c v)) s t g h steps = absurd steps
steps_seen calls (Err e) s t g h steps = absurd steps
steps_seen (traps c v) (Ok Next) s t g h steps = absurd steps
steps_seen (traps c v) (Ok Call) s t g h steps = absurd steps
steps_seen (traps c v) (Ok (Trap d u)) s t g h steps = (steps.0, steps.1, steps.2, ap (λ x. x.memory) steps.3)
steps_seen (traps c v) (Err e) s t g h steps = absurd steps
