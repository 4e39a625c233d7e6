-- What a reader returned is what reading gives, unless memory ran out.
-- Our choice: a restatement for proofs.
use Rattle.std.specs.Prelude.{◌≡◌, Result, Ok, Err}
use Rattle.fault_model.specs.declared.fault.Fault.{Fault}
use Rattle.fault_model.specs.declared.fault.Fault.TheVariants as faults

abbrev pub Fails : {E Y : Type 0} → Fault E → Result Y E → Type 0
Fails faults.Memory read = Unit {0}
Fails (faults.Bad e) read = read ≡ Err e

abbrev pub Gives : {E X Y : Type 0} → (X → Y) → Result X (Fault E) → Result Y E → Type 0
Gives view (Ok x) read = read ≡ Ok (view x)
Gives view (Err e) read = Fails e read
