-- How a run is shown: its console, and its report behind that.
-- Our choice: a restatement for proofs.
use Rattle.std.specs.Prelude.{◌≡◌, ◌⊎◌, ℕ, Bool, true, List, Result, Ok, Err}
use Rattle.space_model.specs.Space.{Space, is_settled}
use Rattle.run_model.specs.Demand.{settle_tree}
use Rattle.report_model.specs.Report.{console_of, report}
use Rattle.det_host.specs.Writing.{Output, StopsWithin, Wrote, WrotePrefix}
use Rattle.det_cli.specs.declared.end.End.{End}
use Rattle.det_cli.specs.declared.end.End.TheVariants.{WriteFault, NoMemory}
use Rattle.det_cli.specs.Commands.{end_of}

-- a text that was not written whole: a fault stopped it, or memory ran out behind some first bytes of it
abbrev pub IsCutShort : Output → List ℕ → End → Type 0
IsCutShort o text end = ((end ≡ WriteFault) × StopsWithin o text) ⊎ ((end ≡ NoMemory) × WrotePrefix o text)

-- a root was brought to its end and its console written, or it was not
abbrev pub ShowsConsole : Output → Space → Result Space End → Type 0
ShowsConsole o root (Ok s) = (s ≡ settle_tree root) × (is_settled s ≡ true) × Wrote o (console_of s)
ShowsConsole o root (Err end) = IsCutShort o (console_of (settle_tree root)) end

-- the report of a settled root was written, or it was not
abbrev pub ShowsReport : Output → Bool → Space → End → Type 0
ShowsReport o digest s end = ((end ≡ end_of s) × Wrote o (report digest s)) ⊎ IsCutShort o (report digest s) end
