-- What the tests on registers keep of a call that passes them.
-- Our choice: a restatement for proofs.
use Rattle.std.specs.Prelude.{◌≡◌, ℕ, ◌+◌, ◌^◌, ◌≤◌, false}
use Rattle.call_model.specs.declared.Transfer.{Transfer}
use Rattle.call_model.specs.declared.Call.{Call}
use Rattle.call_model.specs.declared.Call.TheVariants.{Put, Get, ConsoleOut, ConsoleIn, Qstart, Qcommit, File}
use Rattle.call_model.specs.declared.FileCall.{FileCall}
use Rattle.call_model.specs.declared.FileCall.TheVariants as files
use Rattle.call_model.specs.Limits.{greatest_child, longest_row, greatest_length}
use Rattle.call_model.specs.Options.{has_two_changes, wrong_put_options, wrong_get_options, wrong_pages, wrong_block_address}

-- what the tests keep of Put and Get, whose options have to stand together
pub record IsTransfer (t : Transfer) : Type 0 where
  pub changes : has_two_changes t.options ≡ false
  pub ranges : wrong_pages t.options t.source t.destination t.size ≡ false
  pub block : wrong_block_address t.options t.block ≡ false

-- bytes that a call may name: they end within memory, and are not too many
pub record IsSpan (addr len : ℕ) : Type 0 where
  pub within : addr + len ≤ 2 ^ 32
  pub short : len ≤ greatest_length

-- children that a call may name in a row: at least one, not too many, and the last has a number that fits
pub record IsRow (first count : ℕ) : Type 0 where
  pub some : 1 ≤ count
  pub few : count ≤ longest_row
  pub within : first + count ≤ greatest_child + 1

-- what the tests keep of a file call
abbrev pub IsFileCall : FileCall → Type 0
IsFileCall (files.New name n append) = IsSpan name n
IsFileCall (files.Put name n addr len add) = IsSpan name n × IsSpan addr len
IsFileCall (files.Get name n addr len offset) = IsSpan name n × IsSpan addr len
IsFileCall (files.Length name n) = IsSpan name n
IsFileCall (files.Delete name n) = IsSpan name n

-- what the tests keep of a call, apart from where the caller stands
abbrev pub IsAccepted : Call → Type 0
IsAccepted (Put t) = (wrong_put_options t.options ≡ false) × IsTransfer t
IsAccepted (Get t) = (wrong_get_options t.options ≡ false) × IsTransfer t
IsAccepted (ConsoleOut addr len) = IsSpan addr len
IsAccepted (ConsoleIn addr len) = IsSpan addr len
IsAccepted (Qstart first count quantum) = IsRow first count × (1 ≤ quantum)
IsAccepted (Qcommit first count) = IsRow first count
IsAccepted (File call) = IsFileCall call
IsAccepted k = Unit {0}
