use Rattle.std.proofs.Common.{◌≡◌, length}
use Rattle.script_model.specs.Reading.{bytes_of}
use Rattle.dev_script.proofs.Pairs.{with_front}
use Rattle.dev_script.proofs.words.bytes_of.Given as goal

abbrev pub invariant-loop-rest : goal.invariant-loop-rest
invariant-loop-rest l = with_front l.bytes.items (bytes_of l.rest) ≡ bytes_of l.digits

abbrev pub decreases-loop-rest : goal.decreases-loop-rest
decreases-loop-rest l = length l.rest
