use Rattle.std.proofs.Common.{◌≡◌, ◌++◌, take, map}
use Rattle.instruction_model.specs.Encoding.{word_of}
use Rattle.bench_model.specs.Generated.{words_bytes}
use Rattle.rv_asm.proofs.generating.put_instructions.Given as goal

abbrev pub invariant-loop-instruction : goal.invariant-loop-instruction
invariant-loop-instruction l = l.content.items ≡ l.fn.content.items ++ words_bytes (map word_of (take l.instruction-index l.instructions))
