use Rattle.std.proofs.Common.{◌≡◌, ◌++◌, take}
use Rattle.bench_model.specs.Generated.{words_bytes}
use Rattle.rv_asm.proofs.generating.put_words.Given as goal

abbrev pub invariant-loop-word : goal.invariant-loop-word
invariant-loop-word l = l.content.items ≡ l.fn.content.items ++ words_bytes (take l.word-index l.words)
