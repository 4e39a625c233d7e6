use Rattle.std.proofs.Common.{◌≡◌, ◌*◌}
use Rattle.bench_model.specs.Generated.{number}
use Rattle.rv_asm.proofs.Data.{data_so_far}
use Rattle.rv_asm.proofs.generating.data_words.Given as goal

abbrev pub invariant-loop-thread : goal.invariant-loop-thread
invariant-loop-thread l = record {
  words : l.words ≡ data_so_far l.seed l.threads l.thread;
  number : l.number ≡ number l.seed (2 * l.thread);
}
