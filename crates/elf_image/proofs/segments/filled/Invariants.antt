use Rattle.std.proofs.Common.{◌≡◌, ℕ, ◌≤◌, ◌<◌, ◌+◌, ◌-◌, length, drop}
use Rattle.elf_model.specs.Pages.{byte_of}
use Rattle.elf_image.specs.View.{load_views}
use Rattle.elf_image.proofs.segments.filled.Given as goal

abbrev pub invariant-loop-done : goal.invariant-loop-done
invariant-loop-done l = record {
  some : 0 < l.most;
  most : l.most ≤ l.end - l.start;
  zeros : (k : ℕ) → l.most ≤ k → k < l.end - l.start → byte_of (drop (length l.loads - l.done) (load_views l.loads)) (l.start + k) ≡ 0;
}
