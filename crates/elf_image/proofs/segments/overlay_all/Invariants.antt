use Rattle.std.proofs.Common.{◌≡◌, ℕ, ◌<◌, ◌+◌, ◌-◌, length, drop, get_or}
use Rattle.elf_model.specs.Pages.{byte_of}
use Rattle.elf_image.specs.View.{load_views}
use Rattle.elf_image.proofs.segments.overlay_all.Given as goal

abbrev pub invariant-loop-done : goal.invariant-loop-done
invariant-loop-done l = record {
  len : length l.content ≡ length l.fn.content;
  bytes : (k : ℕ) → k < length l.fn.content → get_or l.content k 0 ≡ byte_of (drop (length l.loads - l.done) (load_views l.loads)) (l.start + k);
}
