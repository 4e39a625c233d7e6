use Rattle.std.proofs.Common.{◌≡◌, ◌<◌, ℕ, slice_index}
use Rattle.page_store.proofs.all_zero.Given as goal

abbrev pub invariant-loop-byte : goal.invariant-loop-byte
invariant-loop-byte l = record {
  only : l.joined ≡ 0 → (k : ℕ) → k < l.byte-index → slice_index l.bytes k ≡ 0;
  all : ((k : ℕ) → k < l.byte-index → slice_index l.bytes k ≡ 0) → l.joined ≡ 0;
}
