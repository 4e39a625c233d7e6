use Rattle.std.proofs.Common.{◌≡◌, ℕ, ◌≤◌, ◌<◌}
use Rattle.space_mem.specs.Held.{KeepsMarksOutside, Owns, Marks}
use Rattle.space_mem.proofs.memory.Mem.own_pages.Given as goal

abbrev pub invariant-loop-page : goal.invariant-loop-page
invariant-loop-page l = record {
  same : l.self.memory ≡ l.fn.self.memory;
  owned : (q : ℕ) → l.fn.first ≤ q → q < l.page → Owns l.self q;
  stays : (q : ℕ) → Owns l.fn.self q → Owns l.self q;
  outside : KeepsMarksOutside l.fn.first l.fn.end l.fn.self l.self;
  again : ((q : ℕ) → l.fn.first ≤ q → q < l.fn.end → Owns l.fn.self q) → l.self ≡ l.fn.self;
  marks : Marks l.fn.self l.self;
}
