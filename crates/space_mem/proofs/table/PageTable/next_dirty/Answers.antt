use Rattle.std.specs.Prelude.{◌≡◌, ℕ, ◌<◌, ◌≤◌, Option, Some, None, IfSome}
use Rattle.std.proofs.Common.{◌∙◌, sym, arith}
use Rattle.page_marks.specs.Marks.{mark_of}
use Rattle.space_mem.specs.declared.table.PageTable.{PageTable}
use Rattle.space_mem.specs.Held.{IsNextDirty}
use Rattle.space_mem.specs.Tables.{held_of}
use Rattle.space_mem.proofs.Tables.{marked_at}
use Rattle.space_mem.proofs.table.PageTable.next_dirty.Goals as goal

next_marked : (t : PageTable) (n : ℕ) (r : Option ℕ) → IfSome r (λ p. n ≤ p) → IfSome r (λ p. p < 1048576) → IfSome r (λ p. mark_of t.dirty p ≡ 0 → ⊥) → IfSome r (λ p. (q : ℕ) → n ≤ q → q < p → mark_of t.dirty q ≡ 0) → IfSome r (IsNextDirty (held_of t) n)
next_marked t n None from within marked least = tt
next_marked t n (Some p) from within marked least = record {
  above = from;
  below = within;
  dirty = λ clean. marked (sym (marked_at t.dirty p within) ∙ clean);
  clean = λ q low high. marked_at t.dirty q (omega (arith, within, high)) ∙ least q low high;
}

pub returns-clause-some : goal.returns-clause-some
returns-clause-some c = let h = c.next.ensures in next_marked c.args.self.now c.args.n c.next.result h.from h.within h.marked h.least

pub returns-clause-none : goal.returns-clause-none
returns-clause-none c none q low high = marked_at c.args.self.now.dirty q high ∙ c.next.ensures.none none q low high
