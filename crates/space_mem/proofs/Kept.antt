-- Pages that a change leaves owned and dirty as they were.
use Rattle.std.specs.Prelude.{◌≡◌, ℕ, ◌<◌, cond, Result, Ok, Err, OnOk, OnErr}
use Rattle.std.proofs.Common.{refl, sym, ◌∙◌, ap, inl, inr}
use Rattle.std.proofs.lemmas.Bool.{cases_lt}
use Rattle.memory_model.specs.Sparse.{value_at}
use Rattle.memory_model.specs.Memory.{Memory}
use Rattle.memory_model.proofs.Rows.{value_at-put_other}
use Rattle.page_marks.specs.Marks.{mark_of}
use Rattle.page_tree.specs.TreeRefs.{root_own}
use Rattle.space_mem.specs.declared.table.PageTable.{PageTable}
use Rattle.space_mem.specs.Held.{Held, IsOutside, KeepsMarks, KeepsMarksOutside, Owns, owning}
use Rattle.space_mem.specs.Tables.{IsTable, held_of}
use Rattle.space_mem.proofs.Tables.{owned_at, owned_high, owns_own, marked_at, marked_high}
use Rattle.space_mem.proofs.Updates.{put_again}

pub keeps_refl : (h : Held) (page : ℕ) → KeepsMarks h h page
keeps_refl h page = record { owned = refl; dirty = refl }

pub keeps_same : (g h : Held) (page : ℕ) → h ≡ g → KeepsMarks g h page
keeps_same g h page same = record { owned = ap (λ x. value_at x.owned page) same; dirty = ap (λ x. value_at x.dirty page) same }

pub keeps_then : (g h i : Held) (page : ℕ) → KeepsMarks g h page → KeepsMarks h i page → KeepsMarks g i page
keeps_then g h i page first second = record { owned = second.owned ∙ first.owned; dirty = second.dirty ∙ first.dirty }

-- bytes and permissions alone have changed
pub keeps_memory : (g h : Held) (m : Memory) (page : ℕ) → h ≡ record g { memory = m } → KeepsMarks g h page
keeps_memory g h m page is = record { owned = ap (λ x. value_at x.owned page) is; dirty = ap (λ x. value_at x.dirty page) is }

-- another page is owned
pub keeps_beside : (g h : Held) (at : ℕ) (m : Memory) (page : ℕ) → h ≡ owning g at m → (page ≡ at → ⊥) → KeepsMarks g h page
keeps_beside g h at m page is other = record {
  owned = ap (λ x. value_at x.owned page) is ∙ value_at-put_other g.owned at 1 page other;
  dirty = ap (λ x. value_at x.dirty page) is ∙ value_at-put_other g.dirty at 1 page other;
}

-- what trees own and mark outside of a range
pub table_keeps : (t s : PageTable) (first end : ℕ) → ((p : ℕ) → p < 1048576 → IsOutside first end p → root_own s.pages p ≡ root_own t.pages p) → ((p : ℕ) → p < 1048576 → IsOutside first end p → mark_of s.dirty p ≡ mark_of t.dirty p)
    → KeepsMarksOutside first end (held_of t) (held_of s)
table_keeps t s first end own marked p out = elim (cases_lt p 1048576) [
  | inl below ↦ record {
    owned = owned_at s.pages p below ∙ ap (λ b. cond b 1 0) (own p below out) ∙ sym (owned_at t.pages p below);
    dirty = marked_at s.dirty p below ∙ marked p below out ∙ sym (marked_at t.dirty p below);
  }
  | inr high ↦ record {
    owned = owned_high s.pages p high ∙ sym (owned_high t.pages p high);
    dirty = marked_high s.dirty p high ∙ sym (marked_high t.dirty p high);
  }
]

pub table_kept : (t s : PageTable) (first end : ℕ) → held_of s ≡ held_of t → KeepsMarksOutside first end (held_of t) (held_of s)
table_kept t s first end same p out = keeps_same (held_of t) (held_of s) p same

-- a page that is owned is dirty
pub owned_dirty : (t : PageTable) (page : ℕ) → IsTable t → page < 1048576 → Owns (held_of t) page → value_at (held_of t).dirty page ≡ 1
owned_dirty t page table below owns = marked_at t.dirty page below ∙ table.marked page below (owns_own t page below owns)

-- owning it again changes nothing
pub owned_again : (h : Held) (page : ℕ) (m : Memory) → Owns h page → value_at h.dirty page ≡ 1 → owning h page m ≡ record h { memory = m }
owned_again h page m owns dirty =
    let o = put_again h.owned page 1 owns in
    let d = put_again h.dirty page 1 dirty in
    λ i. record { memory = m; owned = o i; dirty = d i }

-- whether it succeeds or not
pub always : {T E : Type 0} (r : Result T E) (g x h : Held) → OnOk r (g ≡ x) → OnErr r (g ≡ h) → x ≡ h → g ≡ h
always (Ok v) g x h ok err same = ok ∙ same
always (Err e) g x h ok err same = err
