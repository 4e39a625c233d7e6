-- Pages that a memory takes over from another.
-- Our choice: what is said of a memory before and after, and restatements for proofs.
use Rattle.std.specs.Prelude.{◌≡◌, ℕ, ◌+◌, ◌*◌, ◌<◌, ◌⊎◌, ◌++◌, List, All, map}
use Rattle.memory_model.specs.Sparse.{value_at}
use Rattle.memory_model.specs.Memory.{Memory, byte_at, permission_at}
use Rattle.memory_model.specs.Sizes.{page_size, pages}
use Rattle.page_marks.specs.Marks.{mark_of}
use Rattle.page_tree.specs.Blocks.{byte_in, IsWhole}
use Rattle.page_tree.specs.Replaceable.{ReplaceableRoot}
use Rattle.space_mem.specs.declared.table.PageTable.{PageTable}
use Rattle.space_mem.specs.declared.taking.Put.{Put}
use Rattle.space_mem.specs.declared.taking.TakenPage.{TakenPage}
use Rattle.space_mem.specs.Held.{KeepsMarks, SamePage}
use Rattle.space_mem.specs.Tables.{IsTable, held_of, memory_of, owned_of}

-- each of some pages has a source's bytes; each other page has the bytes that it had, and permissions stay
pub record IsTakenOver (old source : Memory) (each : List ℕ) (new : Memory) : Type 0 where
  pub permission : (page : ℕ) → permission_at new page ≡ permission_at old page
  pub taken : All (SamePage new source) each
  pub other : (page : ℕ) → All (λ taken. page ≡ taken → ⊥) each → SamePage new old page

-- a page has the bytes of a page of another memory
abbrev pub SamePageAs : Memory → ℕ → Memory → ℕ → Type 0
SamePageAs m page n from = (k : ℕ) → k < page_size → byte_at m (page_size * page + k) ≡ byte_at n (page_size * from + k)

-- a memory has a source's bytes in a page that is taken
abbrev pub IsFrom : Memory → Memory → TakenPage → Type 0
IsFrom source m taken = SamePageAs m taken.page source taken.from

-- there is a memory that has a source's bytes in each of these pages: none is taken from two pages that differ
pub record AreFrom (source : Memory) (each : List TakenPage) : Type 0 where
  pub memory : Memory
  pub taken : All (IsFrom source memory) each

abbrev pub AreInRange : TakenPage → Type 0
AreInRange taken = (taken.page < pages) × (taken.from < pages)

abbrev pub taken_page : TakenPage → ℕ
taken_page taken = taken.page

abbrev pub put_page : Put → ℕ
put_page put = put.page

-- a dirty page can be exchanged for what is held, which has the bytes of a source's page
pub record IsReadyPut (t : PageTable) (source : Memory) (put : Put) : Type 0 where
  pub within : put.page < pages
  pub byte : (k : ℕ) → k < page_size → byte_in put.kept k ≡ byte_at source (page_size * put.page + k)
  pub whole : IsWhole put.kept
  pub ready : ReplaceableRoot put.page t.pages
  pub marked : mark_of t.dirty put.page ≡ 1

-- a table is the same, and what could be exchanged still can; of some pages more may be dirty
pub record IsPrepared (each : List ℕ) (t s : PageTable) : Type 0 where
  pub table : IsTable s
  pub memory : memory_of s.pages ≡ memory_of t.pages
  pub owned : owned_of s.pages ≡ owned_of t.pages
  pub ready : (page : ℕ) → ReplaceableRoot page t.pages → ReplaceableRoot page s.pages
  pub mark : (page : ℕ) → page < pages → (mark_of s.dirty page ≡ mark_of t.dirty page) ⊎ (mark_of s.dirty page ≡ 1)
  pub other : (page : ℕ) → page < pages → All (λ taken. page ≡ taken → ⊥) each → mark_of s.dirty page ≡ mark_of t.dirty page

-- a page can be exchanged for what is held
pub record CanPut (t : PageTable) (put : Put) : Type 0 where
  pub within : put.page < pages
  pub ready : ReplaceableRoot put.page t.pages

-- what is so while some of what is held is put in
pub record IsPutting (t : PageTable) (source : Memory) (each : List ℕ) (s : PageTable) (puts : List Put) : Type 0 where
  pub done : List ℕ
  pub split : map put_page puts ++ done ≡ each
  pub table : IsTable s
  pub ready : All (IsReadyPut s source) puts
  pub taken : All (SamePage (memory_of s.pages) source) done
  pub permission : (page : ℕ) → permission_at (memory_of s.pages) page ≡ permission_at (memory_of t.pages) page
  pub same : (page : ℕ) → All (λ taken. page ≡ taken → ⊥) each → SamePage (memory_of s.pages) (memory_of t.pages) page
  pub keeps : (page : ℕ) → All (λ taken. page ≡ taken → ⊥) each → KeepsMarks (held_of t) (held_of s) page
  pub dirty : All (λ page. value_at (held_of s).dirty page ≡ 1) each
