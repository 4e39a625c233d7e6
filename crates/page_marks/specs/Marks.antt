-- Which pages of a memory are marked: by a list of a few, or by the permissions of a tree.
-- Our choice: how the code keeps marks.
use Rattle.std.specs.Prelude.{◌≡◌, ℕ, ◌+◌, ◌<◌, List, cond, true}
use Rattle.memory_model.specs.Sizes.{pages}
use Rattle.page_tree.specs.declared.tree_ref.TreeRef.{TreeRef}
use Rattle.page_tree.specs.Blocks.{byte_in, within}
use Rattle.page_tree.specs.Ready.{ReadyRoot}
use Rattle.page_tree.specs.TreeRefs.{root_page, root_permission}
use Rattle.page_marks.specs.Lists.{has_page, has_room}
use Rattle.page_marks.specs.declared.marks.PageMarks.{PageMarks}
use Rattle.page_marks.specs.declared.marks.PageMarks.TheVariants.{Few, Many}

-- 1 where a page stands in a list, and else 0
abbrev pub mark_in : List ℕ → ℕ → ℕ
mark_in list page = cond (has_page list page) 1 0

-- 1 where a page is marked, and else 0
abbrev pub mark_of : PageMarks → ℕ → ℕ
mark_of (Few few) page = mark_in few.places page
mark_of (Many tree) page = root_permission tree page

-- a tree that keeps no byte other than 0
abbrev pub IsBareTree : TreeRef → Type 0
IsBareTree t = (p k : ℕ) → p < pages → byte_in (root_page t p) k ≡ 0

-- a tree of marks keeps no bytes
abbrev pub AreBare : PageMarks → Type 0
AreBare (Few few) = Unit {0}
AreBare (Many tree) = IsBareTree tree

-- the same pages are marked
abbrev pub SameMarks : PageMarks → PageMarks → Type 0
SameMarks before after = (p : ℕ) → p < pages → mark_of after p ≡ mark_of before p

-- the pages from one to before another have the mark; each other page is marked where it was
abbrev pub SetsMarks : ℕ → ℕ → ℕ → PageMarks → PageMarks → Type 0
SetsMarks first end mark before after = (p : ℕ) → p < pages → mark_of after p ≡ cond (within first end p) mark (mark_of before p)

-- where pages of a range can be marked with no memory
abbrev pub ReadyMarks : ℕ → ℕ → PageMarks → Type 0
ReadyMarks first end (Few few) = (end ≡ first + 1) × (has_room few.places first ≡ true)
ReadyMarks first end (Many tree) = ReadyRoot first end tree
