-- Whether anything is kept of a page.
-- Our choice: a restatement for proofs.
use Rattle.std.specs.Prelude.{ℕ, Option, Some, None}
use Rattle.page_store.specs.declared.PageRef.{PageRef}

-- 1 where a page is kept
abbrev pub kept_in : Option PageRef → ℕ
kept_in None = 0
kept_in (Some page) = 1
