-- The line that sums up a settled tree.
-- Our choice: the text.
use Rattle.std.specs.Prelude.{ℕ, ◌+◌, ◌^◌, ◌%◌, List, [], ◌∷◌, ◌++◌, length, codes}
use Rattle.std.specs.List.{sum_by}
use Rattle.std.specs.Fmt.{decimal}
use Rattle.space_model.specs.Space.{Space, space, Children, none, child, Top, top_of, children_of}
use Rattle.report_model.specs.Report.{console_of, stop_text}

-- the tops of all spaces of a tree
unfoldable mutual
  pub tops_of : Space → List Top
  tops_of (space t cs) = t ∷ tops_below cs

  pub tops_below : Children → List Top
  tops_below none = []
  tops_below (child n s rest) = tops_of s ++ tops_below rest

-- how many children there are
abbrev pub count_of : Children → ℕ
count_of none = 0
count_of (child n s rest) = 1 + count_of rest

-- The children of the root, all spaces, all events that they took, the bytes on the console, and how the root stopped. Sums are
-- modulo 2 ^ 64.
unfoldable pub summary : Space → List ℕ
summary s = let t = top_of s in
    codes "threads " ++ (decimal (count_of (children_of s))
    ++ (codes " spaces " ++ (decimal (length (tops_of s) % 2 ^ 64)
    ++ (codes " used " ++ (decimal (sum_by (λ u. u.used) (tops_of s) % 2 ^ 64)
    ++ (codes " console " ++ (decimal (length (console_of s))
    ++ (codes " root " ++ (stop_text t.status ++ 10 ∷ [])))))))))
