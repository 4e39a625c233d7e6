-- Pages in a row that are kept in another way.
-- Our choice: a restatement for proofs.
use Rattle.std.specs.Prelude.{◌≡◌, ℕ, ◌<◌}
use Rattle.page_tree.specs.Rows.{Row}

-- n pages have the same permissions, the same is kept of them, and the same are owned
pub record IsEqualRow (n : ℕ) (r s : Row) : Type 0 where
  pub permission : (p : ℕ) → p < n → s.permission p ≡ r.permission p
  pub page : (p : ℕ) → p < n → s.page p ≡ r.page p
  pub own : (p : ℕ) → p < n → s.own p ≡ r.own p
