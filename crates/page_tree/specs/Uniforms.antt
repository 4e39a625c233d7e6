-- Pages in a row of one permission, which keep nothing.
-- Our choice: a restatement for proofs.
use Rattle.std.specs.Prelude.{ℕ, None, false}
use Rattle.page_tree.specs.Rows.{Row}

-- each page has the permission, and no bytes are kept of any
abbrev pub uniform_row : ℕ → Row
uniform_row permission = record { permission = λ p. permission; page = λ p. None; own = λ p. false }
