-- What becomes of children of whom one is handed out to be changed.
-- Our choice: a restatement for proofs.
use Rattle.std.specs.Prelude.{ℕ, Option}
use Rattle.std.specs.Borrow.{LendsIf, MutBor, Fml}
use Rattle.space_model.specs.Space.{Space, Children, over}
use Rattle.space_tree.specs.contracts.space.Space.{the_row as space_row}
use Rattle.space_tree.specs.contracts.children.Children.{the_row as children_row}

-- the child of that number, where it is there, ends as what is left behind r
abbrev pub LendsChild : MutBor Children → ℕ → Option (MutBor Space) → Fml
LendsChild cs number r = LendsIf children_row space_row cs r (λ w. over number (λ _. w) cs.now) cs.now
