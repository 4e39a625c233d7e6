-- What contracts say of a pass and its lock.
-- Our choice: a pass is idle between its turns; in its turn it has the value.
use Rattle.std.specs.Prelude.{◌≡◌, ℕ, ◌+◌, ◌^◌, ◌%◌, [], ◌∷◌, true, false, Some, None}
use Rattle.atomic_table.specs.Table.{Me}
use Rattle.ticket_lock.specs.declared.view.View.{View}

module _ {S C : Type 0} where
  -- it has no ticket, and not the value
  pub record IsIdle (me : Me S (View S C)) : Type 0 where
    pub ticket : me.0.ticket ≡ None
    pub lacks : me.0.has ≡ false
    pub none : me.1 ≡ []

  -- it has drawn this ticket, and has not got the value
  pub record IsWaiting (number : ℕ) (me : Me S (View S C)) : Type 0 where
    pub ticket : me.0.ticket ≡ Some number
    pub lacks : me.0.has ≡ false
    pub none : me.1 ≡ []

  -- its turn has come: it found the value as it was, and has it as it is
  pub record IsInTurn (found value : S) (me : Me S (View S C)) : Type 0 where
    pub has : me.0.has ≡ true
    pub noted : me.0.noted ≡ Some found
    pub it : me.1 ≡ (0, value) ∷ []

  -- this ticket's turn comes when that of the pass has ended; numbers go round
  pub record IsNextTo (number : ℕ) (me : Me S (View S C)) : Type 0 where
    pub before : ℕ
    pub ticket : me.0.ticket ≡ Some before
    pub follows : number ≡ (before + 1) % 2 ^ 64
