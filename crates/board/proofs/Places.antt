-- Names by the slots of their jobs, as places are added.
use Rattle.std.proofs.Common.{◌≡◌, ℕ, zero, suc, ◌≤◌, [], ◌∷◌, ◌++◌, length, None, refl, arith}
use Rattle.board.specs.Names.{Starts, named_at}

-- a place without a name adds no name
pub named_pushed : (starts : Starts) (slot : ℕ) → named_at (starts ++ None ∷ []) slot ≡ named_at starts slot
named_pushed [] zero = refl
named_pushed [] (suc slot) = refl
named_pushed (name ∷ starts) zero = refl
named_pushed (name ∷ starts) (suc slot) = named_pushed starts slot

-- behind the last place there is none
pub named_beyond : (starts : Starts) (slot : ℕ) → length starts ≤ slot → named_at starts slot ≡ None
named_beyond [] slot beyond = refl
named_beyond (name ∷ starts) zero beyond = absurd (omega arith)
named_beyond (name ∷ starts) (suc slot) beyond = named_beyond starts slot (omega arith)
