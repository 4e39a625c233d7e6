-- The job of a seat, and a seat that has ended.
-- Our choice: a job by its slot, ticket and path on the board, and the state that it begins with.
use Rattle.std.specs.Prelude.{ℕ, List, refl}
use Rattle.std.specs.Coded.{Coded, coded_ℕ, coded×, coded_list, code_by}
use Rattle.arrayvec.specs.ArrayVec.{ArrayVec, array_vec_code}
use Rattle.space_model.specs.Space.{Top}
use Rattle.space_model.specs.Encoding.{coded_top}
use Rattle.det_core.specs.declared.entry.Entry.{Entry}
use Rattle.det_core.specs.contracts.entry.Entry as entry

pub record Held : Type 0 where
  pub slot : ℕ
  pub ticket : ℕ
  pub path : ArrayVec ℕ
  pub start : Top

-- the number of a seat that was taken in, and what each of its turns added to the history
pub record Ended : Type 0 where
  pub number : ℕ
  pub turns : List (List Entry)

abbrev pub coded_turns : Coded (List (List Entry))
coded_turns = coded_list (coded_list entry.the_row.coded)

abbrev pub coded_ended : Coded Ended
coded_ended = code_by (ℕ × List (List Entry)) (coded× coded_ℕ coded_turns) (λ e. (e.number, e.turns)) (λ p. record { number = p.0; turns = p.1 }) (λ _. refl)

abbrev pub coded_held : Coded Held
coded_held = code_by (ℕ × (ℕ × (ArrayVec ℕ × Top))) (coded× coded_ℕ (coded× coded_ℕ (coded× (array_vec_code coded_ℕ) coded_top))) (λ h. (h.slot, (h.ticket, (h.path, h.start)))) (λ p. record { slot = p.0; ticket = p.1.0; path = p.1.1.0; start = p.1.1.1 }) (λ _. refl)
