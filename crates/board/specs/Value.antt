-- What contracts see of a board.
-- Our choice: the tree that it began with, the history since, the tree that it has, the node on which each space stands, the jobs that are out, how many results were taken, and how many jobs are owed.
use Rattle.std.specs.Prelude.{ℕ, List, [], Option, refl}
use Rattle.std.specs.Coded.{Coded, coded_ℕ, coded×, coded_list, coded_option, code_by}
use Rattle.space_model.specs.Space.{Space}
use Rattle.space_model.specs.Encoding.{coded_space}
use Rattle.det_core.specs.declared.entry.Entry.{Entry}
use Rattle.det_core.specs.contracts.entry.Entry as entry
use Rattle.node_places.specs.Places.{Places, coded_places, all_home}
use Rattle.board.specs.contracts.job.Out as out
use Rattle.board.specs.declared.job.Out.{Out}
use Rattle.board.specs.Jobs.{Slots}

pub record Shown : Type 0 where
  pub boot : Space
  pub tree : Space
  -- how many nodes there are, and on which each space stands
  pub places : Places
  pub history : List Entry
  pub out : Slots
  -- the number of the next ticket
  pub next_ticket : ℕ
  -- how many results were taken
  pub taken : ℕ
  -- how many jobs were handed out by turns and were not handed in again, as far as a shop counts them
  pub owed : ℕ

abbrev pub coded_shown : Coded Shown
coded_shown = code_by (Space × (Space × (Places × (List Entry × (List (Option Out) × (ℕ × (ℕ × ℕ)))))))
    (coded× coded_space (coded× coded_space (coded× coded_places (coded× (coded_list entry.the_row.coded) (coded× (coded_list (coded_option out.the_row.coded)) (coded× coded_ℕ (coded× coded_ℕ coded_ℕ)))))))
    (λ b. (b.boot, (b.tree, (b.places, (b.history, (b.out, (b.next_ticket, (b.taken, b.owed))))))))
    (λ p. record { boot = p.0; tree = p.1.0; places = p.1.1.0; history = p.1.1.1.0; out = p.1.1.1.1.0; next_ticket = p.1.1.1.1.1.0; taken = p.1.1.1.1.1.1.0; owed = p.1.1.1.1.1.1.1 }) (λ _. refl)

-- a board that begins: each space stands at home
abbrev pub begun : Space → ℕ → Shown
begun s nodes = record { boot = s; tree = s; places = all_home nodes; history = []; out = []; next_ticket = 0; taken = 0; owed = 0 }
