-- The runs of loads, of which one begins below all others, from the runs of those.
-- Our choice: a restatement for proofs.
use Rattle.std.specs.Prelude.{ℕ, ◌+◌, ◌==◌, nat_lt, cond, List, [], ◌∷◌, bit_or}
use Rattle.elf_model.specs.Loads.{Load}
use Rattle.elf_model.specs.Pages.{Run, first_page, last_page}
use Rattle.elf_model.specs.Reading.{join}

abbrev pub run : ℕ → ℕ → ℕ → Run
run first end permission = record { first = first; end = end; permission = permission }

-- the runs without the first page of the first one
abbrev pub without_page : Run → List Run → List Run
without_page r rs = cond (r.first + 1 == r.end) rs (run (r.first + 1) r.end r.permission ∷ rs)

-- pages up to another one, where there are any, before runs
abbrev pub join_up_to : ℕ → ℕ → ℕ → List Run → List Run
join_up_to first page p rs = cond (nat_lt first page) (join (run first page p) rs) rs

-- a load whose last page is the first one of a run
abbrev pub share : Load → Run → List Run → List Run
share l r rs = join_up_to (first_page l) (last_page l) l.permission (join (run (last_page l) (last_page l + 1) (bit_or l.permission r.permission)) (without_page r rs))

-- a load that touches no page of these runs
abbrev pub put_before : Load → List Run → List Run
put_before l rs = join (run (first_page l) (last_page l + 1) l.permission) rs

abbrev pub add : Load → List Run → List Run
add l [] = put_before l []
add l (r ∷ rs) = cond (r.first == last_page l) (share l r rs) (put_before l (r ∷ rs))
