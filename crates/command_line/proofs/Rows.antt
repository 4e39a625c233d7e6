-- The line of words that are written out.
use Rattle.std.proofs.Common.{◌≡◌, refl, ℕ, Bool, true, false, List, [], ◌∷◌, Some, None, codes}
use Rattle.clap.specs.Words.{Text}
use Rattle.clap.proofs.OnLiterals.{clap_on_literals}
use Rattle.command_line.specs.Line.{Engine, Line, asm, asm_app, bench, bench_app, demand, files_of, line, number_in, pool, seats, program_app, run, run_app, run_by, rounds, run_line, schedule, walk_app, walk_line}

-- a run, by its parts
abbrev runs : ℕ → Bool → Engine → Text → Text → Line
runs fuel digest engine image script = run (record { fuel = fuel; digest = digest; engine = engine; image = image; script = script })

-- after the program's name and `run`
abbrev run_words : List Text → List Text
run_words words = codes "det" ∷ codes "run" ∷ words

pub plain_run : line (run_words (codes "I" ∷ codes "S" ∷ [])) ≡ Some (runs 1000000 false demand (codes "I") (codes "S"))
unfolding clap_on_literals line program_app run_app walk_app asm_app bench_app run_line walk_line run_by number_in
plain_run = refl

pub run_with_fuel : line (run_words (codes "--limit" ∷ codes "2" ∷ codes "I" ∷ codes "S" ∷ [])) ≡ Some (runs 2 false demand (codes "I") (codes "S"))
unfolding clap_on_literals line program_app run_app walk_app asm_app bench_app run_line walk_line run_by number_in
run_with_fuel = refl

pub largest_fuel : line (run_words (codes "I" ∷ codes "--limit=4294967295" ∷ codes "S" ∷ [])) ≡ Some (runs 4294967295 false demand (codes "I") (codes "S"))
unfolding clap_on_literals line program_app run_app walk_app asm_app bench_app run_line walk_line run_by number_in
largest_fuel = refl

pub dashes_before_names : line (run_words (codes "--" ∷ codes "--help" ∷ codes "-h" ∷ [])) ≡ Some (runs 1000000 false demand (codes "--help") (codes "-h"))
unfolding clap_on_literals line program_app run_app walk_app asm_app bench_app run_line walk_line run_by number_in
dashes_before_names = refl

pub no_fuel : line (run_words (codes "--limit" ∷ codes "0" ∷ codes "I" ∷ codes "S" ∷ [])) ≡ None
unfolding clap_on_literals line program_app run_app walk_app asm_app bench_app run_line walk_line run_by number_in
no_fuel = refl

pub too_much_fuel : line (run_words (codes "--limit" ∷ codes "4294967296" ∷ codes "I" ∷ codes "S" ∷ [])) ≡ None
unfolding clap_on_literals line program_app run_app walk_app asm_app bench_app run_line walk_line run_by number_in
too_much_fuel = refl

pub run_alone : line (run_words []) ≡ None
unfolding clap_on_literals line program_app run_app walk_app asm_app bench_app run_line walk_line run_by number_in
run_alone = refl

pub one_name : line (run_words (codes "I" ∷ [])) ≡ None
unfolding clap_on_literals line program_app run_app walk_app asm_app bench_app run_line walk_line run_by number_in
one_name = refl

pub three_names : line (run_words (codes "I" ∷ codes "S" ∷ codes "T" ∷ [])) ≡ None
unfolding clap_on_literals line program_app run_app walk_app asm_app bench_app run_line walk_line run_by number_in
three_names = refl

pub unknown_option : line (run_words (codes "--fast" ∷ codes "I" ∷ codes "S" ∷ [])) ≡ None
unfolding clap_on_literals line program_app run_app walk_app asm_app bench_app run_line walk_line run_by number_in
unknown_option = refl

pub help_of_run : line (run_words (codes "I" ∷ codes "S" ∷ codes "--help" ∷ [])) ≡ None
unfolding clap_on_literals line program_app run_app walk_app asm_app bench_app run_line walk_line run_by number_in
help_of_run = refl

pub run_with_digest : line (run_words (codes "--digest" ∷ codes "I" ∷ codes "S" ∷ [])) ≡ Some (runs 1000000 true demand (codes "I") (codes "S"))
unfolding clap_on_literals line program_app run_app walk_app asm_app bench_app run_line walk_line run_by number_in
run_with_digest = refl

pub digest_between_names : line (run_words (codes "I" ∷ codes "--digest" ∷ codes "--limit" ∷ codes "2" ∷ codes "S" ∷ [])) ≡ Some (runs 2 true demand (codes "I") (codes "S"))
unfolding clap_on_literals line program_app run_app walk_app asm_app bench_app run_line walk_line run_by number_in
digest_between_names = refl

pub digest_after_dashes : line (run_words (codes "--" ∷ codes "--digest" ∷ codes "S" ∷ [])) ≡ Some (runs 1000000 false demand (codes "--digest") (codes "S"))
unfolding clap_on_literals line program_app run_app walk_app asm_app bench_app run_line walk_line run_by number_in
digest_after_dashes = refl

pub digest_with_value : line (run_words (codes "--digest=true" ∷ codes "I" ∷ codes "S" ∷ [])) ≡ None
unfolding clap_on_literals line program_app run_app walk_app asm_app bench_app run_line walk_line run_by number_in
digest_with_value = refl

pub digest_given_again : line (run_words (codes "--digest" ∷ codes "--digest" ∷ codes "I" ∷ codes "S" ∷ [])) ≡ None
unfolding clap_on_literals line program_app run_app walk_app asm_app bench_app run_line walk_line run_by number_in
digest_given_again = refl

pub engine_before_names : line (run_words (codes "--engine" ∷ codes "rounds" ∷ codes "I" ∷ codes "S" ∷ [])) ≡ Some (runs 1000000 false rounds (codes "I") (codes "S"))
unfolding clap_on_literals line program_app run_app walk_app asm_app bench_app run_line walk_line run_by number_in
engine_before_names = refl

pub engine_behind_names : line (run_words (codes "I" ∷ codes "S" ∷ codes "--engine" ∷ codes "rounds" ∷ [])) ≡ Some (runs 1000000 false rounds (codes "I") (codes "S"))
unfolding clap_on_literals line program_app run_app walk_app asm_app bench_app run_line walk_line run_by number_in
engine_behind_names = refl

pub engine_with_equals : line (run_words (codes "I" ∷ codes "--engine=rounds" ∷ codes "--limit" ∷ codes "2" ∷ codes "--digest" ∷ codes "S" ∷ [])) ≡ Some (runs 2 true rounds (codes "I") (codes "S"))
unfolding clap_on_literals line program_app run_app walk_app asm_app bench_app run_line walk_line run_by number_in
engine_with_equals = refl

pub engine_of_no_word : line (run_words (codes "--engine" ∷ codes "demand" ∷ codes "I" ∷ codes "S" ∷ [])) ≡ Some (runs 1000000 false demand (codes "I") (codes "S"))
unfolding clap_on_literals line program_app run_app walk_app asm_app bench_app run_line walk_line run_by number_in
engine_of_no_word = refl

pub unknown_engine : line (run_words (codes "--engine" ∷ codes "threads" ∷ codes "I" ∷ codes "S" ∷ [])) ≡ None
unfolding clap_on_literals line program_app run_app walk_app asm_app bench_app run_line walk_line run_by number_in
unknown_engine = refl

pub engine_in_capitals : line (run_words (codes "--engine" ∷ codes "Rounds" ∷ codes "I" ∷ codes "S" ∷ [])) ≡ None
unfolding clap_on_literals line program_app run_app walk_app asm_app bench_app run_line walk_line run_by number_in
engine_in_capitals = refl

pub engine_of_no_letter : line (run_words (codes "--engine=" ∷ codes "I" ∷ codes "S" ∷ [])) ≡ None
unfolding clap_on_literals line program_app run_app walk_app asm_app bench_app run_line walk_line run_by number_in
engine_of_no_letter = refl

pub engine_without_value : line (run_words (codes "I" ∷ codes "S" ∷ codes "--engine" ∷ [])) ≡ None
unfolding clap_on_literals line program_app run_app walk_app asm_app bench_app run_line walk_line run_by number_in
engine_without_value = refl

pub engine_given_again : line (run_words (codes "--engine" ∷ codes "rounds" ∷ codes "--engine" ∷ codes "rounds" ∷ codes "I" ∷ codes "S" ∷ [])) ≡ None
unfolding clap_on_literals line program_app run_app walk_app asm_app bench_app run_line walk_line run_by number_in
engine_given_again = refl

pub engine_cut_short : line (run_words (codes "--eng" ∷ codes "rounds" ∷ codes "I" ∷ codes "S" ∷ [])) ≡ None
unfolding clap_on_literals line program_app run_app walk_app asm_app bench_app run_line walk_line run_by number_in
engine_cut_short = refl

pub four_workers : line (run_words (codes "--engine" ∷ codes "pool" ∷ codes "I" ∷ codes "S" ∷ [])) ≡ Some (runs 1000000 false (pool 4 1 None) (codes "I") (codes "S"))
unfolding clap_on_literals line program_app run_app walk_app asm_app bench_app run_line walk_line run_by number_in
four_workers = refl

pub seats_by_name : line (run_words (codes "--engine" ∷ codes "seats" ∷ codes "--workers" ∷ codes "8" ∷ codes "--nodes=3" ∷ codes "I" ∷ codes "S" ∷ [])) ≡ Some (runs 1000000 false (seats 8 3 None) (codes "I") (codes "S"))
unfolding clap_on_literals line program_app run_app walk_app asm_app bench_app run_line walk_line run_by number_in
seats_by_name = refl

pub most_workers_taken : line (run_words (codes "--workers" ∷ codes "64" ∷ codes "--engine" ∷ codes "pool" ∷ codes "I" ∷ codes "S" ∷ [])) ≡ Some (runs 1000000 false (pool 64 1 None) (codes "I") (codes "S"))
unfolding clap_on_literals line program_app run_app walk_app asm_app bench_app run_line walk_line run_by number_in
most_workers_taken = refl

pub workers_behind_names : line (run_words (codes "I" ∷ codes "S" ∷ codes "--engine=pool" ∷ codes "--workers=+5" ∷ codes "--digest" ∷ [])) ≡ Some (runs 1000000 true (pool 5 1 None) (codes "I") (codes "S"))
unfolding clap_on_literals line program_app run_app walk_app asm_app bench_app run_line walk_line run_by number_in
workers_behind_names = refl

pub workers_of_rounds : line (run_words (codes "--engine" ∷ codes "rounds" ∷ codes "--workers" ∷ codes "2" ∷ codes "I" ∷ codes "S" ∷ [])) ≡ Some (runs 1000000 false rounds (codes "I") (codes "S"))
unfolding clap_on_literals line program_app run_app walk_app asm_app bench_app run_line walk_line run_by number_in
workers_of_rounds = refl

pub workers_of_no_engine : line (run_words (codes "--workers" ∷ codes "2" ∷ codes "I" ∷ codes "S" ∷ [])) ≡ Some (runs 1000000 false demand (codes "I") (codes "S"))
unfolding clap_on_literals line program_app run_app walk_app asm_app bench_app run_line walk_line run_by number_in
workers_of_no_engine = refl

pub no_workers : line (run_words (codes "--engine" ∷ codes "pool" ∷ codes "--workers" ∷ codes "0" ∷ codes "I" ∷ codes "S" ∷ [])) ≡ None
unfolding clap_on_literals line program_app run_app walk_app asm_app bench_app run_line walk_line run_by number_in
no_workers = refl

pub too_many_workers : line (run_words (codes "--workers" ∷ codes "65" ∷ codes "I" ∷ codes "S" ∷ [])) ≡ None
unfolding clap_on_literals line program_app run_app walk_app asm_app bench_app run_line walk_line run_by number_in
too_many_workers = refl

pub workers_given_again : line (run_words (codes "--workers" ∷ codes "2" ∷ codes "--workers" ∷ codes "2" ∷ codes "I" ∷ codes "S" ∷ [])) ≡ None
unfolding clap_on_literals line program_app run_app walk_app asm_app bench_app run_line walk_line run_by number_in
workers_given_again = refl

pub two_nodes : line (run_words (codes "--engine" ∷ codes "pool" ∷ codes "--nodes" ∷ codes "2" ∷ codes "I" ∷ codes "S" ∷ [])) ≡ Some (runs 1000000 false (pool 4 2 None) (codes "I") (codes "S"))
unfolding clap_on_literals line program_app run_app walk_app asm_app bench_app run_line walk_line run_by number_in
two_nodes = refl

pub most_nodes_taken : line (run_words (codes "--nodes=64" ∷ codes "--workers" ∷ codes "8" ∷ codes "I" ∷ codes "S" ∷ codes "--engine" ∷ codes "pool" ∷ [])) ≡ Some (runs 1000000 false (pool 8 64 None) (codes "I") (codes "S"))
unfolding clap_on_literals line program_app run_app walk_app asm_app bench_app run_line walk_line run_by number_in
most_nodes_taken = refl

pub nodes_of_rounds : line (run_words (codes "--engine" ∷ codes "rounds" ∷ codes "--nodes" ∷ codes "3" ∷ codes "I" ∷ codes "S" ∷ [])) ≡ Some (runs 1000000 false rounds (codes "I") (codes "S"))
unfolding clap_on_literals line program_app run_app walk_app asm_app bench_app run_line walk_line run_by number_in
nodes_of_rounds = refl

pub nodes_of_no_engine : line (run_words (codes "I" ∷ codes "S" ∷ codes "--nodes" ∷ codes "3" ∷ [])) ≡ Some (runs 1000000 false demand (codes "I") (codes "S"))
unfolding clap_on_literals line program_app run_app walk_app asm_app bench_app run_line walk_line run_by number_in
nodes_of_no_engine = refl

pub no_nodes : line (run_words (codes "--nodes" ∷ codes "0" ∷ codes "I" ∷ codes "S" ∷ [])) ≡ None
unfolding clap_on_literals line program_app run_app walk_app asm_app bench_app run_line walk_line run_by number_in
no_nodes = refl

pub too_many_nodes : line (run_words (codes "--engine" ∷ codes "pool" ∷ codes "--nodes" ∷ codes "65" ∷ codes "I" ∷ codes "S" ∷ [])) ≡ None
unfolding clap_on_literals line program_app run_app walk_app asm_app bench_app run_line walk_line run_by number_in
too_many_nodes = refl

pub nodes_given_again : line (run_words (codes "--nodes" ∷ codes "2" ∷ codes "--nodes" ∷ codes "2" ∷ codes "I" ∷ codes "S" ∷ [])) ≡ None
unfolding clap_on_literals line program_app run_app walk_app asm_app bench_app run_line walk_line run_by number_in
nodes_given_again = refl

pub nodes_without_value : line (run_words (codes "I" ∷ codes "S" ∷ codes "--nodes" ∷ [])) ≡ None
unfolding clap_on_literals line program_app run_app walk_app asm_app bench_app run_line walk_line run_by number_in
nodes_without_value = refl

pub a_link : line (run_words (codes "--engine" ∷ codes "pool" ∷ codes "--nodes" ∷ codes "3" ∷ codes "--link" ∷ codes "7" ∷ codes "I" ∷ codes "S" ∷ [])) ≡ Some (runs 1000000 false (pool 4 3 (Some 7)) (codes "I") (codes "S"))
unfolding clap_on_literals line program_app run_app walk_app asm_app bench_app run_line walk_line run_by number_in
a_link = refl

pub link_of_zero : line (run_words (codes "I" ∷ codes "S" ∷ codes "--link=0" ∷ codes "--engine=pool" ∷ [])) ≡ Some (runs 1000000 false (pool 4 1 (Some 0)) (codes "I") (codes "S"))
unfolding clap_on_literals line program_app run_app walk_app asm_app bench_app run_line walk_line run_by number_in
link_of_zero = refl

pub greatest_link : line (run_words (codes "--link" ∷ codes "4294967295" ∷ codes "--engine" ∷ codes "pool" ∷ codes "I" ∷ codes "S" ∷ [])) ≡ Some (runs 1000000 false (pool 4 1 (Some 4294967295)) (codes "I") (codes "S"))
unfolding clap_on_literals line program_app run_app walk_app asm_app bench_app run_line walk_line run_by number_in
greatest_link = refl

pub too_great_a_link : line (run_words (codes "--link" ∷ codes "4294967296" ∷ codes "I" ∷ codes "S" ∷ [])) ≡ None
unfolding clap_on_literals line program_app run_app walk_app asm_app bench_app run_line walk_line run_by number_in
too_great_a_link = refl

pub link_of_no_engine : line (run_words (codes "--link" ∷ codes "3" ∷ codes "I" ∷ codes "S" ∷ [])) ≡ Some (runs 1000000 false demand (codes "I") (codes "S"))
unfolding clap_on_literals line program_app run_app walk_app asm_app bench_app run_line walk_line run_by number_in
link_of_no_engine = refl

pub link_given_again : line (run_words (codes "--link" ∷ codes "3" ∷ codes "--link" ∷ codes "3" ∷ codes "I" ∷ codes "S" ∷ [])) ≡ None
unfolding clap_on_literals line program_app run_app walk_app asm_app bench_app run_line walk_line run_by number_in
link_given_again = refl

pub program_alone : line (codes "det" ∷ []) ≡ None
unfolding clap_on_literals line program_app run_app walk_app asm_app bench_app run_line walk_line run_by number_in
program_alone = refl

pub help_flag : line (codes "det" ∷ codes "--help" ∷ []) ≡ None
unfolding clap_on_literals line program_app run_app walk_app asm_app bench_app run_line walk_line run_by number_in
help_flag = refl

pub short_help_flag : line (codes "det" ∷ codes "-h" ∷ []) ≡ None
unfolding clap_on_literals line program_app run_app walk_app asm_app bench_app run_line walk_line run_by number_in
short_help_flag = refl

pub help_word : line (codes "det" ∷ codes "help" ∷ []) ≡ None
unfolding clap_on_literals line program_app run_app walk_app asm_app bench_app run_line walk_line run_by number_in
help_word = refl

pub version_flag : line (codes "det" ∷ codes "--version" ∷ []) ≡ None
unfolding clap_on_literals line program_app run_app walk_app asm_app bench_app run_line walk_line run_by number_in
version_flag = refl

pub plain_asm : line (codes "det" ∷ codes "asm" ∷ codes "A" ∷ []) ≡ Some (asm (codes "A"))
unfolding clap_on_literals line program_app run_app walk_app asm_app bench_app run_line walk_line run_by number_in
plain_asm = refl

pub asm_with_fuel : line (codes "det" ∷ codes "asm" ∷ codes "--limit" ∷ codes "2" ∷ codes "A" ∷ []) ≡ None
unfolding clap_on_literals line program_app run_app walk_app asm_app bench_app run_line walk_line run_by number_in
asm_with_fuel = refl

-- after the program's name and `walk`
abbrev walk_words : List Text → List Text
walk_words words = codes "det" ∷ codes "walk" ∷ words

pub plain_walk : line (walk_words (codes "I" ∷ codes "S" ∷ codes "T" ∷ [])) ≡ Some (runs 1000000 false (schedule (codes "T")) (codes "I") (codes "S"))
unfolding clap_on_literals line program_app run_app walk_app asm_app bench_app run_line walk_line run_by number_in
plain_walk = refl

pub walk_with_fuel : line (walk_words (codes "--limit" ∷ codes "2" ∷ codes "I" ∷ codes "S" ∷ codes "T" ∷ [])) ≡ Some (runs 2 false (schedule (codes "T")) (codes "I") (codes "S"))
unfolding clap_on_literals line program_app run_app walk_app asm_app bench_app run_line walk_line run_by number_in
walk_with_fuel = refl

pub walk_with_two_names : line (walk_words (codes "I" ∷ codes "S" ∷ [])) ≡ None
unfolding clap_on_literals line program_app run_app walk_app asm_app bench_app run_line walk_line run_by number_in
walk_with_two_names = refl

pub walk_with_four_names : line (walk_words (codes "I" ∷ codes "S" ∷ codes "T" ∷ codes "U" ∷ [])) ≡ None
unfolding clap_on_literals line program_app run_app walk_app asm_app bench_app run_line walk_line run_by number_in
walk_with_four_names = refl

pub walk_with_digest : line (walk_words (codes "--digest" ∷ codes "I" ∷ codes "S" ∷ codes "T" ∷ [])) ≡ None
unfolding clap_on_literals line program_app run_app walk_app asm_app bench_app run_line walk_line run_by number_in
walk_with_digest = refl

-- after the program's name and `bench`
abbrev bench_words : List Text → List Text
bench_words words = codes "det" ∷ codes "bench" ∷ words

pub least_seed : line (bench_words (codes "0" ∷ [])) ≡ Some (bench demand 0)
unfolding clap_on_literals line program_app run_app walk_app asm_app bench_app run_line walk_line run_by number_in
least_seed = refl

pub largest_seed : line (bench_words (codes "4294967295" ∷ [])) ≡ Some (bench demand 4294967295)
unfolding clap_on_literals line program_app run_app walk_app asm_app bench_app run_line walk_line run_by number_in
largest_seed = refl

pub too_large_seed : line (bench_words (codes "4294967296" ∷ [])) ≡ None
unfolding clap_on_literals line program_app run_app walk_app asm_app bench_app run_line walk_line run_by number_in
too_large_seed = refl

pub negative_seed : line (bench_words (codes "-1" ∷ [])) ≡ None
unfolding clap_on_literals line program_app run_app walk_app asm_app bench_app run_line walk_line run_by number_in
negative_seed = refl

pub bench_alone : line (bench_words []) ≡ None
unfolding clap_on_literals line program_app run_app walk_app asm_app bench_app run_line walk_line run_by number_in
bench_alone = refl

pub seed_after_dashes : line (bench_words (codes "--" ∷ codes "65535" ∷ [])) ≡ Some (bench demand 65535)
unfolding clap_on_literals line program_app run_app walk_app asm_app bench_app run_line walk_line run_by number_in
seed_after_dashes = refl

pub bench_with_fuel : line (bench_words (codes "--limit" ∷ codes "5" ∷ codes "1" ∷ [])) ≡ None
unfolding clap_on_literals line program_app run_app walk_app asm_app bench_app run_line walk_line run_by number_in
bench_with_fuel = refl

pub bench_on_rounds : line (bench_words (codes "--engine" ∷ codes "rounds" ∷ codes "1" ∷ [])) ≡ Some (bench rounds 1)
unfolding clap_on_literals line program_app run_app walk_app asm_app bench_app run_line walk_line run_by number_in
bench_on_rounds = refl

pub bench_on_a_pool : line (bench_words (codes "1" ∷ codes "--engine" ∷ codes "pool" ∷ codes "--workers" ∷ codes "8" ∷ [])) ≡ Some (bench (pool 8 1 None) 1)
unfolding clap_on_literals line program_app run_app walk_app asm_app bench_app run_line walk_line run_by number_in
bench_on_a_pool = refl

pub bench_on_nodes : line (bench_words (codes "--nodes" ∷ codes "3" ∷ codes "--engine" ∷ codes "pool" ∷ codes "1" ∷ [])) ≡ Some (bench (pool 4 3 None) 1)
unfolding clap_on_literals line program_app run_app walk_app asm_app bench_app run_line walk_line run_by number_in
bench_on_nodes = refl

pub bench_on_no_engine : line (bench_words (codes "1" ∷ codes "--engine=threads" ∷ [])) ≡ None
unfolding clap_on_literals line program_app run_app walk_app asm_app bench_app run_line walk_line run_by number_in
bench_on_no_engine = refl

pub walk_on_rounds : line (walk_words (codes "--engine" ∷ codes "rounds" ∷ codes "I" ∷ codes "S" ∷ codes "T" ∷ [])) ≡ None
unfolding clap_on_literals line program_app run_app walk_app asm_app bench_app run_line walk_line run_by number_in
walk_on_rounds = refl

pub walk_with_workers : line (walk_words (codes "--workers" ∷ codes "2" ∷ codes "I" ∷ codes "S" ∷ codes "T" ∷ [])) ≡ None
unfolding clap_on_literals line program_app run_app walk_app asm_app bench_app run_line walk_line run_by number_in
walk_with_workers = refl

pub walk_with_nodes : line (walk_words (codes "--nodes" ∷ codes "2" ∷ codes "I" ∷ codes "S" ∷ codes "T" ∷ [])) ≡ None
unfolding clap_on_literals line program_app run_app walk_app asm_app bench_app run_line walk_line run_by number_in
walk_with_nodes = refl

pub asm_with_workers : line (codes "det" ∷ codes "asm" ∷ codes "--workers" ∷ codes "2" ∷ codes "A" ∷ []) ≡ None
unfolding clap_on_literals line program_app run_app walk_app asm_app bench_app run_line walk_line run_by number_in
asm_with_workers = refl

pub two_seeds : line (bench_words (codes "1" ∷ codes "2" ∷ [])) ≡ None
unfolding clap_on_literals line program_app run_app walk_app asm_app bench_app run_line walk_line run_by number_in
two_seeds = refl

pub run_files : files_of (runs 2 false demand (codes "I") (codes "S")) ≡ codes "I" ∷ codes "S" ∷ []
run_files = refl

pub run_files_of_rounds : files_of (runs 2 false rounds (codes "I") (codes "S")) ≡ codes "I" ∷ codes "S" ∷ []
run_files_of_rounds = refl

pub run_files_of_a_pool : files_of (runs 2 false (pool 3 1 None) (codes "I") (codes "S")) ≡ codes "I" ∷ codes "S" ∷ []
run_files_of_a_pool = refl

pub walk_files : files_of (runs 2 false (schedule (codes "T")) (codes "I") (codes "S")) ≡ codes "I" ∷ codes "S" ∷ codes "T" ∷ []
walk_files = refl

pub asm_files : files_of (asm (codes "A")) ≡ codes "A" ∷ []
asm_files = refl

pub bench_files : files_of (bench demand 1) ≡ []
bench_files = refl

pub bench_files_of_rounds : files_of (bench rounds 1) ≡ []
bench_files_of_rounds = refl
