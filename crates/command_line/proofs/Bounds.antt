-- A number that a line has lies in its range.
use Rattle.std.proofs.Common.{◌≡◌, ◌≤◌, ℕ, Bool, true, false, List, Option, Some, None, refl, sym, subst, cond, codes, arith, option_map}
use Rattle.std.specs.Prelude.{option_and_then, IfSome}
use Rattle.std.specs.Str.{bytes_eq}
use Rattle.std.specs.Str.Parse.{digits_value, without_leading_plus}
use Rattle.clap.specs.Words.{Row, Text, first_of, one_of}
use Rattle.clap.specs.ValueTests.{accepts}
use Rattle.clap.specs.declared.builder.value_parser.ValueParser.TheVariants as vp
use Rattle.clap.proofs.ValueTestLemmas.{accepts-Accepts}
use Rattle.command_line.specs.declared.command.Command.{Command}
use Rattle.command_line.specs.Line.{Engine, IsInRange, IsStaffed, asm, asm_line, bench_line, bench_with, Line, command_line, demand, engine_in, engine_named, engine_with, fuel_of, greatest_number, line_of, link_of, most_nodes, most_workers, nodes_of, number_in, pool, seats, rounds, run_by, run_line, run_with, schedule, seed_of, walk_line, workers_of}

pub number_bounds : (low high : ℕ) (t : List ℕ) (n : ℕ) → number_in low high t ≡ Some n → (low ≤ n) × (n ≤ high)
unfolding number_in
number_bounds low high t n is = go (accepts false (vp.Unsigned low high) t) refl is
  where
    go : (b : Bool) → accepts false (vp.Unsigned low high) t ≡ b
        → cond b (Some (digits_value 10 (without_leading_plus t))) None ≡ Some n → (low ≤ n) × (n ≤ high)
    go false e s = cc
    go true e s =
        let passed = accepts-Accepts false (vp.Unsigned low high) t e in
        let same : digits_value 10 (without_leading_plus t) ≡ n = cc in
        (subst (λ m. low ≤ m) same passed.2, subst (λ m. m ≤ high) same passed.3)

number_of_bounds : (low high : ℕ) (o : Option Text) (n : ℕ) → option_and_then (number_in low high) o ≡ Some n → (low ≤ n) × (n ≤ high)
number_of_bounds low high None n is = absurd cc
number_of_bounds low high (Some t) n is = number_bounds low high t n is

abbrev AllInRange : Option Line → Type 0
AllInRange o = IfSome o IsInRange

abbrev IsFuel : Option ℕ → Type 0
IsFuel fuel = (n : ℕ) → fuel ≡ Some n → (1 ≤ n) × (n ≤ greatest_number)

run_in_range : (fuel : Option ℕ) (digest : Bool) (engine : Option Engine) (image script : Option Text) → IsFuel fuel → IfSome engine IsStaffed → AllInRange (run_with fuel digest engine image script)
run_in_range (Some n) d (Some e) (Some i) (Some s) h g =
    let b = h n refl in
    (b.0, omega arith, g)
run_in_range (Some n) d (Some e) (Some i) None h g = tt
run_in_range (Some n) d (Some e) None s h g = tt
run_in_range (Some n) d None i s h g = tt
run_in_range None d e i s h g = tt

bench_in_range : (engine : Option Engine) (seed : Option ℕ) → ((n : ℕ) → seed ≡ Some n → (0 ≤ n) × (n ≤ greatest_number)) → IfSome engine IsStaffed → AllInRange (bench_with engine seed)
bench_in_range None seed h g = tt
bench_in_range (Some e) None h g = tt
bench_in_range (Some e) (Some n) h g =
    let b = h n refl in
    (omega arith, g)

-- the numbers of workers and nodes of an engine that has a name
staffed_if : (b : Bool) (e : Engine) (o : Option Engine) → IsStaffed e → IfSome o IsStaffed → IfSome (cond b (Some e) o) IsStaffed
staffed_if true e o h k = h
staffed_if false e o h k = k

named_staffed : (n j : ℕ) (l : Option ℕ) (t : Text) → (1 ≤ n) × (n ≤ most_workers) × (1 ≤ j) × (j ≤ most_nodes) → IfSome (engine_named n j l t) IsStaffed
named_staffed n j l t h =
    staffed_if (bytes_eq t (codes "demand")) demand _ tt (staffed_if (bytes_eq t (codes "rounds")) rounds _ tt (staffed_if (bytes_eq t (codes "pool")) (pool n j l) _ h (staffed_if (bytes_eq t (codes "seats")) (seats n j l) None h tt)))

with_staffed : (workers nodes link : Option ℕ) (name : Option Text) → ((n : ℕ) → workers ≡ Some n → (1 ≤ n) × (n ≤ most_workers)) → ((n : ℕ) → nodes ≡ Some n → (1 ≤ n) × (n ≤ most_nodes))
    → IfSome (engine_with workers nodes link name) IsStaffed
with_staffed None nodes link name h g = tt
with_staffed (Some n) None link name h g = tt
with_staffed (Some n) (Some j) link None h g = tt
with_staffed (Some n) (Some j) link (Some t) h g =
    let a = h n refl in
    let b = g j refl in
    named_staffed n j link t (a.0, a.1, b.0, b.1)

in_staffed : (rows : List Row) → IfSome (engine_in rows) IsStaffed
in_staffed rows =
    with_staffed (workers_of rows) (nodes_of rows) (link_of rows) (first_of (codes "engine") rows) (number_of_bounds 1 most_workers (one_of (codes "workers") rows)) (number_of_bounds 1 most_nodes (one_of (codes "nodes") rows))

schedule_staffed : (name : Option Text) → IfSome (option_map (λ n. schedule n) name) IsStaffed
schedule_staffed None = tt
schedule_staffed (Some t) = tt

asm_in_range : (o : Option Text) → AllInRange (option_map asm o)
asm_in_range None = tt
asm_in_range (Some t) = tt

run_by_in_range : (digest : Bool) (engine : Option Engine) (rows : List Row) → IfSome engine IsStaffed → AllInRange (run_by digest engine rows)
unfolding run_by
run_by_in_range digest engine rows staffed = run_in_range (fuel_of rows) digest engine (first_of (codes "image") rows) (first_of (codes "script") rows) (number_of_bounds 1 greatest_number (one_of (codes "limit") rows)) staffed

line_of_run : (rows : List Row) → AllInRange (run_line rows)
unfolding run_line
line_of_run rows = run_by_in_range _ _ rows (in_staffed rows)

line_of_walk : (rows : List Row) → AllInRange (walk_line rows)
unfolding walk_line
line_of_walk rows = run_by_in_range _ _ rows (schedule_staffed (first_of (codes "schedule") rows))

line_of_bench : (rows : List Row) → AllInRange (bench_line rows)
line_of_bench rows = bench_in_range (engine_in rows) (seed_of rows) (number_of_bounds 0 greatest_number (one_of (codes "seed") rows)) (in_staffed rows)

chosen : (b : Bool) (o p : Option Line) → AllInRange o → AllInRange p → AllInRange (cond b o p)
chosen true o p h k = h
chosen false o p h k = k

line_of_rows : (o : Option (Text × List Row)) → AllInRange (option_and_then command_line o)
line_of_rows None = tt
line_of_rows (Some p) =
    chosen (bytes_eq p.0 (codes "run")) (run_line p.1) _ (line_of_run p.1)
    (chosen (bytes_eq p.0 (codes "walk")) (walk_line p.1) _ (line_of_walk p.1)
    (chosen (bytes_eq p.0 (codes "asm")) (asm_line p.1) _ (asm_in_range (first_of (codes "source") p.1))
    (chosen (bytes_eq p.0 (codes "bench")) (bench_line p.1) None (line_of_bench p.1) tt)))

of_command : (c : Option Command) → AllInRange (option_map line_of c) → IfSome c (λ x. IsInRange (line_of x))
of_command None h = tt
of_command (Some c) h = h

pub command_in_range : (o : Option (Text × List Row)) (c : Option Command) → option_map line_of c ≡ option_and_then command_line o → IfSome c (λ x. IsInRange (line_of x))
command_in_range o c e = of_command c (subst AllInRange (sym e) (line_of_rows o))
