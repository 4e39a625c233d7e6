-- Where a space lives: the high bits of its number name a node (OSDI 2010, "Efficient System-Enforced Deterministic Parallelism", the
-- section on distribution: a child number has a node field).
-- Source: OSDI 2010, "Efficient System-Enforced Deterministic Parallelism", "Distribution via Space Migration".
-- Our choice: which bits, and that they count modulo the number of nodes.
use Rattle.std.specs.Prelude.{ℕ, ◌/◌, ◌%◌}

-- the home of a space of this number, among so many nodes
abbrev pub node_of : ℕ → ℕ → ℕ
node_of number nodes = number / 256 % nodes
