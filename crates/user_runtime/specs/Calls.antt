-- What the calls of processes and threads have in common.
-- Our choice: a restatement for proofs.
use Rattle.std.specs.Prelude.{◌≡◌, ℕ, Bool, Option, Some, None, if◌then◌else◌}
use Rattle.call_model.specs.declared.Call.{Call}
use Rattle.call_model.specs.declared.Call.TheVariants.{Fork, Tfork}
use Rattle.memory_model.specs.Memory.{Memory}
use Rattle.space_mem.specs.Held.{Held, Covers, all_pages}
use Rattle.space_model.specs.Space.{Space, Top, top_of}
use Rattle.space_model.specs.Files.{with_file_bases}
use Rattle.space_model.specs.Part.{Part}
use Rattle.space_model.specs.Runtime.{after_fork, after_thread_fork}

-- the memory of a space
abbrev pub memory_of : Space → Memory
memory_of s = let t = top_of s in t.memory

-- a memory that a child may have with this snapshot; where there is none, with any
abbrev pub Suits : Held → Option Held → Type 0
Suits h None = h.dirty ≡ all_pages
Suits h (Some s) = Covers h s.memory

-- the memory of a child that is forked, by its caller's: in a process's each file has its base
abbrev pub forked_memory : Bool → Memory → Memory
forked_memory thread m = if thread then m else with_file_bases m

-- the child of a caller after a fork, of a thread or of a process
abbrev pub after_fork_of : Bool → Top → Part
after_fork_of thread t = if thread then after_thread_fork t else after_fork t

-- the fork of a thread or of a process
abbrev pub fork_call : Bool → ℕ → Call
fork_call thread n = if thread then Tfork n else Fork n
