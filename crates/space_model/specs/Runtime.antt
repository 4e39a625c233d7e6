-- What the calls of processes and threads do, by the parts of Put and Get (OSDI 2010, "Efficient System-Enforced Deterministic Parallelism", the section
-- on emulating high-level abstractions: fork, exec and wait of processes, and fork and join of threads that share memory).
-- Source: OSDI 2010, "Efficient System-Enforced Deterministic Parallelism", emulating high-level abstractions: fork and wait, thread fork and join.
-- Our choice: that each is one call; the registers that it sets; that threads share what is below a fixed address.
use Rattle.std.specs.Prelude.{ℕ, None}
use Rattle.memory_model.specs.Sizes.{pages}
use Rattle.instruction_model.specs.Outcome.{Registers, with_register, onward}
use Rattle.space_model.specs.declared.Status.{Status}
use Rattle.space_model.specs.Space.{Top}
use Rattle.space_model.specs.Block.{stop_number, stop_value}
use Rattle.space_model.specs.Files.{with_file_bases, with_files_of, files_left_out}
use Rattle.space_model.specs.Part.{Part, registers_part, copy_part, merge_part, snapshot_part, start_part}

-- the pages that threads share: those below the address 0xC0000000
abbrev pub shared_pages : ℕ
shared_pages = 0xC0000

-- the registers of a child that is forked: it goes on behind the call, with a0 = 1
abbrev pub fork_registers : Registers → Registers
fork_registers r = with_register (onward r) 10 1

-- a child with the caller's registers and a copy of all of its memory
abbrev pub twin_part : Top → Part
twin_part t c = copy_part t.memory 0 0 pages (registers_part (fork_registers t.registers) c)

-- its files have their base
abbrev pub base_part : Part
base_part c = record c { memory = with_file_bases c.memory }

-- the child of a caller after a fork: it runs without a limit
unfoldable pub after_fork : Top → Part
after_fork t c = start_part None (base_part (twin_part t c))

-- and after a fork of a thread, which has a snapshot too
unfoldable pub after_thread_fork : Top → Part
after_thread_fork t c = start_part None (snapshot_part (twin_part t c))

-- a1 is the number of the cause of this status, a2 the value
abbrev pub with_stop : Status → Part
with_stop status t = registers_part (with_register (with_register t.registers 11 (stop_number status)) 12 (stop_value status)) t

-- how a child has stopped
abbrev pub stop_part : Top → Part
stop_part c t = with_stop c.status t

-- the caller after it has joined a thread: what the thread changed since its snapshot, and how it stopped
unfoldable pub after_join : Top → Part
after_join c t = stop_part c (merge_part c.snapshot c.memory 0 shared_pages t)

-- what it takes over from a child's files; a3 is how many of them found no free slot
abbrev pub files_part : Top → Part
files_part c t = record t { registers = with_register t.registers 13 (files_left_out c.memory t.memory); memory = with_files_of c.memory t.memory }

-- the caller after it has waited for a process: its files, and how it stopped
unfoldable pub after_wait : Top → Part
after_wait c t = stop_part c (files_part c t)
