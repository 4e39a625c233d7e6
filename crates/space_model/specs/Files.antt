-- A space's files in its memory: what the calls on them do to the memory and what they answer, the base that a forked process begins with, and
-- what a parent takes over from a process that it waited for.
-- Source: OSDI 2010, "Efficient System-Enforced Deterministic Parallelism", the section on file system consistency: each process has its own file
-- system in its memory, and its parent reconciles it when it waits for it.
-- Our choice: that each is a call of the kernel; that names, data and buffers have to be accessible, and the slots need not be.
use Rattle.std.specs.Prelude.{ℕ, ◌+◌, List, [], ◌∷◌, length, Option, Some, None, Result, Ok, Err}
use Rattle.memory_model.specs.Memory.{Memory, byte_at, bytes_from, with_bytes, may_read, may_write}
use Rattle.memory_model.specs.Ranges.{with_row}
use Rattle.file_model.specs.declared.FileError.{FileError}
use Rattle.file_model.specs.Sizes.{first_address, all_slots_size}
use Rattle.file_model.specs.File.{File}
use Rattle.file_model.specs.Slots.{slots_of, with_slot}
use Rattle.file_model.specs.Operations.{Entry, create, put, get, length_of, delete}
use Rattle.file_model.specs.Reconcile.{reconcile, reconciled_bytes, with_bases}
use Rattle.call_model.specs.declared.FileCall.{FileCall}
use Rattle.call_model.specs.declared.FileCall.TheVariants.{New, Put, Get, Length, Delete}
use Rattle.space_model.specs.declared.Cause.TheVariants.{LoadFault, StoreFault}
use Rattle.space_model.specs.declared.Refusal.{Refusal}
use Rattle.space_model.specs.declared.FileAnswer.{FileAnswer}
use Rattle.space_model.specs.declared.FileAnswer.TheVariants.{Done, Refused, Fault}
use Rattle.space_model.specs.Refusals.{first_refusal, access_refusal}

-- ---- files in a memory

-- the bytes of the slots of files
abbrev pub file_bytes : Memory → ℕ → ℕ
file_bytes m offset = byte_at m (first_address + offset)

-- a memory whose slots have these bytes; all other bytes stay, and all permissions
abbrev pub with_file_bytes : Memory → (ℕ → ℕ) → Memory
with_file_bytes m bytes = record m { bytes = with_row m.bytes first_address bytes all_slots_size }

abbrev pub files_in : Memory → List (Option File)
files_in m = slots_of (file_bytes m)

-- a slot has another file
abbrev pub with_file : Memory → Entry → Memory
with_file m e = with_file_bytes m (with_slot (file_bytes m) e.slot e.file)

-- ---- the calls

-- bytes that a call reads, and bytes that it writes
abbrev pub unreadable : Memory → ℕ → ℕ → Option Refusal
unreadable m addr len = access_refusal LoadFault (may_read m) addr len

abbrev pub unwritable : Memory → ℕ → ℕ → Option Refusal
unwritable m addr len = access_refusal StoreFault (may_write m) addr len

-- what stops the caller, in this order: the name comes before data and buffer, all bytes of a buffer count
abbrev pub file_refusals : FileCall → Memory → List (Option Refusal)
file_refusals (New name n append) m = unreadable m name n ∷ []
file_refusals (Put name n addr len add) m = unreadable m name n ∷ unreadable m addr len ∷ []
file_refusals (Get name n addr len offset) m = unreadable m name n ∷ unwritable m addr len ∷ []
file_refusals (Length name n) m = unreadable m name n ∷ []
file_refusals (Delete name n) m = unreadable m name n ∷ []

-- what a call answers, and the memory after it
pub record FileResult : Type 0 where
  pub answer : FileAnswer
  pub memory : Memory

-- of a call that changes a file
abbrev pub change_result : Memory → Result Entry FileError → FileResult
change_result m (Ok e) = record { answer = Done None; memory = with_file m e }
change_result m (Err error) = record { answer = Refused error; memory = m }

-- of one that reads a part of a file: it is written from an address on, and counted
abbrev pub part_result : Memory → ℕ → Result (List ℕ) FileError → FileResult
part_result m addr (Ok part) = record { answer = Done (Some (length part)); memory = with_bytes m addr part }
part_result m addr (Err error) = record { answer = Refused error; memory = m }

-- of one that tells a length
abbrev pub length_result : Memory → Result ℕ FileError → FileResult
length_result m (Ok n) = record { answer = Done (Some n); memory = m }
length_result m (Err error) = record { answer = Refused error; memory = m }

-- a call whose bytes have their rights; all that it reads is read before anything is written
abbrev pub file_action : FileCall → Memory → FileResult
file_action (New name n append) m = change_result m (create (files_in m) (bytes_from m name n) append)
file_action (Put name n addr len add) m = change_result m (put (files_in m) (bytes_from m name n) (bytes_from m addr len) add)
file_action (Get name n addr len offset) m = part_result m addr (get (files_in m) (bytes_from m name n) offset len)
file_action (Length name n) m = length_result m (length_of (files_in m) (bytes_from m name n))
file_action (Delete name n) m = change_result m (delete (files_in m) (bytes_from m name n))

abbrev pub unless_fault : Option Refusal → Memory → FileResult → FileResult
unless_fault None m result = result
unless_fault (Some r) m result = record { answer = Fault r; memory = m }

-- what a call does to a memory, and what it answers
unfoldable pub file_call : FileCall → Memory → FileResult
file_call call m = unless_fault (first_refusal (file_refusals call m)) m (file_action call m)

-- ---- processes

-- the memory of a process that is forked: each of its files has its base
unfoldable pub with_file_bases : Memory → Memory
with_file_bases m = with_file_bytes m (with_bases (file_bytes m))

-- a parent's memory with what it takes over from the files in a child's
unfoldable pub with_files_of : Memory → Memory → Memory
with_files_of child parent = with_file_bytes parent (reconciled_bytes (file_bytes parent) (file_bytes child))

-- how many of the child's files found no free slot
unfoldable pub files_left_out : Memory → Memory → ℕ
files_left_out child parent = (reconcile (files_in parent) (files_in child)).left_out
