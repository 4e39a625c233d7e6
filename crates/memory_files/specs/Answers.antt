-- What a call on a file leaves and answers, one part of it at a time.
-- Our choice: a restatement for proofs.
use Rattle.std.specs.Prelude.{◌≡◌, Result, IfOk, IsOk, OnOk, OnErr, Ok, Err, None, ℕ, List, length, Vec}
use Rattle.std.specs.Global.{Global}
use Rattle.memory_model.specs.Memory.{Memory, bytes_from}
use Rattle.file_model.specs.declared.FileError.{FileError}
use Rattle.file_model.specs.Operations.{Entry}
use Rattle.file_model.specs.Operations as operations
use Rattle.call_model.specs.declared.FileCall.{FileCall}
use Rattle.call_model.specs.declared.FileCall.TheVariants.{New, Put, Get, Length, Delete}
use Rattle.space_model.specs.declared.FileAnswer.{FileAnswer}
use Rattle.space_model.specs.declared.FileAnswer.TheVariants.{Done, Refused, Fault}
use Rattle.space_model.specs.Files.{FileResult, files_in}
use Rattle.space_mem.specs.Held.{Held, HasNoneOf, KeepsMarks, Marks}
use Rattle.memory_files.specs.Slots.{IsBesideSlot, slot_pages}

-- a call that is refused, or whose caller is stopped
abbrev pub IsRefused : FileAnswer → Type 0
IsRefused (Done n) = ⊥
IsRefused (Refused error) = Unit {0}
IsRefused (Fault refusal) = Unit {0}

-- a page that is none of n pages from the start of the slot that changes, if one does
abbrev pub IsBesideEntry : ℕ → Result Entry FileError → ℕ → Type 0
IsBesideEntry n (Ok e) page = IsBesideSlot n e.slot page
IsBesideEntry n (Err error) page = Unit {0}

-- a page that has none of the bytes of a buffer that are written, if any are
abbrev pub IsBesidePart : ℕ → Result (List ℕ) FileError → ℕ → Type 0
IsBesidePart addr (Ok part) page = HasNoneOf addr (length part) page
IsBesidePart addr (Err error) page = Unit {0}

-- a page of which a call on a file has nothing to write: it is beside the slot that changes, or beside its header where the content stays
-- in its place, or beside the bytes of the buffer that are written
abbrev pub IsBesideCall : FileCall → Memory → ℕ → Type 0
IsBesideCall (New name n append) m page = IsBesideEntry 1 (operations.create (files_in m) (bytes_from m name n) append) page
IsBesideCall (Put name n addr len add) m page = IsBesideEntry slot_pages (operations.put (files_in m) (bytes_from m name n) (bytes_from m addr len) add) page
IsBesideCall (Get name n addr len offset) m page = IsBesidePart addr (operations.get (files_in m) (bytes_from m name n) offset len) page
IsBesideCall (Length name n) m page = Unit {0}
IsBesideCall (Delete name n) m page = IsBesideEntry 1 (operations.delete (files_in m) (bytes_from m name n)) page

-- a call has this result, or it lacks memory and no byte and no permission has changed; a page beside what is written is owned, and dirty,
-- where it was; a call that is refused changes nothing and does not lack memory
pub record HasResult {E : Type 0} (r : FileResult) (result : Result FileAnswer E) (old new : Held) (beside : ℕ → Type 0) : Type 0 where
  pub answer : IfOk result (λ a. a ≡ r.answer)
  pub memory : OnOk result (new.memory ≡ r.memory)
  pub err : OnErr result (new.memory ≡ old.memory)
  pub marks : Marks old new
  pub kept : (page : ℕ) → beside page → KeepsMarks old new page
  pub refused : IsRefused r.answer → new ≡ old
  pub idle : IsRefused r.answer → IsOk result

-- the same of a part that takes no memory, where each page that it writes is owned
pub record IsResult (r : FileResult) (result : FileAnswer) (old new : Held) : Type 0 where
  pub answer : result ≡ r.answer
  pub memory : new.memory ≡ r.memory
  pub kept : (page : ℕ) → KeepsMarks old new page
  pub marks : Marks old new

-- what a call that changes a file answers
abbrev pub change_answer : {A : Type 0} → Result A FileError → FileAnswer
change_answer (Ok x) = Done None
change_answer (Err error) = Refused error

-- the bytes that were read, or why none were
abbrev pub IsPart : Result (List ℕ) FileError → Result (Vec ℕ Global) FileError → Type 0
IsPart (Ok part) (Ok v) = v.items ≡ part
IsPart (Ok part) (Err f) = ⊥
IsPart (Err e) (Ok v) = ⊥
IsPart (Err e) (Err f) = f ≡ e

-- bytes were found
abbrev pub IsFound : Result (List ℕ) FileError → Type 0
IsFound (Ok part) = Unit {0}
IsFound (Err e) = ⊥

-- so many bytes were read
abbrev pub HasLength : Result (List ℕ) FileError → ℕ → Type 0
HasLength (Ok part) n = length part ≡ n
HasLength (Err e) n = ⊥
