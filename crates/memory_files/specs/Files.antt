-- The files of a memory that is lent or taken: its bytes, which slots and headers may be written, and what a write leaves as it is.
-- Our choice: a restatement for proofs.
use Rattle.std.specs.Prelude.{◌≡◌, ℕ, Bool, false}
use Rattle.space_mem.specs.Held.{Held}
use Rattle.memory_files.specs.declared.files.Files.{Files}
use Rattle.memory_files.specs.declared.files.Files.TheVariants.{Lent, Taken}
use Rattle.file_image.specs.Spared.{spared_in}
use Rattle.memory_files.specs.Slots.{KeepsSlots, has_slot}

abbrev pub held_in : Files → Held
held_in (Lent l) = l.memory.now
held_in (Taken s) = s.memory

abbrev pub is_taken : Files → ℕ → Bool
is_taken (Lent l) k = false
is_taken (Taken s) k = has_slot s.ready k

abbrev pub has_taken_header : Files → ℕ → Bool
has_taken_header (Lent l) k = false
has_taken_header (Taken s) k = has_slot s.headers k

abbrev pub spared_of : Files → ℕ → ℕ
spared_of (Lent l) k = 0
spared_of (Taken s) k = spared_in s.whole k

abbrev pub KeepsFiles : Files → Files → Type 0
KeepsFiles (Lent l) (Lent m) = m.memory.now ≡ l.memory.now
KeepsFiles (Taken s) (Taken t) = KeepsSlots s.memory t.memory s.ready t.ready s.headers t.headers s.whole t.whole
KeepsFiles s t = ⊥
