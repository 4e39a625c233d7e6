-- The laws of bytes with files, of a memory that is lent or taken.
-- Our choice: a restatement for proofs.
use Rattle.std.proofs.Common.{◌≡◌, ℕ, ◌+◌, ◌<◌, true, refl, arith, ◌∙◌, ap}
use Rattle.file_model.specs.Sizes.{first_address, content_offset}
use Rattle.file_model.specs.Slots.{slot_start}
use Rattle.space_model.specs.Files.{file_bytes}
use Rattle.memory_files.specs.declared.files.Files.{Files}
use Rattle.memory_files.specs.declared.files.Files.TheVariants.{Lent, Taken}
use Rattle.file_image.specs.Spared.{spared_in}
use Rattle.memory_files.specs.Slots.{has_slot}
use Rattle.memory_files.specs.Laws as laws
use Rattle.memory_files.specs.Files.{held_in, is_taken, has_taken_header, spared_of, KeepsFiles}

pub small : (s : Files) (a : ℕ) → (let h = held_in s in file_bytes h.memory) a < 256
small (Lent l) a = l.small (first_address + a)
small (Taken s) a = s.small (first_address + a)

pub keeps_itself : (s : Files) → KeepsFiles s s
keeps_itself (Lent l) = refl
keeps_itself (Taken s) = laws.slots_keep_themselves s.memory s.ready s.headers s.whole

pub keeps_on : (s t u : Files) → KeepsFiles s t → KeepsFiles t u → KeepsFiles s u
keeps_on (Lent l) (Lent m) (Lent n) first second = second ∙ first
keeps_on (Taken s) (Taken t) (Taken u) first second = laws.slots_keep_on s.memory t.memory u.memory s.ready t.ready u.ready s.headers t.headers u.headers s.whole t.whole u.whole first second
keeps_on (Lent l) (Taken t) u first second = absurd first
keeps_on (Taken s) (Lent m) u first second = absurd first
keeps_on (Lent l) (Lent m) (Taken u) first second = absurd second
keeps_on (Taken s) (Taken t) (Lent n) first second = absurd second

pub ready_on : (s t : Files) (k : ℕ) → KeepsFiles s t → is_taken s k ≡ true → is_taken t k ≡ true
ready_on (Lent l) t k kept ready = cc
ready_on (Taken s) (Taken t) k kept ready = ap (λ r. has_slot r k) kept.ready ∙ ready
ready_on (Taken s) (Lent m) k kept ready = absurd kept

pub header_on : (s t : Files) (k : ℕ) → KeepsFiles s t → has_taken_header s k ≡ true → has_taken_header t k ≡ true
header_on (Lent l) t k kept header = cc
header_on (Taken s) (Taken t) k kept header = ap (λ r. has_slot r k) kept.headers ∙ header
header_on (Taken s) (Lent m) k kept header = absurd kept

pub header_ready : (s : Files) (k : ℕ) → is_taken s k ≡ true → has_taken_header s k ≡ true
header_ready (Lent l) k ready = cc
header_ready (Taken s) k ready = s.within k ready

pub spared_on : (s t : Files) (k : ℕ) → KeepsFiles s t → spared_of t k ≡ spared_of s k
spared_on (Lent l) (Lent m) k kept = refl
spared_on (Taken s) (Taken t) k kept = ap (λ w. spared_in w k) kept.whole
spared_on (Lent l) (Taken t) k kept = absurd kept
spared_on (Taken s) (Lent m) k kept = absurd kept

pub spared_stays : (s t : Files) (k i : ℕ) → KeepsFiles s t → i < spared_of s k
    → (let h = held_in t in file_bytes h.memory) (slot_start k + content_offset + i) ≡ (let h = held_in s in file_bytes h.memory) (slot_start k + content_offset + i)
spared_stays (Lent l) t k i kept before = absurd (omega arith)
spared_stays (Taken s) (Taken t) k i kept before = kept.spared k i before
spared_stays (Taken s) (Lent m) k i kept before = absurd kept
