-- The sizes of a space's files: where they stand in its memory, how many there may be, and how long they may be.
-- Our choice: the numbers.
use Rattle.std.specs.Prelude.{ℕ}

-- where slot 0 begins in a memory; offsets count from here
abbrev pub first_address : ℕ
first_address = 3221225472

-- how many slots there are, each for one file
abbrev pub slot_count : ℕ
slot_count = 64

-- the bytes of a slot: a page for its header, then its content
abbrev pub slot_size : ℕ
slot_size = 65536

-- the bytes of all slots
abbrev pub all_slots_size : ℕ
all_slots_size = 4194304

-- where the content begins in a slot
abbrev pub content_offset : ℕ
content_offset = 4096

-- the greatest length of a content
abbrev pub greatest_length : ℕ
greatest_length = 61440

-- the greatest length of a name
abbrev pub greatest_name : ℕ
greatest_name = 32
