-- A file: its name, its content, and what a parent and its child need to tell who changed it.
-- Source: OSDI 2010, "Efficient System-Enforced Deterministic Parallelism", the section on file system consistency: each file has a
-- version, and the version and length that it had when the child was forked; a file that both sides changed is in conflict, unless
-- both only added to it.
-- Our choice: the ranges, and that a deleted file keeps its name and version.
use Rattle.std.specs.Prelude.{◌≡◌, ℕ, ◌+◌, ◌%◌, ◌^◌, ◌<◌, ◌≤◌, ◌==◌, ◌&&◌, Bool, true, not, List, length, slice_index, nat_lt, nat_le}
use Rattle.std.specs.List.{list_any}
use Rattle.file_model.specs.Sizes.{greatest_name, greatest_length}

pub record File : Type 0 where
  pub name : List ℕ
  pub version : ℕ
  -- the version when the file was last handed to a child
  pub base : ℕ
  -- and the length of its content then
  pub length_at_base : ℕ
  pub content : List ℕ
  -- whether its content only grows
  pub append : Bool
  -- whether parent and child both changed it
  pub conflicted : Bool
  pub deleted : Bool

-- 1 to 32 bytes, none of them 0
abbrev pub is_name : List ℕ → Bool
is_name name = nat_lt 0 (length name) && nat_le (length name) greatest_name && not (list_any (λ b. b == 0) name)

-- numbers that are bytes
abbrev pub AreBytes : List ℕ → Type 0
AreBytes bytes = (i : ℕ) → slice_index bytes i < 256

-- a file that a slot can hold
pub record IsFile (f : File) : Type 0 where
  pub named : is_name f.name ≡ true
  pub name_bytes : AreBytes f.name
  pub version : f.version < 2 ^ 32
  pub base : f.base < 2 ^ 32
  pub length_at_base : f.length_at_base ≤ greatest_length
  pub long : length f.content ≤ greatest_length
  pub content_bytes : AreBytes f.content

-- the version after a change: it wraps
abbrev pub next_version : File → ℕ
next_version f = (f.version + 1) % 2 ^ 32

-- the file as its child gets it: what changes from here on differs from the base
abbrev pub with_base : File → File
with_base f = record f { base = f.version; length_at_base = length f.content }
