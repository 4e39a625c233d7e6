-- What a call on a file does, as a function of the slots: the first error that applies, or the slot that changes and its new file.
-- Source: OSDI 2010, "Efficient System-Enforced Deterministic Parallelism", the section on file system consistency: a program makes,
-- writes, reads and deletes files in its own file system alone.
-- Our choice: the errors, their numbers and their order, and the lowest free slot.
use Rattle.std.specs.Prelude.{ℕ, ◌+◌, ◌&&◌, Bool, true, false, not, if◌then◌else◌, List, [], ◌∷◌, ◌++◌, length, take, drop, Option, Some, None, Result, Ok, Err, nat_le}
use Rattle.std.specs.Str.{bytes_eq}
use Rattle.file_model.specs.declared.FileError.{FileError}
use Rattle.file_model.specs.declared.FileError.TheVariants.{NoFile, Exists, NoSlot, TooLong, Conflicted, BadName, NotAppend}
use Rattle.file_model.specs.Sizes.{greatest_length}
use Rattle.file_model.specs.File.{File, is_name, next_version}

-- the number that a refused call answers
abbrev pub error_number : FileError → ℕ
error_number NoFile = 1
error_number Exists = 2
error_number NoSlot = 3
error_number TooLong = 4
error_number Conflicted = 5
error_number BadName = 6
error_number NotAppend = 7

-- a slot's number and a file: the one that it holds, or the one that it is to hold
pub record Entry : Type 0 where
  pub slot : ℕ
  pub file : File

-- ---- looking

-- the lowest slot in use of this name among slots from k on, with its file
unfoldable pub entry_from : ℕ → List (Option File) → List ℕ → Option Entry
entry_from k [] name = None
entry_from k (None ∷ slots) name = entry_from (k + 1) slots name
entry_from k (Some f ∷ slots) name = if bytes_eq f.name name then Some (record { slot = k; file = f }) else entry_from (k + 1) slots name

-- a name's file: that of the lowest slot in use; a higher one of the name is hidden
abbrev pub entry_of : List (Option File) → List ℕ → Option Entry
entry_of slots name = entry_from 0 slots name

-- the lowest free slot among slots from k on
unfoldable pub free_from : ℕ → List (Option File) → Option ℕ
free_from k [] = None
free_from k (None ∷ slots) = Some k
free_from k (Some f ∷ slots) = free_from (k + 1) slots

abbrev pub lowest_free : List (Option File) → Option ℕ
lowest_free slots = free_from 0 slots

-- ---- a file that is there: a deleted one is none

abbrev pub unless_deleted : Option Entry → Result Entry FileError
unless_deleted None = Err NoFile
unless_deleted (Some e) = if e.file.deleted then Err NoFile else Ok e

abbrev pub present : List (Option File) → List ℕ → Result Entry FileError
present slots name = if is_name name then unless_deleted (entry_of slots name) else Err BadName

-- and what is next for it
infixl 10 ◌>>=◌
abbrev pub ◌>>=◌ : {A B : Type 0} → Result A FileError → (A → Result B FileError) → Result B FileError
(Ok x) >>= f = f x
(Err e) >>= f = Err e

abbrev pub unless_conflicted : Entry → Result Entry FileError
unless_conflicted e = if e.file.conflicted then Err Conflicted else Ok e

-- a file that is there, whose content is known
abbrev pub usable : List (Option File) → List ℕ → Result Entry FileError
usable slots name = present slots name >>= unless_conflicted

-- ---- making a file

-- a file that was never there
abbrev pub new_file : List ℕ → Bool → File
new_file name append = record { name = name; version = 1; base = 0; length_at_base = 0; content = []; append = append; conflicted = false; deleted = false }

-- a file that was deleted is there again; its base stays
abbrev pub revival : File → Bool → File
revival f append = record f { version = next_version f; content = []; append = append; conflicted = false; deleted = false }

abbrev pub place_new : Option ℕ → File → Result Entry FileError
place_new None f = Err NoSlot
place_new (Some k) f = Ok (record { slot = k; file = f })

abbrev pub make_at : Option Entry → List (Option File) → List ℕ → Bool → Result Entry FileError
make_at None slots name append = place_new (lowest_free slots) (new_file name append)
make_at (Some e) slots name append = if e.file.deleted then Ok (record e { file = revival e.file append }) else Err Exists

abbrev pub create : List (Option File) → List ℕ → Bool → Result Entry FileError
create slots name append = if is_name name then make_at (entry_of slots name) slots name append else Err BadName

-- ---- writing

-- the content with bytes added to it, or in its place
abbrev pub new_content : File → List ℕ → Bool → List ℕ
new_content f bytes add = if add then f.content ++ bytes else bytes

abbrev pub with_content : List ℕ → Bool → File → File
with_content bytes add f = record f { version = next_version f; content = new_content f bytes add }

abbrev pub rewrite : List ℕ → Bool → Entry → Result Entry FileError
rewrite bytes add e =
    if not add && e.file.append then Err NotAppend
    else if nat_le (length (new_content e.file bytes add)) greatest_length then Ok (record e { file = with_content bytes add e.file })
    else Err TooLong

-- the version grows for no bytes, too
abbrev pub put : List (Option File) → List ℕ → List ℕ → Bool → Result Entry FileError
put slots name bytes add = usable slots name >>= rewrite bytes add

-- ---- reading

-- at most `count` bytes of the content, from an offset on
abbrev pub get : List (Option File) → List ℕ → ℕ → ℕ → Result (List ℕ) FileError
get slots name offset count = do
  e ← usable slots name
  Ok (take count (drop offset e.file.content))

abbrev pub length_of : List (Option File) → List ℕ → Result ℕ FileError
length_of slots name = do
  e ← usable slots name
  Ok (length e.file.content)

-- ---- deleting: the slot stays in use, so that the parent learns of it

abbrev pub deleted_file : File → File
deleted_file f = record f { version = next_version f; content = []; conflicted = false; deleted = true }

abbrev pub delete : List (Option File) → List ℕ → Result Entry FileError
delete slots name = do
  e ← present slots name
  Ok (record e { file = deleted_file e.file })
