-- What is shown of a memory beside its snapshot, as text, line by line.
-- Our choice: the text.
use Rattle.std.specs.Prelude.{ℕ, ◌+◌, ◌==◌, ◌&&◌, nat_le, not, Bool, List, [], ◌∷◌, ◌++◌, length, Option, Some, None, codes, if◌then◌else◌}
use Rattle.std.specs.List.{flat_map}
use Rattle.std.specs.Fmt.{decimal}
use Rattle.memory_model.specs.Memory.{Memory}
use Rattle.file_model.specs.File.{File}
use Rattle.space_model.specs.Files.{files_in}
use Rattle.report_model.specs.Report.{hex8}
use Rattle.explain_core.specs.declared.pages.Run.{Run}
use Rattle.explain_core.specs.Hex.{hex2}
use Rattle.explain_core.specs.Pages.{runs_of, changed_pages}

-- a run of pages by its first and its last address, and the permission of its pages
abbrev pub run_text : Run → List ℕ
run_text r = codes "pages " ++ (hex8 r.first ++ (codes " to " ++ (hex8 r.last ++ (codes " permission " ++ (decimal r.permission ++ 10 ∷ [])))))

-- a page that has changed, by its first address
abbrev pub change_line : ℕ → List ℕ
change_line a = codes "changed " ++ (hex8 a ++ 10 ∷ [])

-- the pages that have changed since the snapshot, where there is one
abbrev pub changed_text : Memory → Option Memory → List ℕ
changed_text m None = []
changed_text m (Some snapshot) = flat_map change_line (changed_pages m snapshot)

-- a byte of a name that is shown as it is: from `!` to `~`, and no backslash
abbrev pub is_plain : ℕ → Bool
is_plain b = nat_le 33 b && nat_le b 126 && not (b == 92)

-- a byte of a name: itself from `!` to `~`, or its number behind `\x`; so is a backslash
abbrev pub name_byte : ℕ → List ℕ
name_byte b = if is_plain b then b ∷ [] else 92 ∷ 120 ∷ hex2 b

abbrev pub name_text : List ℕ → List ℕ
name_text name = flat_map name_byte name

-- a space and a word, where this is so
abbrev pub flag_text : Bool → List ℕ → List ℕ
flag_text is word = if is then 32 ∷ word else []

-- what is shown of a file
pub record ShownFile : Type 0 where
  pub name : List ℕ
  pub version : ℕ
  pub length : ℕ
  pub base : ℕ
  pub append : Bool
  pub conflicted : Bool
  pub deleted : Bool

abbrev pub shown_file : File → ShownFile
shown_file f = record { name = f.name; version = f.version; length = length f.content; base = f.base; append = f.append; conflicted = f.conflicted; deleted = f.deleted }

-- what is so of a file: that its content only grows, that parent and child both changed it, that it is deleted
abbrev pub flags_text : ShownFile → List ℕ
flags_text f = flag_text f.append (codes "append") ++ (flag_text f.conflicted (codes "conflicted") ++ flag_text f.deleted (codes "deleted"))

-- a file in its slot: its name, its version, the length of its content, its base, and what is so of it
abbrev pub file_text : ℕ → ShownFile → List ℕ
file_text slot f =
    codes "file " ++ (decimal slot ++ 32 ∷ (name_text f.name ++ (codes " version " ++ (decimal f.version ++ (codes " length " ++ (decimal f.length ++ (codes " base " ++ (decimal f.base ++ (flags_text f ++ 10 ∷ [])))))))))

-- what a slot has, where it is in use
abbrev pub slot_text : ℕ → Option File → List ℕ
slot_text slot None = []
slot_text slot (Some f) = file_text slot (shown_file f)

-- slots from one on, those that are in use
abbrev pub files_text : ℕ → List (Option File) → List ℕ
files_text slot [] = []
files_text slot (o ∷ slots) = slot_text slot o ++ files_text (slot + 1) slots

-- a memory beside its snapshot: its runs of pages, the pages that have changed, and its files
abbrev pub contents_text : Memory → Option Memory → List ℕ
contents_text m snapshot = flat_map run_text (runs_of m) ++ (changed_text m snapshot ++ files_text 0 (files_in m))
