-- Calls, as registers x0 to x31 name them: a7 is the number of a call's kind, a0 to a6 are what it takes. A kind is a row of one table, by whose
-- columns the tests go.
-- Our choice: the numbers, which registers hold what, and the tests, their numbers and their order.
use Rattle.std.specs.Prelude.{ℕ, zero, suc, ◌+◌, ◌==◌, Bool, true, false, not, ◌&&◌, ◌||◌, nat_lt, if◌then◌else◌, List, [], ◌∷◌, slice_index, Option, Some, None, Result, Ok, Err}
use Rattle.std.specs.List.{find}
use Rattle.call_model.specs.declared.Kind.{Kind}
use Rattle.call_model.specs.declared.Kind.TheVariants as kinds
use Rattle.call_model.specs.declared.Row.{Row}
use Rattle.call_model.specs.declared.Options.{Options}
use Rattle.call_model.specs.declared.Options.TheVariants as options
use Rattle.call_model.specs.declared.Options.TheVariants.{Nothing, ChoiceInA3, ChoiceInA5, RowAndQuantum}
use Rattle.call_model.specs.declared.Children.{Children}
use Rattle.call_model.specs.declared.Children.TheVariants.{Nobody}
use Rattle.call_model.specs.declared.Children.TheVariants as children
use Rattle.call_model.specs.declared.Ranges.{Ranges}
use Rattle.call_model.specs.declared.Ranges.TheVariants.{Nowhere, Two, Pages}
use Rattle.call_model.specs.declared.Ranges.TheVariants as ranges
use Rattle.call_model.specs.declared.Transfer.{Transfer}
use Rattle.call_model.specs.declared.Call.{Call}
use Rattle.call_model.specs.declared.Call.TheVariants.{Put, PutTree, Get, GetTree, Ret, ConsoleOut, ConsoleIn, Clock, Random, Fork, Wait, Tfork, Tjoin, Qstart, Qcommit, File}
use Rattle.call_model.specs.declared.FileCall.TheVariants as files
use Rattle.call_model.specs.declared.Badcall.{Badcall}
use Rattle.call_model.specs.Limits.{greatest_child, longest_row, greatest_depth, greatest_length}
use Rattle.call_model.specs.Options.{has, tree, wrong_put_options, wrong_get_options, wrong_pages, wrong_block_address, passes_end}

-- ---- the table

-- a row: its columns are the number in a7, the options, the children and the ranges that the call names, whether it is a device's, and the
-- deepest level below its caller at which it makes a space, without Tree and with it
abbrev pub columns : ℕ → Options → Children → Ranges → Bool → ℕ → ℕ → Row
columns n o c r d levels tree_levels = record { number = n; options = o; children = c; ranges = r; device = d; levels = levels; tree_levels = tree_levels }

abbrev pub row : Kind → Row
row kinds.Put = columns 1 options.Put children.Tree Pages false 1 2
row kinds.Get = columns 2 options.Get children.Tree Pages false 0 0
row kinds.Ret = columns 3 Nothing Nobody Nowhere false 0 0
row kinds.ConsoleOut = columns 4 Nothing Nobody ranges.One true 0 0
row kinds.ConsoleIn = columns 5 Nothing Nobody ranges.One true 0 0
row kinds.Clock = columns 6 Nothing Nobody Nowhere true 0 0
row kinds.Random = columns 7 Nothing Nobody Nowhere true 0 0
row kinds.Fork = columns 16 Nothing children.One Nowhere false 1 1
row kinds.Wait = columns 17 Nothing children.One Nowhere false 0 0
row kinds.Tfork = columns 18 Nothing children.One Nowhere false 1 1
row kinds.Tjoin = columns 19 Nothing children.One Nowhere false 0 0
row kinds.Qstart = columns 20 RowAndQuantum children.Row Nowhere false 0 0
row kinds.Qcommit = columns 21 options.Row children.Row Nowhere false 0 0
row kinds.FileNew = columns 24 ChoiceInA3 Nobody ranges.One false 0 0
row kinds.FilePut = columns 25 ChoiceInA5 Nobody Two false 0 0
row kinds.FileGet = columns 26 Nothing Nobody Two false 0 0
row kinds.FileLength = columns 27 Nothing Nobody ranges.One false 0 0
row kinds.FileDelete = columns 28 Nothing Nobody ranges.One false 0 0

abbrev pub all_kinds : List Kind
all_kinds =
    kinds.Put ∷ kinds.Get ∷ kinds.Ret ∷ kinds.ConsoleOut ∷ kinds.ConsoleIn ∷ kinds.Clock ∷ kinds.Random ∷ kinds.Fork
    ∷ kinds.Wait ∷ kinds.Tfork ∷ kinds.Tjoin ∷ kinds.Qstart ∷ kinds.Qcommit ∷ kinds.FileNew ∷ kinds.FilePut ∷ kinds.FileGet ∷ kinds.FileLength ∷ kinds.FileDelete ∷ []

abbrev pub number_of : Kind → ℕ
number_of kind = (row kind).number

-- the kind of call that has this number, if there is one
abbrev pub kind_of : ℕ → Option Kind
kind_of n = find (λ kind. n == number_of kind) all_kinds

-- a call meets children where it names some
abbrev pub names_children : Children → Bool
names_children Nobody = false
names_children c = true

abbrev pub meets_children : Kind → Bool
meets_children kind = names_children (row kind).children

-- ---- tests

-- a0 is argument 0
abbrev pub argument : List ℕ → ℕ → ℕ
argument x n = slice_index x (10 + n)

-- what says yes or no is neither 1 nor 0
abbrev pub wrong_choice : ℕ → Bool
wrong_choice n = nat_lt 1 n

-- no number of children in a row
abbrev pub wrong_row : ℕ → Bool
wrong_row n = n == 0 || nat_lt longest_row n

-- no quantum
abbrev pub wrong_quantum : ℕ → Bool
wrong_quantum n = n == 0

-- options that do not stand, or do not stand together; a choice that is none; a row that is empty or too long; or no quantum
unfoldable pub wrong_options : Options → List ℕ → Bool
wrong_options options.Put x = wrong_put_options (argument x 0)
wrong_options options.Get x = wrong_get_options (argument x 0)
wrong_options ChoiceInA3 x = wrong_choice (argument x 3)
wrong_options ChoiceInA5 x = wrong_choice (argument x 5)
wrong_options options.Row x = wrong_row (argument x 2)
wrong_options RowAndQuantum x = wrong_row (argument x 2) || wrong_quantum (argument x 3)
wrong_options _ x = false

-- no number of a child
abbrev pub wrong_child : ℕ → Bool
wrong_child n = nat_lt greatest_child n

-- a child number above the greatest: the one in a1, with Tree those of the child that is copied and the one that it is copied to as well, of a row
-- the last one
unfoldable pub wrong_children : Children → List ℕ → Bool
wrong_children children.One x = wrong_child (argument x 1)
wrong_children children.Tree x = wrong_child (argument x 1) || (has tree (argument x 0) && (wrong_child (argument x 3) || wrong_child (argument x 4)))
wrong_children children.Row x = wrong_child (argument x 1) || nat_lt (greatest_child + 1) (argument x 1 + argument x 2)
wrong_children _ x = false

-- bytes that pass the end of memory, or ranges that do not suit the options
unfoldable pub wrong_ranges : Ranges → List ℕ → Bool
wrong_ranges ranges.One x = passes_end (argument x 1) (argument x 2)
wrong_ranges ranges.Two x = passes_end (argument x 1) (argument x 2) || passes_end (argument x 3) (argument x 4)
wrong_ranges ranges.Pages x = wrong_pages (argument x 0) (argument x 3) (argument x 4) (argument x 5)
wrong_ranges _ x = false

-- a call of a device outside the root
unfoldable pub wrong_place : Bool → Bool → Bool
wrong_place device root = device && not root

-- a length above the greatest
abbrev pub wrong_length : ℕ → Bool
wrong_length n = nat_lt greatest_length n

-- of bytes that are named; whole pages are as many as there are
unfoldable pub wrong_lengths : Ranges → List ℕ → Bool
wrong_lengths ranges.One x = wrong_length (argument x 2)
wrong_lengths ranges.Two x = wrong_length (argument x 2) || wrong_length (argument x 4)
wrong_lengths _ x = false

-- the deepest level below its caller at which a call makes a space
abbrev pub new_levels : Row → List ℕ → ℕ
new_levels r x = if has tree (argument x 0) then r.tree_levels else r.levels

-- a space that would be deeper than the deepest
unfoldable pub wrong_depth : Row → List ℕ → ℕ → Bool
wrong_depth r x depth = nat_lt greatest_depth (depth + new_levels r x)

-- a register block of Put or Get that does not stand in memory
unfoldable pub wrong_block : Options → List ℕ → Bool
wrong_block options.Put x = wrong_block_address (argument x 0) (argument x 2)
wrong_block options.Get x = wrong_block_address (argument x 0) (argument x 2)
wrong_block _ x = false

-- a test: its number, and whether a call of this row fails it with these registers, at the root or below it, at this depth
pub record Test : Type 0 where
  pub number : ℕ
  pub fails : Row → List ℕ → Bool → ℕ → Bool

abbrev pub test : ℕ → (Row → List ℕ → Bool → ℕ → Bool) → Test
test n f = record { number = n; fails = f }

-- the tests on registers, in their order, behind test 1, which is that a7 is the number of a kind
abbrev pub tests : List Test
tests =
    test 2 (λ r x root depth. wrong_options r.options x)
    ∷ test 3 (λ r x root depth. wrong_children r.children x)
    ∷ test 4 (λ r x root depth. wrong_ranges r.ranges x)
    ∷ test 6 (λ r x root depth. wrong_place r.device root)
    ∷ test 7 (λ r x root depth. wrong_lengths r.ranges x)
    ∷ test 8 (λ r x root depth. wrong_depth r x depth)
    ∷ test 9 (λ r x root depth. wrong_block r.options x)
    ∷ []

abbrev pub first_of : List Test → Row → List ℕ → Bool → ℕ → Option ℕ
first_of [] r x root depth = None
first_of (t ∷ ts) r x root depth = if t.fails r x root depth then Some t.number else first_of ts r x root depth

-- the number of the first test that a call of this kind fails
abbrev pub first_failing : Kind → List ℕ → Bool → ℕ → Option ℕ
first_failing kind x root depth = first_of tests (row kind) x root depth

-- ---- reading

-- a0 to a6
abbrev pub transfer : List ℕ → Transfer
transfer x = record { options = argument x 0; child = argument x 1; block = argument x 2; source = argument x 3; destination = argument x 4; size = argument x 5; limit = argument x 6 }

-- the call of a kind, with registers that fail no test
abbrev pub call_of : Kind → List ℕ → Call
call_of kinds.Put x = if has tree (argument x 0) then PutTree (argument x 1) (argument x 3) (argument x 4) else Put (transfer x)
call_of kinds.Get x = if has tree (argument x 0) then GetTree (argument x 1) (argument x 3) (argument x 4) else Get (transfer x)
call_of kinds.Ret x = Ret (argument x 0)
call_of kinds.ConsoleOut x = ConsoleOut (argument x 1) (argument x 2)
call_of kinds.ConsoleIn x = ConsoleIn (argument x 1) (argument x 2)
call_of kinds.Clock x = Clock
call_of kinds.Random x = Random
call_of kinds.Fork x = Fork (argument x 1)
call_of kinds.Wait x = Wait (argument x 1)
call_of kinds.Tfork x = Tfork (argument x 1)
call_of kinds.Tjoin x = Tjoin (argument x 1)
call_of kinds.Qstart x = Qstart (argument x 1) (argument x 2) (argument x 3)
call_of kinds.Qcommit x = Qcommit (argument x 1) (argument x 2)
call_of kinds.FileNew x = File (files.New (argument x 1) (argument x 2) (argument x 3 == 1))
call_of kinds.FilePut x = File (files.Put (argument x 1) (argument x 2) (argument x 3) (argument x 4) (argument x 5 == 1))
call_of kinds.FileGet x = File (files.Get (argument x 1) (argument x 2) (argument x 3) (argument x 4) (argument x 5))
call_of kinds.FileLength x = File (files.Length (argument x 1) (argument x 2))
call_of kinds.FileDelete x = File (files.Delete (argument x 1) (argument x 2))

-- the kind of a call
abbrev pub kind_in : Call → Kind
kind_in (Put x) = kinds.Put
kind_in (PutTree child from to) = kinds.Put
kind_in (Get x) = kinds.Get
kind_in (GetTree child from to) = kinds.Get
kind_in (Ret value) = kinds.Ret
kind_in (ConsoleOut addr len) = kinds.ConsoleOut
kind_in (ConsoleIn addr len) = kinds.ConsoleIn
kind_in Clock = kinds.Clock
kind_in Random = kinds.Random
kind_in (Fork child) = kinds.Fork
kind_in (Wait child) = kinds.Wait
kind_in (Tfork child) = kinds.Tfork
kind_in (Tjoin child) = kinds.Tjoin
kind_in (Qstart first count quantum) = kinds.Qstart
kind_in (Qcommit first count) = kinds.Qcommit
kind_in (File (files.New name n append)) = kinds.FileNew
kind_in (File (files.Put name n addr len add)) = kinds.FilePut
kind_in (File (files.Get name n addr len offset)) = kinds.FileGet
kind_in (File (files.Length name n)) = kinds.FileLength
kind_in (File (files.Delete name n)) = kinds.FileDelete

-- so many numbers from this one on
abbrev pub numbers_from : ℕ → ℕ → List ℕ
numbers_from first zero = []
numbers_from first (suc count) = first ∷ numbers_from (first + 1) count

-- the numbers of children, and with Tree of a child's child, that a call names
abbrev pub children_in : Call → List ℕ
children_in (Put x) = x.child ∷ []
children_in (PutTree child from to) = child ∷ from ∷ to ∷ []
children_in (Get x) = x.child ∷ []
children_in (GetTree child from to) = child ∷ from ∷ to ∷ []
children_in (Fork child) = child ∷ []
children_in (Wait child) = child ∷ []
children_in (Tfork child) = child ∷ []
children_in (Tjoin child) = child ∷ []
children_in (Qstart first count quantum) = numbers_from first count
children_in (Qcommit first count) = numbers_from first count
children_in k = []

-- Put and Get with Tree
abbrev pub is_tree : Call → Bool
is_tree (PutTree child from to) = true
is_tree (GetTree child from to) = true
is_tree k = false

-- the deepest level below its caller at which a call makes a space
abbrev pub levels_in : Call → ℕ
levels_in k = let r = row (kind_in k) in if is_tree k then r.tree_levels else r.levels

-- the call, or the number of the first test that fails
abbrev pub unless_failed : Option ℕ → Call → Result Call Badcall
unless_failed None call = Ok call
unless_failed (Some n) call = Err (record { 0 = n })

-- the same of what a7 says; test 1 is that it is the number of a kind
abbrev pub read_as : Option Kind → List ℕ → Bool → ℕ → Result Call Badcall
read_as None x root depth = Err (record { 0 = 1 })
read_as (Some kind) x root depth = unless_failed (first_failing kind x root depth) (call_of kind x)

-- what registers say, at the root or below it, at this depth
abbrev pub read : List ℕ → Bool → ℕ → Result Call Badcall
read x root depth = read_as (kind_of (argument x 7)) x root depth
