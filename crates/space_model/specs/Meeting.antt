-- What calls that meet children do once the children that they wait for are ready (OSDI 2010, "Efficient System-Enforced Deterministic
-- Parallelism", the section on the kernel interface). A meeting is its tests, in their order, and what it does where none of them stops the
-- caller; so all tests come before any change.
-- Source: OSDI 2010, "Efficient System-Enforced Deterministic Parallelism", the kernel interface: the options of Put and Get, Tree among them, and
-- that a byte which both sides changed stops the merging space.
-- Our choice: the order of the tests and of the parts, that all tests come before any change, and that Tree is a copy.
use Rattle.std.specs.Prelude.{◌≡◌, ℕ, zero, suc, ◌+◌, List, [], ◌∷◌, Option, Some, None, option_map, Bool, true, false, if◌then◌else◌, ◌≤◌, nat_lt}
use Rattle.memory_model.specs.Memory.{Memory, may_read, may_write}
use Rattle.merge_model.specs.Merge.{first_conflict}
use Rattle.call_model.specs.declared.Transfer.{Transfer}
use Rattle.call_model.specs.declared.Call.{Call}
use Rattle.call_model.specs.declared.Call.TheVariants.{Put, PutTree, Get, GetTree, Fork, Wait, Tfork, Tjoin, Qstart, Qcommit}
use Rattle.call_model.specs.Limits.{AreChildren, block_size}
use Rattle.call_model.specs.Calls.{meets_children, kind_in, children_in, levels_in}
use Rattle.call_model.specs.Options.{has, regs, merging, agreeing}
use Rattle.space_model.specs.declared.Cause.{Cause}
use Rattle.space_model.specs.declared.Cause.TheVariants.{LoadFault, StoreFault, Badcall, Conflict}
use Rattle.space_model.specs.declared.Refusal.{Refusal}
use Rattle.space_model.specs.Space.{Space, space, Children, Top, top_of, find, height}
use Rattle.space_model.specs.Change.{stop, after_success}
use Rattle.space_model.specs.Refusals.{first_refusal, access_refusal}
use Rattle.space_model.specs.Beginning.{fresh_top}
use Rattle.space_model.specs.Part.{child_after, caller_after, destination_page, page_count}
use Rattle.space_model.specs.Runtime.{shared_pages, after_fork, after_thread_fork, after_join, after_wait}
use Rattle.space_model.specs.Quanta.{start_meeting, commit_meeting}
use Rattle.space_model.specs.declared.Await.{Await}
use Rattle.space_model.specs.declared.Reach.TheVariants.{Itself, Whole}
use Rattle.space_model.specs.Call.{Seen, change, place, take_away, copy_to, edit, Meeting, seen_of, first_top, first_space, second_space, below, apply_meeting}

-- a missing child of a caller is read as a fresh one, with the fuel that every space had at first
abbrev pub or_fresh : Top → Option Top → Top
or_fresh t None = fresh_top (t.fuel + t.used)
or_fresh t (Some c) = c

-- the same of a child with all below it
abbrev pub space_or_fresh : Top → Option Space → Space
space_or_fresh t o = space (or_fresh t (option_map top_of o)) (below o)

abbrev pub itself : ℕ → Await
itself n = record { number = n; reach = Itself }

abbrev pub whole : ℕ → Await
whole n = record { number = n; reach = Whole }

-- so many children from this number on, each itself
abbrev pub in_row : ℕ → ℕ → List Await
in_row first zero = []
in_row first (suc count) = itself first ∷ in_row (first + 1) count

-- the children that a call waits for, in this order
abbrev pub awaits : Call → List Await
awaits (Put x) = itself x.child ∷ []
awaits (PutTree child from to) = whole child ∷ whole from ∷ []
awaits (Get x) = itself x.child ∷ []
awaits (GetTree child from to) = whole child ∷ whole to ∷ []
awaits (Fork child) = itself child ∷ []
awaits (Wait child) = whole child ∷ []
awaits (Tfork child) = itself child ∷ []
awaits (Tjoin child) = itself child ∷ []
awaits (Qstart first count quantum) = in_row first count
awaits (Qcommit first count) = in_row first count
awaits k = []

-- with Regs, the least address of the register block that lacks a right
abbrev pub block_refusal : Transfer → Cause → (ℕ → Bool) → Option Refusal
block_refusal x cause right = if has regs x.options then access_refusal cause right x.block block_size else None

-- the call fails the test of this number, one of those that stand behind the tests on registers
abbrev pub test_refusal : ℕ → Option Refusal
test_refusal n = Some (record { cause = Badcall; value = n })

-- test 5: the child has no snapshot
abbrev pub snapshot_refusal : Option Memory → Option Refusal
snapshot_refusal None = test_refusal 5
snapshot_refusal (Some snapshot) = None

-- test 8 of a space that is copied to a child's child, of a caller with so many levels left below it: the copy would be deeper than the deepest
abbrev pub height_refusal : ℕ → Option Space → Option Refusal
height_refusal levels None = None
height_refusal levels (Some s) = if nat_lt levels (2 + height s) then test_refusal 8 else None

-- the least address of a range at which both sides have changed the byte since the snapshot; where equal new values agree, to different ones
abbrev pub conflict_refusal : Bool → Option Memory → Memory → Memory → ℕ → ℕ → Option Refusal
conflict_refusal agree None child parent first count = None
conflict_refusal agree (Some snapshot) child parent first count = option_map (λ a. record { cause = Conflict; value = a }) (first_conflict agree snapshot child parent first count)

-- a test where an option asks for it
abbrev pub refusal_if : Bool → Option Refusal → Option Refusal
refusal_if asked refusal = if asked then refusal else None

-- the tests of a Get of a child
abbrev pub get_refusals : Transfer → Top → Top → List (Option Refusal)
get_refusals x t c =
    refusal_if (has merging x.options) (snapshot_refusal c.snapshot)
    ∷ block_refusal x StoreFault (may_write t.memory)
    ∷ refusal_if (has merging x.options) (conflict_refusal (has agreeing x.options) c.snapshot c.memory t.memory (destination_page x) (page_count x))
    ∷ []

-- the tests of a join of a thread, to which equal new values are in conflict
abbrev pub join_refusals : Top → Top → List (Option Refusal)
join_refusals t c = snapshot_refusal c.snapshot ∷ conflict_refusal false c.snapshot c.memory t.memory 0 shared_pages ∷ []

-- the tests of a call in their order, each with what it stops the caller for, where it does; of a caller with so many levels of children
-- left below it, by what it sees of the children that it waits for
abbrev pub refusals : ℕ → Call → Top → List Seen → List (Option Refusal)
refusals levels (Put x) t seen = block_refusal x LoadFault (may_read t.memory) ∷ []
refusals levels (PutTree child from to) t seen = height_refusal levels (second_space seen) ∷ []
refusals levels (Get x) t seen = get_refusals x t (or_fresh t (first_top seen))
refusals levels (Tjoin child) t seen = join_refusals t (or_fresh t (first_top seen))
refusals levels k t seen = []

-- a child's child becomes a copy of a space, or goes
abbrev pub with_copy : ℕ → Option Space → Space → Space
with_copy n o (space t cs) = space t (edit (copy_to n o) cs)

-- what a call does that no test stops, in the order of its parts
abbrev pub action : Call → Top → List Seen → Meeting
action (Put x) t seen = record { caller = after_success t; edits = change x.child (child_after x t (or_fresh t (first_top seen))) ∷ [] }
action (PutTree child from to) t seen = record { caller = after_success t; edits = place child (with_copy to (second_space seen) (space_or_fresh t (first_space seen))) ∷ [] }
action (Get x) t seen = record { caller = after_success (caller_after x (or_fresh t (first_top seen)) t); edits = [] }
action (GetTree child from to) t seen = record { caller = after_success t; edits = copy_to to (find from (below (first_space seen))) ∷ [] }
action (Fork child) t seen = record { caller = after_success t; edits = change child (after_fork t (or_fresh t (first_top seen))) ∷ [] }
action (Wait child) t seen = record { caller = after_success (after_wait (or_fresh t (first_top seen)) t); edits = take_away child ∷ [] }
action (Tfork child) t seen = record { caller = after_success t; edits = change child (after_thread_fork t (or_fresh t (first_top seen))) ∷ [] }
action (Tjoin child) t seen = record { caller = after_success (after_join (or_fresh t (first_top seen)) t); edits = [] }
action (Qstart first count quantum) t seen = start_meeting first quantum t seen
action (Qcommit first count) t seen = commit_meeting first t seen
action k t seen = record { caller = t; edits = [] }

-- the caller stops, and nothing else changes; or the call acts
abbrev pub unless_refused : Option Refusal → Top → Meeting → Meeting
unless_refused None t acts = acts
unless_refused (Some r) t acts = record { caller = stop t r.cause r.value; edits = [] }

-- what a call does, of a caller that has paid for it, with so many levels of children left below the caller
abbrev pub meeting : ℕ → Call → Top → List Seen → Meeting
meeting levels k t seen = unless_refused (first_refusal (refusals levels k t seen)) t (action k t seen)

-- the space after a call, once the children that it waits for are ready
abbrev pub meet : ℕ → Call → Top → Children → Space
meet levels k t cs = apply_meeting (meeting levels k t (seen_of (awaits k) cs)) cs

-- a call that may meet children, with so many levels of children left below its caller: its kind meets some, it makes no space below the
-- last level, and what it names as a child has a number that fits
pub record MayMeet (levels : ℕ) (k : Call) : Type 0 where
  pub meets : meets_children (kind_in k) ≡ true
  pub below : levels_in k ≤ levels
  pub children : AreChildren (children_in k)
