-- A meeting of a space that has not paid for its Put or Get yet, and the conflict that a merge finds while it is done.
-- Our choice: a restatement for proofs.
use Rattle.std.specs.Prelude.{◌≡◌, ℕ, List, [], ◌∷◌, Option, Some, None}
use Rattle.memory_model.specs.Memory.{Memory, may_write}
use Rattle.call_model.specs.declared.Transfer.{Transfer}
use Rattle.call_model.specs.declared.Call.{Call}
use Rattle.call_model.specs.declared.Call.TheVariants.{Put, PutTree, Get, GetTree}
use Rattle.call_model.specs.Options.{has, merging, agreeing}
use Rattle.space_model.specs.declared.Cause.TheVariants.{StoreFault, Conflict}
use Rattle.space_model.specs.declared.Refusal.{Refusal}
use Rattle.space_model.specs.Space.{Space, space, Top, top_of, children_of, find}
use Rattle.space_model.specs.Change.{stop, after_payment}
use Rattle.space_model.specs.Call.{Seen, first_top, seen_of}
use Rattle.space_model.specs.Part.{destination_page, page_count}
use Rattle.space_model.specs.Meeting.{awaits, or_fresh, block_refusal, snapshot_refusal, conflict_refusal, refusal_if, refusals}
use Rattle.space_model.specs.Caller.{with_action}
use Rattle.space_model.specs.Refusals.{first_refusal}
use Rattle.snapshot.specs.declared.fault.MergeError.{MergeError}
use Rattle.snapshot.specs.declared.fault.MergeError.TheVariants as faults

-- the conflict that stops a Get of a child
abbrev pub get_conflict : Transfer → Top → Top → Option Refusal
get_conflict x t c = refusal_if (has merging x.options) (conflict_refusal (has agreeing x.options) c.snapshot c.memory t.memory (destination_page x) (page_count x))

-- the snapshot of a child, where it is there and has one
abbrev pub snapshot_in : Option Space → Option Memory
snapshot_in None = None
snapshot_in (Some s) = let t = top_of s in t.snapshot

-- the tests of a Get before the conflict
abbrev pub early_get : Transfer → Space → Option Refusal
early_get x s =
    first_refusal (refusal_if (has merging x.options) (snapshot_refusal (snapshot_in (find x.child (children_of s)))) ∷ (let t = top_of s in block_refusal x StoreFault (may_write t.memory)) ∷ [])

-- the last test of Get: the conflict
abbrev pub last_refusal : Call → Top → List Seen → Option Refusal
last_refusal (Get x) t seen = get_conflict x t (or_fresh t (first_top seen))
last_refusal k t seen = None

-- the tests of Put or Get before the conflict
abbrev pub early_refusals : ℕ → Call → Top → List Seen → List (Option Refusal)
early_refusals levels (Get x) t seen = let c = or_fresh t (first_top seen) in refusal_if (has merging x.options) (snapshot_refusal c.snapshot) ∷ block_refusal x StoreFault (may_write t.memory) ∷ []
early_refusals levels k t seen = refusals levels k t seen

-- the first of the early tests that stops a space, with so many levels of children left below it
unfoldable pub early_of : ℕ → Call → Space → Option Refusal
early_of levels k s = first_refusal (early_refusals levels k (after_payment (top_of s) (top_of s)) (seen_of (awaits k) (children_of s)))

-- the conflict that stops it
unfoldable pub conflict_of : Call → Space → Option Refusal
conflict_of k s = last_refusal k (after_payment (top_of s) (top_of s)) (seen_of (awaits k) (children_of s))

-- the space after a call that no test but the conflict stops
abbrev pub unless_conflict : Option Refusal → Call → Space → Space
unless_conflict None k s = with_action k s
unless_conflict (Some r) k s = let p = after_payment (top_of s) (top_of s) in space (stop p r.cause r.value) (children_of s)

unfoldable pub acts_or_stops : Call → Space → Space
acts_or_stops k s = unless_conflict (conflict_of k s) k s

-- a call that was not done found this conflict, or no memory
abbrev pub MayStop : Option Refusal → MergeError → Type 0
MayStop o (faults.Conflict addr) = o ≡ Some (record { cause = Conflict; value = addr })
MayStop o faults.Memory = Unit {0}

-- Put and Get, with Tree or without
abbrev pub IsPutOrGet : Call → Type 0
IsPutOrGet (Put x) = Unit {0}
IsPutOrGet (PutTree child from to) = Unit {0}
IsPutOrGet (Get x) = Unit {0}
IsPutOrGet (GetTree child from to) = Unit {0}
IsPutOrGet k = ⊥
