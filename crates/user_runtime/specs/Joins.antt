-- What a join of a thread does, with the conflict in the shared pages and their merge as definitions that do not unfold by themselves: they
-- would be computed address by address.
-- Our choice: a restatement for proofs.
use Rattle.std.specs.Prelude.{◌≡◌, ℕ, false, Option, Some, None, option_map}
use Rattle.memory_model.specs.Memory.{Memory}
use Rattle.merge_model.specs.Merge.{first_conflict, with_merge}
use Rattle.call_model.specs.declared.Call.{Call}
use Rattle.space_model.specs.declared.Cause.TheVariants.{Conflict}
use Rattle.space_model.specs.declared.Refusal.{Refusal}
use Rattle.space_model.specs.Space.{Space, Top, top_of, children_of}
use Rattle.space_model.specs.Change.{after_payment, after_success, stop}
use Rattle.space_model.specs.Meeting.{meet, test_refusal}
use Rattle.space_model.specs.Part.{Part}
use Rattle.space_model.specs.Runtime.{shared_pages, with_stop}

-- the pages that threads share, by the first and their number
unfoldable pub IsShared : ℕ → ℕ → Type 0
IsShared first count = (first ≡ 0) × (count ≡ shared_pages)

-- a conflict at an address, where there is one
abbrev pub conflict_at : Option ℕ → Option Refusal
conflict_at o = option_map (λ a. record { cause = Conflict; value = a }) o

-- the least conflict in the shared pages
unfoldable pub shared_conflict : Memory → Memory → Memory → Option Refusal
shared_conflict snapshot child parent = conflict_at (first_conflict false snapshot child parent 0 shared_pages)

-- a parent with what the child changed in the shared pages
unfoldable pub shared_merge : Memory → Memory → Memory → Memory
shared_merge snapshot child parent = with_merge snapshot child parent 0 shared_pages

-- what stops a join, by the child's snapshot
abbrev pub join_refusal : Option Memory → Memory → Memory → Option Refusal
join_refusal None child parent = test_refusal 5
join_refusal (Some snapshot) child parent = shared_conflict snapshot child parent

-- the memory after a join that nothing stops
abbrev pub join_memory : Option Memory → Memory → Memory → Memory
join_memory None child parent = parent
join_memory (Some snapshot) child parent = shared_merge snapshot child parent

-- the caller with that memory, or as it was where something stops it
abbrev pub with_merge_unless : Option Refusal → Top → Part
with_merge_unless None c t = record t { memory = join_memory c.snapshot c.memory t.memory }
with_merge_unless (Some r) c t = t

-- the caller after a join which it has not paid for yet, by what stops it
abbrev pub with_join_unless : Option Refusal → Top → Part
with_join_unless None c t = after_success (after_payment t (with_stop c.status (record t { memory = join_memory c.snapshot c.memory t.memory })))
with_join_unless (Some r) c t = stop (after_payment t t) r.cause r.value

abbrev pub with_join : Top → Part
with_join c t = with_join_unless (join_refusal c.snapshot c.memory t.memory) c t

-- the space after a call, with so many levels left below it, of a caller that has not paid yet
unfoldable pub after_call : ℕ → Call → Space → Space
after_call levels k s = meet levels k (after_payment (top_of s) (top_of s)) (children_of s)
