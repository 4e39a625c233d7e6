-- The tests of a caller that has not paid yet are those of one that has.
use Rattle.std.proofs.Common.{◌≡◌, ℕ, [], ◌∷◌, Option, Some, None, refl, sym, ◌∙◌, ap}
use Rattle.std.specs.Prelude.{option_map}
use Rattle.memory_model.specs.Memory.{may_read, may_write}
use Rattle.call_model.specs.declared.Transfer.{Transfer}
use Rattle.call_model.specs.declared.Call.{Call}
use Rattle.call_model.specs.declared.Call.TheVariants.{Put, PutTree, Get, GetTree}
use Rattle.call_model.specs.Options.{has, merging}
use Rattle.space_model.specs.declared.Refusal.{Refusal}
use Rattle.space_model.specs.declared.Cause.TheVariants.{LoadFault, StoreFault}
use Rattle.space_model.specs.Space.{Space, space, Children, Top, top_of, children_of, find}
use Rattle.space_model.specs.Change.{after_payment}
use Rattle.space_model.specs.Meeting.{or_fresh, block_refusal, snapshot_refusal, height_refusal, refusal_if}
use Rattle.space_model.specs.Refusals.{first_refusal}
use Rattle.put_get.specs.Meetings.{snapshot_in, early_get, early_of}

-- a call with one test is stopped by that test
one_test : (o : Option Refusal) → o ≡ first_refusal (o ∷ [])
one_test None = refl
one_test (Some r) = refl

put_block : (levels : ℕ) (x : Transfer) (s : Space) → block_refusal x LoadFault (may_read (top_of s).memory) ≡ early_of levels (Put x) s
unfolding early_of
put_block levels x s = one_test (block_refusal x LoadFault (may_read (top_of s).memory))

pub put_test : (levels : ℕ) (x : Transfer) (k : Call) (t : Top) (cs : Children) (s : Space) → space t cs ≡ s → Put x ≡ k → block_refusal x LoadFault (may_read t.memory) ≡ early_of levels k s
put_test levels x k t cs s view is = put_block levels x (space t cs) ∙ ap (λ l. early_of levels l (space t cs)) is ∙ ap (early_of levels k) view

put_height : (levels n from to : ℕ) (s : Space) → height_refusal levels (find from (children_of s)) ≡ early_of levels (PutTree n from to) s
unfolding early_of
put_height levels n from to s = one_test (height_refusal levels (find from (children_of s)))

pub put_tree_test : (levels n from to : ℕ) (k : Call) (t : Top) (cs : Children) (s : Space) → space t cs ≡ s → PutTree n from to ≡ k → height_refusal levels (find from cs) ≡ early_of levels k s
put_tree_test levels n from to k t cs s view is = put_height levels n from to (space t cs) ∙ ap (λ l. early_of levels l (space t cs)) is ∙ ap (early_of levels k) view

pub get_tree_test : (levels n from to : ℕ) (s : Space) (k : Call) → k ≡ GetTree n from to → None ≡ early_of levels k s
unfolding early_of
get_tree_test levels n from to s k is = ap (λ l. early_of levels l s) (sym is)

-- the snapshot of a child that is there, or of a fresh one
snapshot_seen : (t : Top) (o : Option Space) → snapshot_in o ≡ (or_fresh t (option_map top_of o)).snapshot
snapshot_seen t None = refl
snapshot_seen t (Some s) = refl

pub get_test : (levels : ℕ) (x : Transfer) (s : Space) (k : Call) → k ≡ Get x → early_get x s ≡ early_of levels k s
unfolding early_of
get_test levels x s k is =
    let t = top_of s in
    ap (λ o. first_refusal (refusal_if (has merging x.options) (snapshot_refusal o) ∷ block_refusal x StoreFault (may_write t.memory) ∷ [])) (snapshot_seen (after_payment t t) (find x.child (children_of s)))
    ∙ ap (λ l. early_of levels l s) (sym is)
