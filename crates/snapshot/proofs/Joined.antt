-- A merge as a whole: pages that are taken over, or merged, and then others.
use Rattle.std.specs.Prelude.{◌≡◌, ℕ, ◌+◌, ◌*◌, ◌<◌, ◌≤◌, List, All}
use Rattle.std.proofs.Common.{◌∙◌, ap, get_or, refl, subst}
use Rattle.std.proofs.lemmas.List.Elements.{All-weaker}
use Rattle.memory_model.specs.Memory.{Memory, byte_at, with_permissions}
use Rattle.memory_model.proofs.Runs.{byte_at-with_permissions}
use Rattle.merge_model.specs.Merge.{with_merge}
use Rattle.space_mem.specs.Held.{Held}
use Rattle.space_mem.specs.Taken.{IsTakenOver}
use Rattle.snapshot.specs.declared.changes.Found.{Found}
use Rattle.snapshot.specs.Pages.{HasMerged, IsMixed, IsSorted, IsTaken}
use Rattle.snapshot.proofs.Merged.{merged_all, taken_merged}
use Rattle.snapshot.proofs.Permitted.{permitted_then}

-- pages of which the parent has the snapshot's bytes, and takes the child's, are merged
taken_all : (parent child : Held) (s c m : Memory) (first end : ℕ) (each : List ℕ) → All (IsTaken parent child s first end) each → IsTakenOver parent.memory c each m → HasMerged s c parent.memory each m
taken_all parent child s c m first end each all taken = record {
  permission = taken.permission;
  here = λ k d low. taken_merged s c parent.memory m _ (all k d low).same (taken.taken k d low);
  other = taken.other;
}

-- both lists are merged
both : (parent child : Held) (s q m n : Memory) (first count : ℕ) (found : Found) → IsSorted parent child s first (first + count) (first + count) found → HasMerged s child.memory q found.taken.items m → HasMerged s child.memory m found.merged.items n
    → n ≡ with_merge s child.memory q first count
both parent child s q m n first count found sorted one two =
    merged_all s child.memory q m n first count found.taken.items found.merged.items
    (All-weaker (IsTaken parent child s first (first + count)) (λ p. (first ≤ p) × (p < first + count)) (λ p t. (t.merged.above, t.merged.below)) found.taken.items sorted.taken)
    (All-weaker (IsMixed parent child s first (first + count)) (λ p. (first ≤ p) × (p < first + count)) (λ p t. (t.merged.above, t.merged.below)) found.merged.items sorted.merged)
    sorted.each one two

pub joined : (parent child : Held) (s p c d m n : Memory) (first count : ℕ) (found : Found) (ts ms : List ℕ) → IsSorted parent child s first (first + count) (first + count) found → parent.memory ≡ p → c ≡ child.memory → d ≡ c → ts ≡ found.taken.items → ms ≡ found.merged.items
    → IsTakenOver parent.memory d ts m → HasMerged s d m ms n → n ≡ with_merge s child.memory p first count
joined parent child s p c d m n first count found ts ms sorted is_parent is_child again is_taken is_merged taken merged =
    both parent child s parent.memory m n first count found sorted
    (taken_all parent child s child.memory m first (first + count) found.taken.items sorted.taken (subst (λ xs. IsTakenOver parent.memory child.memory xs m) is_taken (subst (λ o. IsTakenOver parent.memory o ts m) (again ∙ is_child) taken)))
    (subst (λ xs. HasMerged s child.memory m xs n) is_merged (subst (λ o. HasMerged s o m ms n) (again ∙ is_child) merged))
    ∙ ap (λ o. with_merge s child.memory o first count) is_parent

-- the same in a parent that has other permissions
permitted_all : (parent child : Held) (s q c m : Memory) (first end : ℕ) (each : List ℕ) → ((a : ℕ) → byte_at q a ≡ byte_at parent.memory a) → All (IsTaken parent child s first end) each → IsTakenOver q c each m → HasMerged s c q each m
permitted_all parent child s q c m first end each byte all taken = record {
  permission = taken.permission;
  here = λ k d low. taken_merged s c q m (get_or each k d) (λ j below. byte (4096 * get_or each k d + j) ∙ (all k d low).same j below) (taken.taken k d low);
  other = taken.other;
}

pub joined_permitted : (parent child : Held) (s p c d m n : Memory) (first count right : ℕ) (found : Found) (ts ms : List ℕ) → IsSorted parent child s first (first + count) (first + count) found → parent.memory ≡ p → c ≡ child.memory → d ≡ c
    → ts ≡ found.taken.items → ms ≡ found.merged.items → IsTakenOver (with_permissions parent.memory first count right) d ts m → HasMerged s d m ms n → n ≡ with_permissions (with_merge s child.memory p first count) first count right
joined_permitted parent child s p c d m n first count right found ts ms sorted is_parent is_child again is_taken is_merged taken merged =
    let q : Memory = with_permissions parent.memory first count right in
    let is : d ≡ child.memory = again ∙ is_child in
    let one : HasMerged s child.memory q found.taken.items m = permitted_all parent child s q child.memory m first (first + count) found.taken.items (byte_at-with_permissions parent.memory first count right) sorted.taken
    (subst (λ xs. IsTakenOver q child.memory xs m) is_taken (subst (λ o. IsTakenOver q o ts m) is taken)) in
    let two : HasMerged s child.memory m found.merged.items n = subst (λ xs. HasMerged s child.memory m xs n) is_merged (subst (λ o. HasMerged s o m ms n) is merged) in
    permitted_then s child.memory child.memory p parent.memory q n first count right refl is_parent refl (both parent child s q m n first count found sorted one two)
