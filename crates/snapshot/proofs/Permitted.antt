-- A merge into a memory whose permissions have changed.
use Rattle.std.specs.Prelude.{◌≡◌, ℕ, ◌+◌, ◌==◌, Bool, not, ◌&&◌, suc, zero}
use Rattle.std.proofs.Common.{refl, ◌∙◌, ap, subst}
use Rattle.memory_model.specs.Memory.{Memory, byte_at, with_permission, with_permissions}
use Rattle.memory_model.proofs.Runs.{byte_at-with_permissions}
use Rattle.merge_model.specs.Merge.{is_changed, with_merge}
use Rattle.snapshot.specs.Pages.{NoneInConflict}

-- permissions pass a merge
merged_permitted : (s c p : Memory) (first count page n right : ℕ) → with_merge s c (with_permissions p page n right) first count ≡ with_permissions (with_merge s c p first count) page n right
merged_permitted s c p first count page zero right = refl
merged_permitted s c p first count page (suc n) right = merged_permitted s c (with_permission p page right) first count (page + 1) n right

-- and conflicts
pub none_permitted : (agree : Bool) (s c p q : Memory) (from to page n right : ℕ) → q ≡ with_permissions p page n right → NoneInConflict agree s c p from to → NoneInConflict agree s c q from to
none_permitted agree s c p q from to page n right is none a above below =
    ap (λ v. is_changed s c a && not (v == byte_at s a) && not (agree && byte_at c a == v)) (ap (λ m. byte_at m a) is ∙ byte_at-with_permissions p page n right a) ∙ none a above below

-- memories that are as they were
pub none_was : (agree : Bool) (s c d p q : Memory) (from to : ℕ) → d ≡ c → q ≡ p → NoneInConflict agree s d q from to → NoneInConflict agree s c p from to
none_was agree s c d p q from to child parent none = subst (λ m. NoneInConflict agree s c m from to) parent (subst (λ m. NoneInConflict agree s m q from to) child none)

-- permissions, and then a merge
pub permitted_then : (s c d p o q made : Memory) (first count right : ℕ) → d ≡ c → o ≡ p → q ≡ with_permissions o first count right → made ≡ with_merge s d q first count → made ≡ with_permissions (with_merge s c p first count) first count right
permitted_then s c d p o q made first count right child parent is merged =
    merged ∙ ap (λ m. with_merge s d m first count) is ∙ merged_permitted s d o first count first count right
    ∙ ap (λ m. with_permissions (with_merge s m o first count) first count right) child ∙ ap (λ m. with_permissions (with_merge s c m first count) first count right) parent
