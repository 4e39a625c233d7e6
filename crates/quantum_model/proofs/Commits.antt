-- The laws of commits.
use Rattle.std.specs.Prelude.{◌≡◌, ℕ, ◌+◌, ◌*◌, ◌<◌, ◌≤◌, Bool, true, false, not, List, [], ◌∷◌, ◌++◌, if◌then◌else◌}
use Rattle.std.proofs.Common.{refl, sym, ◌∙◌, ap, arith, inl, inr}
use Rattle.std.proofs.lemmas.Bool.{cases_lt}
use Rattle.memory_model.specs.Memory.{Memory, byte_at, permission_at}
use Rattle.merge_model.specs.Merge.{is_changed, merged_byte, with_merge}
use Rattle.merge_model.proofs.Merges.{byte_at-with_merge, byte_at-with_merge_out}
use Rattle.space_model.specs.Runtime.{shared_pages}
use Rattle.space_model.specs.Commit.{Written, over, commits, changes, shared_end, NoneChanges}

by_change : (t : Bool) (x y : ℕ) → t ≡ true → (if t then x else y) ≡ x
by_change t x y e = rw e refl

by_none : (t : Bool) (x y : ℕ) → t ≡ false → (if t then x else y) ≡ y
by_none t x y e = rw e refl

over_here : (p : Memory) (w : Written) (a : ℕ) → a < shared_end → byte_at (over p w) a ≡ merged_byte w.snapshot w.memory p a
over_here p w a below = byte_at-with_merge w.snapshot w.memory p 0 shared_pages a (omega arith) (omega arith)

over_beyond : (p : Memory) (w : Written) (a : ℕ) → shared_end ≤ a → byte_at (over p w) a ≡ byte_at p a
over_beyond p w a above = byte_at-with_merge_out w.snapshot w.memory p 0 shared_pages a (inr (omega arith))

over_unchanged : (p : Memory) (w : Written) (a : ℕ) → changes a w ≡ false → byte_at (over p w) a ≡ byte_at p a
over_unchanged p w a none = elim (cases_lt a shared_end) [
  | inl below ↦ over_here p w a below ∙ by_none (is_changed w.snapshot w.memory a) (byte_at w.memory a) (byte_at p a) none
  | inr above ↦ over_beyond p w a above
]

pub unchanged : (p : Memory) (ws : List Written) (a : ℕ) → NoneChanges a ws → byte_at (commits p ws) a ≡ byte_at p a
unchanged p [] a none = refl
unchanged p (w ∷ ws) a none = unchanged (over p w) ws a none.1 ∙ over_unchanged p w a none.0

pub in_parts : (p : Memory) (before after : List Written) → commits p (before ++ after) ≡ commits (commits p before) after
in_parts p [] after = refl
in_parts p (w ∷ before) after = in_parts (over p w) before after

pub last_decides : (p : Memory) (before after : List Written) (w : Written) (a : ℕ) → a < shared_end → changes a w ≡ true → NoneChanges a after → byte_at (commits p (before ++ w ∷ after)) a ≡ byte_at w.memory a
last_decides p before after w a below here none =
    let q = commits p before in
    ap (λ m. byte_at m a) (in_parts p before (w ∷ after)) ∙ unchanged (over q w) after a none
    ∙ over_here q w a below ∙ by_change (is_changed w.snapshot w.memory a) (byte_at w.memory a) (byte_at q a) here

pub beyond : (p : Memory) (ws : List Written) (a : ℕ) → shared_end ≤ a → byte_at (commits p ws) a ≡ byte_at p a
beyond p [] a above = refl
beyond p (w ∷ ws) a above = beyond (over p w) ws a above ∙ over_beyond p w a above

pub same_permissions : (p : Memory) (ws : List Written) (page : ℕ) → permission_at (commits p ws) page ≡ permission_at p page
same_permissions p [] page = refl
same_permissions p (w ∷ ws) page = same_permissions (over p w) ws page
