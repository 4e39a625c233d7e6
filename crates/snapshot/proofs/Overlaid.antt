-- Pages that are overlaid one after the other.
use Rattle.std.specs.Prelude.{◌≡◌, ℕ, ◌+◌, ◌-◌, ◌*◌, ◌≤◌, if◌then◌else◌}
use Rattle.std.proofs.Common.{sym, ◌∙◌, ap, arith, inl, inr, refl, subst}
use Rattle.std.proofs.lemmas.Bool.{cases_eq, cases_lt}
use Rattle.memory_model.specs.Memory.{Memory, byte_at, same_memory}
use Rattle.merge_model.specs.Merge.{is_changed, with_merge}
use Rattle.merge_model.proofs.Merges.{byte_at-with_merge, byte_at-with_merge_out}
use Rattle.space_mem.specs.Held.{Held, IsClean, IsOutside, Owns, SamePage}
use Rattle.snapshot.specs.Pages.{IsMerged, IsNextChanged, IsPassedOver, OwnsChanged, SameBytes}
use Rattle.snapshot.proofs.Lists.{page_of_row}
use Rattle.snapshot.proofs.Merged.{unchanged_byte}

-- no page is overlaid yet
pub none_overlaid : (s c p : Memory) (first from : ℕ) → from ≡ first → p ≡ with_merge s c p first (from - first)
none_overlaid s c p first from is = same_memory p (with_merge s c p first (from - first))
    (λ a. sym (byte_at-with_merge_out s c p first (from - first) a (elim (cases_lt a (4096 * first)) [
      | inl below ↦ inl below
      | inr above ↦ inr (omega (arith, is))
    ])))
    (λ q. refl)

-- pages that follow are not changed
pub none_more : (s c p : Memory) (first low far : ℕ) → first ≤ low → low ≤ far → SameBytes c s low far → with_merge s c p first (low - first) ≡ with_merge s c p first (far - first)
none_more s c p first low far from le same = same_memory (with_merge s c p first (low - first)) (with_merge s c p first (far - first))
    (λ a. elim (cases_lt a (4096 * first)) [
      | inl below ↦ byte_at-with_merge_out s c p first (low - first) a (inl below) ∙ sym (byte_at-with_merge_out s c p first (far - first) a (inl below))
      | inr above ↦ elim (cases_lt a (4096 * low)) [
        | inl here ↦ byte_at-with_merge s c p first (low - first) a above (omega arith) ∙ sym (byte_at-with_merge s c p first (far - first) a above (omega arith))
        | inr past ↦ elim (cases_lt a (4096 * far)) [
          | inl between ↦
              byte_at-with_merge_out s c p first (low - first) a (inr (omega arith)) ∙ sym (unchanged_byte s c p a (same a past between))
              ∙ sym (byte_at-with_merge s c p first (far - first) a above (omega arith))
          | inr after ↦ byte_at-with_merge_out s c p first (low - first) a (inr (omega arith)) ∙ sym (byte_at-with_merge_out s c p first (far - first) a (inr (omega arith)))
        ]
      ]
    ])
    (λ q. refl)

-- one more page is overlaid
pub one_more : (s c p : Memory) (first page : ℕ) → first ≤ page → with_merge s c (with_merge s c p first (page - first)) page 1 ≡ with_merge s c p first (page + 1 - first)
one_more s c p first page from =
    let now = with_merge s c p first (page - first) in
    same_memory (with_merge s c now page 1) (with_merge s c p first (page + 1 - first))
    (λ a. elim (cases_lt a (4096 * page)) [
      | inl low ↦ byte_at-with_merge_out s c now page 1 a (inl low) ∙ elim (cases_lt a (4096 * first)) [
        | inl below ↦ byte_at-with_merge_out s c p first (page - first) a (inl below) ∙ sym (byte_at-with_merge_out s c p first (page + 1 - first) a (inl below))
        | inr above ↦ byte_at-with_merge s c p first (page - first) a above (omega arith) ∙ sym (byte_at-with_merge s c p first (page + 1 - first) a above (omega arith))
      ]
      | inr high ↦
          let kept : byte_at now a ≡ byte_at p a = byte_at-with_merge_out s c p first (page - first) a (inr (omega arith)) in
          elim (cases_lt a (4096 * (page + 1))) [
            | inl here ↦
                byte_at-with_merge s c now page 1 a high here ∙ ap (λ v. if is_changed s c a then byte_at c a else v) kept
                ∙ sym (byte_at-with_merge s c p first (page + 1 - first) a (omega arith) (omega arith))
            | inr after ↦ byte_at-with_merge_out s c now page 1 a (inr after) ∙ kept ∙ sym (byte_at-with_merge_out s c p first (page + 1 - first) a (inr (omega arith)))
          ]
    ])
    (λ q. refl)

-- what a walk has overlaid, and goes on to do
pub overlaid_turn : (s c p now new : Memory) (first from page : ℕ) → first ≤ from → from ≤ page → SameBytes c s from page → now ≡ with_merge s c p first (from - first) → new ≡ with_merge s c now page 1 → new ≡ with_merge s c p first (page + 1 - first)
overlaid_turn s c p now new first from page low le same before step =
    step ∙ ap (λ m. with_merge s c m page 1) (before ∙ none_more s c p first from page low le same) ∙ one_more s c p first page (omega arith)

-- at its end
pub overlaid_all : (s c p now : Memory) (first from count : ℕ) → first ≤ from → from ≤ first + count → SameBytes c s from (first + count) → now ≡ with_merge s c p first (from - first) → now ≡ with_merge s c p first count
overlaid_all s c p now first from count low le same before =
    let n : first + count - first ≡ count = omega arith in
    before ∙ none_more s c p first from (first + count) low le same ∙ ap (with_merge s c p first) n

-- ---- what two cursors find is of their memories

pub changed_of : (child snapshot h s : Held) (from end page : ℕ) → child ≡ h → snapshot ≡ s → IsNextChanged child snapshot.memory from end page → IsNextChanged h s.memory from end page
changed_of child snapshot h s from end page of_child of_snapshot next = subst (λ (k : Held). IsNextChanged k s.memory from end page) of_child (subst (λ (k : Held). IsNextChanged child k.memory from end page) of_snapshot next)

pub same_of : (child snapshot h s : Held) (from end : ℕ) → child ≡ h → snapshot ≡ s → SameBytes child.memory snapshot.memory from end → SameBytes h.memory s.memory from end
same_of child snapshot h s from end of_child of_snapshot same = subst (λ (k : Held). SameBytes k.memory s.memory from end) of_child (subst (λ (k : Held). SameBytes child.memory k.memory from end) of_snapshot same)

-- ---- pages that are owned

pub owned_none : (c : Memory) (s : Memory) (p : Held) (first : ℕ) → OwnsChanged c s p first first
owned_none c s p first page low high = absurd (omega arith)

-- those that were, and one more
pub owned_turn : (c : Memory) (s : Memory) (p q : Held) (first from page : ℕ) → OwnsChanged c s p first from → SameBytes c s from page → ((n : ℕ) → Owns p n → Owns q n) → Owns q page → OwnsChanged c s q first (page + 1)
owned_turn c s p q first from page before same stays here n low high = elim (cases_lt n from) [
  | inl below ↦ elim (before n low below) [ inl equal ↦ inl equal | inr owns ↦ inr (stays n owns) ]
  | inr above ↦ elim (cases_eq n page) [
    | inl is ↦ inr (subst (Owns q) (sym is) here)
    | inr other ↦ inl (page_of_row c s n (λ a from to. same a (omega (arith, other)) (omega (arith, other))))
  ]
]

-- and none of those that follow is changed
pub owned_rest : (c : Memory) (s : Memory) (p : Held) (first from end : ℕ) → OwnsChanged c s p first from → SameBytes c s from end → OwnsChanged c s p first end
owned_rest c s p first from end before same n low high = elim (cases_lt n from) [
  | inl below ↦ before n low below
  | inr above ↦ inl (page_of_row c s n (λ a from to. same a (omega arith) (omega arith)))
]

-- a page that is changed is owned
pub owns_changed : (c : Held) (s : Memory) (p : Held) (first from end page : ℕ) → OwnsChanged c.memory s p first end → first ≤ from → IsMerged c s from end page → Owns p page
owns_changed c s p first from end page owned low changed = elim (owned page (omega (arith, changed.above)) changed.below) [
  | inl equal ↦ absurd (changed.differs equal)
  | inr owns ↦ owns
]

-- it is none that is passed over
pub not_passed : (c : Held) (s : Memory) (first from end page other : ℕ) → first ≤ from → IsMerged c s from end page → IsPassedOver c s first end other → other ≡ page → ⊥
not_passed c s first from end page other low changed (inl outside) is = elim outside [
  | inl below ↦ omega (arith, changed.above)
  | inr past ↦ omega (arith, changed.below)
]
not_passed c s first from end page other low changed (inr (inl clean)) is = changed.dirty (subst (IsClean c) is clean)
not_passed c s first from end page other low changed (inr (inr equal)) is = changed.differs (subst (SamePage c.memory s) is equal)

-- and it is no other
pub is_outside : (page other : ℕ) → (other ≡ page → ⊥) → IsOutside page (page + 1) other
is_outside page other differs = elim (cases_lt other page) [ inl below ↦ inl below | inr above ↦ inr (omega (arith, differs)) ]
