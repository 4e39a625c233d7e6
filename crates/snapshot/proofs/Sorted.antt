-- Pages that a merge has sorted by what it does with them.
use Rattle.std.specs.Prelude.{◌≡◌, ℕ, ◌+◌, ◌≤◌, ◌<◌, ◌⊎◌, List, [], ◌∷◌, ◌++◌, All, Contains}
use Rattle.std.proofs.Common.{sym, arith, inl, inr, subst, ◌∙◌}
use Rattle.std.proofs.lemmas.Bool.{cases_eq, cases_lt}
use Rattle.std.proofs.lemmas.List.Elements.{All-contains, All-nil, All-push, All-same, All-weaker, Contains-append_left, Contains-push}
use Rattle.memory_model.specs.Memory.{Memory}
use Rattle.space_mem.specs.Held.{Held, IsClean, KeepsMarks, Owns, SamePage}
use Rattle.snapshot.specs.declared.changes.Change.{Change}
use Rattle.snapshot.specs.declared.changes.Change.TheVariants.{Same, Taken, Merged}
use Rattle.snapshot.specs.declared.changes.Found.{Found}
use Rattle.snapshot.specs.Pages.{AreFound, ArePassed, HasChange, IsEqual, IsMixed, IsPassedOver, IsSorted, IsTaken, SameBytes, equal_with, merged_with, taken_with}
use Rattle.snapshot.proofs.Lists.{page_of_row, stands}
use Rattle.snapshot.proofs.Overlaid.{not_passed}
use Rattle.snapshot.proofs.Unmarked.{found_differs, found_equal, found_none, found_passed}

-- nothing is sorted yet
pub sorted_none : (parent child : Held) (s : Memory) (first end : ℕ) (found : Found) → found.taken.items ≡ [] → found.merged.items ≡ [] → found.equal.items ≡ [] → IsSorted parent child s first first end found
sorted_none parent child s first end found taken merged equal = record {
  each = λ q low high. absurd (omega arith);
  taken = All-same (IsTaken parent child s first end) found.taken.items [] taken (All-nil (IsTaken parent child s first end));
  merged = All-same (IsMixed parent child s first end) found.merged.items [] merged (All-nil (IsMixed parent child s first end));
  equal = All-same (IsEqual child.memory s) found.equal.items [] equal (All-nil (IsEqual child.memory s));
  known = found_none child s first found.equal.items;
}

-- pages that are passed over
pub sorted_passed : (parent child : Held) (s : Memory) (first from page end : ℕ) (found : Found) → SameBytes child.memory s from page → ArePassed child from page → IsSorted parent child s first from end found → IsSorted parent child s first page end found
sorted_passed parent child s first from page end found same passed before = record {
  each = λ q low high. elim (cases_lt q from) [
    | inl below ↦ before.each q low below
    | inr here ↦ inl (page_of_row child.memory s q (λ a above below. same a (omega arith) (omega arith)))
  ];
  taken = before.taken;
  merged = before.merged;
  equal = before.equal;
  known = found_passed child s first from page found.equal.items before.known passed;
}

-- one page more
pub sorted_put : (parent child : Held) (s : Memory) (first page end : ℕ) (found new : Found) (change : Change) → first ≤ page → page < end → end ≤ 1048576 → (IsClean child page → ⊥) → HasChange parent child.memory s page change
    → new.taken.items ≡ taken_with change found.taken.items page → new.merged.items ≡ merged_with change found.merged.items page → new.equal.items ≡ equal_with change found.equal.items page
    → IsSorted parent child s first page end found → IsSorted parent child s first (page + 1) end new
sorted_put parent child s first page end found new Same above below within dirty change taken merged equal before = record {
  each = λ q low high. elim (cases_eq q page) [
    | inl same ↦ inl (subst (SamePage child.memory s) (sym same) change)
    | inr other ↦ subst (λ ts. SamePage child.memory s q ⊎ (Contains ts q ⊎ Contains new.merged.items q)) (sym taken) (subst (λ ms. SamePage child.memory s q ⊎ (Contains found.taken.items q ⊎ Contains ms q)) (sym merged) (before.each q low (omega (arith, other))))
  ];
  taken = subst (All (IsTaken parent child s first end)) (sym taken) before.taken;
  merged = subst (All (IsMixed parent child s first end)) (sym merged) before.merged;
  equal = subst (All (IsEqual child.memory s)) (sym equal) (All-push (IsEqual child.memory s) found.equal.items page before.equal (omega arith, change));
  known = subst (AreFound child s first (page + 1)) (sym equal) (found_equal child s first page found.equal.items before.known);
}
sorted_put parent child s first page end found new Taken above below within dirty change taken merged equal before = record {
  each = λ q low high. elim (cases_eq q page) [
    | inl same ↦ inr (inl (subst (λ ts. Contains ts q) (sym taken) (subst (Contains (found.taken.items ++ page ∷ [])) (sym same) (Contains-push found.taken.items page))))
    | inr other ↦ elim (before.each q low (omega (arith, other))) [
      | inl equal ↦ inl equal
      | inr rest ↦ elim rest [
        | inl at ↦ inr (inl (subst (λ ts. Contains ts q) (sym taken) (Contains-append_left found.taken.items (page ∷ []) q at)))
        | inr at ↦ inr (inr (subst (λ ms. Contains ms q) (sym merged) at))
      ]
    ]
  ];
  taken = subst (All (IsTaken parent child s first end)) (sym taken) (All-push (IsTaken parent child s first end) found.taken.items page before.taken
      (record { merged = record { above = above; below = below; dirty = dirty; differs = change.0 }; same = change.1.0; shared = change.1.1 }));
  merged = subst (All (IsMixed parent child s first end)) (sym merged) before.merged;
  equal = subst (All (IsEqual child.memory s)) (sym equal) before.equal;
  known = subst (AreFound child s first (page + 1)) (sym equal) (found_differs child s first page found.equal.items before.known change.0);
}
sorted_put parent child s first page end found new Merged above below within dirty change taken merged equal before = record {
  each = λ q low high. elim (cases_eq q page) [
    | inl same ↦ inr (inr (subst (λ ms. Contains ms q) (sym merged) (subst (Contains (found.merged.items ++ page ∷ [])) (sym same) (Contains-push found.merged.items page))))
    | inr other ↦ elim (before.each q low (omega (arith, other))) [
      | inl equal ↦ inl equal
      | inr rest ↦ elim rest [
        | inl at ↦ inr (inl (subst (λ ts. Contains ts q) (sym taken) at))
        | inr at ↦ inr (inr (subst (λ ms. Contains ms q) (sym merged) (Contains-append_left found.merged.items (page ∷ []) q at)))
      ]
    ]
  ];
  taken = subst (All (IsTaken parent child s first end)) (sym taken) before.taken;
  merged = subst (All (IsMixed parent child s first end)) (sym merged) (All-push (IsMixed parent child s first end) found.merged.items page before.merged
      (record { merged = record { above = above; below = below; dirty = dirty; differs = change.0 }; kept = change.1 }));
  equal = subst (All (IsEqual child.memory s)) (sym equal) before.equal;
  known = subst (AreFound child s first (page + 1)) (sym equal) (found_differs child s first page found.equal.items before.known change.0);
}

-- ---- what is so of the lists

-- no page is both taken over and merged byte by byte
pub apart : (parent child : Held) (s : Memory) (first end page : ℕ) (merged : List ℕ) → IsTaken parent child s first end page → All (IsMixed parent child s first end) merged → All (λ m. page ≡ m → ⊥) merged
apart parent child s first end page merged taken all = All-weaker (IsMixed parent child s first end) (λ m. page ≡ m → ⊥)
    (λ m mixed is. elim mixed.kept [
      | inl owns ↦ taken.shared (subst (Owns parent) (sym is) owns)
      | inr differs ↦ differs (subst (SamePage parent.memory s) is taken.same)
    ]) merged all

-- those that are merged byte by byte are owned then
pub sorted_owned : (parent new child : Held) (s : Memory) (first from end : ℕ) (found : Found) → new.memory ≡ parent.memory → ((p : ℕ) → Owns parent p → Owns new p) → ((p : ℕ) → All (λ own. p ≡ own → ⊥) found.merged.items → KeepsMarks parent new p)
    → IsSorted parent child s first from end found → IsSorted new child s first from end found
sorted_owned parent new child s first from end found memory stays others before = record {
  each = before.each;
  taken = All-weaker (IsTaken parent child s first end) (IsTaken new child s first end)
      (λ p t. record {
        merged = t.merged;
        same = subst (λ m. SamePage m s p) (sym memory) t.same;
        shared = λ owns. t.shared (sym (others p (apart parent child s first end p found.merged.items t before.merged)).owned ∙ owns);
      }) found.taken.items before.taken;
  merged = All-weaker (IsMixed parent child s first end) (IsMixed new child s first end)
      (λ p m. record {
        merged = m.merged;
        kept = elim m.kept [ inl owns ↦ inl (stays p owns) | inr differs ↦ inr (λ same. differs (subst (λ o. SamePage o s p) memory same)) ];
      }) found.merged.items before.merged;
  equal = before.equal;
  known = before.known;
}

pub taken_below : (parent child : Held) (s : Memory) (first end : ℕ) (ps : List ℕ) → end ≤ 1048576 → All (IsTaken parent child s first end) ps → All (λ p. p < 1048576) ps
taken_below parent child s first end ps le all = All-weaker (IsTaken parent child s first end) (λ p. p < 1048576) (λ p t. omega (arith, t.merged.below)) ps all

pub mixed_below : (parent child : Held) (s : Memory) (first end : ℕ) (ps : List ℕ) → end ≤ 1048576 → All (IsMixed parent child s first end) ps → All (λ p. p < 1048576) ps
mixed_below parent child s first end ps le all = All-weaker (IsMixed parent child s first end) (λ p. p < 1048576) (λ p m. omega (arith, m.merged.below)) ps all

-- none of them is passed over
pub taken_unpassed : (parent child : Held) (s : Memory) (first end : ℕ) (ps : List ℕ) (page : ℕ) → All (IsTaken parent child s first end) ps → IsPassedOver child s first end page → All (λ p. page ≡ p → ⊥) ps
taken_unpassed parent child s first end ps page all passed = All-weaker (IsTaken parent child s first end) (λ p. page ≡ p → ⊥) (λ p t. not_passed child s first first end p page (omega arith) t.merged passed) ps all

pub mixed_unpassed : (parent child : Held) (s : Memory) (first end : ℕ) (ps : List ℕ) (page : ℕ) → All (IsMixed parent child s first end) ps → IsPassedOver child s first end page → All (λ p. page ≡ p → ⊥) ps
mixed_unpassed parent child s first end ps page all passed = All-weaker (IsMixed parent child s first end) (λ p. page ≡ p → ⊥) (λ p m. not_passed child s first first end p page (omega arith) m.merged passed) ps all

-- a page that was owned is not taken over, and so owned still
pub owned_beside : (parent new child : Held) (s : Memory) (first end : ℕ) (ps : List ℕ) (page : ℕ) → All (IsTaken parent child s first end) ps → ((p : ℕ) → All (λ t. p ≡ t → ⊥) ps → KeepsMarks parent new p) → Owns parent page → Owns new page
owned_beside parent new child s first end ps page all others owns = elim (stands ps page) [
  | inl at ↦ absurd ((All-contains (IsTaken parent child s first end) ps page all at).shared owns)
  | inr none ↦ (others page none).owned ∙ owns
]
