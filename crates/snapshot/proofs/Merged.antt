-- Memories of which some pages are merged.
use Rattle.std.specs.Prelude.{◌≡◌, ℕ, ◌+◌, ◌-◌, ◌*◌, ◌/◌, ◌%◌, ◌<◌, ◌≤◌, ◌⊎◌, Bool, true, false, not, if◌then◌else◌, List, [], All, Contains, Some, length, take}
use Rattle.std.proofs.Common.{sym, ◌∙◌, ap, arith, inl, inr, refl, eq-eqb, get_or, subst}
use Rattle.std.proofs.lemmas.List.{take_more}
use Rattle.std.proofs.lemmas.List.Elements.{All-contains, All-more, All-nil, All-pop, All-weaker}
use Rattle.std.proofs.lemmas.Bool.{cases_eq, cases_lt}
use Rattle.memory_model.specs.Memory.{Memory, byte_at, permission_at, with_bytes, same_memory}
use Rattle.memory_model.proofs.Runs.{byte_at-with_bytes, byte_at-with_bytes_out, permission_at-with_bytes}
use Rattle.merge_model.specs.Merge.{is_changed, merged_byte, with_merge}
use Rattle.merge_model.proofs.Merges.{byte_at-with_merge, byte_at-with_merge_out}
use Rattle.space_mem.specs.Held.{SamePage}
use Rattle.snapshot.specs.Pages.{HasMerged, IsMergedAt, IsMergedPage}
use Rattle.snapshot.proofs.Conflicts.{either}
use Rattle.snapshot.proofs.Lists.{stands}

-- the merged bytes of a page are written
pub written : (s c p : Memory) (page : ℕ) (bs : List ℕ) → length bs ≡ 4096 → IsMergedPage s c p page bs → with_bytes p (4096 * page) bs ≡ with_merge s c p page 1
written s c p page bs sized merged = same_memory (with_bytes p (4096 * page) bs) (with_merge s c p page 1)
    (λ a. elim (cases_lt a (4096 * page)) [
      | inl before ↦ byte_at-with_bytes_out p (4096 * page) bs a (λ le. absurd (omega arith)) ∙ sym (byte_at-with_merge_out s c p page 1 a (inl before))
      | inr from ↦ elim (cases_lt a (4096 * (page + 1))) [
        | inl here ↦
            let k = a - 4096 * page in
            let e : a ≡ 4096 * page + k = omega arith in
            ap (byte_at (with_bytes p (4096 * page) bs)) e ∙ byte_at-with_bytes p (4096 * page) bs k (omega arith) ∙ merged k (omega arith)
            ∙ ap (merged_byte s c p) (sym e) ∙ sym (byte_at-with_merge s c p page 1 a from here)
        | inr after ↦ byte_at-with_bytes_out p (4096 * page) bs a (λ le. omega arith) ∙ sym (byte_at-with_merge_out s c p page 1 a (inr after))
      ]
    ])
    (λ q. permission_at-with_bytes p (4096 * page) bs q)

-- where the child changed nothing the merged byte is the parent's
pub unchanged_byte : (s c p : Memory) (a : ℕ) → byte_at c a ≡ byte_at s a → merged_byte s c p a ≡ byte_at p a
unchanged_byte s c p a same = ap (λ b. if not b then byte_at c a else byte_at p a) (eq-eqb (byte_at c a) (byte_at s a) same)

-- a page with the bytes of a source, of which the parent has the snapshot's, is merged
pub taken_merged : (s c p m : Memory) (page : ℕ) → SamePage p s page → SamePage m c page → IsMergedAt s c p m page
taken_merged s c p m page kept same k low = same k low ∙ either (byte_at s (4096 * page + k)) (byte_at c (4096 * page + k)) (byte_at p (4096 * page + k)) (kept k low)

-- what is merged again is what was merged
again : (t : Bool) (x v w : ℕ) → (v ≡ w) ⊎ (v ≡ (if t then x else w)) → (if t then x else v) ≡ (if t then x else w)
again true x v w is = refl
again false x v w (inl same) = same
again false x v w (inr same) = same

merged_again : (s c p m : Memory) (a : ℕ) → (byte_at m a ≡ byte_at p a) ⊎ (byte_at m a ≡ merged_byte s c p a) → merged_byte s c m a ≡ merged_byte s c p a
merged_again s c p m a is = again (is_changed s c a) (byte_at c a) (byte_at m a) (byte_at p a) is

-- ---- pages that are merged, in any order

pub merged_none : (s c p : Memory) → HasMerged s c p [] p
merged_none s c p = record {
  permission = λ page. refl;
  here = All-nil (IsMergedAt s c p p);
  other = λ page none k low. refl;
}

-- each page has the bytes that it had, or the merged ones
pub either_way : (s c p m : Memory) (each : List ℕ) → HasMerged s c p each m → (page : ℕ) → IsMergedAt s c p m page ⊎ SamePage m p page
either_way s c p m each merged page = elim (stands each page) [
  | inl at ↦ inl (All-contains (IsMergedAt s c p m) each page merged.here at)
  | inr none ↦ inr (merged.other page none)
]

at_byte : (s c p m : Memory) (page : ℕ) → IsMergedAt s c p m page ⊎ SamePage m p page → (k : ℕ) → k < 4096 → (byte_at m (4096 * page + k) ≡ byte_at p (4096 * page + k)) ⊎ (byte_at m (4096 * page + k) ≡ merged_byte s c p (4096 * page + k))
at_byte s c p m page (inl merged) k low = inr (merged k low)
at_byte s c p m page (inr same) k low = inl (same k low)

-- one page more
pub merged_more : (s c p m n : Memory) (each : List ℕ) (i : ℕ) → i < length each → HasMerged s c p (take i each) m → n ≡ with_merge s c m (get_or each i 0) 1 → HasMerged s c p (take (i + 1) each) n
merged_more s c p m n each i within before is =
    let page : ℕ = get_or each i 0 in
    let out : (q : ℕ) → (q ≡ page → ⊥) → SamePage n m q = λ q other k low. ap (λ o. byte_at o (4096 * q + k)) is ∙ byte_at-with_merge_out s c m page 1 (4096 * q + k) (elim (cases_lt q page) [
      | inl below ↦ inl (omega arith)
      | inr from ↦ inr (omega (arith, other))
    ]) in
    let at : IsMergedAt s c p n page = λ k low.
    ap (λ o. byte_at o (4096 * page + k)) is ∙ byte_at-with_merge s c m page 1 (4096 * page + k) (omega arith) (omega arith)
    ∙ merged_again s c p m (4096 * page + k) (at_byte s c p m page (either_way s c p m (take i each) before page) k low) in
    record {
      permission = λ q. ap (λ o. permission_at o q) is ∙ before.permission q;
      here = All-more (IsMergedAt s c p n) each i 0 within
          (All-weaker (IsMergedAt s c p m) (IsMergedAt s c p n) (λ q was. elim (cases_eq q page) [
            | inl same ↦ subst (IsMergedAt s c p n) (sym same) at
            | inr other ↦ λ k low. out q other k low ∙ was k low
          ]) (take i each) before.here) at;
      other = λ q none.
          let both = All-pop (λ o. q ≡ o → ⊥) (take (i + 1) each) (take i each) (Some page) (take_more each i 0 within) none in
          λ k low. out q both.1 k low ∙ before.other q both.0 k low;
    }

-- some pages, and then others, and no other was changed
pub merged_all : (s c p m n : Memory) (first count : ℕ) (taken merged : List ℕ) → All (λ q. (first ≤ q) × (q < first + count)) taken → All (λ q. (first ≤ q) × (q < first + count)) merged
    → ((q : ℕ) → first ≤ q → q < first + count → SamePage c s q ⊎ (Contains taken q ⊎ Contains merged q)) → HasMerged s c p taken m → HasMerged s c m merged n → n ≡ with_merge s c p first count
merged_all s c p m n first count taken merged in_taken in_merged each one two = same_memory n (with_merge s c p first count)
    (λ a.
    let q : ℕ = a / 4096 in
    let k : ℕ = a % 4096 in
    let e : a ≡ 4096 * q + k = omega arith in
    subst (λ b. byte_at n b ≡ byte_at (with_merge s c p first count) b) (sym e) (elim (cases_lt q first) [
      | inl below ↦ beside q k (omega arith) (λ f g. omega arith) ∙ sym (byte_at-with_merge_out s c p first count (4096 * q + k) (inl (omega arith)))
      | inr above ↦ elim (cases_lt q (first + count)) [
        | inl here ↦ inside q k (omega arith) above here ∙ sym (byte_at-with_merge s c p first count (4096 * q + k) (omega arith) (omega arith))
        | inr past ↦ beside q k (omega arith) (λ f g. omega arith) ∙ sym (byte_at-with_merge_out s c p first count (4096 * q + k) (inr (omega arith)))
      ]
    ]))
    (λ q. two.permission q ∙ one.permission q)
  where
    beside : (q k : ℕ) → k < 4096 → (first ≤ q → q < first + count → ⊥) → byte_at n (4096 * q + k) ≡ byte_at p (4096 * q + k)
    beside q k low out =
        two.other q (All-weaker (λ r. (first ≤ r) × (r < first + count)) (λ r. q ≡ r → ⊥) (λ r at is. out (subst (λ t. first ≤ t) (sym is) at.0) (subst (λ t. t < first + count) (sym is) at.1)) merged in_merged) k low
        ∙ one.other q (All-weaker (λ r. (first ≤ r) × (r < first + count)) (λ r. q ≡ r → ⊥) (λ r at is. out (subst (λ t. first ≤ t) (sym is) at.0) (subst (λ t. t < first + count) (sym is) at.1)) taken in_taken) k low

    -- a page that the second step merges
    last : (q k : ℕ) → k < 4096 → IsMergedAt s c m n q → byte_at n (4096 * q + k) ≡ merged_byte s c p (4096 * q + k)
    last q k low merged_q = merged_q k low ∙ merged_again s c p m (4096 * q + k) (at_byte s c p m q (either_way s c p m taken one q) k low)

    -- and one that it leaves
    left : (q k : ℕ) → k < 4096 → IsMergedAt s c p m q → IsMergedAt s c m n q ⊎ SamePage n m q → byte_at n (4096 * q + k) ≡ merged_byte s c p (4096 * q + k)
    left q k low at (inl merged_q) = last q k low merged_q
    left q k low at (inr same) = same k low ∙ at k low

    idle : (q : ℕ) → SamePage c s q → IsMergedAt s c p m q ⊎ SamePage m p q → IsMergedAt s c p m q
    idle q equal (inl at) = at
    idle q equal (inr same) = λ k low. same k low ∙ sym (unchanged_byte s c p (4096 * q + k) (equal k low))

    inside : (q k : ℕ) → k < 4096 → first ≤ q → q < first + count → byte_at n (4096 * q + k) ≡ merged_byte s c p (4096 * q + k)
    inside q k low above below = elim (each q above below) [
      | inl equal ↦ left q k low (idle q equal (either_way s c p m taken one q)) (either_way s c m n merged two q)
      | inr rest ↦ elim rest [
        | inl at ↦ left q k low (All-contains (IsMergedAt s c p m) taken q one.here at) (either_way s c m n merged two q)
        | inr at ↦ last q k low (All-contains (IsMergedAt s c m n) merged q two.here at)
      ]
    ]
