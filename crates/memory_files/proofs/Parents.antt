-- What a parent takes over from a child, and that it is nothing where the child keeps no bytes of slots.
use Rattle.std.proofs.Common.{◌≡◌, ℕ, zero, suc, ◌+◌, ◌-◌, ◌/◌, ◌<◌, ◌≤◌, Bool, true, false, cond, List, [], ◌∷◌, length, get_or, replicate, inl, inr, refl, sym, ◌∙◌, ap, arith, subst}
use Rattle.std.specs.Prelude.{All, slice_set, ◌&&◌}
use Rattle.std.proofs.lemmas.Bool.{cases_eq, cases_lt, false≢true}
use Rattle.std.proofs.lemmas.List.{get_or-set_other, get_or_past, length-replicate, length-set}
use Rattle.std.proofs.lemmas.List.Elements.{All-head, All-tail}
use Rattle.memory_model.specs.Memory.{Memory, same_memory}
use Rattle.memory_model.proofs.Rows.{value_at-row_before, value_at-row_after, value_at-row_key}
use Rattle.file_model.specs.Sizes.{first_address, slot_size, slot_count, all_slots_size}
use Rattle.file_model.specs.Slots.{slots_of, is_in_use, slot_start}
use Rattle.file_model.specs.Operations.{Entry, entry_of}
use Rattle.file_model.specs.Reconcile.{reconcile, reconciled_bytes, shown_files, with_entries, mark_entries, marks_of, is_at}
use Rattle.file_model.proofs.Marks.{bit_of_mark, ready_if_set}
use Rattle.file_model.proofs.Reconciling.{rest}
use Rattle.file_image.specs.Lookup.{file_in}
use Rattle.file_image.specs.Outcomes.{AreReady, is_shown}
use Rattle.file_image.specs.Spared.{AtEachTurn, IsSparedTurn, content_from, content_in, spared_in}
use Rattle.file_image.proofs.Sharing.{shared}
use Rattle.file_image.proofs.LaterFiles.{later, later_hidden, nothing_left, none_left_out}
use Rattle.space_mem.specs.Held.{Held, AllZero, KeepsMarks}
use Rattle.space_model.specs.Files.{file_bytes, files_in, with_file_bytes, with_files_of, files_left_out}
use Rattle.memory_files.specs.Slots.{AreFew, IsBesideSlot, KeepsRest, OwnsParts, OwnsSlots, has_slot, first_page, slot_page, slot_pages}
use Rattle.memory_files.specs.Taken.{IsBesideSlots, IsBesideTaken, with_taken}
use Rattle.memory_files.proofs.Taking.{has_taken}
use Rattle.memory_files.specs.Laws.{keeps_itself}
use Rattle.memory_files.proofs.Bases.{none_used}
use Rattle.memory_files.proofs.Results.{memory_is}

is_set : (t : Bool) → ◌≡◌ {A = ℕ} (cond t 1 0) 1 → t ≡ true
is_set true e = refl
is_set false e = absurd (omega arith)

-- a slot that is marked was marked before, or is one that an entry writes
marked_is : (P : ℕ → Type 0) (es : List Entry) (marks : List Bool) → ((k : ℕ) → get_or marks k false ≡ true → P k) → All (λ e. P e.slot) es → (k : ℕ) → get_or (mark_entries marks es) k false ≡ true → P k
unfolding mark_entries
marked_is P [] marks before all k is = before k is
marked_is P (e ∷ es) marks before all k is = marked_is P es (slice_set marks e.slot true) more (All-tail (λ e. P e.slot) e es all) k is
  where
    more : (j : ℕ) → get_or (slice_set marks e.slot true) j false ≡ true → P j
    more j set = elim (cases_eq j e.slot) [
      | inl here ↦ subst P (sym here) (All-head (λ e. P e.slot) e es all)
      | inr other ↦ before j (sym (get_or-set_other marks e.slot j true false other) ∙ set)
    ]

none_marked : (n k : ℕ) → get_or (replicate n false) k false ≡ true → ⊥
none_marked zero k is = absurd (false≢true is)
none_marked (suc n) zero is = absurd (false≢true is)
none_marked (suc n) (suc k) is = none_marked n k is

-- what the plan of a parent and its child says
pub record IsPlan (p c : Memory) (marks : List Bool) (whole from : List ℕ) : Type 0 where
  pub marks_are : marks ≡ marks_of (reconcile (files_in p) (files_in c)).edits
  pub turns : AtEachTurn (IsSparedTurn (content_from (file_bytes c) from) (spared_in whole)) (files_in p) (shown_files (files_in c))
  pub few : AreFew whole
  pub none : (k : ℕ) → get_or marks k false ≡ false → get_or whole k 0 ≡ 0

pub plan_seen : (h m c d : Held) (marks : List Bool) (whole from : List ℕ) → m ≡ h → d ≡ c → IsPlan m.memory d.memory marks whole from → IsPlan h.memory c.memory marks whole from
plan_seen h m c d marks whole from parent child plan = subst (λ (x : Held). IsPlan h.memory x.memory marks whole from) child (subst (λ (x : Held). IsPlan x.memory d.memory marks whole from) parent plan)

length-mark_entries : (marks : List Bool) (es : List Entry) → length (mark_entries marks es) ≡ length marks
unfolding mark_entries
length-mark_entries marks [] = refl
length-mark_entries marks (e ∷ es) = length-mark_entries (slice_set marks e.slot true) es ∙ length-set marks e.slot true

-- no pages are taken past the last slot
none_past : (p c : Memory) (marks : List Bool) (whole from : List ℕ) → IsPlan p c marks whole from → (k : ℕ) → 64 ≤ k → get_or whole k 0 ≡ 0
none_past p c marks whole from plan k past =
    let es = (reconcile (files_in p) (files_in c)).edits in
    let long : length marks ≡ 64 = ap length plan.marks_are ∙ length-mark_entries (replicate {A = Bool} 64 false) es ∙ length-replicate {A = Bool} 64 false in
    plan.none k (get_or_past marks k false (omega (arith, long, past)))

pub plan_ready : (p c : Memory) (marks : List Bool) (whole from : List ℕ) → IsPlan p c marks whole from → AreReady (has_slot marks) (reconcile (files_in p) (files_in c))
plan_ready p c marks whole from plan =
    let es = (reconcile (files_in p) (files_in c)).edits in
    ready_if_set (has_slot marks) (file_bytes p) (file_bytes c) (λ k below bit. ap (λ x. get_or x k false) plan.marks_are ∙ is_set (get_or (marks_of es) k false) (sym (bit_of_mark (marks_of es) k) ∙ bit))

pub plan_beside : (page : ℕ) (p c : Memory) (marks : List Bool) (whole from : List ℕ) → IsPlan p c marks whole from → All (λ e. IsBesideSlot slot_pages e.slot page) (reconcile (files_in p) (files_in c)).edits → IsBesideSlots marks page
plan_beside page p c marks whole from plan all k is =
    let es = (reconcile (files_in p) (files_in c)).edits in
    marked_is (λ j. IsBesideSlot slot_pages j page) es (replicate slot_count false) (λ j none. absurd (none_marked slot_count j none)) all k (ap (λ x. get_or x k false) (sym plan.marks_are) ∙ is)

some_marked : (t : Bool) (n : ℕ) → (t ≡ false → n ≡ 0) → (n ≡ 0 → ⊥) → t ≡ true
some_marked true n none some = refl
some_marked false n none some = absurd (some (none refl))

pub plan_beside_taken : (page : ℕ) (p c : Memory) (marks : List Bool) (whole from : List ℕ) → IsPlan p c marks whole from → IsBesideSlots marks page → IsBesideTaken whole page
plan_beside_taken page p c marks whole from plan beside k i low below is =
    let few = plan.few k in
    elim (beside k (some_marked (get_or marks k false) (get_or whole k 0) (plan.none k) (λ zero. omega (arith, zero, below)))) [ inl before ↦ absurd (omega (arith, few, below, is, before)) | inr behind ↦ absurd (omega (arith, few, below, is, behind)) ]

-- parts of slots stay owned where pages beside them are taken
pub parts_kept : (m q : Held) (marks : List Bool) (whole : List ℕ) → AreFew whole → ((page : ℕ) → IsBesideTaken whole page → KeepsMarks m q page) → OwnsParts m marks whole → OwnsParts q marks whole
parts_kept m q marks whole few kept owned k ready page low high =
    let most = few k in
    (kept page (λ j i within below is.
    let other = few j in
    let e : j ≡ k = omega (arith, most, other, low, high, below, is) in
    let w : get_or whole j 0 ≡ get_or whole k 0 = ap (λ x. get_or whole x 0) e in
    omega (arith, low, below, is, e, w))).owned ∙ owned k ready page low high

-- and so do headers
pub headers_kept : (m q : Held) (marks : List Bool) (whole : List ℕ) → AreFew whole → ((page : ℕ) → IsBesideTaken whole page → KeepsMarks m q page) → OwnsSlots m 1 marks → OwnsSlots q 1 marks
headers_kept m q marks whole few kept owned k ready page low high =
    (kept page (λ j i within below is. let other = few j in omega (arith, other, low, high, below, is))).owned ∙ owned k ready page low high

-- ---- once the pages are taken

-- the bytes of the slots are those that were put there
files_read : (m : Memory) (f : ℕ → ℕ) → ((a : ℕ) → all_slots_size ≤ a → f a ≡ file_bytes m a) → file_bytes (with_file_bytes m f) ≡ f
files_read m f past = λ i a. byte a i
  where
    byte : (a : ℕ) → file_bytes (with_file_bytes m f) a ≡ f a
    byte a = elim (cases_lt a all_slots_size) [
      | inl inside ↦ (let e : first_address + a - first_address ≡ a = omega arith in value_at-row_key m.bytes first_address f all_slots_size (first_address + a) (omega arith) (omega arith) ∙ ap f e)
      | inr behind ↦ value_at-row_after m.bytes first_address f all_slots_size (first_address + a) (omega arith) ∙ sym (past a behind)
    ]

-- and what is put there next takes their place
files_twice : (m : Memory) (f g : ℕ → ℕ) → with_file_bytes (with_file_bytes m f) g ≡ with_file_bytes m g
files_twice m f g = same_memory (with_file_bytes (with_file_bytes m f) g) (with_file_bytes m g) (λ a. elim (cases_lt a first_address) [
  | inl before ↦ value_at-row_before (with_file_bytes m f).bytes first_address g all_slots_size a before ∙ value_at-row_before m.bytes first_address f all_slots_size a before ∙ sym (value_at-row_before m.bytes first_address g all_slots_size a before)
  | inr from ↦ elim (cases_lt a (first_address + all_slots_size)) [
    | inl inside ↦ value_at-row_key (with_file_bytes m f).bytes first_address g all_slots_size a from inside ∙ sym (value_at-row_key m.bytes first_address g all_slots_size a from inside)
    | inr behind ↦ value_at-row_after (with_file_bytes m f).bytes first_address g all_slots_size a behind ∙ value_at-row_after m.bytes first_address f all_slots_size a behind ∙ sym (value_at-row_after m.bytes first_address g all_slots_size a behind)
  ]
]) (λ p. refl)

-- a parent that has taken pages as planned, and what is left to do with it
pub record HasPlanned (p c q : Memory) (marks : List Bool) (whole : List ℕ) : Type 0 where
  pub ready : AreReady (has_slot marks) (reconcile (files_in q) (files_in c))
  pub spared : AtEachTurn (IsSparedTurn (content_in (file_bytes q)) (spared_in whole)) (files_in q) (shown_files (files_in c))
  pub memory : with_files_of c q ≡ with_files_of c p
  pub count : files_left_out c q ≡ files_left_out c p

past_same : (p c : Memory) (marks : List Bool) (whole from : List ℕ) → IsPlan p c marks whole from → (a : ℕ) → all_slots_size ≤ a → with_taken whole from (file_bytes p) (file_bytes c) a ≡ file_bytes p a
past_same p c marks whole from plan a past = elim ((has_taken whole from (file_bytes p) (file_bytes c) plan.few).same a) [
  | inl same ↦ same
  | inr at ↦
      let z = none_past p c marks whole from plan (a / slot_size) (omega (arith, past)) in
      let low = at.from in
      let high = at.before in
      absurd (omega (arith, z, low, high))
]

pub planned : (p c q : Memory) (marks : List Bool) (whole from : List ℕ) → IsPlan p c marks whole from → q ≡ with_file_bytes p (with_taken whole from (file_bytes p) (file_bytes c)) → HasPlanned p c q marks whole
unfolding with_files_of files_left_out
planned p c q marks whole from plan is =
    let b = file_bytes p in
    let d = file_bytes c in
    let f : ℕ → ℕ = with_taken whole from b d in
    let read : file_bytes q ≡ f = ap file_bytes is ∙ files_read p f (past_same p c marks whole from plan) in
    let s = shared (spared_in whole) (content_from d from) b f d (has_taken whole from b d plan.few) plan.turns (λ k none. (let z : get_or whole k 0 ≡ 0 = plan.none k (ap (λ x. get_or x k false) plan.marks_are ∙ none) in omega (arith, z))) in
    record {
      ready = subst (λ x. AreReady (has_slot marks) (reconcile (slots_of x) (slots_of d))) (sym read) (subst (λ es. All (λ (e : Entry). has_slot marks e.slot ≡ true) es) (sym s.edits) (plan_ready p c marks whole from plan));
      spared = subst (λ (x : ℕ → ℕ). AtEachTurn (IsSparedTurn (content_in x) (spared_in whole)) (slots_of x) (shown_files (slots_of d))) (sym read) s.turns;
      memory = ap (λ (x : ℕ → ℕ). with_file_bytes q (reconciled_bytes x d)) read ∙ ap (λ g. with_file_bytes q g) s.bytes ∙ ap (λ x. with_file_bytes x (reconciled_bytes b d)) is ∙ files_twice p f (reconciled_bytes b d);
      count = ap (λ (x : ℕ → ℕ). (reconcile (slots_of x) (slots_of d)).left_out) read ∙ s.left_out;
    }

pub taken_over : (h m n g c d : Held) → m ≡ h → d ≡ c → g ≡ n → file_bytes n.memory ≡ reconciled_bytes (file_bytes m.memory) (file_bytes d.memory) → KeepsRest m n → g.memory ≡ with_files_of c.memory h.memory
unfolding with_files_of
taken_over h m n g c d parent child back is kept =
    ap (λ (x : Held). x.memory) back ∙ memory_is m n (reconciled_bytes (file_bytes m.memory) (file_bytes d.memory)) kept is
    ∙ ap (λ (x : Held). with_file_bytes x.memory (reconciled_bytes (file_bytes x.memory) (file_bytes d.memory))) parent
    ∙ ap (λ (x : Held). with_file_bytes h.memory (reconciled_bytes (file_bytes h.memory) (file_bytes x.memory))) child

-- ---- a child that keeps no bytes of slots

none_shown : (d : ℕ → ℕ) (k : ℕ) → is_in_use d (slot_start k) ≡ false → is_shown d k ≡ false
none_shown d k free = ap (λ t. t && is_at k (entry_of (slots_of d) (file_in d k).name)) free

none_later : (d : ℕ → ℕ) (n k : ℕ) → k + n ≡ 64 → ((j : ℕ) → j < slot_count → is_in_use d (slot_start j) ≡ false) → later d k ≡ later d 64
none_later d zero k e free = let same : k ≡ 64 = omega arith in ap (later d) same
none_later d (suc n) k e free = later_hidden d k (omega arith) (none_shown d k (free k (omega arith))) ∙ none_later d n (k + 1) (omega arith) free

no_files : (c : Held) → AllZero c.memory first_page (slot_page slot_count) → later (file_bytes c.memory) 0 ≡ later (file_bytes c.memory) 64
no_files c none = none_later (file_bytes c.memory) 64 0 (omega arith) (λ j below. none_used c.memory j none below)

same_entries : (b d : ℕ → ℕ) → later d 0 ≡ later d 64 → reconciled_bytes b d ≡ b
same_entries b d e = ap (λ cs. with_entries b (rest (slots_of b) cs).edits) e ∙ nothing_left b d 64 (omega arith)

pub nothing_taken : (h c : Held) → AllZero c.memory first_page (slot_page slot_count) → h.memory ≡ with_files_of c.memory h.memory
unfolding with_files_of
nothing_taken h c none =
    memory_is h h (file_bytes h.memory) (keeps_itself h) refl ∙ ap (with_file_bytes h.memory) (sym (same_entries (file_bytes h.memory) (file_bytes c.memory) (no_files c none)))

pub nothing_left_out : (h c : Held) → AllZero c.memory first_page (slot_page slot_count) → 0 ≡ files_left_out c.memory h.memory
unfolding files_left_out
nothing_left_out h c none =
    sym (ap (λ cs. (rest (files_in h.memory) cs).left_out) (no_files c none) ∙ none_left_out (files_in h.memory) (file_bytes c.memory) 64 (omega arith))
