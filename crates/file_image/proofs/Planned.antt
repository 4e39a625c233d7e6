-- Planning what a parent takes whole, one file after the other.
use Rattle.std.proofs.Common.{◌≡◌, ℕ, zero, suc, ◌+◌, ◌-◌, ◌/◌, ◌<◌, ◌≤◌, inl, inr, Bool, true, false, cond, List, length, get_or, refl, ap, sym, subst, ◌∙◌, arith, Option, Some, None}
use Rattle.std.specs.Prelude.{◌||◌, ◌==◌, slice_set, replicate, IfSome}
use Rattle.std.proofs.lemmas.Bool.{cases_eq, false≢true}
use Rattle.std.proofs.lemmas.List.{get_or-set_same, get_or-set_other, length-replicate, length-set}
use Rattle.file_model.specs.File.{File}
use Rattle.file_model.specs.Slots.{slots_of, slot_start, is_in_use, bytes_from}
use Rattle.file_model.specs.Operations.{Entry, entry_of, lowest_free}
use Rattle.file_model.specs.Reconcile.{Outcome, stays, writes, leaves_out, against, arrival, is_at, is_used, reconcile_file, shown_files}
use Rattle.file_model.proofs.Bytes.{index-bytes_from}
use Rattle.file_image.specs.Lookup.{file_in, holds}
use Rattle.file_image.specs.Outcomes.{is_shown, is_changed}
use Rattle.file_image.specs.Marks.{slot_of, with_mark, AreInUse}
use Rattle.file_image.specs.Spared.{AtEachTurn, HasFirst, IsSparedFor, IsSparedTurn, content_from, is_taken, slots_after, spared_in, with_number}
use Rattle.file_image.proofs.Following.{IsApart, IsEntry, IsFree, apart, entry_is, entry_same, free_is}
use Rattle.file_image.proofs.LaterFiles.{later, later_end}
use Rattle.file_image.proofs.Marked.{IsMarked, at_name, begin_slots, follows, idle_slots, marked_begin, marked_idle, marked_shown, marked_slots, other_name}
use Rattle.file_image.proofs.Parts.{own_content}
use Rattle.file_image.proofs.Turns.{turn_none, turns_with, turns_with_idle}

-- of each slot that is marked there are as many pages as was planned, from the same slot
abbrev AreAsPlanned : List Bool → List ℕ → List ℕ → List ℕ → List ℕ → Type 0
AreAsPlanned marks whole from w f = (j : ℕ) → get_or marks j false ≡ true → (get_or w j 0 ≡ get_or whole j 0) × (get_or f j 0 ≡ get_or from j 0)

abbrev IsTurn : (ℕ → ℕ) → List ℕ → List ℕ → List (Option File) → File → Type 0
IsTurn d whole from = IsSparedTurn (content_from d from) (spared_in whole)

-- the plan before slot k of the child
pub record IsPlanned (b d : ℕ → ℕ) (marks : List Bool) (whole from : List ℕ) (k : ℕ) : Type 0 where
  pub marked : IsMarked b d marks k
  pub long_whole : length whole ≡ 64
  pub long_from : length from ≡ 64
  pub few : (j : ℕ) → get_or whole j 0 < 16
  pub sources : (j : ℕ) → get_or from j 0 < 64
  pub none : (j : ℕ) → get_or marks j false ≡ false → get_or whole j 0 ≡ 0
  pub apart : (name : List ℕ) (i j : ℕ) → k ≤ i → is_at i (entry_of (slots_of d) name) ≡ true → get_or marks j false ≡ true → holds name (get_or marked.slots j None) ≡ false
  pub turns : (w f : List ℕ) → AreAsPlanned marks whole from w f → AtEachTurn (IsTurn d w f) marked.slots (later d k) → AtEachTurn (IsTurn d w f) (slots_of b) (later d 0)

zeros : (n k : ℕ) → ◌≡◌ {A = ℕ} (get_or (replicate {A = ℕ} n 0) k 0) 0
zeros zero k = refl
zeros (suc n) zero = refl
zeros (suc n) (suc k) = zeros n k

no_mark : (n k : ℕ) → get_or (replicate {A = Bool} n false) k false ≡ false
no_mark zero k = refl
no_mark (suc n) zero = refl
no_mark (suc n) (suc k) = no_mark n k

pub planned_begin : (b d : ℕ → ℕ) → IsPlanned b d (replicate 64 false) (replicate 64 0) (replicate 64 0) 0
planned_begin b d = record {
  marked = marked_begin b d;
  long_whole = length-replicate {A = ℕ} 64 0;
  long_from = length-replicate {A = ℕ} 64 0;
  few = λ j. omega (arith, zeros 64 j);
  sources = λ j. omega (arith, zeros 64 j);
  none = λ j is. zeros 64 j;
  apart = λ name i j l a is. absurd (false≢true (sym (no_mark 64 j) ∙ is));
  turns = λ w f told all. subst (λ s. AtEachTurn (IsTurn d w f) s (later d 0)) (begin_slots b d) all;
}

pub planned_idle : (b d : ℕ → ℕ) (marks : List Bool) (whole from : List ℕ) (k : ℕ) → k < 64 → is_changed d k ≡ false → IsPlanned b d marks whole from k → IsPlanned b d marks whole from (k + 1)
planned_idle b d marks whole from k h e p = record {
  marked = marked_idle b d marks k h e p.marked;
  long_whole = p.long_whole;
  long_from = p.long_from;
  few = p.few;
  sources = p.sources;
  none = p.none;
  apart = λ name i j l a is. ap (λ s. holds name (get_or s j None)) (idle_slots b d marks k h e p.marked) ∙ p.apart name i j (omega arith) a is;
  turns = λ w f told all. p.turns w f told (turns_with_idle (content_from d f) (spared_in w) p.marked.slots d k h e (subst (λ s. AtEachTurn (IsTurn d w f) s (later d (k + 1))) (idle_slots b d marks k h e p.marked) all));
}

-- ---- one file

number_at : (numbers : List ℕ) (to : Option ℕ) (n m j : ℕ) → length numbers ≡ 64 → IfSome to (λ k. k < 64) → n < m → get_or numbers j 0 < m → get_or (with_number numbers to n) j 0 < m
number_at numbers None n m j long within small was = was
number_at numbers (Some k) n m j long within small was = elim (cases_eq j k) [
  | inl here ↦ (let e : get_or (slice_set numbers k n) j 0 ≡ n = ap (λ i. get_or (slice_set numbers k n) i 0) here ∙ get_or-set_same numbers k n 0 (omega (arith, long, within)) in omega (arith, e))
  | inr other ↦ (let e : get_or (slice_set numbers k n) j 0 ≡ get_or numbers j 0 = get_or-set_other numbers k j n 0 other in omega (arith, e, was))
]

length_number : (numbers : List ℕ) (to : Option ℕ) (n : ℕ) → length (with_number numbers to n) ≡ length numbers
length_number numbers None n = refl
length_number numbers (Some k) n = length-set numbers k n

none_after : (marks : List Bool) (whole : List ℕ) (to : Option ℕ) (n : ℕ) → length marks ≡ 64 → IfSome to (λ k. k < 64) → ((j : ℕ) → get_or marks j false ≡ false → get_or whole j 0 ≡ 0)
    → (j : ℕ) → get_or (with_mark marks to) j false ≡ false → get_or (with_number whole to n) j 0 ≡ 0
none_after marks whole None n long within none j is = none j is
none_after marks whole (Some k) n long within none j is = elim (cases_eq j k) [
  | inl here ↦ absurd (false≢true (sym is ∙ ap (λ i. get_or (slice_set marks k true) i false) here ∙ get_or-set_same marks k true false (omega (arith, long, within))))
  | inr other ↦ get_or-set_other whole k j n 0 other ∙ none j (sym (get_or-set_other marks k j true false other) ∙ is)
]

-- what is as planned after a file was as planned before it
as_before : (marks : List Bool) (whole from w f : List ℕ) (to : Option ℕ) (n s : ℕ) → IfSome to (λ k. get_or marks k false ≡ false) → AreAsPlanned (with_mark marks to) (with_number whole to n) (with_number from to s) w f → AreAsPlanned marks whole from w f
as_before marks whole from w f None n s free told j is = told j is
as_before marks whole from w f (Some k) n s free told j is =
    let other : j ≡ k → ⊥ = λ e. false≢true (sym free ∙ ap (λ i. get_or marks i false) (sym e) ∙ is) in
    let same = told j (get_or-set_other marks k j true false other ∙ is) in
    (same.0 ∙ get_or-set_other whole k j n 0 other, same.1 ∙ get_or-set_other from k j s 0 other)

-- ---- each slot is written once

not_true : (t : Bool) → (t ≡ true → ⊥) → t ≡ false
not_true true never = absurd (never refl)
not_true false never = refl

or_right : (u m : Bool) → (u || m) ≡ false → m ≡ false
or_right true m is = cc
or_right false m is = is

free_arrival : (b : ℕ → ℕ) (marks : List Bool) (s : List (Option File)) (c : File) (k : Option ℕ) → AreInUse s b marks → IfSome k (IsFree s 0) → IfSome (slot_of (arrival c k)) (λ j. j < 64) → IfSome (slot_of (arrival c k)) (λ j. get_or marks j false ≡ false)
free_arrival b marks s c None slots free within = tt
free_arrival b marks s c (Some k) slots free within =
    let z : k ≡ k - 0 = omega arith in
    or_right (is_in_use b (slot_start k)) (get_or marks k false) (sym (slots.used k within) ∙ ap (λ i. is_used (get_or s i None)) z ∙ ap is_used free.free)

free_against : (b : ℕ → ℕ) (marks : List Bool) (s : List (Option File)) (c : File) (o : Option Entry) → AreInUse s b marks → ((j : ℕ) → get_or marks j false ≡ true → holds c.name (get_or s j None) ≡ false) → IfSome o (IsEntry s 0 c.name)
    → IfSome (slot_of (against c o s)) (λ j. j < 64) → IfSome (slot_of (against c o s)) (λ j. get_or marks j false ≡ false)
free_against b marks s c None slots apart entry within = free_arrival b marks s c (lowest_free s) slots (free_is s 0) within
free_against b marks s c (Some e) slots apart entry within =
    let z : e.slot ≡ e.slot - 0 = omega arith in
    not_true (get_or marks e.slot false) (λ is. false≢true (sym (apart e.slot is) ∙ ap (λ i. holds c.name (get_or s i None)) z ∙ ap (holds c.name) entry.file ∙ entry.named))

within_or : (v : Bool) (o : Outcome) (P Q : ℕ → Type 0) → (IfSome (slot_of o) P → IfSome (slot_of o) Q) → IfSome (slot_of (cond v stays o)) P → IfSome (slot_of (cond v stays o)) Q
within_or true o P Q f h = tt
within_or false o P Q f h = f h

-- the slot that a file is written to was not marked
target_free : (b : ℕ → ℕ) (marks : List Bool) (s : List (Option File)) (c : File) → AreInUse s b marks → ((j : ℕ) → get_or marks j false ≡ true → holds c.name (get_or s j None) ≡ false)
    → IfSome (slot_of (reconcile_file c s)) (λ j. j < 64) → IfSome (slot_of (reconcile_file c s)) (λ j. get_or marks j false ≡ false)
target_free b marks s c slots apart within =
    within_or (c.version == c.base) (against c (entry_of s c.name) s) (λ j. j < 64) (λ j. get_or marks j false ≡ false) (free_against b marks s c (entry_of s c.name) slots apart (entry_is s 0 c.name)) within

-- a slot that is marked has no file of a later name
apart_after : (marks : List Bool) (s : List (Option File)) (o : Outcome) (name : List ℕ) (j : ℕ) → length s ≡ 64 → IfSome (slot_of o) (λ i. i < 64) → IsApart name s o → (get_or marks j false ≡ true → holds name (get_or s j None) ≡ false)
    → get_or (with_mark marks (slot_of o)) j false ≡ true → holds name (get_or (slots_after s o) j None) ≡ false
apart_after marks s stays name j long within apart before is = before is
apart_after marks s leaves_out name j long within apart before is = before is
apart_after marks s (writes e) name j long within apart before is = elim (cases_eq j e.slot) [
  | inl here ↦ ap (λ i. holds name (get_or (slice_set s e.slot (Some e.file)) i None)) here ∙ ap (holds name) (get_or-set_same s e.slot (Some e.file) None (omega (arith, long, within))) ∙ apart.1
  | inr other ↦ ap (holds name) (get_or-set_other s e.slot j (Some e.file) None other) ∙ before (sym (get_or-set_other marks e.slot j true false other) ∙ is)
]

-- the pages that the content covers whole
own_first : (d : ℕ → ℕ) (j k n : ℕ) (content : List ℕ) → j ≡ k → n ≤ length content → content ≡ bytes_from d (slot_start k + 4096) (length content) → HasFirst (λ i. d (slot_start j + 4096 + i)) n content
own_first d j k n content is few own = record {
  few = few;
  same = λ i below. ap (λ x. d (slot_start x + 4096 + i)) is ∙ sym (index-bytes_from d (slot_start k + 4096) (length content) i (omega (arith, few, below))) ∙ ap (λ c. get_or c i 0) (sym own);
}

-- the turn of a file is as planned
fits : (o : Outcome) (taken : Bool) (marks : List Bool) (whole from w f : List ℕ) (d : ℕ → ℕ) (k n : ℕ) (content : List ℕ) → length marks ≡ 64 → length whole ≡ 64 → length from ≡ 64 → IfSome (slot_of o) (λ j. j < 64)
    → content ≡ bytes_from d (slot_start k + 4096) (length content) → n ≡ cond taken (length content / 4096) 0
    → AreAsPlanned (with_mark marks (slot_of o)) (with_number whole (slot_of o) n) (with_number from (slot_of o) k) w f → IsSparedFor o taken (content_from d f) (spared_in w) content
fits stays taken marks whole from w f d k n content long many sources within own pages told = tt
fits leaves_out taken marks whole from w f d k n content long many sources within own pages told = tt
fits (writes e) true marks whole from w f d k n content long many sources within own pages told =
    let same = told e.slot (get_or-set_same marks e.slot true false (omega (arith, long, within))) in
    let count : get_or w e.slot 0 ≡ length content / 4096 = same.0 ∙ get_or-set_same whole e.slot n 0 (omega (arith, many, within)) ∙ pages in
    own_first d (get_or f e.slot 0) k (spared_in w e.slot) content (same.1 ∙ get_or-set_same from e.slot k 0 (omega (arith, sources, within))) (omega (arith, count)) own
fits (writes e) false marks whole from w f d k n content long many sources within own pages told =
    let same = told e.slot (get_or-set_same marks e.slot true false (omega (arith, long, within))) in
    let count : get_or w e.slot 0 ≡ 0 = same.0 ∙ get_or-set_same whole e.slot n 0 (omega (arith, many, within)) ∙ pages in
    omega (arith, count)

pub planned_shown : (b d : ℕ → ℕ) (marks marks_after : List Bool) (whole whole_after from from_after : List ℕ) (k n : ℕ) (o : Option Entry) (to : Option ℕ) → (h : k < 64) → (e : is_shown d k ≡ true) → (p : IsPlanned b d marks whole from k)
    → entry_of (slots_of b) (file_in d k).name ≡ o → n ≡ cond (is_taken (file_in d k) o) (length (file_in d k).content / 4096) 0 → n < 16 → to ≡ slot_of (reconcile_file (file_in d k) p.marked.slots) → IfSome to (λ j. j < 64)
    → marks_after ≡ with_mark marks to → whole_after ≡ with_number whole to n → from_after ≡ with_number from to k → IsPlanned b d marks_after whole_after from_after (k + 1)
planned_shown b d marks marks_after whole whole_after from from_after k n o to h e p found pages few told within marks_is whole_is from_is =
    let c = file_in d k in
    let s = p.marked.slots in
    let r = reconcile_file c s in
    let q : Option ℕ = slot_of r in
    let inside : IfSome q (λ j. j < 64) = subst (λ x. IfSome x (λ j. j < 64)) told within in
    let entry : entry_of s c.name ≡ o = entry_same 0 s (slots_of b) c.name (follows b d marks k e p.marked).same ∙ found in
    let free : IfSome q (λ j. get_or marks j false ≡ false) = target_free b marks s c p.marked.in_use (λ j is. p.apart c.name k j (omega arith) (at_name d k e) is) inside in
    let marked : IsMarked b d (with_mark marks q) (k + 1) = marked_shown b d marks k h e p.marked in
    let is_slots : marked.slots ≡ slots_after s r = marked_slots b d marks k h e p.marked in
    let planned : IsPlanned b d (with_mark marks q) (with_number whole q n) (with_number from q k) (k + 1) = record {
      marked = marked;
      long_whole = length_number whole q n ∙ p.long_whole;
      long_from = length_number from q k ∙ p.long_from;
      few = λ j. number_at whole q n 16 j p.long_whole inside few (p.few j);
      sources = λ j. number_at from q k 64 j p.long_from inside h (p.sources j);
      apart = λ name i j l a is. ap (λ x. holds name (get_or x j None)) is_slots
          ∙ apart_after marks s r name j p.marked.in_use.long inside (apart name s c (other_name d k i name e (omega arith) a)) (λ was. p.apart name i j (omega arith) a was) is;
      none = none_after marks whole q n p.marked.long inside p.none;
      turns = λ w f told all. p.turns w f (as_before marks whole from w f q n k free told)
          (turns_with (IsTurn d w f) s marked.slots d k h e is_slots (fits r (is_taken c (entry_of s c.name)) marks whole from w f d k n c.content p.marked.long p.long_whole p.long_from inside (own_content d k) (pages ∙ ap (λ x. cond (is_taken c x) (length c.content / 4096) 0) (sym entry)) told) all);
    } in
    subst (λ x. IsPlanned b d x whole_after from_after (k + 1)) (sym (marks_is ∙ ap (with_mark marks) told))
    (subst (λ x. IsPlanned b d (with_mark marks q) x from_after (k + 1)) (sym (whole_is ∙ ap (λ t. with_number whole t n) told))
    (subst (λ x. IsPlanned b d (with_mark marks q) (with_number whole q n) x (k + 1)) (sym (from_is ∙ ap (λ t. with_number from t k) told)) planned))

-- ---- the end

pub planned_end : (b d : ℕ → ℕ) (marks : List Bool) (whole from : List ℕ) (k : ℕ) → 64 ≤ k → IsPlanned b d marks whole from k → AtEachTurn (IsTurn d whole from) (slots_of b) (shown_files (slots_of d))
planned_end b d marks whole from k h p = p.turns whole from (λ j is. (refl, refl)) (subst (AtEachTurn (IsTurn d whole from) p.marked.slots) (sym (later_end d k h)) (turn_none (IsTurn d whole from) p.marked.slots))
