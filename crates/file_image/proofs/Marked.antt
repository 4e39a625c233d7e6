-- Marking what a child's files write, one after the other.
use Rattle.std.proofs.Common.{◌≡◌, ℕ, zero, suc, ◌+◌, ◌<◌, ◌≤◌, inl, Bool, true, false, List, [], ◌∷◌, length, get_or, refl, ap, sym, ◌∙◌, arith, Option, Some, None}
use Rattle.std.specs.Prelude.{◌||◌, ◌==◌, slice_set, replicate}
use Rattle.std.specs.List.{AllZip}
use Rattle.std.specs.Str.{bytes_eq}
use Rattle.std.proofs.lemmas.Bool.Decides.{nat_tests}
use Rattle.std.proofs.lemmas.List.{get_or-replicate, length-replicate, length-set}
use Rattle.std.proofs.lemmas.Slice.Eq.{bytes_eq-Decides}
use Rattle.file_model.specs.File.{File}
use Rattle.file_model.specs.Slots.{slot_at, slots_from, slots_of, is_in_use, slot_start}
use Rattle.file_model.specs.Operations.{Entry, entry_of}
use Rattle.file_model.specs.Reconcile.{Outcome, stays, writes, leaves_out, Reconciliation, reconcile, reconcile_file, is_used, is_at, mark_entries, marks_of}
use Rattle.file_model.proofs.Lookups.{length-slots_from, and_right}
use Rattle.file_model.proofs.Reconciling.{rest, rest_none, rest_stays, edits_first, edits_later}
use Rattle.file_image.specs.Lookup.{file_in}
use Rattle.file_image.specs.Outcomes.{is_shown, is_changed}
use Rattle.file_image.specs.Spared.{slots_after}
use Rattle.file_image.specs.Marks.{slot_of, with_mark, AreInUse, IsSameFor, Follows}
use Rattle.file_image.proofs.LaterFiles.{later, later_idle, later_shown, later_end}
use Rattle.file_image.proofs.Following.{IsApart, apart, same_set, use_set}
use Rattle.file_image.proofs.UsedBits.{used_slot}

-- the parent's slots before slot k of the child, with the marks so far
pub record IsMarked (b d : ℕ → ℕ) (marks : List Bool) (k : ℕ) : Type 0 where
  pub long : length marks ≡ 64
  pub slots : List (Option File)
  pub in_use : AreInUse slots b marks
  pub same : (name : List ℕ) (j : ℕ) → k ≤ j → is_at j (entry_of (slots_of d) name) ≡ true → AllZip (IsSameFor name) slots (slots_of b)
  pub later_marks : mark_entries marks (rest slots (later d k)).edits ≡ marks_of (reconcile (slots_of b) (slots_of d)).edits

-- ---- the beginning

index_slots : (b : ℕ → ℕ) (j n i : ℕ) → i < n → get_or (slots_from b j n) i None ≡ slot_at b (j + i)
unfolding slots_from
index_slots b j zero i h = absurd (omega arith)
index_slots b j (suc n) zero h = ap (slot_at b) (omega arith)
index_slots b j (suc n) (suc i) h = index_slots b (j + 1) n i (omega arith) ∙ ap (slot_at b) (omega arith)

or_false : (t : Bool) → t ≡ (t || false)
or_false true = refl
or_false false = refl

use_begin : (b : ℕ → ℕ) → AreInUse (slots_of b) b (replicate 64 false)
use_begin b = record {
  long = length-slots_from b 0 64;
  used = λ k h.
      let z : 0 + k ≡ k = omega arith in
      ap is_used (index_slots b 0 64 k h) ∙ ap (λ i. is_used (slot_at b i)) z ∙ used_slot b k ∙ or_false (is_in_use b (slot_start k))
      ∙ ap (λ m. is_in_use b (slot_start k) || m) (sym (get_or-replicate 64 k false false h));
}

same_begin : (name : List ℕ) (s : List (Option File)) → AllZip (IsSameFor name) s s
same_begin name [] = tt
same_begin name (x ∷ s) = (inl refl, same_begin name s)

pub marked_begin : (b d : ℕ → ℕ) → IsMarked b d (replicate 64 false) 0
marked_begin b d = record { long = length-replicate {A = Bool} 64 false; slots = slots_of b; in_use = use_begin b; same = λ name j l a. same_begin name (slots_of b); later_marks = refl }

-- ---- one slot

pub marked_idle : (b d : ℕ → ℕ) (marks : List Bool) (k : ℕ) → k < 64 → is_changed d k ≡ false → IsMarked b d marks k → IsMarked b d marks (k + 1)
marked_idle b d marks k h e m = record {
  long = m.long;
  slots = m.slots;
  in_use = m.in_use;
  same = λ name j l a. m.same name j (omega arith) a;
  later_marks = ap (λ (r : Reconciliation). mark_entries marks r.edits) (sym (later_idle m.slots d k h e)) ∙ m.later_marks;
}

pub idle_slots : (b d : ℕ → ℕ) (marks : List Bool) (k : ℕ) (h : k < 64) (e : is_changed d k ≡ false) (m : IsMarked b d marks k) → (marked_idle b d marks k h e m).slots ≡ m.slots
unfolding marked_idle
idle_slots b d marks k h e m = refl

pub begin_slots : (b d : ℕ → ℕ) → (marked_begin b d).slots ≡ slots_of b
unfolding marked_begin
begin_slots b d = refl

is_slot : (a b : ℕ) → (a == b) ≡ true → a ≡ b
is_slot a b h = grind (arith, nat_tests)

one_slot : (o : Option Entry) (j k : ℕ) → is_at j o ≡ true → is_at k o ≡ true → j ≡ k
one_slot None j k h i = cc
one_slot (Some e) j k h i = let p = is_slot e.slot j h in let q = is_slot e.slot k i in omega (arith, p, q)

differ : (t : Bool) (slots : List (Option File)) (a b : List ℕ) (j k : ℕ) → t ≡ bytes_eq a b → is_at j (entry_of slots a) ≡ true → is_at k (entry_of slots b) ≡ true → j < k → t ≡ false
differ false slots a b j k e h i l = refl
differ true slots a b j k e h i l =
    let s : a ≡ b = (bytes_eq-Decides a b).0 (sym e) in
    let n : j ≡ k = one_slot (entry_of slots b) j k (ap (λ x. is_at j (entry_of slots x)) (sym s) ∙ h) i in
    absurd (omega arith)

pub at_name : (d : ℕ → ℕ) (k : ℕ) → is_shown d k ≡ true → is_at k (entry_of (slots_of d) (file_in d k).name) ≡ true
at_name d k h = and_right (is_in_use d (slot_start k)) (is_at k (entry_of (slots_of d) (file_in d k).name)) h

-- the file of slot k has another name than each later one
pub other_name : (d : ℕ → ℕ) (k j : ℕ) (name : List ℕ) → is_shown d k ≡ true → k < j → is_at j (entry_of (slots_of d) name) ≡ true → bytes_eq (file_in d k).name name ≡ false
other_name d k j name h l a = differ (bytes_eq (file_in d k).name name) (slots_of d) (file_in d k).name name k j refl (at_name d k h) a l

marks_first : (marks : List Bool) (e : Entry) (es : List Entry) → mark_entries marks (e ∷ es) ≡ mark_entries (slice_set marks e.slot true) es
unfolding mark_entries
marks_first marks e es = refl

marked_after : (b d : ℕ → ℕ) (marks : List Bool) (k : ℕ) (o : Outcome) → k < 64 → is_shown d k ≡ true → (m : IsMarked b d marks k) → reconcile_file (file_in d k) m.slots ≡ o
    → ((name : List ℕ) → bytes_eq (file_in d k).name name ≡ false → IsApart name m.slots o) → IsMarked b d (with_mark marks (slot_of o)) (k + 1)
marked_after b d marks k stays h e m r p = record {
  long = m.long;
  slots = m.slots;
  in_use = m.in_use;
  same = λ name j n a. m.same name j (omega arith) a;
  later_marks = ap (λ x. mark_entries marks x.edits) (sym (rest_stays m.slots (file_in d k) (later d (k + 1)) r)) ∙ ap (λ cs. mark_entries marks (rest m.slots cs).edits) (sym (later_shown d k h e)) ∙ m.later_marks;
}
marked_after b d marks k (writes q) h e m r p = record {
  long = length-set marks q.slot true ∙ m.long;
  slots = slice_set m.slots q.slot (Some q.file);
  in_use = use_set m.slots b marks q.slot q.file m.long m.in_use;
  same = λ name j n a.
      let i = p name (other_name d k j name e (omega arith) a) in
      same_set name m.slots (slots_of b) q.slot q.file (m.same name j (omega arith) a) i.0 i.1;
  later_marks = sym (marks_first marks q (rest (slice_set m.slots q.slot (Some q.file)) (later d (k + 1))).edits)
      ∙ ap (mark_entries marks) (sym (edits_first m.slots (file_in d k) (later d (k + 1)) q r)) ∙ ap (λ cs. mark_entries marks (rest m.slots cs).edits) (sym (later_shown d k h e)) ∙ m.later_marks;
}
marked_after b d marks k leaves_out h e m r p = record {
  long = m.long;
  slots = m.slots;
  in_use = m.in_use;
  same = λ name j n a. m.same name j (omega arith) a;
  later_marks = ap (mark_entries marks) (sym (edits_later m.slots (file_in d k) (later d (k + 1)) r)) ∙ ap (λ cs. mark_entries marks (rest m.slots cs).edits) (sym (later_shown d k h e)) ∙ m.later_marks;
}

-- the slots are those after the file
slots_marked : (b d : ℕ → ℕ) (marks : List Bool) (k : ℕ) (o : Outcome) (h : k < 64) (e : is_shown d k ≡ true) (m : IsMarked b d marks k) (r : reconcile_file (file_in d k) m.slots ≡ o)
    (p : (name : List ℕ) → bytes_eq (file_in d k).name name ≡ false → IsApart name m.slots o) → (marked_after b d marks k o h e m r p).slots ≡ slots_after m.slots o
unfolding marked_after
slots_marked b d marks k stays h e m r p = refl
slots_marked b d marks k (writes q) h e m r p = refl
slots_marked b d marks k leaves_out h e m r p = refl

pub marked_shown : (b d : ℕ → ℕ) (marks : List Bool) (k : ℕ) → k < 64 → is_shown d k ≡ true → (m : IsMarked b d marks k)
    → IsMarked b d (with_mark marks (slot_of (reconcile_file (file_in d k) m.slots))) (k + 1)
marked_shown b d marks k h e m = marked_after b d marks k (reconcile_file (file_in d k) m.slots) h e m refl (λ name n. apart name m.slots (file_in d k) n)

pub marked_slots : (b d : ℕ → ℕ) (marks : List Bool) (k : ℕ) (h : k < 64) (e : is_shown d k ≡ true) (m : IsMarked b d marks k) → (marked_shown b d marks k h e m).slots ≡ slots_after m.slots (reconcile_file (file_in d k) m.slots)
unfolding marked_shown marked_after
marked_slots b d marks k h e m = slots_marked b d marks k (reconcile_file (file_in d k) m.slots) h e m refl (λ name n. apart name m.slots (file_in d k) n)

-- the slots by now, for the file of slot k
pub follows : (b d : ℕ → ℕ) (marks : List Bool) (k : ℕ) → is_shown d k ≡ true → (m : IsMarked b d marks k) → Follows b marks (file_in d k).name m.slots
follows b d marks k h m = record { in_use = m.in_use; same = m.same (file_in d k).name k (omega arith) (at_name d k h) }

-- ---- the end

pub marked_end : (b d : ℕ → ℕ) (marks : List Bool) (k : ℕ) → 64 ≤ k → IsMarked b d marks k → marks ≡ marks_of (reconcile (slots_of b) (slots_of d)).edits
unfolding mark_entries
marked_end b d marks k h m = sym (ap (λ cs. mark_entries marks (rest m.slots cs).edits) (later_end d k h) ∙ ap (λ x. mark_entries marks x.edits) (rest_none m.slots)) ∙ m.later_marks
