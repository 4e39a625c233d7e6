-- Reconciling a child's files one after the other.
use Rattle.std.proofs.Common.{◌≡◌, ℕ, suc, ◌+◌, ◌-◌, ◌<◌, ◌≤◌, Bool, true, false, not, cond, List, [], ◌∷◌, refl, ap, sym, subst, ◌∙◌, arith, Option, Some, None}
use Rattle.std.specs.Prelude.{◌==◌, ◌&&◌, slice_set}
use Rattle.std.proofs.lemmas.Bool.{false≢true}
use Rattle.std.specs.List.{All}
use Rattle.file_model.specs.File.{File, IsFile}
use Rattle.file_model.specs.Slots.{slot_at, slots_from, slots_of, is_in_use, slot_start, with_slot}
use Rattle.file_model.specs.Operations.{Entry, entry_of}
use Rattle.file_model.specs.Reconcile.{Outcome, stays, writes, leaves_out, Reconciliation, reconcile_file, against, shown_from, is_at, with_entries}
use Rattle.file_model.proofs.Lookups.{slots_next}
use Rattle.file_model.proofs.OtherSlots.{slots_written}
use Rattle.file_model.proofs.Reconciling.{rest, rest_none, rest_stays, edits_first, left_out_later, edits_later, left_out_first, WritesFile, outcome_well}
use Rattle.file_model.proofs.WellFormed.{file_well}
use Rattle.file_image.specs.Lookup.{file_in, HasFile}
use Rattle.file_image.specs.Spared.{slots_after}
use Rattle.file_image.specs.Outcomes.{Happens, IsReadyFor, AreReady, is_shown, is_changed}

-- ---- the files from slot k on that no lower slot hides

abbrev pub later : (ℕ → ℕ) → ℕ → List File
later d k = shown_from (slots_of d) k (slots_from d k (64 - k))

shown_choice : (t : Bool) (all : List (Option File)) (k : ℕ) (f : File) (slots : List (Option File))
    → shown_from all k (cond t (Some f) None ∷ slots) ≡ cond (t && is_at k (entry_of all f.name)) (f ∷ shown_from all (k + 1) slots) (shown_from all (k + 1) slots)
unfolding shown_from
shown_choice true all k f slots = refl
shown_choice false all k f slots = refl

pub later_next : (d : ℕ → ℕ) (k : ℕ) → k < 64 → later d k ≡ cond (is_shown d k) (file_in d k ∷ later d (k + 1)) (later d (k + 1))
unfolding slot_at
later_next d k h = ap (shown_from (slots_of d) k) (slots_next d k 64 h) ∙ shown_choice (is_in_use d (slot_start k)) (slots_of d) k (file_in d k) (slots_from d (k + 1) (64 - (k + 1)))

pub later_hidden : (d : ℕ → ℕ) (k : ℕ) → k < 64 → is_shown d k ≡ false → later d k ≡ later d (k + 1)
later_hidden d k h e = later_next d k h ∙ ap (λ t. cond t (file_in d k ∷ later d (k + 1)) (later d (k + 1))) e

pub later_shown : (d : ℕ → ℕ) (k : ℕ) → k < 64 → is_shown d k ≡ true → later d k ≡ file_in d k ∷ later d (k + 1)
later_shown d k h e = later_next d k h ∙ ap (λ t. cond t (file_in d k ∷ later d (k + 1)) (later d (k + 1))) e

-- ---- those that were changed since their base

shown_if : (u v a : Bool) → (u && (v && a)) ≡ true → (u && a) ≡ true
shown_if true true a h = h
shown_if true false a h = absurd (false≢true h)
shown_if false v a h = absurd (false≢true h)

other_if : (u v a : Bool) → (u && (not v && a)) ≡ true → v ≡ false
other_if true true a h = absurd (false≢true h)
other_if true false a h = refl
other_if false v a h = absurd (false≢true h)

idle_choice : (u v a : Bool) (s : List (Option File)) (c : File) (cs : List File) → v ≡ (c.version == c.base) → (u && (not v && a)) ≡ false → rest s (cond (u && a) (c ∷ cs) cs) ≡ rest s cs
idle_choice true true true s c cs e h = rest_stays s c cs (ap (λ t. cond t stays (against c (entry_of s c.name) s)) (sym e))
idle_choice true true false s c cs e h = refl
idle_choice true false true s c cs e h = absurd (false≢true (sym h))
idle_choice true false false s c cs e h = refl
idle_choice false v a s c cs e h = refl

-- a file that is hidden, or as it was at its base, does nothing
pub later_idle : (s : List (Option File)) (d : ℕ → ℕ) (k : ℕ) → k < 64 → is_changed d k ≡ false → rest s (later d k) ≡ rest s (later d (k + 1))
later_idle s d k h e =
    ap (rest s) (later_next d k h)
    ∙ idle_choice (is_in_use d (slot_start k)) ((file_in d k).version == (file_in d k).base) (is_at k (entry_of (slots_of d) (file_in d k).name)) s (file_in d k) (later d (k + 1)) refl e

pub changed_shown : (d : ℕ → ℕ) (k : ℕ) → is_changed d k ≡ true → is_shown d k ≡ true
changed_shown d k h = shown_if (is_in_use d (slot_start k)) (not ((file_in d k).version == (file_in d k).base)) (is_at k (entry_of (slots_of d) (file_in d k).name)) h

-- one that was changed is told by the parent's file of its name
pub changed_against : (s : List (Option File)) (d : ℕ → ℕ) (k : ℕ) → is_changed d k ≡ true → reconcile_file (file_in d k) s ≡ against (file_in d k) (entry_of s (file_in d k).name) s
changed_against s d k h =
    ap (λ t. cond t stays (against (file_in d k) (entry_of s (file_in d k).name) s))
    (other_if (is_in_use d (slot_start k)) ((file_in d k).version == (file_in d k).base) (is_at k (entry_of (slots_of d) (file_in d k).name)) h)

pub later_end : (d : ℕ → ℕ) (k : ℕ) → 64 ≤ k → later d k ≡ []
unfolding shown_from slots_from
later_end d k h = let e : 64 - k ≡ 0 = omega arith in ap (λ n. shown_from (slots_of d) k (slots_from d k n)) e

-- ---- one file

-- what is left to do on the parent's bytes after one file
record Goes (b n : ℕ → ℕ) (c : File) (cs : List File) (out : Bool) : Type 0 where
  bytes : with_entries b (rest (slots_of b) (c ∷ cs)).edits ≡ with_entries n (rest (slots_of n) cs).edits
  left_out : (rest (slots_of b) (c ∷ cs)).left_out ≡ cond out 1 0 + (rest (slots_of n) cs).left_out
  ready : (ready : ℕ → Bool) → AreReady ready (rest (slots_of b) (c ∷ cs)) → AreReady ready (rest (slots_of n) cs)
  slots : slots_of n ≡ slots_after (slots_of b) (reconcile_file c (slots_of b))

entries_first : (b : ℕ → ℕ) (e : Entry) (es : List Entry) → with_entries b (e ∷ es) ≡ with_entries (with_slot b e.slot e.file) es
unfolding with_entries
entries_first b e es = refl

ready_first : (ready : ℕ → Bool) (e : Entry) (es : List Entry) → All (λ (e : Entry). ready e.slot ≡ true) (e ∷ es) → ready e.slot ≡ true
ready_first ready e es h = h 0 e (omega arith)

ready_later : (ready : ℕ → Bool) (e : Entry) (es : List Entry) → All (λ (e : Entry). ready e.slot ≡ true) (e ∷ es) → All (λ (e : Entry). ready e.slot ≡ true) es
ready_later ready e es h = λ k d l. h (suc k) d (omega arith)

goes_on : (b n : ℕ → ℕ) (c : File) (cs : List File) → reconcile_file c (slots_of b) ≡ stays → n ≡ b → Goes b n c cs false
goes_on b n c cs h e =
    let same : rest (slots_of b) (c ∷ cs) ≡ rest (slots_of n) cs = rest_stays (slots_of b) c cs h ∙ ap (λ (x : ℕ → ℕ). rest (slots_of x) cs) (sym e) in
    let z : (rest (slots_of n) cs).left_out ≡ 0 + (rest (slots_of n) cs).left_out = omega arith in
    record {
      bytes = λ i. with_entries (sym e i) (same i).edits;
      left_out = ap (λ (r : Reconciliation). r.left_out) same ∙ z;
      ready = λ ready a. subst (AreReady ready) same a;
      slots = ap slots_of e ∙ ap (slots_after (slots_of b)) (sym h);
    }

goes_without : (b n : ℕ → ℕ) (c : File) (cs : List File) → reconcile_file c (slots_of b) ≡ leaves_out → n ≡ b → Goes b n c cs true
goes_without b n c cs h e =
    let r : rest (slots_of b) cs ≡ rest (slots_of n) cs = ap (λ (x : ℕ → ℕ). rest (slots_of x) cs) (sym e) in
    let same : (rest (slots_of b) (c ∷ cs)).edits ≡ (rest (slots_of n) cs).edits = edits_later (slots_of b) c cs h ∙ ap (λ (r : Reconciliation). r.edits) r in
    record {
      bytes = λ i. with_entries (sym e i) (same i);
      left_out = left_out_first (slots_of b) c cs h ∙ ap (λ (r : Reconciliation). 1 + r.left_out) r;
      ready = λ ready a. subst (All (λ (e : Entry). ready e.slot ≡ true)) same a;
      slots = ap slots_of e ∙ ap (slots_after (slots_of b)) (sym h);
    }

goes_written : (b n : ℕ → ℕ) (c : File) (cs : List File) (e : Entry) → reconcile_file c (slots_of b) ≡ writes e → IsFile e.file → n ≡ with_slot b e.slot e.file → Goes b n c cs false
goes_written b n c cs e h f w =
    let s : slice_set (slots_of b) e.slot (Some e.file) ≡ slots_of n = sym (slots_written b e.slot e.file f) ∙ ap slots_of (sym w) in
    let same : (rest (slots_of b) (c ∷ cs)).edits ≡ e ∷ (rest (slots_of n) cs).edits = edits_first (slots_of b) c cs e h ∙ ap (λ x. e ∷ (rest x cs).edits) s in
    let z : (rest (slots_of n) cs).left_out ≡ 0 + (rest (slots_of n) cs).left_out = omega arith in
    record {
      bytes = ap (with_entries b) same ∙ entries_first b e (rest (slots_of n) cs).edits ∙ ap (λ (x : ℕ → ℕ). with_entries x (rest (slots_of n) cs).edits) (sym w);
      left_out = left_out_later (slots_of b) c cs e h ∙ ap (λ x. (rest x cs).left_out) s ∙ z;
      ready = λ ready a. ready_later ready e (rest (slots_of n) cs).edits (subst (All (λ (e : Entry). ready e.slot ≡ true)) same a);
      slots = sym s ∙ ap (slots_after (slots_of b)) (sym h);
    }

goes : (b n : ℕ → ℕ) (c : File) (cs : List File) (o : Outcome) (out : Bool) → reconcile_file c (slots_of b) ≡ o → WritesFile o → Happens o out b n → Goes b n c cs out
goes b n c cs stays false h f w = goes_on b n c cs h w
goes b n c cs stays true h f w = absurd w
goes b n c cs (writes e) false h f w = goes_written b n c cs e h f w
goes b n c cs (writes e) true h f w = absurd w
goes b n c cs leaves_out false h f w = absurd w
goes b n c cs leaves_out true h f w = goes_without b n c cs h w

-- the slot that the next file writes is ready
ready_now : (ready : ℕ → Bool) (s : List (Option File)) (c : File) (cs : List File) (o : Outcome) → reconcile_file c s ≡ o → AreReady ready (rest s (c ∷ cs)) → IsReadyFor ready o
ready_now ready s c cs stays h a = tt
ready_now ready s c cs (writes e) h a = ready_first ready e (rest (slice_set s e.slot (Some e.file)) cs).edits (subst (All (λ (e : Entry). ready e.slot ≡ true)) (edits_first s c cs e h) a)
ready_now ready s c cs leaves_out h a = tt

-- what is left to do after slot k was passed
pub record Turns (b n d : ℕ → ℕ) (k : ℕ) (out : Bool) : Type 0 where
  pub bytes : with_entries b (rest (slots_of b) (later d k)).edits ≡ with_entries n (rest (slots_of n) (later d (k + 1))).edits
  pub left_out : (rest (slots_of b) (later d k)).left_out ≡ cond out 1 0 + (rest (slots_of n) (later d (k + 1))).left_out
  pub ready : (ready : ℕ → Bool) → AreReady ready (rest (slots_of b) (later d k)) → AreReady ready (rest (slots_of n) (later d (k + 1)))
  pub slots : slots_of n ≡ slots_after (slots_of b) (reconcile_file (file_in d k) (slots_of b))

pub turns : (b n d : ℕ → ℕ) (k : ℕ) (out : Bool) → ((a : ℕ) → b a < 256) → ((a : ℕ) → d a < 256) → HasFile d k → is_shown d k ≡ true
    → Happens (reconcile_file (file_in d k) (slots_of b)) out b n → Turns b n d k out
turns b n d k out small small_child u h w =
    let l : later d k ≡ file_in d k ∷ later d (k + 1) = later_shown d k u.within h in
    let g = goes b n (file_in d k) (later d (k + 1)) (reconcile_file (file_in d k) (slots_of b)) out refl (outcome_well b (file_in d k) small (file_well d (slot_start k) small_child u.used)) w in
    record {
      bytes = ap (λ cs. with_entries b (rest (slots_of b) cs).edits) l ∙ g.bytes;
      left_out = ap (λ cs. (rest (slots_of b) cs).left_out) l ∙ g.left_out;
      ready = λ ready a. g.ready ready (subst (λ cs. AreReady ready (rest (slots_of b) cs)) l a);
      slots = g.slots;
    }

-- the slot that the file of slot k writes is ready
pub ready_here : (ready : ℕ → Bool) (s : List (Option File)) (d : ℕ → ℕ) (k : ℕ) → k < 64 → is_shown d k ≡ true → AreReady ready (rest s (later d k)) → IsReadyFor ready (reconcile_file (file_in d k) s)
ready_here ready s d k l h a =
    ready_now ready s (file_in d k) (later d (k + 1)) (reconcile_file (file_in d k) s) refl (subst (λ cs. AreReady ready (rest s cs)) (later_shown d k l h) a)

-- ---- the end

pub nothing_left : (b d : ℕ → ℕ) (k : ℕ) → 64 ≤ k → with_entries b (rest (slots_of b) (later d k)).edits ≡ b
unfolding with_entries
nothing_left b d k h = ap (λ cs. with_entries b (rest (slots_of b) cs).edits) (later_end d k h) ∙ ap (λ (r : Reconciliation). with_entries b r.edits) (rest_none (slots_of b))

pub none_left_out : (s : List (Option File)) (d : ℕ → ℕ) (k : ℕ) → 64 ≤ k → (rest s (later d k)).left_out ≡ 0
none_left_out s d k h = ap (λ cs. (rest s cs).left_out) (later_end d k h) ∙ ap (λ (r : Reconciliation). r.left_out) (rest_none s)
