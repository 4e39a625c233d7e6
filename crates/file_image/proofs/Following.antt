-- The parent's slots while its child's files are reconciled, known by the slots that were written.
use Rattle.std.proofs.Common.{◌≡◌, ℕ, zero, suc, ◌+◌, ◌-◌, ◌<◌, ◌≤◌, inl, inr, Bool, true, false, cond, not, List, [], ◌∷◌, length, drop, get_or, refl, ap, sym, ◌∙◌, arith, drop-cons, Option, Some, None}
use Rattle.std.specs.Prelude.{◌&&◌, ◌||◌, ◌==◌, slice_set, IfSome, ⊤}
use Rattle.std.specs.List.{AllZip}
use Rattle.std.specs.Str.{bytes_eq}
use Rattle.std.proofs.lemmas.Bool.{cases_order}
use Rattle.std.proofs.lemmas.List.{get_or-set_same, get_or-set_other, length-set}
use Rattle.std.proofs.lemmas.Slice.Eq.{bytes_eq-Decides}
use Rattle.file_model.specs.File.{File}
use Rattle.file_model.specs.Slots.{slots_of, is_in_use, slot_start}
use Rattle.file_model.specs.Operations.{Entry, entry_from, entry_of, free_from, lowest_free}
use Rattle.file_model.specs.Reconcile.{Outcome, stays, writes, leaves_out, reconcile_file, against, arrival, after_child, after_both, child_file, with_addition, with_conflict, are_joinable, is_used}
use Rattle.file_image.specs.Lookup.{holds}
use Rattle.file_image.specs.Marks.{slot_of, AreInUse, IsSameFor, Follows}
use Rattle.file_image.proofs.Looking.{entry_other}

-- ---- the lowest slot that is free by now

free_used : (x : Option File) (k : ℕ) (xs : List (Option File)) → is_used x ≡ true → free_from k (x ∷ xs) ≡ free_from (k + 1) xs
unfolding free_from
free_used None k xs h = cc
free_used (Some f) k xs h = refl

free_unused : (x : Option File) (k : ℕ) (xs : List (Option File)) → is_used x ≡ false → free_from k (x ∷ xs) ≡ Some k
unfolding free_from
free_unused None k xs h = refl
free_unused (Some f) k xs h = cc

either : (u m : Bool) → (not u && not m) ≡ false → (u || m) ≡ true
either true m h = refl
either false true h = refl
either false false h = sym h

neither : (u m : Bool) → (not u && not m) ≡ true → (u || m) ≡ false
neither true m h = sym h
neither false true h = sym h
neither false false h = refl

slots_first : (s : List (Option File)) (k : ℕ) → k < length s → drop k s ≡ get_or s k None ∷ drop (k + 1) s
slots_first s k h = let e : suc k ≡ k + 1 = omega arith in drop-cons s k None h ∙ ap (λ j. get_or s k None ∷ drop j s) e

pub unmarked_next : (s : List (Option File)) (b : ℕ → ℕ) (marks : List Bool) (k : ℕ) → AreInUse s b marks → k < 64 → (not (is_in_use b (slot_start k)) && not (get_or marks k false)) ≡ false
    → free_from k (drop k s) ≡ free_from (k + 1) (drop (k + 1) s)
unmarked_next s b marks k h l e =
    ap (free_from k) (slots_first s k (omega (arith, h.long)))
    ∙ free_used (get_or s k None) k (drop (k + 1) s) (h.used k l ∙ either (is_in_use b (slot_start k)) (get_or marks k false) e)

pub unmarked_here : (s : List (Option File)) (b : ℕ → ℕ) (marks : List Bool) (k : ℕ) → AreInUse s b marks → k < 64 → (not (is_in_use b (slot_start k)) && not (get_or marks k false)) ≡ true
    → free_from k (drop k s) ≡ Some k
unmarked_here s b marks k h l e =
    ap (free_from k) (slots_first s k (omega (arith, h.long)))
    ∙ free_unused (get_or s k None) k (drop (k + 1) s) (h.used k l ∙ neither (is_in_use b (slot_start k)) (get_or marks k false) e)

no_slots : (s : List (Option File)) (k j : ℕ) → length s ≤ k → free_from j (drop k s) ≡ None
unfolding free_from
no_slots [] zero j h = refl
no_slots [] (suc k) j h = refl
no_slots (x ∷ s) zero j h = absurd (omega arith)
no_slots (x ∷ s) (suc k) j h = no_slots s k j (omega arith)

pub unmarked_end : (s : List (Option File)) (b : ℕ → ℕ) (marks : List Bool) (k : ℕ) → AreInUse s b marks → 64 ≤ k → free_from k (drop k s) ≡ None
unmarked_end s b marks k h l = no_slots s k k (omega (arith, h.long))

-- ---- a name's file by now

entry_tail : (k : ℕ) (y : Option File) (s t : List (Option File)) (name : List ℕ) → entry_from (k + 1) s name ≡ entry_from (k + 1) t name → entry_from k (y ∷ s) name ≡ entry_from k (y ∷ t) name
unfolding entry_from
entry_tail k None s t name e = e
entry_tail k (Some f) s t name e = ap (cond (bytes_eq f.name name) (Some (record { slot = k; file = f }))) e

pub entry_same : (k : ℕ) (s t : List (Option File)) (name : List ℕ) → AllZip (IsSameFor name) s t → entry_from k s name ≡ entry_from k t name
entry_same k [] [] name h = refl
entry_same k [] (y ∷ t) name h = absurd h
entry_same k (x ∷ s) [] name h = absurd h
entry_same k (x ∷ s) (y ∷ t) name h =
    let r : entry_from (k + 1) s name ≡ entry_from (k + 1) t name = entry_same (k + 1) s t name h.1 in
    elim h.0 [
      | inl e ↦ ap (λ z. entry_from k (z ∷ s) name) e ∙ entry_tail k y s t name r
      | inr n ↦ entry_other k x s name n.0 ∙ r ∙ sym (entry_other k y t name n.1)
    ]

-- ---- the slot of one file

abbrev pub slot_or : Option Entry → Option ℕ → Option ℕ
slot_or None k = k
slot_or (Some e) k = Some e.slot

arrival_slot : (c : File) (k : Option ℕ) → slot_of (arrival c k) ≡ k
arrival_slot c None = refl
arrival_slot c (Some k) = refl

against_slot : (c : File) (o : Option Entry) (s : List (Option File)) → slot_of (against c o s) ≡ slot_or o (lowest_free s)
against_slot c None s = arrival_slot c (lowest_free s)
against_slot c (Some e) s = refl

pub slot_against : (b : ℕ → ℕ) (marks : List Bool) (c : File) (s : List (Option File)) → Follows b marks c.name s
    → slot_of (against c (entry_of s c.name) s) ≡ slot_or (entry_of (slots_of b) c.name) (lowest_free s)
slot_against b marks c s h = against_slot c (entry_of s c.name) s ∙ ap (λ o. slot_or o (lowest_free s)) (entry_same 0 s (slots_of b) c.name h.same)

-- ---- what one file writes is nothing to another name

-- the slot that is written has no file of this name, before or after
abbrev pub IsApart : List ℕ → List (Option File) → Outcome → Type 0
IsApart name s stays = ⊤
IsApart name s (writes e) = (holds name (get_or s e.slot None) ≡ false) × (bytes_eq e.file.name name ≡ false)
IsApart name s leaves_out = ⊤

pub record IsFree (s : List (Option File)) (j k : ℕ) : Type 0 where
  pub from : j ≤ k
  pub free : get_or s (k - j) None ≡ None

some_free : (x : Option File) (s : List (Option File)) (j : ℕ) (o : Option ℕ) → IfSome o (IsFree s (j + 1)) → IfSome o (IsFree (x ∷ s) j)
some_free x s j None h = tt
some_free x s j (Some k) h =
    let f = h.from in
    let e : k - j ≡ suc (k - (j + 1)) = omega (arith, f) in
    record { from = omega (arith, f); free = ap (λ i. get_or (x ∷ s) i None) e ∙ h.free }

pub free_is : (s : List (Option File)) (j : ℕ) → IfSome (free_from j s) (IsFree s j)
unfolding free_from
free_is [] j = tt
free_is (None ∷ s) j = let e : j - j ≡ 0 = omega arith in record { from = omega arith; free = ap (λ i. get_or (None ∷ s) i None) e }
free_is (Some f ∷ s) j = some_free (Some f) s j (free_from (j + 1) s) (free_is s (j + 1))

pub record IsEntry (s : List (Option File)) (j : ℕ) (name : List ℕ) (e : Entry) : Type 0 where
  pub from : j ≤ e.slot
  pub file : get_or s (e.slot - j) None ≡ Some e.file
  pub named : bytes_eq e.file.name name ≡ true

some_entry : (x : Option File) (s : List (Option File)) (j : ℕ) (name : List ℕ) (o : Option Entry) → IfSome o (IsEntry s (j + 1) name) → IfSome o (IsEntry (x ∷ s) j name)
some_entry x s j name None h = tt
some_entry x s j name (Some e) h =
    let f = h.from in
    let k : e.slot - j ≡ suc (e.slot - (j + 1)) = omega (arith, f) in
    record { from = omega (arith, f); file = ap (λ i. get_or (x ∷ s) i None) k ∙ h.file; named = h.named }

first_entry : (t : Bool) (f : File) (s : List (Option File)) (j : ℕ) (name : List ℕ) (o : Option Entry) → t ≡ bytes_eq f.name name → IfSome o (IsEntry s (j + 1) name)
    → IfSome (cond t (Some (record { slot = j; file = f })) o) (IsEntry (Some f ∷ s) j name)
first_entry true f s j name o e h = let z : j - j ≡ 0 = omega arith in record { from = omega arith; file = ap (λ i. get_or (Some f ∷ s) i None) z; named = sym e }
first_entry false f s j name o e h = some_entry (Some f) s j name o h

pub entry_is : (s : List (Option File)) (j : ℕ) (name : List ℕ) → IfSome (entry_from j s name) (IsEntry s j name)
unfolding entry_from
entry_is [] j name = tt
entry_is (None ∷ s) j name = some_entry None s j name (entry_from (j + 1) s name) (entry_is s (j + 1) name)
entry_is (Some f ∷ s) j name = first_entry (bytes_eq f.name name) f s j name (entry_from (j + 1) s name) refl (entry_is s (j + 1) name)

same_name : (a b : List ℕ) → bytes_eq a b ≡ true → a ≡ b
same_name a b h = (bytes_eq-Decides a b).0 h

either_name : (t : Bool) (f g : File) → f.name ≡ g.name → (cond t f g).name ≡ g.name
either_name true f g h = h
either_name false f g h = refl

-- the new file has the name
name_stays : (c p : File) → c.name ≡ p.name → (after_child c p).name ≡ p.name
name_stays c p h =
    either_name (p.version == c.base) (child_file c p.base p.length_at_base) (after_both c p) (h ∙ sym (either_name (are_joinable c p) (with_addition c p) (with_conflict p) refl)) ∙ either_name (are_joinable c p) (with_addition c p) (with_conflict p) refl

apart_arrival : (name : List ℕ) (s : List (Option File)) (c : File) (k : Option ℕ) → bytes_eq c.name name ≡ false → IfSome k (IsFree s 0) → IsApart name s (arrival c k)
apart_arrival name s c None h f = tt
apart_arrival name s c (Some k) h f =
    let z : k ≡ k - 0 = omega arith in
    (ap (λ i. holds name (get_or s i None)) z ∙ ap (holds name) f.free, h)

apart_against : (name : List ℕ) (s : List (Option File)) (c : File) (o : Option Entry) → bytes_eq c.name name ≡ false → IfSome o (IsEntry s 0 c.name) → IsApart name s (against c o s)
apart_against name s c None h i = apart_arrival name s c (lowest_free s) h (free_is s 0)
apart_against name s c (Some e) h i =
    let z : e.slot ≡ e.slot - 0 = omega arith in
    let n : e.file.name ≡ c.name = same_name e.file.name c.name i.named in
    let p : bytes_eq e.file.name name ≡ false = ap (λ m. bytes_eq m name) n ∙ h in
    (ap (λ j. holds name (get_or s j None)) z ∙ ap (holds name) i.file ∙ p, ap (λ m. bytes_eq m name) (name_stays c e.file (sym n)) ∙ p)

apart_or : (t : Bool) (name : List ℕ) (s : List (Option File)) (o : Outcome) → IsApart name s o → IsApart name s (cond t stays o)
apart_or true name s o h = tt
apart_or false name s o h = h

pub apart : (name : List ℕ) (s : List (Option File)) (c : File) → bytes_eq c.name name ≡ false → IsApart name s (reconcile_file c s)
apart name s c h = apart_or (c.version == c.base) name s (against c (entry_of s c.name) s) (apart_against name s c (entry_of s c.name) h (entry_is s 0 c.name))

-- ---- the slots after one file

pub same_set : (name : List ℕ) (s t : List (Option File)) (k : ℕ) (f : File) → AllZip (IsSameFor name) s t → holds name (get_or s k None) ≡ false → bytes_eq f.name name ≡ false → AllZip (IsSameFor name) (slice_set s k (Some f)) t
same_set name [] t k f h n m = h
same_set name (x ∷ s) [] k f h n m = absurd h
same_set name (x ∷ s) (y ∷ t) zero f h n m = (inr (m, elim h.0 [ inl e ↦ ap (holds name) (sym e) ∙ n | inr p ↦ p.1 ]), h.1)
same_set name (x ∷ s) (y ∷ t) (suc k) f h n m = (h.0, same_set name s t k f h.1 n m)

marked : (u : Bool) → true ≡ (u || true)
marked true = refl
marked false = refl

pub use_set : (s : List (Option File)) (b : ℕ → ℕ) (marks : List Bool) (k : ℕ) (f : File) → length marks ≡ 64 → AreInUse s b marks → AreInUse (slice_set s k (Some f)) b (slice_set marks k true)
use_set s b marks k f l h = record {
  long = length-set s k (Some f) ∙ h.long;
  used = λ j i. elim (cases_order j k) [
    | inl e ↦
        let a : k < length s = omega (arith, h.long) in
        let c : k < length marks = omega (arith, l) in
        ap (λ n. is_used (get_or (slice_set s k (Some f)) n None)) e ∙ ap is_used (get_or-set_same s k (Some f) None a)
        ∙ marked (is_in_use b (slot_start j)) ∙ ap (λ m. is_in_use b (slot_start j) || m) (sym (ap (λ n. get_or (slice_set marks k true) n false) e ∙ get_or-set_same marks k true false c))
    | inr o ↦
        let d : j ≡ k → ⊥ = λ e. omega arith in
        ap is_used (get_or-set_other s k j (Some f) None d) ∙ h.used j i ∙ ap (λ m. is_in_use b (slot_start j) || m) (sym (get_or-set_other marks k j true false d))
  ];
}
