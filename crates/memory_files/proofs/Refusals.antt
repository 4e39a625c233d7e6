-- What a call that changes a file leaves, from the slot that it was told or why it is refused.
use Rattle.std.specs.Prelude.{◌≡◌, ℕ, ◌&&◌, ◌==◌, not, nat_le, nat_lt, Bool, true, false, List, length, take, drop, if◌then◌else◌, Option, Result, Ok, Err, IfOk}
use Rattle.std.specs.List.{list_any}
use Rattle.std.proofs.Common.{refl, sym, ◌∙◌, ap, subst}
use Rattle.memory_model.specs.Memory.{Memory, bytes_from}
use Rattle.memory_model.proofs.Runs.{length-bytes_from}
use Rattle.file_model.specs.declared.FileError.{FileError}
use Rattle.file_model.specs.declared.FileError.TheVariants.{BadName}
use Rattle.file_model.specs.Sizes.{greatest_name}
use Rattle.file_model.specs.File.{File, is_name}
use Rattle.file_model.specs.Operations.{Entry, create, delete, deleted_file, entry_of, get, length_of, make_at, present, put, rewrite, unless_conflicted, unless_deleted, usable, ◌>>=◌}
use Rattle.file_image.specs.Lookup.{entry_answer, put_answer, slot_answer}
use Rattle.space_mem.specs.Held.{Held, KeepsMarks, Marks}
use Rattle.space_mem.proofs.Dirty.{marks_refl, marks_then}
use Rattle.space_mem.proofs.Kept.{keeps_refl, keeps_then}
use Rattle.space_model.specs.Files.{change_result, part_result}
use Rattle.space_model.specs.declared.FileAnswer.{FileAnswer}
use Rattle.space_model.specs.declared.FileAnswer.TheVariants.{Refused}
use Rattle.memory_files.specs.Slots.{IsBesideSlot}
use Rattle.memory_files.specs.Answers.{HasResult, IsBesideEntry, IsBesidePart, IsFound, IsResult}

-- ---- a call that is refused

pub refused_change : {E : Type 0} (h : Held) (x : Result Entry FileError) (n : ℕ) (f : FileError) → Err f ≡ slot_answer x → HasResult {E = E} (change_result h.memory x) (Ok (Refused f)) h h (IsBesideEntry n x)
refused_change h (Ok e) n f told = cc
refused_change h (Err g) n f told =
    let same : f ≡ g = cc in
    record { answer = ap (λ (z : FileError). Refused z) same; memory = refl; err = tt; marks = marks_refl h; kept = λ page beside. keeps_refl h page; refused = λ is. refl; idle = λ is. refl }

pub refused_part : {E : Type 0} (h : Held) (addr : ℕ) (x : Result (List ℕ) FileError) (f : FileError) → x ≡ Err f → HasResult {E = E} (part_result h.memory addr x) (Ok (Refused f)) h h (IsBesidePart addr x)
refused_part h addr (Ok part) f told = cc
refused_part h addr (Err g) f told =
    let same : f ≡ g = cc in
    record { answer = ap (λ (z : FileError). Refused z) same; memory = refl; err = tt; marks = marks_refl h; kept = λ page beside. keeps_refl h page; refused = λ is. refl; idle = λ is. refl }

-- there is no memory for a part
pub lacking_part : {E : Type 0} (h : Held) (addr : ℕ) (x : Result (List ℕ) FileError) (err : E) → IsFound x → HasResult (part_result h.memory addr x) (Err err) h h (IsBesidePart addr x)
lacking_part h addr (Ok part) err found = record { answer = tt; memory = tt; err = refl; marks = marks_refl h; kept = λ page beside. keeps_refl h page; refused = λ is. absurd is; idle = λ is. absurd is }
lacking_part h addr (Err f) err found = absurd found

-- ---- one that is not: its slot is owned, and then written

-- the slot is ready that the call writes
pub slot_ready : (h g : Held) (r : Memory → Result Entry FileError) (k : ℕ) (P : ℕ → Type 0) → g.memory ≡ h.memory → Ok k ≡ slot_answer (r h.memory) → P k → IfOk (r g.memory) (λ e. P e.slot)
slot_ready h g r k P same told ready = subst (λ m. IfOk (r m) (λ e. P e.slot)) (sym same) (here (r h.memory) told)
  where
    here : (x : Result Entry FileError) → Ok k ≡ slot_answer x → IfOk x (λ e. P e.slot)
    here (Ok e) told = let same : k ≡ e.slot = cc in subst P same ready
    here (Err f) told = tt

done_here : {E : Type 0} (h g i : Held) (x : Result Entry FileError) (n k : ℕ) (a : FileAnswer) → Ok k ≡ slot_answer x → ((page : ℕ) → IsBesideSlot n k page → KeepsMarks h g page) → Marks h g
    → IsResult (change_result h.memory x) a g i → HasResult {E = E} (change_result h.memory x) (Ok a) h i (IsBesideEntry n x)
done_here h g i (Ok e) n k a told kept marks result =
    let same : k ≡ e.slot = cc in
    record {
      answer = result.answer;
      memory = result.memory;
      err = tt;
      marks = marks_then h g i marks result.marks;
      kept = λ page beside. keeps_then h g i page (kept page (subst (λ j. IsBesideSlot n j page) (sym same) beside)) (result.kept page);
      refused = λ is. absurd is;
      idle = λ is. absurd is;
    }
done_here h g i (Err f) n k a told kept marks result = cc

pub done_change : {E : Type 0} (h g i : Held) (r : Memory → Result Entry FileError) (n k : ℕ) (a : FileAnswer) → Ok k ≡ slot_answer (r h.memory) → g.memory ≡ h.memory → ((page : ℕ) → IsBesideSlot n k page → KeepsMarks h g page) → Marks h g
    → IsResult (change_result g.memory (r g.memory)) a g i → HasResult {E = E} (change_result h.memory (r h.memory)) (Ok a) h i (IsBesideEntry n (r h.memory))
done_change h g i r n k a told same kept marks result = done_here h g i (r h.memory) n k a told kept marks (subst (λ m. IsResult (change_result m (r m)) a g i) same result)

-- there is no memory for it
pub lacking_change : {E : Type 0} (h g : Held) (x : Result Entry FileError) (n k : ℕ) (err : E) → Ok k ≡ slot_answer x → g.memory ≡ h.memory → ((page : ℕ) → IsBesideSlot n k page → KeepsMarks h g page) → Marks h g
    → HasResult (change_result h.memory x) (Err err) h g (IsBesideEntry n x)
lacking_change h g (Ok e) n k err told same kept marks =
    let is : k ≡ e.slot = cc in
    record {
      answer = tt;
      memory = tt;
      err = same;
      marks = marks;
      kept = λ page beside. kept page (subst (λ j. IsBesideSlot n j page) (sym is) beside);
      refused = λ is. absurd is;
      idle = λ is. absurd is;
    }
lacking_change h g (Err f) n k err told same kept marks = cc

-- ---- what the tests tell, of an equal memory

pub told_slot : (h m : Held) (r : Memory → Result Entry FileError) (x : Result ℕ FileError) → m ≡ h → x ≡ slot_answer (r m.memory) → x ≡ slot_answer (r h.memory)
told_slot h m r x same told = told ∙ ap (λ (k : Held). slot_answer (r k.memory)) same

put_slot_answer : (b : ℕ → ℕ) (part : List ℕ) (add : Bool) (x : Result ℕ FileError) → x ≡ slot_answer (put_answer b part add x)
put_slot_answer b part add (Ok k) = refl
put_slot_answer b part add (Err f) = refl

pub told_put : (b : ℕ → ℕ) (part : List ℕ) (add : Bool) (r : Result Entry FileError) (x : Result ℕ FileError) → r ≡ put_answer b part add x → x ≡ slot_answer r
told_put b part add r x told = put_slot_answer b part add x ∙ sym (ap slot_answer told)

abbrev deletion : Entry → Result Entry FileError
deletion e = Ok (record e { file = deleted_file e.file })

told_delete_here : (slots : List (Option File)) (name : List ℕ) (b : ℕ → ℕ) (x : Result ℕ FileError) → present slots name ≡ entry_answer b x → slot_answer (delete slots name) ≡ x
told_delete_here slots name b (Ok k) told = ap (λ p. slot_answer (p >>= deletion)) told
told_delete_here slots name b (Err f) told = ap (λ p. slot_answer (p >>= deletion)) told

pub told_delete : (slots : List (Option File)) (name : List ℕ) (b : ℕ → ℕ) (x : Result ℕ FileError) → present slots name ≡ entry_answer b x → x ≡ slot_answer (delete slots name)
told_delete slots name b x told = sym (told_delete_here slots name b x told)

-- ---- a name of a length that no name has

not_all : (s t u : Bool) → (s && t) ≡ false → (s && t && u) ≡ false
not_all true true u none = cc
not_all true false u none = refl
not_all false t u none = refl

pub no_name : (m : Memory) (at n : ℕ) → (nat_lt 0 n && nat_le n greatest_name) ≡ false → is_name (bytes_from m at n) ≡ false
no_name m at n none = let b = bytes_from m at n in not_all (nat_lt 0 (length b)) (nat_le (length b) greatest_name) (not (list_any (λ k. k == 0) b)) (ap (λ k. nat_lt 0 k && nat_le k greatest_name) (length-bytes_from m at n) ∙ none)

pub no_create : (slots : List (Option File)) (name : List ℕ) (append : Bool) → is_name name ≡ false → create slots name append ≡ Err BadName
no_create slots name append none = ap (λ t. if t then make_at (entry_of slots name) slots name append else Err BadName) none

pub no_present : (slots : List (Option File)) (name : List ℕ) → is_name name ≡ false → present slots name ≡ Err BadName
no_present slots name none = ap (λ t. if t then unless_deleted (entry_of slots name) else Err BadName) none

no_usable : (slots : List (Option File)) (name : List ℕ) → is_name name ≡ false → usable slots name ≡ Err BadName
no_usable slots name none = ap (λ p. p >>= unless_conflicted) (no_present slots name none)

pub no_put : (slots : List (Option File)) (name part : List ℕ) (add : Bool) → is_name name ≡ false → put slots name part add ≡ Err BadName
no_put slots name part add none = ap (λ u. u >>= rewrite part add) (no_usable slots name none)

pub no_delete : (slots : List (Option File)) (name : List ℕ) → is_name name ≡ false → delete slots name ≡ Err BadName
no_delete slots name none = ap (λ p. p >>= deletion) (no_present slots name none)

pub no_get : (slots : List (Option File)) (name : List ℕ) (offset count : ℕ) → is_name name ≡ false → get slots name offset count ≡ Err BadName
no_get slots name offset count none = ap (λ u. u >>= (λ e. Ok (take count (drop offset e.file.content)))) (no_usable slots name none)

pub no_length : (slots : List (Option File)) (name : List ℕ) → is_name name ≡ false → length_of slots name ≡ Err BadName
no_length slots name none = ap (λ u. u >>= (λ e. Ok (length e.file.content))) (no_usable slots name none)

-- a call whose name is none
pub unnamed_change : {E : Type 0} (h : Held) (x : Result Entry FileError) (n : ℕ) → x ≡ Err BadName → HasResult {E = E} (change_result h.memory x) (Ok (Refused BadName)) h h (IsBesideEntry n x)
unnamed_change h x n is = refused_change h x n BadName (sym (ap slot_answer is))
