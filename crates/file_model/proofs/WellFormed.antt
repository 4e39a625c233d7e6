-- What a slot in use holds is a file that a slot can hold, and so is each file that a call or reconciling writes.
use Rattle.std.proofs.Common.{◌≡◌, ℕ, zero, suc, ◌+◌, ◌-◌, ◌^◌, ◌<◌, ◌≤◌, inl, inr, Bool, true, false, cond, List, [], ◌∷◌, ◌++◌, length, drop, get_or, refl, sym, subst, arith, get_or-drop}
use Rattle.std.specs.Prelude.{nat_le, ◌==◌}
use Rattle.std.proofs.lemmas.Bool.{cases_lt}
use Rattle.std.proofs.lemmas.Bool.Decides.{nat_tests}
use Rattle.std.proofs.lemmas.List.{get_or_append_left, get_or-append_right}
use Rattle.file_model.specs.Sizes.{greatest_length}
use Rattle.file_model.specs.File.{File, IsFile, AreBytes, is_name, next_version, with_base}
use Rattle.file_model.specs.Slots.{number_at, bytes_from, is_in_use, file_at}
use Rattle.file_model.specs.Operations.{new_file, revival, deleted_file, with_content, new_content}
use Rattle.file_model.specs.Reconcile.{joint_content, are_joinable, child_file, with_addition, with_conflict, after_both, after_child}
use Rattle.file_model.proofs.Bytes.{length-bytes_from, index-bytes_from}
use Rattle.file_model.proofs.Lookups.{short_content}
use Rattle.file_model.proofs.SlotHeaders.{named_in_use}
use Rattle.file_model.proofs.OtherSlots.{short_base}

-- ---- lists of bytes

pub no_bytes : AreBytes []
no_bytes i = omega arith

pub joined_bytes : (xs ys : List ℕ) → AreBytes xs → AreBytes ys → AreBytes (xs ++ ys)
joined_bytes xs ys f g i = elim (cases_lt i (length xs)) [
  | inl l ↦ subst (λ (n : ℕ). n < 256) (sym (get_or_append_left xs ys 0 i l)) (f i)
  | inr h ↦ subst (λ (n : ℕ). n < 256) (sym (get_or-append_right xs ys (length xs) i 0 refl h)) (g (i - length xs))
]

pub later_bytes : (n : ℕ) (xs : List ℕ) → AreBytes xs → AreBytes (drop n xs)
later_bytes n xs f i = subst (λ (m : ℕ). m < 256) (sym (get_or-drop n xs i 0)) (f (n + i))

past_end : (xs : List ℕ) (i : ℕ) → length xs ≤ i → get_or xs i 0 ≡ 0
past_end [] zero h = refl
past_end [] (suc i) h = refl
past_end (x ∷ xs) zero h = absurd (omega arith)
past_end (x ∷ xs) (suc i) h = past_end xs i (omega arith)

row_bytes : (b : ℕ → ℕ) (at n : ℕ) → ((a : ℕ) → b a < 256) → AreBytes (bytes_from b at n)
row_bytes b at n h i =
    let l : length (bytes_from b at n) ≡ n = length-bytes_from b at n in
    elim (cases_lt i n) [
      | inl g ↦ subst (λ (m : ℕ). m < 256) (sym (index-bytes_from b at n i g)) (h (at + i))
      | inr g ↦ subst (λ (m : ℕ). m < 256) (sym (past_end (bytes_from b at n) i (omega arith))) (omega arith)
    ]

-- ---- what a slot holds

number_below : (b : ℕ → ℕ) (at : ℕ) → ((a : ℕ) → b a < 256) → number_at b at < 2 ^ 32
number_below b at h = omega (arith, h at, h (at + 1), h (at + 2), h (at + 3))

pub file_well : (b : ℕ → ℕ) (s : ℕ) → ((a : ℕ) → b a < 256) → is_in_use b s ≡ true → IsFile (file_at b s)
unfolding file_at
file_well b s h u =
    let c = short_content b s u in
    let l = length-bytes_from b (s + 4096) (number_at b (s + 12)) in
    record {
      named = named_in_use b s u;
      name_bytes = row_bytes b (s + 28) (number_at b (s + 24)) h;
      version = number_below b (s + 4) h;
      base = number_below b (s + 8) h;
      length_at_base = short_base b s u;
      long = omega (arith, c, l);
      content_bytes = row_bytes b (s + 4096) (number_at b (s + 12)) h;
    }

-- ---- what is written

pub based_well : (f : File) → IsFile f → IsFile (with_base f)
based_well f h = record { named = h.named; name_bytes = h.name_bytes; version = h.version; base = h.version; length_at_base = h.long; long = h.long; content_bytes = h.content_bytes }

pub new_well : (name : List ℕ) (append : Bool) → is_name name ≡ true → AreBytes name → IsFile (new_file name append)
new_well name append n h = record { named = n; name_bytes = h; version = omega arith; base = omega arith; length_at_base = omega arith; long = omega arith; content_bytes = no_bytes }

pub next_below : (f : File) → next_version f < 2 ^ 32
next_below f = omega arith

pub revival_well : (f : File) (append : Bool) → IsFile f → IsFile (revival f append)
revival_well f append h = record { named = h.named; name_bytes = h.name_bytes; version = next_below f; base = h.base; length_at_base = h.length_at_base; long = omega arith; content_bytes = no_bytes }

pub deleted_well : (f : File) → IsFile f → IsFile (deleted_file f)
deleted_well f h = record { named = h.named; name_bytes = h.name_bytes; version = next_below f; base = h.base; length_at_base = h.length_at_base; long = omega arith; content_bytes = no_bytes }

content_new : (f : File) (bytes : List ℕ) (add : Bool) → IsFile f → AreBytes bytes → AreBytes (new_content f bytes add)
content_new f bytes true h b = joined_bytes f.content bytes h.content_bytes b
content_new f bytes false h b = b

pub with_content_well : (f : File) (bytes : List ℕ) (add : Bool) → IsFile f → AreBytes bytes → length (new_content f bytes add) ≤ greatest_length → IsFile (with_content bytes add f)
with_content_well f bytes add h b l = record { named = h.named; name_bytes = h.name_bytes; version = next_below f; base = h.base; length_at_base = h.length_at_base; long = l; content_bytes = content_new f bytes add h b }

-- ---- what reconciling writes

pub child_file_well : (c : File) (base length : ℕ) → IsFile c → base < 2 ^ 32 → length ≤ greatest_length → IsFile (child_file c base length)
child_file_well c base length h b l = record { named = h.named; name_bytes = h.name_bytes; version = h.version; base = b; length_at_base = l; long = h.long; content_bytes = h.content_bytes }

pub conflict_well : (p : File) → IsFile p → IsFile (with_conflict p)
conflict_well p i = record { named = i.named; name_bytes = i.name_bytes; version = next_below p; base = i.base; length_at_base = i.length_at_base; long = i.long; content_bytes = i.content_bytes }

short_joint : (c p : File) → are_joinable c p ≡ true → length (joint_content c p) ≤ greatest_length
short_joint c p e = let l : nat_le (length (joint_content c p)) greatest_length ≡ true = grind (arith, nat_tests) in grind (arith, nat_tests)

pub addition_well : (c p : File) → are_joinable c p ≡ true → IsFile c → IsFile p → IsFile (with_addition c p)
addition_well c p e h i = record {
  named = i.named;
  name_bytes = i.name_bytes;
  version = next_below p;
  base = i.base;
  length_at_base = i.length_at_base;
  long = short_joint c p e;
  content_bytes = joined_bytes p.content (drop c.length_at_base c.content) i.content_bytes (later_bytes c.length_at_base c.content h.content_bytes);
}

both_well : (t : Bool) (c p : File) → t ≡ are_joinable c p → IsFile c → IsFile p → IsFile (cond t (with_addition c p) (with_conflict p))
both_well true c p e h i = addition_well c p (sym e) h i
both_well false c p e h i = conflict_well p i

pub after_both_well : (c p : File) → IsFile c → IsFile p → IsFile (after_both c p)
after_both_well c p h i = both_well (are_joinable c p) c p refl h i

either_well : (t : Bool) (f g : File) → IsFile f → IsFile g → IsFile (cond t f g)
either_well true f g h i = h
either_well false f g h i = i

pub after_child_well : (c p : File) → IsFile c → IsFile p → IsFile (after_child c p)
after_child_well c p h i = either_well (p.version == c.base) (child_file c p.base p.length_at_base) (after_both c p) (child_file_well c p.base p.length_at_base h i.base i.length_at_base) (after_both_well c p h i)
