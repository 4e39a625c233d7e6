-- What the marks of reconciling tell: where each slot that is marked is ready, so is each slot that is written.
use Rattle.std.proofs.Common.{◌≡◌, ℕ, zero, suc, ◌+◌, ◌*◌, ◌/◌, ◌%◌, ◌^◌, ◌<◌, ◌≤◌, Bool, true, false, cond, List, [], ◌∷◌, length, get_or, refl, ap, sym, subst, ◌∙◌, arith, Option, Some, None}
use Rattle.std.specs.Prelude.{slice_set, replicate, IfSome, ⊤, ◌==◌}
use Rattle.std.specs.List.{All}
use Rattle.std.specs.Str.{bytes_eq}
use Rattle.std.proofs.Math.Nat.{pow-succ', zero-div, div-div-eq-div-mul}
use Rattle.std.proofs.lemmas.List.{get_or-set_same, length-set, length-replicate}
use Rattle.file_model.specs.File.{File}
use Rattle.file_model.specs.Slots.{slots_of}
use Rattle.file_model.specs.Operations.{Entry, entry_from, entry_of, free_from, lowest_free}
use Rattle.file_model.specs.Reconcile.{Outcome, stays, writes, leaves_out, Reconciliation, reconcile, reconcile_file, against, arrival, shown_files, mark_entries, marks_of, bits_of}
use Rattle.file_model.proofs.Lookups.{length-slots_from}
use Rattle.file_model.proofs.Reconciling.{rest, rest_none, rest_stays, edits_first, edits_later}

-- ---- the slots that are written are below 64

free_below : (s : List (Option File)) (j m : ℕ) → j + length s ≤ m → IfSome (free_from j s) (λ k. k < m)
unfolding free_from
free_below [] j m h = tt
free_below (None ∷ s) j m h = omega arith
free_below (Some f ∷ s) j m h = free_below s (j + 1) m (omega arith)

entry_or : (t : Bool) (j m : ℕ) (f : File) (o : Option Entry) → j < m → IfSome o (λ (e : Entry). e.slot < m) → IfSome (cond t (Some (record { slot = j; file = f })) o) (λ (e : Entry). e.slot < m)
entry_or true j m f o h i = h
entry_or false j m f o h i = i

entry_below : (s : List (Option File)) (j m : ℕ) (name : List ℕ) → j + length s ≤ m → IfSome (entry_from j s name) (λ (e : Entry). e.slot < m)
unfolding entry_from
entry_below [] j m name h = tt
entry_below (None ∷ s) j m name h = entry_below s (j + 1) m name (omega arith)
entry_below (Some f ∷ s) j m name h = entry_or (bytes_eq f.name name) j m f (entry_from (j + 1) s name) (omega arith) (entry_below s (j + 1) m name (omega arith))

abbrev IsBelow : ℕ → Outcome → Type 0
IsBelow m stays = ⊤
IsBelow m (writes e) = e.slot < m
IsBelow m leaves_out = ⊤

arrival_below : (c : File) (k : Option ℕ) (m : ℕ) → IfSome k (λ k. k < m) → IsBelow m (arrival c k)
arrival_below c None m h = tt
arrival_below c (Some k) m h = h

against_below : (c : File) (o : Option Entry) (s : List (Option File)) (m : ℕ) → length s ≤ m → IfSome o (λ (e : Entry). e.slot < m) → IsBelow m (against c o s)
against_below c None s m l h = arrival_below c (lowest_free s) m (free_below s 0 m (omega arith))
against_below c (Some e) s m l h = h

below_or : (t : Bool) (m : ℕ) (o : Outcome) → IsBelow m o → IsBelow m (cond t stays o)
below_or true m o h = tt
below_or false m o h = h

outcome_below : (c : File) (s : List (Option File)) (m : ℕ) → length s ≤ m → IsBelow m (reconcile_file c s)
outcome_below c s m l = below_or (c.version == c.base) m (against c (entry_of s c.name) s) (against_below c (entry_of s c.name) s m l (entry_below s 0 m c.name (omega arith)))

below_first : (m : ℕ) (e : Entry) (es : List Entry) → e.slot < m → All (λ (e : Entry). e.slot < m) es → All (λ (e : Entry). e.slot < m) (e ∷ es)
below_first m e es p a zero d l = p
below_first m e es p a (suc k) d l = a k d (omega arith)

below_next : (s : List (Option File)) (c : File) (cs : List File) (m : ℕ) (o : Outcome) → ((t : List (Option File)) → length t ≤ m → All (λ (e : Entry). e.slot < m) (rest t cs).edits)
    → reconcile_file c s ≡ o → length s ≤ m → IsBelow m o → All (λ (e : Entry). e.slot < m) (rest s (c ∷ cs)).edits
below_next s c cs m stays f h l b = subst (λ (r : Reconciliation). All (λ (e : Entry). e.slot < m) r.edits) (sym (rest_stays s c cs h)) (f s l)
below_next s c cs m (writes e) f h l b =
    let n : length (slice_set s e.slot (Some e.file)) ≤ m = omega (arith, l, length-set s e.slot (Some e.file)) in
    subst (All (λ (e : Entry). e.slot < m)) (sym (edits_first s c cs e h)) (below_first m e (rest (slice_set s e.slot (Some e.file)) cs).edits b (f (slice_set s e.slot (Some e.file)) n))
below_next s c cs m leaves_out f h l b = subst (All (λ (e : Entry). e.slot < m)) (sym (edits_later s c cs h)) (f s l)

rest_below : (cs : List File) (m : ℕ) (s : List (Option File)) → length s ≤ m → All (λ (e : Entry). e.slot < m) (rest s cs).edits
rest_below [] m s l = subst (λ (r : Reconciliation). All (λ (e : Entry). e.slot < m) r.edits) (sym (rest_none s)) (λ k d h. absurd (omega arith))
rest_below (c ∷ cs) m s l = below_next s c cs m (reconcile_file c s) (rest_below cs m) refl l (outcome_below c s m l)

-- ---- and each is marked

mark_set : (marks : List Bool) (j k : ℕ) → get_or marks k false ≡ true → get_or (slice_set marks j true) k false ≡ true
mark_set [] j k h = h
mark_set (m ∷ marks) zero zero h = refl
mark_set (m ∷ marks) zero (suc k) h = h
mark_set (m ∷ marks) (suc j) zero h = h
mark_set (m ∷ marks) (suc j) (suc k) h = mark_set marks j k h

mark_stays : (marks : List Bool) (es : List Entry) (k : ℕ) → get_or marks k false ≡ true → get_or (mark_entries marks es) k false ≡ true
unfolding mark_entries
mark_stays marks [] k h = h
mark_stays marks (e ∷ es) k h = mark_stays (slice_set marks e.slot true) es k (mark_set marks e.slot k h)

each_marked : (es : List Entry) (marks : List Bool) → All (λ (e : Entry). e.slot < length marks) es → (k : ℕ) (d : Entry) → k < length es → get_or (mark_entries marks es) (get_or es k d).slot false ≡ true
unfolding mark_entries
each_marked [] marks a k d l = absurd (omega arith)
each_marked (e ∷ es) marks a zero d l = mark_stays (slice_set marks e.slot true) es e.slot (get_or-set_same marks e.slot true false (a 0 d (omega arith)))
each_marked (e ∷ es) marks a (suc k) d l =
    let n : length (slice_set marks e.slot true) ≡ length marks = length-set marks e.slot true in
    each_marked es (slice_set marks e.slot true) (λ j d h. let i = a (suc j) d (omega arith) in omega (arith, n, i)) k d (omega arith)

-- where each slot that is marked is ready, so is each slot that is written
pub ready_if_marked : (ready : ℕ → Bool) (b d : ℕ → ℕ) → ((k : ℕ) → k < 64 → get_or (marks_of (reconcile (slots_of b) (slots_of d)).edits) k false ≡ true → ready k ≡ true)
    → All (λ (e : Entry). ready e.slot ≡ true) (reconcile (slots_of b) (slots_of d)).edits
ready_if_marked ready b d h =
    let es = (reconcile (slots_of b) (slots_of d)).edits in
    let below : All (λ (e : Entry). e.slot < 64) es = rest_below (shown_files (slots_of d)) 64 (slots_of b) (omega (arith, length-slots_from b 0 64)) in
    let n : length (replicate {A = Bool} 64 false) ≡ 64 = length-replicate {A = Bool} 64 false in
    λ k e l. h (get_or es k e).slot (below k e l) (each_marked es (replicate 64 false) (λ j d i. let w = below j d i in omega (arith, n, w)) k e l)

-- ---- the bit of a mark

first_bit : (t : Bool) (n : ℕ) → (cond t 1 0 + 2 * n) % 2 ≡ cond t 1 0
first_bit true n = omega arith
first_bit false n = omega arith

later_bits : (t : Bool) (n : ℕ) → (cond t 1 0 + 2 * n) / 2 ≡ n
later_bits true n = omega arith
later_bits false n = omega arith

-- slot k is marked where bit k is set
pub bit_of_mark : (marks : List Bool) (k : ℕ) → bits_of marks / 2 ^ k % 2 ≡ cond (get_or marks k false) 1 0
unfolding bits_of
bit_of_mark [] k = ap (λ n. n % 2) (zero-div (2 ^ k))
bit_of_mark (t ∷ marks) zero =
    let e : (cond t 1 0 + 2 * bits_of marks) / 2 ^ 0 ≡ cond t 1 0 + 2 * bits_of marks = omega arith in
    ap (λ n. n % 2) e ∙ first_bit t (bits_of marks)
bit_of_mark (t ∷ marks) (suc k) =
    let n = cond t 1 0 + 2 * bits_of marks in
    ap (λ p. n / p % 2) (pow-succ' 2 k) ∙ ap (λ q. q % 2) (sym (div-div-eq-div-mul n 2 (2 ^ k))) ∙ ap (λ q. q / 2 ^ k % 2) (later_bits t (bits_of marks)) ∙ bit_of_mark marks k

-- where each slot whose bit is set is ready, so is each slot that is written
pub ready_if_set : (ready : ℕ → Bool) (b d : ℕ → ℕ) → ((k : ℕ) → k < 64 → bits_of (marks_of (reconcile (slots_of b) (slots_of d)).edits) / 2 ^ k % 2 ≡ 1 → ready k ≡ true)
    → All (λ (e : Entry). ready e.slot ≡ true) (reconcile (slots_of b) (slots_of d)).edits
ready_if_set ready b d h =
    let marks = marks_of (reconcile (slots_of b) (slots_of d)).edits in
    ready_if_marked ready b d (λ k l m. h k l (bit_of_mark marks k ∙ ap (λ t. cond t 1 0) m))
