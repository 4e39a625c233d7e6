-- Reconciling does the same where bytes at the start of the contents that are taken over have been taken before.
use Rattle.std.proofs.Common.{◌≡◌, ℕ, zero, suc, ◌+◌, ◌-◌, ◌/◌, ◌<◌, ◌≤◌, ◌⊎◌, inl, inr, Bool, true, false, cond, List, [], ◌∷◌, length, get_or, replicate, refl, ap, sym, subst, ◌∙◌, arith, Option, Some, None}
use Rattle.std.specs.Prelude.{nat_le, nat_lt, ◌&&◌, ◌==◌, slice_set, ⊤}
use Rattle.std.specs.List.{All}
use Rattle.std.specs.Str.{bytes_eq}
use Rattle.std.proofs.lemmas.Bool.{cases_eq, false≢true}
use Rattle.std.proofs.lemmas.List.{get_or-set_other}
use Rattle.std.proofs.lemmas.List.Elements.{All-head, All-tail}
use Rattle.file_model.specs.File.{File}
use Rattle.file_model.specs.Slots.{is_in_use, file_at, slot_at, slots_from, slots_of, slot_start, with_bytes, header_bytes, with_slot}
use Rattle.file_model.specs.Operations.{Entry, entry_from, entry_of, free_from, lowest_free}
use Rattle.file_model.specs.Reconcile.{Outcome, stays, writes, leaves_out, Reconciliation, reconcile, reconcile_file, against, arrival, after_child, after_both, child_file, shown_files, with_entries, reconciled_bytes, mark_entries, marks_of}
use Rattle.file_model.proofs.Bytes.{with_bytes_inside}
use Rattle.file_model.proofs.Lookups.{short_content}
use Rattle.file_model.proofs.SlotHeaders.{AlikeHeader, in_use_same, file_but_for_content, content_same}
use Rattle.file_model.proofs.Reconciling.{rest, rest_none, rest_stays, edits_first, edits_later, left_out_first, left_out_later}
use Rattle.file_image.specs.Spared.{AtEachTurn, HasTaken, IsSparedAt, IsSparedFor, IsSparedTurn, content_in, is_taken, slots_after}
use Rattle.file_image.proofs.Turns.{OfTurn, spared_carried, turn_first, turn_more, turn_none, turn_rest}

-- ---- slots that differ in a content alone, where bytes of it are taken

abbrev IsLike : ℕ → Option File → Option File → Type 0
IsLike n None None = ⊤
IsLike n (Some f) (Some g) = (f ≡ g) ⊎ ((n ≡ 0 → ⊥) × (record f { content = g.content } ≡ g))
IsLike n None (Some g) = ⊥
IsLike n (Some f) None = ⊥

abbrev AreLike : (ℕ → ℕ) → ℕ → List (Option File) → List (Option File) → Type 0
AreLike n k [] [] = ⊤
AreLike n k (x ∷ xs) (y ∷ ys) = IsLike (n k) x y × AreLike n (k + 1) xs ys
AreLike n k [] (y ∷ ys) = ⊥
AreLike n k (x ∷ xs) [] = ⊥

like_chosen : (n : ℕ) (t u : Bool) (f g : File) → t ≡ u → (t ≡ true → (f ≡ g) ⊎ ((n ≡ 0 → ⊥) × (record f { content = g.content } ≡ g))) → IsLike n (cond t (Some f) None) (cond u (Some g) None)
like_chosen n true true f g e h = h refl
like_chosen n true false f g e h = cc
like_chosen n false true f g e h = cc
like_chosen n false false f g e h = tt

record_same : (f g : File) → record f { content = g.content } ≡ g → f.content ≡ g.content → f ≡ g
record_same f g e h = ap (λ c. record f { content = c }) h ∙ e

header_alike : (n : ℕ → ℕ) (first : ℕ → ℕ → ℕ) (b c : ℕ → ℕ) (k : ℕ) → HasTaken n first b c → AlikeHeader b c (slot_start k)
header_alike n first b c k h = record { byte = λ o low. elim (h.same (slot_start k + o)) [ inl e ↦ sym e | inr s ↦ absurd (let f = s.from in omega arith) ] }

beyond : (n : ℕ → ℕ) (k j : ℕ) → j < 61440 → IsSparedAt n (slot_start k + 4096 + j) → n k ≡ 0 → ⊥
beyond n k j low at none =
    let e : (slot_start k + 4096 + j) / 65536 ≡ k = omega arith in
    let m : n ((slot_start k + 4096 + j) / 65536) ≡ n k = ap n e in
    let before = at.before in
    omega (arith, m, none, before, low)

like_slot : (n : ℕ → ℕ) (first : ℕ → ℕ → ℕ) (b c : ℕ → ℕ) (k : ℕ) → HasTaken n first b c → IsLike (n k) (slot_at b k) (slot_at c k)
unfolding slot_at
like_slot n first b c k h =
    let s = slot_start k in
    let alike = header_alike n first b c k h in
    like_chosen (n k) (is_in_use b s) (is_in_use c s) (file_at b s) (file_at c s) (in_use_same b c s alike) (λ u.
    let is : record (file_at b s) { content = (file_at c s).content } ≡ file_at c s = file_but_for_content b c s alike u (file_at c s).content refl in
    elim (cases_eq (n k) 0) [
      | inl none ↦ inl (record_same (file_at b s) (file_at c s) is (content_same b c s alike (λ j within. elim (h.same (s + 4096 + j)) [
        | inl e ↦ sym e
        | inr at ↦ absurd (beyond n k j (let l = short_content b s u in omega (arith, l, within)) at none)
      ])))
      | inr some ↦ inr (some, is)
    ])

like_slots : (n : ℕ → ℕ) (first : ℕ → ℕ → ℕ) (b c : ℕ → ℕ) (k m : ℕ) → HasTaken n first b c → AreLike n k (slots_from b k m) (slots_from c k m)
unfolding slots_from
like_slots n first b c k zero h = tt
like_slots n first b c k (suc m) h = (like_slot n first b c k h, like_slots n first b c (k + 1) m h)

-- ---- the same file of a name, and the same free slot

like_free : (n : ℕ → ℕ) (k j : ℕ) (xs ys : List (Option File)) → AreLike n k xs ys → free_from j xs ≡ free_from j ys
unfolding free_from
like_free n k j [] [] h = refl
like_free n k j (None ∷ xs) (None ∷ ys) h = refl
like_free n k j (Some f ∷ xs) (Some g ∷ ys) h = like_free n (k + 1) (j + 1) xs ys h.1
like_free n k j (None ∷ xs) (Some g ∷ ys) h = absurd h.0
like_free n k j (Some f ∷ xs) (None ∷ ys) h = absurd h.0
like_free n k j [] (y ∷ ys) h = absurd h
like_free n k j (x ∷ xs) [] h = absurd h

abbrev IsLikeEntry : (ℕ → ℕ) → Option Entry → Option Entry → Type 0
IsLikeEntry n None None = ⊤
IsLikeEntry n (Some e) (Some f) = (e.slot ≡ f.slot) × IsLike (n e.slot) (Some e.file) (Some f.file)
IsLikeEntry n None (Some f) = ⊥
IsLikeEntry n (Some e) None = ⊥

like_name : (m : ℕ) (f g : File) → IsLike m (Some f) (Some g) → f.name ≡ g.name
like_name m f g h = elim h [ inl e ↦ ap (λ (x : File). x.name) e | inr p ↦ ap (λ (x : File). x.name) p.1 ]

entry_choice : (n : ℕ → ℕ) (t u : Bool) (k : ℕ) (f g : File) (o p : Option Entry) → t ≡ u → IsLike (n k) (Some f) (Some g) → IsLikeEntry n o p → IsLikeEntry n (cond t (Some (record { slot = k; file = f })) o) (cond u (Some (record { slot = k; file = g })) p)
entry_choice n true true k f g o p e h i = (refl, h)
entry_choice n true false k f g o p e h i = cc
entry_choice n false true k f g o p e h i = cc
entry_choice n false false k f g o p e h i = i

like_entry : (n : ℕ → ℕ) (k : ℕ) (xs ys : List (Option File)) (name : List ℕ) → AreLike n k xs ys → IsLikeEntry n (entry_from k xs name) (entry_from k ys name)
unfolding entry_from
like_entry n k [] [] name h = tt
like_entry n k (None ∷ xs) (None ∷ ys) name h = like_entry n (k + 1) xs ys name h.1
like_entry n k (Some f ∷ xs) (Some g ∷ ys) name h = entry_choice n (bytes_eq f.name name) (bytes_eq g.name name) k f g (entry_from (k + 1) xs name) (entry_from (k + 1) ys name) (ap (λ m. bytes_eq m name) (like_name (n k) f g h.0)) h.0 (like_entry n (k + 1) xs ys name h.1)
like_entry n k (None ∷ xs) (Some g ∷ ys) name h = absurd h.0
like_entry n k (Some f ∷ xs) (None ∷ ys) name h = absurd h.0
like_entry n k [] (y ∷ ys) name h = absurd h
like_entry n k (x ∷ xs) [] name h = absurd h

-- ---- the same becomes of one file

like_version : (m : ℕ) (f g : File) → IsLike m (Some f) (Some g) → f.version ≡ g.version
like_version m f g h = elim h [ inl e ↦ ap (λ (x : File). x.version) e | inr p ↦ ap (λ (x : File). x.version) p.1 ]

like_taken : (n : ℕ → ℕ) (c : File) (o p : Option Entry) → IsLikeEntry n o p → is_taken c o ≡ is_taken c p
like_taken n c None None h = refl
like_taken n c (Some e) (Some f) h = ap (λ v. v == c.base) (like_version (n e.slot) e.file f.file h.1)
like_taken n c None (Some f) h = absurd h
like_taken n c (Some e) None h = absurd h

same_child : (m : ℕ) (c f g : File) → IsLike m (Some f) (Some g) → child_file c f.base f.length_at_base ≡ child_file c g.base g.length_at_base
same_child m c f g h = elim h [ inl e ↦ ap (λ (x : File). child_file c x.base x.length_at_base) e | inr p ↦ ap (λ (x : File). child_file c x.base x.length_at_base) p.1 ]

same_file : (m : ℕ) (f g : File) → IsLike m (Some f) (Some g) → m ≡ 0 → f ≡ g
same_file m f g h none = elim h [ inl e ↦ e | inr p ↦ absurd (p.0 none) ]

after_same : (m : ℕ) (t : Bool) (c f g : File) → IsLike m (Some f) (Some g) → (t ≡ false → m ≡ 0) → cond t (child_file c f.base f.length_at_base) (after_both c f) ≡ cond t (child_file c g.base g.length_at_base) (after_both c g)
after_same m true c f g h none = same_child m c f g h
after_same m false c f g h none = ap (after_both c) (same_file m f g h (none refl))

all_written : (t : Bool) (first : ℕ → ℕ → ℕ) (n : ℕ → ℕ) (content : List ℕ) (e : Entry) → IsSparedFor (writes e) t first n content → t ≡ false → n e.slot ≡ 0
all_written true first n content e h is = absurd (false≢true (sym is))
all_written false first n content e h is = h

like_against : (n : ℕ → ℕ) (first : ℕ → ℕ → ℕ) (c : File) (o p : Option Entry) (s t : List (Option File)) → IsLikeEntry n o p → lowest_free s ≡ lowest_free t → IsSparedFor (against c o s) (is_taken c o) first n c.content → against c o s ≡ against c p t
like_against n first c None None s t h free spared = ap (arrival c) free
like_against n first c (Some e) (Some f) s t h free spared =
    let test : (e.file.version == c.base) ≡ (f.file.version == c.base) = like_taken n c (Some e) (Some f) h in
    let file : after_child c e.file ≡ after_child c f.file =
    after_same (n e.slot) (e.file.version == c.base) c e.file f.file h.1 (all_written (e.file.version == c.base) first n c.content (record e { file = after_child c e.file }) spared)
    ∙ ap (λ x. cond x (child_file c f.file.base f.file.length_at_base) (after_both c f.file)) test in
    λ i. writes (record { slot = h.0 i; file = file i })
like_against n first c None (Some f) s t h free spared = absurd h
like_against n first c (Some e) None s t h free spared = absurd h

outcome_or : (v : Bool) (o p : Outcome) (taken : Bool) (first : ℕ → ℕ → ℕ) (n : ℕ → ℕ) (content : List ℕ) → (IsSparedFor o taken first n content → o ≡ p) → IsSparedFor (cond v stays o) taken first n content → cond v stays o ≡ cond v stays p
outcome_or true o p taken first n content same h = refl
outcome_or false o p taken first n content same h = same h

like_outcome : (n : ℕ → ℕ) (first : ℕ → ℕ → ℕ) (s t : List (Option File)) (c : File) → AreLike n 0 s t → IsSparedTurn first n s c → reconcile_file c s ≡ reconcile_file c t
like_outcome n first s t c h turn =
    outcome_or (c.version == c.base) (against c (entry_of s c.name) s) (against c (entry_of t c.name) t) (is_taken c (entry_of s c.name)) first n c.content
    (like_against n first c (entry_of s c.name) (entry_of t c.name) s t (like_entry n 0 s t c.name h) (like_free n 0 0 s t h)) turn

-- and the slots are alike then
like_set : (n : ℕ → ℕ) (k j : ℕ) (xs ys : List (Option File)) (f : File) → AreLike n k xs ys → AreLike n k (slice_set xs j (Some f)) (slice_set ys j (Some f))
like_set n k j [] [] f h = tt
like_set n k zero (x ∷ xs) (y ∷ ys) f h = (inl refl, h.1)
like_set n k (suc j) (x ∷ xs) (y ∷ ys) f h = (h.0, like_set n (k + 1) j xs ys f h.1)
like_set n k j [] (y ∷ ys) f h = absurd h
like_set n k j (x ∷ xs) [] f h = absurd h

like_after : (n : ℕ → ℕ) (s t : List (Option File)) (o : Outcome) → AreLike n 0 s t → AreLike n 0 (slots_after s o) (slots_after t o)
like_after n s t stays h = h
like_after n s t (writes e) h = like_set n 0 e.slot s t e.file h
like_after n s t leaves_out h = h

-- ---- what is taken is covered

abbrev IsCovered : (ℕ → ℕ) → Entry → Type 0
IsCovered n e = n e.slot ≤ length e.file.content

abbrev IsCoveredIn : (ℕ → ℕ) → Outcome → Type 0
IsCoveredIn n stays = ⊤
IsCoveredIn n (writes e) = IsCovered n e
IsCoveredIn n leaves_out = ⊤

covered_arrival : (n : ℕ → ℕ) (first : ℕ → ℕ → ℕ) (c : File) (k : Option ℕ) → IsSparedFor (arrival c k) true first n c.content → IsCoveredIn n (arrival c k)
covered_arrival n first c None h = tt
covered_arrival n first c (Some k) h = h.few

covered_after : (n : ℕ → ℕ) (first : ℕ → ℕ → ℕ) (c p : File) (k : ℕ) (t : Bool) → IsSparedFor (writes (record { slot = k; file = cond t (child_file c p.base p.length_at_base) (after_both c p) })) t first n c.content
    → n k ≤ length (cond t (child_file c p.base p.length_at_base) (after_both c p)).content
covered_after n first c p k true h = h.few
covered_after n first c p k false h = omega (arith, h)

covered_against : (n : ℕ → ℕ) (first : ℕ → ℕ → ℕ) (c : File) (o : Option Entry) (s : List (Option File)) → IsSparedFor (against c o s) (is_taken c o) first n c.content → IsCoveredIn n (against c o s)
covered_against n first c None s h = covered_arrival n first c (lowest_free s) h
covered_against n first c (Some e) s h = covered_after n first c e.file e.slot (e.file.version == c.base) h

covered_or : (v : Bool) (o : Outcome) (taken : Bool) (first : ℕ → ℕ → ℕ) (n : ℕ → ℕ) (content : List ℕ) → (IsSparedFor o taken first n content → IsCoveredIn n o) → IsSparedFor (cond v stays o) taken first n content → IsCoveredIn n (cond v stays o)
covered_or true o taken first n content f h = tt
covered_or false o taken first n content f h = f h

covered : (n : ℕ → ℕ) (first : ℕ → ℕ → ℕ) (s : List (Option File)) (c : File) → IsSparedTurn first n s c → IsCoveredIn n (reconcile_file c s)
covered n first s c turn = covered_or (c.version == c.base) (against c (entry_of s c.name) s) (is_taken c (entry_of s c.name)) first n c.content (covered_against n first c (entry_of s c.name) s) turn

-- ---- all of them

record IsSameRun (n : ℕ → ℕ) (first : ℕ → ℕ → ℕ) (s t : List (Option File)) (cs : List File) : Type 0 where
  edits : (rest t cs).edits ≡ (rest s cs).edits
  left_out : (rest t cs).left_out ≡ (rest s cs).left_out
  covers : All (IsCovered n) (rest s cs).edits
  turns : AtEachTurn (IsSparedTurn first n) t cs

covers_first : (n : ℕ → ℕ) (e : Entry) (es : List Entry) → IsCovered n e → All (IsCovered n) es → All (IsCovered n) (e ∷ es)
covers_first n e es here all zero d l = here
covers_first n e es here all (suc k) d l = all k d (omega arith)

run_next : (n : ℕ → ℕ) (first : ℕ → ℕ → ℕ) (s t : List (Option File)) (c : File) (cs : List File) (o : Outcome) → reconcile_file c s ≡ o → reconcile_file c t ≡ o → IsCoveredIn n o → IsSparedTurn first n t c
    → IsSameRun n first (slots_after s o) (slots_after t o) cs → IsSameRun n first s t (c ∷ cs)
run_next n first s t c cs stays e f w turn r =
    let p = rest_stays s c cs e in
    let q = rest_stays t c cs f in
    record {
      edits = ap (λ (x : Reconciliation). x.edits) q ∙ r.edits ∙ sym (ap (λ (x : Reconciliation). x.edits) p);
      left_out = ap (λ (x : Reconciliation). x.left_out) q ∙ r.left_out ∙ sym (ap (λ (x : Reconciliation). x.left_out) p);
      covers = subst (λ (x : Reconciliation). All (IsCovered n) x.edits) (sym p) r.covers;
      turns = turn_more (IsSparedTurn first n) t c cs turn (subst (λ x. AtEachTurn (IsSparedTurn first n) (slots_after t x) cs) (sym f) r.turns);
    }
run_next n first s t c cs (writes x) e f w turn r = record {
  edits = edits_first t c cs x f ∙ ap (λ es. x ∷ es) r.edits ∙ sym (edits_first s c cs x e);
  left_out = left_out_later t c cs x f ∙ r.left_out ∙ sym (left_out_later s c cs x e);
  covers = subst (All (IsCovered n)) (sym (edits_first s c cs x e)) (covers_first n x (rest (slice_set s x.slot (Some x.file)) cs).edits w r.covers);
  turns = turn_more (IsSparedTurn first n) t c cs turn (subst (λ x. AtEachTurn (IsSparedTurn first n) (slots_after t x) cs) (sym f) r.turns);
}
run_next n first s t c cs leaves_out e f w turn r = record {
  edits = edits_later t c cs f ∙ r.edits ∙ sym (edits_later s c cs e);
  left_out = left_out_first t c cs f ∙ ap (λ k. 1 + k) r.left_out ∙ sym (left_out_first s c cs e);
  covers = subst (All (IsCovered n)) (sym (edits_later s c cs e)) r.covers;
  turns = turn_more (IsSparedTurn first n) t c cs turn (subst (λ x. AtEachTurn (IsSparedTurn first n) (slots_after t x) cs) (sym f) r.turns);
}

turn_same : (n : ℕ → ℕ) (first : ℕ → ℕ → ℕ) (s t : List (Option File)) (c : File) → AreLike n 0 s t → IsSparedTurn first n s c → IsSparedTurn first n t c
turn_same n first s t c h turn =
    subst (λ x. IsSparedFor (reconcile_file c t) x first n c.content) (like_taken n c (entry_of s c.name) (entry_of t c.name) (like_entry n 0 s t c.name h))
    (subst (λ o. IsSparedFor o (is_taken c (entry_of s c.name)) first n c.content) (like_outcome n first s t c h turn) turn)

same_run : (n : ℕ → ℕ) (first : ℕ → ℕ → ℕ) (cs : List File) (s t : List (Option File)) → AreLike n 0 s t → AtEachTurn (IsSparedTurn first n) s cs → IsSameRun n first s t cs
same_run n first [] s t h all =
    let p = rest_none s in
    let q = rest_none t in
    record {
      edits = ap (λ (x : Reconciliation). x.edits) q ∙ sym (ap (λ (x : Reconciliation). x.edits) p);
      left_out = ap (λ (x : Reconciliation). x.left_out) q ∙ sym (ap (λ (x : Reconciliation). x.left_out) p);
      covers = subst (λ (x : Reconciliation). All (IsCovered n) x.edits) (sym p) (λ k d l. absurd (omega arith));
      turns = turn_none (IsSparedTurn first n) t;
    }
same_run n first (c ∷ cs) s t h all =
    let turn = turn_first (IsSparedTurn first n) s c cs all in
    let o = reconcile_file c s in
    run_next n first s t c cs o refl (sym (like_outcome n first s t c h turn)) (covered n first s c turn) (turn_same n first s t c h turn)
    (same_run n first cs (slots_after s o) (slots_after t o) (like_after n s t o h) (turn_rest (IsSparedTurn first n) s c cs all))

-- ---- the bytes

with_bytes_same : (b c : ℕ → ℕ) (at : ℕ) (part : List ℕ) (a : ℕ) → c a ≡ b a → with_bytes c at part a ≡ with_bytes b at part a
unfolding with_bytes
with_bytes_same b c at part a e = ap (λ x. cond (nat_le at a && nat_lt a (at + length part)) (get_or part (a - at) 0) x) e

with_slot_same : (b c : ℕ → ℕ) (k : ℕ) (f : File) (a : ℕ) → c a ≡ b a → with_slot c k f a ≡ with_slot b k f a
unfolding with_slot
with_slot_same b c k f a e =
    with_bytes_same (with_bytes b (slot_start k) (header_bytes f)) (with_bytes c (slot_start k) (header_bytes f)) (slot_start k + 4096) f.content a (with_bytes_same b c (slot_start k) (header_bytes f) a e)

slot_covers : (b c : ℕ → ℕ) (k : ℕ) (f : File) (a : ℕ) → slot_start k + 4096 ≤ a → a < slot_start k + 4096 + length f.content → with_slot c k f a ≡ with_slot b k f a
unfolding with_slot
slot_covers b c k f a from before =
    with_bytes_inside (with_bytes c (slot_start k) (header_bytes f)) (slot_start k + 4096) f.content a from before ∙ sym (with_bytes_inside (with_bytes b (slot_start k) (header_bytes f)) (slot_start k + 4096) f.content a from before)

-- a byte is the same, or the content of a slot that is still to be written covers it
abbrev IsSameOrCovered : (ℕ → ℕ) → (ℕ → ℕ) → (ℕ → ℕ) → List Bool → List Entry → ℕ → Type 0
IsSameOrCovered n b c marks es a = (c a ≡ b a) ⊎ (IsSparedAt n a × ((get_or marks (a / 65536) false ≡ false) × (get_or (mark_entries marks es) (a / 65536) false ≡ true)))

entry_covers : (n b c : ℕ → ℕ) (e : Entry) (a : ℕ) → IsCovered n e → IsSparedAt n a → a / 65536 ≡ e.slot → with_slot c e.slot e.file a ≡ with_slot b e.slot e.file a
entry_covers n b c e a covers at here =
    let m : n (a / 65536) ≡ n e.slot = ap n here in
    let from = at.from in
    let before = at.before in
    slot_covers b c e.slot e.file a (omega (arith, here, from)) (omega (arith, here, m, before, covers))

entries_alike : (n : ℕ → ℕ) (es : List Entry) (marks : List Bool) (b c : ℕ → ℕ) (a : ℕ) → All (IsCovered n) es → IsSameOrCovered n b c marks es a → with_entries c es a ≡ with_entries b es a
unfolding with_entries mark_entries
entries_alike n [] marks b c a covers (inl same) = same
entries_alike n [] marks b c a covers (inr at) = absurd (false≢true (sym at.1.0 ∙ at.1.1))
entries_alike n (e ∷ es) marks b c a covers (inl same) =
    entries_alike n es (slice_set marks e.slot true) (with_slot b e.slot e.file) (with_slot c e.slot e.file) a (All-tail (IsCovered n) e es covers) (inl (with_slot_same b c e.slot e.file a same))
entries_alike n (e ∷ es) marks b c a covers (inr at) =
    entries_alike n es (slice_set marks e.slot true) (with_slot b e.slot e.file) (with_slot c e.slot e.file) a (All-tail (IsCovered n) e es covers) (elim (cases_eq (a / 65536) e.slot) [
      | inl here ↦ inl (entry_covers n b c e a (All-head (IsCovered n) e es covers) at.0 here)
      | inr other ↦ inr (at.0, (get_or-set_other marks e.slot (a / 65536) true false other ∙ at.1.0, at.1.1))
    ])

unmarked : (m k : ℕ) → get_or (replicate {A = Bool} m false) k false ≡ false
unmarked zero k = refl
unmarked (suc m) zero = refl
unmarked (suc m) (suc k) = unmarked m k

marked_if : (t : Bool) (m : ℕ) → (t ≡ false → m ≡ 0) → (m ≡ 0 → ⊥) → t ≡ true
marked_if true m none some = refl
marked_if false m none some = absurd (some (none refl))

byte_alike : (n b c : ℕ → ℕ) (es : List Entry) (a : ℕ) → ((k : ℕ) → get_or (marks_of es) k false ≡ false → n k ≡ 0) → (c a ≡ b a) ⊎ IsSparedAt n a → IsSameOrCovered n b c (replicate 64 false) es a
byte_alike n b c es a none (inl same) = inl same
byte_alike n b c es a none (inr at) =
    let from = at.from in
    let before = at.before in
    inr (at, (unmarked 64 (a / 65536), marked_if (get_or (marks_of es) (a / 65536) false) (n (a / 65536)) (none (a / 65536)) (λ zero. omega (arith, zero, from, before))))

turns_mapped : (so to : OfTurn) (s : List (Option File)) (cs : List File) → ((t : List (Option File)) (c : File) → so t c → to t c) → AtEachTurn so s cs → AtEachTurn to s cs
turns_mapped so to s [] f all = turn_none to s
turns_mapped so to s (c ∷ cs) f all = turn_more to s c cs (f s c (turn_first so s c cs all)) (turns_mapped so to (slots_after s (reconcile_file c s)) cs f (turn_rest so s c cs all))

-- what reconciling does with bytes that were taken before
pub record IsShared (n b c d : ℕ → ℕ) : Type 0 where
  pub bytes : reconciled_bytes c d ≡ reconciled_bytes b d
  pub edits : (reconcile (slots_of c) (slots_of d)).edits ≡ (reconcile (slots_of b) (slots_of d)).edits
  pub left_out : (reconcile (slots_of c) (slots_of d)).left_out ≡ (reconcile (slots_of b) (slots_of d)).left_out
  pub turns : AtEachTurn (IsSparedTurn (content_in c) n) (slots_of c) (shown_files (slots_of d))

pub shared : (n : ℕ → ℕ) (first : ℕ → ℕ → ℕ) (b c d : ℕ → ℕ) → HasTaken n first b c → AtEachTurn (IsSparedTurn first n) (slots_of b) (shown_files (slots_of d))
    → ((k : ℕ) → get_or (marks_of (reconcile (slots_of b) (slots_of d)).edits) k false ≡ false → n k ≡ 0) → IsShared n b c d
shared n first b c d taken turns none =
    let run = same_run n first (shown_files (slots_of d)) (slots_of b) (slots_of c) (like_slots n first b c 0 64 taken) turns in
    let es = (reconcile (slots_of b) (slots_of d)).edits in
    let alike : with_entries c es ≡ with_entries b es = λ i a. entries_alike n es (replicate 64 false) b c a run.covers (byte_alike n b c es a none (taken.same a)) i in
    record {
      bytes = ap (with_entries c) run.edits ∙ alike;
      edits = run.edits;
      left_out = run.left_out;
      turns = turns_mapped (IsSparedTurn first n) (IsSparedTurn (content_in c) n) (slots_of c) (shown_files (slots_of d))
          (λ t x. spared_carried (reconcile_file x t) (is_taken x (entry_of t x.name)) first (content_in c) n n x.content (λ k. refl) taken.taken) run.turns;
    }
