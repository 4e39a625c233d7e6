-- Reconciling one file after the other, and that each slot which it writes gets a file that a slot can hold.
use Rattle.std.proofs.Common.{◌≡◌, ℕ, zero, suc, ◌+◌, ◌<◌, Bool, true, false, cond, List, [], ◌∷◌, ◌++◌, refl, ap, sym, ◌∙◌, arith, append_assoc, Option, Some, None}
use Rattle.std.specs.Prelude.{slice_set, IfSome, ⊤, ◌==◌}
use Rattle.std.specs.Str.{bytes_eq}
use Rattle.file_model.specs.File.{File, IsFile}
use Rattle.file_model.specs.Slots.{slot_at, slots_from, slots_of, slot_start, is_in_use, file_at}
use Rattle.file_model.specs.Operations.{Entry, entry_from, entry_of, lowest_free}
use Rattle.file_model.specs.Reconcile.{Outcome, stays, writes, leaves_out, Reconciliation, after_outcome, reconcile_file, reconcile_files, against, arrival}
use Rattle.file_model.proofs.WellFormed.{file_well, child_file_well, after_child_well}

-- ---- the rest of the files

-- before any file
abbrev pub beginning : List (Option File) → Reconciliation
beginning slots = record { slots = slots; edits = []; left_out = 0 }

-- what the rest of the files do to these slots
abbrev pub rest : List (Option File) → List File → Reconciliation
rest slots cs = reconcile_files (beginning slots) cs

-- one after the other
abbrev together : Reconciliation → Reconciliation → Reconciliation
together r t = record { slots = t.slots; edits = r.edits ++ t.edits; left_out = r.left_out + t.left_out }

nothing_behind : {A : Type 0} (xs : List A) → xs ≡ xs ++ []
nothing_behind [] = refl
nothing_behind (x ∷ xs) = ap (λ ys. x ∷ ys) (nothing_behind xs)

step_together : (r : Reconciliation) (o : Outcome) (cs : List File)
    → together (after_outcome r o) (rest (after_outcome r o).slots cs) ≡ together r (together (after_outcome (beginning r.slots) o) (rest (after_outcome (beginning r.slots) o).slots cs))
step_together r stays cs =
    let t = rest r.slots cs in
    let n : r.left_out + t.left_out ≡ r.left_out + (0 + t.left_out) = omega arith in
    λ i. record { slots = t.slots; edits = r.edits ++ t.edits; left_out = n i }
step_together r (writes e) cs =
    let t = rest (slice_set r.slots e.slot (Some e.file)) cs in
    let n : r.left_out + t.left_out ≡ r.left_out + (0 + t.left_out) = omega arith in
    let a : (r.edits ++ e ∷ []) ++ t.edits ≡ r.edits ++ (e ∷ t.edits) = append_assoc r.edits (e ∷ []) t.edits in
    λ i. record { slots = t.slots; edits = a i; left_out = n i }
step_together r leaves_out cs =
    let t = rest r.slots cs in
    let n : r.left_out + 1 + t.left_out ≡ r.left_out + (0 + 1 + t.left_out) = omega arith in
    λ i. record { slots = t.slots; edits = r.edits ++ t.edits; left_out = n i }

-- what was done before stands before the rest
rest_together : (r : Reconciliation) (cs : List File) → reconcile_files r cs ≡ together r (rest r.slots cs)
unfolding reconcile_files
rest_together r [] =
    let n : r.left_out ≡ r.left_out + 0 = omega arith in
    λ i. record { slots = r.slots; edits = nothing_behind r.edits i; left_out = n i }
rest_together r (c ∷ cs) =
    let o = reconcile_file c r.slots in
    rest_together (after_outcome r o) cs ∙ step_together r o cs ∙ ap (together r) (sym (rest_together (after_outcome (beginning r.slots) o) cs))

rest_first : (s : List (Option File)) (c : File) (cs : List File) (o : Outcome) → reconcile_file c s ≡ o → rest s (c ∷ cs) ≡ together (after_outcome (beginning s) o) (rest (after_outcome (beginning s) o).slots cs)
unfolding reconcile_files
rest_first s c cs o e = ap (λ q. reconcile_files (after_outcome (beginning s) q) cs) e ∙ rest_together (after_outcome (beginning s) o) cs

pub rest_none : (s : List (Option File)) → rest s [] ≡ beginning s
unfolding reconcile_files
rest_none s = refl

pub rest_stays : (s : List (Option File)) (c : File) (cs : List File) → reconcile_file c s ≡ stays → rest s (c ∷ cs) ≡ rest s cs
unfolding reconcile_files
rest_stays s c cs e = ap (λ q. reconcile_files (after_outcome (beginning s) q) cs) e

pub edits_first : (s : List (Option File)) (c : File) (cs : List File) (e : Entry) → reconcile_file c s ≡ writes e → (rest s (c ∷ cs)).edits ≡ e ∷ (rest (slice_set s e.slot (Some e.file)) cs).edits
edits_first s c cs e h = ap (λ (r : Reconciliation). r.edits) (rest_first s c cs (writes e) h)

pub left_out_later : (s : List (Option File)) (c : File) (cs : List File) (e : Entry) → reconcile_file c s ≡ writes e → (rest s (c ∷ cs)).left_out ≡ (rest (slice_set s e.slot (Some e.file)) cs).left_out
left_out_later s c cs e h =
    let t : 0 + (rest (slice_set s e.slot (Some e.file)) cs).left_out ≡ (rest (slice_set s e.slot (Some e.file)) cs).left_out = omega arith in
    ap (λ (r : Reconciliation). r.left_out) (rest_first s c cs (writes e) h) ∙ t

pub edits_later : (s : List (Option File)) (c : File) (cs : List File) → reconcile_file c s ≡ leaves_out → (rest s (c ∷ cs)).edits ≡ (rest s cs).edits
edits_later s c cs h = ap (λ (r : Reconciliation). r.edits) (rest_first s c cs leaves_out h)

pub left_out_first : (s : List (Option File)) (c : File) (cs : List File) → reconcile_file c s ≡ leaves_out → (rest s (c ∷ cs)).left_out ≡ 1 + (rest s cs).left_out
left_out_first s c cs h =
    let t : 0 + 1 + (rest s cs).left_out ≡ 1 + (rest s cs).left_out = omega arith in
    ap (λ (r : Reconciliation). r.left_out) (rest_first s c cs leaves_out h) ∙ t

-- ---- what is written

abbrev pub HoldsFile : Entry → Type 0
HoldsFile e = IsFile e.file

abbrev pub WritesFile : Outcome → Type 0
WritesFile stays = ⊤
WritesFile (writes e) = IsFile e.file
WritesFile leaves_out = ⊤

entry_choice : (t : Bool) (k : ℕ) (f : File) (o : Option Entry) → IsFile f → IfSome o HoldsFile → IfSome (cond t (Some (record { slot = k; file = f })) o) HoldsFile
entry_choice true k f o h i = h
entry_choice false k f o h i = i

entry_next : (t : Bool) (k : ℕ) (f : File) (slots : List (Option File)) (name : List ℕ) → (t ≡ true → IsFile f) → IfSome (entry_from (k + 1) slots name) HoldsFile
    → IfSome (entry_from k (cond t (Some f) None ∷ slots) name) HoldsFile
unfolding entry_from
entry_next true k f slots name h i = entry_choice (bytes_eq f.name name) k f (entry_from (k + 1) slots name) (h refl) i
entry_next false k f slots name h i = i

entry_well_from : (b : ℕ → ℕ) (k n : ℕ) (name : List ℕ) → ((a : ℕ) → b a < 256) → IfSome (entry_from k (slots_from b k n) name) HoldsFile
unfolding entry_from slots_from slot_at
entry_well_from b k zero name small = tt
entry_well_from b k (suc n) name small =
    entry_next (is_in_use b (slot_start k)) k (file_at b (slot_start k)) (slots_from b (k + 1) n) name (file_well b (slot_start k) small) (entry_well_from b (k + 1) n name small)

pub entry_well : (b : ℕ → ℕ) (name : List ℕ) → ((a : ℕ) → b a < 256) → IfSome (entry_of (slots_of b) name) HoldsFile
entry_well b name small = entry_well_from b 0 64 name small

arrival_well : (c : File) (k : Option ℕ) → IsFile c → WritesFile (arrival c k)
arrival_well c None h = tt
arrival_well c (Some k) h = child_file_well c 0 0 h (omega arith) (omega arith)

against_well : (c : File) (o : Option Entry) (s : List (Option File)) → IsFile c → IfSome o HoldsFile → WritesFile (against c o s)
against_well c None s h i = arrival_well c (lowest_free s) h
against_well c (Some e) s h i = after_child_well c e.file h i

stays_or : (t : Bool) (o : Outcome) → WritesFile o → WritesFile (cond t stays o)
stays_or true o h = tt
stays_or false o h = h

pub outcome_well : (b : ℕ → ℕ) (c : File) → ((a : ℕ) → b a < 256) → IsFile c → WritesFile (reconcile_file c (slots_of b))
outcome_well b c small h = stays_or (c.version == c.base) (against c (entry_of (slots_of b) c.name) (slots_of b)) (against_well c (entry_of (slots_of b) c.name) (slots_of b) h (entry_well b c.name small))
