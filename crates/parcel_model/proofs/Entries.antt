-- Pages of a memory that are read are the pages that were written, and what was written is read again.
use Rattle.std.proofs.Common.{◌≡◌, ℕ, zero, suc, ◌+◌, ◌%◌, ◌^◌, ◌<◌, ◌≤◌, Bool, true, false, cond, eqb, ltb, List, [], ◌∷◌, ◌++◌, length, take, drop, Option, Some, None, Result, Ok, Err, refl, sym, ap, subst, ◌∙◌, append_assoc, arith}
use Rattle.std.specs.List.{flat_map}
use Rattle.std.specs.Int.{w32, to_le_bytes}
use Rattle.std.proofs.lemmas.Bool.{ltb-false, le-ltb, eqb-true, eq-eqb}
use Rattle.std.proofs.lemmas.Bool.Decides.{nat_tests}
use Rattle.std.proofs.lemmas.List.{take_at, drop_at, take-append-drop, length-append, length-take}
use Rattle.std.proofs.lemmas.List.Concat.{flat_map-cons}
use Rattle.memory_model.specs.Sizes.{page_size, pages}
use Rattle.parcel_model.specs.declared.error.ParcelError.{ParcelError}
use Rattle.parcel_model.specs.declared.error.ParcelErrorKind.TheVariants.{Truncated, Form, Resident, Zero}
use Rattle.parcel_model.specs.Parcel.{Content, empty, resident, whole, Entry, page_in, is_zero, content_spelling, entry_spelling, memory_spelling, snapshot_spelling, IsContent, IsEntry, AreEntries, IsSnapshot, is_there}
use Rattle.parcel_model.specs.Reading.{IsBytes, ◌>>=◌, fault, byte_at, number_at, page_at, permission_at, resident_at, whole_at, form_in, content_at, content_size, entry_size, entry_at, entries_at, memory_at, snapshot_at}
use Rattle.parcel_model.proofs.Fields.{IsBytes-drop, bind_ok, refused_not, ok_is, Takes, Takes-then, byte_takes, number_takes, number_again, permission_takes, permission_again, page_takes, page_again}

-- ---- the content of a page

-- what form and content that were read are
record IsTaken (known : List (List ℕ)) (permission : ℕ) (bytes : List ℕ) (x : Content × List ℕ) : Type 0 where
  taken : Takes bytes (content_spelling x.0) x.1
  sound : IsContent known permission x.0

-- the same, where the form was read before
abbrev IsAfter : List (List ℕ) → ℕ → ℕ → List ℕ → Content × List ℕ → Type 0
IsAfter known permission form rest x = IsTaken known permission (form ∷ rest) x

with_form : (form : ℕ) (rest text after : List ℕ) → Takes rest text after → Takes (form ∷ rest) (form ∷ text) after
with_form form rest text after t = record { parts = ap (λ (bytes : List ℕ). form ∷ bytes) t.parts; rest_fits = t.rest_fits }

empty_takes : (known : List (List ℕ)) (permission at : ℕ) (rest : List ℕ) (x : Content × List ℕ) → IsBytes rest → cond (eqb permission 0) (fault at Zero) (Ok (empty, rest)) ≡ Ok x → IsAfter known permission 0 rest x
empty_takes known permission at rest x fits e =
    let g = refused_not (eqb permission 0) (record { at = at; kind = Zero }) (Ok (empty, rest)) x e in
    let some : permission ≡ 0 → ⊥ = λ none. grind (arith, nat_tests, g.0) in
    subst (λ (y : Content × List ℕ). IsAfter known permission 0 rest y) (ok_is (empty, rest) x g.1) (record { taken = record { parts = refl; rest_fits = fits }; sound = some })

resident_takes : (known : List (List ℕ)) (permission at : ℕ) (rest : List ℕ) (x : Content × List ℕ) → IsBytes rest → resident_at known at rest ≡ Ok x → IsAfter known permission 1 rest x
resident_takes known permission at rest x fits e =
    let b = bind_ok (number_at w32 at rest) (λ n. cond (is_zero (page_in known n.0)) (fault at Resident) (Ok (resident n.0, n.1))) x e in
    let t = number_takes at rest b.0 fits b.1 in
    let g = refused_not (is_zero (page_in known b.0.0)) (record { at = at; kind = Resident }) (Ok (resident b.0.0, b.0.1)) x b.2 in
    subst (λ (y : Content × List ℕ). IsAfter known permission 1 rest y) (ok_is (resident b.0.0, b.0.1) x g.1) (record { taken = with_form 1 rest (to_le_bytes w32 b.0.0) b.0.1 t.0; sound = (t.1, g.0) })

whole_takes : (known : List (List ℕ)) (permission at : ℕ) (rest : List ℕ) (x : Content × List ℕ) → IsBytes rest → whole_at at rest ≡ Ok x → IsAfter known permission 2 rest x
whole_takes known permission at rest x fits e =
    let front = take page_size rest in
    let after = drop page_size rest in
    let g = refused_not (ltb (length rest) page_size) (record { at = at; kind = Truncated }) (cond (is_zero front) (fault at Zero) (Ok (whole front, after))) x e in
    let z = refused_not (is_zero front) (record { at = at; kind = Zero }) (Ok (whole front, after)) x g.1 in
    let long : page_size ≤ length rest = ltb-false _ _ g.0 in
    let len : length front ≡ page_size = omega (arith, length-take page_size rest) in
    let t : Takes rest front after = record { parts = sym (take-append-drop page_size rest); rest_fits = IsBytes-drop page_size rest fits } in
    subst (λ (y : Content × List ℕ). IsAfter known permission 2 rest y) (ok_is (whole front, after) x z.1) (record { taken = with_form 2 rest front after t; sound = (len, z.0) })

-- one of three
choice : {A : Type 0} (a b c : Bool) (p q r : Result A ParcelError) (d : ParcelError) (y : A) (Goal : Type 0) → cond a p (cond b q (cond c r (Err d))) ≡ Ok y → (a ≡ true → p ≡ Ok y → Goal) → (b ≡ true → q ≡ Ok y → Goal) → (c ≡ true → r ≡ Ok y → Goal) → Goal
choice true b c p q r d y Goal e f g h = f refl e
choice false true c p q r d y Goal e f g h = g refl e
choice false false true p q r d y Goal e f g h = h refl e
choice false false false p q r d y Goal e f g h = absurd cc

form_takes : (known : List (List ℕ)) (permission form at : ℕ) (rest : List ℕ) (x : Content × List ℕ) → IsBytes rest → form_in known permission form at rest ≡ Ok x → IsAfter known permission form rest x
form_takes known permission form at rest x fits e =
    choice (eqb form 0) (eqb form 1) (eqb form 2) (cond (eqb permission 0) (fault at Zero) (Ok (empty, rest))) (resident_at known (at + 1) rest) (whole_at (at + 1) rest) (record { at = at; kind = Form }) x (IsAfter known permission form rest x) e
    (λ is r. subst (λ (f : ℕ). IsAfter known permission f rest x) (sym (eqb-true form 0 is)) (empty_takes known permission at rest x fits r))
    (λ is r. subst (λ (f : ℕ). IsAfter known permission f rest x) (sym (eqb-true form 1 is)) (resident_takes known permission (at + 1) rest x fits r))
    (λ is r. subst (λ (f : ℕ). IsAfter known permission f rest x) (sym (eqb-true form 2 is)) (whole_takes known permission (at + 1) rest x fits r))

content_takes : (known : List (List ℕ)) (permission at : ℕ) (bytes : List ℕ) (x : Content × List ℕ) → IsBytes bytes → content_at known permission at bytes ≡ Ok x → IsTaken known permission bytes x
content_takes known permission at bytes x fits e =
    let b = bind_ok (byte_at at bytes) (λ form. form_in known permission form.0 at form.1) x e in
    let t = byte_takes at bytes b.0 fits b.1 in
    subst (λ (l : List ℕ). IsTaken known permission l x) (sym t.parts) (form_takes known permission b.0.0 at b.0.1 x t.rest_fits b.2)

content_again : (known : List (List ℕ)) (permission at : ℕ) (c : Content) (rest : List ℕ) → IsContent known permission c → content_at known permission at (content_spelling c ++ rest) ≡ Ok (c, rest)
content_again known permission at empty rest h =
    let some : eqb permission 0 ≡ false = grind (arith, nat_tests, h) in
    rw some refl
content_again known permission at (resident number) rest h = rw (number_again (at + 1) number rest h.0, h.1) refl
content_again known permission at (whole bytes) rest h =
    let long : ltb (length (bytes ++ rest)) page_size ≡ false = le-ltb _ _ (omega (arith, length-append bytes rest, h.0)) in
    rw (long, take_at bytes rest page_size h.0, drop_at bytes rest page_size h.0, h.1) refl

-- ---- one page

record IsPage (known : List (List ℕ)) (least : ℕ) (bytes : List ℕ) (x : Entry × List ℕ) : Type 0 where
  taken : Takes bytes (entry_spelling x.0) x.1
  sound : IsEntry known least x.0

entry_takes : (known : List (List ℕ)) (least at : ℕ) (bytes : List ℕ) (x : Entry × List ℕ) → IsBytes bytes → entry_at known least at bytes ≡ Ok x → IsPage known least bytes x
unfolding entry_at
entry_takes known least at bytes x fits e =
    let n = bind_ok (page_at least at bytes) (λ n. permission_at (at + 4) n.1 >>= λ p. content_at known p.0 (at + 5) p.1 >>= λ c. Ok (record { page = n.0; permission = p.0; content = c.0 }, c.1)) x e in
    let p = bind_ok (permission_at (at + 4) n.0.1) (λ p. content_at known p.0 (at + 5) p.1 >>= λ c. Ok (record { page = n.0.0; permission = p.0; content = c.0 }, c.1)) x n.2 in
    let c = bind_ok (content_at known p.0.0 (at + 5) p.0.1) (λ c. Ok (record { page = n.0.0; permission = p.0.0; content = c.0 }, c.1)) x p.2 in
    let tn = page_takes least at bytes n.0 fits n.1 in
    let tp = permission_takes (at + 4) n.0.1 p.0 tn.0.rest_fits p.1 in
    let tc = content_takes known p.0.0 (at + 5) p.0.1 c.0 tp.0.rest_fits c.1 in
    let made : Entry = record { page = n.0.0; permission = p.0.0; content = c.0.0 } in
    let allowed = Takes-then n.0.1 (p.0.0 ∷ []) p.0.1 (content_spelling c.0.0) c.0.1 tp.0 tc.taken in
    let all : Takes bytes (entry_spelling made) c.0.1 = Takes-then bytes (to_le_bytes w32 n.0.0) n.0.1 (p.0.0 ∷ content_spelling c.0.0) c.0.1 tn.0 allowed in
    subst (λ (y : Entry × List ℕ). IsPage known least bytes y) (ok_is (made, c.0.1) x c.2) (record { taken = all; sound = record { order = tn.1.order; page = tn.1.below; permission = tp.1; content = tc.sound } })

entry_again : (known : List (List ℕ)) (least at : ℕ) (e : Entry) (rest : List ℕ) → IsEntry known least e → entry_at known least at (entry_spelling e ++ rest) ≡ Ok (e, rest)
unfolding entry_at
entry_again known least at e rest h =
    let content = content_spelling e.content ++ rest in
    let regrouped : entry_spelling e ++ rest ≡ to_le_bytes w32 e.page ++ (e.permission ∷ content) = append_assoc (to_le_bytes w32 e.page) (e.permission ∷ content_spelling e.content) rest in
    ap (entry_at known least at) regrouped
    ∙ rw (page_again least at e.page (e.permission ∷ content) (record { order = h.order; below = h.page }), permission_again (at + 4) e.permission content h.permission, content_again known e.permission (at + 5) e.content rest h.content) refl

-- how many bytes it takes
size_of_content : (known : List (List ℕ)) (permission : ℕ) (c : Content) → IsContent known permission c → length (content_spelling c) ≡ 1 + content_size c
size_of_content known permission empty h = refl
size_of_content known permission (resident number) h = refl
size_of_content known permission (whole bytes) h = omega (arith, h.0)

pub size_of_entry : (known : List (List ℕ)) (least : ℕ) (e : Entry) → IsEntry known least e → length (entry_spelling e) ≡ entry_size e
size_of_entry known least e h = omega (arith, size_of_content known e.permission e.content h.content, length-append (to_le_bytes w32 e.page) (e.permission ∷ content_spelling e.content))

-- ---- several pages

abbrev spellings : List Entry → List ℕ
spellings es = flat_map entry_spelling es

record ArePages (known : List (List ℕ)) (n least at : ℕ) (bytes : List ℕ) (x : List Entry × ℕ × List ℕ) : Type 0 where
  taken : Takes bytes (spellings x.0) x.2
  count : length x.0 ≡ n
  sound : AreEntries known least x.0

entries_take : (known : List (List ℕ)) (n least at : ℕ) (bytes : List ℕ) (x : List Entry × ℕ × List ℕ) → IsBytes bytes → entries_at known n least at bytes ≡ Ok x → ArePages known n least at bytes x
unfolding entries_at
entries_take known zero least at bytes x fits e = subst (λ (y : List Entry × ℕ × List ℕ). ArePages known 0 least at bytes y) (ok_is ([], at, bytes) x e) (record { taken = record { parts = refl; rest_fits = fits }; count = refl; sound = tt })
entries_take known (suc n) least at bytes x fits e =
    let a = bind_ok (entry_at known least at bytes) (λ e. entries_at known n (e.0.page + 1) (at + entry_size e.0) e.1 >>= λ others. Ok (e.0 ∷ others.0, others.1, others.2)) x e in
    let b = bind_ok (entries_at known n (a.0.0.page + 1) (at + entry_size a.0.0) a.0.1) (λ others. Ok (a.0.0 ∷ others.0, others.1, others.2)) x a.2 in
    let first = entry_takes known least at bytes a.0 fits a.1 in
    let second = entries_take known n (a.0.0.page + 1) (at + entry_size a.0.0) a.0.1 b.0 first.taken.rest_fits b.1 in
    let both : Takes bytes (spellings (a.0.0 ∷ b.0.0)) b.0.2 = rw (flat_map-cons entry_spelling a.0.0 b.0.0) (Takes-then bytes (entry_spelling a.0.0) a.0.1 (spellings b.0.0) b.0.2 first.taken second.taken) in
    subst (λ (y : List Entry × ℕ × List ℕ). ArePages known (suc n) least at bytes y) (ok_is (a.0.0 ∷ b.0.0, b.0.1, b.0.2) x b.2) (record { taken = both; count = ap suc second.count; sound = (first.sound, second.sound) })

-- where the pages end
pub end_of : ℕ → List Entry → ℕ
end_of at [] = at
end_of at (e ∷ es) = end_of (at + entry_size e) es

entries_again : (known : List (List ℕ)) (least at : ℕ) (es : List Entry) (rest : List ℕ) → AreEntries known least es → entries_at known (length es) least at (spellings es ++ rest) ≡ Ok (es, end_of at es, rest)
unfolding entries_at end_of
entries_again known least at [] rest h = refl
entries_again known least at (e ∷ es) rest h =
    let regrouped : spellings (e ∷ es) ++ rest ≡ entry_spelling e ++ (spellings es ++ rest) = append_assoc (entry_spelling e) (spellings es) rest in
    ap (entries_at known (suc (length es)) least at) regrouped
    ∙ rw (entry_again known least at e (spellings es ++ rest) h.0, entries_again known (e.page + 1) (at + entry_size e) es rest h.1) refl

-- as many as there are pages
few : (known : List (List ℕ)) (least : ℕ) (es : List Entry) → least ≤ pages → AreEntries known least es → least + length es ≤ pages
few known least [] le h = omega arith
few known least (e ∷ es) le h = omega (arith, h.0.order, few known (e.page + 1) es (omega (arith, h.0.page)) h.1)

-- ---- a memory, and a snapshot

pub record IsMemory (known : List (List ℕ)) (bytes : List ℕ) (x : List Entry × ℕ × List ℕ) : Type 0 where
  pub taken : Takes bytes (memory_spelling x.0) x.2
  pub sound : AreEntries known 0 x.0

pub memory_takes : (known : List (List ℕ)) (at : ℕ) (bytes : List ℕ) (x : List Entry × ℕ × List ℕ) → IsBytes bytes → memory_at known at bytes ≡ Ok x → IsMemory known bytes x
unfolding memory_at
memory_takes known at bytes x fits e =
    let n = bind_ok (number_at w32 at bytes) (λ n. entries_at known n.0 0 (at + 4) n.1) x e in
    let tn = number_takes at bytes n.0 fits n.1 in
    let te = entries_take known n.0.0 0 (at + 4) n.0.1 x tn.0.rest_fits n.2 in
    let counted : Takes bytes (to_le_bytes w32 (length x.0)) n.0.1 = subst (λ (k : ℕ). Takes bytes (to_le_bytes w32 k) n.0.1) (sym te.count) tn.0 in
    record { taken = Takes-then bytes (to_le_bytes w32 (length x.0)) n.0.1 (spellings x.0) x.2 counted te.taken; sound = te.sound }

abbrev pub end_of_memory : ℕ → List Entry → ℕ
end_of_memory at es = end_of (at + 4) es

pub memory_again : (known : List (List ℕ)) (at : ℕ) (es : List Entry) (rest : List ℕ) → AreEntries known 0 es → memory_at known at (memory_spelling es ++ rest) ≡ Ok (es, end_of_memory at es, rest)
unfolding memory_at
memory_again known at es rest h =
    let lt : length es < 2 ^ 32 = omega (arith, few known 0 es (omega arith) h) in
    let regrouped : memory_spelling es ++ rest ≡ to_le_bytes w32 (length es) ++ (spellings es ++ rest) = append_assoc (to_le_bytes w32 (length es)) (spellings es) rest in
    ap (memory_at known at) regrouped
    ∙ rw (number_again at (length es) (spellings es ++ rest) lt) (entries_again known 0 (at + 4) es rest h)

pub record IsSecond (known : List (List ℕ)) (flags : ℕ) (bytes : List ℕ) (x : Option (List Entry) × ℕ × List ℕ) : Type 0 where
  pub taken : Takes bytes (snapshot_spelling x.0) x.2
  pub sound : IsSnapshot known x.0
  pub flag : flags % 2 ≡ is_there x.0

snapshot_there : (known : List (List ℕ)) (flags at : ℕ) (bytes : List ℕ) (none : Bool) (x : Option (List Entry) × ℕ × List ℕ) → IsBytes bytes → eqb (flags % 2) 0 ≡ none
    → cond none (Ok (None, at, bytes)) (memory_at known at bytes >>= λ m. Ok (Some m.0, m.1, m.2)) ≡ Ok x → IsSecond known flags bytes x
snapshot_there known flags at bytes true x fits is e =
    let made : Option (List Entry) × ℕ × List ℕ = (None, at, bytes) in
    subst (λ (y : Option (List Entry) × ℕ × List ℕ). IsSecond known flags bytes y) (ok_is made x e) (record { taken = record { parts = refl; rest_fits = fits }; sound = tt; flag = eqb-true _ _ is })
snapshot_there known flags at bytes false x fits is e =
    let m = bind_ok (memory_at known at bytes) (λ m. Ok (Some m.0, m.1, m.2)) x e in
    let t = memory_takes known at bytes m.0 fits m.1 in
    let made : Option (List Entry) × ℕ × List ℕ = (Some m.0.0, m.0.1, m.0.2) in
    let odd : flags % 2 ≡ 1 = grind (arith, nat_tests, is) in
    subst (λ (y : Option (List Entry) × ℕ × List ℕ). IsSecond known flags bytes y) (ok_is made x m.2) (record { taken = t.taken; sound = t.sound; flag = odd })

pub snapshot_takes : (known : List (List ℕ)) (flags at : ℕ) (bytes : List ℕ) (x : Option (List Entry) × ℕ × List ℕ) → IsBytes bytes → snapshot_at known flags at bytes ≡ Ok x → IsSecond known flags bytes x
unfolding snapshot_at
snapshot_takes known flags at bytes x fits e = snapshot_there known flags at bytes (eqb (flags % 2) 0) x fits refl e

-- where a snapshot ends
pub end_of_snapshot : ℕ → Option (List Entry) → ℕ
end_of_snapshot at None = at
end_of_snapshot at (Some es) = end_of_memory at es

pub snapshot_again : (known : List (List ℕ)) (flags at : ℕ) (es : Option (List Entry)) (rest : List ℕ) → flags % 2 ≡ is_there es → IsSnapshot known es → snapshot_at known flags at (snapshot_spelling es ++ rest) ≡ Ok (es, end_of_snapshot at es, rest)
unfolding snapshot_at end_of_snapshot
snapshot_again known flags at None rest flag h = rw (eq-eqb _ _ flag) refl
snapshot_again known flags at (Some es) rest flag h =
    let odd : eqb (flags % 2) 0 ≡ false = grind (arith, nat_tests, flag) in
    rw (odd, memory_again known at es rest h) refl
