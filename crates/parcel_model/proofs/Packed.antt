-- The parcel in which a top is written is a parcel, and means the top.
use Rattle.std.proofs.Common.{◌≡◌, ℕ, zero, suc, ◌+◌, ◌-◌, ◌*◌, ◌^◌, ◌<◌, ◌≤◌, Bool, true, false, cond, eqb, ◌&&◌, List, [], ◌∷◌, length, drop, Option, Some, None, Ok, refl, sym, ap, subst, ◌∙◌, arith, inl, inr}
use Rattle.std.specs.Prelude.{slice_index, nat_eq}
use Rattle.std.specs.List.{position_from}
use Rattle.std.specs.Cmp.Lexicographic.{pointwise, same_text}
use Rattle.std.proofs.lemmas.Bool.{cases_lt, eqb-true}
use Rattle.std.proofs.lemmas.List.{length-drop}
use Rattle.memory_model.specs.Sizes.{page_size, pages}
use Rattle.memory_model.specs.Sparse.{Sparse, value_at, value_at-no_values, put}
use Rattle.memory_model.specs.Memory.{Memory, no_memory, byte_at, permission_at, bytes_from, same_memory, with_permission}
use Rattle.memory_model.specs.Ranges.{IsBounded, with_page}
use Rattle.memory_model.proofs.Rows.{value_at-put_same, value_at-put_other, value_at-row_before, value_at-row_after, value_at-row_key}
use Rattle.memory_model.proofs.Runs.{length-bytes_from}
use Rattle.space_model.specs.declared.Cause.{Cause}
use Rattle.space_model.specs.declared.Cause.TheVariants.{FetchMisaligned, FetchFault, Illegal, Breakpoint, LoadMisaligned, LoadFault, StoreMisaligned, StoreFault, Badcall, Conflict, Limit, Fuel, Ret, Fresh}
use Rattle.space_model.specs.declared.Status.{Status}
use Rattle.space_model.specs.declared.Status.TheVariants.{Running, Stopped}
use Rattle.space_model.specs.Stop.{cause_number, cause_of}
use Rattle.space_model.specs.Block.{block_of, stop_number, stop_value}
use Rattle.space_model.specs.Space.{Top}
use Rattle.space_model.specs.Beginning.{fresh_top}
use Rattle.parcel_model.specs.declared.error.ParcelErrorKind.TheVariants.{Truncated}
use Rattle.parcel_model.specs.Parcel.{Content, empty, resident, whole, Entry, page_in, with_content, with_entry, with_entries, memory_of, snapshot_of, top_in, is_zero, is_stop, IsContent, IsEntry, AreEntries, IsSnapshot, IsBlock, IsParcel, TopOf}
use Rattle.parcel_model.specs.Packing.{page_bytes, number_of, numbered, content_of, entry_of, is_unused, entries_from, entries_of, snapshot_entries, parcel_of, parcel_bytes, IsBoundedIn, IsPackable}
use Rattle.parcel_model.specs.Reading.{fault, parcel_at, top_at}
use Rattle.parcel_model.proofs.Parcels.{top_reads}

-- ---- the bytes of a page

byte-bytes_from : (m : Memory) (a n k : ℕ) → k < n → slice_index (bytes_from m a n) k ≡ byte_at m (a + k)
byte-bytes_from m a zero k lt = absurd (omega arith)
byte-bytes_from m a (suc n) zero lt = let e : a ≡ a + 0 = omega arith in ap (byte_at m) e
byte-bytes_from m a (suc n) (suc k) lt =
    let e : a + 1 + k ≡ a + suc k = omega arith in
    byte-bytes_from m (a + 1) n k (omega arith) ∙ ap (byte_at m) e

pub byte-page_bytes : (m : Memory) (page k : ℕ) → k < page_size → slice_index (page_bytes m page) k ≡ byte_at m (page_size * page + k)
unfolding page_bytes
byte-page_bytes m page k lt = byte-bytes_from m (page_size * page) page_size k lt

pub length-page_bytes : (m : Memory) (page : ℕ) → length (page_bytes m page) ≡ page_size
unfolding page_bytes
length-page_bytes m page = length-bytes_from m (page_size * page) page_size

-- ---- the resident page of a number

pub record IsFound (known : List (List ℕ)) (from k : ℕ) (bytes : List ℕ) : Type 0 where
  pub place : ℕ
  pub is : k ≡ from + place
  pub there : place < length known
  pub same : page_in known place ≡ bytes

found_at : (b : Bool) (page : List ℕ) (known : List (List ℕ)) (from k : ℕ) (bytes : List ℕ) (o : Option ℕ) → b ≡ pointwise nat_eq page bytes → cond b (Some from) o ≡ Some k → (o ≡ Some k → IsFound known (from + 1) k bytes) → IsFound (page ∷ known) from k bytes
found_at true page known from k bytes o is e later =
    let here : k ≡ from + 0 = let f : from ≡ k = some_is from k e in omega arith in
    record { place = 0; is = here; there = omega arith; same = same_text page bytes is }
  where
    some_is : (a b : ℕ) → Some a ≡ Some b → a ≡ b
    some_is a b e = cc
found_at false page known from k bytes o is e later =
    let f = later e in
    record { place = suc f.place; is = omega (arith, f.is); there = omega (arith, f.there); same = f.same }

found_from : (known : List (List ℕ)) (from k : ℕ) (bytes : List ℕ) → position_from (λ page. pointwise nat_eq page bytes) from known ≡ Some k → IsFound known from k bytes
found_from [] from k bytes e = absurd cc
found_from (page ∷ known) from k bytes e = found_at (pointwise nat_eq page bytes) page known from k bytes (position_from (λ page. pointwise nat_eq page bytes) (from + 1) known) refl e (found_from known (from + 1) k bytes)

pub found : (known : List (List ℕ)) (k : ℕ) (bytes : List ℕ) → number_of known bytes ≡ Some k → (k < length known) × (page_in known k ≡ bytes)
unfolding number_of
found known k bytes e =
    let f = found_from known 0 k bytes e in
    let is : k ≡ f.place = omega (arith, f.is) in
    (omega (arith, f.there), ap (page_in known) is ∙ f.same)

-- ---- how the bytes of a page travel

-- the bytes of a page; where there are none, all are 0
abbrev content_bytes : List (List ℕ) → Content → List ℕ
content_bytes known empty = []
content_bytes known (resident number) = page_in known number
content_bytes known (whole bytes) = bytes

-- content that may stand there, and has these bytes
record IsGood (known : List (List ℕ)) (permission : ℕ) (bytes : List ℕ) (c : Content) : Type 0 where
  sound : IsContent known permission c
  same : (k : ℕ) → slice_index (content_bytes known c) k ≡ slice_index bytes k

pub both_true : (a b : Bool) → (a && b) ≡ true → (a ≡ true) × (b ≡ true)
both_true true b e = (refl, e)
both_true false b e = absurd cc

pub all_zero : (bytes : List ℕ) → is_zero bytes ≡ true → (k : ℕ) → 0 ≡ slice_index bytes k
all_zero [] z k = refl
all_zero (b ∷ bytes) z zero = sym (eqb-true b 0 (both_true (eqb b 0) (is_zero bytes) z).0)
all_zero (b ∷ bytes) z (suc k) = all_zero bytes (both_true (eqb b 0) (is_zero bytes) z).1 k

numbered_good : (known : List (List ℕ)) (permission : ℕ) (bytes : List ℕ) (o : Option ℕ) → length known ≤ 2 ^ 32 → length bytes ≡ page_size → is_zero bytes ≡ false → number_of known bytes ≡ o → IsGood known permission bytes (numbered o bytes)
numbered_good known permission bytes None short len some is = record { sound = (len, some); same = λ k. refl }
numbered_good known permission bytes (Some n) short len some is =
    let f = found known n bytes is in
    record { sound = (omega (arith, f.0, short), ap is_zero f.1 ∙ some); same = λ k. ap (λ (l : List ℕ). slice_index l k) f.1 }

content_good : (known : List (List ℕ)) (permission : ℕ) (bytes : List ℕ) (none : Bool) → length known ≤ 2 ^ 32 → length bytes ≡ page_size → (eqb permission 0 && is_zero bytes) ≡ false → is_zero bytes ≡ none → IsGood known permission bytes (cond none empty (numbered (number_of known bytes) bytes))
content_good known permission bytes true short len used z =
    let some : permission ≡ 0 → ⊥ = λ e. unused permission (is_zero bytes) e z used in
    record { sound = some; same = all_zero bytes z }
  where
    unused : (p : ℕ) (z : Bool) → p ≡ 0 → z ≡ true → (eqb p 0 && z) ≡ false → ⊥
    unused zero true e f g = cc
    unused zero false e f g = cc
    unused (suc p) z e f g = omega (arith, e)
content_good known permission bytes false short len used z = numbered_good known permission bytes (number_of known bytes) short len z refl

entry_good : (known : List (List ℕ)) (m : Memory) (page : ℕ) → length known ≤ 2 ^ 32 → is_unused m page ≡ false → IsGood known (permission_at m page) (page_bytes m page) (content_of known (page_bytes m page))
unfolding is_unused
entry_good known m page short used = content_good known (permission_at m page) (page_bytes m page) (is_zero (page_bytes m page)) short (length-page_bytes m page) used refl

entry_sound : (known : List (List ℕ)) (m : Memory) (least page : ℕ) → length known ≤ 2 ^ 32 → IsBounded m → least ≤ page → page < pages → is_unused m page ≡ false → IsEntry known least (entry_of known m page)
entry_sound known m least page short bounded le lt used = record { order = le; page = lt; permission = bounded.permission page; content = (entry_good known m page short used).sound }

-- ---- the pages of a memory are a parcel's

AreEntries-lower : (known : List (List ℕ)) (low least : ℕ) (es : List Entry) → low ≤ least → AreEntries known least es → AreEntries known low es
AreEntries-lower known low least [] le h = tt
AreEntries-lower known low least (e ∷ es) le h = (record { order = omega (arith, h.0.order); page = h.0.page; permission = h.0.permission; content = h.0.content }, h.1)

cond_entries : (known : List (List ℕ)) (page : ℕ) (b : Bool) (e : Entry) (es : List Entry) → (b ≡ false → IsEntry known page e × (e.page ≡ page)) → AreEntries known (page + 1) es → AreEntries known page (cond b es (e ∷ es))
cond_entries known page true e es first others = AreEntries-lower known page (page + 1) es (omega arith) others
cond_entries known page false e es first others = let f = first refl in (f.0, subst (λ (k : ℕ). AreEntries known (k + 1) es) (sym f.1) others)

entries_sound : (known : List (List ℕ)) (m : Memory) (page n : ℕ) → length known ≤ 2 ^ 32 → IsBounded m → page + n ≤ pages → AreEntries known page (entries_from known m page n)
unfolding entries_from
entries_sound known m page zero short bounded le = tt
entries_sound known m page (suc n) short bounded le =
    cond_entries known page (is_unused m page) (entry_of known m page) (entries_from known m (page + 1) n)
    (λ used. (entry_sound known m page page short bounded (omega arith) (omega arith) used, refl))
    (entries_sound known m (page + 1) n short bounded (omega arith))

-- ---- and mean the memory

-- the same as another memory before a page, and nothing from there on
record Agrees (made m : Memory) (page : ℕ) : Type 0 where
  bytes : (a : ℕ) → a < page_size * page → byte_at made a ≡ byte_at m a
  permissions : (q : ℕ) → q < page → permission_at made q ≡ permission_at m q
  no_bytes : (a : ℕ) → page_size * page ≤ a → byte_at made a ≡ 0
  no_permissions : (q : ℕ) → page ≤ q → permission_at made q ≡ 0

-- the byte at an address of a page
byte_of : (m : Memory) (page a : ℕ) → page_size * page ≤ a → a < page_size * (page + 1) → slice_index (page_bytes m page) (a - page_size * page) ≡ byte_at m a
byte_of m page a le lt =
    let e : page_size * page + (a - page_size * page) ≡ a = omega arith in
    byte-page_bytes m page (a - page_size * page) (omega arith) ∙ ap (byte_at m) e

passes_over : (made m : Memory) (page : ℕ) → Agrees made m page → is_unused m page ≡ true → Agrees made m (page + 1)
unfolding is_unused
passes_over made m page h unused =
    let u = both_true (eqb (permission_at m page) 0) (is_zero (page_bytes m page)) unused in
    let none : permission_at m page ≡ 0 = eqb-true _ _ u.0 in
    record {
      bytes = λ a lt. elim (cases_lt a (page_size * page)) [
        | inl low ↦ h.bytes a low
        | inr high ↦ h.no_bytes a high ∙ all_zero (page_bytes m page) u.1 (a - page_size * page) ∙ byte_of m page a high lt
      ];
      permissions = λ q lt. elim (cases_lt q page) [
        | inl low ↦ h.permissions q low
        | inr high ↦ let is : page ≡ q = omega arith in h.no_permissions q high ∙ sym none ∙ ap (permission_at m) is
      ];
      no_bytes = λ a le. h.no_bytes a (omega arith);
      no_permissions = λ q le. h.no_permissions q (omega arith);
    }

-- the bytes of one more page are there
record HasPut (made m after : Memory) (page : ℕ) : Type 0 where
  bytes : (a : ℕ) → a < page_size * (page + 1) → byte_at after a ≡ byte_at m a
  no_bytes : (a : ℕ) → page_size * (page + 1) ≤ a → byte_at after a ≡ 0
  permissions : after.permissions ≡ made.permissions

puts_row : (made m : Memory) (page : ℕ) (bytes : List ℕ) → ((k : ℕ) → slice_index bytes k ≡ slice_index (page_bytes m page) k) → Agrees made m page → HasPut made m (with_page made page bytes) page
puts_row made m page bytes same h = record {
  bytes = λ a lt. elim (cases_lt a (page_size * page)) [
    | inl low ↦ value_at-row_before made.bytes (page_size * page) (slice_index bytes) page_size a low ∙ h.bytes a low
    | inr high ↦ value_at-row_key made.bytes (page_size * page) (slice_index bytes) page_size a high (omega arith) ∙ same (a - page_size * page) ∙ byte_of m page a high lt
  ];
  no_bytes = λ a le. value_at-row_after made.bytes (page_size * page) (slice_index bytes) page_size a (omega arith) ∙ h.no_bytes a (omega arith);
  permissions = refl;
}

puts_content : (known : List (List ℕ)) (made m : Memory) (page : ℕ) (c : Content) → ((k : ℕ) → slice_index (content_bytes known c) k ≡ slice_index (page_bytes m page) k) → Agrees made m page → HasPut made m (with_content known made page c) page
unfolding with_content
puts_content known made m page empty same h = record {
  bytes = λ a lt. elim (cases_lt a (page_size * page)) [
    | inl low ↦ h.bytes a low
    | inr high ↦ h.no_bytes a high ∙ same (a - page_size * page) ∙ byte_of m page a high lt
  ];
  no_bytes = λ a le. h.no_bytes a (omega arith);
  permissions = refl;
}
puts_content known made m page (resident n) same h = puts_row made m page (page_in known n) same h
puts_content known made m page (whole bytes) same h = puts_row made m page bytes same h

permits : (made m after : Memory) (page : ℕ) → Agrees made m page → HasPut made m after page → Agrees (with_permission after page (permission_at m page)) m (page + 1)
permits made m after page h put_there = record {
  bytes = put_there.bytes;
  permissions = λ q lt. elim (cases_lt q page) [
    | inl low ↦ value_at-put_other after.permissions page (permission_at m page) q (λ e. omega arith) ∙ ap (λ (t : Sparse). value_at t q) put_there.permissions ∙ h.permissions q low
    | inr high ↦ let is : page ≡ q = omega arith in subst (λ (k : ℕ). value_at (put after.permissions page (permission_at m page)) k ≡ permission_at m k) is (value_at-put_same after.permissions page (permission_at m page))
  ];
  no_bytes = put_there.no_bytes;
  no_permissions = λ q le. value_at-put_other after.permissions page (permission_at m page) q (λ e. omega arith) ∙ ap (λ (t : Sparse). value_at t q) put_there.permissions ∙ h.no_permissions q (omega arith);
}

puts_page : (known : List (List ℕ)) (made m : Memory) (page : ℕ) (c : Content) → ((k : ℕ) → slice_index (content_bytes known c) k ≡ slice_index (page_bytes m page) k) → Agrees made m page → Agrees (with_entry known made (record { page = page; permission = permission_at m page; content = c })) m (page + 1)
puts_page known made m page c same h = permits made m (with_content known made page c) page h (puts_content known made m page c same h)

cond_means : (known : List (List ℕ)) (made m : Memory) (page last : ℕ) (b : Bool) (e : Entry) (es : List Entry) → (b ≡ true → Agrees made m (page + 1)) → (b ≡ false → Agrees (with_entry known made e) m (page + 1))
    → ((n : Memory) → Agrees n m (page + 1) → Agrees (with_entries known n es) m last) → Agrees (with_entries known made (cond b es (e ∷ es))) m last
cond_means known made m page last true e es over put others = others made (over refl)
cond_means known made m page last false e es over put others = others (with_entry known made e) (put refl)

entries_mean : (known : List (List ℕ)) (made m : Memory) (page n : ℕ) → length known ≤ 2 ^ 32 → Agrees made m page → Agrees (with_entries known made (entries_from known m page n)) m (page + n)
unfolding entries_from
entries_mean known made m page zero short h = let e : page ≡ page + 0 = omega arith in subst (λ (k : ℕ). Agrees made m k) e h
entries_mean known made m page (suc n) short h =
    let next : page + 1 + n ≡ page + suc n = omega arith in
    cond_means known made m page (page + suc n) (is_unused m page) (entry_of known m page) (entries_from known m (page + 1) n)
    (passes_over made m page h)
    (λ used. puts_page known made m page (content_of known (page_bytes m page)) (entry_good known m page short used).same h)
    (λ k g. subst (λ (last : ℕ). Agrees (with_entries known k (entries_from known m (page + 1) n)) m last) next (entries_mean known k m (page + 1) n short g))

nothing_agrees : (m : Memory) → Agrees no_memory m 0
nothing_agrees m = record {
  bytes = λ a lt. absurd (omega arith);
  permissions = λ q lt. absurd (omega arith);
  no_bytes = λ a le. value_at-no_values a;
  no_permissions = λ q le. value_at-no_values q;
}

all_agree : (made m : Memory) → IsBounded m → Agrees made m pages → made ≡ m
all_agree made m bounded h =
    same_memory made m
    (λ a. elim (cases_lt a (page_size * pages)) [ inl lt ↦ h.bytes a lt | inr le ↦ h.no_bytes a le ∙ sym (bounded.addresses a (omega arith)) ])
    (λ q. elim (cases_lt q pages) [ inl lt ↦ h.permissions q lt | inr le ↦ h.no_permissions q le ∙ sym (bounded.pages q (omega arith)) ])

pub memory_means : (known : List (List ℕ)) (m : Memory) → length known ≤ 2 ^ 32 → IsBounded m → memory_of known (entries_of known m) ≡ m
memory_means known m short bounded = all_agree _ m bounded (entries_mean known no_memory m 0 pages short (nothing_agrees m))

memory_sound : (known : List (List ℕ)) (m : Memory) → length known ≤ 2 ^ 32 → IsBounded m → AreEntries known 0 (entries_of known m)
memory_sound known m short bounded = entries_sound known m 0 pages short bounded (omega arith)

snapshot_means : (known : List (List ℕ)) (s : Option Memory) → length known ≤ 2 ^ 32 → IsBoundedIn s → snapshot_of known (snapshot_entries known s) ≡ s
snapshot_means known None short bounded = refl
snapshot_means known (Some m) short bounded = ap (λ (n : Memory). Some n) (memory_means known m short bounded)

snapshot_sound : (known : List (List ℕ)) (s : Option Memory) → length known ≤ 2 ^ 32 → IsBoundedIn s → IsSnapshot known (snapshot_entries known s)
snapshot_sound known None short bounded = tt
snapshot_sound known (Some m) short bounded = memory_sound known m short bounded

-- ---- the register block

cause_stops : (c : Cause) (value : ℕ) → (is_stop (cause_number c) ≡ true) × (cause_number c ≡ 22 → ⊥) × (cond (eqb (cause_number c) 22) Running (Stopped (cause_of (cause_number c)) value) ≡ Stopped c value)
cause_stops FetchMisaligned value = (refl, λ e. omega arith, refl)
cause_stops FetchFault value = (refl, λ e. omega arith, refl)
cause_stops Illegal value = (refl, λ e. omega arith, refl)
cause_stops Breakpoint value = (refl, λ e. omega arith, refl)
cause_stops LoadMisaligned value = (refl, λ e. omega arith, refl)
cause_stops LoadFault value = (refl, λ e. omega arith, refl)
cause_stops StoreMisaligned value = (refl, λ e. omega arith, refl)
cause_stops StoreFault value = (refl, λ e. omega arith, refl)
cause_stops Badcall value = (refl, λ e. omega arith, refl)
cause_stops Conflict value = (refl, λ e. omega arith, refl)
cause_stops Limit value = (refl, λ e. omega arith, refl)
cause_stops Fuel value = (refl, λ e. omega arith, refl)
cause_stops Ret value = (refl, λ e. omega arith, refl)
cause_stops Fresh value = (refl, λ e. omega arith, refl)

record IsStatus (s : Status) : Type 0 where
  stop : is_stop (stop_number s) ≡ true
  runs : stop_number s ≡ 22 → stop_value s ≡ 0
  back : cond (eqb (stop_number s) 22) Running (Stopped (cause_of (stop_number s)) (stop_value s)) ≡ s

status_good : (s : Status) → IsStatus s
status_good Running = record { stop = refl; runs = λ e. refl; back = refl }
status_good (Stopped c value) =
    let h = cause_stops c value in
    record { stop = h.0; runs = λ e. absurd (h.1 e); back = h.2 }

block_sound : (t : Top) → IsPackable t → IsBlock (block_of t)
block_sound t h =
    let s = status_good t.status in
    record { registers = omega (arith, length-drop 1 t.registers.x, h.registers); words = h.words; stop = s.stop; runs = s.runs }

with_zero : (x : List ℕ) (n : ℕ) → length x ≡ suc n → slice_index x 0 ≡ 0 → 0 ∷ drop 1 x ≡ x
with_zero [] n len e = absurd (omega (arith, len))
with_zero (v ∷ x) n len e = ap (λ (k : ℕ). k ∷ x) (sym e)

-- ---- the top

parcel_sound : (known : List (List ℕ)) (t : Top) → length known ≤ 2 ^ 32 → IsPackable t → IsParcel known (parcel_of known t)
parcel_sound known t short h = record { block = block_sound t h; limit = h.limit; fuel = h.fuel; some = h.some; memory = memory_sound known t.memory short h.memory; snapshot = snapshot_sound known t.snapshot short h.snapshot }

parcel_means : (known : List (List ℕ)) (t : Top) → length known ≤ 2 ^ 32 → IsPackable t → top_in known (parcel_of known t) ≡ t
parcel_means known t short h =
    let x : 0 ∷ drop 1 t.registers.x ≡ t.registers.x = with_zero t.registers.x 31 h.registers h.zero in
    let m = memory_means known t.memory short h.memory in
    let s = snapshot_means known t.snapshot short h.snapshot in
    let status = (status_good t.status).back in
    let devices = sym h.devices in
    λ i. record {
      registers = record { pc = t.registers.pc; x = x i };
      memory = m i;
      snapshot = s i;
      limit = t.limit;
      fuel = t.fuel;
      used = t.used;
      status = status i;
      devices = devices i;
    }

pub packed_spells : (known : List (List ℕ)) (t : Top) → length known ≤ 2 ^ 32 → IsPackable t → TopOf known (parcel_bytes known t) t
packed_spells known t short h = record { parcel = parcel_of known t; spelled = record { sound = parcel_sound known t short h; spelled = refl }; means = sym (parcel_means known t short h) }

pub packed_reads : (known : List (List ℕ)) (t : Top) → length known ≤ 2 ^ 32 → IsPackable t → top_at known (parcel_bytes known t) ≡ Ok t
packed_reads known t short h = top_reads known (parcel_bytes known t) t (packed_spells known t short h)

-- ---- the least parcels

pub zeros_in : (bytes : List ℕ) → ((k : ℕ) → k < length bytes → slice_index bytes k ≡ 0) → is_zero bytes ≡ true
zeros_in [] h = refl
zeros_in (b ∷ bytes) h = rw (h 0 (omega arith), zeros_in bytes (λ k lt. h (suc k) (omega arith))) refl

zero_page : (page : ℕ) → is_zero (page_bytes no_memory page) ≡ true
zero_page page = zeros_in (page_bytes no_memory page) (λ k lt. byte-page_bytes no_memory page k (omega (arith, length-page_bytes no_memory page)) ∙ value_at-no_values (page_size * page + k))

none_used : (page : ℕ) → is_unused no_memory page ≡ true
unfolding is_unused
none_used page = rw (value_at-no_values page, zero_page page) refl

no_entries : (known : List (List ℕ)) (page n : ℕ) → entries_from known no_memory page n ≡ []
unfolding entries_from
no_entries known page zero = refl
no_entries known page (suc n) = rw (none_used page, no_entries known (page + 1) n) refl

pub fresh_bytes : (known : List (List ℕ)) (fuel : ℕ) → length (parcel_bytes known (fresh_top fuel)) ≡ 157
fresh_bytes known fuel = rw (no_entries known 0 pages) refl

pub nothing_read : (known : List (List ℕ)) → top_at known [] ≡ fault 0 Truncated
unfolding top_at parcel_at
nothing_read known = refl
