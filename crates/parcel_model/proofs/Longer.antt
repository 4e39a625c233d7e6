-- A parcel over a list of resident pages is a parcel over each longer one, of the same top; and a list only grows longer.
use Rattle.std.proofs.Common.{◌≡◌, ℕ, ◌+◌, Bool, true, false, cond, List, [], ◌∷◌, ◌++◌, length, Option, Some, None, refl, sym, ap, subst, ◌∙◌, append_assoc, inl, inr}
use Rattle.std.proofs.lemmas.Bool.{cases_lt}
use Rattle.std.proofs.lemmas.List.{append-nil, get_or_append_left, get_or_past}
use Rattle.memory_model.specs.Memory.{Memory, no_memory}
use Rattle.memory_model.specs.Ranges.{with_page}
use Rattle.space_model.specs.Space.{Top}
use Rattle.parcel_model.specs.Parcel.{Content, empty, resident, whole, Entry, Parcel, page_in, with_content, with_entry, with_entries, snapshot_of, status_in, top_in, is_zero, IsContent, IsEntry, AreEntries, IsSnapshot, IsParcel, TopOf}
use Rattle.parcel_model.specs.Residents.{with_resident, with_residents, IsLonger}

-- ---- pages

same_page : (known more : List (List ℕ)) (n : ℕ) → is_zero (page_in known n) ≡ false → page_in (known ++ more) n ≡ page_in known n
same_page known more n some = elim (cases_lt n (length known)) [
  | inl lt ↦ get_or_append_left known more [] n lt
  | inr le ↦ let none : page_in known n ≡ [] = get_or_past known n [] le in let e : is_zero (page_in known n) ≡ true = ap is_zero none in absurd cc
]

same_content : (known more : List (List ℕ)) (permission : ℕ) (c : Content) → IsContent known permission c → IsContent (known ++ more) permission c
same_content known more permission empty h = h
same_content known more permission (resident n) h = (h.0, ap is_zero (same_page known more n h.1) ∙ h.1)
same_content known more permission (whole bytes) h = h

same_with : (known more : List (List ℕ)) (m : Memory) (page permission : ℕ) (c : Content) → IsContent known permission c → with_content (known ++ more) m page c ≡ with_content known m page c
unfolding with_content
same_with known more m page permission empty h = refl
same_with known more m page permission (resident n) h = ap (with_page m page) (same_page known more n h.1)
same_with known more m page permission (whole bytes) h = refl

-- ---- memories

same_entries : (known more : List (List ℕ)) (least : ℕ) (es : List Entry) → AreEntries known least es → AreEntries (known ++ more) least es
same_entries known more least [] h = tt
same_entries known more least (e ∷ es) h = (record { order = h.0.order; page = h.0.page; permission = h.0.permission; content = same_content known more e.permission e.content h.0.content }, same_entries known more (e.page + 1) es h.1)

same_entry : (known more : List (List ℕ)) (least : ℕ) (m : Memory) (e : Entry) → IsEntry known least e → with_entry (known ++ more) m e ≡ with_entry known m e
same_entry known more least m e h = rw (same_with known more m e.page e.permission e.content h.content) refl

same_memory : (known more : List (List ℕ)) (least : ℕ) (m : Memory) (es : List Entry) → AreEntries known least es → with_entries (known ++ more) m es ≡ with_entries known m es
same_memory known more least m [] h = refl
same_memory known more least m (e ∷ es) h =
    ap (λ (n : Memory). with_entries (known ++ more) n es) (same_entry known more least m e h.0)
    ∙ same_memory known more (e.page + 1) (with_entry known m e) es h.1

same_snapshot : (known more : List (List ℕ)) (s : Option (List Entry)) → IsSnapshot known s → IsSnapshot (known ++ more) s
same_snapshot known more None h = tt
same_snapshot known more (Some es) h = same_entries known more 0 es h

same_snapshot_of : (known more : List (List ℕ)) (s : Option (List Entry)) → IsSnapshot known s → snapshot_of (known ++ more) s ≡ snapshot_of known s
same_snapshot_of known more None h = refl
same_snapshot_of known more (Some es) h = ap (λ (m : Memory). Some m) (same_memory known more 0 no_memory es h)

-- ---- parcels and tops

same_parcel : (known more : List (List ℕ)) (p : Parcel) → IsParcel known p → IsParcel (known ++ more) p
same_parcel known more p h = record { block = h.block; limit = h.limit; fuel = h.fuel; some = h.some; memory = same_entries known more 0 p.memory h.memory; snapshot = same_snapshot known more p.snapshot h.snapshot }

same_top : (known more : List (List ℕ)) (p : Parcel) → IsParcel known p → top_in (known ++ more) p ≡ top_in known p
same_top known more p h =
    let m = same_memory known more 0 no_memory p.memory h.memory in
    let s = same_snapshot_of known more p.snapshot h.snapshot in
    λ i. record {
      registers = record { pc = p.block.pc; x = 0 ∷ p.block.x };
      memory = m i;
      snapshot = s i;
      limit = p.limit;
      fuel = p.fuel;
      used = p.used;
      status = status_in p.block.cause p.block.value;
      devices = None;
    }

top_behind : (known more : List (List ℕ)) (bytes : List ℕ) (t : Top) → TopOf known bytes t → TopOf (known ++ more) bytes t
top_behind known more bytes t h = record { parcel = h.parcel; spelled = record { sound = same_parcel known more h.parcel h.spelled.sound; spelled = h.spelled.spelled }; means = h.means ∙ sym (same_top known more h.parcel h.spelled.sound) }

pub over_longer : (known longer : List (List ℕ)) (bytes : List ℕ) (t : Top) → IsLonger known longer → TopOf known bytes t → TopOf longer bytes t
over_longer known longer bytes t l h = subst (λ (k : List (List ℕ)). TopOf k bytes t) (sym l.behind) (top_behind known l.more bytes t h)

-- ---- lists grow longer

pub as_long : (known : List (List ℕ)) → IsLonger known known
as_long known = record { more = []; behind = sym (append-nil known) }

pub longer_still : (a b c : List (List ℕ)) → IsLonger a b → IsLonger b c → IsLonger a c
longer_still a b c h k = record { more = h.more ++ k.more; behind = k.behind ∙ ap (λ (l : List (List ℕ)). l ++ k.more) h.behind ∙ append_assoc a h.more k.more }

one_more : (b : Bool) (known : List (List ℕ)) (page : List ℕ) → IsLonger known (cond b (known ++ page ∷ []) known)
one_more true known page = record { more = page ∷ []; behind = refl }
one_more false known page = as_long known

pub grown : (known added : List (List ℕ)) → IsLonger known (with_residents known added)
grown known [] = as_long known
grown known (page ∷ added) = longer_still known (with_resident known page) (with_residents (with_resident known page) added) (one_more _ known page) (grown (with_resident known page) added)
