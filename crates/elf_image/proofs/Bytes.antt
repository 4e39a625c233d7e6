-- The bytes of a run's pages, load by load from the highest down.
use Rattle.std.proofs.Common.{◌≡◌, ℕ, ◌-◌, ◌+◌, ◌≤◌, ◌<◌, min, max, false, cond, ◌&&◌, leb, ltb, List, [], ◌∷◌, ◌++◌, get_or, take, drop, length, map, refl, sym, ap, ◌∙◌, arith, inl, inr}
use Rattle.std.specs.Prelude.{replicate, slice_index}
use Rattle.std.specs.List.{range_with_len}
use Rattle.std.proofs.lemmas.Bool.{cases_lt, and_from, and_left, and_right, le-leb, lt-leb, lt-ltb, le-ltb}
use Rattle.std.proofs.lemmas.List.{drop_more, drop_all, get_or-map, length-map, ext_get_or, get_or-take, get_or-drop, get_or_append_left, get_or-append_right, get_or-replicate, length-take, length-drop}
use Rattle.std.proofs.lemmas.List.FromFn.{length-map-range_with_len, get_or-map-range_with_len}
use Rattle.image_file.specs.View.{padded}
use Rattle.image_file.proofs.Padding.{length-padded, padded_is}
use Rattle.elf_model.specs.Loads as model
use Rattle.elf_model.specs.Pages.{byte_of}
use Rattle.elf_image.specs.declared.load.Load.{Load}
use Rattle.elf_image.specs.View.{load_view, load_views}

-- a load's byte at an address, or that of others
abbrev pub over : Load → ℕ → ℕ → ℕ
over l a other = cond (leb l.address a && ltb a (l.address + length l.content.now)) (slice_index l.content.now (a - l.address)) other

pub passed_over : (l : Load) (a other : ℕ) → (leb l.address a && ltb a (l.address + length l.content.now)) ≡ false → over l a other ≡ other
passed_over l a other e = rw e refl

outside : (l : Load) (a other : ℕ) → (leb l.address a && ltb a (l.address + length l.content.now)) ≡ false → over l a other ≡ other
outside l a other e = passed_over l a other e

inside : (l : Load) (a other : ℕ) → l.address ≤ a → a < l.address + length l.content.now → over l a other ≡ slice_index l.content.now (a - l.address)
inside l a other low high =
    let e = and_from (leb l.address a) (ltb a (l.address + length l.content.now)) (le-leb _ _ low) (lt-ltb _ _ high) in
    rw e refl

-- a part of bytes from `start` on is overwritten by a load's bytes that stand there
pub written : (old part : List ℕ) (l : Load) (start from to k : ℕ) → from ≡ max start l.address → to ≡ min (start + length old) (l.address + length l.content.now) → from < to
    → part ≡ take (to - l.address - (from - l.address)) (drop (from - l.address) l.content.now) → k < length old
    → get_or (take (from - start) old ++ (part ++ drop (to - start - (from - start)) (drop (from - start) old))) k 0 ≡ over l (start + k) (get_or old k 0)
written old part l start from to k is_from is_to some is_part lt =
    let a = from - start in
    let n = to - start - (from - start) in
    let len : length (take a old) ≡ a = omega (arith, length-take a old) in
    let size : length part ≡ n = ap length is_part ∙ omega (arith, length-take (to - l.address - (from - l.address)) (drop (from - l.address) l.content.now), length-drop (from - l.address) l.content.now) in
    let rest = drop n (drop a old) in
    elim (cases_lt k a) [
      | inl below ↦
          let e : get_or (take a old ++ (part ++ rest)) k 0 ≡ get_or old k 0 = get_or_append_left (take a old) (part ++ rest) 0 k (omega (arith, len)) ∙ get_or-take a old k 0 below in
          e ∙ sym (outside l (start + k) (get_or old k 0) (and_left (leb l.address (start + k)) (ltb (start + k) (l.address + length l.content.now)) (lt-leb _ _ (omega arith))))
      | inr above ↦
          let e : get_or (take a old ++ (part ++ rest)) k 0 ≡ get_or (part ++ rest) (k - a) 0 = get_or-append_right (take a old) (part ++ rest) a k 0 len above in
          elim (cases_lt (k - a) n) [
            | inl within ↦
                let f : get_or (part ++ rest) (k - a) 0 ≡ get_or part (k - a) 0 = get_or_append_left part rest 0 (k - a) (omega (arith, size)) in
                let g : get_or part (k - a) 0 ≡ get_or l.content.now (from - l.address + (k - a)) 0 = ap (λ (p : List ℕ). get_or p (k - a) 0) is_part ∙ get_or-take (to - l.address - (from - l.address)) (drop (from - l.address) l.content.now) (k - a) 0 (omega arith) ∙ get_or-drop (from - l.address) l.content.now (k - a) 0 in
                let place : from - l.address + (k - a) ≡ start + k - l.address = omega arith in
                e ∙ f ∙ g ∙ ap (λ (j : ℕ). get_or l.content.now j 0) place ∙ sym (inside l (start + k) (get_or old k 0) (omega arith) (omega arith))
            | inr beyond ↦
                let f : get_or (part ++ rest) (k - a) 0 ≡ get_or rest (k - a - n) 0 = get_or-append_right part rest n (k - a) 0 size beyond in
                let g : get_or rest (k - a - n) 0 ≡ get_or old (a + (n + (k - a - n))) 0 = get_or-drop n (drop a old) (k - a - n) 0 ∙ get_or-drop a old (n + (k - a - n)) 0 in
                let place : a + (n + (k - a - n)) ≡ k = omega arith in
                e ∙ f ∙ g ∙ ap (λ (j : ℕ). get_or old j 0) place ∙ sym (outside l (start + k) (get_or old k 0) (and_right (leb l.address (start + k)) (ltb (start + k) (l.address + length l.content.now)) (le-ltb _ _ (omega arith))))
          ]
    ]

pub untouched : (old : List ℕ) (l : Load) (start from to k : ℕ) → from ≡ max start l.address → to ≡ min (start + length old) (l.address + length l.content.now) → to ≤ from → k < length old
    → get_or old k 0 ≡ over l (start + k) (get_or old k 0)
untouched old l start from to k is_from is_to none lt = sym (outside l (start + k) (get_or old k 0) (elim (cases_lt (start + k) l.address) [
  | inl below ↦ and_left (leb l.address (start + k)) (ltb (start + k) (l.address + length l.content.now)) (lt-leb _ _ below)
  | inr above ↦ and_right (leb l.address (start + k)) (ltb (start + k) (l.address + length l.content.now)) (le-ltb _ _ (omega arith))
]))

-- ---- load by load

pub nothing_yet : (ls : List Load) (a : ℕ) → 0 ≡ byte_of (drop (length ls - 0) (load_views ls)) a
nothing_yet ls a =
    let none : drop (length ls - 0) (load_views ls) ≡ [] = drop_all (length ls - 0) (load_views ls) (omega (arith, length-map ls load_view)) in
    rw none refl

pub one_more : (ls : List Load) (done a : ℕ) (d : Load) → done < length ls → over (get_or ls (length ls - 1 - done) d) a (byte_of (drop (length ls - done) (load_views ls)) a) ≡ byte_of (drop (length ls - (done + 1)) (load_views ls)) a
one_more ls done a d lt =
    let views = load_views ls in
    let k = length ls - 1 - done in
    let l = load_view (get_or ls k d) in
    let short : k < length views = omega (arith, length-map ls load_view) in
    let same : get_or views k l ≡ l = get_or-map load_view ls k d l (omega arith) in
    let next : drop k views ≡ l ∷ drop (k + 1) views = drop_more views k l short ∙ ap (λ (m : model.Load). m ∷ drop (k + 1) views) same in
    let place : length ls - done ≡ k + 1 = omega arith in
    let there : length ls - (done + 1) ≡ k = omega arith in
    rw (place, there, next) refl

pub all_done : (ls : List Load) (done a : ℕ) → length ls ≤ done → byte_of (drop (length ls - done) (load_views ls)) a ≡ byte_of (load_views ls) a
all_done ls done a le =
    let none : length ls - done ≡ 0 = omega arith in
    rw none refl

-- bytes by their places are the list of them
pub are_bytes : (content : List ℕ) (byte : ℕ → ℕ) (start at size count : ℕ) → start ≡ at → size ≡ count → length content ≡ size → ((k : ℕ) → k < size → get_or content k 0 ≡ byte (start + k)) → content ≡ map byte (range_with_len at count)
are_bytes content byte start at size count same_start same_size len h =
    let length_same : length content ≡ length (map byte (range_with_len at count)) = omega (arith, length-map-range_with_len byte at count) in
    ext_get_or 0 content (map byte (range_with_len at count)) length_same (λ k lt. h k (omega arith) ∙ sym (get_or-map-range_with_len byte at count k (start + k) 0 (omega arith) (omega arith)))

-- bytes behind which there are zeros, and so many zeros
pub filled_up : (byte : ℕ → ℕ) (start size whole zeros : ℕ) → size ≤ whole → zeros ≡ whole - size → ((k : ℕ) → size ≤ k → k < whole → byte (start + k) ≡ 0) → padded (map byte (range_with_len start size)) zeros ≡ map byte (range_with_len start whole)
filled_up byte start size whole zeros le count none =
    let front = map byte (range_with_len start size) in
    let len : length front ≡ size = length-map-range_with_len byte start size in
    let all : length (map byte (range_with_len start whole)) ≡ whole = length-map-range_with_len byte start whole in
    ext_get_or 0 (padded front zeros) (map byte (range_with_len start whole)) (omega (arith, length-padded front zeros, len, all))
    (λ k lt.
    let below : k < whole = omega (arith, length-padded front zeros, len) in
    ap (λ (l : List ℕ). get_or l k 0) (padded_is front zeros)
    ∙ elim (cases_lt k size) [
      | inl low ↦ get_or_append_left front (replicate zeros 0) 0 k (omega (arith, len)) ∙ get_or-map-range_with_len byte start size k (start + k) 0 low refl
      | inr high ↦ get_or-append_right front (replicate zeros 0) size k 0 len high ∙ get_or-replicate zeros (k - size) 0 0 (omega arith) ∙ sym (none k high below)
    ]
    ∙ sym (get_or-map-range_with_len byte start whole k (start + k) 0 below refl))
