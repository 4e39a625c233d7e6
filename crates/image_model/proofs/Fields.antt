-- A field that is read is the field that was written, and what was written is read again.
use Rattle.std.proofs.Common.{◌≡◌, ℕ, suc, ◌+◌, ◌/◌, ◌^◌, ◌<◌, ◌≤◌, Bool, true, false, cond, eqb, ltb, List, [], ◌∷◌, ◌++◌, length, take, drop, Result, Ok, Err, refl, sym, ap, subst, ◌∙◌, append_assoc, arith, ◌⊎◌, inl, inr, lit<}
use Rattle.std.specs.Int.{Width, w16, w32, byte_len, from_le_bytes, to_le_bytes}
use Rattle.std.proofs.lemmas.Bool.{cases_lt, ltb-false, le-ltb, eqb-true, eq-eqb}
use Rattle.std.proofs.lemmas.List.{take_at, drop_at, take-append-drop, length-append, length-take, get_or-drop, get_or-take, get_or_past}
use Rattle.std.proofs.lemmas.Nat.{le_bytes_2, le_bytes_4, from_le_bytes-to_le_bytes_2, from_le_bytes-to_le_bytes_4}
use Rattle.image_model.specs.declared.error.ImageError.{ImageError}
use Rattle.image_model.specs.declared.error.ImageErrorKind.TheVariants.{Truncated, Magic, Count, Order, Permission, Length, Range}
use Rattle.memory_model.specs.Sizes.{page_size, greatest_permission}
use Rattle.image_model.specs.declared.format.Format.{Format}
use Rattle.image_model.specs.declared.format.Format.TheVariants.{Dti1, Dti2}
use Rattle.image_model.specs.Image.{mark, greatest_byte, permission_of, permission_byte, has_permission}
use Rattle.image_model.specs.Reading.{IsBytes, ◌>>=◌, number_at, content_at, magic_at, count_at, address_at, permission_at, length_at}

IsBytes-drop : (n : ℕ) (bytes : List ℕ) → IsBytes bytes → IsBytes (drop n bytes)
IsBytes-drop n bytes h i = rw get_or-drop (h (n + i))

IsBytes-take : (n : ℕ) (bytes : List ℕ) → IsBytes bytes → IsBytes (take n bytes)
IsBytes-take n bytes h i =
    elim (cases_lt i n) [
      | inl lt ↦ rw (get_or-take n bytes i 0 lt) (h i)
      | inr le ↦ rw (get_or_past (take n bytes) i 0 (omega (arith, length-take n bytes))) (omega arith)
    ]

-- the value of a step that did not fail
pub bind_ok : {A B : Type 0} (r : Result A ImageError) (f : A → Result B ImageError) (y : B) → (r >>= f) ≡ Ok y → (x : A) × (r ≡ Ok x) × (f x ≡ Ok y)
bind_ok (Ok x) f y e = (x, refl, e)
bind_ok (Err d) f y e = absurd cc

-- a test that did not fail
guard_ok : {A : Type 0} (b : Bool) (d : ImageError) (x y : A) → cond b (Err d) (Ok x) ≡ Ok y → (b ≡ false) × (x ≡ y)
guard_ok true d x y e = absurd cc
guard_ok false d x y e = (refl, cc)

guards_ok : {A : Type 0} (a b : Bool) (d e : ImageError) (x y : A) → cond a (Err d) (cond b (Err e) (Ok x)) ≡ Ok y → (a ≡ false) × (b ≡ false) × (x ≡ y)
guards_ok true b d e x y h = absurd cc
guards_ok false true d e x y h = absurd cc
guards_ok false false d e x y h = (refl, refl, cc)

wanted_ok : {A : Type 0} (b : Bool) (d : ImageError) (x y : A) → cond b (Ok x) (Err d) ≡ Ok y → (b ≡ true) × (x ≡ y)
wanted_ok true d x y e = (refl, cc)
wanted_ok false d x y e = absurd cc

abbrev done : {A : Type 0} → A → Result A ImageError
done x = Ok x

pub ok_is : {A : Type 0} (x y : A) → done x ≡ done y → x ≡ y
ok_is x y e = cc

-- what a reader took from the front
pub record Takes (bytes text rest : List ℕ) : Type 0 where
  pub parts : bytes ≡ text ++ rest
  pub rest_fits : IsBytes rest

pub Takes-then : (a x b y c : List ℕ) → Takes a x b → Takes b y c → Takes a (x ++ y) c
Takes-then a x b y c p q = record { parts = p.parts ∙ ap (λ (t : List ℕ). x ++ t) q.parts ∙ sym (append_assoc x y c); rest_fits = q.rest_fits }

-- ---- numbers

pub record IsWide (w : Width) (limit : ℕ) : Type 0 where
  pub len : (n : ℕ) → length (to_le_bytes w n) ≡ byte_len w
  pub back : (bytes : List ℕ) → length bytes ≡ byte_len w → IsBytes bytes → to_le_bytes w (from_le_bytes w bytes) ≡ bytes
  pub again : (n : ℕ) → n < limit → from_le_bytes w (to_le_bytes w n) ≡ n
  pub below : (bytes : List ℕ) → IsBytes bytes → from_le_bytes w bytes < limit

pub wide16 : IsWide w16 (2 ^ 16)
wide16 = record {
  len = λ n. refl;
  back = λ bytes len fits. le_bytes_2 bytes _ len fits refl;
  again = λ n lt. from_le_bytes-to_le_bytes_2 n lt;
  below = λ bytes fits. omega (arith, fits 0, fits 1);
}

pub wide32 : IsWide w32 (2 ^ 32)
wide32 = record {
  len = λ n. refl;
  back = λ bytes len fits. le_bytes_4 bytes _ len fits refl;
  again = λ n lt. from_le_bytes-to_le_bytes_4 n lt;
  below = λ bytes fits. omega (arith, fits 0, fits 1, fits 2, fits 3);
}

pub number_takes : (w : Width) (limit : ℕ) (wide : IsWide w limit) (at : ℕ) (bytes : List ℕ) (x : ℕ × List ℕ) → IsBytes bytes → number_at w at bytes ≡ Ok x → Takes bytes (to_le_bytes w x.0) x.1 × (x.0 < limit)
number_takes w limit wide at bytes x fits e =
    let g = guard_ok (ltb (length bytes) (byte_len w)) (record { at = at; kind = Truncated }) (from_le_bytes w (take (byte_len w) bytes), drop (byte_len w) bytes) x e in
    let long : byte_len w ≤ length bytes = ltb-false _ _ g.0 in
    let front : to_le_bytes w (from_le_bytes w (take (byte_len w) bytes)) ≡ take (byte_len w) bytes = wide.back (take (byte_len w) bytes) (omega (arith, length-take (byte_len w) bytes)) (IsBytes-take (byte_len w) bytes fits) in
    let taken : Takes bytes (to_le_bytes w (from_le_bytes w (take (byte_len w) bytes))) (drop (byte_len w) bytes) = record { parts = rw front (sym (take-append-drop (byte_len w) bytes)); rest_fits = IsBytes-drop (byte_len w) bytes fits } in
    subst (λ (y : ℕ × List ℕ). Takes bytes (to_le_bytes w y.0) y.1 × (y.0 < limit)) g.1 (taken, wide.below (take (byte_len w) bytes) (IsBytes-take (byte_len w) bytes fits))

pub number_again : (w : Width) (limit : ℕ) (wide : IsWide w limit) (at n : ℕ) (rest : List ℕ) → n < limit → number_at w at (to_le_bytes w n ++ rest) ≡ Ok (n, rest)
number_again w limit wide at n rest lt =
    let len = wide.len n in
    let long : ltb (length (to_le_bytes w n ++ rest)) (byte_len w) ≡ false = le-ltb _ _ (omega (arith, length-append (to_le_bytes w n) rest)) in
    rw (long, take_at (to_le_bytes w n) rest (byte_len w) len, drop_at (to_le_bytes w n) rest (byte_len w) len, wide.again n lt) refl

-- ---- so many bytes

pub content_takes : (n at : ℕ) (bytes : List ℕ) (x : List ℕ × List ℕ) → IsBytes bytes → content_at n at bytes ≡ Ok x → Takes bytes x.0 x.1 × (length x.0 ≡ n)
content_takes n at bytes x fits e =
    let g = guard_ok (ltb (length bytes) n) (record { at = at; kind = Truncated }) (take n bytes, drop n bytes) x e in
    let long : n ≤ length bytes = ltb-false _ _ g.0 in
    let len : length (take n bytes) ≡ n = omega (arith, length-take n bytes) in
    subst (λ (y : List ℕ × List ℕ). Takes bytes y.0 y.1 × (length y.0 ≡ n)) g.1 (record { parts = sym (take-append-drop n bytes); rest_fits = IsBytes-drop n bytes fits }, len)

pub content_again : (at : ℕ) (content rest : List ℕ) → content_at (length content) at (content ++ rest) ≡ Ok (content, rest)
content_again at content rest =
    let long : ltb (length (content ++ rest)) (length content) ≡ false = le-ltb _ _ (omega (arith, length-append content rest)) in
    rw (long, take_at content rest (length content) refl, drop_at content rest (length content) refl) refl

-- ---- numbers that are tested

-- the mark that was met
marked_ok : (one two : Bool) (rest : List ℕ) (d : ImageError) (x : Format × List ℕ) → cond one (Ok (Dti1, rest)) (cond two (Ok (Dti2, rest)) (Err d)) ≡ Ok x → ((one ≡ true) × ((Dti1, rest) ≡ x)) ⊎ ((two ≡ true) × ((Dti2, rest) ≡ x))
marked_ok true two rest d x e = inl (refl, cc)
marked_ok false true rest d x e = inr (refl, cc)
marked_ok false false rest d x e = absurd cc

pub magic_takes : (at : ℕ) (bytes : List ℕ) (x : Format × List ℕ) → IsBytes bytes → magic_at at bytes ≡ Ok x → Takes bytes (mark x.0) x.1
magic_takes at bytes x fits e =
    let b = bind_ok (number_at w32 at bytes) (λ n. cond (eqb n.0 (from_le_bytes w32 (mark Dti1))) (Ok (Dti1, n.1)) (cond (eqb n.0 (from_le_bytes w32 (mark Dti2))) (Ok (Dti2, n.1)) (Err (record { at = at; kind = Magic })))) x e in
    let t = number_takes w32 (2 ^ 32) wide32 at bytes b.0 fits b.1 in
    elim (marked_ok (eqb b.0.0 (from_le_bytes w32 (mark Dti1))) (eqb b.0.0 (from_le_bytes w32 (mark Dti2))) b.0.1 (record { at = at; kind = Magic }) x b.2) [
      | inl m ↦ subst (λ (y : Format × List ℕ). Takes bytes (mark y.0) y.1) m.1 (subst (λ (k : ℕ). Takes bytes (to_le_bytes w32 k) b.0.1) (eqb-true _ _ m.0) t.0)
      | inr m ↦ subst (λ (y : Format × List ℕ). Takes bytes (mark y.0) y.1) m.1 (subst (λ (k : ℕ). Takes bytes (to_le_bytes w32 k) b.0.1) (eqb-true _ _ m.0) t.0)
    ]

pub magic_again : (format : Format) (at : ℕ) (rest : List ℕ) → magic_at at (mark format ++ rest) ≡ Ok (format, rest)
magic_again Dti1 at rest =
    let lt : from_le_bytes w32 (mark Dti1) < 2 ^ 32 = lit< tt in
    let read : number_at w32 at (mark Dti1 ++ rest) ≡ Ok (from_le_bytes w32 (mark Dti1), rest) = number_again w32 (2 ^ 32) wide32 at (from_le_bytes w32 (mark Dti1)) rest lt in
    rw read refl
magic_again Dti2 at rest =
    let lt : from_le_bytes w32 (mark Dti2) < 2 ^ 32 = lit< tt in
    let read : number_at w32 at (mark Dti2 ++ rest) ≡ Ok (from_le_bytes w32 (mark Dti2), rest) = number_again w32 (2 ^ 32) wide32 at (from_le_bytes w32 (mark Dti2)) rest lt in
    rw read refl

pub count_takes : (at : ℕ) (bytes : List ℕ) (x : ℕ × List ℕ) → IsBytes bytes → count_at at bytes ≡ Ok x → Takes bytes (to_le_bytes w16 x.0) x.1 × (x.0 ≤ 64)
count_takes at bytes x fits e =
    let b = bind_ok (number_at w16 at bytes) (λ n. cond (ltb 64 n.0) (Err (record { at = at; kind = Count })) (Ok n)) x e in
    let g = guard_ok (ltb 64 b.0.0) (record { at = at; kind = Count }) b.0 x b.2 in
    let t = number_takes w16 (2 ^ 16) wide16 at bytes b.0 fits b.1 in
    subst (λ (y : ℕ × List ℕ). Takes bytes (to_le_bytes w16 y.0) y.1 × (y.0 ≤ 64)) g.1 (t.0, ltb-false _ _ g.0)

pub count_again : (at n : ℕ) (rest : List ℕ) → n ≤ 64 → count_at at (to_le_bytes w16 n ++ rest) ≡ Ok (n, rest)
count_again at n rest le =
    let few : ltb 64 n ≡ false = le-ltb _ _ le in
    let lt : n < 2 ^ 16 = omega arith in
    rw (number_again w16 (2 ^ 16) wide16 at n rest lt, few) refl

pub address_takes : (page at : ℕ) (bytes : List ℕ) (x : ℕ × List ℕ) → IsBytes bytes → address_at page at bytes ≡ Ok x → Takes bytes (to_le_bytes w32 x.0) x.1 × (page ≤ x.0 / page_size)
address_takes page at bytes x fits e =
    let b = bind_ok (number_at w32 at bytes) (λ n. cond (ltb (n.0 / page_size) page) (Err (record { at = at; kind = Order })) (Ok n)) x e in
    let g = guard_ok (ltb (b.0.0 / page_size) page) (record { at = at; kind = Order }) b.0 x b.2 in
    let t = number_takes w32 (2 ^ 32) wide32 at bytes b.0 fits b.1 in
    subst (λ (y : ℕ × List ℕ). Takes bytes (to_le_bytes w32 y.0) y.1 × (page ≤ y.0 / page_size)) g.1 (t.0, ltb-false _ _ g.0)

pub address_again : (page at n : ℕ) (rest : List ℕ) → n < 2 ^ 32 → page ≤ n / page_size → address_at page at (to_le_bytes w32 n ++ rest) ≡ Ok (n, rest)
address_again page at n rest lt le =
    let above : ltb (n / page_size) page ≡ false = le-ltb _ _ le in
    rw (number_again w32 (2 ^ 32) wide32 at n rest lt, above) refl

-- a permission of a page that the format has
pub record IsPermission (format : Format) (p : ℕ) : Type 0 where
  pub most : p ≤ greatest_permission
  pub has : has_permission format p ≡ true

-- the byte of the permission that a byte stands for is that byte
byte_back : (format : Format) (byte : ℕ) → byte ≤ greatest_byte format → permission_byte format (permission_of format byte) ≡ byte
byte_back Dti1 byte le = omega arith
byte_back Dti2 byte le = refl

-- the permission that the byte of a permission stands for is that permission
permission_back : (format : Format) (p : ℕ) → IsPermission format p → permission_of format (permission_byte format p) ≡ p
permission_back Dti1 p h = omega (arith, h.most, eqb-true _ _ h.has)
permission_back Dti2 p h = refl

IsPermission-permission_of : (format : Format) (byte : ℕ) → byte ≤ greatest_byte format → IsPermission format (permission_of format byte)
IsPermission-permission_of Dti1 byte le = record { most = omega arith; has = eq-eqb _ _ (omega arith) }
IsPermission-permission_of Dti2 byte le = record { most = le; has = refl }

permission_byte_le : (format : Format) (p : ℕ) → IsPermission format p → permission_byte format p ≤ greatest_byte format
permission_byte_le Dti1 p h = omega arith
permission_byte_le Dti2 p h = h.most

pub permission_takes : (format : Format) (at : ℕ) (bytes : List ℕ) (x : ℕ × List ℕ) → IsBytes bytes → permission_at format at bytes ≡ Ok x → Takes bytes (permission_byte format x.0 ∷ []) x.1 × IsPermission format x.0
unfolding permission_at
permission_takes format at [] x fits e = absurd cc
permission_takes format at (byte ∷ rest) x fits e =
    let g = guard_ok (ltb (greatest_byte format) byte) (record { at = at; kind = Permission }) (permission_of format byte, rest) x e in
    let low : byte ≤ greatest_byte format = ltb-false _ _ g.0 in
    let same : byte ∷ rest ≡ permission_byte format (permission_of format byte) ∷ rest = ap (λ (b : ℕ). b ∷ rest) (sym (byte_back format byte low)) in
    subst (λ (y : ℕ × List ℕ). Takes (byte ∷ rest) (permission_byte format y.0 ∷ []) y.1 × IsPermission format y.0) g.1 (record { parts = same; rest_fits = λ i. fits (suc i) }, IsPermission-permission_of format byte low)

pub permission_again : (format : Format) (at p : ℕ) (rest : List ℕ) → IsPermission format p → permission_at format at (permission_byte format p ∷ rest) ≡ Ok (p, rest)
unfolding permission_at
permission_again format at p rest h =
    let low : ltb (greatest_byte format) (permission_byte format p) ≡ false = le-ltb _ _ (permission_byte_le format p h) in
    rw (low, permission_back format p h) refl

pub record IsLength (address n : ℕ) : Type 0 where
  pub filled : 0 < n
  pub short : n < 2 ^ 32
  pub range : address + n ≤ 2 ^ 32

pub length_takes : (address at : ℕ) (bytes : List ℕ) (x : ℕ × List ℕ) → IsBytes bytes → length_at address at bytes ≡ Ok x → Takes bytes (to_le_bytes w32 x.0) x.1 × IsLength address x.0
length_takes address at bytes x fits e =
    let b = bind_ok (number_at w32 at bytes) (λ n. cond (eqb n.0 0) (Err (record { at = at; kind = Length })) (cond (ltb (2 ^ 32) (address + n.0)) (Err (record { at = at; kind = Range })) (Ok n))) x e in
    let g = guards_ok (eqb b.0.0 0) (ltb (2 ^ 32) (address + b.0.0)) (record { at = at; kind = Length }) (record { at = at; kind = Range }) b.0 x b.2 in
    let t = number_takes w32 (2 ^ 32) wide32 at bytes b.0 fits b.1 in
    let filled : 0 < b.0.0 = grind (arith, g.0) in
    subst (λ (y : ℕ × List ℕ). Takes bytes (to_le_bytes w32 y.0) y.1 × IsLength address y.0) g.2 (t.0, record { filled = filled; short = t.1; range = ltb-false _ _ g.1 })

pub length_again : (address at n : ℕ) (rest : List ℕ) → IsLength address n → length_at address at (to_le_bytes w32 n ++ rest) ≡ Ok (n, rest)
length_again address at n rest h =
    let some : eqb n 0 ≡ false = grind (arith, h.filled) in
    let within : ltb (2 ^ 32) (address + n) ≡ false = le-ltb _ _ h.range in
    rw (number_again w32 (2 ^ 32) wide32 at n rest h.short, some, within) refl
