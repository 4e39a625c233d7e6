-- A field that is read is the field that was written, and what was written is read again.
use Rattle.std.proofs.Common.{◌≡◌, ℕ, ◌+◌, ◌^◌, ◌<◌, ◌≤◌, Bool, true, false, cond, eqb, ltb, List, ◌++◌, length, take, drop, Result, Ok, Err, refl, sym, ap, subst, ◌∙◌, append_assoc, arith, inl, inr, lit<}
use Rattle.std.specs.Int.{Width, w32, w64, byte_len, from_le_bytes, to_le_bytes}
use Rattle.std.proofs.lemmas.Bool.{cases_lt, ltb-false, le-ltb, eqb-true, eq-eqb}
use Rattle.std.proofs.lemmas.Bool.Decides.{nat_tests}
use Rattle.std.proofs.lemmas.List.{take_at, drop_at, take-append-drop, length-append, length-take, get_or-drop, get_or-take, get_or_past}
use Rattle.std.proofs.lemmas.Nat.{le_bytes_4, le_bytes_8, from_le_bytes-to_le_bytes_4, from_le_bytes-to_le_bytes_8}
use Rattle.link_model.specs.declared.error.FrameError.{FrameError}
use Rattle.link_model.specs.declared.error.FrameErrorKind.TheVariants.{Truncated, Magic, Ahead, Trailing}
use Rattle.link_model.specs.Frame.{data_mark, receipt_mark, no_number}
use Rattle.link_model.specs.Reading.{IsBytes, ◌>>=◌, number_at, mark_at, data_number_at, receipt_number_at, rest_at, fault}

IsBytes-drop : (n : ℕ) (bytes : List ℕ) → IsBytes bytes → IsBytes (drop n bytes)
IsBytes-drop n bytes h i = rw get_or-drop (h (n + i))

IsBytes-take : (n : ℕ) (bytes : List ℕ) → IsBytes bytes → IsBytes (take n bytes)
IsBytes-take n bytes h i =
    elim (cases_lt i n) [
      | inl lt ↦ rw (get_or-take n bytes i 0 lt) (h i)
      | inr le ↦ rw (get_or_past (take n bytes) i 0 (omega (arith, length-take n bytes))) (omega arith)
    ]

-- the value of a step that did not fail
pub bind_ok : {A B : Type 0} (r : Result A FrameError) (f : A → Result B FrameError) (y : B) → (r >>= f) ≡ Ok y → (x : A) × (r ≡ Ok x) × (f x ≡ Ok y)
bind_ok (Ok x) f y e = (x, refl, e)
bind_ok (Err d) f y e = absurd cc

-- a test that did not fail
guard_ok : {A : Type 0} (b : Bool) (d : FrameError) (x y : A) → cond b (Err d) (Ok x) ≡ Ok y → (b ≡ false) × (x ≡ y)
guard_ok true d x y e = absurd cc
guard_ok false d x y e = (refl, cc)

guards_ok : {A : Type 0} (a b : Bool) (d e : FrameError) (x y : A) → cond a (Err d) (cond b (Err e) (Ok x)) ≡ Ok y → (a ≡ false) × (b ≡ false) × (x ≡ y)
guards_ok true b d e x y h = absurd cc
guards_ok false true d e x y h = absurd cc
guards_ok false false d e x y h = (refl, refl, cc)

wanted_ok : {A : Type 0} (b : Bool) (d : FrameError) (x y : A) → cond b (Ok x) (Err d) ≡ Ok y → (b ≡ true) × (x ≡ y)
wanted_ok true d x y e = (refl, cc)
wanted_ok false d x y e = absurd cc

abbrev done : {A : Type 0} → A → Result A FrameError
done x = Ok x

pub ok_is : {A : Type 0} (x y : A) → done x ≡ done y → x ≡ y
ok_is x y e = cc

-- what a reader took from the front
pub record Takes (bytes text rest : List ℕ) : Type 0 where
  pub parts : bytes ≡ text ++ rest
  pub rest_fits : IsBytes rest

pub Takes-then : (a x b y c : List ℕ) → Takes a x b → Takes b y c → Takes a (x ++ y) c
Takes-then a x b y c p q = record { parts = p.parts ∙ ap (λ (t : List ℕ). x ++ t) q.parts ∙ sym (append_assoc x y c); rest_fits = q.rest_fits }

-- ---- numbers

pub record IsWide (w : Width) (limit : ℕ) : Type 0 where
  pub len : (n : ℕ) → length (to_le_bytes w n) ≡ byte_len w
  pub back : (bytes : List ℕ) → length bytes ≡ byte_len w → IsBytes bytes → to_le_bytes w (from_le_bytes w bytes) ≡ bytes
  pub again : (n : ℕ) → n < limit → from_le_bytes w (to_le_bytes w n) ≡ n
  pub below : (bytes : List ℕ) → IsBytes bytes → from_le_bytes w bytes < limit

pub wide32 : IsWide w32 (2 ^ 32)
wide32 = record {
  len = λ n. refl;
  back = λ bytes len fits. le_bytes_4 bytes _ len fits refl;
  again = λ n lt. from_le_bytes-to_le_bytes_4 n lt;
  below = λ bytes fits. omega (arith, fits 0, fits 1, fits 2, fits 3);
}

pub wide64 : IsWide w64 (2 ^ 64)
wide64 = record {
  len = λ n. refl;
  back = λ bytes len fits. le_bytes_8 bytes _ len fits refl;
  again = λ n lt. from_le_bytes-to_le_bytes_8 n lt;
  below = λ bytes fits. omega (arith, fits 0, fits 1, fits 2, fits 3, fits 4, fits 5, fits 6, fits 7);
}

pub number_takes : (w : Width) (limit : ℕ) (wide : IsWide w limit) (at : ℕ) (bytes : List ℕ) (x : ℕ × List ℕ) → IsBytes bytes → number_at w at bytes ≡ Ok x → Takes bytes (to_le_bytes w x.0) x.1 × (x.0 < limit)
number_takes w limit wide at bytes x fits e =
    let g = guard_ok (ltb (length bytes) (byte_len w)) (record { at = at; kind = Truncated }) (from_le_bytes w (take (byte_len w) bytes), drop (byte_len w) bytes) x e in
    let long : byte_len w ≤ length bytes = ltb-false _ _ g.0 in
    let front : to_le_bytes w (from_le_bytes w (take (byte_len w) bytes)) ≡ take (byte_len w) bytes = wide.back (take (byte_len w) bytes) (omega (arith, length-take (byte_len w) bytes)) (IsBytes-take (byte_len w) bytes fits) in
    let taken : Takes bytes (to_le_bytes w (from_le_bytes w (take (byte_len w) bytes))) (drop (byte_len w) bytes) = record { parts = rw front (sym (take-append-drop (byte_len w) bytes)); rest_fits = IsBytes-drop (byte_len w) bytes fits } in
    subst (λ (y : ℕ × List ℕ). Takes bytes (to_le_bytes w y.0) y.1 × (y.0 < limit)) g.1 (taken, wide.below (take (byte_len w) bytes) (IsBytes-take (byte_len w) bytes fits))

pub number_again : (w : Width) (limit : ℕ) (wide : IsWide w limit) (at n : ℕ) (rest : List ℕ) → n < limit → number_at w at (to_le_bytes w n ++ rest) ≡ Ok (n, rest)
number_again w limit wide at n rest lt =
    let len = wide.len n in
    let long : ltb (length (to_le_bytes w n ++ rest)) (byte_len w) ≡ false = le-ltb _ _ (omega (arith, length-append (to_le_bytes w n) rest)) in
    rw (long, take_at (to_le_bytes w n) rest (byte_len w) len, drop_at (to_le_bytes w n) rest (byte_len w) len, wide.again n lt) refl

-- ---- numbers that are tested

marked : (mark : List ℕ) → from_le_bytes w32 mark < 2 ^ 32 → to_le_bytes w32 (from_le_bytes w32 mark) ≡ mark → (at : ℕ) (bytes rest : List ℕ) → IsBytes bytes → mark_at mark at bytes ≡ Ok rest → Takes bytes mark rest
marked mark lt back at bytes rest fits e =
    let b = bind_ok (number_at w32 at bytes) (λ n. cond (eqb n.0 (from_le_bytes w32 mark)) (Ok n.1) (Err (record { at = at; kind = Magic }))) rest e in
    let t = number_takes w32 (2 ^ 32) wide32 at bytes b.0 fits b.1 in
    let m = wanted_ok (eqb b.0.0 (from_le_bytes w32 mark)) (record { at = at; kind = Magic }) b.0.1 rest b.2 in
    let same : to_le_bytes w32 b.0.0 ≡ mark = ap (to_le_bytes w32) (eqb-true _ _ m.0) ∙ back in
    subst (λ (r : List ℕ). Takes bytes mark r) m.1 (subst (λ (t : List ℕ). Takes bytes t b.0.1) same t.0)

mark_again : (mark : List ℕ) → from_le_bytes w32 mark < 2 ^ 32 → to_le_bytes w32 (from_le_bytes w32 mark) ≡ mark → (at : ℕ) (rest : List ℕ) → mark_at mark at (mark ++ rest) ≡ Ok rest
mark_again mark lt back at rest =
    let read : number_at w32 at (mark ++ rest) ≡ Ok (from_le_bytes w32 mark, rest) = ap (λ (t : List ℕ). number_at w32 at (t ++ rest)) (sym back) ∙ number_again w32 (2 ^ 32) wide32 at (from_le_bytes w32 mark) rest lt in
    let same : eqb (from_le_bytes w32 mark) (from_le_bytes w32 mark) ≡ true = eq-eqb _ _ refl in
    rw read (rw same refl)

pub data_mark_takes : (at : ℕ) (bytes rest : List ℕ) → IsBytes bytes → mark_at data_mark at bytes ≡ Ok rest → Takes bytes data_mark rest
data_mark_takes = marked data_mark (lit< tt) refl

pub data_mark_again : (at : ℕ) (rest : List ℕ) → mark_at data_mark at (data_mark ++ rest) ≡ Ok rest
data_mark_again = mark_again data_mark (lit< tt) refl

pub receipt_mark_takes : (at : ℕ) (bytes rest : List ℕ) → IsBytes bytes → mark_at receipt_mark at bytes ≡ Ok rest → Takes bytes receipt_mark rest
receipt_mark_takes = marked receipt_mark (lit< tt) refl

pub receipt_mark_again : (at : ℕ) (rest : List ℕ) → mark_at receipt_mark at (receipt_mark ++ rest) ≡ Ok rest
receipt_mark_again = mark_again receipt_mark (lit< tt) refl

pub data_number_takes : (at : ℕ) (bytes : List ℕ) (x : ℕ × List ℕ) → IsBytes bytes → data_number_at at bytes ≡ Ok x → Takes bytes (to_le_bytes w64 x.0) x.1 × (x.0 < no_number)
data_number_takes at bytes x fits e =
    let b = bind_ok (number_at w64 at bytes) (λ n. cond (eqb n.0 no_number) (Err (record { at = at; kind = Ahead })) (Ok n)) x e in
    let t = number_takes w64 (2 ^ 64) wide64 at bytes b.0 fits b.1 in
    let g = guard_ok (eqb b.0.0 no_number) (record { at = at; kind = Ahead }) b.0 x b.2 in
    subst (λ (y : ℕ × List ℕ). Takes bytes (to_le_bytes w64 y.0) y.1 × (y.0 < no_number)) g.1 (t.0, below b.0.0 t.1 g.0)
  where
    below : (n : ℕ) → n < 2 ^ 64 → eqb n no_number ≡ false → n < no_number
    below n lt ne = grind (arith, nat_tests)

pub data_number_again : (at n : ℕ) (rest : List ℕ) → n < no_number → data_number_at at (to_le_bytes w64 n ++ rest) ≡ Ok (n, rest)
data_number_again at n rest lt =
    let read : number_at w64 at (to_le_bytes w64 n ++ rest) ≡ Ok (n, rest) = number_again w64 (2 ^ 64) wide64 at n rest (omega (arith, lt)) in
    let other : eqb n no_number ≡ false = grind (arith, nat_tests) in
    rw read (rw other refl)

pub receipt_number_takes : (offered at : ℕ) (bytes : List ℕ) (x : ℕ × List ℕ) → IsBytes bytes → receipt_number_at offered at bytes ≡ Ok x → Takes bytes (to_le_bytes w64 x.0) x.1 × (x.0 ≤ offered)
receipt_number_takes offered at bytes x fits e =
    let b = bind_ok (number_at w64 at bytes) (λ n. cond (ltb offered n.0) (Err (record { at = at; kind = Ahead })) (Ok n)) x e in
    let t = number_takes w64 (2 ^ 64) wide64 at bytes b.0 fits b.1 in
    let g = guard_ok (ltb offered b.0.0) (record { at = at; kind = Ahead }) b.0 x b.2 in
    subst (λ (y : ℕ × List ℕ). Takes bytes (to_le_bytes w64 y.0) y.1 × (y.0 ≤ offered)) g.1 (t.0, ltb-false _ _ g.0)

pub receipt_number_again : (offered at n : ℕ) (rest : List ℕ) → offered < 2 ^ 64 → n ≤ offered → receipt_number_at offered at (to_le_bytes w64 n ++ rest) ≡ Ok (n, rest)
receipt_number_again offered at n rest lt le =
    let read : number_at w64 at (to_le_bytes w64 n ++ rest) ≡ Ok (n, rest) = number_again w64 (2 ^ 64) wide64 at n rest (omega (arith, lt, le)) in
    let within : ltb offered n ≡ false = le-ltb _ _ le in
    rw read (rw within refl)

-- ---- the bytes behind the last number

pub rest_is : (size at : ℕ) (bytes text : List ℕ) → rest_at size at bytes ≡ Ok text → (bytes ≡ text) × (length text ≡ size)
rest_is size at bytes text e = go (ltb (length bytes) size) (ltb size (length bytes)) refl refl e
  where
    go : (b c : Bool) → ltb (length bytes) size ≡ b → ltb size (length bytes) ≡ c → cond b (fault {A = List ℕ} at Truncated) (cond c (fault {A = List ℕ} (at + size) Trailing) (Ok bytes)) ≡ Ok text
        → (bytes ≡ text) × (length text ≡ size)
    go true c short long is = absurd cc
    go false true short long is = absurd cc
    go false false short long is =
        let same : bytes ≡ text = cc in
        let up : size ≤ length bytes = ltb-false _ _ short in
        let down : length bytes ≤ size = ltb-false _ _ long in
        (same, subst (λ (t : List ℕ). length t ≡ size) same (omega (arith, up, down)))

pub rest_again : (at : ℕ) (text : List ℕ) → rest_at (length text) at text ≡ Ok text
rest_again at text =
    let exact : ltb (length text) (length text) ≡ false = le-ltb _ _ (omega arith) in
    rw exact refl
