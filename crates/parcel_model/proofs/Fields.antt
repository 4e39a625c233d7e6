-- A field that is read is the field that was written, and what was written is read again.
use Rattle.std.proofs.Common.{◌≡◌, ℕ, zero, suc, ◌+◌, ◌^◌, ◌<◌, ◌≤◌, Bool, true, false, cond, eqb, ltb, ◌&&◌, not, List, [], ◌∷◌, ◌++◌, length, take, drop, Result, Ok, Err, refl, sym, ap, subst, ◌∙◌, append_assoc, arith, inl, inr, lit<}
use Rattle.std.specs.Prelude.{slice_index}
use Rattle.std.specs.List.{flat_map}
use Rattle.std.specs.Int.{w32, from_le_bytes, to_le_bytes}
use Rattle.std.proofs.lemmas.Bool.{cases_lt, ltb-false, le-ltb, eqb-true}
use Rattle.std.proofs.lemmas.Bool.Decides.{nat_tests}
use Rattle.std.proofs.lemmas.Grind.{flat_map-append}
use Rattle.std.proofs.lemmas.List.{take_at, drop_at, take-append-drop, length-append, length-take, get_or-drop, get_or-take, get_or_past}
use Rattle.std.proofs.lemmas.List.Concat.{flat_map-cons}
use Rattle.std.proofs.lemmas.Nat.{le_bytes_4, from_le_bytes-to_le_bytes_4}
use Rattle.call_model.specs.declared.Block.{Block}
use Rattle.call_model.specs.Block.{words}
use Rattle.parcel_model.specs.declared.error.ParcelError.{ParcelError}
use Rattle.parcel_model.specs.declared.error.ParcelErrorKind.TheVariants.{Truncated, Magic, Status, Flags, Fuel, Page, Permission}
use Rattle.memory_model.specs.Sizes.{pages, greatest_permission}
use Rattle.parcel_model.specs.Parcel.{mark, is_stop, IsBlock, block_spelling}
use Rattle.parcel_model.specs.Reading.{IsBytes, ◌>>=◌, fault, byte_at, number_at, magic_at, words_at, cause_at, value_at, block_at, flags_at, used_at, page_at, permission_at}

pub IsBytes-drop : (n : ℕ) (bytes : List ℕ) → IsBytes bytes → IsBytes (drop n bytes)
IsBytes-drop n bytes h i = rw get_or-drop (h (n + i))

IsBytes-take : (n : ℕ) (bytes : List ℕ) → IsBytes bytes → IsBytes (take n bytes)
IsBytes-take n bytes h i =
    elim (cases_lt i n) [
      | inl lt ↦ rw (get_or-take n bytes i 0 lt) (h i)
      | inr le ↦ rw (get_or_past (take n bytes) i 0 (omega (arith, length-take n bytes))) (omega arith)
    ]

-- the value of a step that did not fail
pub bind_ok : {A B : Type 0} (r : Result A ParcelError) (f : A → Result B ParcelError) (y : B) → (r >>= f) ≡ Ok y → (x : A) × (r ≡ Ok x) × (f x ≡ Ok y)
bind_ok (Ok x) f y e = (x, refl, e)
bind_ok (Err d) f y e = absurd cc

-- a test that refused nothing
pub refused_not : {A : Type 0} (b : Bool) (d : ParcelError) (r : Result A ParcelError) (y : A) → cond b (Err d) r ≡ Ok y → (b ≡ false) × (r ≡ Ok y)
refused_not true d r y e = absurd cc
refused_not false d r y e = (refl, e)

-- a test that was passed
pub passed : {A : Type 0} (b : Bool) (d : ParcelError) (r : Result A ParcelError) (y : A) → cond b r (Err d) ≡ Ok y → (b ≡ true) × (r ≡ Ok y)
passed true d r y e = (refl, e)
passed false d r y e = absurd cc

abbrev done : {A : Type 0} → A → Result A ParcelError
done x = Ok x

pub ok_is : {A : Type 0} (x y : A) → done x ≡ done y → x ≡ y
ok_is x y e = cc

-- what a reader took from the front
pub record Takes (bytes text rest : List ℕ) : Type 0 where
  pub parts : bytes ≡ text ++ rest
  pub rest_fits : IsBytes rest

pub Takes-then : (a x b y c : List ℕ) → Takes a x b → Takes b y c → Takes a (x ++ y) c
Takes-then a x b y c p q = record { parts = p.parts ∙ ap (λ (t : List ℕ). x ++ t) q.parts ∙ sym (append_assoc x y c); rest_fits = q.rest_fits }

-- ---- bytes and numbers

pub byte_takes : (at : ℕ) (bytes : List ℕ) (x : ℕ × List ℕ) → IsBytes bytes → byte_at at bytes ≡ Ok x → Takes bytes (x.0 ∷ []) x.1
byte_takes at [] x fits e = absurd cc
byte_takes at (byte ∷ rest) x fits e = subst (λ (y : ℕ × List ℕ). Takes (byte ∷ rest) (y.0 ∷ []) y.1) (ok_is (byte, rest) x e) (record { parts = refl; rest_fits = λ i. fits (suc i) })

abbrev number : ℕ → List ℕ
number n = to_le_bytes w32 n

pub number_takes : (at : ℕ) (bytes : List ℕ) (x : ℕ × List ℕ) → IsBytes bytes → number_at w32 at bytes ≡ Ok x → Takes bytes (number x.0) x.1 × (x.0 < 2 ^ 32)
number_takes at bytes x fits e =
    let g = refused_not (ltb (length bytes) 4) (record { at = at; kind = Truncated }) (Ok (from_le_bytes w32 (take 4 bytes), drop 4 bytes)) x e in
    let long : 4 ≤ length bytes = ltb-false _ _ g.0 in
    let front_fits : IsBytes (take 4 bytes) = IsBytes-take 4 bytes fits in
    let len : length (take 4 bytes) ≡ 4 = omega (arith, length-take 4 bytes) in
    let front : number (from_le_bytes w32 (take 4 bytes)) ≡ take 4 bytes = le_bytes_4 (take 4 bytes) _ len front_fits refl in
    let taken : Takes bytes (number (from_le_bytes w32 (take 4 bytes))) (drop 4 bytes) = record { parts = sym (take-append-drop 4 bytes) ∙ ap (λ (t : List ℕ). t ++ drop 4 bytes) (sym front); rest_fits = IsBytes-drop 4 bytes fits } in
    let below : from_le_bytes w32 (take 4 bytes) < 2 ^ 32 = omega (arith, front_fits 0, front_fits 1, front_fits 2, front_fits 3) in
    subst (λ (y : ℕ × List ℕ). Takes bytes (number y.0) y.1 × (y.0 < 2 ^ 32)) (ok_is (from_le_bytes w32 (take 4 bytes), drop 4 bytes) x g.1) (taken, below)

pub number_again : (at n : ℕ) (rest : List ℕ) → n < 2 ^ 32 → number_at w32 at (number n ++ rest) ≡ Ok (n, rest)
number_again at n rest lt =
    let long : ltb (length (number n ++ rest)) 4 ≡ false = le-ltb _ _ (omega (arith, length-append (number n) rest)) in
    let front : from_le_bytes w32 (take 4 (number n ++ rest)) ≡ n = ap (from_le_bytes w32) (take_at (number n) rest 4 refl) ∙ from_le_bytes-to_le_bytes_4 n lt in
    let after : drop 4 (number n ++ rest) ≡ rest = drop_at (number n) rest 4 refl in
    rw long (λ i. Ok (front i, after i))

-- ---- the mark

pub magic_takes : (at : ℕ) (bytes rest : List ℕ) → IsBytes bytes → magic_at at bytes ≡ Ok rest → Takes bytes mark rest
magic_takes at bytes rest fits e =
    let b = bind_ok (number_at w32 at bytes) (λ n. cond (eqb n.0 (from_le_bytes w32 mark)) (Ok n.1) (fault at Magic)) rest e in
    let t = number_takes at bytes b.0 fits b.1 in
    let g = passed (eqb b.0.0 (from_le_bytes w32 mark)) (record { at = at; kind = Magic }) (Ok b.0.1) rest b.2 in
    let marked : Takes bytes mark b.0.1 = subst (λ (k : ℕ). Takes bytes (number k) b.0.1) (eqb-true _ _ g.0) t.0 in
    subst (λ (r : List ℕ). Takes bytes mark r) (ok_is b.0.1 rest g.1) marked

pub magic_again : (at : ℕ) (rest : List ℕ) → magic_at at (mark ++ rest) ≡ Ok rest
magic_again at rest =
    let lt : from_le_bytes w32 mark < 2 ^ 32 = lit< tt in
    let read : number_at w32 at (mark ++ rest) ≡ Ok (from_le_bytes w32 mark, rest) = number_again at (from_le_bytes w32 mark) rest lt in
    rw read refl

-- ---- the register block

-- words that fit
abbrev pub AreWords : List ℕ → Type 0
AreWords ws = (k : ℕ) → slice_index ws k < 2 ^ 32

AreWords-nil : AreWords []
AreWords-nil k = omega arith

AreWords-cons : (w : ℕ) (ws : List ℕ) → w < 2 ^ 32 → AreWords ws → AreWords (w ∷ ws)
AreWords-cons w ws lt h zero = lt
AreWords-cons w ws lt h (suc k) = h k

pub AreWords-append : (xs ys : List ℕ) → AreWords xs → AreWords ys → AreWords (xs ++ ys)
AreWords-append [] ys h g = g
AreWords-append (x ∷ xs) ys h g = AreWords-cons x (xs ++ ys) (h 0) (AreWords-append xs ys (λ k. h (suc k)) g)

pub AreWords-left : (xs ys : List ℕ) → AreWords (xs ++ ys) → AreWords xs
AreWords-left [] ys h = AreWords-nil
AreWords-left (x ∷ xs) ys h = AreWords-cons x xs (h 0) (AreWords-left xs ys (λ k. h (suc k)))

pub AreWords-right : (xs ys : List ℕ) → AreWords (xs ++ ys) → AreWords ys
AreWords-right [] ys h = h
AreWords-right (x ∷ xs) ys h = AreWords-right xs ys (λ k. h (suc k))

abbrev numbers : List ℕ → List ℕ
numbers ws = flat_map (to_le_bytes w32) ws

record AreTaken (n : ℕ) (bytes ws rest : List ℕ) : Type 0 where
  taken : Takes bytes (numbers ws) rest
  count : length ws ≡ n
  fit : AreWords ws

words_take : (n at : ℕ) (bytes : List ℕ) (x : List ℕ × List ℕ) → IsBytes bytes → words_at n at bytes ≡ Ok x → AreTaken n bytes x.0 x.1
unfolding words_at
words_take zero at bytes x fits e = subst (λ (y : List ℕ × List ℕ). AreTaken 0 bytes y.0 y.1) (ok_is ([], bytes) x e) (record { taken = record { parts = refl; rest_fits = fits }; count = refl; fit = AreWords-nil })
words_take (suc n) at bytes x fits e =
    let a = bind_ok (number_at w32 at bytes) (λ w. words_at n (at + 4) w.1 >>= λ others. Ok (w.0 ∷ others.0, others.1)) x e in
    let b = bind_ok (words_at n (at + 4) a.0.1) (λ others. Ok (a.0.0 ∷ others.0, others.1)) x a.2 in
    let first = number_takes at bytes a.0 fits a.1 in
    let second = words_take n (at + 4) a.0.1 b.0 first.0.rest_fits b.1 in
    let both : Takes bytes (numbers (a.0.0 ∷ b.0.0)) b.0.1 = rw (flat_map-cons (to_le_bytes w32) a.0.0 b.0.0) (Takes-then bytes (number a.0.0) a.0.1 (numbers b.0.0) b.0.1 first.0 second.taken) in
    subst (λ (y : List ℕ × List ℕ). AreTaken (suc n) bytes y.0 y.1) (ok_is (a.0.0 ∷ b.0.0, b.0.1) x b.2) (record { taken = both; count = ap suc second.count; fit = AreWords-cons a.0.0 b.0.0 first.1 second.fit })

words_again : (at : ℕ) (ws rest : List ℕ) → AreWords ws → words_at (length ws) at (numbers ws ++ rest) ≡ Ok (ws, rest)
unfolding words_at
words_again at [] rest h = refl
words_again at (w ∷ ws) rest h =
    let regrouped : numbers (w ∷ ws) ++ rest ≡ number w ++ (numbers ws ++ rest) = append_assoc (number w) (numbers ws) rest in
    ap (words_at (suc (length ws)) at) regrouped
    ∙ rw (number_again at w (numbers ws ++ rest) (h 0), words_again (at + 4) ws rest (λ k. h (suc k))) refl

cause_takes : (at : ℕ) (bytes : List ℕ) (x : ℕ × List ℕ) → IsBytes bytes → cause_at at bytes ≡ Ok x → Takes bytes (number x.0) x.1 × (x.0 < 2 ^ 32) × (is_stop x.0 ≡ true)
cause_takes at bytes x fits e =
    let b = bind_ok (number_at w32 at bytes) (λ n. cond (is_stop n.0) (Ok n) (fault at Status)) x e in
    let t = number_takes at bytes b.0 fits b.1 in
    let g = passed (is_stop b.0.0) (record { at = at; kind = Status }) (Ok b.0) x b.2 in
    subst (λ (y : ℕ × List ℕ). Takes bytes (number y.0) y.1 × (y.0 < 2 ^ 32) × (is_stop y.0 ≡ true)) (ok_is b.0 x g.1) (t.0, t.1, g.0)

cause_again : (at n : ℕ) (rest : List ℕ) → n < 2 ^ 32 → is_stop n ≡ true → cause_at at (number n ++ rest) ≡ Ok (n, rest)
cause_again at n rest lt h = rw (number_again at n rest lt, h) refl

-- with 22 the value is 0
no_value : (cause n : ℕ) → (eqb cause 22 && not (eqb n 0)) ≡ false → cause ≡ 22 → n ≡ 0
no_value cause n e h = grind (arith, nat_tests)

value_fits : (cause n : ℕ) → (cause ≡ 22 → n ≡ 0) → (eqb cause 22 && not (eqb n 0)) ≡ false
value_fits cause n h = grind (arith, nat_tests)

value_takes : (cause at : ℕ) (bytes : List ℕ) (x : ℕ × List ℕ) → IsBytes bytes → value_at cause at bytes ≡ Ok x → Takes bytes (number x.0) x.1 × (x.0 < 2 ^ 32) × (cause ≡ 22 → x.0 ≡ 0)
value_takes cause at bytes x fits e =
    let b = bind_ok (number_at w32 at bytes) (λ n. cond (eqb cause 22 && not (eqb n.0 0)) (fault at Status) (Ok n)) x e in
    let t = number_takes at bytes b.0 fits b.1 in
    let g = refused_not (eqb cause 22 && not (eqb b.0.0 0)) (record { at = at; kind = Status }) (Ok b.0) x b.2 in
    subst (λ (y : ℕ × List ℕ). Takes bytes (number y.0) y.1 × (y.0 < 2 ^ 32) × (cause ≡ 22 → y.0 ≡ 0)) (ok_is b.0 x g.1) (t.0, t.1, no_value cause b.0.0 g.0)

value_again : (cause at n : ℕ) (rest : List ℕ) → n < 2 ^ 32 → (cause ≡ 22 → n ≡ 0) → value_at cause at (number n ++ rest) ≡ Ok (n, rest)
value_again cause at n rest lt h = rw (number_again at n rest lt, value_fits cause n h) refl

-- the words one after the other are the block's
block_parts : (b : Block) → block_spelling b ≡ number b.pc ++ (numbers b.x ++ (number b.cause ++ number b.value))
block_parts b = ap (λ (t : List ℕ). number b.pc ++ t) (flat_map-append (to_le_bytes w32) b.x (b.cause ∷ b.value ∷ []))

pub block_takes : (at : ℕ) (bytes : List ℕ) (x : Block × List ℕ) → IsBytes bytes → block_at at bytes ≡ Ok x → Takes bytes (block_spelling x.0) x.1 × IsBlock x.0
unfolding block_at
block_takes at bytes x fits e =
    let p = bind_ok (number_at w32 at bytes) (λ pc. words_at 31 (at + 4) pc.1 >>= λ x. cause_at (at + 128) x.1 >>= λ c. value_at c.0 (at + 132) c.1 >>= λ v. Ok (record { pc = pc.0; x = x.0; cause = c.0; value = v.0 }, v.1)) x e in
    let w = bind_ok (words_at 31 (at + 4) p.0.1) (λ x. cause_at (at + 128) x.1 >>= λ c. value_at c.0 (at + 132) c.1 >>= λ v. Ok (record { pc = p.0.0; x = x.0; cause = c.0; value = v.0 }, v.1)) x p.2 in
    let c = bind_ok (cause_at (at + 128) w.0.1) (λ c. value_at c.0 (at + 132) c.1 >>= λ v. Ok (record { pc = p.0.0; x = w.0.0; cause = c.0; value = v.0 }, v.1)) x w.2 in
    let v = bind_ok (value_at c.0.0 (at + 132) c.0.1) (λ v. Ok (record { pc = p.0.0; x = w.0.0; cause = c.0.0; value = v.0 }, v.1)) x c.2 in
    let tp = number_takes at bytes p.0 fits p.1 in
    let tw = words_take 31 (at + 4) p.0.1 w.0 tp.0.rest_fits w.1 in
    let tc = cause_takes (at + 128) w.0.1 c.0 tw.taken.rest_fits c.1 in
    let tv = value_takes c.0.0 (at + 132) c.0.1 v.0 tc.0.rest_fits v.1 in
    let b : Block = record { pc = p.0.0; x = w.0.0; cause = c.0.0; value = v.0.0 } in
    let stopped = Takes-then w.0.1 (number c.0.0) c.0.1 (number v.0.0) v.0.1 tc.0 tv.0 in
    let filled = Takes-then p.0.1 (numbers w.0.0) w.0.1 (number c.0.0 ++ number v.0.0) v.0.1 tw.taken stopped in
    let all = Takes-then bytes (number p.0.0) p.0.1 (numbers w.0.0 ++ (number c.0.0 ++ number v.0.0)) v.0.1 tp.0 filled in
    let spelled : Takes bytes (block_spelling b) v.0.1 = rw (block_parts b) all in
    let ends : AreWords (c.0.0 ∷ v.0.0 ∷ []) = AreWords-cons c.0.0 (v.0.0 ∷ []) tc.1 (AreWords-cons v.0.0 [] tv.1 AreWords-nil) in
    let fit : AreWords (words b) = AreWords-cons p.0.0 (w.0.0 ++ c.0.0 ∷ v.0.0 ∷ []) tp.1 (AreWords-append w.0.0 (c.0.0 ∷ v.0.0 ∷ []) tw.fit ends) in
    subst (λ (y : Block × List ℕ). Takes bytes (block_spelling y.0) y.1 × IsBlock y.0) (ok_is (b, v.0.1) x v.2) (spelled, record { registers = tw.count; words = fit; stop = tc.2; runs = tv.2 })

pub block_again : (at : ℕ) (b : Block) (rest : List ℕ) → IsBlock b → block_at at (block_spelling b ++ rest) ≡ Ok (b, rest)
unfolding block_at
block_again at b rest h =
    let last = number b.value ++ rest in
    let stopped = number b.cause ++ last in
    let filled = numbers b.x ++ stopped in
    let regrouped : block_spelling b ++ rest ≡ number b.pc ++ filled =
    ap (λ (t : List ℕ). t ++ rest) (block_parts b)
    ∙ append_assoc (number b.pc) (numbers b.x ++ (number b.cause ++ number b.value)) rest
    ∙ ap (λ (t : List ℕ). number b.pc ++ t) (append_assoc (numbers b.x) (number b.cause ++ number b.value) rest ∙ ap (λ (t : List ℕ). numbers b.x ++ t) (append_assoc (number b.cause) (number b.value) rest)) in
    let inner : AreWords (b.x ++ b.cause ∷ b.value ∷ []) = λ k. h.words (suc k) in
    let ends : AreWords (b.cause ∷ b.value ∷ []) = AreWords-right b.x (b.cause ∷ b.value ∷ []) inner in
    let read : words_at 31 (at + 4) filled ≡ Ok (b.x, stopped) = subst (λ (n : ℕ). words_at n (at + 4) filled ≡ Ok (b.x, stopped)) h.registers (words_again (at + 4) b.x stopped (AreWords-left b.x (b.cause ∷ b.value ∷ []) inner)) in
    ap (block_at at) regrouped
    ∙ rw (number_again at b.pc filled (h.words 0), read, cause_again (at + 128) b.cause last (ends 0) h.stop, value_again b.cause (at + 132) b.value rest (ends 1) h.runs) refl

-- ---- flags, limit, fuel and used

pub flags_takes : (at : ℕ) (bytes : List ℕ) (x : ℕ × List ℕ) → IsBytes bytes → flags_at at bytes ≡ Ok x → Takes bytes (x.0 ∷ []) x.1 × (x.0 ≤ 3)
flags_takes at bytes x fits e =
    let b = bind_ok (byte_at at bytes) (λ n. cond (ltb 3 n.0) (fault at Flags) (Ok n)) x e in
    let t = byte_takes at bytes b.0 fits b.1 in
    let g = refused_not (ltb 3 b.0.0) (record { at = at; kind = Flags }) (Ok b.0) x b.2 in
    subst (λ (y : ℕ × List ℕ). Takes bytes (y.0 ∷ []) y.1 × (y.0 ≤ 3)) (ok_is b.0 x g.1) (t, ltb-false _ _ g.0)

pub permission_takes : (at : ℕ) (bytes : List ℕ) (x : ℕ × List ℕ) → IsBytes bytes → permission_at at bytes ≡ Ok x → Takes bytes (x.0 ∷ []) x.1 × (x.0 ≤ greatest_permission)
permission_takes at bytes x fits e =
    let b = bind_ok (byte_at at bytes) (λ n. cond (ltb greatest_permission n.0) (fault at Permission) (Ok n)) x e in
    let t = byte_takes at bytes b.0 fits b.1 in
    let g = refused_not (ltb greatest_permission b.0.0) (record { at = at; kind = Permission }) (Ok b.0) x b.2 in
    subst (λ (y : ℕ × List ℕ). Takes bytes (y.0 ∷ []) y.1 × (y.0 ≤ greatest_permission)) (ok_is b.0 x g.1) (t, ltb-false _ _ g.0)

pub permission_again : (at p : ℕ) (rest : List ℕ) → p ≤ greatest_permission → permission_at at (p ∷ rest) ≡ Ok (p, rest)
permission_again at p rest le = rw (le-ltb _ _ le) refl

-- fuel and used that a top may have
pub record IsFuel (fuel used : ℕ) : Type 0 where
  pub most : fuel + used < 2 ^ 32
  pub some : 1 ≤ fuel + used

pub used_takes : (fuel at : ℕ) (bytes : List ℕ) (x : ℕ × List ℕ) → IsBytes bytes → used_at fuel at bytes ≡ Ok x → Takes bytes (number x.0) x.1 × IsFuel fuel x.0
used_takes fuel at bytes x fits e =
    let b = bind_ok (number_at w32 at bytes) (λ n. cond (eqb (fuel + n.0) 0) (fault at Fuel) (cond (ltb (fuel + n.0) (2 ^ 32)) (Ok n) (fault at Fuel))) x e in
    let t = number_takes at bytes b.0 fits b.1 in
    let g = refused_not (eqb (fuel + b.0.0) 0) (record { at = at; kind = Fuel }) (cond (ltb (fuel + b.0.0) (2 ^ 32)) (Ok b.0) (fault at Fuel)) x b.2 in
    let p = passed (ltb (fuel + b.0.0) (2 ^ 32)) (record { at = at; kind = Fuel }) (Ok b.0) x g.1 in
    let some : 1 ≤ fuel + b.0.0 = grind (arith, g.0) in
    let most : fuel + b.0.0 < 2 ^ 32 = grind (arith, nat_tests, p.0) in
    subst (λ (y : ℕ × List ℕ). Takes bytes (number y.0) y.1 × IsFuel fuel y.0) (ok_is b.0 x p.1) (t.0, record { most = most; some = some })

pub used_again : (fuel at n : ℕ) (rest : List ℕ) → IsFuel fuel n → used_at fuel at (number n ++ rest) ≡ Ok (n, rest)
used_again fuel at n rest h =
    let lt : n < 2 ^ 32 = omega (arith, h.most) in
    let some : eqb (fuel + n) 0 ≡ false = grind (arith, h.some) in
    let most : ltb (fuel + n) (2 ^ 32) ≡ true = grind (arith, nat_tests, h.most) in
    rw (number_again at n rest lt, some, most) refl

-- a page that may stand there
pub record IsPlace (least page : ℕ) : Type 0 where
  pub order : least ≤ page
  pub below : page < pages

pub page_takes : (least at : ℕ) (bytes : List ℕ) (x : ℕ × List ℕ) → IsBytes bytes → page_at least at bytes ≡ Ok x → Takes bytes (number x.0) x.1 × IsPlace least x.0
page_takes least at bytes x fits e =
    let b = bind_ok (number_at w32 at bytes) (λ n. cond (ltb n.0 least) (fault at Page) (cond (ltb n.0 pages) (Ok n) (fault at Page))) x e in
    let t = number_takes at bytes b.0 fits b.1 in
    let g = refused_not (ltb b.0.0 least) (record { at = at; kind = Page }) (cond (ltb b.0.0 pages) (Ok b.0) (fault at Page)) x b.2 in
    let p = passed (ltb b.0.0 pages) (record { at = at; kind = Page }) (Ok b.0) x g.1 in
    let below : b.0.0 < pages = grind (arith, nat_tests, p.0) in
    subst (λ (y : ℕ × List ℕ). Takes bytes (number y.0) y.1 × IsPlace least y.0) (ok_is b.0 x p.1) (t.0, record { order = ltb-false _ _ g.0; below = below })

pub page_again : (least at n : ℕ) (rest : List ℕ) → IsPlace least n → page_at least at (number n ++ rest) ≡ Ok (n, rest)
page_again least at n rest h =
    let lt : n < 2 ^ 32 = omega (arith, h.below) in
    let above : ltb n least ≡ false = le-ltb _ _ h.order in
    let below : ltb n pages ≡ true = grind (arith, nat_tests, h.below) in
    rw (number_again at n rest lt, above, below) refl
