-- A parcel that was read is spelled so: field by field, from the last to the first.
use Rattle.std.proofs.Common.{◌≡◌, ℕ, ◌+◌, ◌*◌, ◌%◌, ◌^◌, ◌<◌, ◌≤◌, Bool, true, false, cond, eqb, ltb, List, [], ◌∷◌, ◌++◌, Option, Some, None, Result, Ok, refl, sym, ap, subst, ◌∙◌, arith}
use Rattle.std.specs.Int.{w32, to_le_bytes}
use Rattle.std.proofs.lemmas.Bool.{eqb-true}
use Rattle.std.proofs.lemmas.Bool.Decides.{nat_tests}
use Rattle.std.proofs.lemmas.List.{append-nil}
use Rattle.call_model.specs.declared.Block.{Block}
use Rattle.parcel_model.specs.declared.error.ParcelError.{ParcelError}
use Rattle.parcel_model.specs.declared.error.ParcelErrorKind.TheVariants.{Limit}
use Rattle.parcel_model.specs.Parcel.{Entry, Parcel, mark, block_spelling, flags_of, is_there, limit_number, memory_spelling, snapshot_spelling, spelling, IsBlock, AreEntries, IsSnapshot, ParcelOf}
use Rattle.parcel_model.specs.Reading.{IsBytes, ◌>>=◌, fault, number_at, magic_at, block_at, flags_at, limit_at, used_at, memory_at, snapshot_at, ended, parcel_at}
use Rattle.parcel_model.proofs.Fields.{bind_ok, passed, ok_is, Takes, number_takes, magic_takes, block_takes, flags_takes, IsFuel, used_takes}
use Rattle.parcel_model.proofs.Entries.{memory_takes, snapshot_takes}

-- a value, and nothing after it
ended_ok : {A : Type 0} (x y : A) (at : ℕ) (bytes : List ℕ) → ended x at bytes ≡ Ok y → (bytes ≡ []) × (x ≡ y)
ended_ok x y at [] e = (refl, cc)
ended_ok x y at (b ∷ bytes) e = absurd cc

abbrev parcel : Block → Option ℕ → ℕ → ℕ → List Entry → Option (List Entry) → Parcel
parcel block limit fuel used memory snapshot = record { block = block; limit = limit; fuel = fuel; used = used; memory = memory; snapshot = snapshot }

-- ---- the memories

record HasSnapshot (known : List (List ℕ)) (flags : ℕ) (p : Parcel) (bytes : List ℕ) : Type 0 where
  spelled : bytes ≡ snapshot_spelling p.snapshot
  sound : IsSnapshot known p.snapshot
  flag : flags % 2 ≡ is_there p.snapshot

record IsOf (b : Block) (l : Option ℕ) (n u : ℕ) (es : List Entry) (p : Parcel) : Type 0 where
  block : p.block ≡ b
  limit : p.limit ≡ l
  fuel : p.fuel ≡ n
  used : p.used ≡ u
  memory : p.memory ≡ es

abbrev snapshot_stage : List (List ℕ) → ℕ → Block → Option ℕ → ℕ → ℕ → List Entry → ℕ → List ℕ → Result Parcel ParcelError
snapshot_stage known flags block limit fuel used memory at bytes = snapshot_at known flags at bytes >>= λ s. ended (parcel block limit fuel used memory s.0) s.1 s.2

snapshot_last : (known : List (List ℕ)) (flags : ℕ) (block : Block) (limit : Option ℕ) (fuel used : ℕ) (memory : List Entry) (at : ℕ) (bytes : List ℕ) (p : Parcel) → IsBytes bytes → snapshot_stage known flags block limit fuel used memory at bytes ≡ Ok p
    → HasSnapshot known flags p bytes × IsOf block limit fuel used memory p
snapshot_last known flags block limit fuel used memory at bytes p fits e =
    let s = bind_ok (snapshot_at known flags at bytes) (λ s. ended (parcel block limit fuel used memory s.0) s.1 s.2) p e in
    snapshot_made known flags block limit fuel used memory at bytes p s.0 fits s.1 s.2
  where
    snapshot_made : (known : List (List ℕ)) (flags : ℕ) (block : Block) (limit : Option ℕ) (fuel used : ℕ) (memory : List Entry) (at : ℕ) (bytes : List ℕ) (p : Parcel) (s : Option (List Entry) × ℕ × List ℕ) → IsBytes bytes → snapshot_at known flags at bytes ≡ Ok s → ended (parcel block limit fuel used memory s.0) s.1 s.2 ≡ Ok p
        → HasSnapshot known flags p bytes × IsOf block limit fuel used memory p
    snapshot_made known flags block limit fuel used memory at bytes p s fits read e =
        let t = snapshot_takes known flags at bytes s fits read in
        let last = ended_ok (parcel block limit fuel used memory s.0) p s.1 s.2 e in
        let spelled : bytes ≡ snapshot_spelling s.0 = t.taken.parts ∙ ap (λ (r : List ℕ). snapshot_spelling s.0 ++ r) last.0 ∙ append-nil (snapshot_spelling s.0) in
        subst (λ (q : Parcel). HasSnapshot known flags q bytes × IsOf block limit fuel used memory q) last.1 (record { spelled = spelled; sound = t.sound; flag = t.flag }, record { block = refl; limit = refl; fuel = refl; used = refl; memory = refl })

-- both memories
abbrev memories : Parcel → List ℕ
memories p = memory_spelling p.memory ++ snapshot_spelling p.snapshot

record HasMemory (known : List (List ℕ)) (flags : ℕ) (p : Parcel) (bytes : List ℕ) : Type 0 where
  spelled : bytes ≡ memories p
  memory : AreEntries known 0 p.memory
  snapshot : IsSnapshot known p.snapshot
  flag : flags % 2 ≡ is_there p.snapshot

record IsWith (b : Block) (l : Option ℕ) (n u : ℕ) (p : Parcel) : Type 0 where
  block : p.block ≡ b
  limit : p.limit ≡ l
  fuel : p.fuel ≡ n
  used : p.used ≡ u

abbrev memory_stage : List (List ℕ) → ℕ → Block → Option ℕ → ℕ → ℕ → List ℕ → Result Parcel ParcelError
memory_stage known flags block limit fuel used bytes = memory_at known 153 bytes >>= λ o. snapshot_stage known flags block limit fuel used o.0 o.1 o.2

memory_made : (known : List (List ℕ)) (flags : ℕ) (block : Block) (limit : Option ℕ) (fuel used : ℕ) (bytes : List ℕ) (p : Parcel) (o : List Entry × ℕ × List ℕ) → IsBytes bytes → memory_at known 153 bytes ≡ Ok o → snapshot_stage known flags block limit fuel used o.0 o.1 o.2 ≡ Ok p
    → HasMemory known flags p bytes × IsWith block limit fuel used p
memory_made known flags block limit fuel used bytes p o fits read e =
    let t = memory_takes known 153 bytes o fits read in
    let s = snapshot_last known flags block limit fuel used o.0 o.1 o.2 p t.taken.rest_fits e in
    let is : o.0 ≡ p.memory = sym s.1.memory in
    let spelled : bytes ≡ memories p = t.taken.parts ∙ ap (λ (r : List ℕ). memory_spelling o.0 ++ r) s.0.spelled ∙ ap (λ (es : List Entry). memory_spelling es ++ snapshot_spelling p.snapshot) is in
    (record { spelled = spelled; memory = subst (λ (es : List Entry). AreEntries known 0 es) is t.sound; snapshot = s.0.sound; flag = s.0.flag }, record { block = s.1.block; limit = s.1.limit; fuel = s.1.fuel; used = s.1.used })

memory_last : (known : List (List ℕ)) (flags : ℕ) (block : Block) (limit : Option ℕ) (fuel used : ℕ) (bytes : List ℕ) (p : Parcel) → IsBytes bytes → memory_stage known flags block limit fuel used bytes ≡ Ok p
    → HasMemory known flags p bytes × IsWith block limit fuel used p
memory_last known flags block limit fuel used bytes p fits e =
    let o = bind_ok (memory_at known 153 bytes) (λ o. snapshot_stage known flags block limit fuel used o.0 o.1 o.2) p e in
    memory_made known flags block limit fuel used bytes p o.0 fits o.1 o.2

-- ---- fuel and used

abbrev behind_limit : Parcel → List ℕ
behind_limit p = to_le_bytes w32 p.fuel ++ (to_le_bytes w32 p.used ++ memories p)

record HasFuel (known : List (List ℕ)) (flags : ℕ) (p : Parcel) (bytes : List ℕ) : Type 0 where
  spelled : bytes ≡ behind_limit p
  fuel : IsFuel p.fuel p.used
  memory : AreEntries known 0 p.memory
  snapshot : IsSnapshot known p.snapshot
  flag : flags % 2 ≡ is_there p.snapshot

record IsBegun (b : Block) (l : Option ℕ) (p : Parcel) : Type 0 where
  block : p.block ≡ b
  limit : p.limit ≡ l

abbrev used_stage : List (List ℕ) → ℕ → Block → Option ℕ → ℕ → List ℕ → Result Parcel ParcelError
used_stage known flags block limit fuel bytes = used_at fuel 149 bytes >>= λ u. memory_stage known flags block limit fuel u.0 u.1

abbrev fuel_stage : List (List ℕ) → ℕ → Block → Option ℕ → List ℕ → Result Parcel ParcelError
fuel_stage known flags block limit bytes = number_at w32 145 bytes >>= λ n. used_stage known flags block limit n.0 n.1

fuel_made : (known : List (List ℕ)) (flags : ℕ) (block : Block) (limit : Option ℕ) (bytes : List ℕ) (p : Parcel) (n u : ℕ × List ℕ) → IsBytes bytes → number_at w32 145 bytes ≡ Ok n → used_at n.0 149 n.1 ≡ Ok u → memory_stage known flags block limit n.0 u.0 u.1 ≡ Ok p
    → HasFuel known flags p bytes × IsBegun block limit p
fuel_made known flags block limit bytes p n u fits read second e =
    let tn = number_takes 145 bytes n fits read in
    let tu = used_takes n.0 149 n.1 u tn.0.rest_fits second in
    let m = memory_last known flags block limit n.0 u.0 u.1 p tu.0.rest_fits e in
    let used : n.1 ≡ to_le_bytes w32 p.used ++ memories p = tu.0.parts ∙ ap (λ (r : List ℕ). to_le_bytes w32 u.0 ++ r) m.0.spelled ∙ ap (λ (k : ℕ). to_le_bytes w32 k ++ memories p) (sym m.1.used) in
    let spelled : bytes ≡ behind_limit p = tn.0.parts ∙ ap (λ (r : List ℕ). to_le_bytes w32 n.0 ++ r) used ∙ ap (λ (k : ℕ). to_le_bytes w32 k ++ (to_le_bytes w32 p.used ++ memories p)) (sym m.1.fuel) in
    let most : p.fuel + p.used < 2 ^ 32 = omega (arith, tu.1.most, m.1.fuel, m.1.used) in
    let some : 1 ≤ p.fuel + p.used = omega (arith, tu.1.some, m.1.fuel, m.1.used) in
    (record { spelled = spelled; fuel = record { most = most; some = some }; memory = m.0.memory; snapshot = m.0.snapshot; flag = m.0.flag }, record { block = m.1.block; limit = m.1.limit })

fuel_last : (known : List (List ℕ)) (flags : ℕ) (block : Block) (limit : Option ℕ) (bytes : List ℕ) (p : Parcel) → IsBytes bytes → fuel_stage known flags block limit bytes ≡ Ok p
    → HasFuel known flags p bytes × IsBegun block limit p
fuel_last known flags block limit bytes p fits e =
    let n = bind_ok (number_at w32 145 bytes) (λ n. used_stage known flags block limit n.0 n.1) p e in
    let u = bind_ok (used_at n.0.0 149 n.0.1) (λ u. memory_stage known flags block limit n.0.0 u.0 u.1) p n.2 in
    fuel_made known flags block limit bytes p n.0 u.0 fits n.1 u.1 u.2

-- ---- limit and flags

-- a limit that is there where the flags tell of one
record IsLimit (flags : ℕ) (bytes : List ℕ) (x : Option ℕ × List ℕ) : Type 0 where
  taken : Takes bytes (to_le_bytes w32 (limit_number x.0)) x.1
  short : limit_number x.0 < 2 ^ 32
  none : ltb 1 flags ≡ false → is_there x.0 ≡ 0
  some : ltb 1 flags ≡ true → is_there x.0 ≡ 1

limit_read : (flags at : ℕ) (bytes : List ℕ) (x : Option ℕ × List ℕ) (n : ℕ × List ℕ) (there : Bool) → Takes bytes (to_le_bytes w32 n.0) n.1 × (n.0 < 2 ^ 32) → ltb 1 flags ≡ there → cond there (Ok (Some n.0, n.1)) (cond (eqb n.0 0) (Ok (None, n.1)) (fault at Limit)) ≡ Ok x → IsLimit flags bytes x
limit_read flags at bytes x n true t is e =
    let made : Option ℕ × List ℕ = (Some n.0, n.1) in
    subst (λ (y : Option ℕ × List ℕ). IsLimit flags bytes y) (ok_is made x e) (record { taken = t.0; short = t.1; none = λ no. absurd cc; some = λ yes. refl })
limit_read flags at bytes x n false t is e =
    let g = passed (eqb n.0 0) (record { at = at; kind = Limit }) (Ok (None, n.1)) x e in
    let made : Option ℕ × List ℕ = (None, n.1) in
    let zeros : Takes bytes (to_le_bytes w32 0) n.1 = subst (λ (k : ℕ). Takes bytes (to_le_bytes w32 k) n.1) (eqb-true _ _ g.0) t.0 in
    subst (λ (y : Option ℕ × List ℕ). IsLimit flags bytes y) (ok_is made x g.1) (record { taken = zeros; short = omega arith; none = λ no. refl; some = λ yes. absurd cc })

limit_takes : (flags at : ℕ) (bytes : List ℕ) (x : Option ℕ × List ℕ) → IsBytes bytes → limit_at flags at bytes ≡ Ok x → IsLimit flags bytes x
limit_takes flags at bytes x fits e =
    let b = bind_ok (number_at w32 at bytes) (λ n. cond (ltb 1 flags) (Ok (Some n.0, n.1)) (cond (eqb n.0 0) (Ok (None, n.1)) (fault at Limit))) x e in
    limit_read flags at bytes x b.0 (ltb 1 flags) (number_takes at bytes b.0 fits b.1) refl b.2

-- the flags are those of what is there
flags_by : (b : Bool) (flags there second : ℕ) → flags ≤ 3 → ltb 1 flags ≡ b → (b ≡ false → there ≡ 0) → (b ≡ true → there ≡ 1) → flags % 2 ≡ second → flags ≡ second + 2 * there
flags_by true flags there second le is none some odd = let more : 1 < flags = grind (arith, nat_tests, is) in omega (arith, some refl)
flags_by false flags there second le is none some odd = let less : flags ≤ 1 = grind (arith, nat_tests, is) in omega (arith, none refl)

abbrev behind_block : Parcel → List ℕ
behind_block p = flags_of p ∷ (to_le_bytes w32 (limit_number p.limit) ++ behind_limit p)

record HasFlags (known : List (List ℕ)) (p : Parcel) (bytes : List ℕ) : Type 0 where
  spelled : bytes ≡ behind_block p
  limit : limit_number p.limit < 2 ^ 32
  fuel : IsFuel p.fuel p.used
  memory : AreEntries known 0 p.memory
  snapshot : IsSnapshot known p.snapshot

abbrev limit_stage : List (List ℕ) → Block → ℕ → List ℕ → Result Parcel ParcelError
limit_stage known block flags bytes = limit_at flags 141 bytes >>= λ l. fuel_stage known flags block l.0 l.1

abbrev flags_stage : List (List ℕ) → Block → List ℕ → Result Parcel ParcelError
flags_stage known block bytes = flags_at 140 bytes >>= λ f. limit_stage known block f.0 f.1

flags_made : (known : List (List ℕ)) (block : Block) (bytes : List ℕ) (p : Parcel) (f : ℕ × List ℕ) (l : Option ℕ × List ℕ) → IsBytes bytes → flags_at 140 bytes ≡ Ok f → limit_at f.0 141 f.1 ≡ Ok l → fuel_stage known f.0 block l.0 l.1 ≡ Ok p
    → HasFlags known p bytes × (p.block ≡ block)
flags_made known block bytes p f l fits read second e =
    let tf = flags_takes 140 bytes f fits read in
    let tl = limit_takes f.0 141 f.1 l tf.0.rest_fits second in
    let m = fuel_last known f.0 block l.0 l.1 p tl.taken.rest_fits e in
    let is : l.0 ≡ p.limit = sym m.1.limit in
    let limited : f.1 ≡ to_le_bytes w32 (limit_number p.limit) ++ behind_limit p = tl.taken.parts ∙ ap (λ (r : List ℕ). to_le_bytes w32 (limit_number l.0) ++ r) m.0.spelled ∙ ap (λ (k : Option ℕ). to_le_bytes w32 (limit_number k) ++ behind_limit p) is in
    let flags : f.0 ≡ flags_of p = flags_by (ltb 1 f.0) f.0 (is_there l.0) (is_there p.snapshot) tf.1 refl tl.none tl.some m.0.flag ∙ ap (λ (k : Option ℕ). is_there p.snapshot + 2 * is_there k) is in
    let spelled : bytes ≡ behind_block p = tf.0.parts ∙ ap (λ (r : List ℕ). f.0 ∷ r) limited ∙ ap (λ (k : ℕ). k ∷ (to_le_bytes w32 (limit_number p.limit) ++ behind_limit p)) flags in
    (record { spelled = spelled; limit = subst (λ (k : Option ℕ). limit_number k < 2 ^ 32) is tl.short; fuel = m.0.fuel; memory = m.0.memory; snapshot = m.0.snapshot }, m.1.block)

flags_last : (known : List (List ℕ)) (block : Block) (bytes : List ℕ) (p : Parcel) → IsBytes bytes → flags_stage known block bytes ≡ Ok p
    → HasFlags known p bytes × (p.block ≡ block)
flags_last known block bytes p fits e =
    let f = bind_ok (flags_at 140 bytes) (λ f. limit_stage known block f.0 f.1) p e in
    let l = bind_ok (limit_at f.0.0 141 f.0.1) (λ l. fuel_stage known f.0.0 block l.0 l.1) p f.2 in
    flags_made known block bytes p f.0 l.0 fits f.1 l.1 l.2

-- ---- mark and block

abbrev block_stage : List (List ℕ) → List ℕ → Result Parcel ParcelError
block_stage known bytes = block_at 4 bytes >>= λ b. flags_stage known b.0 b.1

whole_made : (known : List (List ℕ)) (bytes m : List ℕ) (p : Parcel) (b : Block × List ℕ) → IsBytes bytes → magic_at 0 bytes ≡ Ok m → block_at 4 m ≡ Ok b → flags_stage known b.0 b.1 ≡ Ok p → ParcelOf known bytes p
whole_made known bytes m p b fits read second e =
    let tm = magic_takes 0 bytes m fits read in
    let tb = block_takes 4 m b tm.rest_fits second in
    let f = flags_last known b.0 b.1 p tb.0.rest_fits e in
    let is : b.0 ≡ p.block = sym f.1 in
    let blocked : m ≡ block_spelling p.block ++ behind_block p = tb.0.parts ∙ ap (λ (r : List ℕ). block_spelling b.0 ++ r) f.0.spelled ∙ ap (λ (k : Block). block_spelling k ++ behind_block p) is in
    let spelled : bytes ≡ spelling p = tm.parts ∙ ap (λ (r : List ℕ). mark ++ r) blocked in
    record { sound = record { block = subst (λ (k : Block). IsBlock k) is tb.1; limit = f.0.limit; fuel = f.0.fuel.most; some = f.0.fuel.some; memory = f.0.memory; snapshot = f.0.snapshot }; spelled = spelled }

pub parcel_takes : (known : List (List ℕ)) (bytes : List ℕ) (p : Parcel) → IsBytes bytes → parcel_at known bytes ≡ Ok p → ParcelOf known bytes p
unfolding parcel_at
parcel_takes known bytes p fits e =
    let m = bind_ok (magic_at 0 bytes) (λ m. block_stage known m) p e in
    let b = bind_ok (block_at 4 m.0) (λ b. flags_stage known b.0 b.1) p m.2 in
    whole_made known bytes m.0 p b.0 fits m.1 b.1 b.2
