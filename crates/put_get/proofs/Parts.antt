-- The parts of Put and Get in the order in which the code does them.
use Rattle.std.proofs.Common.{◌≡◌, ℕ, Bool, true, false, ◌&&◌, ◌||◌, List, [], ◌∷◌, Option, Some, None, refl, sym, ◌∙◌, ap}
use Rattle.std.specs.Prelude.{if◌then◌else◌}
use Rattle.memory_model.specs.Memory.{Memory, with_bytes, with_permissions}
use Rattle.memory_model.specs.Ranges.{with_copies, with_zeros}
use Rattle.merge_model.specs.Merge.{with_merge}
use Rattle.instruction_model.specs.Outcome.{Registers}
use Rattle.call_model.specs.declared.Transfer.{Transfer}
use Rattle.call_model.specs.Block.{block_bytes}
use Rattle.call_model.specs.Options.{has, regs, copy, zeroing, merging, perm, snap, start, permission, has_two_changes}
use Rattle.space_model.specs.Space.{Top}
use Rattle.space_model.specs.Block.{registers_at, block_of}
use Rattle.space_model.specs.Part.{Part, part_if, with_parts, registers_part, permission_part, block_part, snapshot_part, start_part, start_limit, with_changes, source_page, destination_page, page_count, child_after, caller_after}
use Rattle.put_get.specs.Ranges.{copied, memory_parts, merged, permitted, range_parts, ranged, told, zeroed}

-- registers pass what changes memory and snapshot alone
abbrev Passes : Part → Type 0
Passes p = (r : Registers) (t : Top) → registers_part r (p t) ≡ p (registers_part r t)

abbrev AllPass : List (ℕ × Part) → Type 0
AllPass [] = Unit {0}
AllPass (p ∷ ps) = Passes p.1 × AllPass ps

passes : (a b : Bool) (p : Part) (r : Registers) (t : Top) → Passes p → part_if a (registers_part r) (part_if b p t) ≡ part_if b p (part_if a (registers_part r) t)
passes true true p r t h = h r t
passes true false p r t h = refl
passes false b p r t h = refl

all_pass : (options : ℕ) (ps : List (ℕ × Part)) (a : Bool) (r : Registers) (t : Top) → AllPass ps → part_if a (registers_part r) (with_parts options ps t) ≡ with_parts options ps (part_if a (registers_part r) t)
all_pass options [] a r t h = refl
all_pass options (p ∷ ps) a r t h =
    all_pass options ps a r (part_if (has p.0 options) p.1 t) h.1 ∙ ap (with_parts options ps) (passes a (has p.0 options) p.1 r t h.0)

-- the parts of a Put, with the registers after the memory
pub put_in_order : (x : Transfer) (t c d e f : Top) → d ≡ with_parts x.options (memory_parts x t.memory) c → e ≡ part_if (has regs x.options) (registers_part (registers_at t.memory x.block)) d
    → f ≡ part_if (has start x.options) (start_part (start_limit x)) e → f ≡ child_after x t c
unfolding child_after
put_in_order x t c d e f filled given started =
    let finish = part_if (has start x.options) (start_part (start_limit x)) in
    let registers = part_if (has regs x.options) (registers_part (registers_at t.memory x.block)) in
    let order = all_pass x.options (memory_parts x t.memory) (has regs x.options) (registers_at t.memory x.block) c ((λ r u. refl), ((λ r u. refl), ((λ r u. refl), ((λ r u. refl), tt)))) in
    started ∙ ap finish (given ∙ ap registers filled ∙ order)

-- a part that changes the memory alone, where it is asked for
part_is : (b : Bool) (F : Memory → Memory) (t : Top) → part_if b (λ u. record u { memory = F u.memory }) t ≡ record t { memory = if b then F t.memory else t.memory }
part_is true F t = refl
part_is false F t = refl

-- three of them
parts_are : (a b c : Bool) (F G H : Memory → Memory) (t : Top) → part_if c (λ u. record u { memory = H u.memory }) (part_if b (λ u. record u { memory = G u.memory }) (part_if a (λ u. record u { memory = F u.memory }) t))
    ≡ record t { memory = let m : Memory = if a then F t.memory else t.memory in let n : Memory = if b then G m else m in if c then H n else n }
parts_are a b c F G H t =
    let f : Part = part_if a (λ u. record u { memory = F u.memory }) in
    let g : Part = part_if b (λ u. record u { memory = G u.memory }) in
    let h : Part = part_if c (λ u. record u { memory = H u.memory }) in
    let m : Memory = if a then F t.memory else t.memory in
    let n : Memory = if b then G m else m in
    ap (λ u. h (g u)) (part_is a F t) ∙ ap h (part_is b G (record t { memory = m })) ∙ part_is c H (record t { memory = n })

-- Zero, Copy and Perm of a memory, as parts
pub range_changed : (x : Transfer) (s : Memory) (t u : Top) → u ≡ record t { memory = ranged x s t.memory } → u ≡ with_parts x.options (range_parts x s) t
range_changed x s t u is =
    is
    ∙ sym (parts_are (has zeroing x.options) (has copy x.options) (has perm x.options) (λ m. with_zeros m (destination_page x) (page_count x)) (λ m. with_copies m s (source_page x) (destination_page x) (page_count x))
    (λ m. with_permissions m (destination_page x) (page_count x) (permission x.options)) t)

-- the parts of a Get, as changes of the caller's memory
pub got : (x : Transfer) (c t y : Top) → y ≡ record t { memory = told x (block_bytes (block_of c)) (permitted x (merged x c.snapshot c.memory (copied x c.memory (zeroed x t.memory)))) } → y ≡ caller_after x c t
unfolding caller_after
got x c t y is =
    let d = destination_page x in
    let n = page_count x in
    let permit = part_if (has perm x.options) (permission_part d n (permission x.options)) in
    let write = part_if (has regs x.options) (block_part x.block c) in
    let m : Memory = merged x c.snapshot c.memory (copied x c.memory (zeroed x t.memory)) in
    let p : Memory = permitted x m in
    is
    ∙ sym (ap (λ u. write (permit u)) (parts_are (has zeroing x.options) (has copy x.options) (has merging x.options) (λ k. with_zeros k d n) (λ k. with_copies k c.memory (source_page x) d n) (λ k. with_changes c.snapshot c.memory k d n) t)
    ∙ ap write (part_is (has perm x.options) (λ k. with_permissions k d n (permission x.options)) (record t { memory = m }))
    ∙ part_is (has regs x.options) (λ k. with_bytes k x.block (block_bytes (block_of c))) (record t { memory = p }))

-- without a merge
pub received : (x : Transfer) (c t y : Top) (block : List ℕ) → ((m : Memory) → merged x c.snapshot c.memory m ≡ m) → block ≡ block_bytes (block_of c) → y ≡ record t { memory = told x block (ranged x c.memory t.memory) } → y ≡ caller_after x c t
received x c t y block none bytes is =
    got x c t y (is ∙ ap (λ b. record t { memory = told x b (ranged x c.memory t.memory) }) bytes ∙ ap (λ m. record t { memory = told x (block_bytes (block_of c)) (permitted x m) }) (sym (none (copied x c.memory (zeroed x t.memory)))))

unfilled : (zero copies merges : Bool) (F G : Memory → Memory) (m : Memory) → ((copies && zero) || ((copies || zero) && merges)) ≡ false → merges ≡ true → (let k : Memory = if zero then F m else m in if copies then G k else k) ≡ m
unfilled true true b F G m h e = cc
unfilled true false b F G m h e = cc
unfilled false true b F G m h e = cc
unfilled false false b F G m h e = refl

-- where Merge is asked for, neither Zero nor Copy is
pub joined : (x : Transfer) (c t y : Top) (snapshot : Memory) (block : List ℕ) → has_two_changes x.options ≡ false → has merging x.options ≡ true → c.snapshot ≡ Some snapshot → block ≡ block_bytes (block_of c)
    → y ≡ record t { memory = told x block (permitted x (with_merge snapshot c.memory t.memory (destination_page x) (page_count x))) } → y ≡ caller_after x c t
joined x c t y snapshot block changes merges some bytes is =
    let d = destination_page x in
    let n = page_count x in
    let same : copied x c.memory (zeroed x t.memory) ≡ t.memory =
    unfilled (has zeroing x.options) (has copy x.options) (has merging x.options) (λ k. with_zeros k d n) (λ k. with_copies k c.memory (source_page x) d n) t.memory changes merges in
    let merge : with_merge snapshot c.memory t.memory d n ≡ merged x c.snapshot c.memory t.memory =
    sym (ap (λ b. if b then with_changes c.snapshot c.memory t.memory d n else t.memory) merges ∙ ap (λ o. with_changes o c.memory t.memory d n) some) in
    got x c t y
    (is ∙ ap (λ b. record t { memory = told x b (permitted x (with_merge snapshot c.memory t.memory d n)) }) bytes
    ∙ ap (λ m. record t { memory = told x (block_bytes (block_of c)) (permitted x m) }) (merge ∙ ap (merged x c.snapshot c.memory) (sym same)))

if_same : (b : Bool) (m n : Memory) → n ≡ m → (if b then n else m) ≡ m
if_same true m n same = same
if_same false m n same = refl

-- a child that has no snapshot
pub none_merged : (x : Transfer) (c : Memory) (o : Option Memory) (m : Memory) → o ≡ None → merged x o c m ≡ m
none_merged x c o m none = if_same (has merging x.options) m (with_changes o c m (destination_page x) (page_count x)) (ap (λ q. with_changes q c m (destination_page x) (page_count x)) none)

-- and a Get without Merge
pub unmerged : (x : Transfer) (c : Memory) (o : Option Memory) (m : Memory) → has merging x.options ≡ false → merged x o c m ≡ m
unmerged x c o m merges = ap (λ b. if b then with_changes o c m (destination_page x) (page_count x) else m) merges

no_copy : (zero copies merges : Bool) → ((copies && zero) || ((copies || zero) && merges)) ≡ false → zero ≡ true → copies ≡ false
no_copy true true m h e = cc
no_copy true false m h e = refl
no_copy false c m h e = cc

-- Zero, which is asked for: Copy is not then
pub zero_ranged : (x : Transfer) (s m r : Memory) → has_two_changes x.options ≡ false → has zeroing x.options ≡ true → r ≡ permitted x (with_zeros m (destination_page x) (page_count x)) → r ≡ ranged x s m
zero_ranged x s m r changes zeroes is =
    let d = destination_page x in
    let n = page_count x in
    let none = no_copy (has zeroing x.options) (has copy x.options) (has merging x.options) changes zeroes in
    is
    ∙ ap (permitted x)
    (sym (ap (λ b. if b then with_copies (zeroed x m) s (source_page x) d n else zeroed x m) none ∙ ap (λ b. if b then with_zeros m d n else m) zeroes))

-- Copy, and not Zero
pub copy_ranged : (x : Transfer) (s m r : Memory) → has zeroing x.options ≡ false → has copy x.options ≡ true → r ≡ permitted x (with_copies m s (source_page x) (destination_page x) (page_count x)) → r ≡ ranged x s m
copy_ranged x s m r zeroes copies is =
    let d = destination_page x in
    let n = page_count x in
    is
    ∙ ap (permitted x)
    (sym (ap (λ b. if b then with_copies (zeroed x m) s (source_page x) d n else zeroed x m) copies ∙ ap (λ b. with_copies (if b then with_zeros m d n else m) s (source_page x) d n) zeroes))

-- neither of them
pub permit_ranged : (x : Transfer) (s m r : Memory) → has zeroing x.options ≡ false → has copy x.options ≡ false → r ≡ permitted x m → r ≡ ranged x s m
permit_ranged x s m r zeroes copies is =
    let d = destination_page x in
    let n = page_count x in
    is
    ∙ ap (permitted x)
    (sym (ap (λ b. if b then with_copies (zeroed x m) s (source_page x) d n else zeroed x m) copies ∙ ap (λ b. if b then with_zeros m d n else m) zeroes))

-- without Perm
pub unpermitted : (x : Transfer) (m r : Memory) → has perm x.options ≡ false → r ≡ m → r ≡ permitted x m
unpermitted x m r permits is = is ∙ sym (ap (λ b. if b then with_permissions m (destination_page x) (page_count x) (permission x.options) else m) permits)

-- Zero, Copy and Perm of a memory, and then Snap, which is asked for
pub memory_snapped : (x : Transfer) (s : Memory) (t u : Top) → has snap x.options ≡ true → u ≡ (let m : Memory = ranged x s t.memory in record t { memory = m; snapshot = Some m }) → u ≡ with_parts x.options (memory_parts x s) t
memory_snapped x s t u snaps is =
    let m : Memory = ranged x s t.memory in
    is ∙ ap snapshot_part (range_changed x s t (record t { memory = m }) refl) ∙ sym (ap (λ b. part_if b snapshot_part (with_parts x.options (range_parts x s) t)) snaps)
