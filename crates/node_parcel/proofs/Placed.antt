-- Putting pages one after the other, as a loop does.
use Rattle.std.proofs.Common.{◌≡◌, ℕ, suc, ◌+◌, ◌-◌, ◌<◌, ◌≤◌, List, ◌∷◌, Result, Ok, Err, refl, sym, ap, ◌∙◌, arith}
use Rattle.memory_model.specs.Memory.{Memory, no_memory}
use Rattle.parcel_model.specs.declared.error.ParcelError.{ParcelError}
use Rattle.parcel_model.specs.Parcel.{Content, Entry, with_entry, with_entries}
use Rattle.parcel_model.specs.Reading.{◌>>=◌, page_at, permission_at, content_at, content_size, entry_at, entry_size, entries_at}
use Rattle.fault_model.specs.declared.fault.Fault.{Fault}
use Rattle.fault_model.specs.declared.fault.Fault.TheVariants as faults
use Rattle.fault_model.specs.Gives.{Fails}
use Rattle.node_parcel.specs.Meant.{put_content, content_in, entry_in, pages_in}

-- ---- one page

abbrev pub Placed : Type 0
Placed = Memory × ℕ × ℕ × List ℕ

abbrev made : List (List ℕ) → Memory → ℕ → Result (Entry × List ℕ) ParcelError → Result Placed ParcelError
made known m at r = r >>= λ e. Ok (with_entry known m e.0, e.0.page + 1, at + entry_size e.0, e.1)

abbrev entry_from : ℕ → ℕ → Result (Content × List ℕ) ParcelError → Result (Entry × List ℕ) ParcelError
entry_from page permission r = r >>= λ c. Ok (record { page = page; permission = permission; content = c.0 }, c.1)

abbrev three_ok : Memory × ℕ × List ℕ → Result (Memory × ℕ × List ℕ) ParcelError
three_ok x = Ok x

abbrev four_ok : Placed → Result Placed ParcelError
four_ok x = Ok x

triple_is : (x y : Memory × ℕ × List ℕ) → three_ok x ≡ three_ok y → x ≡ y
triple_is x y e = cc

four_is : (x y : Placed) → four_ok x ≡ four_ok y → x ≡ y
four_is x y e = cc

entry_ok : (known : List (List ℕ)) (m after : Memory) (page permission at end : ℕ) (rest : List ℕ) (r : Result (Content × List ℕ) ParcelError) → put_content known m page permission (at + 5 + 1) r ≡ Ok (after, end, rest)
    → made known m at (entry_from page permission r) ≡ Ok (after, page + 1, end, rest)
entry_ok known m after page permission at end rest (Err d) e = absurd cc
entry_ok known m after page permission at end rest (Ok c) e =
    let size : at + 5 + 1 + content_size c.0 ≡ at + (6 + content_size c.0) = omega arith in
    let t = triple_is _ _ e in
    let at_end : at + (6 + content_size c.0) ≡ end = sym size ∙ ap (λ (x : Memory × ℕ × List ℕ). x.1) t in
    λ i. Ok ((t i).0, page + 1, at_end i, (t i).2)

entry_fails : (known : List (List ℕ)) (m : Memory) (page permission at : ℕ) (d : ParcelError) (r : Result (Content × List ℕ) ParcelError) → put_content known m page permission (at + 5 + 1) r ≡ Err d
    → made known m at (entry_from page permission r) ≡ Err d
entry_fails known m page permission at d (Ok c) e = absurd cc
entry_fails known m page permission at d (Err f) e = cc

pub entry_placed : (known : List (List ℕ)) (m after : Memory) (least page permission at end : ℕ) (bytes numbered permitted rest : List ℕ) → page_at least at bytes ≡ Ok (page, numbered) → permission_at (at + 4) numbered ≡ Ok (permission, permitted)
    → content_in known m page permission (at + 5) permitted ≡ Ok (after, end, rest) → entry_in known m least at bytes ≡ Ok (after, page + 1, end, rest)
unfolding entry_in entry_at content_in
entry_placed known m after least page permission at end bytes numbered permitted rest p q e = rw (p, q) (entry_ok known m after page permission at end rest (content_at known permission (at + 5) permitted) e)

pub entry_cut : (known : List (List ℕ)) (m : Memory) (least page permission at : ℕ) (bytes numbered permitted : List ℕ) (e : Fault ParcelError) → page_at least at bytes ≡ Ok (page, numbered) → permission_at (at + 4) numbered ≡ Ok (permission, permitted)
    → Fails e (content_in known m page permission (at + 5) permitted) → Fails e (entry_in known m least at bytes)
unfolding entry_in entry_at content_in
entry_cut known m least page permission at bytes numbered permitted faults.Memory p q e = tt
entry_cut known m least page permission at bytes numbered permitted (faults.Bad d) p q e = rw (p, q) (entry_fails known m page permission at d (content_at known permission (at + 5) permitted) e)

-- ---- several

abbrev pub pages_after : List (List ℕ) → Memory → Result (List Entry × ℕ × List ℕ) ParcelError → Result (Memory × ℕ × List ℕ) ParcelError
pages_after known m read = read >>= λ o. Ok (with_entries known m o.0, o.1, o.2)

regroup : (known : List (List ℕ)) (m : Memory) (e : Entry) (read : Result (List Entry × ℕ × List ℕ) ParcelError) → pages_after known m (read >>= λ o. Ok (e ∷ o.0, o.1, o.2)) ≡ pages_after known (with_entry known m e) read
regroup known m e (Ok o) = refl
regroup known m e (Err d) = refl

step : (known : List (List ℕ)) (m after : Memory) (n at least place : ℕ) (rest : List ℕ) (r : Result (Entry × List ℕ) ParcelError) → made known m at r ≡ Ok (after, least, place, rest)
    → pages_after known m (r >>= λ e. entries_at known n (e.0.page + 1) (at + entry_size e.0) e.1 >>= λ others. Ok (e.0 ∷ others.0, others.1, others.2)) ≡ pages_after known after (entries_at known n least place rest)
step known m after n at least place rest (Err d) e = absurd cc
step known m after n at least place rest (Ok x) e =
    let t = four_is _ _ e in
    regroup known m x.0 (entries_at known n (x.0.page + 1) (at + entry_size x.0) x.1) ∙ ap (λ (y : Placed). pages_after known y.0 (entries_at known n y.1 y.2 y.3)) t

step_fails : (known : List (List ℕ)) (m : Memory) (n at : ℕ) (d : ParcelError) (r : Result (Entry × List ℕ) ParcelError) → made known m at r ≡ Err d
    → pages_after known m (r >>= λ e. entries_at known n (e.0.page + 1) (at + entry_size e.0) e.1 >>= λ others. Ok (e.0 ∷ others.0, others.1, others.2)) ≡ Err d
step_fails known m n at d (Ok x) e = absurd cc
step_fails known m n at d (Err f) e = cc

pub goes_on : (known : List (List ℕ)) (count i least at next place : ℕ) (m after : Memory) (bytes rest : List ℕ) (total : Result (Memory × ℕ × List ℕ) ParcelError) → i < count → entry_in known m least at bytes ≡ Ok (after, next, place, rest)
    → pages_after known m (entries_at known (count - i) least at bytes) ≡ total → pages_after known after (entries_at known (count - (i + 1)) next place rest) ≡ total
unfolding entries_at entry_in
goes_on known count i least at next place m after bytes rest total lt h so_far =
    let left : count - i ≡ suc (count - (i + 1)) = omega arith in
    let one : pages_after known m (entries_at known (count - i) least at bytes) ≡ pages_after known after (entries_at known (count - (i + 1)) next place rest) = rw left (step known m after (count - (i + 1)) at next place rest (entry_at known least at bytes) h) in
    sym one ∙ so_far

pub ends : (known : List (List ℕ)) (count i least at : ℕ) (m : Memory) (bytes : List ℕ) (e : Fault ParcelError) (total : Result (Memory × ℕ × List ℕ) ParcelError) → i < count → Fails e (entry_in known m least at bytes)
    → pages_after known m (entries_at known (count - i) least at bytes) ≡ total → Fails e total
unfolding entries_at entry_in
ends known count i least at m bytes faults.Memory total lt h so_far = tt
ends known count i least at m bytes (faults.Bad d) total lt h so_far =
    let left : count - i ≡ suc (count - (i + 1)) = omega arith in
    let one : pages_after known m (entries_at known (count - i) least at bytes) ≡ Err d = rw left (step_fails known m (count - (i + 1)) at d (entry_at known least at bytes) h) in
    sym so_far ∙ one

pub is_done : (known : List (List ℕ)) (count i least at : ℕ) (m : Memory) (bytes : List ℕ) (total : Result (Memory × ℕ × List ℕ) ParcelError) → count ≤ i → pages_after known m (entries_at known (count - i) least at bytes) ≡ total → total ≡ Ok (m, at, bytes)
unfolding entries_at
is_done known count i least at m bytes total le so_far =
    let left : count - i ≡ 0 = omega arith in
    let one : pages_after known m (entries_at known (count - i) least at bytes) ≡ Ok (m, at, bytes) = rw left refl in
    sym so_far ∙ one

-- at first
pub begins : (known : List (List ℕ)) (count start : ℕ) (bytes : List ℕ) → pages_after known no_memory (entries_at known (count - 0) 0 start bytes) ≡ pages_in known count start bytes
unfolding pages_in
begins known count start bytes = let e : count - 0 ≡ count = omega arith in ap (λ (n : ℕ). pages_after known no_memory (entries_at known n 0 start bytes)) e
