-- Threads that get what was prepared for them are changed as the meetings say.
use Rattle.std.specs.Prelude.{◌≡◌, ℕ, zero, suc, ◌+◌, ◌≤◌, List, [], ◌∷◌, ◌++◌, Option, Some, None, Bool, true, false, if◌then◌else◌}
use Rattle.std.proofs.Common.{refl, sym, ap, ◌∙◌, arith}
use Rattle.memory_model.specs.Memory.{Memory}
use Rattle.memory_model.specs.Ranges.{with_copies}
use Rattle.space_model.specs.Space.{Space, space, Children, Top, find, over, put_child}
use Rattle.space_model.specs.Change.{after_success, after_spending, with_count}
use Rattle.space_model.specs.Call.{change, edit, edit_all, below}
use Rattle.space_model.specs.Part.{snapshot_part}
use Rattle.space_model.specs.Runtime.{shared_pages}
use Rattle.space_model.proofs.Children.{find-over_other, over-at, over_itself, over_missing}
use Rattle.space_model.proofs.Entries.{put_there}
use Rattle.space_model.specs.Commit.{commits}
use Rattle.space_model.specs.Quanta.{after_start, count_waiting, renewal, renewals, starts, waits, writings}
use Rattle.quantum_model.specs.Rows.{threads_in, with_commit, with_start}
use Rattle.quantum_model.proofs.Rows.{row_missing, row_there}
use Rattle.quantum_sched.specs.Rows.{Ready, renewal_of, renewals_of, renewed, renewed_space, start_of, starts_of, with_each, with_ready}

-- a child that was handed out and is as it was
pub as_it_was : (n : ℕ) (c w : Space) (cs ds : Children) → Some c ≡ find n cs → ds ≡ over n (λ _. w) cs → w ≡ c → ds ≡ cs
as_it_was n c w cs ds at written is = written ∙ ap (λ s. over n (λ _. s) cs) is ∙ over_itself n c cs (sym at)

-- a child that was handed out and gets what is ready for it
pub given_to : (q : Option ℕ) (n : ℕ) (r : Ready) (c w : Space) (cs : Children) → n ≡ r.0 → Some c ≡ find n cs → w ≡ renewed_space q r.1 c → over n (λ _. w) cs ≡ with_ready q r cs
given_to q n r c w cs number at is =
    ap (λ s. over n (λ _. s) cs) is ∙ over-at n (λ _. renewed_space q r.1 c) (renewed_space q r.1) c cs (sym at) refl ∙ ap (λ k. over k (renewed_space q r.1) cs) number

-- and where it is missing
pub given_none : (q : Option ℕ) (n : ℕ) (r : Ready) (cs : Children) → n ≡ r.0 → None ≡ find n cs → cs ≡ with_ready q r cs
given_none q n r cs number at = sym (over_missing n (renewed_space q r.1) cs (sym at)) ∙ ap (λ k. over k (renewed_space q r.1) cs) number

-- one more that gets what is ready for it
pub given_more : (q : Option ℕ) (rs : List Ready) (r : Ready) (cs ds es : Children) → ds ≡ with_each q rs cs → es ≡ with_ready q r ds → es ≡ with_each q (rs ++ r ∷ []) cs
given_more q [] r cs ds es before here = here ∙ ap (with_ready q r) before
given_more q (s ∷ rs) r cs ds es before here = given_more q rs r (with_ready q s cs) ds es before here

-- what is ready for a thread that is there changes it
given : (q : Option ℕ) (n : ℕ) (m : Memory) (t : Top) (cs ds : Children) → find n ds ≡ Some (space t cs) → with_ready q (n, m) ds ≡ edit (change n (renewed q m t)) ds
given q n m t cs ds at =
    over-at n (renewed_space q m) (λ _. space (renewed q m t) cs) (space t cs) ds at refl
    ∙ sym (put_there n (space (renewed q m t) cs) (space t cs) ds at)
    ∙ ap (λ o. put_child n (space (renewed q m t) (below o)) ds) (sym at)

-- and no other
others : (q : Option ℕ) (n first : ℕ) (m : Memory) (ds cs : Children) → ((k : ℕ) → first ≤ k → find k ds ≡ find k cs) → (k : ℕ) → first + 1 ≤ k → find k (with_ready q (first, m) ds) ≡ find k cs
others q n first m ds cs same k le = find-over_other k first (renewed_space q m) ds (λ is. omega (arith, is)) ∙ same k (omega arith)

started_is : (q : ℕ) (t c : Top) → renewed (Some q) (with_copies c.memory t.memory 0 0 shared_pages) c ≡ after_start q t c
unfolding after_start
started_is q t c = refl

-- the rest of a row gets what is ready for it, whatever the threads before it are
abbrev Started : ℕ → Top → ℕ → ℕ → Children → Type 0
Started q t count first cs = (ds : Children) → ((k : ℕ) → first ≤ k → find k ds ≡ find k cs) → with_each (Some q) (starts_of t.memory (threads_in first count cs)) ds ≡ edit_all (starts q t (threads_in first count cs)) ds

start_this : (q : ℕ) (t : Top) (count first : ℕ) (c : Top) (under cs ds : Children) (b : Bool) → waits c.status ≡ b → find first cs ≡ Some (space c under) → ((k : ℕ) → first ≤ k → find k ds ≡ find k cs) → Started q t count (first + 1) cs
    → with_each (Some q) (start_of t.memory (record { number = first; top = c }) ++ starts_of t.memory (threads_in (first + 1) count cs)) ds
    ≡ edit_all ((if waits c.status then change first (after_start q t c) ∷ [] else []) ++ starts q t (threads_in (first + 1) count cs)) ds
start_this q t count first c under cs ds true is at same rest =
    let m = with_copies c.memory t.memory 0 0 shared_pages in
    let es = with_ready (Some q) (first, m) ds in
    let here : es ≡ edit (change first (after_start q t c)) ds = given (Some q) first m c under ds (same first (omega arith) ∙ at) ∙ ap (λ u. edit (change first u) ds) (started_is q t c) in
    rw is (rest es (others (Some q) first first m ds cs same) ∙ ap (edit_all (starts q t (threads_in (first + 1) count cs))) here)
start_this q t count first c under cs ds false is at same rest = rw is (rest ds (λ k le. same k (omega arith)))

start_here : (q : ℕ) (t : Top) (count first : ℕ) (cs : Children) (o : Option Space) → find first cs ≡ o → Started q t count (first + 1) cs → Started q t (suc count) first cs
start_here q t count first cs None at rest ds same = rw (row_missing first count cs at) (rest ds (λ k le. same k (omega arith)))
start_here q t count first cs (Some (space c under)) at rest ds same = rw (row_there first count (space c under) cs at) (start_this q t count first c under cs ds (waits c.status) refl at same rest)

each_start : (q : ℕ) (t : Top) (count first : ℕ) (cs : Children) → Started q t count first cs
each_start q t zero first cs ds same = refl
each_start q t (suc count) first cs ds same = start_here q t count first cs (find first cs) refl (each_start q t count (first + 1) cs) ds same

abbrev Renewed : ℕ → ℕ → Children → Type 0
Renewed count first cs = (ds : Children) → ((k : ℕ) → first ≤ k → find k ds ≡ find k cs) → with_each None (renewals_of (threads_in first count cs)) ds ≡ edit_all (renewals (threads_in first count cs)) ds

renewal_this : (count first : ℕ) (c : Top) (under cs ds : Children) (o : Option Memory) → c.snapshot ≡ o → find first cs ≡ Some (space c under) → ((k : ℕ) → first ≤ k → find k ds ≡ find k cs) → Renewed count (first + 1) cs
    → with_each None (renewal_of first c.memory c.snapshot ++ renewals_of (threads_in (first + 1) count cs)) ds ≡ edit_all (renewal (record { number = first; top = c }) c.snapshot ++ renewals (threads_in (first + 1) count cs)) ds
renewal_this count first c under cs ds None is at same rest = rw is (rest ds (λ k le. same k (omega arith)))
renewal_this count first c under cs ds (Some snapshot) is at same rest =
    let es = with_ready None (first, c.memory) ds in
    let here : es ≡ edit (change first (snapshot_part c)) ds = given None first c.memory c under ds (same first (omega arith) ∙ at) in
    rw is (rest es (others None first first c.memory ds cs same) ∙ ap (edit_all (renewals (threads_in (first + 1) count cs))) here)

renewal_here : (count first : ℕ) (cs : Children) (o : Option Space) → find first cs ≡ o → Renewed count (first + 1) cs → Renewed (suc count) first cs
renewal_here count first cs None at rest ds same = rw (row_missing first count cs at) (rest ds (λ k le. same k (omega arith)))
renewal_here count first cs (Some (space c under)) at rest ds same = rw (row_there first count (space c under) cs at) (renewal_this count first c under cs ds c.snapshot refl at same rest)

each_renewal : (count first : ℕ) (cs : Children) → Renewed count first cs
each_renewal zero first cs ds same = refl
each_renewal (suc count) first cs ds same = renewal_here count first cs (find first cs) refl (each_renewal count (first + 1) cs) ds same

-- ---- the whole calls

pub start_met : (first count q : ℕ) (s : Space) (t u : Top) (cs ds : Children) → s ≡ space t cs → ds ≡ with_each (Some q) (starts_of t.memory (threads_in first count cs)) cs
    → u ≡ after_success (with_count (count_waiting (threads_in first count cs)) (after_spending 1 t t)) → space u ds ≡ with_start first count q s
unfolding with_start after_start
start_met first count q s t u cs ds is done paid =
    rw (is, paid) (ap (space (after_success (with_count (count_waiting (threads_in first count cs)) (after_spending 1 t t)))) (done ∙ each_start q t count first cs cs (λ k le. refl)))

pub commit_met : (first count : ℕ) (s : Space) (t v u : Top) (cs ds : Children) → s ≡ space t cs → v ≡ record t { memory = commits t.memory (writings (threads_in first count cs)) } → ds ≡ with_each None (renewals_of (threads_in first count cs)) cs
    → u ≡ after_success (with_count (count_waiting (threads_in first count cs)) (after_spending 1 v v)) → space u ds ≡ with_commit first count s
unfolding with_commit
commit_met first count s t v u cs ds is written done paid =
    let w : Top = record t { memory = commits t.memory (writings (threads_in first count cs)) } in
    rw (is, paid, written) (ap (space (after_success (with_count (count_waiting (threads_in first count cs)) (after_spending 1 w w)))) (done ∙ each_renewal count first cs cs (λ k le. refl)))
