-- What a start of quanta gives to each thread that waits.
use Rattle.std.proofs.Common.{◌≡◌, ◌≢◌, ℕ, zero, suc, ◌+◌, ◌*◌, ◌-◌, ◌≤◌, ◌<◌, Bool, true, false, [], ◌∷◌, ◌++◌, Option, Some, None, refl, sym, ap, ◌∙◌, arith, inl, inr, ◌⊎◌}
use Rattle.std.proofs.lemmas.Bool.{cases_eq}
use Rattle.std.specs.Prelude.{if◌then◌else◌}
use Rattle.memory_model.specs.Memory.{Memory, byte_at, permission_at}
use Rattle.memory_model.specs.Sizes.{page_size}
use Rattle.memory_model.specs.Ranges.{with_copies}
use Rattle.memory_model.proofs.Rows.{value_at-row_key}
use Rattle.space_model.specs.Space.{Space, space, Children, Top, find}
use Rattle.space_model.specs.Call.{change, edit, edit_all, below}
use Rattle.space_model.specs.Quanta.{waits, after_start, starts}
use Rattle.space_model.specs.Runtime.{shared_pages}
use Rattle.space_model.proofs.Children.{find-put_same, find-put_other}
use Rattle.quantum_model.specs.Rows.{threads_in}
use Rattle.quantum_model.proofs.Rows.{row_missing, row_there}
use Rattle.quantum_laws.specs.Between.{IsSharedCopy}

change_other : (n first : ℕ) (t : Top) (cs : Children) → n ≢ first → find n (edit (change first t) cs) ≡ find n cs
change_other n first t cs ne = find-put_other n first (space t (below (find first cs))) cs ne

-- the threads of a row from a number on leave those before it
abbrev Leaves : ℕ → Top → ℕ → ℕ → Children → Type 0
Leaves q t first count cs = (n : ℕ) (ds : Children) → n < first → find n (edit_all (starts q t (threads_in first count cs)) ds) ≡ find n ds

leaves_this : (q : ℕ) (t : Top) (first count n : ℕ) (c : Top) (b : Bool) (cs ds : Children) → n < first → Leaves q t (first + 1) count cs
    → find n (edit_all ((if b then change first (after_start q t c) ∷ [] else []) ++ starts q t (threads_in (first + 1) count cs)) ds) ≡ find n ds
leaves_this q t first count n c true cs ds before rest =
    rest n (edit (change first (after_start q t c)) ds) (omega (arith, before)) ∙ change_other n first (after_start q t c) ds (λ e. omega (arith, e, before))
leaves_this q t first count n c false cs ds before rest = rest n ds (omega (arith, before))

leaves_here : (q : ℕ) (t : Top) (first count : ℕ) (cs : Children) (o : Option Space) → find first cs ≡ o → Leaves q t (first + 1) count cs → Leaves q t first (suc count) cs
leaves_here q t first count cs None is rest n ds before = rw (row_missing first count cs is) (rest n ds (omega (arith, before)))
leaves_here q t first count cs (Some (space c under)) is rest n ds before =
    rw (row_there first count (space c under) cs is) (leaves_this q t first count n c (waits c.status) cs ds before rest)

leaves_before : (q : ℕ) (t : Top) (first count : ℕ) (cs : Children) → Leaves q t first count cs
leaves_before q t first zero cs n ds before = refl
leaves_before q t first (suc count) cs n ds before = leaves_here q t first count cs (find first cs) refl (leaves_before q t (first + 1) count cs) n ds before

-- a thread of the row that waits gets its start, whatever became of the threads before the row
abbrev Gives : ℕ → Top → ℕ → ℕ → Children → Type 0
Gives q t first count cs = (n : ℕ) (c : Top) (under ds : Children) → ((k : ℕ) → first ≤ k → find k ds ≡ find k cs) → find n cs ≡ Some (space c under) → waits c.status ≡ true
    → first ≤ n → n < first + count → find n (edit_all (starts q t (threads_in first count cs)) ds) ≡ Some (space (after_start q t c) under)

gives_first : (q : ℕ) (t : Top) (first count : ℕ) (c : Top) (under cs ds : Children) → find first ds ≡ Some (space c under) → waits c.status ≡ true
    → find first (edit_all ((if waits c.status then change first (after_start q t c) ∷ [] else []) ++ starts q t (threads_in (first + 1) count cs)) ds) ≡ Some (space (after_start q t c) under)
gives_first q t first count c under cs ds is waiting =
    let u = after_start q t c in
    let next : first < first + 1 = omega arith in
    rw waiting (
    leaves_before q t (first + 1) count cs first (edit (change first u) ds) next
    ∙ find-put_same first (space u (below (find first ds))) ds
    ∙ ap (λ o. Some (space u (below o))) is
    )

gives_later : (q : ℕ) (t : Top) (first count n : ℕ) (b : Bool) (d c : Top) (under cs ds : Children) → ((k : ℕ) → first ≤ k → find k ds ≡ find k cs) → find n cs ≡ Some (space c under) → waits c.status ≡ true
    → first + 1 ≤ n → n < first + 1 + count → Gives q t (first + 1) count cs
    → find n (edit_all ((if b then change first (after_start q t d) ∷ [] else []) ++ starts q t (threads_in (first + 1) count cs)) ds) ≡ Some (space (after_start q t c) under)
gives_later q t first count n true d c under cs ds same is waiting low high rest =
    rest n c under (edit (change first (after_start q t d)) ds) (λ k le. change_other k first (after_start q t d) ds (λ e. omega (arith, e, le)) ∙ same k (omega (arith, le))) is waiting low high
gives_later q t first count n false d c under cs ds same is waiting low high rest = rest n c under ds (λ k le. same k (omega (arith, le))) is waiting low high

gives_here : (q : ℕ) (t : Top) (first count : ℕ) (cs : Children) (o : Option Space) → find first cs ≡ o → Gives q t (first + 1) count cs → Gives q t first (suc count) cs
gives_here q t first count cs None at rest n c under ds same is waiting low high = go (cases_eq n first)
  where
    go : (n ≡ first) ⊎ (n ≡ first → ⊥) → find n (edit_all (starts q t (threads_in first (suc count) cs)) ds) ≡ Some (space (after_start q t c) under)
    go (inl e) = let missing : find n cs ≡ None = ap (λ i. find i cs) e ∙ at in cc
    go (inr ne) = rw (row_missing first count cs at) (rest n c under ds (λ k le. same k (omega (arith, le))) is waiting (omega (arith, ne, low)) (omega (arith, high)))
gives_here q t first count cs (Some (space d over)) at rest n c under ds same is waiting low high = go (cases_eq n first)
  where
    go : (n ≡ first) ⊎ (n ≡ first → ⊥) → find n (edit_all (starts q t (threads_in first (suc count) cs)) ds) ≡ Some (space (after_start q t c) under)
    go (inl e) =
        let this : Some (space d over) ≡ Some (space c under) = sym at ∙ ap (λ i. find i cs) (sym e) ∙ is in
        let top : d ≡ c = cc in
        let first_there : find first ds ≡ Some (space c under) = same first (omega arith) ∙ at ∙ this in
        ap (λ i. find i (edit_all (starts q t (threads_in first (suc count) cs)) ds)) e
        ∙ rw (row_there first count (space c under) cs (at ∙ this)) (gives_first q t first count c under cs ds first_there waiting)
    go (inr ne) =
        rw (row_there first count (space d over) cs at) (
        gives_later q t first count n (waits d.status) d c under cs ds same is waiting (omega (arith, ne, low)) (omega (arith, high)) rest
        )

pub gives : (q : ℕ) (t : Top) (first count : ℕ) (cs : Children) → Gives q t first count cs
gives q t first zero cs n c under ds same is waiting low high = absurd (omega (arith, low, high))
gives q t first (suc count) cs n c under ds same is waiting low high =
    gives_here q t first count cs (find first cs) refl (gives q t (first + 1) count cs) n c under ds same is waiting low high

-- what it gets has the caller's shared bytes and permissions
pub shared_copy : (m source : Memory) → IsSharedCopy source (with_copies m source 0 0 shared_pages)
shared_copy m source = record {
  bytes = λ a below.
      let here : page_size * 0 ≤ a = omega arith in
      let within : a < page_size * 0 + page_size * shared_pages = omega (arith, below) in
      value_at-row_key m.bytes (page_size * 0) (λ k. byte_at source (page_size * 0 + k)) (page_size * shared_pages) a here within
      ∙ ap (byte_at source) (same_place a);
  permissions = λ page below.
      value_at-row_key m.permissions 0 (λ k. permission_at source (0 + k)) shared_pages page (omega arith) (omega (arith, below))
      ∙ ap (permission_at source) (same_page page);
}
  where
    same_place : (a : ℕ) → page_size * 0 + (a - page_size * 0) ≡ a
    same_place a = omega arith

    same_page : (page : ℕ) → 0 + (page - 0) ≡ page
    same_page page = omega arith
