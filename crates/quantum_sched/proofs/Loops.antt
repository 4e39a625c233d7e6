-- Going over the threads of a row, one number after the other.
use Rattle.std.specs.Prelude.{◌≡◌, ℕ, suc, ◌+◌, ◌-◌, ◌<◌, ◌≤◌, List, [], ◌∷◌, ◌++◌, Option, Some, None}
use Rattle.std.specs.List.{flat_map}
use Rattle.std.proofs.Common.{refl, sym, ap, ◌∙◌, arith, append_assoc}
use Rattle.std.proofs.lemmas.List.{append-nil}
use Rattle.memory_model.specs.Memory.{Memory}
use Rattle.space_model.specs.Space.{Space, Children, find}
use Rattle.space_model.specs.Commit.{commits}
use Rattle.space_model.specs.Quanta.{Thread, count_waiting, writings}
use Rattle.quantum_model.specs.Rows.{threads_in}
use Rattle.quantum_model.proofs.Commits.{in_parts}
use Rattle.quantum_model.proofs.Rows.{row_missing, row_there}
use Rattle.quantum_sched.specs.Rows.{thread_at}

row_from : (n k : ℕ) (cs : Children) (o : Option Space) → find n cs ≡ o → threads_in n (suc k) cs ≡ thread_at n o ++ threads_in (n + 1) k cs
row_from n k cs None e = row_missing n k cs e
row_from n k cs (Some s) e = row_there n k s cs e

-- the next of a row
row_step : (first count i : ℕ) (cs : Children) → i < count → threads_in (first + i) (count - i) cs ≡ thread_at (first + i) (find (first + i) cs) ++ threads_in (first + (i + 1)) (count - (i + 1)) cs
row_step first count i cs lt =
    let e : count - i ≡ suc (count - (i + 1)) = omega arith in
    let f : first + i + 1 ≡ first + (i + 1) = omega arith in
    ap (λ k. threads_in (first + i) k cs) e ∙ row_from (first + i) (count - (i + 1)) cs (find (first + i) cs) refl
    ∙ ap (λ n. thread_at (first + i) (find (first + i) cs) ++ threads_in n (count - (i + 1)) cs) f

row_begun : (first count : ℕ) (cs : Children) → threads_in (first + 0) (count - 0) cs ≡ threads_in first count cs
row_begun first count cs =
    let e : count - 0 ≡ count = omega arith in
    let f : first + 0 ≡ first = omega arith in
    ap (λ k. threads_in (first + 0) k cs) e ∙ ap (λ n. threads_in n count cs) f

row_over : (first count i : ℕ) (cs : Children) → count ≤ i → threads_in (first + i) (count - i) cs ≡ []
row_over first count i cs le =
    let e : count - i ≡ 0 = omega arith in
    ap (λ k. threads_in (first + i) k cs) e

flat-append : {A : Type 0} {B : Type 0} (f : A → List B) (xs ys : List A) → flat_map f (xs ++ ys) ≡ flat_map f xs ++ flat_map f ys
flat-append f [] ys = refl
flat-append f (x ∷ xs) ys = ap (λ l. f x ++ l) (flat-append f xs ys) ∙ sym (append_assoc (f x) (flat_map f xs) (flat_map f ys))

-- ---- lists of what each thread gives

pub listed_none : {B : Type 0} (f : Thread → List B) (front : List B) (first count : ℕ) (cs : Children) → front ≡ [] → front ++ flat_map f (threads_in (first + 0) (count - 0) cs) ≡ flat_map f (threads_in first count cs)
listed_none f front first count cs none = ap (λ l. l ++ flat_map f (threads_in (first + 0) (count - 0) cs)) none ∙ ap (flat_map f) (row_begun first count cs)

pub listed_more : {B : Type 0} (f : Thread → List B) (front new total : List B) (first count i : ℕ) (cs ds : Children) → i < count → ds ≡ cs → new ≡ front ++ flat_map f (thread_at (first + i) (find (first + i) ds))
    → front ++ flat_map f (threads_in (first + i) (count - i) cs) ≡ total → new ++ flat_map f (threads_in (first + (i + 1)) (count - (i + 1)) cs) ≡ total
listed_more f front new total first count i cs ds lt same pushed before =
    let here = thread_at (first + i) (find (first + i) cs) in
    let rest = threads_in (first + (i + 1)) (count - (i + 1)) cs in
    let is : new ≡ front ++ flat_map f here = pushed ∙ ap (λ es. front ++ flat_map f (thread_at (first + i) (find (first + i) es))) same in
    ap (λ l. l ++ flat_map f rest) is ∙ append_assoc front (flat_map f here) (flat_map f rest)
    ∙ ap (λ l. front ++ l) (sym (flat-append f here rest) ∙ ap (flat_map f) (sym (row_step first count i cs lt))) ∙ before

pub listed_all : {B : Type 0} (f : Thread → List B) (front total : List B) (first count i : ℕ) (cs : Children) → count ≤ i → front ++ flat_map f (threads_in (first + i) (count - i) cs) ≡ total → front ≡ total
listed_all f front total first count i cs le before = sym (append-nil front) ∙ ap (λ l. front ++ flat_map f l) (sym (row_over first count i cs le)) ∙ before

-- ---- how many wait

count-append : (xs ys : List Thread) → count_waiting (xs ++ ys) ≡ count_waiting xs + count_waiting ys
count-append [] ys = omega arith
count-append (x ∷ xs) ys = omega (arith, count-append xs ys)

pub counted_none : (first count : ℕ) (cs : Children) → 0 + count_waiting (threads_in (first + 0) (count - 0) cs) ≡ count_waiting (threads_in first count cs)
counted_none first count cs = omega (arith, ap count_waiting (row_begun first count cs))

pub counted_more : (n total first count i : ℕ) (cs : Children) → i < count → n + count_waiting (threads_in (first + i) (count - i) cs) ≡ total
    → n + count_waiting (thread_at (first + i) (find (first + i) cs)) + count_waiting (threads_in (first + (i + 1)) (count - (i + 1)) cs) ≡ total
counted_more n total first count i cs lt before =
    let here = thread_at (first + i) (find (first + i) cs) in
    let rest = threads_in (first + (i + 1)) (count - (i + 1)) cs in
    let e : count_waiting (threads_in (first + i) (count - i) cs) ≡ count_waiting here + count_waiting rest = ap count_waiting (row_step first count i cs lt) ∙ count-append here rest in
    omega (arith, e, before)

pub counted_all : (n total first count i : ℕ) (cs : Children) → count ≤ i → n + count_waiting (threads_in (first + i) (count - i) cs) ≡ total → n ≡ total
counted_all n total first count i cs le before =
    let e : count_waiting (threads_in (first + i) (count - i) cs) ≡ 0 = ap count_waiting (row_over first count i cs le) in
    omega (arith, e, before)

-- ---- what they wrote, laid over a memory

pub committed_none : (m : Memory) (first count : ℕ) (cs : Children) → commits m (writings (threads_in (first + 0) (count - 0) cs)) ≡ commits m (writings (threads_in first count cs))
committed_none m first count cs = ap (λ l. commits m (writings l)) (row_begun first count cs)

pub committed_more : (m n total : Memory) (first count i : ℕ) (cs : Children) → i < count → n ≡ commits m (writings (thread_at (first + i) (find (first + i) cs)))
    → commits m (writings (threads_in (first + i) (count - i) cs)) ≡ total → commits n (writings (threads_in (first + (i + 1)) (count - (i + 1)) cs)) ≡ total
committed_more m n total first count i cs lt one before =
    let here = thread_at (first + i) (find (first + i) cs) in
    let rest = threads_in (first + (i + 1)) (count - (i + 1)) cs in
    ap (λ k. commits k (writings rest)) one ∙ sym (in_parts m (writings here) (writings rest))
    ∙ ap (commits m) (sym (flat-append _ here rest) ∙ ap writings (sym (row_step first count i cs lt))) ∙ before

pub committed_all : (m total : Memory) (first count i : ℕ) (cs : Children) → count ≤ i → commits m (writings (threads_in (first + i) (count - i) cs)) ≡ total → m ≡ total
committed_all m total first count i cs le before = ap (λ l. commits m (writings l)) (sym (row_over first count i cs le)) ∙ before
