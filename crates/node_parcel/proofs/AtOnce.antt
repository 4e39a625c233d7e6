-- Pages that are put at once, and one by one.
use Rattle.std.proofs.Common.{◌≡◌, ℕ, zero, suc, ◌+◌, ◌-◌, ◌*◌, ◌<◌, ◌≤◌, List, length, Option, Some, None, Result, Ok, Err, refl, sym, ap, subst, ◌∙◌, arith, inl, inr}
use Rattle.std.specs.Prelude.{slice_index, OnOk}
use Rattle.std.proofs.lemmas.Bool.{cases_lt, cases_eq}
use Rattle.memory_model.specs.Memory.{Memory, byte_at, permission_at, with_permission, with_permissions, same_memory}
use Rattle.memory_model.specs.Ranges.{with_copies, with_page}
use Rattle.memory_model.specs.Sizes.{page_size}
use Rattle.memory_model.proofs.Rows.{value_at-put_same, value_at-put_other, value_at-row_before, value_at-row_after, value_at-row_key}
use Rattle.memory_model.proofs.Runs.{byte_at-with_permissions, permission_at-with_permissions, permission_at-with_permissions_out}
use Rattle.parcel_model.specs.Parcel.{Content, empty, resident, whole, page_in, with_content, with_entry}
use Rattle.node_parcel.specs.Numbers.{HasPages}
use Rattle.node_parcel.specs.AtOnce.{number_after, content_by, entry_by, with_run, AreThere}

-- ---- permissions

content_permission : (known : List (List ℕ)) (m : Memory) (page : ℕ) (c : Content) (q : ℕ) → permission_at (with_content known m page c) q ≡ permission_at m q
unfolding with_content
content_permission known m page empty q = refl
content_permission known m page (resident n) q = refl
content_permission known m page (whole bytes) q = refl

permission_out : (known : List (List ℕ)) (m : Memory) (first permission : ℕ) (number : Option ℕ) (k q : ℕ) → (first ≤ q → first + k ≤ q) → permission_at (with_run known m first permission number k) q ≡ permission_at m q
unfolding with_run
permission_out known m first permission number zero q out = refl
permission_out known m first permission number (suc k) q out =
    let before : Memory = with_run known m first permission number k in
    value_at-put_other (with_content known before (first + k) (content_by (number_after number k))).permissions (first + k) permission q (λ same. omega (arith, out (omega arith)))
    ∙ content_permission known before (first + k) (content_by (number_after number k)) q
    ∙ permission_out known m first permission number k q (λ le. omega (arith, out le))

permission_in : (known : List (List ℕ)) (m : Memory) (first permission : ℕ) (number : Option ℕ) (k q : ℕ) → first ≤ q → q < first + k → permission_at (with_run known m first permission number k) q ≡ permission
unfolding with_run
permission_in known m first permission number zero q from to = absurd (omega arith)
permission_in known m first permission number (suc k) q from to =
    let before : Memory = with_run known m first permission number k in
    let put_there : Memory = with_content known before (first + k) (content_by (number_after number k)) in
    elim (cases_eq q (first + k)) [
      | inl same ↦ ap (permission_at (with_permission put_there (first + k) permission)) same ∙ value_at-put_same put_there.permissions (first + k) permission
      | inr other ↦
          value_at-put_other put_there.permissions (first + k) permission q other
          ∙ content_permission known before (first + k) (content_by (number_after number k)) q
          ∙ permission_in known m first permission number k q from (omega arith)
    ]

-- the same as those of pages in a row that have a permission
same_permission : (known : List (List ℕ)) (m n : Memory) (first permission : ℕ) (number : Option ℕ) (k q : ℕ) → ((first ≤ q → first + k ≤ q) → permission_at n q ≡ permission_at m q)
    → permission_at (with_permissions n first k permission) q ≡ permission_at (with_run known m first permission number k) q
same_permission known m n first permission number k q out = elim (cases_lt q first) [
  | inl low ↦
      permission_at-with_permissions_out n first k permission q (λ le. absurd (omega arith)) ∙ out (λ le. absurd (omega arith))
      ∙ sym (permission_out known m first permission number k q (λ le. absurd (omega arith)))
  | inr from ↦ elim (cases_lt q (first + k)) [
    | inl to ↦ permission_at-with_permissions n first k permission q from to ∙ sym (permission_in known m first permission number k q from to)
    | inr high ↦ permission_at-with_permissions_out n first k permission q (λ le. high) ∙ out (λ le. high) ∙ sym (permission_out known m first permission number k q (λ le. high))
  ]
]

-- ---- pages without bytes

pub byte_none : (known : List (List ℕ)) (m : Memory) (first permission k a : ℕ) → byte_at (with_run known m first permission None k) a ≡ byte_at m a
unfolding with_run number_after content_by with_content
byte_none known m first permission zero a = refl
byte_none known m first permission (suc k) a = byte_none known m first permission k a

pub without_bytes : (known : List (List ℕ)) (m : Memory) (first permission k : ℕ) → with_permissions m first k permission ≡ with_run known m first permission None k
without_bytes known m first permission k =
    same_memory (with_permissions m first k permission) (with_run known m first permission None k)
    (λ a. byte_at-with_permissions m first k permission a ∙ sym (byte_none known m first permission k a))
    (λ q. same_permission known m m first permission None k q (λ out. refl))

-- ---- pages with the bytes of resident ones

pub byte_before : (known : List (List ℕ)) (m : Memory) (first permission n k a : ℕ) → a < page_size * first → byte_at (with_run known m first permission (Some n) k) a ≡ byte_at m a
unfolding with_run number_after content_by with_content
byte_before known m first permission n zero a low = refl
byte_before known m first permission n (suc k) a low =
    value_at-row_before (with_run known m first permission (Some n) k).bytes (page_size * (first + k)) (slice_index (page_in known (n + k))) page_size a (omega arith)
    ∙ byte_before known m first permission n k a low

byte_behind : (known : List (List ℕ)) (m : Memory) (first permission n k a : ℕ) → page_size * (first + k) ≤ a → byte_at (with_run known m first permission (Some n) k) a ≡ byte_at m a
unfolding with_run number_after content_by with_content
byte_behind known m first permission n zero a high = refl
byte_behind known m first permission n (suc k) a high =
    value_at-row_after (with_run known m first permission (Some n) k).bytes (page_size * (first + k)) (slice_index (page_in known (n + k))) page_size a (omega arith)
    ∙ byte_behind known m first permission n k a (omega arith)

byte_within : (known : List (List ℕ)) (m source : Memory) (first permission n k a : ℕ) → HasPages source known → n + k ≤ length known → page_size * first ≤ a → a < page_size * (first + k)
    → byte_at (with_run known m first permission (Some n) k) a ≡ byte_at source (page_size * n + (a - page_size * first))
unfolding with_run number_after content_by with_content
byte_within known m source first permission n zero a has there from to = absurd (omega arith)
byte_within known m source first permission n (suc k) a has there from to = elim (cases_lt a (page_size * (first + k))) [
  | inl low ↦
      value_at-row_before (with_run known m first permission (Some n) k).bytes (page_size * (first + k)) (slice_index (page_in known (n + k))) page_size a low
      ∙ byte_within known m source first permission n k a has (omega arith) from low
  | inr high ↦
      let e : page_size * (n + k) + (a - page_size * (first + k)) ≡ page_size * n + (a - page_size * first) = omega arith in
      value_at-row_key (with_run known m first permission (Some n) k).bytes (page_size * (first + k)) (slice_index (page_in known (n + k))) page_size a high (omega arith)
      ∙ sym (has (n + k) (a - page_size * (first + k)) (omega arith) (omega arith))
      ∙ ap (byte_at source) e
]

same_byte : (known : List (List ℕ)) (m source : Memory) (first permission n k a : ℕ) → HasPages source known → n + k ≤ length known
    → byte_at (with_copies m source n first k) a ≡ byte_at (with_run known m first permission (Some n) k) a
same_byte known m source first permission n k a has there = elim (cases_lt a (page_size * first)) [
  | inl low ↦ value_at-row_before m.bytes (page_size * first) (λ j. byte_at source (page_size * n + j)) (page_size * k) a low ∙ sym (byte_before known m first permission n k a low)
  | inr from ↦ elim (cases_lt a (page_size * (first + k))) [
    | inl to ↦
        value_at-row_key m.bytes (page_size * first) (λ j. byte_at source (page_size * n + j)) (page_size * k) a from (omega arith)
        ∙ sym (byte_within known m source first permission n k a has there from to)
    | inr high ↦ value_at-row_after m.bytes (page_size * first) (λ j. byte_at source (page_size * n + j)) (page_size * k) a (omega arith) ∙ sym (byte_behind known m first permission n k a high)
  ]
]

copied_permission : (m source : Memory) (n first k q : ℕ) → (first ≤ q → first + k ≤ q) → permission_at (with_copies m source n first k) q ≡ permission_at m q
copied_permission m source n first k q out = elim (cases_lt q first) [
  | inl low ↦ value_at-row_before m.permissions first (λ j. permission_at source (n + j)) k q low
  | inr from ↦ value_at-row_after m.permissions first (λ j. permission_at source (n + j)) k q (out from)
]

pub shared : (known : List (List ℕ)) (m source : Memory) (first permission n k : ℕ) → HasPages source known → n + k ≤ length known
    → with_permissions (with_copies m source n first k) first k permission ≡ with_run known m first permission (Some n) k
shared known m source first permission n k has there =
    same_memory (with_permissions (with_copies m source n first k) first k permission) (with_run known m first permission (Some n) k)
    (λ a. byte_at-with_permissions (with_copies m source n first k) first k permission a ∙ same_byte known m source first permission n k a has there)
    (λ q. same_permission known m (with_copies m source n first k) first permission (Some n) k q (λ out. copied_permission m source n first k q out))

-- ---- one page more

pub goes_on : (known : List (List ℕ)) (m : Memory) (first k permission : ℕ) (number : Option ℕ) (page right : ℕ) (next : Option ℕ) → page ≡ first + k → right ≡ permission → next ≡ number_after number k
    → with_run known m first permission number (k + 1) ≡ with_entry known (with_run known m first permission number k) (entry_by page right next)
unfolding with_run
goes_on known m first k permission number page right next p r e =
    let more : k + 1 ≡ suc k = omega arith in
    ap (with_run known m first permission number) more
    ∙ (λ i. with_entry known (with_run known m first permission number k) (entry_by (sym p i) (sym r i) (sym e i)))

itself : (number : Option ℕ) → number_after number 0 ≡ number
unfolding number_after
itself None = refl
itself (Some n) = let e : n + 0 ≡ n = omega arith in ap (λ (j : ℕ). Some j) e

pub begins_with : (known : List (List ℕ)) (m : Memory) (page permission : ℕ) (number : Option ℕ) → with_run known m page permission number 1 ≡ with_entry known m (entry_by page permission number)
unfolding with_run
begins_with known m page permission number =
    let e : page + 0 ≡ page = omega arith in
    let h : number_after number 0 ≡ number = itself number in
    λ i. with_entry known m (entry_by (e i) permission (h i))

pub nothing_put : (known : List (List ℕ)) (m : Memory) (first permission : ℕ) (number : Option ℕ) → with_run known m first permission number 0 ≡ m
unfolding with_run
nothing_put known m first permission number = refl

pub there_more : (known : List (List ℕ)) (number next : Option ℕ) (k : ℕ) → next ≡ number_after number k → AreThere known next 1 → AreThere known number (k + 1)
unfolding number_after
there_more known None next k e h = tt
there_more known (Some n) next k e h =
    let at : AreThere known (Some (n + k)) 1 = subst (λ (o : Option ℕ). AreThere known o 1) e h in
    omega (arith, at)

pub one_whole : (known : List (List ℕ)) (m : Memory) (page permission : ℕ) (bytes : List ℕ) → with_permissions (with_page m page bytes) page 1 permission ≡ with_entry known m (record { page = page; permission = permission; content = whole bytes })
unfolding with_content
one_whole known m page permission bytes = refl

pub there_some : (known : List (List ℕ)) (number : Option ℕ) (n k : ℕ) → number ≡ Some n → AreThere known number k → n + k ≤ length known
there_some known number n k e h = subst (λ (o : Option ℕ). AreThere known o k) e h

pub on_ok : {X E : Type 0} (r : Result X E) {P Q : Type 0} → (P → Q) → OnOk r P → OnOk r Q
on_ok (Ok x) f h = f h
on_ok (Err e) f h = tt

-- ---- the pages of a memory

pub other_page : (m : Memory) (number : ℕ) (bytes : List ℕ) (n k : ℕ) → n < number → k < page_size → byte_at (with_page m number bytes) (page_size * n + k) ≡ byte_at m (page_size * n + k)
other_page m number bytes n k lt within = value_at-row_before m.bytes (page_size * number) (slice_index bytes) page_size (page_size * n + k) (omega arith)

pub this_page : (m : Memory) (number : ℕ) (bytes : List ℕ) (k : ℕ) → k < page_size → byte_at (with_page m number bytes) (page_size * number + k) ≡ slice_index bytes k
this_page m number bytes k within =
    let e : page_size * number + k - page_size * number ≡ k = omega arith in
    value_at-row_key m.bytes (page_size * number) (slice_index bytes) page_size (page_size * number + k) (omega arith) (omega arith) ∙ ap (slice_index bytes) e
