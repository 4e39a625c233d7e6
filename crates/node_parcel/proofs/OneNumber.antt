-- Pages of one resident number have the same bytes, and which pages of a memory have which numbers while it is put together.
use Rattle.std.proofs.Common.{◌≡◌, ℕ, zero, suc, ◌+◌, ◌-◌, ◌*◌, ◌<◌, ◌≤◌, List, [], ◌∷◌, ◌++◌, Option, Some, None, Result, Ok, Err, sym, ap, subst, ◌∙◌, arith, inl, inr}
use Rattle.std.specs.Prelude.{slice_index, OnOk}
use Rattle.std.specs.List.{All}
use Rattle.std.proofs.lemmas.Bool.{cases_lt}
use Rattle.std.proofs.lemmas.List.Elements.{All-contains, All-nil, All-push, All-same, All-weaker}
use Rattle.memory_model.specs.Memory.{Memory, byte_at}
use Rattle.memory_model.specs.Ranges.{with_page}
use Rattle.memory_model.specs.Sizes.{page_size}
use Rattle.memory_model.proofs.Rows.{value_at-row_before, value_at-row_key}
use Rattle.space_mem.specs.Held.{SamePage}
use Rattle.parcel_model.specs.Parcel.{page_in, with_content}
use Rattle.node_parcel.specs.declared.runs.Placed.{Placed}
use Rattle.node_parcel.specs.declared.runs.Placing.{Placing}
use Rattle.node_parcel.specs.declared.runs.Run.{Run}
use Rattle.node_parcel.specs.declared.spans.Span.{Span}
use Rattle.node_parcel.specs.AtOnce.{number_after, content_by, with_run}
use Rattle.node_parcel.specs.OneNumber.{HasPage, HaveOneNumber, HasSpan, EndsBy, ArePut, AreAlike, AreAlikeIn, AreSpansIn}
use Rattle.node_parcel.proofs.AtOnce.{byte_none, byte_before}

-- ---- one number

one_byte : (known : List (List ℕ)) (m : Memory) (s : Span) (page k : ℕ) → HasSpan known m s → HasPage s page → k < page_size → byte_at m (page_size * page + k) ≡ slice_index (page_in known (s.number + (page - s.pages.first))) k
one_byte known m s page k has h lt =
    let from = h.from in
    let below = h.below in
    let e : s.pages.first + (page - s.pages.first) ≡ page = omega (arith, from) in
    ap (λ (n : ℕ). byte_at m (page_size * n + k)) (sym e) ∙ has (page - s.pages.first) k (omega (arith, from, below)) lt

pub same_page : (known : List (List ℕ)) (m n : Memory) (s t : Span) (page : ℕ) → HasSpan known m s → HasSpan known n t → HaveOneNumber s t page → SamePage m n page
same_page known m n s t page ours theirs h k lt =
    one_byte known m s page k ours h.ours lt ∙ ap (λ (i : ℕ). slice_index (page_in known i) k) h.number ∙ sym (one_byte known n t page k theirs h.theirs lt)

are_alike : (known : List (List ℕ)) (m n : Memory) (ours theirs : List Span) → All (HasSpan known m) ours → All (HasSpan known n) theirs → AreAlike m n ours theirs
are_alike known m n ours theirs has have page h =
    same_page known m n h.our h.their page (All-contains (HasSpan known m) ours h.our has h.in_ours) (All-contains (HasSpan known n) theirs h.their have h.in_theirs) h.one

pub alike_in : (known : List (List ℕ)) (m : Memory) (ours : List Span) (o : Option Placed) → All (HasSpan known m) ours → AreSpansIn known o → AreAlikeIn m ours o
alike_in known m ours None has have = tt
alike_in known m ours (Some p) has have = are_alike known m p.memory.memory ours p.spans.items has have

-- a page behind one that has one number has one too, in both spans
pub one_on : (s t : Span) (page q : ℕ) → HaveOneNumber s t page → page ≤ q → q < s.pages.first + s.pages.count → q < t.pages.first + t.pages.count → HaveOneNumber s t q
one_on s t page q h le ours theirs =
    let a = h.ours.from in
    let b = h.theirs.from in
    let e = h.number in
    record {
      ours = record { from = omega (arith, a); below = ours };
      theirs = record { from = omega (arith, b); below = theirs };
      number = omega (arith, a, b, e);
    }

-- ---- while a memory is put together

low_byte : (known : List (List ℕ)) (m : Memory) (first permission : ℕ) (number : Option ℕ) (k a : ℕ) → a < page_size * first → byte_at (with_run known m first permission number k) a ≡ byte_at m a
low_byte known m first permission None k a low = byte_none known m first permission k a
low_byte known m first permission (Some n) k a low = byte_before known m first permission n k a low

pub keeps_spans : (known : List (List ℕ)) (m : Memory) (first permission : ℕ) (number : Option ℕ) (k : ℕ) (spans : List Span) → All (HasSpan known m) spans → All (EndsBy first) spans → All (HasSpan known (with_run known m first permission number k)) spans
keeps_spans known m first permission number k spans held before at other there i j in_span in_page =
    let ends = before at other there in
    low_byte known m first permission number k _ (omega (arith, ends, in_span, in_page)) ∙ held at other there i j in_span in_page

byte_of_run : (known : List (List ℕ)) (m : Memory) (first permission n count i j : ℕ) → i < count → j < page_size → byte_at (with_run known m first permission (Some n) count) (page_size * (first + i) + j) ≡ slice_index (page_in known (n + i)) j
unfolding with_run number_after content_by with_content
byte_of_run known m first permission n zero i j lt within = absurd (omega arith)
byte_of_run known m first permission n (suc k) i j lt within = elim (cases_lt i k) [
  | inl low ↦
      value_at-row_before (with_run known m first permission (Some n) k).bytes (page_size * (first + k)) (slice_index (page_in known (n + k))) page_size (page_size * (first + i) + j) (omega (arith, low, within))
      ∙ byte_of_run known m first permission n k i j low within
  | inr high ↦
      let here : i ≡ k = omega (arith, lt, high) in
      let place : page_size * (first + i) + j - page_size * (first + k) ≡ j = omega (arith, here) in
      value_at-row_key (with_run known m first permission (Some n) k).bytes (page_size * (first + k)) (slice_index (page_in known (n + k))) page_size (page_size * (first + i) + j) (omega (arith, here)) (omega (arith, here, within))
      ∙ ap (slice_index (page_in known (n + k))) place ∙ ap (λ (x : ℕ). slice_index (page_in known (n + x)) j) (sym here)
]

ends_later : (first page : ℕ) → first ≤ page → (spans : List Span) → All (EndsBy first) spans → All (EndsBy page) spans
ends_later first page le spans before = All-weaker (EndsBy first) (EndsBy page) (λ s h. omega (arith, le, h)) spans before

-- pages with the bytes of resident pages are put, and have a span
pub more_held : (known : List (List ℕ)) (p : Placing) (m : Memory) (spans : List Span) (s : Span) (page : ℕ) → ArePut known p page → spans ≡ p.spans.items ++ s ∷ [] → m ≡ with_run known p.memory.memory s.pages.first p.run.permission (Some s.number) s.pages.count → s.pages.first ≡ p.run.first
    → All (HasSpan known m) spans
more_held known p m spans s page put is memory at =
    let after = with_run known p.memory.memory s.pages.first p.run.permission (Some s.number) s.pages.count in
    let before = subst (λ (n : ℕ). All (EndsBy n) p.spans.items) (sym at) put.before in
    let old = keeps_spans known p.memory.memory s.pages.first p.run.permission (Some s.number) s.pages.count p.spans.items put.held before in
    let all = All-push (HasSpan known after) p.spans.items s old (λ i j in_span in_page. byte_of_run known p.memory.memory s.pages.first p.run.permission s.number s.pages.count i j in_span in_page) in
    subst (λ (l : List Span). All (HasSpan known m) l) (sym is) (subst (λ (n : Memory). All (HasSpan known n) (p.spans.items ++ s ∷ [])) (sym memory) all)

pub more_before : (known : List (List ℕ)) (p : Placing) (spans : List Span) (s : Span) (page : ℕ) → ArePut known p page → spans ≡ p.spans.items ++ s ∷ [] → s.pages.first ≡ p.run.first → s.pages.count ≡ p.run.count → All (EndsBy page) spans
more_before known p spans s page put is at many =
    let behind = put.behind in
    subst (λ (l : List Span). All (EndsBy page) l) (sym is) (All-push (EndsBy page) p.spans.items s (ends_later p.run.first page (omega (arith, behind)) p.spans.items put.before) (omega (arith, behind, at, many)))

-- pages without bytes are put
pub still_held : (known : List (List ℕ)) (p : Placing) (m : Memory) (number : Option ℕ) (page : ℕ) → ArePut known p page → m ≡ with_run known p.memory.memory p.run.first p.run.permission number p.run.count → All (HasSpan known m) p.spans.items
still_held known p m number page put memory =
    subst (λ (n : Memory). All (HasSpan known n) p.spans.items) (sym memory) (keeps_spans known p.memory.memory p.run.first p.run.permission number p.run.count p.spans.items put.held put.before)

pub still_before : (known : List (List ℕ)) (p : Placing) (page : ℕ) → ArePut known p page → All (EndsBy page) p.spans.items
still_before known p page put = let behind = put.behind in ends_later p.run.first page (omega (arith, behind)) p.spans.items put.before

-- the bytes of a page are put behind all spans
pub keeps_with_page : (known : List (List ℕ)) (m n : Memory) (page : ℕ) (bytes : List ℕ) (spans : List Span) → ((a : ℕ) → byte_at n a ≡ byte_at (with_page m page bytes) a) → All (HasSpan known m) spans → All (EndsBy page) spans → All (HasSpan known n) spans
keeps_with_page known m n page bytes spans is held before at other there i j in_span in_page =
    let ends = before at other there in
    is _ ∙ value_at-row_before m.bytes (page_size * page) (slice_index bytes) page_size _ (omega (arith, ends, in_span, in_page)) ∙ held at other there i j in_span in_page

pub put_whole : (known : List (List ℕ)) (p : Placing) (m : Memory) (page : ℕ) (bytes : List ℕ) → ((a : ℕ) → byte_at p.memory.memory a ≡ byte_at (with_page m page bytes) a) → p.run ≡ record { first = page; count = 0; permission = 0; number = None }
    → All (HasSpan known m) p.spans.items → All (EndsBy page) p.spans.items → ArePut known p (page + 1)
put_whole known p m page bytes is run held before =
    let at : p.run.first ≡ page = ap (λ (r : Run). r.first) run in
    let none : p.run.count ≡ 0 = ap (λ (r : Run). r.count) run in
    record {
      held = keeps_with_page known m p.memory.memory page bytes p.spans.items is held before;
      before = subst (λ (n : ℕ). All (EndsBy n) p.spans.items) (sym at) before;
      behind = omega (arith, at, none);
    }

-- at first there are none
pub nothing_yet : (known : List (List ℕ)) (p : Placing) → p.spans.items ≡ [] → p.run ≡ record { first = 0; count = 0; permission = 0; number = None } → ArePut known p 0
nothing_yet known p none run =
    let at : p.run.first ≡ 0 = ap (λ (r : Run). r.first) run in
    let few : p.run.count ≡ 0 = ap (λ (r : Run). r.count) run in
    record {
      held = All-same (HasSpan known p.memory.memory) p.spans.items [] none (All-nil (HasSpan known p.memory.memory));
      before = All-same (EndsBy p.run.first) p.spans.items [] none (All-nil (EndsBy p.run.first));
      behind = omega (arith, at, few);
    }

pub both_ok : {X E : Type 0} (r : Result X E) (P Q : Type 0) → OnOk r P → OnOk r Q → OnOk r (P × Q)
both_ok (Ok x) P Q p q = (p, q)
both_ok (Err e) P Q p q = tt
