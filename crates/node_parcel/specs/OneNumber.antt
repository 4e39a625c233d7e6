-- Pages in a row of a memory that have the bytes of resident pages in a row: pages of one resident number have the same bytes.
-- Our choice: a restatement for proofs.
use Rattle.std.specs.Prelude.{◌≡◌, ℕ, ◌+◌, ◌-◌, ◌*◌, ◌<◌, ◌≤◌, List, slice_index, Option, Some, None}
use Rattle.std.specs.List.{All, Contains}
use Rattle.memory_model.specs.Memory.{Memory, byte_at}
use Rattle.memory_model.specs.Sizes.{page_size}
use Rattle.space_mem.specs.Held.{Held, SamePage}
use Rattle.parcel_model.specs.Parcel.{page_in}
use Rattle.node_parcel.specs.declared.spans.Span.{Span}
use Rattle.node_parcel.specs.declared.runs.Placed.{Placed}
use Rattle.node_parcel.specs.declared.runs.Placing.{Placing}

-- a page is one of a span's
pub record HasPage (s : Span) (page : ℕ) : Type 0 where
  pub from : s.pages.first ≤ page
  pub below : page < s.pages.first + s.pages.count

-- a page of each of two spans, with one number
pub record HaveOneNumber (s t : Span) (page : ℕ) : Type 0 where
  pub ours : HasPage s page
  pub theirs : HasPage t page
  pub number : s.number + (page - s.pages.first) ≡ t.number + (page - t.pages.first)

-- some span of each of two lists has a page with one number
pub record ShareNumber (ours theirs : List Span) (page : ℕ) : Type 0 where
  pub our : Span
  pub their : Span
  pub in_ours : Contains ours our
  pub in_theirs : Contains theirs their
  pub one : HaveOneNumber our their page

-- the pages of a span have the bytes of the resident pages of its numbers
abbrev pub HasSpan : List (List ℕ) → Memory → Span → Type 0
HasSpan known m s = (k j : ℕ) → k < s.pages.count → j < page_size → byte_at m (page_size * (s.pages.first + k) + j) ≡ slice_index (page_in known (s.number + k)) j

-- a span ends at a page, or before it
abbrev pub EndsBy : ℕ → Span → Type 0
EndsBy page s = s.pages.first + s.pages.count ≤ page

-- the spans of a memory to which pages are added: those that are still to be put are behind them, and none is at a page or behind it
pub record ArePut (known : List (List ℕ)) (p : Placing) (page : ℕ) : Type 0 where
  pub held : All (HasSpan known p.memory.memory) p.spans.items
  pub before : All (EndsBy p.run.first) p.spans.items
  pub behind : p.run.first + p.run.count ≤ page

-- two memories have the same bytes in each page that has one number in both
abbrev pub AreAlike : Memory → Memory → List Span → List Span → Type 0
AreAlike m n ours theirs = (page : ℕ) → ShareNumber ours theirs page → SamePage m n page

-- the spans of a memory, where there is one
abbrev pub AreSpansIn : List (List ℕ) → Option Placed → Type 0
AreSpansIn known None = Unit {0}
AreSpansIn known (Some p) = All (HasSpan known p.memory.memory) p.spans.items

-- the memory, where there is one
abbrev pub held_in : Option Placed → Option Held
held_in None = None
held_in (Some p) = Some p.memory

-- of a memory and of a second one, where there is one
abbrev pub AreAlikeIn : Memory → List Span → Option Placed → Type 0
AreAlikeIn m ours None = Unit {0}
AreAlikeIn m ours (Some p) = AreAlike m p.memory.memory ours p.spans.items
