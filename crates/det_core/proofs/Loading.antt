-- Writing a memory, one segment after the other.
use Rattle.std.proofs.Common.{◌≡◌, ◌<◌, ◌≤◌, ◌+◌, ◌-◌, ◌/◌, ℕ, suc, List, [], ◌∷◌, length, get_or, drop, map, refl, ap, sym, ◌∙◌, arith, add-one, subst}
use Rattle.std.proofs.lemmas.List.{nil_from_length, length-drop}
use Rattle.std.proofs.Math.Seq.{drop-cons}
use Rattle.memory_model.specs.Memory.{Memory, no_memory, byte_at, with_bytes}
use Rattle.memory_model.specs.Sparse.{value_at-no_values}
use Rattle.memory_model.specs.Sizes.{page_size}
use Rattle.memory_model.proofs.Runs.{byte_at-with_bytes_out, byte_at-with_permissions}
use Rattle.det_core.specs.Empty.{IsEmptyFrom}
use Rattle.run_model.specs.Boot.{with_segment, with_segments}
use Rattle.image_model.specs.Image.{Segment, IsSegment, AreSegments, last_page}

nothing_left : {A : Type 0} (i : ℕ) (bs : List A) → length bs ≤ i → drop i bs ≡ []
nothing_left i bs le = nil_from_length (drop i bs) (omega (arith, length-drop i bs))

-- segments from a page on, where no byte stands yet
pub record Room (m : Memory) (ss : List Segment) : Type 0 where
  pub page : ℕ
  pub sound : AreSegments page ss
  pub empty : (a : ℕ) → page ≤ a / page_size → byte_at m a ≡ 0

-- what is still to be done, with the first of it
pub record Next (m : Memory) (ss : List Segment) (total : Memory) : Type 0 where
  pub rest : with_segments m ss ≡ total
  pub room : Room m ss

-- the pages above a segment are as they were
room_after : (m : Memory) (s : Segment) (ss : List Segment) → Room m (s ∷ ss) → Room (with_segment m s) ss
room_after m s ss h =
    let here = h.sound.0 in
    let filled = here.filled in
    let order = here.order in
    record {
      page = last_page s + 1;
      sound = h.sound.1;
      empty = λ a ge.
          byte_at-with_permissions (with_bytes m s.address s.content) (s.address / page_size) (last_page s + 1 - s.address / page_size) s.permission a
          ∙ byte_at-with_bytes_out m s.address s.content a (λ _. omega (arith, ge, filled))
          ∙ h.empty a (omega (arith, ge, filled, order));
    }

pub next_step : {S : Type 0} (view : S → Segment) (m : Memory) (items : List S) (i : ℕ) (d : S) (total : Memory) → i < length items → Next m (map view (drop i items)) total
    → Next (with_segment m (view (get_or items i d))) (map view (drop (i + 1) items)) total × IsSegment 0 (view (get_or items i d)) × IsEmptyFrom m (view (get_or items i d)).address (length (view (get_or items i d)).content)
next_step view m items i d total lt h =
    let r : drop (suc i) items ≡ drop (i + 1) items = rw add-one refl in
    let e : map view (drop i items) ≡ view (get_or items i d) ∷ map view (drop (i + 1) items) = ap (map view) (drop-cons items i d lt) ∙ ap (λ (t : List Segment). view (get_or items i d) ∷ t) (ap (map view) r) in
    let g : Next m (view (get_or items i d) ∷ map view (drop (i + 1) items)) total = subst (λ (ss : List Segment). Next m ss total) e h in
    let here = g.room.sound.0 in
    let order = here.order in (
      record { rest = g.rest; room = room_after m (view (get_or items i d)) (map view (drop (i + 1) items)) g.room },
      record { order = omega arith; permission = here.permission; filled = here.filled; range = here.range; short = here.short },
      λ k _. g.room.empty ((view (get_or items i d)).address + k) (omega (arith, order)),
    )

pub next_end : {S : Type 0} (view : S → Segment) (m : Memory) (items : List S) (i : ℕ) (total : Memory) → length items ≤ i → Next m (map view (drop i items)) total → m ≡ total
next_end view m items i total le h = sym (ap (λ ss. with_segments m (map view ss)) (nothing_left i items le)) ∙ h.rest

pub next_init : (m : Memory) (ss all : List Segment) → m ≡ no_memory → ss ≡ all → AreSegments 0 all → Next m ss (with_segments no_memory all)
next_init m ss all none same sound =
    rw (none, same) (record { rest = refl; room = record { page = 0; sound = sound; empty = λ a _. value_at-no_values a } })
