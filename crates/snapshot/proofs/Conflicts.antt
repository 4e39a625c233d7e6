-- Addresses in conflict, by page and by byte.
use Rattle.std.specs.Prelude.{◌≡◌, ℕ, ◌+◌, ◌*◌, ◌-◌, ◌<◌, ◌≤◌, ◌==◌, Bool, true, false, not, ◌&&◌, List, if◌then◌else◌, slice_index}
use Rattle.std.proofs.Common.{refl, sym, ◌∙◌, ap, arith, inl, inr, eq-eqb, ne_eqb}
use Rattle.std.proofs.lemmas.Bool.{cases_eq, cases_lt}
use Rattle.memory_model.specs.Memory.{Memory, byte_at}
use Rattle.memory_model.specs.Ranges.{IsPageOf}
use Rattle.merge_model.specs.Merge as model
use Rattle.merge_model.proofs.Merges.{first_conflict-some}
use Rattle.merge3.specs.Bytes as bytes
use Rattle.snapshot.specs.declared.fault.MergeError.{MergeError}
use Rattle.snapshot.specs.declared.fault.MergeError.TheVariants.{Conflict, Memory as NoMemory}
use Rattle.snapshot.specs.Faults.{IsConflictAt, MayFail}
use Rattle.snapshot.specs.Pages.{IsFirstConflict, IsMergedPage, NoneInConflict, SameBytes}

pub conflict_at : (agree : Bool) (s c p : Memory) (page : ℕ) (xs ys zs : List ℕ) → IsPageOf s page xs → IsPageOf c page ys → IsPageOf p page zs → (k : ℕ) → k < 4096 → model.is_conflict agree s c p (4096 * page + k) ≡ bytes.is_conflict agree xs ys zs k
conflict_at agree s c p page xs ys zs hs hc hp k below =
    let a = hs.byte k below in
    let b = hc.byte k below in
    let d = hp.byte k below in
    λ i. not (b i == a i) && not (d i == a i) && not (agree && b i == d i)

pub none_in_page : (agree : Bool) (s c p : Memory) (page : ℕ) (xs ys zs : List ℕ) (end to : ℕ) → IsPageOf s page xs → IsPageOf c page ys → IsPageOf p page zs → bytes.NoneInConflict agree xs ys zs end → end ≤ 4096 → to ≤ 4096 * page + end → NoneInConflict agree s c p (4096 * page) to
none_in_page agree s c p page xs ys zs end to hs hc hp none within le a above below =
    let k = a - 4096 * page in
    let e : a ≡ 4096 * page + k = omega arith in
    ap (model.is_conflict agree s c p) e ∙ conflict_at agree s c p page xs ys zs hs hc hp k (omega arith) ∙ none k (omega arith)

pub first_in_page : (agree : Bool) (s c p : Memory) (page : ℕ) (xs ys zs : List ℕ) (k : ℕ) → IsPageOf s page xs → IsPageOf c page ys → IsPageOf p page zs → bytes.IsFirstConflict agree xs ys zs k → IsFirstConflict agree s c p page (4096 * page + k)
first_in_page agree s c p page xs ys zs k hs hc hp found = record {
  above = omega arith;
  below = omega (arith, found.within);
  here = conflict_at agree s c p page xs ys zs hs hc hp k found.within ∙ found.here;
  least = none_in_page agree s c p page xs ys zs k (4096 * page + k) hs hc hp found.least (omega (arith, found.within)) (omega arith);
}

pub merged_in_page : (s c p : Memory) (page : ℕ) (xs ys zs out : List ℕ) → IsPageOf s page xs → IsPageOf c page ys → IsPageOf p page zs → bytes.IsMergeBelow xs ys zs out 4096 → IsMergedPage s c p page out
merged_in_page s c p page xs ys zs out hs hc hp merged k below =
    let a = hs.byte k below in
    let b = hc.byte k below in
    let d = hp.byte k below in
    merged k below ∙ sym (λ i. if not (b i == a i) then b i else d i)

-- the byte of a side that changed it, where the other did not
pub either : (before written current : ℕ) → current ≡ before → written ≡ (if not (written == before) then written else current)
either before written current kept = elim (cases_eq written before) [
  | inl same ↦ rw (eq-eqb written before same) (same ∙ sym kept)
  | inr other ↦ rw (ne_eqb written before other) refl
]

-- where the child changed nothing there is no conflict
pub none_unchanged : (agree : Bool) (s c p : Memory) (first end : ℕ) → SameBytes c s first end → NoneInConflict agree s c p (4096 * first) (4096 * end)
none_unchanged agree s c p first end same a above below =
    ap (λ b. not b && model.is_changed s p a && not (agree && byte_at c a == byte_at p a)) (eq-eqb (byte_at c a) (byte_at s a) (same a above below))

pub none_join : (agree : Bool) (s c p : Memory) (x y z : ℕ) → NoneInConflict agree s c p x y → NoneInConflict agree s c p y z → NoneInConflict agree s c p x z
none_join agree s c p x y z before after a above below = elim (cases_lt a y) [
  | inl low ↦ before a above low
  | inr high ↦ after a high below
]

-- the first conflict of a page, where no page of the range before it has one
pub fails_at : (agree : Bool) (s c p : Memory) (first count page : ℕ) (e : MergeError) → first ≤ page → page < first + count → NoneInConflict agree s c p (4096 * first) (4096 * page) → IsConflictAt (IsFirstConflict agree s c p page) e → MayFail (model.first_conflict agree s c p first count) e
fails_at agree s c p first count page (Conflict addr) from to none found =
    first_conflict-some agree s c p first count addr (omega (arith, found.above)) (omega (arith, found.below))
    (none_join agree s c p (4096 * first) (4096 * page) addr none found.least) found.here
fails_at agree s c p first count page NoMemory from to none found = absurd found

unchanged : (t u v : Bool) → u ≡ false → (t && u && v) ≡ false
unchanged true u v e = rw e refl
unchanged false u v e = refl

-- where the parent changed nothing, nothing is in conflict
pub none_kept : (agree : Bool) (s c p : Memory) (page : ℕ) (xs zs : List ℕ) → IsPageOf s page xs → IsPageOf p page zs → xs ≡ zs → NoneInConflict agree s c p (4096 * page) (4096 * (page + 1))
none_kept agree s c p page xs zs hs hp same a above below =
    let k : ℕ = a - 4096 * page in
    let e : a ≡ 4096 * page + k = omega arith in
    let kept : byte_at p a ≡ byte_at s a = ap (byte_at p) e ∙ hp.byte k (omega arith) ∙ ap (λ l. slice_index l k) (sym same) ∙ sym (hs.byte k (omega arith)) ∙ ap (byte_at s) (sym e) in
    unchanged (model.is_changed s c a) (model.is_changed s p a) (not (agree && byte_at c a == byte_at p a)) (ap (λ t. not t) (eq-eqb (byte_at p a) (byte_at s a) kept))
