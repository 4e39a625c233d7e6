-- A range and a register block that are changed in another memory and then taken over.
use Rattle.std.specs.Prelude.{◌≡◌, ℕ, ◌+◌, ◌*◌, ◌≤◌, List, length, true, if◌then◌else◌}
use Rattle.std.proofs.Common.{refl, sym, ◌∙◌, ap, subst}
use Rattle.memory_model.specs.Memory.{Memory, no_memory, with_bytes, with_permissions}
use Rattle.memory_model.specs.Ranges.{with_copies, with_zeros}
use Rattle.call_model.specs.declared.Transfer.{Transfer}
use Rattle.call_model.specs.Options.{has, regs, copy, zeroing, perm, permission}
use Rattle.space_model.specs.Part.{source_page, destination_page, page_count}
use Rattle.put_get.specs.Ranges.{copied, ranged, told, zeroed}
use Rattle.put_get.proofs.Local.{IsAlike, IsAlikeBeside, beside_same, beside_then, bytes_alike, bytes_beside, copied_alike, copies_alike, copies_beside, if_alike, if_beside, permissions_alike, permissions_beside, taken_over, zeros_alike, zeros_beside}

ranged_alike : (x : Transfer) (s m n : Memory) (first count : ℕ) → IsAlike first count m n → IsAlike first count (ranged x s m) (ranged x s n)
ranged_alike x s m n first count like =
    let d : ℕ = destination_page x in
    let c : ℕ = page_count x in
    let zeros = if_alike (has zeroing x.options) first count m n (with_zeros m d c) (with_zeros n d c) like (zeros_alike first count d c m n like) in
    let a : Memory = zeroed x m in
    let b : Memory = zeroed x n in
    let copies = if_alike (has copy x.options) first count a b (with_copies a s (source_page x) d c) (with_copies b s (source_page x) d c) zeros (copies_alike first count s (source_page x) d c a b zeros) in
    let e : Memory = copied x s a in
    let f : Memory = copied x s b in
    if_alike (has perm x.options) first count e f (with_permissions e d c (permission x.options)) (with_permissions f d c (permission x.options)) copies (permissions_alike first count d c (permission x.options) e f copies)

ranged_beside : (x : Transfer) (s m : Memory) (first count : ℕ) → first ≤ destination_page x → destination_page x + page_count x ≤ first + count → IsAlikeBeside first count (ranged x s m) m
ranged_beside x s m first count low high =
    let d : ℕ = destination_page x in
    let c : ℕ = page_count x in
    let zeros = if_beside (has zeroing x.options) first count m (with_zeros m d c) m (beside_same first count m m refl) (λ _. zeros_beside first count d c m low high) in
    let a : Memory = zeroed x m in
    let w : Memory = with_copies a s (source_page x) d c in
    let copies = if_beside (has copy x.options) first count a w m zeros (λ _. beside_then first count w a m (copies_beside first count s (source_page x) d c a low high) zeros) in
    let e : Memory = copied x s a in
    let p : Memory = with_permissions e d c (permission x.options) in
    if_beside (has perm x.options) first count e p m copies (λ _. beside_then first count p e m (permissions_beside first count d c (permission x.options) e low high) copies)

pub changed_around : (x : Transfer) (s m made r : Memory) (block : List ℕ) (first count : ℕ) → has regs x.options ≡ true → first ≤ destination_page x → destination_page x + page_count x ≤ first + count → 4096 * first ≤ x.block → x.block + length block ≤ 4096 * (first + count)
    → made ≡ with_bytes (ranged x s (with_copies no_memory m first first count)) x.block block → r ≡ with_copies m made first first count → r ≡ told x block (ranged x s m)
changed_around x s m made r block first count writes low high from to is taken =
    let n : Memory = with_copies no_memory m first first count in
    let whole : Memory = with_bytes (ranged x s m) x.block block in
    let like = bytes_alike first count x.block block (ranged x s n) (ranged x s m) (ranged_alike x s n m first count (copied_alike first count no_memory m)) in
    let beside = beside_then first count whole (ranged x s m) m (bytes_beside first count x.block block (ranged x s m) from to) (ranged_beside x s m first count low high) in
    taken ∙ taken_over first count m made whole (subst (λ k. IsAlike first count k whole) (sym is) like) beside
    ∙ ap (λ b. if b then whole else ranged x s m) (sym writes)
