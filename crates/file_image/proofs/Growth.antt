-- What a child added to a file.
use Rattle.std.proofs.Common.{◌≡◌, ℕ, ◌+◌, ◌-◌, ◌≤◌, true, not, List, ◌++◌, length, drop, ap, sym, ◌∙◌, arith, length-append, length-drop}
use Rattle.std.specs.Prelude.{nat_le, ◌&&◌}
use Rattle.std.proofs.lemmas.Bool.Decides.{nat_tests}
use Rattle.file_model.specs.Sizes.{greatest_length}
use Rattle.file_model.specs.File.{File}
use Rattle.file_model.specs.Slots.{bytes_from, with_bytes, header_bytes, with_slot, slot_start}
use Rattle.file_model.specs.Reconcile.{joint_content, only_grew, are_joinable, with_addition}
use Rattle.file_model.proofs.Bytes.{drop-bytes_from}
use Rattle.file_model.proofs.Headers.{added_written}
use Rattle.file_model.proofs.Lookups.{and_left, and_right}
use Rattle.file_image.specs.Lookup.{file_in, HasFile}
use Rattle.file_image.proofs.Parts.{own_content, own_name}

from_le : (a b : ℕ) → nat_le a b ≡ true → a ≤ b
from_le a b h = grind (arith, nat_tests)

-- the child's content is not shorter than at its base
pub grew_from : (c p : File) → are_joinable c p ≡ true → c.length_at_base ≤ length c.content
grew_from c p h =
    let g : only_grew c.length_at_base c ≡ true = and_left (only_grew c.length_at_base c) (only_grew c.length_at_base p) (and_left (only_grew c.length_at_base c && only_grew c.length_at_base p) (nat_le (length (joint_content c p)) greatest_length) h) in
    from_le c.length_at_base (length c.content) (and_right (c.append && not c.conflicted && not c.deleted) (nat_le c.length_at_base (length c.content)) g)

-- there is room for it behind the parent's
pub grown_fits : (c p : File) → are_joinable c p ≡ true → length p.content + (length c.content - c.length_at_base) ≤ greatest_length
grown_fits c p h =
    let l : length (joint_content c p) ≤ greatest_length = from_le (length (joint_content c p)) greatest_length (and_right (only_grew c.length_at_base c && only_grew c.length_at_base p) (nat_le (length (joint_content c p)) greatest_length) h) in
    omega (arith, l, length-append p.content (drop c.length_at_base c.content), length-drop c.length_at_base c.content)

pub length-joint_content : (c p : File) → length p.content + (length c.content - c.length_at_base) ≡ length (joint_content c p)
length-joint_content c p = omega (arith, length-append p.content (drop c.length_at_base c.content), length-drop c.length_at_base c.content)

-- where it stands in the child's slot
pub growth_is : (d : ℕ → ℕ) (k from count : ℕ) → from ≡ (file_in d k).length_at_base → count ≡ length (file_in d k).content - from
    → bytes_from d (slot_start k + 4096 + from) count ≡ drop (file_in d k).length_at_base (file_in d k).content
growth_is d k from count e f =
    let n = length (file_in d k).content in
    ap (bytes_from d (slot_start k + 4096 + from)) f ∙ sym (drop-bytes_from d (slot_start k + 4096) n from)
    ∙ ap (drop from) (sym (own_content d k)) ∙ ap (λ m. drop m (file_in d k).content) e

pub growth_written : (b c e : ℕ → ℕ) (k end : ℕ) (child : File) (part : List ℕ) → HasFile b k → end ≡ length (file_in b k).content → part ≡ drop child.length_at_base child.content
    → c ≡ with_bytes b (slot_start k) (header_bytes (with_addition child (file_in b k))) → e ≡ with_bytes c (slot_start k + (4096 + end)) part
    → e ≡ with_slot b k (with_addition child (file_in b k))
growth_written b c e k end child part h l p f g =
    let f2 = with_addition child (file_in b k) in
    let a : slot_start k + (4096 + end) ≡ slot_start k + 4096 + length (file_in b k).content = omega (arith, l) in
    g ∙ ap (λ (x : ℕ → ℕ). with_bytes x (slot_start k + (4096 + end)) part) f ∙ ap (λ o. with_bytes (with_bytes b (slot_start k) (header_bytes f2)) o part) a
    ∙ added_written b k f2 (file_in b k).content part (own_name b k h) (ap (λ xs. (file_in b k).content ++ xs) (sym p)) (own_content b k)
