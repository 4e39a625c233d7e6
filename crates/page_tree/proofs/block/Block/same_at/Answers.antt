use Rattle.std.proofs.Common.{ℕ, ◌≡◌, sym, ◌∙◌, ap, refl, slice_index}
use Rattle.std.proofs.lemmas.Bool.{true≢false}
use Rattle.page_store.specs.Bytes.{bytes_of}
use Rattle.page_tree.specs.Blocks.{byte_in}
use Rattle.page_tree.proofs.block.Block.same_at.Goals as goal

pub returns-in-Some-page-clause-differs : goal.returns-in-Some-page-clause-differs
returns-in-Some-page-clause-differs c other same =
    c.same_page.ensures.differs other (λ k. sym (ap (λ o. byte_in o k) c.in-Some-page.ensures.some) ∙ same k ∙ ap (λ o. byte_in o k) c.in-Some.ensures.some)

pub returns-in-None-clause-differs : goal.returns-in-None-clause-differs
returns-in-None-clause-differs c other same =
    let zero : (k : ℕ) → slice_index (bytes_of c.in-Some.page.now) k ≡ 0 = λ k. sym (ap (λ o. byte_in o k) c.in-Some.ensures.some) ∙ sym (same k) ∙ ap (λ o. byte_in o k) (c.in-None.ensures.none refl) in
    true≢false (sym (c.is_zero.ensures.1 zero) ∙ other)
