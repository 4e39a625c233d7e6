use Rattle.std.proofs.Common.{ℕ, ◌≡◌, sym, ◌∙◌, ap, slice_index}
use Rattle.std.proofs.lemmas.Bool.{true≢false}
use Rattle.page_store.specs.Bytes.{bytes_of}
use Rattle.page_tree.specs.Blocks.{byte_in}
use Rattle.page_tree.proofs.block.Block.is_zero_at.Goals as goal

pub returns-in-Some-clause-other : goal.returns-in-Some-clause-other
returns-in-Some-clause-other c other blank =
    let zero : (k : ℕ) → slice_index (bytes_of c.in-Some.page.now) k ≡ 0 = λ k. sym (ap (λ o. byte_in o k) c.in-Some.ensures.some) ∙ blank k in
    true≢false (sym (c.is_zero.ensures.1 zero) ∙ other)
