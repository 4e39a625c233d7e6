use Rattle.std.proofs.Common.{◌≡◌, ℕ, ◌+◌, ◌*◌, List, subst, ap, ◌∙◌}
use Rattle.std.specs.Prelude.{IfOk}
use Rattle.memory_model.specs.Memory.{Memory, byte_at}
use Rattle.memory_model.specs.Sizes.{page_size}
use Rattle.node_parcel.proofs.AtOnce.{other_page}
use Rattle.node_parcel.proofs.Kept.{page_put}
use Rattle.node_parcel.proofs.residents.keep.Goals as goal

pub returns-in_err-freeze_range-clause-others : goal.returns-in_err-freeze_range-clause-others
returns-in_err-freeze_range-clause-others c = λ n k lt within. ap (λ (m : Memory). byte_at m (page_size * n + k)) (c.in_err-freeze_range.ensures.same ∙ c.in_ok-put_into.ensures.ok) ∙ other_page c.args.memory.now.memory c.args.number c.args.page.now n k lt within

pub returns-in-Some-clause-kept : goal.returns-in-Some-clause-kept
returns-in-Some-clause-kept c =
    let made = c.in_ok-freeze_range.ensures.same ∙ c.in_ok-put_into.ensures.ok in
    let same = page_put c.args.memory.now.memory c.freeze_range.new.self.memory c.args.number c.args.page.now _ made c.bytes-bytes.ensures.whole.sized c.in-Some.ensures.some in
    subst (λ (bytes : List ℕ). IfOk c.of.result (λ kept. kept ≡ bytes)) same c.of.ensures

pub returns-in-Some-clause-others : goal.returns-in-Some-clause-others
returns-in-Some-clause-others c = λ n k lt within. ap (λ (m : Memory). byte_at m (page_size * n + k)) (c.in_ok-freeze_range.ensures.same ∙ c.in_ok-put_into.ensures.ok) ∙ other_page c.args.memory.now.memory c.args.number c.args.page.now n k lt within

pub returns-in-None-clause-others : goal.returns-in-None-clause-others
returns-in-None-clause-others c = λ n k lt within. ap (λ (m : Memory). byte_at m (page_size * n + k)) (c.in_ok-freeze_range.ensures.same ∙ c.in_ok-put_into.ensures.ok) ∙ other_page c.args.memory.now.memory c.args.number c.args.page.now n k lt within
