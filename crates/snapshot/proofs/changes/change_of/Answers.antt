use Rattle.std.proofs.Common.{◌+◌, ◌*◌, ◌∙◌, arith, inl, inr, refl, subst, sym}
use Rattle.std.proofs.lemmas.Bool.{false≢true}
use Rattle.snapshot.specs.Pages.{IsFirstConflict}
use Rattle.snapshot.proofs.Lists.{equal_bytes, page_of_row, same_page}
use Rattle.snapshot.proofs.Conflicts.{none_in_page, none_kept, none_unchanged, first_in_page}
use Rattle.snapshot.proofs.changes.change_of.Goals as goal

pub returns-then-same_page-clause-sure : goal.returns-then-same_page-clause-sure
returns-then-same_page-clause-sure c =
    none_unchanged c.args.agree c.args.snapshot.now.memory c.args.child.now.memory c.args.parent.now.memory c.args.page (c.args.page + 1)
    (same_page _ _ c.args.page _ _ c.page_bytes-written.ensures c.page_bytes-before.ensures (sym (c.same_page.ensures.0 c.if-same_page.true)))

pub returns-then-owns-clause-change : goal.returns-then-owns-clause-change
returns-then-owns-clause-change c = (
  λ same. absurd (false≢true (sym c.if-same_page.false ∙ c.same_page.ensures.1 (sym (equal_bytes _ _ c.args.page _ _ c.page_bytes-written.ensures c.page_bytes-before.ensures same)))),
  inl (c.owns.ensures.0 c.if-owns.true),
)

pub returns-then-owns-clause-sure : goal.returns-then-owns-clause-sure
returns-then-owns-clause-sure c =
    none_kept c.args.agree _ c.args.child.now.memory _ c.args.page _ _ c.page_bytes-before.ensures c.page_bytes-current.ensures (c.same_page-2.ensures.0 c.if-same_page-2.true)

pub returns-then-same_page-2-clause-change : goal.returns-then-same_page-2-clause-change
returns-then-same_page-2-clause-change c = (
  λ same. absurd (false≢true (sym c.if-same_page.false ∙ c.same_page.ensures.1 (sym (equal_bytes _ _ c.args.page _ _ c.page_bytes-written.ensures c.page_bytes-before.ensures same)))),
  (
    page_of_row c.args.parent.now.memory c.args.snapshot.now.memory c.args.page (same_page _ _ c.args.page _ _ c.page_bytes-current.ensures c.page_bytes-before.ensures (sym (c.same_page-2.ensures.0 c.if-same_page-2.true))),
    λ owns. false≢true (sym c.if-owns.false ∙ c.owns.ensures.1 owns),
  ),
)

pub returns-then-same_page-2-clause-sure : goal.returns-then-same_page-2-clause-sure
returns-then-same_page-2-clause-sure c =
    none_kept c.args.agree _ c.args.child.now.memory _ c.args.page _ _ c.page_bytes-before.ensures c.page_bytes-current.ensures (c.same_page-2.ensures.0 c.if-same_page-2.true)

pub returns-in-None-clause-change : goal.returns-in-None-clause-change
returns-in-None-clause-change c = (
  λ same. absurd (false≢true (sym c.if-same_page.false ∙ c.same_page.ensures.1 (sym (equal_bytes _ _ c.args.page _ _ c.page_bytes-written.ensures c.page_bytes-before.ensures same)))),
  inr (λ same. false≢true (sym c.if-same_page-2.false ∙ c.same_page-2.ensures.1 (sym (equal_bytes _ _ c.args.page _ _ c.page_bytes-current.ensures c.page_bytes-before.ensures same)))),
)

pub returns-in-None-clause-sure : goal.returns-in-None-clause-sure
returns-in-None-clause-sure c =
    none_in_page _ _ _ _ c.args.page _ _ _ 4096 _ c.page_bytes-before.ensures c.page_bytes-written.ensures c.page_bytes-current.ensures (c.in-None.ensures.none refl) (omega arith) (omega arith)

pub returns-in-Some-clause-conflict : goal.returns-in-Some-clause-conflict
returns-in-Some-clause-conflict c =
    let found = first_in_page c.args.agree _ _ _ c.args.page _ _ _ c.in-Some.offset c.page_bytes-before.ensures c.page_bytes-written.ensures c.page_bytes-current.ensures c.in-Some.ensures.some in
    subst (λ k. IsFirstConflict c.args.agree c.args.snapshot.now.memory c.args.child.now.memory c.args.parent.now.memory c.args.page (4096 * c.args.page + k)) (sym c.from.ensures) found
