use Rattle.std.proofs.Common.{sym, ◌∙◌}
use Rattle.std.proofs.lemmas.Bool.{false≢true}
use Rattle.snapshot.proofs.Lists.{equal_bytes, same_page}
use Rattle.snapshot.proofs.overlaying.has_changed.Goals as goal

pub returns-then-same_page-clause-same : goal.returns-then-same_page-clause-same
returns-then-same_page-clause-same c _ =
    same_page _ _ c.args.page _ _ c.bytes-written.ensures c.bytes-before.ensures (sym (c.same_page.ensures.0 c.if-same_page.true))

pub returns-clause-differs : goal.returns-clause-differs
returns-clause-differs c _ same =
    absurd (false≢true (sym c.if-same_page.false ∙ c.same_page.ensures.1 (sym (equal_bytes _ _ c.args.page _ _ c.bytes-written.ensures c.bytes-before.ensures same))))
