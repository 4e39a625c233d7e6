use Rattle.std.proofs.Common.{subst}
use Rattle.sha2.specs.Hashers.{Holds256}
use Rattle.report_model.proofs.Pages.{page_parts}
use Rattle.det_report.proofs.digesting.update_with_page.Goals as goal

pub returns : goal.returns
returns c = λ message held.
    subst (Holds256 _) (page_parts _ _ message _ _ _ c.to_le_bytes.ensures c.perm.ensures c.page_bytes.ensures)
    (c.update-3.ensures _ (c.update-2.ensures _ (c.update.ensures message held)))
