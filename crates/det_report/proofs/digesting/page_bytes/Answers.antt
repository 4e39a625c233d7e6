use Rattle.std.proofs.Common.{refl}
use Rattle.report_model.proofs.Pages.{page_zero}
use Rattle.det_report.proofs.digesting.page_bytes.Goals as goal

pub returns-in-None : goal.returns-in-None
returns-in-None c = page_zero c.args.memory.now.memory c.args.page 4096 refl (c.in-None.ensures.none refl)
