use Rattle.std.proofs.Common.{sym, ◌∙◌, ap, subst, refl, arith}
use Rattle.sha2.specs.Sha256.{sha256}
use Rattle.sha2.specs.Hashers.{Holds256}
use Rattle.report_model.proofs.Pages.{text_first, text_next, text_last}
use Rattle.det_report.proofs.digesting.digest.Goals as goal

pub loop-page-init : goal.loop-page-init
loop-page-init c = record { within = omega arith; held = subst (Holds256 _) (sym (text_first _)) c.new-hasher.ensures }

pub loop-page-preserved : goal.loop-page-preserved
loop-page-preserved c =
    let next = c.in-Some.ensures.some in
    record {
      within = omega (arith, next.below);
      held = subst (Holds256 _) (text_next _ _ _ next) (c.update_with_page.ensures _ c.loop-page.invariant.held);
    }

pub returns : goal.returns
returns c =
    c.finalize.ensures _ c.loop-page.invariant.held
    ∙ ap sha256 (text_last _ _ c.loop-page.invariant.within (c.in_default.ensures.none refl))
