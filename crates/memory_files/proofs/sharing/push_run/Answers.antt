use Rattle.memory_files.proofs.Taking.{run_more, run_none}
use Rattle.memory_files.proofs.sharing.push_run.Goals as goal

pub loop-page-init : goal.loop-page-init
loop-page-init c = run_none c.args.pages.now.items c.args.slot c.args.from

pub loop-page-preserved : goal.loop-page-preserved
loop-page-preserved c =
    run_more c.args.pages.now.items c.loop-page.pages.items c.push.new.self.items c.args.slot c.args.from c.loop-page.page c.content_page.result c.content_page-in-loop-page.result c.loop-page.invariant
    c.content_page.ensures c.content_page-in-loop-page.ensures c.in_ok-push.ensures.items
