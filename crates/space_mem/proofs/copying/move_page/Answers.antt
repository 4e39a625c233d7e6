use Rattle.page_tree.proofs.Cuts.{replaceable_root}
use Rattle.space_mem.proofs.copying.move_page.Goals as goal

pub permit-requires-clause-ready : goal.permit-requires-clause-ready
permit-requires-clause-ready c = replaceable_root c.replace.new.self c.args.to c.replace.ensures.ready
