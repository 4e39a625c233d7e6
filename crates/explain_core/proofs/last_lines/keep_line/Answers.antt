use Rattle.std.proofs.Common.{◌<◌, Some, None, IfSome, sym, ap, subst}
use Rattle.std.specs.Prelude.{is_some}
use Rattle.std.proofs.lemmas.Result.{on_ok_weaker}
use Rattle.explain_core.specs.LastLines.{HasLine}
use Rattle.explain_core.proofs.LastLines.{becomes, becomes_none}
use Rattle.explain_core.proofs.WatchLists.{entry_there}
use Rattle.explain_core.proofs.last_lines.keep_line.Goals as goal

pub add_line-requires : goal.add_line-requires
add_line-requires c = subst (λ o. IfSome o (λ e. e.had < e.count)) (sym (entry_there c.args.endings.now.entries c.args.path.now (Some c.in-Some.ending.now) c.in-Some.ensures.value)) c.requires

pub returns-in-Some : goal.returns-in-Some
returns-in-Some c =
    let there = entry_there c.args.endings.now.entries c.args.path.now (Some c.in-Some.ending.now) c.in-Some.ensures.value in
    let told = c.get_mut.follows.holds c.add_line.new.ending in
    let updates = told.3 (ap is_some (sym c.in-Some.ensures.value)) in
    let behind = c.get_mut.follows.lender c.add_line.new.ending in
    on_ok_weaker c.add_line.result (λ has. becomes c.args.endings.now behind c.args.path.now c.in-Some.ending.now c.add_line.new.ending (HasLine c.args.line.now) updates there has) c.add_line.ensures

pub returns-in-None : goal.returns-in-None
returns-in-None c =
    becomes_none c.args.path.now.items c.args.endings.now.entries _ (HasLine c.args.line.now) (ap (λ m. m.entries) c.get_mut.follows.holds-at-none)
    (entry_there c.args.endings.now.entries c.args.path.now None c.in-None.ensures.value)
