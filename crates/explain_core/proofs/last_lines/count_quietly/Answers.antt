use Rattle.std.proofs.Common.{Some, None, IfSome, sym, ap, subst}
use Rattle.std.specs.Prelude.{is_some}
use Rattle.explain_core.specs.LastLines.{CountsMore, MayCount}
use Rattle.explain_core.proofs.LastLines.{becomes, becomes_none}
use Rattle.explain_core.proofs.WatchLists.{entry_there}
use Rattle.explain_core.proofs.last_lines.count_quietly.Goals as goal

pub count_more-requires : goal.count_more-requires
count_more-requires c = subst (λ o. IfSome o (MayCount c.args.count)) (sym (entry_there c.args.endings.now.entries c.args.path.now (Some c.in-Some.ending.now) c.in-Some.ensures.value)) c.requires

pub returns-in-Some : goal.returns-in-Some
returns-in-Some c =
    let there = entry_there c.args.endings.now.entries c.args.path.now (Some c.in-Some.ending.now) c.in-Some.ensures.value in
    let told = c.get_mut.follows.holds c.count_more.new.ending in
    let updates = told.3 (ap is_some (sym c.in-Some.ensures.value)) in
    let behind = c.get_mut.follows.lender c.count_more.new.ending in
    becomes c.args.endings.now behind c.args.path.now c.in-Some.ending.now c.count_more.new.ending (CountsMore c.args.count) updates there c.count_more.ensures

pub returns-in-None : goal.returns-in-None
returns-in-None c =
    becomes_none c.args.path.now.items c.args.endings.now.entries _ (CountsMore c.args.count) (ap (λ m. m.entries) c.get_mut.follows.holds-at-none)
    (entry_there c.args.endings.now.entries c.args.path.now None c.in-None.ensures.value)
