use Rattle.std.proofs.Common.{IfSome, subst}
use Rattle.std.specs.Prelude.{string_bytes}
use Rattle.explain_core.specs.LastLines.{Becomes, GoesWithLine, HasLine}
use Rattle.explain_core.specs.WatchList.{entry_at}
use Rattle.explain_core.proofs.LastLines.{number_some, of_told, some_told, with_line}
use Rattle.explain_core.proofs.last_lines.event_with_line.Goals as goal

pub told_event-requires : goal.told_event-requires
told_event-requires c = number_some (entry_at c.args.endings.now.entries c.args.path.now.items) c.args.number c.requires

pub keep_line-requires : goal.keep_line-requires
keep_line-requires c = let o = entry_at c.args.endings.now.entries c.args.path.now.items in some_told o c.args.number (of_told o c.args.number c.requires)

pub returns-in_ok-keep_line-in-Some : goal.returns-in_ok-keep_line-in-Some
returns-in_ok-keep_line-in-Some c =
    let p = c.args.path.now.items in
    let old = c.args.endings.now.entries in
    let line = string_bytes c.in-Some.line in
    let goes = subst (λ o. IfSome o (λ l. GoesWithLine p c.args.number (string_bytes l) c.args.tree.now c.told_event.new.tree)) c.in-Some.is c.in_ok-line.ensures.some in
    let kept = subst (λ l. Becomes p (HasLine l) old c.keep_line.new.endings.entries) c.deref.ensures c.in_ok-keep_line-in-Some.ensures in
    with_line c.args.tree.now c.told_event.new.tree p c.args.number line old c.keep_line.new.endings.entries c.requires goes kept
