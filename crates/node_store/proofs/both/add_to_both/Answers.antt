use Rattle.node_store.proofs.Ends.{both_one, back, if_refused}
use Rattle.node_store.proofs.both.add_to_both.Goals as goal

pub returns-then-from-to-clause-ok : goal.returns-then-from-to-clause-ok
returns-then-from-to-clause-ok c = both_one c.args.lists.now c.args.from c.args.to c.args.pages.now c.add_all.new.self _ c.if-from-to.true c.requires.to c.in_ok-add_all.ensures.ok

pub returns-then-is_err-clause-err : goal.returns-then-is_err-clause-err
returns-then-is_err-clause-err c =
    if_refused c.add_all-added.result
    (λ unchanged. back c.args.lists.now c.args.from c.args.to c.len-count.result c.args.pages.now c.add_all.new.self c.add_all-added.new.self c.truncate.new.self _ _ _ _ c.requires.to c.requires.from c.len-count.ensures c.in_ok-add_all.ensures.ok unchanged c.truncate.ensures)
    c.add_all-added.ensures.err
