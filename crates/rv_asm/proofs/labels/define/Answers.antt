use Rattle.std.proofs.Common.{sym, ◌∙◌}
use Rattle.std.proofs.lemmas.Map.Text.{btree_map_updates_str}
use Rattle.rv_asm.specs.View.{labels_in}
use Rattle.rv_asm.proofs.Names.{is-defined, is-kept, none-from}
use Rattle.rv_asm.proofs.labels.define.Goals as goal

pub returns-in_ok-insert : goal.returns-in_ok-insert
unfolding labels_in
returns-in_ok-insert c = λ q.
    is-defined (labels_in c.args.labels.now) c.args.name.now q c.args.definition (labels_in c.insert.new.self q) (none-from _ (sym c.contains_key.ensures ∙ c.if-not-contains_key.true)) (btree_map_updates_str c.args.name.now c.args.labels.now c.insert.new.self _ c.in_ok-insert.ensures.updates q)

pub returns-else-not-contains_key : goal.returns-else-not-contains_key
unfolding labels_in
returns-else-not-contains_key c = λ q. is-kept (labels_in c.args.labels.now) c.args.name.now q c.args.definition (sym c.contains_key.ensures ∙ c.if-not-contains_key.false)
