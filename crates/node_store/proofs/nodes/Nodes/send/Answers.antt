use Rattle.std.proofs.Common.{ℕ, ap}
use Rattle.std.proofs.lemmas.Result.{on_err_weaker, on_ok_weaker}
use Rattle.std.specs.Prelude.{Vec}
use Rattle.std.specs.declared.alloc.Global.{Global}
use Rattle.node_store.specs.Lists.{NodesView}
use Rattle.node_store.proofs.Ends.{arrives, as_many}
use Rattle.node_store.proofs.nodes.Nodes.send.Goals as goal

pub returns-clause-arrives : goal.returns-clause-arrives
returns-clause-arrives c = arrives (λ (v : Vec ℕ Global). v.items) c.args.self.now.lists c.pack_and_keep.new.self.lists c.args.from c.args.to c.args.top.now c.pack_and_keep.result c.requires.from c.requires.to (on_ok_weaker c.pack_and_keep.result (ap (λ (n : NodesView). n.lists)) c.pack_and_keep.ensures.ok) c.pack_and_keep.ensures.parcel

pub returns-clause-nodes : goal.returns-clause-nodes
returns-clause-nodes c = as_many c.args.self.now.lists c.pack_and_keep.new.self.lists c.args.from c.args.to c.args.top.now c.pack_and_keep.result (on_ok_weaker c.pack_and_keep.result (ap (λ (n : NodesView). n.lists)) c.pack_and_keep.ensures.ok) (on_err_weaker c.pack_and_keep.result (ap (λ (n : NodesView). n.lists)) c.pack_and_keep.ensures.err)
