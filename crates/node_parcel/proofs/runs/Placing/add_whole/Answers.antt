use Rattle.std.proofs.Common.{None, ap, ◌∙◌}
use Rattle.memory_model.specs.Memory.{Memory, byte_at, with_permissions}
use Rattle.memory_model.specs.Ranges.{with_page}
use Rattle.memory_model.proofs.Runs.{byte_at-with_permissions}
use Rattle.space_mem.specs.Held.{Held}
use Rattle.node_parcel.specs.declared.runs.Run.{Run}
use Rattle.node_parcel.specs.AtOnce.{meant, with_run}
use Rattle.node_parcel.proofs.AtOnce.{on_ok, nothing_put, one_whole}
use Rattle.node_parcel.proofs.OneNumber.{put_whole}
use Rattle.node_parcel.proofs.runs.Placing.add_whole.Goals as goal

pub returns-clause-means : goal.returns-clause-means
returns-clause-means c =
    let known = c.args.known.now in
    on_ok c.set_perm.result
    (λ e.
    ap (λ (r : Run). with_run known c.set_perm.new.self.memory r.first r.permission r.number r.count) c.none-self.ensures
    ∙ nothing_put known c.set_perm.new.self.memory c.args.page 0 None
    ∙ ap (λ (h : Held). h.memory) e
    ∙ ap (λ (m : Memory). with_permissions m c.args.page 1 c.args.permission) c.in_ok-put_bytes.ensures
    ∙ ap (λ (m : Memory). with_permissions (with_page m c.args.page c.args.bytes.now) c.args.page 1 c.args.permission) c.in_ok-put_run.ensures.memory
    ∙ one_whole known (meant known c.args.self.now) c.args.page c.args.permission c.args.bytes.now)
    c.set_perm.ensures.ok

pub returns-clause-put : goal.returns-clause-put
returns-clause-put c =
    on_ok c.set_perm.result
    (λ e.
    put_whole c.args.known.now _ c.put_run.new.self.memory.memory c.args.page c.args.bytes.now
    (λ a.
    ap (λ (h : Held). byte_at h.memory a) e
    ∙ byte_at-with_permissions c.put_bytes.new.memory.memory c.args.page 1 c.args.permission a
    ∙ ap (λ (m : Memory). byte_at m a) c.in_ok-put_bytes.ensures)
    c.none-self.ensures
    (c.in_ok-put_run.ensures.held c.args.page c.requires.put)
    (c.in_ok-put_run.ensures.before c.args.page c.requires.put))
    c.set_perm.ensures.ok
