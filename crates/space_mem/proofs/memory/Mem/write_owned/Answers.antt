use Rattle.std.proofs.Common.{◌≡◌, ◌∙◌, ◌+◌, ◌-◌, ◌/◌, take, drop, refl, ap, arith}
use Rattle.memory_model.specs.Sparse.{value_at}
use Rattle.space_mem.specs.Held.{Held}
use Rattle.space_mem.proofs.Dirty.{marks_refl, marks_then}
use Rattle.space_mem.proofs.PageEdits.{written_turn}
use Rattle.space_mem.proofs.memory.Mem.write_owned.Goals as goal

pub loop-done-init : goal.loop-done-init
loop-done-init c = record { in_range = omega arith; held = refl; marks = marks_refl c.args.self.now }

pub write_in_page-requires-clause-owned : goal.write_in_page-requires-clause-owned
write_in_page-requires-clause-owned c = ap (λ h. value_at h.owned ((c.args.at + c.loop-done.done) / 4096)) c.loop-done.invariant.held ∙ c.requires.owned ((c.args.at + c.loop-done.done) / 4096) (omega arith) (omega arith)

pub loop-done-preserved : goal.loop-done-preserved
loop-done-preserved c =
    let inv = c.loop-done.invariant in
    let done = c.loop-done.done in
    let count = c.min-count.result in
    let bytes = c.args.bytes.now in
    let start : Held = c.args.self.now in
    let e : done + count - done ≡ count = omega arith in
    let new = c.write_in_page.ensures.held in
    let turn = written_turn start.memory c.loop-done.self.memory c.write_in_page.new.self.memory c.args.at (c.args.at + done) done count bytes _ (ap (λ h. h.memory) inv.held) inv.in_range refl (ap (λ n. take n (drop done bytes)) e) (ap (λ h. h.memory) new) in
    record {
      in_range = omega (arith, inv.in_range, c.min-count.ensures);
      held = λ i. record { memory = turn i; owned = (ap (λ h. h.owned) new ∙ ap (λ h. h.owned) inv.held) i; dirty = (ap (λ h. h.dirty) new ∙ ap (λ h. h.dirty) inv.held) i };
      marks = marks_then start c.loop-done.self c.write_in_page.new.self inv.marks c.write_in_page.ensures.marks;
    }
