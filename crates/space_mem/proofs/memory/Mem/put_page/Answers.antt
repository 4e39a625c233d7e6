use Rattle.std.proofs.Common.{◌≡◌, ◌∙◌, ◌*◌, ◌/◌, ap, arith, subst}
use Rattle.memory_model.proofs.Rows.{value_at-put_same}
use Rattle.memory_model.specs.Sparse.{value_at}
use Rattle.space_mem.specs.Held.{Held, Owns, owning}
use Rattle.memory_model.specs.Memory.{with_bytes}
use Rattle.page_store.specs.Bytes.{bytes_of}
use Rattle.space_mem.proofs.PageEdits.{page_written}
use Rattle.space_mem.proofs.Dirty.{marks_then}
use Rattle.space_mem.proofs.memory.Mem.put_page.Goals as goal

pub write_in_page-requires-clause-owned : goal.write_in_page-requires-clause-owned
write_in_page-requires-clause-owned c =
    let same : c.args.n ≡ 4096 * c.args.n / 4096 = omega arith in
    subst (Owns c.own_page.new.self) same (ap (λ h. value_at h.owned c.args.n) c.in_ok-own_page.ensures.ok ∙ value_at-put_same c.args.self.now.owned c.args.n 1)

pub returns-clause-ok : goal.returns-clause-ok
returns-clause-ok c =
    let write : Held → Held = λ h. record h { memory = with_bytes h.memory (4096 * c.args.n) c.bytes.result.now } in
    c.write_in_page.ensures.held ∙ ap write c.in_ok-own_page.ensures.ok
    ∙ ap (owning c.args.self.now c.args.n) (ap (with_bytes c.args.self.now.memory (4096 * c.args.n)) c.bytes.ensures.bytes ∙ page_written c.args.self.now.memory c.args.n (bytes_of c.args.page) c.bytes.ensures.whole.sized)

pub returns-clause-marks : goal.returns-clause-marks
returns-clause-marks c = marks_then c.args.self.now c.own_page.new.self c.write_in_page.new.self c.in_ok-own_page.ensures.marks c.write_in_page.ensures.marks
