use Rattle.std.proofs.Common.{◌∙◌, ◌/◌, ap}
use Rattle.std.proofs.lemmas.Bool.{false≢true}
use Rattle.memory_model.proofs.Rows.{value_at-put_same}
use Rattle.memory_model.specs.Sparse.{value_at}
use Rattle.memory_model.specs.Memory.{with_byte}
use Rattle.space_mem.specs.Held.{Held}
use Rattle.space_mem.proofs.Dirty.{marks_then}
use Rattle.space_mem.proofs.memory.Mem.write.Goals as goal

pub write_in_page-requires-clause-owned : goal.write_in_page-requires-clause-owned
write_in_page-requires-clause-owned c = ap (λ h. value_at h.owned (c.args.at / 4096)) c.in_ok-own_page.ensures.ok ∙ value_at-put_same c.args.self.now.owned (c.args.at / 4096) 1

pub returns-in_err-own_page-clause-in_place : goal.returns-in_err-own_page-clause-in_place
returns-in_err-own_page-clause-in_place c owns = absurd (false≢true (c.in_err-own_page.ensures.idle owns))

pub returns-clause-in_place : goal.returns-clause-in_place
returns-clause-in_place c owns =
    let write : Held → Held = λ h. record h { memory = with_byte h.memory c.args.at c.args.byte } in
    c.write_in_page.ensures.held ∙ ap write (c.in_ok-own_page.ensures.again owns)

pub returns-clause-marks : goal.returns-clause-marks
returns-clause-marks c = marks_then c.args.self.now c.own_page.new.self c.write_in_page.new.self c.in_ok-own_page.ensures.marks c.write_in_page.ensures.marks
