use Rattle.std.proofs.Common.{ap, sym, subst, ◌∙◌, length, arith}
use Rattle.memory_model.specs.Memory.{with_bytes}
use Rattle.image_file.proofs.Padding.{length-padded}
use Rattle.det_core.specs.Empty.{IsEmptyFrom}
use Rattle.det_core.proofs.Zeros.{empty_before, padding_is_there}
use Rattle.det_core.proofs.booting.write_bytes_of.Goals as goal

pub write_content-requires-clause-within : goal.write_content-requires-clause-within
write_content-requires-clause-within c =
    let s = c.args.segment.now in
    omega (arith, c.requires.within, length-padded s.bytes.items s.zeros, ap length c.deref.ensures.value)

pub write_content-requires-clause-empty : goal.write_content-requires-clause-empty
write_content-requires-clause-empty c =
    let s = c.args.segment.now in
    let m = c.args.memory.now.memory in
    subst (λ bytes. IsEmptyFrom m s.addr (length bytes)) (sym c.deref.ensures.value) (empty_before m s.addr s.bytes.items s.zeros c.requires.empty)

pub returns : goal.returns
returns c =
    let s = c.args.segment.now in
    let m = c.args.memory.now.memory in
    c.in_ok-write_content.ensures ∙ ap (with_bytes m s.addr) c.deref.ensures.value ∙ padding_is_there m s.addr s.bytes.items s.zeros c.requires.empty
