use Rattle.std.proofs.Common.{sym, ◌∙◌, arith}
use Rattle.file_image.proofs.Bases.{bases_pass, bases_mark, bases_end, still_used, has_file}
use Rattle.file_image.proofs.basing.mark_base.Goals as goal

pub returns-clause-bytes : goal.returns-clause-bytes
returns-clause-bytes g c =
    sym (bases_end (g.B.FileBytes.bytes c.loop-slot.bytes) c.loop-slot.slot 64 (omega arith)) ∙ c.loop-slot.invariant.bytes

pub write_base-requires : goal.write_base-requires
write_base-requires g c =
    let h = has_file (g.B.FileBytes.bytes c.loop-slot.bytes) c.loop-slot.slot (omega arith) (sym c.if-is_free.ensures) in
    record { slot = h; ready = c.loop-slot.invariant.ready c.loop-slot.slot (omega arith) h }

pub loop-slot-preserved-then-is_free : goal.loop-slot-preserved-then-is_free
loop-slot-preserved-then-is_free g c = record {
  bytes = sym (bases_pass (g.B.FileBytes.bytes c.loop-slot.bytes) c.loop-slot.slot 64 (omega arith) (sym c.if-is_free.ensures)) ∙ c.loop-slot.invariant.bytes;
  ready = λ k l f. c.loop-slot.invariant.ready k (omega arith) f;
  kept = c.loop-slot.invariant.kept;
}

pub loop-slot-preserved : goal.loop-slot-preserved
loop-slot-preserved g c =
    let b = g.B.FileBytes.bytes c.loop-slot.bytes in
    let d = g.B.FileBytes.bytes c.write_base.new.bytes in
    let small = g.met.B.FileBytes.small c.loop-slot.bytes in
    let h = has_file b c.loop-slot.slot (omega arith) (sym c.if-is_free.ensures) in
    record {
      bytes = sym (bases_mark b d c.loop-slot.slot 64 small (omega arith) h c.write_base.ensures.bytes) ∙ c.loop-slot.invariant.bytes;
      ready = λ k l f. g.met.B.FileBytes.header_on c.loop-slot.bytes c.write_base.new.bytes k c.write_base.ensures.kept
          (c.loop-slot.invariant.ready k (omega arith) (still_used b d c.loop-slot.slot k small h c.write_base.ensures.bytes (omega arith) f));
      kept = g.met.B.FileBytes.keeps_on c.args.bytes.now c.loop-slot.bytes c.write_base.new.bytes c.loop-slot.invariant.kept c.write_base.ensures.kept;
    }
