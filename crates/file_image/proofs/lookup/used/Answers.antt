use Rattle.std.proofs.Common.{◌+◌, ◌-◌, ◌*◌, cond, ap, sym, ◌∙◌, arith}
use Rattle.file_model.specs.Slots.{is_in_use, slot_start}
use Rattle.file_image.proofs.UsedBits.{no_bits, used_next, used_fit}
use Rattle.file_image.proofs.lookup.used.Goals as goal

pub loop-slot-init : goal.loop-slot-init
loop-slot-init g c = record { within = omega arith; bits = no_bits (g.B.FileBytes.bytes c.args.bytes.now) 64 }

pub with_bit-bits-requires : goal.with_bit-bits-requires
with_bit-bits-requires g c =
    let f = used_fit (g.B.FileBytes.bytes c.args.bytes.now) c.loop-slot.slot (64 - c.loop-slot.slot) (omega arith) in
    omega (arith, f, c.loop-slot.invariant.bits)

pub loop-slot-preserved : goal.loop-slot-preserved
loop-slot-preserved g c =
    let b = g.B.FileBytes.bytes c.args.bytes.now in
    record {
      within = omega arith;
      bits = c.with_bit-bits.ensures ∙ ap (λ t. cond t 1 0 + 2 * c.loop-slot.bits) c.is_in_use.ensures
          ∙ ap (λ n. cond (is_in_use b (slot_start (c.loop-slot.slot - 1))) 1 0 + 2 * n) c.loop-slot.invariant.bits
          ∙ sym (used_next b (c.loop-slot.slot - 1) c.loop-slot.slot 64 (omega arith) (omega arith));
    }
