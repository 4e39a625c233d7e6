use Rattle.std.proofs.Common.{refl, arith, ◌∙◌}
use Rattle.space_mem.proofs.Dirty.{marks_refl, marks_then}
use Rattle.space_mem.proofs.Kept.{keeps_refl, keeps_then}
use Rattle.memory_files.proofs.Owned.{bit_here, none_owned, rest_next, slots_next}
use Rattle.memory_files.proofs.owning.own_slots.Goals as goal

pub loop-slot-init : goal.loop-slot-init
loop-slot-init c = record {
  same = refl;
  owned = none_owned c.args.memory.now c.args.count;
  long = refl;
  rest = omega arith;
  slots = λ k below bit. absurd (omega arith);
  beside = λ page out. keeps_refl c.args.memory.now page;
  marks = marks_refl c.args.memory.now;
}

pub loop-slot-preserved : goal.loop-slot-preserved
loop-slot-preserved c = record {
  same = c.in_ok-own_if.ensures.same ∙ c.loop-slot.invariant.same;
  owned = c.in_ok-own_if.ensures.owned c.loop-slot.invariant.owned;
  long = omega arith;
  rest = rest_next c.args.bits c.loop-slot.slot c.loop-slot.rest c.loop-slot.invariant.rest;
  slots = slots_next c.args.bits c.loop-slot.slots c.own_if.new.slots c.loop-slot.slot c.loop-slot.rest (omega arith) c.loop-slot.invariant.rest c.in_ok-own_if.ensures.slots c.loop-slot.invariant.slots;
  beside = λ page out. keeps_then c.args.memory.now c.loop-slot.memory c.own_if.new.memory page (c.loop-slot.invariant.beside page out)
      (c.in_ok-own_if.ensures.beside page (λ wanted. out c.loop-slot.slot (omega arith) (bit_here c.args.bits c.loop-slot.slot c.loop-slot.rest c.loop-slot.invariant.rest wanted)));
  marks = marks_then c.args.memory.now c.loop-slot.memory c.own_if.new.memory c.loop-slot.invariant.marks c.in_ok-own_if.ensures.marks;
}

pub returns-in_err-own_if-clause-beside : goal.returns-in_err-own_if-clause-beside
returns-in_err-own_if-clause-beside c page out = keeps_then c.args.memory.now c.loop-slot.memory c.own_if.new.memory page (c.loop-slot.invariant.beside page out)
    (c.in_err-own_if.ensures.beside page (λ wanted. out c.loop-slot.slot (omega arith) (bit_here c.args.bits c.loop-slot.slot c.loop-slot.rest c.loop-slot.invariant.rest wanted)))
