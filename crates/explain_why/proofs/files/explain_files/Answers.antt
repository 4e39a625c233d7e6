use Rattle.std.proofs.Common.{◌≡◌, ◌∙◌, refl, sym, subst, arith, rules}
use Rattle.memory_model.specs.Memory.{Memory}
use Rattle.space_model.specs.Sound.{IsSound}
use Rattle.explain_why.specs.Parts.{HasParts, numbers_below}
use Rattle.explain_why.specs.Runs.{TellRuns}
use Rattle.explain_why.specs.Why.{ExplainsSlot}
use Rattle.explain_why.proofs.Parts.{next_number, no_numbers}
use Rattle.explain_why.proofs.files.explain_files.Goals as goal

pub loop-slot-init : goal.loop-slot-init
loop-slot-init c =
    let m : Memory = c.args.memory.now.memory in
    record { same = refl; told = no_numbers (ExplainsSlot c.args.root.now c.args.path.now.items m) c.new-text.result.items (search rules); runs = λ root tell. tell }

pub explain_slot-requires-clause-sound : goal.explain_slot-requires-clause-sound
explain_slot-requires-clause-sound c = subst IsSound (sym c.loop-slot.invariant.same) c.requires.sound

pub explain_slot-requires-clause-runs : goal.explain_slot-requires-clause-runs
explain_slot-requires-clause-runs c = subst (λ s. TellRuns s c.loop-slot.runs) (sym c.loop-slot.invariant.same) (c.loop-slot.invariant.runs c.args.root.now c.requires.runs)

pub loop-slot-preserved : goal.loop-slot-preserved
loop-slot-preserved c =
    let m : Memory = c.args.memory.now.memory in
    record {
      same = c.explain_slot.ensures.same ∙ c.loop-slot.invariant.same;
      told =
          next_number (ExplainsSlot c.args.root.now c.args.path.now.items m) c.loop-slot.slot c.loop-slot.text.items c.in_ok-part.part.items c.extend_from_slice.new.self.items c.loop-slot.invariant.told
          (subst (λ s. ExplainsSlot s c.args.path.now.items m c.loop-slot.slot c.in_ok-part.part.items) c.loop-slot.invariant.same c.in_ok-part.ensures.told) (search rules);
      runs = λ root tell. c.in_ok-part.ensures.runs root (c.loop-slot.invariant.runs root tell);
    }

pub returns-clause-told : goal.returns-clause-told
returns-clause-told c =
    let m : Memory = c.args.memory.now.memory in
    let past = c.loop-slot-test.false in
    let all : c.loop-slot.slot ≡ 64 = omega arith in
    subst (λ k. HasParts (ExplainsSlot c.args.root.now c.args.path.now.items m) (numbers_below k) c.loop-slot.text.items) all c.loop-slot.invariant.told
