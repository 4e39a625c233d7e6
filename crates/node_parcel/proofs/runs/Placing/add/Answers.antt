use Rattle.std.proofs.Common.{refl, ap, ◌∙◌, arith}
use Rattle.memory_model.specs.Memory.{Memory}
use Rattle.parcel_model.specs.Parcel.{with_entry}
use Rattle.node_parcel.specs.AtOnce.{entry_by}
use Rattle.node_parcel.proofs.AtOnce.{goes_on, begins_with, there_more}
use Rattle.node_parcel.proofs.runs.Placing.add.Goals as goal

pub returns-then-goes_on-clause-means : goal.returns-then-goes_on-clause-means
returns-then-goes_on-clause-means c =
    let run = c.args.self.now.run in
    goes_on c.args.known.now c.args.self.now.memory.memory run.first run.count run.permission run.number c.args.page c.args.permission c.args.number (c.if-goes_on.ensures.page refl) (c.if-goes_on.ensures.permission refl) (c.if-goes_on.ensures.number refl)

pub returns-then-goes_on-clause-run : goal.returns-then-goes_on-clause-run
returns-then-goes_on-clause-run c =
    let run = c.args.self.now.run in
    record {
      within = omega (arith, c.if-goes_on.ensures.page refl, c.requires.page);
      permission = c.requires.run.permission;
      there = there_more c.args.known.now run.number c.args.number run.count (c.if-goes_on.ensures.number refl) c.requires.there;
    }

pub returns-clause-means : goal.returns-clause-means
returns-clause-means c =
    begins_with c.args.known.now c.put_run.new.self.memory.memory c.args.page c.args.permission c.args.number
    ∙ ap (λ (m : Memory). with_entry c.args.known.now m (entry_by c.args.page c.args.permission c.args.number)) c.in_ok-put_run.ensures.memory

pub returns-then-goes_on-clause-put : goal.returns-then-goes_on-clause-put
returns-then-goes_on-clause-put c = record {
  held = c.requires.put.held;
  before = c.requires.put.before;
  behind = omega (arith, c.if-goes_on.ensures.page refl);
}

pub returns-clause-put : goal.returns-clause-put
returns-clause-put c = record {
  held = c.in_ok-put_run.ensures.held c.args.page c.requires.put;
  before = c.in_ok-put_run.ensures.before c.args.page c.requires.put;
  behind = omega arith;
}
