use Rattle.std.proofs.Common.{◌++◌, sym, ap, ◌∙◌, subst}
use Rattle.space_model.specs.Space.{Top}
use Rattle.explain_why.specs.Runs.{TellRuns}
use Rattle.explain_why.proofs.Spaces.{top_told}
use Rattle.explain_why.proofs.telling.explain_top.Goals as goal

pub explain_files-requires-clause-runs : goal.explain_files-requires-clause-runs
explain_files-requires-clause-runs c = subst (λ s. TellRuns s c.explain_stop.new.runs) (sym c.explain_stop.ensures.same) (c.in_ok-text.ensures.runs c.args.root.now c.requires.runs)

pub returns-clause-runs : goal.returns-clause-runs
returns-clause-runs c = λ root tell. c.in_ok-files.ensures.runs root (c.in_ok-text.ensures.runs root tell)

pub returns-clause-told : goal.returns-clause-told
returns-clause-told c =
    top_told c.args.root.now c.explain_stop.new.root c.args.end.now c.args.path.now.items c.args.top.now c.top.inside.memory.memory c.in_ok-text.text.items c.in_ok-files.files.items c.extend_from_slice.new.self.items
    c.explain_stop.ensures.same (ap (λ (t : Top). t.memory) c.top.view_is) c.in_ok-text.ensures.told c.in_ok-files.ensures.told
    (c.in_ok-extend_from_slice.ensures.items ∙ ap (λ v. c.in_ok-text.text.items ++ v) c.deref.ensures.value)
