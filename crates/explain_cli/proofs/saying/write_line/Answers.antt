use Rattle.std.proofs.Common.{◌≡◌, ◌∙◌, OnOk, IsErrOf, List, ℕ, ap, sym, subst}
use Rattle.det_host.specs.Outside.{Takes}
use Rattle.det_host.specs.Writing.{TakesPrefix, StopsWithin, output_of}
use Rattle.det_host.specs.declared.sink.SinkError.TheVariants as sink
use Rattle.explain_cli.specs.declared.end.End.{End}
use Rattle.explain_cli.specs.declared.end.End.TheVariants.{NoEvent, NoSpace, Usage}
use Rattle.explain_cli.specs.Ends.{line_text}
use Rattle.explain_cli.proofs.saying.write_line.Goals as goal

-- what holds of the bytes that were written holds of the line
said : (P : List ℕ → Type 0) (end e : End) (bytes : List ℕ) → end ≡ e → bytes ≡ line_text e → P bytes → P (line_text end)
said P end e bytes is same h = subst P (same ∙ ap line_text (sym is)) h

pub returns-in-NoEvent-clause-prefix : goal.returns-in-NoEvent-clause-prefix
returns-in-NoEvent-clause-prefix g c =
    said (λ t. TakesPrefix (g.E.Sink.taken c.args.err.now) (g.E.Sink.taken c.write_all-in-NoEvent.new.sink) t) _ NoEvent _ c.in-NoEvent.is c.as_bytes-in-NoEvent.ensures.value c.write_all-in-NoEvent.ensures.prefix

pub returns-in-NoEvent-clause-failed : goal.returns-in-NoEvent-clause-failed
returns-in-NoEvent-clause-failed g c =
    said (λ t. IsErrOf c.write_all-in-NoEvent.result sink.Failed → StopsWithin (output_of g.E.Sink.taken g.E.Sink.faults c.args.err.now c.write_all-in-NoEvent.new.sink) t) _ NoEvent _ c.in-NoEvent.is c.as_bytes-in-NoEvent.ensures.value c.write_all-in-NoEvent.ensures.failed

pub returns-in-NoSpace-clause-ok : goal.returns-in-NoSpace-clause-ok
returns-in-NoSpace-clause-ok g c =
    said (λ t. OnOk c.write_all-in-NoSpace.result (Takes (g.E.Sink.taken c.args.err.now) (g.E.Sink.taken c.write_all-in-NoSpace.new.sink) t)) _ NoSpace _ c.in-NoSpace.is c.as_bytes-in-NoSpace.ensures.value c.write_all-in-NoSpace.ensures.ok

pub returns-in-NoSpace-clause-prefix : goal.returns-in-NoSpace-clause-prefix
returns-in-NoSpace-clause-prefix g c =
    said (λ t. TakesPrefix (g.E.Sink.taken c.args.err.now) (g.E.Sink.taken c.write_all-in-NoSpace.new.sink) t) _ NoSpace _ c.in-NoSpace.is c.as_bytes-in-NoSpace.ensures.value c.write_all-in-NoSpace.ensures.prefix

pub returns-in-NoSpace-clause-failed : goal.returns-in-NoSpace-clause-failed
returns-in-NoSpace-clause-failed g c =
    said (λ t. IsErrOf c.write_all-in-NoSpace.result sink.Failed → StopsWithin (output_of g.E.Sink.taken g.E.Sink.faults c.args.err.now c.write_all-in-NoSpace.new.sink) t) _ NoSpace _ c.in-NoSpace.is c.as_bytes-in-NoSpace.ensures.value c.write_all-in-NoSpace.ensures.failed

pub returns-in-Usage-clause-ok : goal.returns-in-Usage-clause-ok
returns-in-Usage-clause-ok g c =
    said (λ t. OnOk c.write_all-in-Usage.result (Takes (g.E.Sink.taken c.args.err.now) (g.E.Sink.taken c.write_all-in-Usage.new.sink) t)) _ Usage _ c.in-Usage.is c.as_bytes-in-Usage.ensures.value c.write_all-in-Usage.ensures.ok

pub returns-in-Usage-clause-prefix : goal.returns-in-Usage-clause-prefix
returns-in-Usage-clause-prefix g c =
    said (λ t. TakesPrefix (g.E.Sink.taken c.args.err.now) (g.E.Sink.taken c.write_all-in-Usage.new.sink) t) _ Usage _ c.in-Usage.is c.as_bytes-in-Usage.ensures.value c.write_all-in-Usage.ensures.prefix

pub returns-in-Usage-clause-failed : goal.returns-in-Usage-clause-failed
returns-in-Usage-clause-failed g c =
    said (λ t. IsErrOf c.write_all-in-Usage.result sink.Failed → StopsWithin (output_of g.E.Sink.taken g.E.Sink.faults c.args.err.now c.write_all-in-Usage.new.sink) t) _ Usage _ c.in-Usage.is c.as_bytes-in-Usage.ensures.value c.write_all-in-Usage.ensures.failed
