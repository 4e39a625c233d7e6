use Rattle.std.proofs.Common.{arith, rules}
use Rattle.std.proofs.lemmas.Result.{err_from_is_err_and}
use Rattle.rv_asm.specs.View.{labels_in, draft_view}
use Rattle.source_model.specs.Reading as sources
use Rattle.source_model.specs.Bytes.{lines_of}
use Rattle.rv_asm.proofs.Lines.{goes-on, ends, is-done}
use Rattle.rv_asm.proofs.assembling.with_lines.Goals as goal

pub returns-in_err-draft : goal.returns-in_err-draft
returns-in_err-draft c =
    let p = err_from_is_err_and c.from_residual.result c.from_residual.ensures.1 in
    rw (p.1, p.2) (ends c.in_err-draft.field-0.0 (labels_in c.args.labels.now) c.loop-rest.number (draft_view c.loop-rest.draft) c.loop-rest.rest.now c.first_line.result.0.now c.first_line.result.1.now (sources.with_lines (labels_in c.args.labels.now) 1 sources.blank (lines_of c.args.source.now)) c.first_line.ensures.lines c.in_err-draft.ensures.value c.loop-rest.invariant.so_far)

pub loop-rest-preserved : goal.loop-rest-preserved
loop-rest-preserved c = record {
  so_far = goes-on (labels_in c.args.labels.now) c.loop-rest.number (draft_view c.loop-rest.draft) (draft_view c.in_ok-draft.draft) c.loop-rest.rest.now c.first_line.result.0.now c.first_line.result.1.now (sources.with_lines (labels_in c.args.labels.now) 1 sources.blank (lines_of c.args.source.now)) c.first_line.ensures.lines c.in_ok-draft.ensures.value c.loop-rest.invariant.so_far;
  near = c.in_ok-draft.ensures.near;
  room = c.in_ok-draft.ensures.room;
  few = omega (arith, c.first_line.ensures.shorter, c.loop-rest.invariant.few);
}

pub returns : goal.returns
returns c = is-done (labels_in c.args.labels.now) c.loop-rest.number (draft_view c.loop-rest.draft) c.loop-rest.rest.now (sources.with_lines (labels_in c.args.labels.now) 1 sources.blank (lines_of c.args.source.now)) (search rules) c.loop-rest.invariant.so_far
