use Rattle.std.proofs.Common.{◌≡◌, Err, ap, arith}
use Rattle.det_host.specs.declared.sink.SinkError.TheVariants.{Failed}
use Rattle.space_step.proofs.Advancing.{blocked_ends}
use Rattle.space_step.proofs.WithOutput.{written_last}
use Rattle.space_step.proofs.ToSink.{partly_writing, stopped_writing, went_quietly, went_silently, went_writing}
use Rattle.space_step.proofs.streaming.go_on_to.Goals as goal

pub returns-in-Blocked-clause-ok : goal.returns-in-Blocked-clause-ok
returns-in-Blocked-clause-ok g c =
    let blocked = rw c.in-Blocked.is at c.proceed.ensures.goes in
    let same = rw c.in-Blocked.is at c.proceed.ensures.writes in
    record {
      goes = went_silently _ _ _ _ _ _ _ _ _ _ _ c.stretches.invariant.goes blocked.0 same;
      ended = blocked_ends _ _ _ _ _ _ blocked.1 blocked.2;
    }

pub write_named-requires : goal.write_named-requires
write_named-requires g c =
    let wrote = rw c.in-Went.is at c.proceed.ensures.writes in
    (written_last _ _ _ _ wrote (omega (arith, c.console_len-written.ensures, c.console_len.ensures, c.if-console_len-written.true))).0

pub returns-in-Err-clause-failed : goal.returns-in-Err-clause-failed
returns-in-Err-clause-failed g c = λ failed.
    let wrote = rw c.in-Went.is at c.proceed.ensures.writes in
    let same : c.in-Err.error ≡ Failed = cc in
    stopped_writing _ _ _ _ _ _ _ _ _ _ _ _ c.stretches.invariant.later c.stretches.invariant.goes wrote (omega (arith, c.console_len-written.ensures, c.console_len.ensures, c.if-console_len-written.true))
    (c.in-Err.ensures.failed (ap Err same))

pub returns-in-Err-clause-partly : goal.returns-in-Err-clause-partly
returns-in-Err-clause-partly g c =
    let went = rw c.in-Went.is at c.proceed.ensures.goes in
    let wrote = rw c.in-Went.is at c.proceed.ensures.writes in
    partly_writing _ _ _ _ _ _ _ _ _ _ _ _ _ c.stretches.invariant.goes went.0 wrote (omega (arith, c.console_len-written.ensures, c.console_len.ensures, c.if-console_len-written.true))
    c.in-Err.ensures.prefix

pub stretches-preserved-in_default : goal.stretches-preserved-in_default
stretches-preserved-in_default g c =
    let went = rw c.in-Went.is at c.proceed.ensures.goes in
    let wrote = rw c.in-Went.is at c.proceed.ensures.writes in
    record {
      goes = went_writing _ _ _ _ _ _ _ _ _ _ _ _ c.stretches.invariant.goes went.0 wrote (omega (arith, c.console_len-written.ensures, c.console_len.ensures, c.if-console_len-written.true)) c.in_default.ensures.ok;
      within = omega (arith, went.1);
      agrees = c.proceed.ensures.agrees;
      later = omega (arith, c.stretches.invariant.later, c.in_default.ensures.later);
    }

pub stretches-preserved : goal.stretches-preserved
stretches-preserved g c =
    let went = rw c.in-Went.is at c.proceed.ensures.goes in
    record {
      goes = went_quietly _ _ _ _ _ _ _ _ _ _ _ c.stretches.invariant.goes went.0 (omega (arith, c.console_len-written.ensures, c.console_len.ensures, c.if-console_len-written.false));
      within = omega (arith, went.1);
      agrees = c.proceed.ensures.agrees;
      later = c.stretches.invariant.later;
    }
