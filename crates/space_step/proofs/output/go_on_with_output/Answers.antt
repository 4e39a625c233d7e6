use Rattle.std.proofs.Common.{arith}
use Rattle.std.proofs.lemmas.Grind.{common_steps}
use Rattle.space_step.proofs.WithOutput.{all_went, blocked_ends, blocked_goes, went_quietly, went_writing, written_last}
use Rattle.space_step.proofs.output.go_on_with_output.Goals as goal
use Rattle.space_step.proofs.output.go_on_with_output.Goals.{then-stretches-test+else-len-enough, else-stretches-test}

pub returns-in-Blocked-clause-advances : goal.returns-in-Blocked-clause-advances
returns-in-Blocked-clause-advances g c =
    let blocked = rw c.in-Blocked.is at c.proceed.ensures.goes in
    let same = rw c.in-Blocked.is at c.proceed.ensures.writes in
    record {
      goes = blocked_goes _ _ _ _ _ _ _ _ _ c.stretches.invariant.goes (grind (arith, common_steps, c.len.ensures, c.if-len-enough.true)) blocked.0 same;
      ended = blocked_ends _ _ _ _ _ _ _ _ blocked.1 blocked.2;
    }

pub append_named-requires : goal.append_named-requires
append_named-requires g c =
    let wrote = rw c.in-Went.is at c.proceed.ensures.writes in
    (written_last _ _ _ _ wrote (omega (arith, c.console_len-written.ensures, c.console_len.ensures, c.if-console_len-written.true))).0

pub stretches-preserved-in-Continue-1 : goal.stretches-preserved-in-Continue-1
stretches-preserved-in-Continue-1 g c =
    let went = rw c.in-Went.is at c.proceed.ensures.goes in
    let wrote = rw c.in-Went.is at c.proceed.ensures.writes in
    record {
      goes = went_writing _ _ _ _ _ _ _ _ _ _ c.stretches.invariant.goes (grind (arith, common_steps, c.len.ensures, c.if-len-enough.true)) went.0 wrote
          (omega (arith, c.console_len-written.ensures, c.console_len.ensures, c.if-console_len-written.true)) c.in_ok-append_named.ensures;
      within = omega (arith, went.1);
      agrees = c.proceed.ensures.agrees;
    }

pub stretches-preserved : goal.stretches-preserved
stretches-preserved g c =
    let went = rw c.in-Went.is at c.proceed.ensures.goes in
    let wrote = rw c.in-Went.is at c.proceed.ensures.writes in
    record {
      goes = went_quietly _ _ _ _ _ _ _ _ _ c.stretches.invariant.goes (grind (arith, common_steps, c.len.ensures, c.if-len-enough.true)) went.0 wrote
          (omega (arith, c.console_len-written.ensures, c.console_len.ensures, c.if-console_len-written.false));
      within = omega (arith, went.1);
      agrees = c.proceed.ensures.agrees;
    }

pub returns-clause-advances : goal.returns-clause-advances
returns-clause-advances g c = record {
  goes = c.stretches.invariant.goes;
  ended = elim c.stretches-test.branch [
    | then-stretches-test+else-len-enough w ↦
        all_went _ _ _ _ _ _ _ _ c.stretches.invariant.goes c.requires.few c.requires.quantum c.stretches.invariant.within (λ h. grind (arith, common_steps, w.len.ensures, w.if-len-enough.false))
    | else-stretches-test w ↦
        all_went _ _ _ _ _ _ _ _ c.stretches.invariant.goes c.requires.few c.requires.quantum c.stretches.invariant.within (λ h. absurd (omega (arith, h, w.stretches-test.false)))
  ];
}
