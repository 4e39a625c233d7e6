use Rattle.std.proofs.Common.{◌≡◌, ◌+◌, ◌*◌, ◌%◌, ◌∙◌, ap, arith}
use Rattle.bench_model.specs.Generated.{number, next, turns_from, start_from, turns, start}
use Rattle.rv_asm.proofs.Data.{data-begins, data-more, data-ends, number-begins, number-more}
use Rattle.rv_asm.proofs.generating.data_words.Goals as goal

pub loop-thread-init : goal.loop-thread-init
loop-thread-init c = record { words = data-begins c.args.seed (1 + c.args.seed % 16); number = number-begins c.args.seed }

pub loop-thread-preserved : goal.loop-thread-preserved
loop-thread-preserved c =
    let seed = c.args.seed in
    let done = c.loop-thread.thread in
    let first : c.next-number.result ≡ number seed (2 * done + 1) = c.next-number.ensures ∙ ap next c.loop-thread.invariant.number ∙ number-more seed (2 * done) (2 * done + 1) (omega arith) in
    let second : c.next-number-in-loop-thread.result ≡ number seed (2 * done + 2) = c.next-number-in-loop-thread.ensures ∙ ap next first ∙ number-more seed (2 * done + 1) (2 * done + 2) (omega arith) in
    let turn : c.turns_from.result ≡ turns seed done = c.turns_from.ensures ∙ ap turns_from first in
    let begin : c.start_from.result ≡ start seed done = c.start_from.ensures ∙ ap start_from second in
    let after : 2 * (done + 1) ≡ 2 * done + 2 = omega arith in
    record {
      words = rw (turn, begin, c.loop-thread.invariant.words) (data-more seed (1 + seed % 16) done (omega arith));
      number = rw after second;
    }

pub returns : goal.returns
returns c =
    let all : c.loop-thread.thread ≡ 1 + c.args.seed % 16 = omega arith in
    c.loop-thread.invariant.words ∙ rw all (data-ends c.args.seed)
