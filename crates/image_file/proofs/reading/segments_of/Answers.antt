use Rattle.std.proofs.Common.{◌≡◌, ◌++◌, ◌∷◌, [], length, arith, refl, rules}
use Rattle.std.proofs.lemmas.Result.{err_from_is_err_and}
use Rattle.std.proofs.lemmas.List.{map_push}
use Rattle.std.proofs.lemmas.Grind.{common_steps}
use Rattle.memory_model.specs.Sizes.{page_size}
use Rattle.image_file.specs.View.{segment_view, segment_views}
use Rattle.image_model.specs.Reading.{segments_at}
use Rattle.image_file.proofs.Loop.{goes_on, ends, is_done, is_trailing, AreSegments-push, page_after-push}
use Rattle.image_file.proofs.reading.segments_of.Goals as goal

pub returns-in_err-segment-clause-read : goal.returns-in_err-segment-clause-read
returns-in_err-segment-clause-read c =
    let p = err_from_is_err_and c.from_residual.result c.from_residual.ensures.1 in
    rw (p.1, p.2) (ends c.args.format c.in_err-segment.field-0.0 (segment_views c.loop.parts.items) c.args.count c.loop.counter c.loop.page c.loop.at c.loop.rest.now (segments_at c.args.format c.args.count 0 14 c.args.bytes.now) c.loop-test.true c.in_err-segment.ensures.read c.loop.invariant.read)

pub loop-preserved : goal.loop-preserved
loop-preserved c =
    let n = segment_view c.in_ok-segment.segment in
    let front = segment_views c.loop.parts.items in
    let pushed : segment_views c.push.new.self.items ≡ front ++ n ∷ [] = rw c.in_ok-push.ensures.items (map_push _ c.loop.parts.items c.in_ok-segment.segment) in
    let len : c.size-count.result ≡ length n.content = search rules in
    let from : c.from.result ≡ c.in_ok-segment.segment.addr = search rules in
    let size : c.from-in-loop.result ≡ page_size = search rules in
    let sound = c.in_ok-segment.ensures.sound in
    let range = sound.range in
    rw (pushed, from, len, size, page_after-push) record {
      read = goes_on c.args.format front c.args.count c.loop.counter c.loop.page c.loop.at c.loop.rest.now n c.in_ok-segment.after.now (segments_at c.args.format c.args.count 0 14 c.args.bytes.now) c.loop-test.true c.in_ok-segment.ensures.read c.loop.invariant.read;
      sound = AreSegments-push 0 front n c.loop.invariant.sound (rw (← c.loop.invariant.page) sound);
      page = refl;
      len = grind (arith, common_steps);
      near = omega (arith, range, c.loop.invariant.near);
    }

pub returns-then-not-is_empty-clause-read : goal.returns-then-not-is_empty-clause-read
returns-then-not-is_empty-clause-read c =
    rw c.bad.ensures (is_trailing c.args.format (segment_views c.loop.parts.items) c.args.count c.loop.counter c.loop.page c.loop.at c.loop.rest.now (segments_at c.args.format c.args.count 0 14 c.args.bytes.now) c.loop-test.false (grind (arith, common_steps)) c.loop.invariant.read)

pub returns-clause-read : goal.returns-clause-read
returns-clause-read c = is_done c.args.format (segment_views c.loop.parts.items) c.args.count c.loop.counter c.loop.page c.loop.at c.loop.rest.now (segments_at c.args.format c.args.count 0 14 c.args.bytes.now) c.loop-test.false (grind (arith, common_steps)) c.loop.invariant.read
