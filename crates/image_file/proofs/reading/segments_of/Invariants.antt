use Rattle.std.proofs.Common.{◌≡◌, ◌-◌, ◌+◌, ◌*◌, ◌≤◌, vec_len}
use Rattle.image_file.specs.View.{segment_views}
use Rattle.image_model.specs.Image.{AreSegments}
use Rattle.image_model.specs.Reading.{segments_at}
use Rattle.image_file.proofs.Loop.{with_front, page_after}
use Rattle.image_file.proofs.reading.segments_of.Given as goal

abbrev pub invariant-loop : goal.invariant-loop
invariant-loop l = record {
  read : with_front (segment_views l.parts.items) (segments_at l.format (l.count - l.counter) l.page l.at l.rest) ≡ segments_at l.format l.count 0 14 l.bytes;
  sound : AreSegments 0 (segment_views l.parts.items);
  page : l.page ≡ page_after 0 (segment_views l.parts.items);
  len : vec_len l.parts ≡ l.counter;
  near : l.at ≤ 14 + 4294967305 * l.counter;
}
