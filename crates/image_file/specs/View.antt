-- What a segment stands for.
-- Our choice: a restatement for proofs.
use Rattle.std.specs.Prelude.{ℕ, zero, suc, ◌++◌, List, map, replicate}
use Rattle.image_file.specs.declared.image.Segment.{Segment}
use Rattle.image_model.specs.Image as model

-- bytes, and so many zeros behind them
abbrev pub padded : List ℕ → ℕ → List ℕ
padded bytes zero = bytes
padded bytes (suc n) = bytes ++ replicate (suc n) 0

abbrev pub segment_view : Segment → model.Segment
segment_view s = record { address = s.addr; permission = s.perm; content = padded s.bytes.items s.zeros }

abbrev pub segment_views : List Segment → List model.Segment
segment_views ss = map segment_view ss
