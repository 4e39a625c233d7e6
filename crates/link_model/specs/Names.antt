-- The names of the kinds of fault, and a fault as text.
-- Our choice: the texts.
use Rattle.std.specs.Prelude.{ℕ, List, ◌++◌, codes, decimal}
use Rattle.link_model.specs.declared.error.FrameError.{FrameError}
use Rattle.link_model.specs.declared.error.FrameErrorKind.{FrameErrorKind}
use Rattle.link_model.specs.declared.error.FrameErrorKind.TheVariants.{Truncated, Magic, Ahead, Trailing}

abbrev pub kind_name : FrameErrorKind → List ℕ
kind_name Truncated = codes "truncated"
kind_name Magic = codes "magic"
kind_name Ahead = codes "ahead"
kind_name Trailing = codes "trailing"

-- the kind's name and the offset
abbrev pub error_text : FrameError → List ℕ
error_text e = kind_name e.kind ++ codes " at " ++ decimal e.at
