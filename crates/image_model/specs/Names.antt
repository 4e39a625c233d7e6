-- The names of the kinds of fault, and a fault as text.
-- Our choice: the texts.
use Rattle.std.specs.Prelude.{ℕ, List, ◌++◌, codes, decimal}
use Rattle.image_model.specs.declared.error.ImageError.{ImageError}
use Rattle.image_model.specs.declared.error.ImageErrorKind.{ImageErrorKind}
use Rattle.image_model.specs.declared.error.ImageErrorKind.TheVariants.{Truncated, Magic, Count, Order, Permission, Length, Range, Trailing}

abbrev pub kind_name : ImageErrorKind → List ℕ
kind_name Truncated = codes "truncated"
kind_name Magic = codes "magic"
kind_name Count = codes "count"
kind_name Order = codes "order"
kind_name Permission = codes "permission"
kind_name Length = codes "length"
kind_name Range = codes "range"
kind_name Trailing = codes "trailing"

-- the kind's name and the offset
abbrev pub error_text : ImageError → List ℕ
error_text e = kind_name e.kind ++ codes " at " ++ decimal e.at
