-- The names of the kinds of fault, and a fault as text.
-- Our choice: the texts.
use Rattle.std.specs.Prelude.{ℕ, List, ◌++◌, codes, decimal}
use Rattle.parcel_model.specs.declared.error.ParcelError.{ParcelError}
use Rattle.parcel_model.specs.declared.error.ParcelErrorKind.{ParcelErrorKind}
use Rattle.parcel_model.specs.declared.error.ParcelErrorKind.TheVariants.{Truncated, Magic, Status, Flags, Limit, Fuel, Page, Permission, Form, Resident, Zero, Trailing}

abbrev pub kind_name : ParcelErrorKind → List ℕ
kind_name Truncated = codes "truncated"
kind_name Magic = codes "magic"
kind_name Status = codes "status"
kind_name Flags = codes "flags"
kind_name Limit = codes "limit"
kind_name Fuel = codes "fuel"
kind_name Page = codes "page"
kind_name Permission = codes "permission"
kind_name Form = codes "form"
kind_name Resident = codes "resident"
kind_name Zero = codes "zero"
kind_name Trailing = codes "trailing"

-- the kind's name and the offset
abbrev pub error_text : ParcelError → List ℕ
error_text e = kind_name e.kind ++ codes " at " ++ decimal e.at
