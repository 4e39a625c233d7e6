use Rattle.node_parcel.proofs.Pages.{zero_page}
use Rattle.node_parcel.proofs.resident.is_zero_page.Goals as goal

pub returns : goal.returns
returns c = zero_page c.is_zero.result _ c.is_zero.ensures
