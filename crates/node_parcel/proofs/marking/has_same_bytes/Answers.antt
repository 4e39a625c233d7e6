use Rattle.std.proofs.Common.{refl}
use Rattle.node_parcel.proofs.Marks.{same_bytes, first_kept, second_kept, none_kept}
use Rattle.node_parcel.proofs.marking.has_same_bytes.Goals as goal

pub returns-in-Some-page : goal.returns-in-Some-page
returns-in-Some-page c = same_bytes c.args.memory.now.memory c.args.snapshot.now.memory c.args.page _ _ c.has_bytes_of.result c.in-Some.ensures.some c.in-Some-page.ensures.some c.has_bytes_of.ensures

pub returns-in-None-page : goal.returns-in-None-page
returns-in-None-page c = first_kept c.args.memory.now.memory c.args.snapshot.now.memory c.args.page _ c.is_zero.result c.in-Some.ensures.some (c.in-None-page.ensures.none refl) c.is_zero.ensures

pub returns-in-Some-page-2 : goal.returns-in-Some-page-2
returns-in-Some-page-2 c = second_kept c.args.memory.now.memory c.args.snapshot.now.memory c.args.page _ c.is_zero-in-Some-page-2.result (c.in-None.ensures.none refl) c.in-Some-page-2.ensures.some c.is_zero-in-Some-page-2.ensures

pub returns-in-None-page-2 : goal.returns-in-None-page-2
returns-in-None-page-2 c = (λ t. none_kept c.args.memory.now.memory c.args.snapshot.now.memory c.args.page (c.in-None.ensures.none refl) (c.in-None-page-2.ensures.none refl), λ same. refl)
