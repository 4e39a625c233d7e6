use Rattle.std.proofs.Common.{arith}
use Rattle.file_image.proofs.Parts.{short_file}
use Rattle.file_image.proofs.marking.taken_pages.Goals as goal

pub returns-then-version-base-clause-few : goal.returns-then-version-base-clause-few
returns-then-version-base-clause-few g c = let s = short_file (g.C.FileBytes.bytes c.args.child.now) c.args.slot c.requires.slot in omega (arith, s, c.whole_pages.ensures)

pub returns-in-None-clause-few : goal.returns-in-None-clause-few
returns-in-None-clause-few g c = let s = short_file (g.C.FileBytes.bytes c.args.child.now) c.args.slot c.requires.slot in omega (arith, s, c.whole_pages-in-None.ensures)
