use Rattle.std.proofs.Common.{[], refl, arith}
use Rattle.space_mem.proofs.Strings.{page_string}
use Rattle.space_mem.proofs.memory.Mem.lent.Goals as goal

pub returns-in-Some : goal.returns-in-Some
returns-in-Some c = page_string c.args.self.now.memory c.args.at c.args.count _ _ [] _ c.in-Some.ensures.some (omega (arith, c.if-count-place.false)) c.bytes.ensures.bytes refl
