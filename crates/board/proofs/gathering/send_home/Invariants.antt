use Rattle.std.proofs.Common.{◌≡◌, length}
use Rattle.board.proofs.Sent.{AreAwaySoFar}
use Rattle.board.proofs.gathering.send_home.Given as goal

abbrev pub invariant-loop-index : goal.invariant-loop-index
invariant-loop-index l = (l.tree ≡ l.fn.tree) × (length l.pages.lists ≡ length l.fn.pages.lists) × AreAwaySoFar l.places l.path.items l.all l.index l.away
