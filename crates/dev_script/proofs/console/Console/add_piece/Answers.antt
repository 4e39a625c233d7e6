use Rattle.std.proofs.Common.{◌≡◌, ◌+◌, ◌≤◌, ◌∷◌, ◌++◌, length, take, drop, ap, sym, ◌∙◌, arith}
use Rattle.std.specs.Arc.{arc_value}
use Rattle.dev_script.specs.Pieces.{bytes_in}
use Rattle.dev_script.proofs.Runs.{piece_added}
use Rattle.dev_script.proofs.console.Console.add_piece.Goals as goal

pub invariant_of-self-2 : goal.invariant_of-self-2
invariant_of-self-2 c =
    let ps = c.self.inside.pieces.items in
    let tail = c.self.inside.tail.items in
    let from = c.first_of_next-from.result in
    let x = c.in_ok-piece.piece in
    let qs = c.truncate.new.self.items in
    let low : from ≤ length ps = omega (arith, ap length c.deref.ensures.value, c.first_of_next-from.ensures) in
    let holds : (arc_value x).items ≡ bytes_in (drop from ps) ++ tail =
    ap (λ v. v.items) c.in_ok-piece.ensures.ok ∙ c.in_ok-bytes.ensures ∙ ap (λ l. bytes_in (drop from l) ++ c.deref-3.result.now) c.deref-2.ensures.value ∙ ap (λ l. bytes_in (drop from ps) ++ l) c.deref-3.ensures.value in
    let is : qs ≡ take (from + 1) (take from ps ++ x ∷ drop from ps) = c.truncate.ensures.items ∙ ap (take (from + 1)) c.in_ok-insert.ensures.items in
    let same = ap (λ l. bytes_in qs ++ l) c.clear.ensures.items ∙ piece_added ps qs x from tail low holds is in
    c.self.invariant ∙ ap length (sym same)

pub returns : goal.returns
returns c =
    let ps = c.self.inside.pieces.items in
    let tail = c.self.inside.tail.items in
    let from = c.first_of_next-from.result in
    let x = c.in_ok-piece.piece in
    let qs = c.truncate.new.self.items in
    let low : from ≤ length ps = omega (arith, ap length c.deref.ensures.value, c.first_of_next-from.ensures) in
    let holds : (arc_value x).items ≡ bytes_in (drop from ps) ++ tail =
    ap (λ v. v.items) c.in_ok-piece.ensures.ok ∙ c.in_ok-bytes.ensures ∙ ap (λ l. bytes_in (drop from l) ++ c.deref-3.result.now) c.deref-2.ensures.value ∙ ap (λ l. bytes_in (drop from ps) ++ l) c.deref-3.ensures.value in
    let is : qs ≡ take (from + 1) (take from ps ++ x ∷ drop from ps) = c.truncate.ensures.items ∙ ap (take (from + 1)) c.in_ok-insert.ensures.items in
    let same = ap (λ l. bytes_in qs ++ l) c.clear.ensures.items ∙ piece_added ps qs x from tail low holds is in
    same ∙ c.self.view_is
