use Rattle.std.proofs.Common.{◌≡◌, ◌-◌, arith, length, take, drop, List, ℕ, subst}
use Rattle.std.proofs.lemmas.Grind.{common_steps}
use Rattle.std.proofs.lemmas.List.{take_all, length-drop}
use Rattle.det_host.specs.Outside.{Takes}
use Rattle.det_host.proofs.Written.{took_more}
use Rattle.det_host.proofs.writing.write_all.Goals as goal

pub pieces-preserved : goal.pieces-preserved
pieces-preserved g c =
    let bytes : List ℕ = c.args.bytes.now in
    let whole : take (length bytes - c.pieces.done) (drop c.pieces.done bytes) ≡ drop c.pieces.done bytes = take_all _ _ (omega (arith, length-drop c.pieces.done bytes)) in
    record {
      within = grind (arith, common_steps);
      taken = took_more _ _ _ _ _ _ c.pieces.invariant.taken (subst (λ (t : List ℕ). Takes (g.S.Sink.taken c.pieces.sink) (g.S.Sink.taken c.write.new.self) (take c.in-Ok.count t)) whole c.in-Ok.ensures.ok);
      later = grind (arith, c.pieces.invariant.later, c.in-Ok.ensures.later);
    }
