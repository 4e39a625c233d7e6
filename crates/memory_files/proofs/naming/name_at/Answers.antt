use Rattle.std.proofs.Common.{◌≡◌, ◌∙◌, length, take, sym, arith, length-take}
use Rattle.std.proofs.lemmas.List.{get_or-take}
use Rattle.space_mem.proofs.Strings.{bytes_from_is}
use Rattle.memory_files.proofs.naming.name_at.Goals as goal

pub returns : goal.returns
returns c =
    let l = c.loop-i in
    let long : length (take c.args.count l.name) ≡ c.args.count = omega (arith, length-take c.args.count l.name, l.invariant.long, c.requires.short) in
    bytes_from_is c.args.memory.now.memory c.args.at c.args.count (take c.args.count l.name) long (λ k below. sym (get_or-take c.args.count l.name k 0 below ∙ l.invariant.byte k (omega arith)))
