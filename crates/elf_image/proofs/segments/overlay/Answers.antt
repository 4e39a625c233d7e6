use Rattle.std.proofs.Common.{◌≡◌, ℕ, ◌-◌, take, drop, subst, rules}
use Rattle.elf_image.proofs.Bytes.{written}
use Rattle.elf_image.proofs.segments.overlay.Goals as goal

pub returns-then-from-to-clause-bytes : goal.returns-then-from-to-clause-bytes
returns-then-from-to-clause-bytes c = λ k lt.
    let load = c.args.load.now in
    let from = c.max-from.result in
    let to = c.min-to.result in
    let part = c.copy_from_slice.new.self in
    let same : c.from-address.result ≡ load.address = search rules in
    written c.args.content.now part load c.args.start from to k (search rules) (search rules) c.if-from-to.true
    (subst (λ (at : ℕ). part ≡ take (to - at - (from - at)) (drop (from - at) load.content.now)) same c.copy_from_slice.ensures.after) lt
