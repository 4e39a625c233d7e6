use Rattle.std.proofs.Common.{◌≡◌, ◌++◌, ◌∷◌, [], arith, rules}
use Rattle.std.proofs.lemmas.List.{map_push}
use Rattle.elf_image.specs.View.{load_view, load_views}
use Rattle.elf_image.proofs.Taking.{sums_push}
use Rattle.elf_image.proofs.loads.Loads.push.Goals as goal

pub returns-clause-sums : goal.returns-clause-sums
returns-clause-sums c =
    let front = load_views c.args.self.now.parts.items in
    let pushed : load_views c.push.new.self.items ≡ front ++ load_view c.args.load ∷ [] = rw c.in_ok-push.ensures.items (map_push load_view c.args.self.now.parts.items c.args.load) in
    let sums = sums_push front (load_view c.args.load) (load_views c.push.new.self.items) pushed in
    let address : c.from.result ≡ c.args.load.address = search rules in
    let size : c.from-2.result ≡ c.args.load.size = search rules in
    let more : c.from-3.result ≡ c.args.load.size = search rules in
    record {
      end = omega (arith, sums.0, address, size);
      memory = omega (arith, sums.1, more, c.requires.sums.memory);
      most = omega (arith, sums.1, c.requires.most);
    }
