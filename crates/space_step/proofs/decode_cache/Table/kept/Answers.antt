use Rattle.space_step.proofs.Caching.{hit_holds}
use Rattle.space_step.proofs.decode_cache.Table.kept.Goals as goal

pub returns : goal.returns
returns c = λ v agrees hits. hit_holds v c.args.self.now c.args.at c.place_of.result _ c.place_of.ensures agrees hits
