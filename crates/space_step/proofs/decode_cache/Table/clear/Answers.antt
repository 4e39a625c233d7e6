use Rattle.space_step.proofs.decode_cache.Table.clear.Goals as goal

pub returns : goal.returns
returns c = let made = c.empty_entries-self.ensures in c.begin.ensures made.0 made.1 made.2
