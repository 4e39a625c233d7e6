use Rattle.std.proofs.Common.{leb, rules}
use Rattle.std.proofs.lemmas.List.Sorted.{IsPartitionPoint-from_clause, IsPartitionedBy-leb}
use Rattle.symbols.proofs.symbol.count_up_to.Goals as goal

pub returns-clause-point : goal.returns-clause-point
returns-clause-point c =
    let parted = IsPartitionedBy-leb (λ s. s.address) _ c.args.address c.requires.ascending in
    IsPartitionPoint-from_clause (λ s. leb s.address c.args.address) _ _ c.partition_point.ensures.partitioned parted (λ a r q k. search rules)
