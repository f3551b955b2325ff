use Rattle.std.proofs.Common.{leb, rules}
use Rattle.std.proofs.lemmas.List.Sorted.{IsPartitionPoint-from_clause, IsPartitionedBy-leb}
use Rattle.feed.proofs.AddLaws.{plain-rises, place-point}
use Rattle.feed.proofs.list.place_of.Goals as goal

pub returns : goal.returns
returns c =
    let parted = IsPartitionedBy-leb (λ p. p.cycle) _ c.args.cycle (plain-rises c.args.plain.now c.requires) in
    let point = IsPartitionPoint-from_clause (λ p. leb p.cycle c.args.cycle) _ _ c.partition_point.ensures.partitioned parted
    (λ a r q k. search rules) in
    place-point c.args.plain.now c.args.cycle _ c.partition_point.ensures.bound point
