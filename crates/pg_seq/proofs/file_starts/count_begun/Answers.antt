use Rattle.std.proofs.Common.{leb, leb-true, leb-false, rules}
use Rattle.std.proofs.lemmas.List.Sorted.{IsPartitionPoint-from_clause, IsPartitionedBy-leb}
use Rattle.pg_seq.specs.declared.file_starts.Progression.{Progression}
use Rattle.pg_seq.proofs.file_starts.count_begun.Goals as goal

pub returns-clause-point : goal.returns-clause-point
returns-clause-point c =
    let parted = IsPartitionedBy-leb (λ (p : Progression). p.first) _ c.args.file c.requires in
    let point = IsPartitionPoint-from_clause (λ (p : Progression). leb p.first c.args.file) _ _
    c.partition_point.ensures.partitioned parted (λ a r q k. search rules) in
    (λ k d h l. leb-true _ _ (point.0 k d h l), λ k d h l. leb-false _ _ (point.1 k d h l))
