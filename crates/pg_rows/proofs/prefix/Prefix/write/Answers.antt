use Rattle.pg_rows.specs.Stretch.{plain_prefix_text, prefix_text}
use Rattle.pg_rows.proofs.RowLemmas.{plain_prefix}
use Rattle.pg_base.proofs.WriteLemmas.{writes_as}
use Rattle.pg_rows.proofs.prefix.Prefix.write.Goals as goal

pub returns-else-format-clause-writes : goal.returns-else-format-clause-writes
returns-else-format-clause-writes g c =
    let a = c.args in
    writes_as (plain_prefix_text a.format.now a.self.now a.at.number a.at.offset a.mark a.has_text)
    (prefix_text a.format.now a.self.now a.at.number a.at.offset a.mark a.has_text) _ _ _
    (plain_prefix a.format.now a.self.now a.at.number a.at.offset a.mark a.has_text c.if-format.false)
    c.write_plain.ensures.writes
