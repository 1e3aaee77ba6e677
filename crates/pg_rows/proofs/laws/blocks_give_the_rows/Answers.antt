use Rattle.pg_rows.proofs.CursorLaws.{file_by_lines, blocks_join}
use Rattle.pg_rows.proofs.laws.blocks_give_the_rows.Goals as goal

pub returns-clause-whole : goal.returns-clause-whole
returns-clause-whole c = λ q format name bytes ended earlier room. file_by_lines q format name earlier bytes ended room

pub returns-clause-joined : goal.returns-clause-joined
returns-clause-joined c = λ q format name front bytes earlier whole. blocks_join q format name earlier front bytes whole
