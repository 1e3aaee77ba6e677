use Rattle.std.proofs.Common.{sym, ap}
use Rattle.pg_words.specs.Usage.{usage_text}
use Rattle.pg_words.proofs.usage.UsageFault.text.Goals as goal

pub returns-in-NoPattern : goal.returns-in-NoPattern
returns-in-NoPattern c = ap usage_text (sym c.in-NoPattern.is)
