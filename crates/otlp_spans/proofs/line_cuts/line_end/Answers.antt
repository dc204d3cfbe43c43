use Rattle.std.proofs.Common.{sym, ◌∙◌}
use Rattle.otlp_spans.proofs.CutLemmas.{end_found}
use Rattle.otlp_spans.proofs.line_cuts.line_end.Goals as goal

pub returns-in_default-clause-first : goal.returns-in_default-clause-first
returns-in_default-clause-first c = end_found c.args.bytes.now c.memchr.result c.memchr.ensures ∙ sym c.unwrap_or.ensures
