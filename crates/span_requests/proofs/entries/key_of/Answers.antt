use Rattle.std.proofs.Common.{arith}
use Rattle.std.specs.Str.{bytes_eq}
use Rattle.span_requests.specs.inner.Ids.{lent_texts}
use Rattle.span_requests.proofs.ListLemmas.{place_within}
use Rattle.span_requests.proofs.entries.key_of.Goals as goal

pub overflow_cast-result : goal.overflow_cast-result
overflow_cast-result c = omega (arith, c.find_trace.ensures, place_within (bytes_eq c.as_str.result.now) (lent_texts c.args.traces.now.keys), c.requires)
