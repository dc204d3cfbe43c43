-- How long the printed reasons of spans are.
use Rattle.std.proofs.Common.{◌≡◌, ℕ, ◌+◌, ◌≤◌, ◌++◌, List, length, ap, arith, lit≤}
use Rattle.std.specs.Prelude.{codes}
use Rattle.std.proofs.lemmas.List.{length-append}
use Rattle.span_text.specs.declared.member.Member.{Member}
use Rattle.span_text.specs.declared.member.Member.TheVariants as members
use Rattle.span_text.specs.declared.why.Why.{Why}
use Rattle.span_text.specs.declared.why.Why.TheVariants.{NotJson, NotArray, Missing, Bad}
use Rattle.span_text.specs.declared.why.Why.TheVariants.{EndBeforeStart, TimeOutOfRange}
use Rattle.span_text.specs.Members.{member_name}
use Rattle.span_text.specs.Reasons.{why_text}
use Rattle.import_run.specs.Messages.{reason_text}
use Rattle.import_run.specs.declared.span_reason.SpanReason.{SpanReason}
use Rattle.import_run.specs.declared.span_reason.SpanReason.TheVariants.{Unreadable, RepeatedId, Circle}

member_short : (m : Member) → length (member_name m) ≤ 30
member_short members.Attributes = lit≤ tt
member_short members.Data = lit≤ tt
member_short members.Duration = lit≤ tt
member_short members.EndTimeUnixNano = lit≤ tt
member_short members.HostName = lit≤ tt
member_short members.Id = lit≤ tt
member_short members.InstrumentationLibrarySpans = lit≤ tt
member_short members.Ipv4 = lit≤ tt
member_short members.Key = lit≤ tt
member_short members.Kind = lit≤ tt
member_short members.LocalEndpoint = lit≤ tt
member_short members.Name = lit≤ tt
member_short members.OperationName = lit≤ tt
member_short members.ParentId = lit≤ tt
member_short members.ParentSpanId = lit≤ tt
member_short members.Processes = lit≤ tt
member_short members.ProcessId = lit≤ tt
member_short members.RefType = lit≤ tt
member_short members.References = lit≤ tt
member_short members.Resource = lit≤ tt
member_short members.ResourceLogs = lit≤ tt
member_short members.ResourceMetrics = lit≤ tt
member_short members.ResourceSpans = lit≤ tt
member_short members.ScopeSpans = lit≤ tt
member_short members.ServiceName = lit≤ tt
member_short members.SpanId = lit≤ tt
member_short members.SpanIdOfJaeger = lit≤ tt
member_short members.Spans = lit≤ tt
member_short members.StartTime = lit≤ tt
member_short members.StartTimeUnixNano = lit≤ tt
member_short members.StringValue = lit≤ tt
member_short members.Tags = lit≤ tt
member_short members.Timestamp = lit≤ tt
member_short members.TraceId = lit≤ tt
member_short members.TraceIdOfJaeger = lit≤ tt
member_short members.Value = lit≤ tt

why_short : (why : Why) → length (why_text why) ≤ 40
why_short NotJson = lit≤ tt
why_short NotArray = lit≤ tt
why_short (Missing m) = let e : length (codes "missing ") ≤ 8 = lit≤ tt in omega (arith, member_short m, e, length-append (codes "missing ") (member_name m))
why_short (Bad m) = let e : length (codes "bad ") ≤ 8 = lit≤ tt in omega (arith, member_short m, e, length-append (codes "bad ") (member_name m))
why_short EndBeforeStart = lit≤ tt
why_short TimeOutOfRange = lit≤ tt

reason_short : (reason : SpanReason) → length (reason_text reason) ≤ 40
reason_short (Unreadable why) = why_short why
reason_short RepeatedId = lit≤ tt
reason_short Circle = lit≤ tt

-- the two parts of a reason together
pub parts_short : (reason : SpanReason) (a b : List ℕ) → a ++ b ≡ reason_text reason → length a + length b ≤ 40
parts_short reason a b e = omega (arith, reason_short reason, ap length e, length-append a b)
