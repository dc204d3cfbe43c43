-- The spans of a file, in each form.
use Rattle.std.specs.Prelude.{ℕ, List, Result}
use Rattle.span_text.specs.declared.placed.Fault.{Fault}
use Rattle.span_text.specs.declared.placed.Placed.{Placed}
use Rattle.otlp_spans.specs.SpansOfFiles as otlp
use Rattle.jaeger_spans.specs.SpansOfJaeger as jaeger
use Rattle.zipkin_spans.specs.SpansOfZipkin as zipkin
use Rattle.span_files.specs.declared.span_form.SpanForm.{SpanForm}
use Rattle.span_files.specs.declared.span_form.SpanForm.TheVariants.{Otlp, Jaeger, Zipkin}

-- the spans of a file in this form, each with its place there, or its first fault
abbrev pub spans_by : SpanForm → List ℕ → Result (List Placed) Fault
spans_by Otlp bytes = otlp.spans_said bytes
spans_by Jaeger bytes = jaeger.spans_said bytes
spans_by Zipkin bytes = zipkin.spans_said bytes
