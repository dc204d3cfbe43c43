use Rattle.std.proofs.Common.{ℕ, List, refl}
use Rattle.std.proofs.lemmas.Result.{IfOk-weaker}
use Rattle.span_types.specs.declared.span.Span.{Span}
use Rattle.call_contexts.specs.Contexts.{frames_of}
use Rattle.span_lines.specs.inner.FirstEntries.{AreFirst}
use Rattle.span_lines.specs.inner.PlacedCalls.{threading_of}
use Rattle.span_lines.proofs.spans.print_all.Goals as goal

pub returns : goal.returns
returns c =
    let calls = c.args.calls.now in
    let numbers = c.in_ok-contexts.contexts.numbers.items in
    let frames = frames_of c.in_ok-contexts.contexts.contexts.items in
    let t = c.in_ok-threads.threads in
    let e = c.in_ok-threads.ensures in
    IfOk-weaker c.print_placed.result _ _ (λ (long : ℕ) h (entries : List Span) (are : AreFirst entries c.args.spans.now.first).
    let found = h entries are in (
      _,
      record {
        placing = record { numbers = numbers; contexts = frames; order = found.0; below = found.1 };
        placed = c.in_ok-contexts.ensures;
        ordered = found.2;
        threading = threading_of t;
        threaded = record { forks = e.forked; linked = e.groups; run = e.threads };
        lines = refl;
      },
      found.3,
    )) c.print_placed.ensures
