use Rattle.std.proofs.Common.{◌≡◌, ◌++◌, ◌∙◌, List, ℕ, ap, append_assoc, refl}
use Rattle.inspect_run.specs.TraceRows.{clock_rows, message_rows, trace_rows, verdict_rows}
use Rattle.inspect_run.specs.inner.Traces.{AppendsTraceRows}
use Rattle.inspect_run.proofs.ResultLemmas.{on_ok_with}
use Rattle.inspect_run.proofs.trace_rows.push_found.Goals as goal

-- three texts behind one another
behind : (old a b c first second third : List ℕ) → first ≡ old ++ a → second ≡ first ++ b → third ≡ second ++ c → third ≡ old ++ (a ++ b ++ c)
behind old a b c first second third ha hb hc =
    hc ∙ ap (λ (t : List ℕ). t ++ c) (hb ∙ ap (λ (t : List ℕ). t ++ b) ha ∙ append_assoc old a b)
    ∙ append_assoc old (a ++ b) c

pub returns : goal.returns
returns c =
    let traces = c.args.traces.now.traces in
    let facts = c.args.facts.now in
    let clocks = c.in_ok-push_clocks.ensures in
    let times = c.find_extremes-times.result in
    on_ok_with {A = c.push_messages.new.text.items ≡ c.push_clocks.new.text.items ++ message_rows traces facts} {B = AppendsTraceRows traces c.args.text.now.items c.push_messages.new.text.items} c.push_messages.result (λ h. record {
      rows = trace_rows traces facts clocks.told times;
      told = record { facts = facts; found = c.requires.found; told = clocks.told; heard = clocks.heard; times = times; extremes = c.find_extremes-times.ensures; printed = refl };
      appended = behind c.args.text.now.items (verdict_rows traces facts times) (clock_rows traces facts clocks.told) (message_rows traces facts) c.push_verdicts.new.text.items c.push_clocks.new.text.items c.push_messages.new.text.items c.in_ok-push_verdicts.ensures clocks.appended h;
    }) c.push_messages.ensures
