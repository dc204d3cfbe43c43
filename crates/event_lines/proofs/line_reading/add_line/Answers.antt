use Rattle.std.proofs.Common.{Result, rules}
use Rattle.std.proofs.lemmas.Result.{IfOk-weaker}
use Rattle.serde_json.specs.Data.{Data}
use Rattle.event_lines.specs.declared.why.Why.{Why}
use Rattle.event_lines.specs.LineResults.{event_line_result, line_result}
use Rattle.event_lines.specs.inner.Fields.{AreEventFields}
use Rattle.event_lines.specs.inner.FlatObjects.{IsEventLine}
use Rattle.event_lines.specs.inner.Readings.{IsLineAdded}
use Rattle.event_lines.proofs.FlatEventLemmas.{added_by_fields}
use Rattle.event_lines.proofs.line_reading.add_line.Goals as goal

pub returns-in-Some : goal.returns-in-Some
returns-in-Some c =
    let h : IsEventLine c.args.line.now c.in-Some.fields = search rules in
    IfOk-weaker c.add_good_fields.result
    (λ (added : Result (Unit {0}) Why). (d : Data) → AreEventFields c.in-Some.fields d → IsLineAdded (event_line_result c.args.number d) c.args.lines.now c.add_good_fields.new.lines added)
    (λ (added : Result (Unit {0}) Why). IsLineAdded (line_result c.args.number c.args.line.now) c.args.lines.now c.add_good_fields.new.lines added)
    (λ added e. added_by_fields c.args.number c.args.line.now c.in-Some.fields c.args.lines.now c.add_good_fields.new.lines added h e) c.add_good_fields.ensures
