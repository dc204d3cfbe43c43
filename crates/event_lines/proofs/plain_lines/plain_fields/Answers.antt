use Rattle.std.proofs.Common.{◌≡◌, Some, is_some, sym, ap, ◌∙◌}
use Rattle.std.proofs.lemmas.Option.{IfSome_then}
use Rattle.serde_json.specs.Data.{Members, object}
use Rattle.serde_json.specs.Read.{read}
use Rattle.event_lines.specs.inner.FlatObjects.{AreMembers}
use Rattle.event_lines.proofs.JsonValueLemmas.{json_value-utf8}
use Rattle.event_lines.proofs.plain_lines.plain_fields.Goals as goal

pub returns-clause-line : goal.returns-clause-line
returns-clause-line c =
    let text : c.in-Ok.text.now ≡ c.args.line.now = c.in-Ok.ensures.0 in
    let found : (ms : Members) × AreMembers c.in-Some.found ms × (read c.in-Ok.text.now ≡ Some (object ms)) = c.in-Some.ensures.members in
    IfSome_then c.fields.result c.fields.ensures.fields (λ f fields. record {
      members = found.0;
      reading = json_value-utf8 c.args.line.now c.in-Ok.ensures.1 ∙ ap read (sym text) ∙ found.2;
      control = ap is_some found.1.1.1.1.1.1.1.1.1.0;
      fields = fields found.0 found.1;
    })
