use Rattle.std.proofs.Common.{◌≡◌, ◌∙◌, Bor, Option, Some, None, ap, refl, sym}
use Rattle.std.specs.Prelude.{is_some}
use Rattle.std.specs.Option.{option_copied}
use Rattle.span_lines.proofs.EntryLemmas.{kept_table, new_table}
use Rattle.span_lines.proofs.requests.note_entry.Goals as goal

copied : {X : Type 0} (o : Option (Bor X)) → is_some (option_copied o) ≡ is_some o
copied None = refl
copied (Some x) = refl

pub returns-in_ok-insert : goal.returns-in_ok-insert
returns-in_ok-insert c = λ entries are.
    let trace = c.as_str-trace.result.now in
    new_table c.args.first.now c.insert.new.self entries c.args.entry.now trace c.as_str-trace.ensures are c.as_str.result c.as_str.ensures
    (ap is_some (sym c.get.ensures.value) ∙ copied c.get.result ∙ c.if-is_none.ensures) c.in_ok-insert.ensures.updates

pub returns-else-is_none : goal.returns-else-is_none
returns-else-is_none c = λ entries are.
    let trace = c.as_str-trace.result.now in
    kept_table c.args.first.now c.args.first.now entries c.args.entry.now trace c.as_str-trace.ensures are
    (ap is_some (sym c.get.ensures.value) ∙ copied c.get.result ∙ c.if-is_none.ensures)
