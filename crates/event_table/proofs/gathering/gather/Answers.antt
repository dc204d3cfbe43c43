use Rattle.std.proofs.Common.{rules, ◌≡◌, ◌<◌, List, length, sym, ap, subst, ◌∙◌, All}
use Rattle.std.proofs.lemmas.List.{length-map}
use Rattle.event_table.specs.declared.event_numbers.EventNumbers.{EventNumbers}
use Rattle.event_table.specs.declared.numbered_part.NumberedPart.{NumberedPart}
use Rattle.event_table.specs.Gathered.{events_of_tables}
use Rattle.event_table.specs.inner.Tables.{AreWithin}
use Rattle.event_table.specs.inner.Groups.{groups_of_blocks}
use Rattle.event_table.specs.inner.Placing.{groups_of, request_numbers, with_request}
use Rattle.event_table.specs.inner.Renumbering.{whole_events}
use Rattle.event_table.proofs.TraceLemmas.{gathered_traces, groups_some, groups_within}
use Rattle.event_table.proofs.gathering.gather.Goals as goal

pub invariant_of-result : goal.invariant_of-result
invariant_of-result g c =
    let told = c.in_ok-texts.field-0 in
    let all = whole_events told.parts.items in
    let slice : c.deref.result.now ≡ told.parts.items = search rules in
    let placed : groups_of_blocks c.in_ok-blocks.field-0.blocks.items ≡ groups_of all (request_numbers all) =
    c.in_ok-blocks.ensures.groups ∙ ap (λ (ps : List NumberedPart). groups_of (whole_events ps) (request_numbers (whole_events ps))) slice in
    let count : c.in_ok-blocks.field-0.count ≡ length (request_numbers all) = c.in_ok-blocks.ensures.count ∙ ap (λ (ps : List NumberedPart). length (request_numbers (whole_events ps))) slice in record {
      within = subst (All (All (AreWithin told.texts told.messages))) (sym placed) (groups_within (AreWithin told.texts told.messages) all (request_numbers all) c.in_ok-texts.ensures.within);
      some = subst (All (λ (group : List EventNumbers). 0 < length group)) (sym placed) (groups_some all);
      counted = count ∙ sym (length-map (request_numbers all) (with_request all)) ∙ ap (λ (gs : List (List EventNumbers)). length gs) (sym placed);
    }

pub returns : goal.returns
returns g c =
    let told = c.in_ok-texts.field-0 in
    let all = whole_events told.parts.items in
    let slice : c.deref.result.now ≡ told.parts.items = search rules in
    let placed : groups_of_blocks c.in_ok-blocks.field-0.blocks.items ≡ groups_of all (request_numbers all) =
    c.in_ok-blocks.ensures.groups ∙ ap (λ (ps : List NumberedPart). groups_of (whole_events ps) (request_numbers (whole_events ps))) slice in record {
      traces = gathered_traces told.texts told.messages all (groups_of_blocks c.in_ok-blocks.field-0.blocks.items) (events_of_tables c.args.parts.items) c.tell_texts_apart.ensures.requests c.in_ok-texts.ensures.within placed c.in_ok-texts.ensures.events;
    }
