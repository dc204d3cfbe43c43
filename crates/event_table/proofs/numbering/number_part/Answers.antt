use Rattle.std.proofs.Common.{◌≡◌, ◌+◌, ◌≤◌, ℕ, List, length, sym, ap, subst, ◌∙◌, arith}
use Rattle.std.proofs.lemmas.List.{length-map}
use Rattle.trace_types.specs.declared.event.Event.{Event}
use Rattle.event_table.specs.Numbers.{event_under, no_message}
use Rattle.event_table.specs.inner.Growth.{MessagesGrowBy, TextsGrowBy}
use Rattle.event_table.proofs.PartLemmas.{events_own, events_same, events_there, messages_grown, receipts_fit, sends_fit}
use Rattle.event_table.proofs.numbering.number_part.Goals as goal

pub invariant_of-result : goal.invariant_of-result
invariant_of-result c =
    let p = c.requires in
    let texts = c.into_parts-texts.result.0 in
    let own = c.into_parts-texts.result.1 in
    let events = c.into_parts-texts.result.2.items in
    let table = c.into_parts-texts.ensures.table in
    let before = c.args.messages.now in
    let after = c.append_messages.new.messages in
    let sent = c.in_ok-append_messages.ensures.sends in
    let received = c.in_ok-append_messages.ensures.receipts in
    let long : length c.args.part ≡ length events = sym (ap (λ (es : List Event). length es) c.into_parts-texts.ensures.events) ∙ length-map events (event_under texts own) in
    let below = p.3 in
    let room : p.0 + length events ≤ no_message = omega arith in
    let sends : c.len-sends.result ≡ length before.sends = c.len-sends.ensures ∙ ap (λ (ms : List (List ℕ)). length ms) c.sends.ensures in
    let receipts : c.len-receipts.result ≡ length before.receipts = c.len-receipts.ensures ∙ ap (λ (ms : List (List ℕ)). length ms) c.receipts.ensures in record {
      own = events_own texts c.number_kinds.new.whole own before after c.in_ok-numbers.numbers c.len-sends.result c.len-receipts.result c.in_ok-numbers.ensures.numbers sent received sends receipts
          (sends_fit own before after p.0 (length events) sent received table.few_messages p.2 room) (receipts_fit own before after p.0 (length events) sent received table.few_messages p.2 room) events table.within;
    }

pub returns : goal.returns
returns c =
    let p = c.requires in
    let texts = c.into_parts-texts.result.0 in
    let own = c.into_parts-texts.result.1 in
    let events = c.into_parts-texts.result.2.items in
    let table = c.into_parts-texts.ensures.table in
    let whole = c.number_kinds.new.whole in
    let before = c.args.messages.now in
    let after = c.append_messages.new.messages in
    let sent = c.in_ok-append_messages.ensures.sends in
    let received = c.in_ok-append_messages.ensures.receipts in
    let long : length c.args.part ≡ length events = sym (ap (λ (es : List Event). length es) c.into_parts-texts.ensures.events) ∙ length-map events (event_under texts own) in
    let below = p.3 in
    let room : p.0 + length events ≤ no_message = omega arith in
    let sends : c.len-sends.result ≡ length before.sends = c.len-sends.ensures ∙ ap (λ (ms : List (List ℕ)). length ms) c.sends.ensures in
    let receipts : c.len-receipts.result ≡ length before.receipts = c.len-receipts.ensures ∙ ap (λ (ms : List (List ℕ)). length ms) c.receipts.ensures in
    let few_sends = sends_fit own before after p.0 (length events) sent received table.few_messages p.2 room in
    let few_receipts = receipts_fit own before after p.0 (length events) sent received table.few_messages p.2 room in record {
      texts = subst (λ (n : ℕ). TextsGrowBy n c.args.whole.now whole) (sym long) (c.in_ok-numbers.ensures.grown (length events) table.few);
      messages = subst (λ (n : ℕ). MessagesGrowBy n before after) (sym long) (messages_grown own before after p.0 (length events) sent received table.few_messages p.2);
      events = events_same texts whole own before after c.in_ok-numbers.numbers c.len-sends.result c.len-receipts.result c.in_ok-numbers.ensures.numbers sent received sends receipts few_sends few_receipts events table.within
          ∙ c.into_parts-texts.ensures.events;
      within = events_there texts whole own before after c.in_ok-numbers.numbers c.len-sends.result c.len-receipts.result c.in_ok-numbers.ensures.numbers sent received sends receipts few_sends few_receipts events table.within;
    }
