-- The text of the requests of spans is that of good lines.
use Rattle.std.proofs.Common.{◌≡◌, ℕ, List, [], ◌∷◌, ◌++◌, map, flat_map, Option, Some, None, refl, ap, ◌∙◌}
use Rattle.std.specs.List.{All}
use Rattle.std.proofs.lemmas.List.{append_assoc}
use Rattle.std.proofs.lemmas.List.Elements.{All-append, All-head, All-map, All-nil, All-tail}
use Rattle.trace_types.specs.declared.event.Event as events
use Rattle.event_lines.specs.InputLines.{lines_said}
use Rattle.event_lines.specs.declared.line.Line.TheVariants.{Event}
use Rattle.event_text.specs.LineTexts.{event_text, lines_text}
use Rattle.span_lines.specs.SpanTexts.{requests_text}
use Rattle.name_laws.specs.GoodNames.{IsLineText}
use Rattle.reading_laws.specs.Readings.{GoodLinesAreReadAgain, IsGoodEvent, IsGoodLine, IsGoodMessage, IsGoodText}
use Rattle.span_laws.specs.GoodLines.{IsGood, IsLineMessage, LinesAreGood}
use Rattle.span_reading_laws.specs.SpanReadings.{TextOfSpansIsReadAgain, lines_of}

-- ---- the text

events_text : (es others : List events.Event) → flat_map event_text es ++ lines_text (map (λ e. Event e) others) ≡ lines_text (map (λ e. Event e) (es ++ others))
events_text [] others = refl
events_text (e ∷ es) others = append_assoc (event_text e) (flat_map event_text es) (lines_text (map (λ e. Event e) others)) ∙ ap (λ text. event_text e ++ text) (events_text es others)

text_is : (requests : List (List events.Event)) → requests_text requests ≡ lines_text (lines_of requests)
text_is [] = refl
text_is (es ∷ requests) = ap (λ text. flat_map event_text es ++ text) (text_is requests) ∙ events_text es (flat_map (λ es. es) requests)

-- ---- good lines

good_text : (text : List ℕ) → IsLineText text → IsGoodText text
good_text text g = record { utf8 = g.utf8; good = g.good }

good_message : (o : Option (List ℕ)) → IsLineMessage o → IsGoodMessage o
good_message None g = tt
good_message (Some text) g = good_text text g

good_event : (e : events.Event) → IsGood e → IsGoodEvent e
good_event e g = record {
  request = good_text e.request g.request;
  machine = good_text e.machine g.machine;
  task = good_text e.task g.task;
  event = good_text e.event g.event;
  send = good_message e.send g.send;
  recv = good_message e.recv g.recv;
  timely = g.timely;
}

all_events : (requests : List (List events.Event)) → All (All IsGood) requests → All IsGood (flat_map (λ es. es) requests)
all_events [] g = All-nil IsGood
all_events (es ∷ requests) g = All-append IsGood es (flat_map (λ es. es) requests) (All-head (All IsGood) es requests g) (all_events requests (All-tail (All IsGood) es requests g))

good_lines : (requests : List (List events.Event)) → All (All IsGood) requests → All IsGoodLine (lines_of requests)
good_lines requests g =
    let all = all_events requests g in
    All-map IsGoodLine (λ e. Event e) (flat_map (λ es. es) requests) (λ k d l. good_event _ (all k d l))

pub read_again : LinesAreGood → GoodLinesAreReadAgain → TextOfSpansIsReadAgain
read_again good again = λ grace asked input t given few r.
    ap lines_said (r.text ∙ text_is r.requests)
    ∙ again (lines_of r.requests) (good_lines r.requests (good input grace asked r.requests r.ends given few r.are))
