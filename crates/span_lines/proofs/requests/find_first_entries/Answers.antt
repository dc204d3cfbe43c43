use Rattle.std.proofs.Common.{sym, get_or, map, take}
use Rattle.std.proofs.lemmas.List.Elements.{All-get_or}
use Rattle.std.proofs.Common.{◌<◌, length}
use Rattle.span_calls.specs.Seen.{span_at}
use Rattle.span_requests.specs.SpansOnce.{lent_spans}
use Rattle.span_calls.proofs.SeenLemmas.{span_is}
use Rattle.span_lines.proofs.EntryLemmas.{entries_more}
use Rattle.span_lines.proofs.requests.find_first_entries.Goals as goal

pub loop-entry-preserved : goal.loop-entry-preserved
loop-entry-preserved c =
    let spans = c.args.spans.now in
    let entries = c.args.entries.now in
    let i = c.loop-entry.entry-index in
    let n = get_or entries i 0 in
    let low : n < length spans = All-get_or (λ k. k < length spans) entries i 0 c.loop-entry-test.true c.requires in
    entries_more c.note_entry.new.first (span_at (lent_spans spans)) entries i c.index-spans-entry.result.now c.loop-entry-test.true
    (sym (span_is spans n c.index-spans-entry.result low c.index-spans-entry.is)) (c.in_ok-note_entry.ensures (map (span_at (lent_spans spans)) (take i entries)) c.loop-entry.invariant)
