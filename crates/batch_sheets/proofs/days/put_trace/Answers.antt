use Rattle.std.proofs.Common.{◌≡◌, ◌∷◌, ◌++◌, [], get_or, ap, ◌∙◌}
use Rattle.std.proofs.lemmas.List.{get_or_read}
use Rattle.batch_sheets.specs.declared.days.DayTraces.{DayTraces}
use Rattle.batch_sheets.proofs.DayLemmas.{day_missing, put_more}
use Rattle.batch_sheets.proofs.days.put_trace.Goals as goal

pub unreachable-requires : goal.unreachable-requires
unreachable-requires c = day_missing c.args.split.now.items c.args.trace.day (rw c.deref.ensures.value at c.in_default.ensures.none) c.requires.listed

pub returns : goal.returns
returns c days named p h =
    let there = rw c.deref.ensures.value at c.in-Some.ensures.some in
    let read : (e : DayTraces) → c.index_mut.result.now ≡ get_or c.args.split.now.items c.in-Some.place e = get_or_read c.args.split.now.items c.in-Some.place c.index_mut.result.now there.0 c.index_mut.ensures.value in
    put_more days named c.args.trace c.args.split.now.items c.in-Some.place (record { day = c.index_mut.result.now.day; traces = c.push.new.self }) p there.0 there.1
    (ap (λ (s : DayTraces). s.day) (read c.index_mut.result.now) ∙ there.1 c.index_mut.result.now)
    (λ e. c.in_ok-push.ensures.items ∙ ap (λ (s : DayTraces). s.traces.items ++ c.args.trace ∷ []) (read e)) h
