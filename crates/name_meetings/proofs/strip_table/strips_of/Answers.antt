use Rattle.std.proofs.Common.{◌≡◌, ℕ, ◌*◌, ◌<◌, Bor, List, length, map, get_or, sym, subst}
use Rattle.trace_types.specs.declared.named_trace.NamedTrace.{NamedTrace}
use Rattle.name_meetings.specs.inner.Noting.{TellsBoth, met_onward, met_turned}
use Rattle.name_meetings.specs.inner.Strips.{AreStripsOf}
use Rattle.name_meetings.proofs.StripLemmas.{strips_are, written_back}
use Rattle.name_meetings.proofs.strip_table.strips_of.Goals as goal

pub returns-clause-told : goal.returns-clause-told
returns-clause-told g c =
    let value = g.G.Gap.value in
    let names = c.args.names in
    let traces : List NamedTrace = map (λ (t : Bor NamedTrace). t.now) c.args.traces.now in
    let old = c.in_ok-strips.strips.items in
    let new = c.fill.new.strips in
    let same : length new ≡ length old = subst (λ l. length new ≡ length l) c.as_mut_slice.ensures.value c.fill.ensures.long in
    subst (AreStripsOf value names traces) (sym (written_back c.in_ok-strips.strips.len old new c.in_ok-strips.strips.ok.0 same))
    (strips_are value names traces old new c.in_ok-strips.ensures.rows same
    (subst (λ l. (k : ℕ) (d : _) → k < length l → TellsBoth value names (16 * k) (get_or new k d).items (met_onward traces) (met_turned traces)) c.as_mut_slice.ensures.value c.fill.ensures.told))
