-- How a book of days and a catalogue have the kept traces of a session: by numbers.
use Rattle.std.specs.Prelude.{◌≡◌, ℕ, ◌==◌, List, filter}
use Rattle.std.specs.List.{AllZip, enumerate_from}
use Rattle.segment_names.specs.Known.{Known}
use Rattle.session_rules.specs.KeptTraces.{Kept, by_kept}
use Rattle.trace_types.specs.declared.named_trace.NamedTrace.{NamedTrace}
use Rattle.trace_types.specs.Parts.{by_number}
use Rattle.trace_types.specs.Renaming.{IsTraceRenamed}

-- the named trace is the kept one, with its grace, under the numbers of a catalogue
pub record IsShown (known : Known) (named : NamedTrace) (k : Kept) : Type 0 where
  pub renamed : IsTraceRenamed by_number by_kept (enumerate_from 0 known.names)
      (enumerate_from 0 known.tasks) named k
  pub request : named.request ≡ k.trace.request
  pub day : named.day ≡ k.trace.day
  pub latency : named.latency ≡ k.trace.latency

-- the named traces are the kept ones, in order
abbrev pub AreShown : Known → List NamedTrace → List Kept → Type 0
AreShown known named kept = AllZip (IsShown known) named kept

-- the named traces of one day
abbrev pub named_on : ℕ → List NamedTrace → List NamedTrace
named_on day named = filter (λ (t : NamedTrace). t.day == day) named
