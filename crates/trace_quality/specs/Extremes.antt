-- The least and the greatest time of all events of traces.
use Rattle.std.specs.Prelude.{◌≡◌, ◌≤◌, All, Any, List}
use Rattle.trace_quality.specs.declared.times.Times.{Times}
use Rattle.trace_quality.specs.declared.trace_facts.TraceFacts.{TraceFacts}

-- of traces with these facts these are the least and the greatest time
pub record AreExtremes (facts : List TraceFacts) (t : Times) : Type 0 where
  pub some_least : Any (λ (f : TraceFacts). f.times.least ≡ t.least) facts
  pub none_less : All (λ (f : TraceFacts). t.least ≤ f.times.least) facts
  pub some_greatest : Any (λ (f : TraceFacts). f.times.greatest ≡ t.greatest) facts
  pub none_greater : All (λ (f : TraceFacts). f.times.greatest ≤ t.greatest) facts
