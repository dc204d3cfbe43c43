use Rattle.std.proofs.Common.{◌≡◌, ◌∙◌, ℕ, List, ap, arith, length, subst}
use Rattle.grace_quality.specs.Near.{count_met, near_rows}
use Rattle.name_meetings.specs.Tables.{IsTableOf, figures_of}
use Rattle.segment_names.specs.Known.{Known}
use Rattle.segment_names.specs.Limits.{Fits}
use Rattle.trace_types.specs.declared.named_trace.NamedTrace.{NamedTrace}
use Rattle.near_relations.specs.NearRelations.{without_grace}
use Rattle.near_relations.proofs.FoundLemmas.{figures_shown}
use Rattle.near_relations.proofs.NamedLemmas.{few_named, requests_shown}
use Rattle.near_relations.proofs.finding.find_near_relations.Goals as goal

pub find_all-requires-clause-few : goal.find_all-requires-clause-few
find_all-requires-clause-few g c =
    let is = c.in_ok-traces.ensures.named in
    omega (arith, ap length c.deref.ensures.value, few_named c.name_traces.new.catalogue c.args.gathered.now.traces is.valid is.refused c.in_ok-traces.traces.items is.judged is.shown, c.requires.count)

pub returns-clause-found : goal.returns-clause-found
returns-clause-found g c =
    let known : Known = c.name_traces.new.catalogue in
    let named : List NamedTrace = c.in_ok-traces.traces.items in
    let is = c.in_ok-traces.ensures.named in
    let found = c.in_ok-met.ensures in
    let kept = c.names-names.ensures.kept in
    let count : c.names-names.result ≡ length known.names = c.names-names.ensures.count in
    let table : IsTableOf (length known.names) named found.table =
    subst (λ (ts : List NamedTrace). IsTableOf (length known.names) ts found.table) c.deref.ensures.value (subst (λ (n : ℕ). IsTableOf n c.deref.result.now found.table) count found.is) in
    record {
      valid = is.valid;
      refused = is.refused;
      judged = is.judged;
      fits = subst Fits is.names (kept.few_names, kept.few_tasks);
      names_are = ap (λ (k : Known). k.names) is.names;
      requests_are = requests_shown known named is.valid is.shown;
      figures = figures_of found.table;
      figures_are = figures_shown known kept named (without_grace is.valid) is.shown c.numbering_is_one_to_one.ensures.matched found.table table;
      met_is = found.met_is ∙ ap (count_met (figures_of found.table)) count;
      near_are = found.near_are ∙ ap (near_rows (figures_of found.table)) count;
    }
