use Rattle.std.proofs.Common.{◌≡◌, ℕ, ◌<◌, ◌≤◌, List, length, All, filter, get_or, nat_lt, sym, ap, ◌∙◌, subst, arith}
use Rattle.std.proofs.lemmas.List.Elements.{Contains-get_or}
use Rattle.std.proofs.lemmas.Result.{IfOk-weaker}
use Rattle.certificate_rows.specs.Orders.{name_number_cmp}
use Rattle.name_meetings.specs.Tables.{figures_of}
use Rattle.trace_types.specs.Listing.{ListsExactly}
use Rattle.trace_types.proofs.ShortLemmas.{filter-short}
use Rattle.evidence_printing.specs.inner.Numbered.{HasName}
use Rattle.evidence_printing.proofs.ListLemmas.{listed_kept, some_told}
use Rattle.evidence_printing.proofs.numbers.kept_names.Goals as goal

pub keep_names-requires : goal.keep_names-requires
keep_names-requires c = subst (All (λ (n : ℕ). n < c.args.table.now.names)) (sym c.deref.ensures.value)
    (λ k d lt. subst (λ (m : ℕ). get_or c.in_ok-names.names.items k d < m) (sym c.requires) ((c.in_ok-names.ensures.listed.exactly (get_or c.in_ok-names.names.items k d)).0 (Contains-get_or c.in_ok-names.names.items k d lt)))

pub returns-clause-listed : goal.returns-clause-listed
returns-clause-listed c =
    let known = c.args.catalogue.now in
    let table = c.args.table.now in
    let test = λ (n : ℕ). nat_lt 0 (figures_of table n n).traces in
    let listed = listed_kept (name_number_cmp known) (λ n. n < length known.names) (λ n. 0 < (figures_of table n n).traces) test c.in_ok-names.names.items (λ n. some_told (figures_of table n n).traces) c.in_ok-names.ensures.listed in
    IfOk-weaker c.keep_names.result (λ kept. kept.items ≡ filter test c.deref.result.now) (λ kept. ListsExactly (name_number_cmp known) (HasName known table) kept.items)
    (λ kept is. subst (ListsExactly (name_number_cmp known) (HasName known table)) (sym (is ∙ ap (filter test) c.deref.ensures.value)) listed) c.keep_names.ensures

pub returns-clause-few : goal.returns-clause-few
returns-clause-few c =
    let table = c.args.table.now in
    let test = λ (n : ℕ). nat_lt 0 (figures_of table n n).traces in
    let short = filter-short test c.in_ok-names.names.items in
    let most = c.in_ok-names.ensures.few in
    IfOk-weaker c.keep_names.result (λ kept. kept.items ≡ filter test c.deref.result.now) (λ kept. length kept.items ≤ 512)
    (λ kept is. let same = ap length (is ∙ ap (filter test) c.deref.ensures.value) in omega (arith, same, short, most)) c.keep_names.ensures
