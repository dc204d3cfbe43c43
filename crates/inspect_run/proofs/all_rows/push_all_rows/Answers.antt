use Rattle.inspect_run.proofs.ResultLemmas.{on_ok_with}
use Rattle.inspect_run.proofs.all_rows.push_all_rows.Goals as goal

pub returns : goal.returns
returns g c = on_ok_with c.append_rows.result
    (λ e. record {
      rows = c.in_ok-rows.rows.traces.items;
      told = c.in_ok-rows.ensures.traces;
      on_names = c.in_ok-rows.rows.names.items;
      names_told = c.in_ok-rows.ensures.names;
      on_graces = c.in_ok-rows.rows.graces.items;
      graces_told = c.in_ok-rows.ensures.graces;
      appended = e;
    })
    c.append_rows.ensures
