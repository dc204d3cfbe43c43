use Rattle.std.proofs.Common.{map, rules}
use Rattle.std.proofs.lemmas.Result.{IfOk-weaker}
use Rattle.std.specs.List.{AllZip}
use Rattle.batch_sheets.specs.Named.{cut_trace}
use Rattle.batch_sheets.specs.inner.Growth.{IsNamedOrNew}
use Rattle.batch_sheets.proofs.CutLemmas.{traces_joined}
use Rattle.batch_sheets.proofs.ZipLemmas.{zip_after}
use Rattle.batch_sheets.proofs.known_names.+fn-name_known_parts-join+arg3+name_known_parts.Goals as goal

pub returns : goal.returns
returns g t c =
    let is = IsNamedOrNew c.args.catalogue.now c.args.grace in
    let front = map cut_trace c.split_off.new.self.items in
    let back = map cut_trace c.in_ok-last.last.items in
    let early : AllZip is front c.in_ok-front.field-0.items = search rules in
    let late : AllZip is back c.in_ok-back.field-0.items = search rules in
    let joined = traces_joined c.args.traces.items c.split_off.new.self.items c.in_ok-last.last.items _ c.in_ok-last.ensures.items c.in_ok-last.ensures.tail in
    IfOk-weaker c.join_named.result _ _ (λ list same. zip_after is (map cut_trace c.args.traces.items) front back c.in_ok-front.field-0.items c.in_ok-back.field-0.items list.items joined early late same) c.join_named.ensures
