use Rattle.std.proofs.Common.{◌<◌, ◌^◌, arith}
use Rattle.std.proofs.lemmas.List.Elements.{All-from_get_or}
use Rattle.view_rows.proofs.forecasting.weights_have_words.Goals as goal

pub returns : goal.returns
returns c = All-from_get_or (λ w. w < 2 ^ 64) c.args.weights.now 0 (λ k lt. let fits = c.type_inv.weights k in omega arith)
