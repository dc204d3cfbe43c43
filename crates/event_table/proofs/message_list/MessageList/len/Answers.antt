use Rattle.std.proofs.Common.{List, ℕ, length, ap, arith}
use Rattle.event_table.proofs.CutLemmas.{cut_length}
use Rattle.event_table.proofs.message_list.MessageList.len.Goals as goal

pub returns : goal.returns
returns c =
    let count = cut_length 0 c.self.inside.ends.items c.self.inside.bytes.items in
    let seen = ap (λ (ms : List (List ℕ)). length ms) c.self.view_is in
    let fits = c.self.inside.ends.ok in
    let told = c.len.ensures in
    omega arith
