use Rattle.std.proofs.Common.{rules, ◌≡◌, ◌∙◌, ℕ, List, length, sym, subst, ap, arith}
use Rattle.event_table.specs.inner.Placing.{AreCounted, HaveRequestsBelow, groups_of, request_numbers}
use Rattle.event_table.specs.inner.Renumbering.{whole_events}
use Rattle.event_table.proofs.GroupLemmas.{all_requests}
use Rattle.event_table.proofs.spreading.group_events.Goals as goal

pub place_ranges-requires-after_bounds : goal.place_ranges-requires-after_bounds
place_ranges-requires-after_bounds g c κs within =
    let all = whole_events c.args.parts.now in
    let told = c.in_ok-requests.field-0 in
    let requests : c.deref-2.result.now ≡ told.requests.items = search rules in
    let counts : c.deref.result.now ≡ told.counts.items = search rules in
    let counted : AreCounted all c.deref-2.result.now c.deref.result.now =
    subst (λ (rs : List ℕ). AreCounted all rs c.deref.result.now) (sym requests) (subst (λ (cs : List ℕ). AreCounted all told.requests.items cs) (sym counts) c.in_ok-requests.ensures.counted) in
    let long : length c.deref.result.now ≡ c.args.count = ap (λ (cs : List ℕ). length cs) counts ∙ c.in_ok-requests.ensures.long in
    all_requests all c.deref-2.result.now c.deref.result.now counted (subst (λ (n : ℕ). HaveRequestsBelow n all) (sym long) c.requires.below) c.requires.few

pub returns : goal.returns
returns g c =
    let all = whole_events c.args.parts.now in
    let told = c.in_ok-requests.field-0 in
    let requests : c.deref-2.result.now ≡ told.requests.items = search rules in
    let order : c.deref-2.result.now ≡ request_numbers all = requests ∙ c.in_ok-requests.ensures.counted.order in
    let long : length c.deref-2.result.now ≡ length (request_numbers all) = ap (λ (rs : List ℕ). length rs) order in
    let count = c.len-count.ensures in
    let same = c.deref-2.ensures.len in record {
      groups = c.in_ok-blocks.ensures ∙ ap (groups_of all) order;
      count = omega arith;
    }
