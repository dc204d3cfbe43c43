use Rattle.std.proofs.Common.{◌≡◌, List, length, ◌∙◌, subst}
use Rattle.evidence_rules.specs.EvidenceRows.{AreBySupport, AreOrdersLeft, supported}
use Rattle.evidence_rules.specs.declared.between.Between.{Between}
use Rattle.evidence_rules.specs.declared.pair_row.PairRow.{PairRow}
use Rattle.name_rows.specs.Kinds.{between_at, is_told, traces_of}
use Rattle.name_rows.specs.declared.kind.NameKind.TheVariants.{Order, Exclusion, NearlyOrder, NearlyExclusion}
use Rattle.evidence_rows.proofs.finding.find_rows.Goals as goal

pub order_rows-requires-clause-listed : goal.order_rows-requires-clause-listed
order_rows-requires-clause-listed c = record {
  between = between_at c.args.meetings.now c.args.names.now;
  is = supported traces_of c.args.choice.least (is_told Order);
  listed = c.deref.ensures.value ∙ c.in_ok-lists.ensures Order;
}

pub sorted_rows-requires : goal.sorted_rows-requires
sorted_rows-requires c = (
  length c.args.names.now,
  c.requires.few_names,
  record {
    between = between_at c.args.meetings.now c.args.names.now;
    is = supported traces_of c.args.choice.least (is_told Exclusion);
    listed = c.deref-2.ensures.value ∙ c.in_ok-lists.ensures Exclusion;
  },
)

pub sorted_rows-requires-2 : goal.sorted_rows-requires-2
sorted_rows-requires-2 c = (
  length c.args.names.now,
  c.requires.few_names,
  record {
    between = between_at c.args.meetings.now c.args.names.now;
    is = supported traces_of c.args.choice.least (is_told NearlyOrder);
    listed = c.deref-3.ensures.value ∙ c.in_ok-lists.ensures NearlyOrder;
  },
)

pub sorted_rows-requires-3 : goal.sorted_rows-requires-3
sorted_rows-requires-3 c = (
  length c.args.names.now,
  c.requires.few_names,
  record {
    between = between_at c.args.meetings.now c.args.names.now;
    is = supported traces_of c.args.choice.least (is_told NearlyExclusion);
    listed = c.deref-4.ensures.value ∙ c.in_ok-lists.ensures NearlyExclusion;
  },
)

pub returns : goal.returns
returns c =
    let orders = c.in_ok-order_rows.ensures in
    let by_support = λ (sorted l : List (PairRow Between)). AreBySupport traces_of l sorted in
    record {
      orders = record {
        left = orders.left;
        are_left = subst (λ (l : List (PairRow Between)). AreOrdersLeft c.args.choice.reduced l orders.left) (c.deref.ensures.value ∙ c.in_ok-lists.ensures Order) orders.are_left;
        sorted = orders.by_support;
      };
      exclusions = subst (by_support c.in_ok-sorted_rows.field-0.items) (c.deref-2.ensures.value ∙ c.in_ok-lists.ensures Exclusion) c.in_ok-sorted_rows.ensures;
      pipes = c.in_ok-kind_rows.ensures;
      nearly_orders = subst (by_support c.in_ok-sorted_rows-2.field-0.items) (c.deref-3.ensures.value ∙ c.in_ok-lists.ensures NearlyOrder) c.in_ok-sorted_rows-2.ensures;
      nearly_exclusions = subst (by_support c.in_ok-sorted_rows-3.field-0.items) (c.deref-4.ensures.value ∙ c.in_ok-lists.ensures NearlyExclusion) c.in_ok-sorted_rows-3.ensures;
      nearly_pipes = c.in_ok-kind_rows-2.ensures;
    }
