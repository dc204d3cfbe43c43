use Rattle.std.proofs.Common.{◌≡◌, ◌≢◌, ◌↔◌, ℕ, true, nat_lt, subst, sym}
use Rattle.trace_types.specs.NameOrder.{name_cmp}
use Rattle.model_meet.specs.RelationBits.{HasExclusion, HasOrder}
use Rattle.trace_types.proofs.ListingLemmas.{name_total}
use Rattle.view_rows.specs.inner.Listings.{IsExclusion, IsOrder}
use Rattle.kept_names.proofs.ListingLemmas.{holds_second, told_of_rising, told_of_texts}
use Rattle.view_rows.proofs.ModelRowLemmas.{row_end, row_start, row_step}
use Rattle.view_rows.proofs.name_pairs.add_row.Goals as goal

pub loop-place-init : goal.loop-place-init
loop-place-init c = record {
  before = λ first e. row_start name_cmp name_total c.args.names.now c.requires.listed.rising (IsOrder c.args.names.now c.args.model.now.words) first.0 c.args.pairs.now.before.items;
  exclusive = λ first e. row_start name_cmp name_total c.args.names.now c.requires.listed.rising (IsExclusion c.args.names.now c.args.model.now.words) first.0 c.args.pairs.now.exclusive.items;
}

pub loop-place-preserved : goal.loop-place-preserved
loop-place-preserved c =
    let a = c.index-names-at.result in
    let b = c.index-names-place.result in
    let ea : c.number-from.result ≡ a.1 = c.number-from.ensures in
    let eb : c.number-to.result ≡ b.1 = c.number-to.ensures in
    record {
      before = λ first e.
          let told = subst (λ (k : ℕ). (c.is_before-before.result ≡ true) ↔ HasOrder c.args.model.now.words a.1 k) eb (subst (λ (k : ℕ). (c.is_before-before.result ≡ true) ↔ HasOrder c.args.model.now.words k c.number-to.result) ea c.is_before-before.ensures) in
          row_step name_cmp name_total c.args.names.now c.requires.listed.rising (IsOrder c.args.names.now c.args.model.now.words) c.args.at c.loop-place.place a b c.requires.within c.index-names-at.is c.loop-place-test.true c.index-names-place.is
          c.args.pairs.now.before.items c.loop-place.pairs.before.items c.push_where.new.pairs.items c.is_before-before.result
          (told_of_texts name_cmp name_total c.args.names.now c.requires.listed.rising (HasOrder c.args.model.now.words) a b (c.args.at, c.requires.within, sym c.index-names-at.is) (c.loop-place.place, c.loop-place-test.true, sym c.index-names-place.is) c.is_before-before.result told)
          c.in_ok-push_where.ensures (λ f h. c.loop-place.invariant.before f h) first e;
      exclusive = λ first e.
          let R = λ (k l : ℕ). (nat_lt c.args.at c.loop-place.place ≡ true) × (k ≢ l) × HasExclusion c.args.model.now.words k l in
          let told = subst (λ (k : ℕ). (c.is_exclusive-exclusive.result ≡ true) ↔ R a.1 k) eb (subst (λ (k : ℕ). (c.is_exclusive-exclusive.result ≡ true) ↔ R k c.number-to.result) ea c.is_exclusive-exclusive.ensures) in
          row_step name_cmp name_total c.args.names.now c.requires.listed.rising (IsExclusion c.args.names.now c.args.model.now.words) c.args.at c.loop-place.place a b c.requires.within c.index-names-at.is c.loop-place-test.true c.index-names-place.is
          c.args.pairs.now.exclusive.items c.loop-place.pairs.exclusive.items c.push_where-in-loop-place.new.pairs.items c.is_exclusive-exclusive.result
          (told_of_rising name_cmp name_total c.args.model.now.names c.args.names.now c.requires.listed (HasExclusion c.args.model.now.words) c.args.at c.loop-place.place a b c.requires.within c.index-names-at.is c.loop-place-test.true c.index-names-place.is c.is_exclusive-exclusive.result told)
          c.in_ok-push_where-2.ensures (λ f h. c.loop-place.invariant.exclusive f h) first e;
    }

pub returns-clause-before : goal.returns-clause-before
returns-clause-before c = λ first e. row_end name_cmp name_total c.args.names.now c.requires.listed.rising (IsOrder c.args.names.now c.args.model.now.words)
    (λ x y h. holds_second name_cmp name_total c.args.names.now c.requires.listed.rising (HasOrder c.args.model.now.words) x y h)
    first.0 c.loop-place.place c.loop-place-test.false c.args.pairs.now.before.items c.loop-place.pairs.before.items (c.loop-place.invariant.before first e)

pub returns-clause-exclusive : goal.returns-clause-exclusive
returns-clause-exclusive c = λ first e. row_end name_cmp name_total c.args.names.now c.requires.listed.rising (IsExclusion c.args.names.now c.args.model.now.words)
    (λ x y h. holds_second name_cmp name_total c.args.names.now c.requires.listed.rising (HasExclusion c.args.model.now.words) x y h.1)
    first.0 c.loop-place.place c.loop-place-test.false c.args.pairs.now.exclusive.items c.loop-place.pairs.exclusive.items (c.loop-place.invariant.exclusive first e)
