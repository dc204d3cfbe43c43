use Rattle.std.proofs.Common.{arith, ◌≡◌, ◌+◌, ◌<◌, ℕ, true, length, length-drop, List, [], ◌∷◌, ◌++◌, get_or, take, ap, sym, subst, refl, ◌∙◌}
use Rattle.std.proofs.lemmas.List.{drop_more, get_or-drop, take_more}
use Rattle.std.specs.List.{All}
use Rattle.hypothesis_index.specs.Places.{width_of}
use Rattle.refute_tests.specs.Clearing.{HaveNamesBelow}
use Rattle.trace_types.specs.declared.named_trace.NamedTrace.{NamedTrace}
use Rattle.word_rows.specs.declared.entries.Entry.{Entry}
use Rattle.word_rows.specs.declared.views.View.{View}
use Rattle.word_rows.specs.Rows.{below}
use Rattle.trace_pass.specs.Rows.{AreRowsWithin}
use Rattle.trace_pass.specs.States.{RecorderState}
use Rattle.trace_pass.specs.inner.Parts.{HasOfferedNext, PartState, rest_of}
use Rattle.trace_pass.proofs.RowLemmas.{have_more}
use Rattle.trace_pass.proofs.recorders.Recorder.offer_next.Goals as goal

-- the names of the first of the traces that are left
first_names : (names : ℕ) (part seen : PartState) (x : NamedTrace) → seen ≡ part → All (HaveNamesBelow names) (rest_of part) → part.recorded < length part.given → HaveNamesBelow names (get_or seen.given seen.recorded x)
first_names names part seen x e all some =
    let here : All (HaveNamesBelow names) (rest_of seen) = subst (λ (p : PartState). All (HaveNamesBelow names) (rest_of p)) (sym e) all in
    let less : seen.recorded < length seen.given = subst (λ (p : PartState). p.recorded < length p.given) (sym e) some in
    let long = length-drop seen.recorded seen.given in
    let same : seen.recorded + 0 ≡ seen.recorded = omega arith in
    subst (HaveNamesBelow names) (get_or-drop seen.recorded seen.given 0 x ∙ ap (λ (k : ℕ). get_or seen.given k x) same) (here 0 x (omega arith))

pub offer-requires-clause-row : goal.offer-requires-clause-row
offer-requires-clause-row c =
    let mine = c.part.inside in
    let seen : PartState = record { pass = mine.pass; given = mine.given.now; recorded = mine.recorded; names = mine.names } in
    let n = c.args.self.now.names in
    let below_names = c.in_ok-row.ensures.fits n (first_names n c.args.part.now seen c.index-part-part.result c.part.view_is c.requires.names c.requires.some) in
    subst (λ (w : ℕ). below w c.in_ok-row.row ≡ true) (ap width_of (sym (ap (λ (s : RecorderState). s.names) c.self.view_is)) ∙ sym c.self.invariant.1) below_names

pub invariant_of-part : goal.invariant_of-part
invariant_of-part c =
    let mine = c.part.inside in let row = c.in_ok-row.row in
    let seen : PartState = record { pass = mine.pass; given = mine.given.now; recorded = mine.recorded; names = mine.names } in
    let n = c.args.self.now.names in let x = c.index-part-part.result in
    let less : mine.recorded < length mine.given.now = subst (λ (p : PartState). p.recorded < length p.given) (sym c.part.view_is) c.requires.some in
    let names : n ≡ mine.names = sym c.requires.table.names ∙ sym (ap (λ (p : PartState). p.names) c.part.view_is) in
    let within : below (width_of mine.names) row ≡ true = subst (λ (n : ℕ). below (width_of n) row ≡ true) names
    (c.in_ok-row.ensures.fits n (first_names n c.args.part.now seen x c.part.view_is c.requires.names c.requires.some)) in
    let done : c.offer.new.pass.view.done ≡ mine.pass.view.done ++ row ∷ [] = ap (λ (v : View). v.done) c.offer.ensures.done in
    record {
      within = omega arith;
      rows = subst (λ (ts : List NamedTrace). AreRowsWithin mine.names ts c.offer.new.pass.view.done) (sym (take_more mine.given.now mine.recorded x less))
          (subst (λ (rs : List (List Entry)). AreRowsWithin mine.names (take mine.recorded mine.given.now ++ get_or mine.given.now mine.recorded x ∷ []) rs) (sym done)
          (have_more mine.names _ _ _ row c.part.invariant.rows c.in_ok-row.ensures.exact within));
    }

pub returns-clause-ok : goal.returns-clause-ok
returns-clause-ok c =
    let mine = c.part.inside in
    let seen : PartState = record { pass = mine.pass; given = mine.given.now; recorded = mine.recorded; names = mine.names } in
    let next : PartState = record { pass = c.offer.new.pass; given = mine.given.now; recorded = mine.recorded + 1; names = mine.names } in
    let s : RecorderState = record { table = c.self.inside.table; names = c.self.inside.names } in
    let x = c.index-part-part.result in
    let less : mine.recorded < length mine.given.now = subst (λ (p : PartState). p.recorded < length p.given) (sym c.part.view_is) c.requires.some in
    let here : HasOfferedNext s seen next = record {
      trace = get_or mine.given.now mine.recorded x;
      next = drop_more mine.given.now mine.recorded x less;
      given = refl;
      recorded = refl;
      offered = record {
        row = c.in_ok-row.row;
        whole = c.in_ok-row.ensures.exact;
        table_id = c.offer.ensures.table;
        view = c.offer.ensures.done;
        stands = c.offer.ensures.stands;
        more = c.offer.ensures.more;
        one = c.offer.ensures.one;
        traces = take_more mine.given.now mine.recorded x less;
        names = refl;
      };
    } in
    subst (λ (r : RecorderState). HasOfferedNext r c.args.part.now next) c.self.view_is
    (subst (λ (p : PartState). HasOfferedNext s p next) c.part.view_is here)
