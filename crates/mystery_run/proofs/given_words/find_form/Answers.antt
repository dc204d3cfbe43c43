use Rattle.std.proofs.Common.{◌≡◌, ◌∙◌, ap, arith, length, not, refl, sym}
use Rattle.mystery_run.specs.CommandLines.{is_filled}
use Rattle.mystery_run.proofs.GivenLemmas.{after_more, after_none, few_given, filled_more, filled_none, found_form, no_form, unfilled, within_more}
use Rattle.mystery_run.proofs.given_words.find_form.Goals as goal

pub returns-then-is_empty-clause-form : goal.returns-then-is_empty-clause-form
returns-then-is_empty-clause-form c =
    let file = c.in-Some.file.now in
    let empty : is_filled file ≡ not c.is_empty.result = ap not (sym (c.is_empty.ensures ∙ rw c.as_str.ensures refl)) in
    no_form _ _ _ c.options.invariant.filled (unfilled c.args.words.now c.options.at file (sym c.in-Some.ensures) (empty ∙ ap not c.if-is_empty.true))

pub options-preserved : goal.options-preserved
options-preserved c =
    let words = c.args.words.now in
    let file = c.in-Some.file.now in
    let found = sym c.in-Some.ensures in
    let filled : is_filled file ≡ not c.is_empty.result = ap not (sym (c.is_empty.ensures ∙ rw c.as_str.ensures refl)) in
    record {
      within = within_more words c.options.at file found;
      filled = c.options.invariant.filled ∙ filled_more words c.options.at file found (filled ∙ ap not c.if-is_empty.false);
      after = c.options.invariant.after ∙ after_more words c.options.at file found;
    }

pub returns-clause-form : goal.returns-clause-form
returns-clause-form c =
    let words = c.args.words.now in
    let found = sym c.in_default.ensures in
    found_form _ _ _ _ c.options.invariant.filled (filled_none words c.options.at found) (c.options.invariant.after ∙ after_none words c.options.at found)

pub returns-clause-few : goal.returns-clause-few
returns-clause-few c =
    let words = c.args.words.now in
    let same = c.options.invariant.after ∙ after_none words c.options.at (sym c.in_default.ensures) in
    omega (arith, few_given words, ap length same)
