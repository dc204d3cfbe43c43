use Rattle.std.proofs.Common.{◌∙◌, ◌++◌, ◌∷◌, [], ap, append-nil, sym}
use Rattle.mystery_run.proofs.GivenLemmas.{copied_more, given_none, within_more}
use Rattle.mystery_run.proofs.given_words.copy_given.Goals as goal

pub options-preserved : goal.options-preserved
options-preserved c =
    let words = c.args.words.now in
    let found = sym c.in-Some.ensures in
    let pushed = c.in_ok-push.ensures.items ∙ ap (λ file. c.options.files.items ++ file ∷ []) c.in_ok-copy.ensures in
    record {
      within = within_more words c.options.at c.in-Some.file.now found;
      copied = copied_more words c.options.at c.in-Some.file.now found c.push.new.self.items c.options.files.items pushed c.options.invariant.copied;
    }

pub returns : goal.returns
returns c =
    let words = c.args.words.now in
    sym (append-nil c.options.files.items) ∙ ap (λ rest. c.options.files.items ++ rest) (sym (given_none words c.options.at (sym c.in_default.ensures))) ∙ c.options.invariant.copied
