use Rattle.std.proofs.Common.{ℕ, Bool, cond, get_or, take, sym, ap, ◌∙◌, subst, ◌<◌, length-set, rules}
use Rattle.std.proofs.lemmas.List.Folds.{list_any_more}
use Rattle.word_rows.specs.declared.entries.Entry.{Entry}
use Rattle.word_rows.specs.Rows.{entry_clears, clears}
use Rattle.word_rows.specs.Words.{bit_of}
use Rattle.word_rows.proofs.BitLemmas.{write_clears}
use Rattle.word_rows.proofs.sheets.clear_entries.Goals as goal

pub loop-entry-preserved : goal.loop-entry-preserved
loop-entry-preserved c =
    let inv = c.loop-entry.invariant in let entries = c.args.entries.now in let at = c.loop-entry.entry-index in
    let words = c.loop-entry.words in let zero_entry : Entry = record { word = 0; mask = 0 } in let e : Entry = get_or entries at zero_entry in
    record {
      long = length-set words e.word _ ∙ inv.long;
      met = λ i b h l. let old = bit_of c.args.words.now i b in
          write_clears words e old i b (clears (take at entries) i b) (subst (λ (n : ℕ). i < n) (sym inv.long) h) l (search rules) (inv.met i b h l)
          ∙ ap (λ (t : Bool). cond t 0 old) (sym (list_any_more (λ (x : Entry). entry_clears x i b) entries at zero_entry c.loop-entry-test.true));
    }
