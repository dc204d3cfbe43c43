-- The rows of a replay, one step after another.
use Rattle.std.proofs.Common.{◌≡◌, ℕ, ◌+◌, ◌<◌, List, [], ◌∷◌, ◌++◌, length, take, drop, get_or, Option, Result, Ok, Err, refl, sym, ap, ◌∙◌, subst, append_assoc, arith}
use Rattle.std.specs.Io.KnownBytes.{append_known}
use Rattle.std.proofs.lemmas.List.{append-nil, take_more, take-append-drop}
use Rattle.std.proofs.lemmas.Grind.{common_steps}
use Rattle.mystery_io.specs.Prefixes.{AppendsPrefix}
use Rattle.word_rows.specs.declared.events.StepEvent.{StepEvent}
use Rattle.word_rows.specs.declared.replies.Reply.{Reply}
use Rattle.word_rows.specs.Machine.{StepState, Fault, no_seat, row_open, bad_share, bad_word, shares_out, step, steps}
use Rattle.step_core.specs.declared.step_fault.StepFault.{StepFault}
use Rattle.step_core.specs.declared.step_fault.StepFault.TheVariants as faults
use Rattle.step_core.specs.StepFaults.{HasStepFault}
use Rattle.text_rows.specs.declared.print_fault.PrintFault.{PrintFault}
use Rattle.text_rows.specs.declared.print_fault.PrintFault.TheVariants as printing
use Rattle.mystery_io.proofs.KnownLemmas.{append_nothing}
use Rattle.word_rows.proofs.HistoryLemmas.{steps_follow}
use Rattle.mystery_run.specs.ReplayTexts.{fault_row, step_row}
use Rattle.text_rows.specs.Printing.{Prints, PrintsText}
use Rattle.text_rows.specs.TextsFollow.{PrintsFollow, PrefixFollows, PrefixGoesOn}
use Rattle.mystery_run.specs.inner.Replaying.{row_of_fault, steps_text}

-- nothing of a text is a prefix of it
pub unbegun : (before : Option (List ℕ)) (text : List ℕ) → AppendsPrefix before before text
unbegun before text = record { count = 0; appended = sym (append_nothing before) ∙ ap (append_known before) (sym (take_none text)) }
  where
    take_none : (xs : List ℕ) → take 0 xs ≡ []
    take_none xs = grind (arith, common_steps)

-- the steps of one list, and then those of another
steps_text-append : (s : StepState) (es fs : List StepEvent) → steps_text s (es ++ fs) ≡ steps_text s es ++ steps_text (steps s es).0 fs
steps_text-append s [] fs = refl
steps_text-append s (e ∷ es) fs =
    ap (λ (t : List ℕ). step_row (e, (step s e).1) ++ t) (steps_text-append (step s e).0 es fs)
    ∙ sym (append_assoc (step_row (e, (step s e).1)) (steps_text (step s e).0 es) (steps_text (steps (step s e).0 es).0 fs))

-- the first steps and one more
module _ (s : StepState) (events : List StepEvent) (i : ℕ) (e : StepEvent) (lt : i < length events) (is : e ≡ get_or events i e) where
  taken : take (i + 1) events ≡ take i events ++ e ∷ []
  taken = take_more events i e lt ∙ ap (λ (x : StepEvent). take i events ++ x ∷ []) (sym is)

  -- the state after one more
  pub state_more : (mid next : StepState) → mid ≡ (steps s (take i events)).0 → next ≡ (step mid e).0 → next ≡ (steps s (take (i + 1) events)).0
  state_more mid next at made =
      made ∙ ap (λ (t : StepState). (step t e).0) at ∙ sym (steps_follow s (take i events) (e ∷ [])) ∙ ap (λ (es : List StepEvent). (steps s es).0) (sym taken)

  -- the text of one more
  text_more : (mid : StepState) → mid ≡ (steps s (take i events)).0 → steps_text s (take i events) ++ step_row (e, (step mid e).1) ≡ steps_text s (take (i + 1) events)
  text_more mid at =
      ap (λ (t : StepState). steps_text s (take i events) ++ step_row (e, (step t e).1)) at
      ∙ ap (λ (t : List ℕ). steps_text s (take i events) ++ t) (sym (append-nil (step_row (e, (step (steps s (take i events)).0 e).1))))
      ∙ sym (steps_text-append s (take i events) (e ∷ [])) ∙ ap (steps_text s) (sym taken)

  pub step_printed : PrintsFollow → (mid : StepState) (before now then : Option (List ℕ)) (waited between waits : List ℕ) → mid ≡ (steps s (take i events)).0 → Prints before now waited between (steps_text s (take i events)) → Prints now then between waits (step_row (e, (step mid e).1))
      → Prints before then waited waits (steps_text s (take (i + 1) events))
  step_printed follow mid before now then waited between waits at p q =
      subst (λ (t : List ℕ). Prints before then waited waits t) (text_more mid at) (follow before now then waited between waits (steps_text s (take i events)) (step_row (e, (step mid e).1)) p q)

  -- a row that was not printed to its end leaves a prefix of all rows
  pub step_cut : PrefixFollows → PrefixGoesOn → (mid : StepState) (before now then : Option (List ℕ)) (waited between : List ℕ) → mid ≡ (steps s (take i events)).0 → Prints before now waited between (steps_text s (take i events)) → AppendsPrefix now then (between ++ step_row (e, (step mid e).1))
      → AppendsPrefix before then (waited ++ steps_text s events)
  step_cut follow goes_on mid before now then waited between at p f =
      let rest : List ℕ = steps_text (steps s (take (i + 1) events)).0 (drop (i + 1) events) in
      let all : steps_text s (take (i + 1) events) ++ rest ≡ steps_text s events =
      sym (steps_text-append s (take (i + 1) events) (drop (i + 1) events)) ∙ ap (steps_text s) (take-append-drop (i + 1) events) in
      let both : List ℕ = steps_text s (take i events) ++ step_row (e, (step mid e).1) in
      let whole : both ++ rest ≡ steps_text s events =
      ap (λ (t : List ℕ). t ++ rest) (text_more mid at) ∙ all in
      subst (λ (t : List ℕ). AppendsPrefix before then (waited ++ t)) whole
      (goes_on before then waited both rest (follow before now then waited between (steps_text s (take i events)) (step_row (e, (step mid e).1)) p f))

-- the row of a fault is that of its step, and where memory ran out nothing was printed
module _ (goes_on : PrefixGoesOn) {S T : Type 0} (written : S → Option (List ℕ)) (count : S → ℕ) (result : Result T PrintFault) (old new : S) (held holds : List ℕ) (s : StepState) (e : StepEvent) where
  of_fault : (fault : Fault) → step s e ≡ (s, Err fault) → PrintsText written count result old new held holds (fault_row fault) → PrintsText written count result old new held holds (step_row (e, (step s e).1))
  of_fault fault made p =
      subst (λ (r : Result Reply Fault). PrintsText written count result old new held holds (step_row (e, r))) (sym (ap (λ (x : StepState × Result Reply Fault). x.1) made)) p

  of_memory : (r : Result T PrintFault) → r ≡ Err printing.Memory → PrintsText written count r old new held holds [] → PrintsText written count r old new held holds (step_row (e, (step s e).1))
  of_memory (Ok x) is p = cc
  of_memory (Err f) is p = record { all = tt; prefix = goes_on (written old) (written new) held [] (step_row (e, (step s e).1)) p.prefix; counted = p.counted }

  pub fault_printed : (fault : StepFault) → HasStepFault s e fault → (fault ≡ faults.Memory → result ≡ Err printing.Memory) → PrintsText written count result old new held holds (row_of_fault fault) → PrintsText written count result old new held holds (step_row (e, (step s e).1))
  fault_printed faults.Memory refused memory p = of_memory result (memory refl) p
  fault_printed (faults.NoSeat seat) refused memory p = of_fault (no_seat seat) refused p
  fault_printed (faults.BadShare have asked) refused memory p = of_fault (bad_share have asked) refused p
  fault_printed (faults.BadWord word width) refused memory p = of_fault (bad_word word width) refused p
  fault_printed (faults.SharesOut have all) refused memory p = of_fault (shares_out have all) refused p
  fault_printed (faults.RowOpen seat) refused memory p = of_fault (row_open seat) refused p
