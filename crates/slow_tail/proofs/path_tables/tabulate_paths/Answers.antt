use Rattle.std.proofs.Common.{◌<◌, ◌+◌, ◌++◌, ℕ, Bool, true, false, List, length, take, arith, sym, ap, ◌∙◌, subst}
use Rattle.std.specs.Prelude.{not}
use Rattle.std.proofs.lemmas.List.{append-nil, take_all}
use Rattle.trace_paths.specs.Tables.{IsTableOf}
use Rattle.trace_types.specs.declared.named_segment.NamedSegment.{NamedSegment}
use Rattle.trace_rules.specs.SlowTraces.{marked, unmarked}
use Rattle.trace_paths.proofs.PathTimeLemmas.{joined}
use Rattle.slow_tail.proofs.MarkLemmas.{kept_more}
use Rattle.slow_tail.proofs.PathLemmas.{table_more}
use Rattle.slow_tail.proofs.path_tables.tabulate_paths.Goals as goal
use Rattle.slow_tail.proofs.path_tables.tabulate_paths.Goals.{then-marks-index+in_ok-add, else-marks-index+in_ok-add-2}

pub paths-preserved : goal.paths-preserved
paths-preserved c =
    let names = c.args.names in
    let marks = c.args.marks.now in
    let paths = c.args.paths.now in
    let i = c.paths.index in
    let path : List NamedSegment = c.index-paths-index.result in
    let count = c.requires.count in
    let within : i < length paths = c.paths-test.true in
    let mark_within : i < length marks = omega arith in
    let slow_before = marked (take i marks) (take i paths) in
    let rest_before = unmarked (take i marks) (take i paths) in
    elim c.if-marks-index.branch [
      | then-marks-index+in_ok-add w ↦
          let slow = kept_more (λ b. b) marks paths i path true mark_within within w.if-marks-index.true c.index-paths-index.is in
          let rest = kept_more not marks paths i path false mark_within within (ap not w.if-marks-index.true) c.index-paths-index.is ∙ append-nil rest_before in
          record {
            slow = subst (λ (t : List (List ℕ)). IsTableOf names (joined (marked (take (i + 1) marks) (take (i + 1) paths))) t) (sym w.slow-is)
                (subst (λ (l : List (List NamedSegment)). IsTableOf names (joined l) w.add.new.self) (sym slow)
                (table_more names slow_before path c.paths.slow w.add.new.self c.paths.invariant.slow
                (λ b t. subst (λ (p : List NamedSegment). IsTableOf (length c.paths.slow) (b ++ p) w.add.new.self) c.items-path.ensures (w.in_ok-add.ensures.added b t))));
            rest = subst (λ (t : List (List ℕ)). IsTableOf names (joined (unmarked (take (i + 1) marks) (take (i + 1) paths))) t) (sym w.rest-is)
                (subst (λ (l : List (List NamedSegment)). IsTableOf names (joined l) c.paths.rest) (sym rest) c.paths.invariant.rest);
          }
      | else-marks-index+in_ok-add-2 w ↦
          let slow = kept_more (λ b. b) marks paths i path false mark_within within w.if-marks-index.false c.index-paths-index.is ∙ append-nil slow_before in
          let rest = kept_more not marks paths i path true mark_within within (ap not w.if-marks-index.false) c.index-paths-index.is in
          record {
            slow = subst (λ (t : List (List ℕ)). IsTableOf names (joined (marked (take (i + 1) marks) (take (i + 1) paths))) t) (sym w.slow-is)
                (subst (λ (l : List (List NamedSegment)). IsTableOf names (joined l) c.paths.slow) (sym slow) c.paths.invariant.slow);
            rest = subst (λ (t : List (List ℕ)). IsTableOf names (joined (unmarked (take (i + 1) marks) (take (i + 1) paths))) t) (sym w.rest-is)
                (subst (λ (l : List (List NamedSegment)). IsTableOf names (joined l) w.add-else-marks-index.new.self) (sym rest)
                (table_more names rest_before path c.paths.rest w.add-else-marks-index.new.self c.paths.invariant.rest
                (λ b t. subst (λ (p : List NamedSegment). IsTableOf (length c.paths.rest) (b ++ p) w.add-else-marks-index.new.self) c.items-path.ensures (w.in_ok-add-2.ensures.added b t))));
          }
    ]

pub returns-clause-slow : goal.returns-clause-slow
returns-clause-slow c =
    let count = c.requires.count in
    let end = c.paths-test.false in
    let marks = take_all c.paths.index c.args.marks.now (omega arith) in
    let paths = take_all c.paths.index c.args.paths.now end in
    subst (λ (l : List (List NamedSegment)). IsTableOf c.args.names (joined l) c.paths.slow)
    (ap (λ (m : List Bool). marked m (take c.paths.index c.args.paths.now)) marks ∙ ap (marked c.args.marks.now) paths) c.paths.invariant.slow

pub returns-clause-rest : goal.returns-clause-rest
returns-clause-rest c =
    let count = c.requires.count in
    let end = c.paths-test.false in
    let marks = take_all c.paths.index c.args.marks.now (omega arith) in
    let paths = take_all c.paths.index c.args.paths.now end in
    subst (λ (l : List (List NamedSegment)). IsTableOf c.args.names (joined l) c.paths.rest)
    (ap (λ (m : List Bool). unmarked m (take c.paths.index c.args.paths.now)) marks ∙ ap (unmarked c.args.marks.now) paths) c.paths.invariant.rest
