use Rattle.std.proofs.Common.{◌≡◌, ◌∙◌, ◌==◌, arith, false}
use Rattle.std.proofs.lemmas.Bool.{ne_eqb}
use Rattle.whole_files.proofs.FileLemmas.{came_more, fails_with}
use Rattle.whole_files.proofs.file_reading.read_rest.Goals as goal

pub returns-then-count-eq0-clause-reads : goal.returns-then-count-eq0-clause-reads
returns-then-count-eq0-clause-reads g c before came =
    let more = came_more c.args.name.now c.pieces.bytes.items c.read_piece.new.bytes.items c.in_ok-count.count before _ _ (c.pieces.invariant.came before came) c.in_ok-count.ensures.reads in
    rw c.if-count-eq0.true at more

pub returns-then-len-most-clause-cause : goal.returns-then-len-most-clause-cause
returns-then-len-most-clause-cause g c before came =
    let none : (c.in_ok-count.count == 0) ≡ false = ne_eqb c.in_ok-count.count 0 (λ e. omega (arith, e, c.if-count-eq0.false)) in
    let more = came_more c.args.name.now c.pieces.bytes.items c.read_piece.new.bytes.items c.in_ok-count.count before _ _ (c.pieces.invariant.came before came) c.in_ok-count.ensures.reads in
    fails_with c.args.most c.args.name.now c.read_piece.new.bytes.items false before _ _ (rw none at more) (λ e. omega (arith, c.if-len-most.true, c.len.ensures, c.read_piece.new.bytes.ok.0))

pub pieces-preserved : goal.pieces-preserved
pieces-preserved g c =
    let at = c.pieces.invariant in
    let none : (c.in_ok-count.count == 0) ≡ false = ne_eqb c.in_ok-count.count 0 (λ e. omega (arith, e, c.if-count-eq0.false)) in
    record {
      is_open = c.in_ok-count.ensures.is_open;
      opens = c.in_ok-count.ensures.opens ∙ at.opens;
      tallied = c.in_ok-count.ensures.tallied ∙ at.tallied;
      came = λ before came.
          let more = came_more c.args.name.now c.pieces.bytes.items c.read_piece.new.bytes.items c.in_ok-count.count before _ _ (at.came before came) c.in_ok-count.ensures.reads in
          rw none at more;
      most = omega (arith, c.if-len-most.false, c.len.ensures, c.read_piece.new.bytes.ok.0);
    }
