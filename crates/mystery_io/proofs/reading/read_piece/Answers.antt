use Rattle.std.proofs.Common.{◌≡◌, ℕ, ◌++◌, ◌∙◌, arith, ap, drop, length, refl, sym, take}
use Rattle.std.specs.Prelude.{◌==◌}
use Rattle.std.proofs.lemmas.List.{length-drop, length-take}
use Rattle.std.proofs.lemmas.Result.{err_from_is_err_and}
use Rattle.mystery_io.specs.Readings.{after_bytes}
use Rattle.mystery_io.specs.declared.reading.ReadFault.TheVariants.{File, Memory}
use Rattle.mystery_io.proofs.ContentLemmas.{cause_at_once}
use Rattle.mystery_io.proofs.FeedLemmas.{feeds_after, keeps_first, whole_buffer}
use Rattle.mystery_io.proofs.reading.read_piece.Goals as goal

pub returns-in_err-make_room-clause-cause : goal.returns-in_err-make_room-clause-cause
returns-in_err-make_room-clause-cause g c =
    let p = err_from_is_err_and c.from_residual.result c.from_residual.ensures.1 in
    rw (p.1, p.2) (cause_at_once Memory c.args.index c.args.feeder.now.count (g.F.Files.given c.args.files.now) _ refl tt)

pub returns-in_default-clause-cause : goal.returns-in_default-clause-cause
returns-in_default-clause-cause g c =
    cause_at_once (File c.args.index) c.args.index c.args.feeder.now.count (g.F.Files.given c.args.files.now) _ (c.in_default.ensures.stays) (refl, omega (arith, c.requires.sound.fits))

pub returns-clause-takes : goal.returns-clause-takes
returns-clause-takes g c =
    let took = g.I.Intake.took in
    let old = c.make_room.new.self.buffer in
    let new = c.fill.new.buffer in
    let filled = c.make_room.new.self.filled in
    let count = c.in-Ok.count in
    let whole : take old.len (new ++ drop (length new) old.items) ≡ new = whole_buffer old.len new old.items (omega (arith, c.in-Ok.ensures.length, ap length c.deref_mut.ensures.value, old.ok.0)) in
    let long : length (take count (drop filled new)) ≡ count = omega (arith, length-take count (drop filled new), length-drop filled new, c.in-Ok.ensures.within) in
    record {
      more = _;
      feeds = feeds_after took _ _ _ _ c.in_ok-make_room.ensures.keeps (feeds_after took _ _ _ _ (keeps_first took _ _ refl refl refl refl (ap (take filled) whole ∙ c.in-Ok.ensures.kept ∙ ap (take filled) c.deref_mut.ensures.value)) c.add.ensures.feeds);
      given =
          c.in-Ok.ensures.gives ∙ ap (λ (n : ℕ). after_bytes (g.F.Files.given c.args.files.now) (take count (drop filled new)) (n == 0)) long
          ∙ ap (λ xs. after_bytes (g.F.Files.given c.args.files.now) (take count (drop filled xs)) (count == 0)) (sym whole);
    }
