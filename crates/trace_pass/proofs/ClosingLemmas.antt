-- What comes back from a table that was not closed.
use Rattle.std.proofs.Common.{◌≡◌, ℕ, List, sym, ap, ◌∙◌, subst}
use Rattle.trace_types.specs.declared.named_trace.NamedTrace.{NamedTrace}
use Rattle.word_rule.specs.Faults.{IsCloseFault}
use Rattle.word_rule.specs.Holdings.{Holding, Opened}
use Rattle.word_rule.specs.declared.closing.CloseFault.{CloseFault}
use Rattle.word_rule.specs.declared.closing.CloseFault.TheVariants.{Memory, PassesOut}
use Rattle.trace_pass.specs.Rows.{AreRowsWithin}
use Rattle.trace_pass.specs.inner.Closing.{AreParts, HasParts}

same_parts : (names : ℕ) (traces : List NamedTrace) (table other : Opened) (pass also : Holding) → other ≡ table → also ≡ pass → AreParts names traces table pass → AreParts names traces other also
same_parts names traces table other pass also t p a = record {
  few = a.few;
  width = ap (λ (o : Opened). o.width) t ∙ a.width;
  rows = subst (λ (h : Holding). AreRowsWithin names traces h.view.done) (sym p) a.rows;
}

pub parts_back : (names : ℕ) (traces : List NamedTrace) (table : Opened) (pass : Holding) (fault : CloseFault) → IsCloseFault table pass fault → AreParts names traces table pass → HasParts names traces fault
parts_back names traces table pass (Memory t p) f a = same_parts names traces table t pass p f.1 f.2 a
parts_back names traces table pass (PassesOut t p have all) f a = same_parts names traces table t pass p f.3 f.4 a
