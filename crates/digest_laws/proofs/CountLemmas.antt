-- Counts of a digest that can be those of traces.
use Rattle.std.proofs.Common.{◌≡◌, ℕ, ◌≤◌, ◌==◌, ◌&&◌, ◌||◌, not, Bool, true, false, refl, subst}
use Rattle.std.specs.Prelude.{nat_le}
use Rattle.std.proofs.lemmas.Bool.{and_from, and_parts, eq-eqb, eqb-true, le-leb, leb-true}
use Rattle.digest_reading.specs.Headers.{are_possible}
use Rattle.digest_reading.specs.declared.digest_counts.DigestCounts.{DigestCounts}

either_of : (a b : ℕ) → (not (a == 0) || (b == 0)) ≡ true → a ≡ 0 → b ≡ 0
either_of a b h e = eqb-true b 0 (subst (λ (n : ℕ). (not (n == 0) || (b == 0)) ≡ true) e h)

either_from : (a b : ℕ) → (a ≡ 0 → b ≡ 0) → (not (a == 0) || (b == 0)) ≡ true
either_from a b h = by (a == 0) refl
  where
    by : (c : Bool) → (a == 0) ≡ c → (not (a == 0) || (b == 0)) ≡ true
    by true e = rw (e, eq-eqb b 0 (h (eqb-true a 0 e))) refl
    by false e = rw e refl

-- what it says of counts that they can be those of traces
pub record ArePossible (c : DigestCounts) : Type 0 where
  pub tasks : c.tasks ≤ 64
  pub names : c.names ≤ 512
  pub no_fewer : c.tasks ≤ c.names
  pub some_task : c.tasks ≡ 0 → c.names ≡ 0
  pub some_trace : c.traces ≡ 0 → c.names ≡ 0
  pub no_more_days : c.days ≤ c.traces
  pub some_day : c.days ≡ 0 → c.traces ≡ 0

pub possible_of : (c : DigestCounts) → are_possible c ≡ true → ArePossible c
possible_of c h =
    let a : Bool = nat_le c.tasks 64 in
    let b : Bool = nat_le c.names 512 in
    let d : Bool = nat_le c.tasks c.names in
    let e : Bool = not (c.tasks == 0) || (c.names == 0) in
    let f : Bool = not (c.traces == 0) || (c.names == 0) in
    let g : Bool = nat_le c.days c.traces in
    let k : Bool = not (c.days == 0) || (c.traces == 0) in
    let p6 = and_parts (a && b && d && e && f && g) k h in
    let p5 = and_parts (a && b && d && e && f) g p6.0 in
    let p4 = and_parts (a && b && d && e) f p5.0 in
    let p3 = and_parts (a && b && d) e p4.0 in
    let p2 = and_parts (a && b) d p3.0 in
    let p1 = and_parts a b p2.0 in
    record {
      tasks = leb-true c.tasks 64 p1.0;
      names = leb-true c.names 512 p1.1;
      no_fewer = leb-true c.tasks c.names p2.1;
      some_task = either_of c.tasks c.names p3.1;
      some_trace = either_of c.traces c.names p4.1;
      no_more_days = leb-true c.days c.traces p5.1;
      some_day = either_of c.days c.traces p6.1;
    }

pub possible_from : (c : DigestCounts) → ArePossible c → are_possible c ≡ true
possible_from c p =
    let a : Bool = nat_le c.tasks 64 in
    let b : Bool = nat_le c.names 512 in
    let d : Bool = nat_le c.tasks c.names in
    let e : Bool = not (c.tasks == 0) || (c.names == 0) in
    let f : Bool = not (c.traces == 0) || (c.names == 0) in
    let g : Bool = nat_le c.days c.traces in
    let k : Bool = not (c.days == 0) || (c.traces == 0) in
    and_from (a && b && d && e && f && g) k
    (and_from (a && b && d && e && f) g
    (and_from (a && b && d && e) f
    (and_from (a && b && d) e
    (and_from (a && b) d
    (and_from a b (le-leb c.tasks 64 p.tasks) (le-leb c.names 512 p.names))
    (le-leb c.tasks c.names p.no_fewer))
    (either_from c.tasks c.names p.some_task))
    (either_from c.traces c.names p.some_trace))
    (le-leb c.days c.traces p.no_more_days))
    (either_from c.days c.traces p.some_day)
