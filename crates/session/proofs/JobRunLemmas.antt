-- Jobs one after another.
use Rattle.std.proofs.Common.{◌≡◌, ℕ, ◌+◌, ◌<◌, ◌≤◌, ◌^◌, List, [], ◌∷◌, ◌++◌, length, take, Option, refl, sym, ◌∙◌, ap, subst, append_assoc, arith, inl, inr}
use Rattle.std.specs.Prelude.{All, sum_by}
use Rattle.std.specs.Io.KnownBytes.{append_known}
use Rattle.std.proofs.lemmas.List.{append-nil}
use Rattle.std.proofs.lemmas.List.Elements.{All-head, All-tail}
use Rattle.std.proofs.lemmas.List.Sums.{sum_by-append, sum_by_push, sum_by-cons}
use Rattle.std.proofs.Math.Seq.{take-append-add, take-length}
use Rattle.day_partitions.specs.Books.{all_traces}
use Rattle.digest_facts.specs.Digests.{Digest}
use Rattle.book_laws.specs.Shown.{AreShown}
use Rattle.mystery_io.specs.Prefixes.{AppendsPrefix}
use Rattle.segment_names.specs.Known.{Known}
use Rattle.mystery_io.proofs.KnownLemmas.{known_append_twice, append_nothing}
use Rattle.text_rows.proofs.PartLemmas.{texts_more}
use Rattle.session.specs.Carrying.{CarriesOut, CutsShort, HasCommandCause, kept_count}
use Rattle.session_rules.specs.ReadyJobs.{IsReady, requests_in}
use Rattle.session.specs.SessionStates.{SessionState, Shows}
use Rattle.session.specs.declared.command_fault.CommandFault.{CommandFault}
use Rattle.session.specs.declared.command_fault.CommandFault.TheVariants.{Memory, Write, Over}
use Rattle.session_rules.specs.Parts.{Part, IsPart}
use Rattle.session_rules.specs.Sessions.{Does, Leads, Passes, State, first_state}
use Rattle.session_rules.specs.declared.job.Job.{Job}
use Rattle.session_rules.specs.declared.limit.Limit.{Limit}
use Rattle.trace_types.specs.Segments.{SegmentName}
use Rattle.trace_types.specs.declared.named_trace.NamedTrace.{NamedTrace}
use Rattle.session_rules.specs.JobTexts.{IsText}
use Rattle.session.specs.Running.{EndsIn, WritesFirst, WritesToLimit}
use Rattle.session_rules.specs.ReadyJobs.{AreReady}

-- ---- jobs and texts

-- some jobs and then others
leads_more : (w : ℕ) (js ks : List Job) (a b c : State) (ps qs : List Part) → Leads w js a ps b → Leads w ks b qs c → Leads w (js ++ ks) a (ps ++ qs) c
leads_more w [] ks a b c ps qs h k = rw (h.0, ← h.1) k
leads_more w (j ∷ js) ks a b c ps qs h k = (h.0, h.1, h.2 ++ qs, h.3, leads_more w js ks h.1 b c h.2 qs h.4 k, ap (λ (t : List Part). t ++ qs) h.5 ∙ append_assoc h.0 h.2 qs)

leads_one : (w : ℕ) (j : Job) (a b : State) (ps : List Part) → Does w j a ps b → Leads w (j ∷ []) a ps b
leads_one w j a b ps h = (ps, b, [], h, (refl, refl), sym (append-nil ps))

prefix_whole : (before now : Option (List ℕ)) (text : List ℕ) → now ≡ append_known before text → AppendsPrefix before now text
prefix_whole before now text w = record { count = length text; appended = w ∙ ap (append_known before) (sym (take-length text)) }

prefix_after : (before mid now : Option (List ℕ)) (text more : List ℕ) → mid ≡ append_known before text → AppendsPrefix mid now more → AppendsPrefix before now (text ++ more)
prefix_after before mid now text more w p = record {
  count = length text + p.count;
  appended = p.appended ∙ ap (λ (o : Option (List ℕ)). append_known o (take p.count more)) w
      ∙ known_append_twice before text (take p.count more) ∙ ap (append_known before) (sym (take-append-add text more p.count));
}

-- ---- the loop

pub nothing_left : (jobs : List Job) → length jobs ≡ 0 → jobs ≡ []
nothing_left [] h = refl
nothing_left (job ∷ jobs) h = absurd (omega (arith, h))

-- the jobs were carried out from the first state under a given digest, and a text of them was
-- written
pub record AreDone (workers : ℕ) (given : Digest SegmentName (List ℕ)) (jobs : List Job)
    (session : SessionState) (before now : Option (List ℕ)) : Type 0 where
  pub last : State
  pub text : List ℕ
  pub told : IsText workers given jobs last text
  pub shows : Shows session last
  pub written : now ≡ append_known before text

none_shown : (known : Known) (traces : List NamedTrace) → AreShown known traces [] → length traces ≤ 0
none_shown known [] h = omega arith
none_shown known (t ∷ traces) h = absurd h

pub none_done : (workers : ℕ) (given : Digest SegmentName (List ℕ)) (session : SessionState) (before : Option (List ℕ)) → Shows session (first_state given) → AreDone workers given [] session before before
none_done workers given session before shows = record {
  last = first_state given;
  text = [];
  told = record { parts = []; led = (refl, refl); told = refl };
  shows = shows;
  written = sym (append_nothing before);
}

-- a session that shows where one starts keeps no trace
pub none_kept : (given : Digest SegmentName (List ℕ)) (session : SessionState) → Shows session (first_state given) → kept_count session ≤ sum_by requests_in []
none_kept given session shows = none_shown session.known (all_traces session.book.days) shows.traces

pub more_kept : (done : List Job) (job : Job) (old new : ℕ) → old ≤ sum_by requests_in done → new ≤ old + requests_in job → new ≤ sum_by requests_in (done ++ job ∷ [])
more_kept done job old new few kept = omega (arith, few, kept, sum_by_push requests_in done job)

pub more_done : (workers : ℕ) (given : Digest SegmentName (List ℕ)) (done : List Job) (job : Job) (old new : SessionState) (before mid now : Option (List ℕ)) → (d : AreDone workers given done old before mid)
    → old.workers ≡ workers → CarriesOut old.workers job d.last new mid now → AreDone workers given (done ++ job ∷ []) new before now
more_done workers given done job old new before mid now d same carried = let c : CarriesOut workers job d.last new mid now = subst (λ (w : ℕ). CarriesOut w job d.last new mid now) same carried in record {
  last = c.next;
  text = d.text ++ c.text;
  told = record {
    parts = d.told.parts ++ c.parts;
    led = leads_more workers done (job ∷ []) (first_state given) d.last c.next d.told.parts c.parts d.told.led (leads_one workers job d.last c.next c.parts c.does);
    told = texts_more IsPart d.told.parts c.parts d.text c.text d.told.told c.told;
  };
  shows = c.shows;
  written = c.written ∙ ap (λ (o : Option (List ℕ)). append_known o c.text) d.written ∙ known_append_twice before d.text c.text;
}

-- the requests of the jobs so far and of the next are among all
pub next_fits : (done rest : List Job) (job : Job) (all : List Job) (kept : ℕ) → done ++ (job ∷ rest) ≡ all → AreReady all → kept ≤ sum_by requests_in done → kept + requests_in job < 2 ^ 32
next_fits done rest job all kept split ready few =
    let within : sum_by requests_in (done ++ (job ∷ rest)) < 2 ^ 32 = subst (λ (js : List Job). sum_by requests_in js < 2 ^ 32) (sym split) ready.few in
    omega (arith, sum_by-append requests_in done (job ∷ rest), sum_by-cons requests_in job rest)

pub next_ready : (done rest : List Job) (job : Job) (all : List Job) → done ++ (job ∷ rest) ≡ all → AreReady all → IsReady job
next_ready done rest job all split ready = at done (subst (λ (js : List Job). All IsReady js) (sym split) ready.each)
  where
    at : (js : List Job) → All IsReady (js ++ (job ∷ rest)) → IsReady job
    at [] h = All-head IsReady job rest h
    at (j ∷ js) h = at js (All-tail IsReady j (js ++ (job ∷ rest)) h)

-- ---- faults

-- nothing was begun
pub unbegun : (workers : ℕ) (given : Digest SegmentName (List ℕ)) (jobs : List Job) (before : Option (List ℕ)) → WritesFirst workers given jobs before before
unbegun workers given jobs before = ([], record { done = []; rest = jobs; split = refl; last = first_state given; first = []; left = []; led = (refl, refl); told = refl }, record { count = 0; appended = sym (append_nothing before) })

module _ (workers : ℕ) (given : Digest SegmentName (List ℕ)) (done rest : List Job) (job : Job) (all : List Job) (session : SessionState) (before mid now : Option (List ℕ)) (split : done ++ (job ∷ rest) ≡ all) (d : AreDone workers given done session before mid) where
  ended_before : now ≡ mid → WritesFirst workers given all before now
  ended_before same = (
    d.text,
    record {
      done = done;
      rest = job ∷ rest;
      split = sym split;
      last = d.last;
      first = d.told.parts;
      left = [];
      led = rw (append-nil d.told.parts) d.told.led;
      told = d.told.told;
    },
    prefix_whole before now d.text (same ∙ d.written),
  )

  ended_within : CutsShort workers job d.last mid now → WritesFirst workers given all before now
  ended_within c = (
    d.text ++ c.text,
    record {
      done = done ++ job ∷ [];
      rest = rest;
      split = sym split ∙ sym (append_assoc done (job ∷ []) rest);
      last = c.next;
      first = d.told.parts ++ c.first;
      left = c.left;
      led = rw (append_assoc d.told.parts c.first c.left) (leads_more workers done (job ∷ []) (first_state given) d.last c.next d.told.parts (c.first ++ c.left) d.told.led (leads_one workers job d.last c.next (c.first ++ c.left) c.does));
      told = texts_more IsPart d.told.parts c.first d.text c.text d.told.told c.told;
    },
    prefix_after before mid now d.text c.text d.written c.prefix,
  )

  ended_at : (limit : Limit) → Passes job d.last limit → now ≡ mid → WritesToLimit workers given all limit before now
  ended_at limit passes same = (
    d.text,
    record {
      done = done;
      job = job;
      rest = rest;
      split = sym split;
      last = d.last;
      told = d.told;
      passes = passes;
    },
    same ∙ d.written,
  )

  cause_ends : (fault : CommandFault) → HasCommandCause fault workers job d.last mid now → EndsIn fault workers given all before now
  cause_ends Memory (inl same) = ended_before same
  cause_ends Memory (inr c) = ended_within c
  cause_ends Write c = ended_within c
  cause_ends (Over limit) c = ended_at limit c.0 c.1

  pub fault_ends : (fault : CommandFault) → session.workers ≡ workers → HasCommandCause fault session.workers job d.last mid now → EndsIn fault workers given all before now
  fault_ends fault same cause = cause_ends fault (subst (λ (w : ℕ). HasCommandCause fault w job d.last mid now) same cause)
