-- What a run of `serve` ends with, by what the authority did or why it did not begin.
use Rattle.std.proofs.Common.{◌≡◌, ◌∙◌, ℕ, ◌<◌, ◌≤◌, List, Option, Some, None, Result, Ok, Err, refl, ap, subst, sym}
use Rattle.std.{proofs.Common.{arith, inl, inr, ◌∷◌, drop}, specs.{Global.Vec, Io.KnownBytes.Keeps}}
use Rattle.dir_bytes.specs.{Causes.Rose, Streams.ReadsAll}
use Rattle.daemon_words.specs.declared.command.Command.TheVariants as command
use Rattle.daemon_words.specs.declared.{serving.Serve.Serve, stop.Stop.Stop}
use Rattle.exit_status.specs.{Told.by_serve, declared.status.Status.Status}
use Rattle.exit_status.specs.declared.status.Refusal.TheVariants as refusal
use Rattle.exit_status.specs.declared.status.Status.TheVariants as status
use Rattle.daemon_words.specs.declared.stop.Stop.TheVariants as stop
use Rattle.serve_command.specs.{Passed.{Outside, Served}, Serving.{AsksFirst, AsksClock, HasServed, ServeAnswers}}
use Rattle.serve_command.specs.{Serving.ServesNone, Starting.RefusesToServe, declared.refusal.ServeRefusal.ServeRefusal}
use Rattle.serve_command.proofs.NotRefused.{not_refused}
use Rattle.serve_command.specs.Passed.TheVariants as served
use Rattle.serve_command.specs.declared.refusal.ServeRefusal.TheVariants as serve
use Rattle.authority_daemon.specs.{Commands.May, Moments.{Moment, Telling, TellsFaults}, Runs.{Told, first_count}}
use Rattle.authority_daemon.specs.{Runs.input_limit, Served.{AtOnce, EndsOn, EndsServing, HasNotServed, IsRefusedAt}}
use Rattle.authority_daemon.{specs.Served.{IsServed, ServesOnlySo, status_of}, proofs.Ending.{has_ended, is_within}}
use Rattle.authority_daemon.proofs.Refusals.{serve_no_gate, serve_no_signer, serve_verifier}

-- what holds of the bytes that were read holds of what the source had
told_of : (left after : Option (List ℕ)) (bytes : Vec ℕ) (P : List ℕ → Type 0)
    → ReadsAll left after input_limit (Ok bytes) → P bytes.items → Told left P
told_of None after bytes P reads p = tt
told_of (Some input) after bytes P reads p = subst (λ (b : List ℕ). P b) reads.0 p

-- what was written is as it was
keeps_itself : (written : Option (List ℕ)) → Keeps written written
keeps_itself None = tt
keeps_itself (Some text) = refl

-- the count of the first verifier rose
pub first_rose : {V : Type 0} (faults : V → ℕ) (verifiers verifiers' : List V) (why : Stop ServeRefusal)
    → AsksFirst faults verifiers verifiers' why → why ≡ stop.Refused serve.Verifier
    → Rose (first_count faults verifiers) (first_count faults verifiers')
first_rose faults verifiers verifiers' why asks is =
    let was : first_count faults verifiers ≡ faults asks.first = ap (first_count faults) asks.were in
    let now : first_count faults verifiers' ≡ faults asks.later = ap (first_count faults) asks.are in
    subst (λ (n : ℕ). Rose n (first_count faults verifiers')) (sym was)
    (subst (λ (n : ℕ). Rose (faults asks.first) n) (sym now) (asks.cause is))

-- and it is told where it is greater
pub first_told : {V : Type 0} (faults : V → ℕ) (verifiers verifiers' : List V) (why : Stop ServeRefusal)
    → AsksFirst faults verifiers verifiers' why → first_count faults verifiers < first_count faults verifiers'
    → why ≡ stop.Refused serve.Verifier
first_told faults verifiers verifiers' why asks more =
    let was : first_count faults verifiers ≡ faults asks.first = ap (first_count faults) asks.were in
    let now : first_count faults verifiers' ≡ faults asks.later = ap (first_count faults) asks.are in
    asks.told (subst (λ (n : ℕ). n < faults asks.later) was
    (subst (λ (n : ℕ). first_count faults verifiers < n) now more))

-- the others are as they were
others_stay : {X : Type 0} (before now : List X) (first later : X) (others : List X) → before ≡ first ∷ others
    → now ≡ later ∷ others → drop 1 now ≡ drop 1 before
others_stay {X} before now first later others were are =
    ap (λ (l : List X). drop 1 l) are ∙ sym (ap (λ (l : List X). drop 1 l) were)

-- where nothing is said it is told
told_any : {A : Type 0} (left : Option A) → Told left (λ x. Unit {0})
told_any None = tt
told_any (Some x) = tt

module _ {S C V N G L : Type 0} (its : May N) (tells : Telling C G) (wanted : Serve)
    (old new : Moment S C V N G L) where
  -- nothing outside was changed but the first clock and the first verifier
  pub none_served : {K E : Type 0} (written : K → Option (List ℕ)) (faults : V → ℕ)
      (was is : Outside S K E C V N G L) (why : Stop ServeRefusal) (Is : ℕ → Result Served (Stop ServeRefusal) → Type 0)
      → ServesNone faults was is why → AsksClock tells.asks tells.last old.clocks new.clocks Is (Err why)
      → old.verifiers ≡ was.verifiers.items → new.verifiers ≡ is.verifiers.items → old.gates ≡ was.gates.items
      → new.gates ≡ is.gates.items → old.signer ≡ was.signer → new.signer ≡ is.signer
      → old.link ≡ was.link → new.link ≡ is.link → old.written ≡ written was.sink → new.written ≡ written is.sink
      → HasNotServed its tells wanted old new
  none_served written faults was is why Is none once v v' g g' n n' l l' w w' = record {
    gates = g' ∙ (ap (λ (v : Vec G). v.items) none.gates ∙ sym g);
    signer = n' ∙ (none.signer ∙ sym n);
    link = l' ∙ (none.link ∙ sym l);
    written =
        let same : new.written ≡ old.written = w' ∙ (ap written none.sink ∙ sym w) in
        subst (λ (now : Option (List ℕ)). Keeps old.written now) (sym same) (keeps_itself old.written);
    other_clocks = others_stay old.clocks new.clocks once.first once.clock once.others once.were once.no_more;
    other_verifiers =
        others_stay old.verifiers new.verifiers none.verifiers.first none.verifiers.later none.verifiers.others
        (v ∙ none.verifiers.were) (v' ∙ none.verifiers.are);
  }

  -- there was no memory: the source did not fail, and nothing was written
  pub without_memory : (old.read_faults < new.read_faults → ⊥) → new.written ≡ old.written
      → new.write_faults ≡ old.write_faults → IsServed its tells wanted old new status.Memory
  without_memory still same quiet = record {
    words = tt;
    ends = told_any old.left;
    served = subst (λ (now : Option (List ℕ)). Keeps old.written now) (sym same) (keeps_itself old.written);
    unasked = tt;
    limit = told_any old.left;
    read = tt;
    stops = tt;
    source = record { cause = λ e. absurd (cc e); told = λ more. absurd (still more) };
    sink = record { cause = λ e. absurd (cc e); told = λ more. absurd (omega (arith, more, quiet)) };
    verifier = record { cause = λ e. absurd (cc e); told = λ more. inr tt };
    gates = λ e. absurd (cc e);
    signer = λ e. cc e;
  }

module _ {S C V N G L : Type 0} (its : May N) (tells : Telling C G) (wanted : Serve) (old new : Moment S C V N G L)
    (bytes : Vec ℕ) (after : Option (List ℕ)) (reads : ReadsAll old.left after input_limit (Ok bytes))
    (left : new.left ≡ after) (still : new.read_faults ≤ old.read_faults) where
  -- the source did not fail
  quiet : (s : Status) → (s ≡ status.ReadFault → ⊥) → TellsFaults old.read_faults new.read_faults (s ≡ status.ReadFault)
  quiet s no_fault = record {
    cause = λ ends. absurd (no_fault ends);
    told = λ more. absurd (omega (arith, more, still));
  }

  -- an authority served, and ended so
  serving : (how : Served) → EndsServing its tells wanted old new bytes.items how
      → IsServed its tells wanted old new (status_of how)
  serving served.Whole at = record {
    words = (command.Serve wanted, refl);
    ends = told_of old.left after bytes (λ b. EndsOn its tells wanted old new b status.Done) reads at;
    served = tt;
    unasked = tt;
    limit = is_within old.left after bytes reads;
    read = has_ended old.left after new.left bytes left reads;
    stops = tt;
    source = quiet status.Done (λ e. cc e);
    sink = record {
      cause = λ e. absurd (cc e);
      told = λ more. absurd (omega (arith, more, at.is.serves.1.such.1));
    };
    verifier = record { cause = λ e. absurd (cc e); told = λ more. inr tt };
    gates = λ e. absurd (cc e);
    signer = λ e. cc e;
  }
  serving served.WriteFault at = record {
    words = (command.Serve wanted, refl);
    ends = told_of old.left after bytes (λ b. EndsOn its tells wanted old new b status.WriteFault) reads at;
    served = tt;
    unasked = tt;
    limit = is_within old.left after bytes reads;
    read = has_ended old.left after new.left bytes left reads;
    stops = tt;
    source = quiet status.WriteFault (λ e. cc e);
    sink = record { cause = λ e. at.is.serves.1.such.2; told = λ more. inl refl };
    verifier = record { cause = λ e. absurd (cc e); told = λ more. inr tt };
    gates = λ e. absurd (cc e);
    signer = λ e. cc e;
  }
  serving served.NoMemory at =
      without_memory its tells wanted old new (λ more. omega (arith, more, still)) at.is.serves.0 at.is.serves.1
  serving served.GateFault at = record {
    words = (command.Serve wanted, refl);
    ends = told_of old.left after bytes (λ b. EndsOn its tells wanted old new b (status.Refused refusal.Gate)) reads at;
    served = tt;
    unasked = tt;
    limit = is_within old.left after bytes reads;
    read = has_ended old.left after new.left bytes left reads;
    stops = tt;
    source = quiet (status.Refused refusal.Gate) (λ e. cc e);
    sink = record { cause = λ e. absurd (cc e); told = λ more. inr refl };
    verifier = record { cause = λ e. absurd (cc e); told = λ more. inr tt };
    gates = λ e. at.is.serves.0;
    signer = λ e. cc e;
  }

  -- a refusal ends so
  ends_refused : (b : List ℕ) (own : ServeRefusal)
      → AtOnce tells old.clocks (IsRefusedAt its tells wanted old new b (by_serve own))
      → EndsOn its tells wanted old new b (status.Refused (by_serve own))
  ends_refused b (serve.File why) at = at
  ends_refused b (serve.Station why) at = at
  ends_refused b serve.Verifier at = at

  -- and nothing was served
  serves_none : (own : ServeRefusal) → HasNotServed its tells wanted old new
      → ServesOnlySo its tells wanted old new (status.Refused (by_serve own))
  serves_none (serve.File why) none = none
  serves_none (serve.Station why) none = none
  serves_none serve.Verifier none = none

  -- the input is refused
  refused : (own : ServeRefusal)
      → AtOnce tells old.clocks (IsRefusedAt its tells wanted old new bytes.items (by_serve own))
      → HasNotServed its tells wanted old new → new.write_faults ≡ old.write_faults
      → (own ≡ serve.Verifier → Rose old.verifier_faults new.verifier_faults)
      → (old.verifier_faults < new.verifier_faults → own ≡ serve.Verifier)
      → IsServed its tells wanted old new (status.Refused (by_serve own))
  refused own at none unwritten failed told = record {
    words = (command.Serve wanted, refl);
    ends = told_of old.left after bytes (λ b. EndsOn its tells wanted old new b (status.Refused (by_serve own))) reads
        (ends_refused bytes.items own at);
    served = serves_none own none;
    unasked = tt;
    limit = is_within old.left after bytes reads;
    read = has_ended old.left after new.left bytes left reads;
    stops = tt;
    source = quiet (status.Refused (by_serve own)) (λ e. cc e);
    sink = record { cause = λ e. absurd (cc e); told = λ more. absurd (omega (arith, more, unwritten)) };
    verifier = record {
      cause = λ e. failed (serve_verifier own (cc e));
      told = λ more. inl (ap (λ (r : ServeRefusal). status.Refused (by_serve r)) (told more));
    };
    gates = λ e. absurd (serve_no_gate own (cc e));
    signer = λ e. serve_no_signer own (cc e);
  }

  module _ (input : List ℕ) (same : input ≡ bytes.items) (clocks' : List C) where
    -- What was answered to the bytes as they were handed on.
    abbrev Answers : ℕ → Result Served (Stop ServeRefusal) → Type 0
    Answers now result = ServeAnswers its.rules its.gives its.steps tells.last tells.faults tells.closed
        wanted.bandwidths wanted.newest now input old.gates new.gates old.written new.written old.write_faults
        new.write_faults result

    -- it served
    pub has_served : (how : Served) (s : Status) → s ≡ status_of how
        → AsksClock tells.asks tells.last old.clocks clocks' Answers (Ok how) → IsServed its tells wanted old new s
    has_served how s is once =
        subst (λ (t : Status). IsServed its tells wanted old new t) (sym is) (serving how (record {
          first = once.first;
          others = once.others;
          were = once.were;
          clock = once.clock;
          counts = once.counts;
          is = subst (λ (b : List ℕ). HasServed its.rules its.gives its.steps tells.last tells.faults tells.closed
              wanted.bandwidths wanted.newest (tells.last once.clock) b old.gates new.gates old.written new.written
              old.write_faults new.write_faults
              how) same once.is;
        }))

    -- it was refused
    refused_at : (own : ServeRefusal)
        → AsksClock tells.asks tells.last old.clocks clocks' Answers (Err (stop.Refused own))
        → AtOnce tells old.clocks (IsRefusedAt its tells wanted old new bytes.items (by_serve own))
    refused_at own once =
        let refuses : RefusesToServe its.rules wanted.bandwidths wanted.newest (tells.last once.clock) bytes.items own =
        subst (λ (b : List ℕ). RefusesToServe its.rules wanted.bandwidths wanted.newest (tells.last once.clock) b own)
        same once.is in
        record {
          first = once.first;
          others = once.others;
          were = once.were;
          clock = once.clock;
          counts = once.counts;
          is = record {
            own = own;
            told = refl;
            refuses = refuses;
            unable =
                λ can. ap by_serve
                (not_refused its.rules wanted.bandwidths wanted.newest
                (tells.last once.clock) bytes.items own can refuses);
          };
        }

    pub has_refused : (why : Stop ServeRefusal) (own : ServeRefusal) (s : Status) → why ≡ stop.Refused own
        → s ≡ status.Refused (by_serve own)
        → AsksClock tells.asks tells.last old.clocks clocks' Answers (Err why) → HasNotServed its tells wanted old new
        → new.write_faults ≡ old.write_faults
        → (why ≡ stop.Refused serve.Verifier → Rose old.verifier_faults new.verifier_faults)
        → (old.verifier_faults < new.verifier_faults → why ≡ stop.Refused serve.Verifier)
        → IsServed its tells wanted old new s
    has_refused why own s is ends once none unwritten failed rose =
        subst (λ (t : Status). IsServed its tells wanted old new t) (sym ends)
        (refused own
        (refused_at own (subst (λ (w : Stop ServeRefusal).
        AsksClock tells.asks tells.last old.clocks clocks' Answers (Err w)) is once))
        none unwritten (λ (e : own ≡ serve.Verifier). failed (is ∙ ap (λ w. stop.Refused w) e))
        (λ more. let same : stop.Refused own ≡ stop.Refused serve.Verifier = sym is ∙ rose more in cc same))
