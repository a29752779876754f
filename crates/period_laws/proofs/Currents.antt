-- What stands as the current document was published.
use Rattle.std.proofs.Common.{◌≡◌, ℕ, ◌≤◌, ◌⊎◌, Bool, true, List, [], ◌∷◌, ◌++◌, length, Option, Some, None, refl, sym}
use Rattle.std.{proofs.Common.{ap, ◌∙◌, subst, inl, inr, ⊎_elim}, specs.Prelude.{Contains, map}}
use Rattle.key_port.specs.Answers.{Rules}
use Rattle.dir_values.specs.declared.digest.Fingerprint.{Fingerprint}
use Rattle.vote_terms.specs.Acceptable.{IsAcceptable}
use Rattle.consensus_terms.specs.declared.{consensus.Consensus.Consensus, flavour.Flavour.{Flavour, TheVariants.Ns}}
use Rattle.consensus_terms.specs.declared.{flavour.Flavour.TheVariants.Microdesc, signature.SignatureLine.SignatureLine}
use Rattle.consensus_terms.specs.{Texts.unsigned, Signed.signed}
use Rattle.count_terms.specs.Counts.{over}
use Rattle.detached_sigs.specs.Signers.{CountsSigners}
use Rattle.period_terms.specs.declared.{answer.{Advance.Advance, Answer.Answer}, entry.Entry.Entry, event.Event.Event}
use Rattle.period_terms.specs.declared.event.{Event.TheVariants.{Offered, Advanced, SignedIn, Read}, Signing.Signing}
use Rattle.period_terms.specs.{declared.state.State.State, States.{lines_of, digest_of, is_signed, signers}}
use Rattle.period_terms.specs.{Offers.offer, Advances.advance, SignIns.sign_in, Steps.step, Readings.current_of}
use Rattle.period_terms.specs.{Histories.{IsStart, IsHistory, run, after}, Keys.signer_key}
use Rattle.period_terms.specs.declared.answer.Advance.TheVariants as moments
use Rattle.period_laws.specs.{Periods.IsAccepted, Checked.{IsChecked, AreChecked, anything, events_of}}
use Rattle.period_laws.specs.Publications.{of_flavour, PublishNone, advance_entry, MayPublish, WasPublished}
use Rattle.period_laws.{specs.Publications.CurrentsWerePublished, proofs.Accepted.{of_accepted, roster_stays}}
use Rattle.period_laws.proofs.{Backed.lines_accepted, Counted.are_counted, Verified.{runs, along_front, are_acceptable}}
use Rattle.period_laws.proofs.{Rows.{offering, advancing, signing_in}, Publishing.{Publishes, of_moment, vote_leaves}}
use Rattle.period_laws.proofs.Publishing.{signature_leaves, begun}
use Rattle.period_laws.specs.Publications as publications

-- a publication of a flavour in a history from a state on, and none later
record Found (s : State) (story : List Entry) (flavour : Flavour) (text : List ℕ) : Type 0 where
  before : List Entry
  now : ℕ
  given : Signing
  ns : Bool
  microdesc : Bool
  later : List Entry
  is : story ≡ before ++ advance_entry now given (moments.Published ns microdesc) ∷ later
  of_it : of_flavour flavour ns microdesc ≡ true
  last : PublishNone flavour later
  c : Consensus
  computed : (after s before).computed ≡ Some c
  text_is : text ≡ signed (unsigned flavour c) (lines_of flavour (after s before))
  begun_is : (after s before).valid_after ≤ now
  most : is_signed flavour (after s before) ≡ true

-- the last publication, or none, and the text stood before
abbrev FoundOr : State → List Entry → Flavour → List ℕ → Type 0
FoundOr s story flavour text =
    Found s story flavour text ⊎ ((current_of flavour s ≡ Some text) × PublishNone flavour story)

found_more : (s : State) (entry : Entry) (story : List Entry) (flavour : Flavour) (text : List ℕ)
    → Found (step s entry.event).after story flavour text → Found s (entry ∷ story) flavour text
found_more s entry story flavour text f = record {
  before = entry ∷ f.before;
  now = f.now;
  given = f.given;
  ns = f.ns;
  microdesc = f.microdesc;
  later = f.later;
  is = ap (λ (l : List Entry). entry ∷ l) f.is;
  of_it = f.of_it;
  last = f.last;
  c = f.c;
  computed = f.computed;
  text_is = f.text_is;
  begun_is = f.begun_is;
  most = f.most;
}

-- an entry that publishes is the last one, where none later does
found_here : (s : State) (now : ℕ) (given : Signing) (answer : Advance) (story : List Entry) (flavour : Flavour)
    (text : List ℕ) → answer ≡ (advance s now given).answer → Publishes s flavour text (advance s now given).answer
    → PublishNone flavour story → Found s (advance_entry now given answer ∷ story) flavour text
found_here s now given answer story flavour text is p none = record {
  before = [];
  now = now;
  given = given;
  ns = p.ns;
  microdesc = p.microdesc;
  later = story;
  is = ap (λ (a : Advance). advance_entry now given a ∷ story) (is ∙ p.answered);
  of_it = p.of_it;
  last = none;
  c = p.c;
  computed = p.computed;
  text_is = p.text_is;
  begun_is = begun s now given p.ns p.microdesc p.stage p.answered;
  most = p.most;
}

-- an entry whose answer is this
abbrev entry_with : Event → Answer → Entry
entry_with event answer = record { event = event; answer = answer }

published_or_current_before : (s : State) (event : Event) (answer : Answer) (story : List Entry) (flavour : Flavour) (text : List ℕ)
    → answer ≡ (step s event).answer → current_of flavour (step s event).after ≡ Some text
    → PublishNone flavour story → FoundOr s (entry_with event answer ∷ story) flavour text
published_or_current_before s (Offered vote via now) answer story flavour text is h none =
    inr (
      sym (vote_leaves flavour s vote (offer s vote via now) (offering s vote via now)) ∙ h,
      (ap (λ (a : Answer). publications.publishes flavour a) is, none),
    )
published_or_current_before s (Advanced now given) answer story flavour text is h none =
    subst (λ (a : Answer). FoundOr s (entry_with (Advanced now given) a ∷ story) flavour text) (sym is)
    (⊎_elim
    (λ (p : Publishes s flavour text (advance s now given).answer).
    inl (found_here s now given (advance s now given).answer story flavour text refl p none))
    (λ q. inr (q.1, (q.0, none)))
    (of_moment flavour s text given (advance s now given) (advancing s now given) h))
published_or_current_before s (SignedIn x) answer story flavour text is h none =
    inr (
      sym (signature_leaves flavour s x (sign_in s x) (signing_in s x)) ∙ h,
      (ap (λ (a : Answer). publications.publishes flavour a) is, none),
    )
published_or_current_before s Read answer story flavour text is h none =
    inr (h, (ap (λ (a : Answer). publications.publishes flavour a) is, none))

find_last : (story : List Entry) (s : State) (flavour : Flavour) (text : List ℕ) → IsHistory s story
    → current_of flavour (after s story) ≡ Some text → FoundOr s story flavour text
find_last [] s flavour text k h = inr (h, tt)
find_last (entry ∷ story) s flavour text k h =
    ⊎_elim (λ (f : Found (step s entry.event).after story flavour text). inl (found_more s entry story flavour text f))
    (λ r. published_or_current_before s entry.event entry.answer story flavour text k.0 r.0 r.1)
    (find_last story (step s entry.event).after flavour text k.2 h)

none_is : (text : List ℕ) (x : Option (List ℕ)) → x ≡ None → x ≡ Some text → ⊥
none_is text x e f = absurd cc

none_first : (flavour : Flavour) (start : State) → IsStart start → current_of flavour start ≡ None
none_first Ns start begin = ap (λ (s : State). s.ns_current) begin.empty
none_first Microdesc start begin = ap (λ (s : State). s.micro_current) begin.empty

-- what is known of the state where it was published
may_publish : (rules : Rules) (start : State) (story : List Entry) → IsStart start
    → AreChecked anything rules start (events_of story)
    → (flavour : Flavour) (c : Consensus) → (after start story).computed ≡ Some c
    → MayPublish rules start story flavour c
may_publish rules start story begin checked flavour c computed =
    let there : run start (events_of story) ≡ after start story = runs start story in
    let computed_there : (run start (events_of story)).computed ≡ Some c =
    subst (λ (s : State). s.computed ≡ Some c) (sym there) computed in
    record {
      accepted_alone = of_accepted start (events_of story) begin c computed_there;
      acceptable = λ vote i. subst (λ (s : State). IsAcceptable rules start.roster s.valid_after vote) there
          (are_acceptable anything rules start (events_of story) begin checked vote i);
      verified = subst (λ (s : State). (line : SignatureLine) → Contains (lines_of flavour s) line
          → IsAccepted rules.may_accept s flavour line) there
          (lines_accepted anything rules start (events_of story) begin checked flavour);
      counted = subst (λ (s : State). CountsSigners rules (digest_of flavour c) (map signer_key s.votes)
          (lines_of flavour s) (signers flavour s)) there
          (are_counted anything rules start (events_of story) begin checked flavour c computed_there);
    }

front_checked : (rules : Rules) (start : State) (story before later : List Entry) → story ≡ before ++ later
    → AreChecked anything rules start (events_of story) → AreChecked anything rules start (events_of before)
front_checked rules start story before later is checked =
    along_front (IsChecked anything rules) before later start
    (subst (λ (l : List Entry). AreChecked anything rules start (events_of l)) is checked)

was_published : (rules : Rules) (start : State) (story : List Entry) → IsStart start
    → AreChecked anything rules start (events_of story) → (flavour : Flavour) (text : List ℕ)
    → Found start story flavour text → WasPublished rules start story flavour text
was_published rules start story begin checked flavour text f =
    let there : run start (events_of f.before) ≡ after start f.before = runs start f.before in
    let roster : (after start f.before).roster ≡ start.roster =
    subst (λ (s : State). s.roster ≡ start.roster) there (roster_stays start (events_of f.before) begin) in
    record {
      last = record {
        before = f.before;
        now = f.now;
        given = f.given;
        ns = f.ns;
        microdesc = f.microdesc;
        later = f.later;
        is = f.is;
        of_it = f.of_it;
        last = f.last;
        c = f.c;
        computed = f.computed;
        text_is = f.text_is;
        begun = f.begun_is;
        most = subst (λ (l : List Fingerprint). over (signers flavour (after start f.before)) (length l) ≡ true)
            roster f.most;
      };
      may = may_publish rules start f.before begin
          (front_checked rules start story f.before
          (advance_entry f.now f.given (moments.Published f.ns f.microdesc) ∷ f.later) f.is checked) flavour f.c f.computed;
    }

pub were_published : CurrentsWerePublished
were_published rules start story begin is flavour text h =
    ⊎_elim
    (λ (f : Found start story flavour text). was_published rules start story begin is.checked flavour text f)
    (λ r. absurd (none_is text (current_of flavour start) (none_first flavour start begin) r.0))
    (find_last story start flavour text is.is h)
