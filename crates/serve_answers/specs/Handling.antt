-- What comes of uploaded signatures, and of each request, and which events were made for it.
use Rattle.std.specs.Prelude.{◌≡◌, ◌⊎◌, ℕ, ◌+◌, List, [], ◌∷◌, length, count_by, Bool, true, false, Option, Some, None}
use Rattle.std.specs.Prelude.{Ok}
use Rattle.key_port.specs.Answers.{Rules, Steps}
use Rattle.checked_sigs.specs.Checks as checks
use Rattle.checked_sigs.specs.{Checks.Tally, declared.report.SigRefusal.SigRefusal}
use Rattle.checked_sigs.specs.declared.report.SigRefusal.TheVariants as refusals
use Rattle.detached_doc.specs.declared.detached.Detached.{Detached}
use Rattle.flag_rules.specs.declared.{relay.RelayFacts.RelayFacts, ruling.Ruling.Ruling}
use Rattle.http_words.specs.declared.{outcome.Outcome.{Outcome, TheVariants.{Replied, Found}}, asked.Asked.Asked}
use Rattle.http_words.specs.declared.replies.Reply.{Reply}
use Rattle.http_words.specs.declared.asked.Asked.TheVariants as asked
use Rattle.http_words.specs.declared.replies.Reply.TheVariants as reply
use Rattle.http_words.specs.declared.word.Word.TheVariants as word
use Rattle.period_core.specs.Views.{view_of}
use Rattle.period_terms.specs.declared.answer.{Answer.TheVariants.Signature, SignIn.SignIn}
use Rattle.period_terms.specs.declared.{event.Event.TheVariants.SignedIn, signature.OfferedSignature.OfferedSignature}
use Rattle.period_terms.specs.declared.view.PeriodView.{PeriodView}
use Rattle.period_terms.specs.declared.answer.SignIn.TheVariants as signs
use Rattle.serve_board.specs.Boards.{Locks, Parts, Makes, Sees}
use Rattle.serve_answers.specs.{Finding.FindsAsked, Answers.{IsCaused, TakesVote, TakesDescriptor}}

-- ---- signatures

-- the reply to signatures of which none may be held; after want of memory there is none
abbrev pub reply_to_signatures : SigRefusal → Option Reply
reply_to_signatures (refusals.Document fault) = Some (reply.Refused word.Document)
reply_to_signatures (refusals.WrongPeriod valid_after) = Some (reply.Refused word.OtherPeriod)
reply_to_signatures refusals.VerifierFault = Some reply.VerifierFault
reply_to_signatures refusals.Memory = None

-- whether a signature is held then
abbrev pub is_held : SignIn → Bool
is_held (signs.OtherPeriod valid_after) = false
is_held signs.NotComputed = false
is_held (signs.OtherDigest ours) = false
is_held (signs.Stranger authority) = false
is_held signs.Have = true
is_held signs.Closed = false
is_held (signs.Kept position) = true

module _ (rules : Rules) (board : Locks) where
  -- one event for each signature, one after the other
  abbrev pub SignsEach : Parts → List OfferedSignature → Parts → List SignIn → Type 0
  SignsEach from [] to [] = to ≡ from
  SignsEach from [] to (answer ∷ answers) = ⊥
  SignsEach from (signature ∷ signatures) to [] = ⊥
  SignsEach from (signature ∷ signatures) to (answer ∷ answers) =
      (between : Parts) × Makes rules board from between (SignedIn signature) (Signature answer)
      × SignsEach between signatures to answers

  -- one event for each signature, of which so many are held then
  abbrev pub SignsHeld : Parts → List OfferedSignature → Parts → ℕ → Type 0
  SignsHeld from signatures to held =
      (answers : List SignIn) × SignsEach from signatures to answers × (held ≡ count_by is_held answers)

  -- The signatures that were accepted are offered, and it is told how many of all lines are held then.
  pub record OffersAccepted (from : Parts) (tally : Tally) (to : Parts) (answer : Reply) : Type 0 where
    pub held : ℕ
    pub signed : SignsHeld from tally.checked to held
    pub told : answer ≡ reply.Taken held (length tally.checked + tally.skipped + tally.bad)

  -- what signatures are checked against was seen, if there are texts
  abbrev pub SeesView : Parts → Parts → Option PeriodView → Type 0
  SeesView before then view = Sees rules board before then (λ state found. found ≡ view_of state) view

module _ {V : Type 0} (rules : Rules) (steps : Steps V) (board : Locks) (before then : Parts) (faults faults_then : ℕ)
    (verifier verifier_then : V) where
  -- Signatures that are checked against what was seen once, and of which none may be held, for the first reason why.
  pub record RefusesSignatures (body : List ℕ) (answer : Reply) : Type 0 where
    pub view : PeriodView
    pub refusal : SigRefusal
    pub sees : SeesView rules board before then (Some view)
    pub refused : checks.RefusedBy steps body view refusal verifier verifier_then
    pub told : reply_to_signatures refusal ≡ Some answer
    pub caused : IsCaused faults faults_then answer

  -- Signatures that are checked against what was seen once, and then offered one by one, each as an event of its own;
  -- it is told how many of all lines are held then.
  pub record OffersSignatures (body : List ℕ) (answer : Reply) : Type 0 where
    pub view : PeriodView
    pub between : Parts
    pub detached : Detached
    pub tally : Tally
    pub held : ℕ
    pub sees : SeesView rules board before between (Some view)
    pub is : checks.IsFor body view detached
    pub tells : checks.TellsLines rules steps view detached detached.signatures tally verifier verifier_then
    pub signed : SignsHeld rules board between tally.checked then held
    pub told : answer ≡ reply.Taken held (length detached.signatures)

  -- What comes of signatures that are uploaded: where there are no texts they are not computed, whatever the body is.
  abbrev pub TakesSignatures : List ℕ → Reply → Type 0
  TakesSignatures body answer =
      (SeesView rules board before then None × (answer ≡ reply.Refused word.NotComputed))
      ⊎ (RefusesSignatures body answer ⊎ OffersSignatures body answer)

-- ---- all requests

-- what a call did to the clock and to the verifier: their counts, and the last moment of the clock
pub record Counted : Type 0 where
  pub asks : ℕ
  pub asks_then : ℕ
  pub last : ℕ
  pub faults : ℕ
  pub faults_then : ℕ

-- what is replied to an upload
abbrev pub Replies : (Reply → Type 0) → Outcome → Type 0
Replies Takes (Replied answer) = Takes answer
Replies Takes (Found text) = ⊥

-- the document that was found, or that there is none
abbrev pub Finds : Rules → Locks → Parts → Parts → Asked → List ℕ → Outcome → Type 0
Finds rules board before then ask path (Found text) = FindsAsked rules board before then ask path (Ok (Some text))
Finds rules board before then ask path (Replied answer) =
    (answer ≡ reply.NotFound) × FindsAsked rules board before then ask path (Ok None)

module _ {V : Type 0} (rules : Rules) (steps : Steps V) (board : Locks) (before then : Parts) (counted : Counted)
    (verifier verifier_then : V) (allows : RelayFacts → Ruling → Bool) where
  -- What comes of what was asked by a path, with a body.
  abbrev pub Does : Asked → List ℕ → List ℕ → Outcome → Type 0
  Does asked.PostVote path body outcome =
      Replies
      (TakesVote rules board before then counted.faults counted.faults_then counted.asks counted.asks_then counted.last
      body)
      outcome
  Does asked.PostDescriptor path body outcome =
      Replies (TakesDescriptor rules board before then counted.faults counted.faults_then allows body) outcome
  Does asked.PostSignatures path body outcome =
      Replies
      (TakesSignatures rules steps board before then counted.faults counted.faults_then verifier verifier_then body)
      outcome
  Does asked.NotAllowed path body outcome = (outcome ≡ Replied reply.NotAllowed) × (then ≡ before)
  Does ask path body outcome = Finds rules board before then ask path outcome

-- a fault of the verifier is told as an outcome only where its count rose, and want of memory never
abbrev pub IsCausedOutcome : ℕ → ℕ → Outcome → Type 0
IsCausedOutcome faults faults_then (Replied answer) = IsCaused faults faults_then answer
IsCausedOutcome faults faults_then (Found text) = Unit {0}
