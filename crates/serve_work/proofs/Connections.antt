-- What is done for a connection is work.
use Rattle.std.proofs.Common.{◌≡◌, ◌⊎◌, ℕ, Bool, List, [], ◌∷◌, Option, Some, None, Result, Ok, Err, inl, inr, refl, ap}
use Rattle.std.{proofs.Common.{drop, subst}, specs.Prelude.IfSome}
use Rattle.consensus_terms.specs.declared.flavour.Flavour.{Flavour}
use Rattle.dir_bytes.specs.declared.fault.Memory.{Memory}
use Rattle.dir_http.specs.{declared.fault.HttpFault.HttpFault, Requests.ReadRequest}
use Rattle.key_port.specs.{Answers.{Relation, Rules, Steps}, Signing.SignerSteps}
use Rattle.descriptor_doc.specs.Checks as descriptors
use Rattle.descriptor_doc.specs.declared.descriptor.Descriptor.{Descriptor}
use Rattle.flag_rules.specs.declared.{relay.RelayFacts.RelayFacts, ruling.Ruling.Ruling}
use Rattle.station_input.specs.declared.facts.StationFacts.{StationFacts}
use Rattle.http_words.specs.{DigestLists.digest_list, declared.{asked.Asked.Asked, replies.Reply.Reply}}
use Rattle.http_words.specs.declared.{connection.ConnStatus.ConnStatus, outcome.Outcome.{Outcome, TheVariants.Found}}
use Rattle.http_words.specs.{declared.outcome.Outcome.TheVariants.Replied, Paths.asked_by, Connections.DoesFor}
use Rattle.http_words.specs.Connections.{Handles}
use Rattle.http_words.specs.declared.asked.Asked.TheVariants as asked
use Rattle.vote_pool.specs.Pools.{Pooled, is_change}
use Rattle.period_terms.specs.declared.answer.{Answer.TheVariants.{Signature, Vote}, SignIn.SignIn}
use Rattle.period_terms.specs.declared.event.{Event.TheVariants.{Offered, SignedIn}, Via.TheVariants.Upload}
use Rattle.period_terms.specs.declared.{entry.Entry.Entry, signature.OfferedSignature.OfferedSignature}
use Rattle.period_terms.specs.{declared.state.State.State, Histories.entry_if, Readings.document_of}
use Rattle.period_terms.specs.declared.name.Name.TheVariants as names
use Rattle.serve_board.{specs.Boards.{Locks, Parts, Looks, Sees}, proofs.Going.{goes_looks, goes_sees}}
use Rattle.serve_answers.specs.{Answers.{TakesDescriptor, TakesRuled, TakesVote}, Connections.Serves}
use Rattle.serve_answers.specs.Finding.{AddsNothing, Finds, FindsAsked, FindsMicros, FindsNothing, Reads, ReadsCurrent}
use Rattle.serve_answers.specs.{Finding.flavour_of, Handling.{Counted, Does, SignsEach, TakesSignatures}}
use Rattle.serve_answers.specs.Handling as handling
use Rattle.http_words.specs.declared.connection.ConnStatus.TheVariants as status
use Rattle.serve_rounds.{specs.Duties.IsGathered, proofs.Adding.entry_kind}
use Rattle.serve_work.{specs.Workers.{HasWorked, IsTakenIn, IsWork}, proofs.Additions.{kept_such, signed_in}}
use Rattle.serve_work.proofs.Additions.{work_lasts, works_makes, works_more, works_none, works_still, works_stores}

if_wider : {X : Type 0} (P Q : X → Type 0) → ((x : X) → P x → Q x) → (x : Option X) → IfSome x P → IfSome x Q
if_wider P Q wider None is = tt
if_wider P Q wider (Some x) is = wider x is

module _ {N C : Type 0} (rules : Rules) (gives : Relation) (steps : SignerSteps N)
    (allows : RelayFacts → Ruling → Bool) (station : StationFacts) (last : C → ℕ) (clock : C) (board : Locks) where
  abbrev Is : Parts → Parts → Entry → Type 0
  Is from to entry = IsWork rules gives steps allows station last board from to entry

  abbrev Such : Descriptor → Type 0
  Such descriptor = IsTakenIn rules allows descriptor

  abbrev Done : Parts → Parts → Type 0
  Done before then = HasWorked rules gives steps allows station last board before then

  still : (before then : Parts) → then ≡ before → Done before then
  still before then is = works_still Is Such before then is

  nothing : (before then : Parts) → AddsNothing before then → Done before then
  nothing before then adds = works_none Is Such before then adds.state adds.pool adds.goes

  sees : {A : Type 0} (before then : Parts) (right : State → A → Type 0) (answer : A)
      → Sees rules board before then right answer → Done before then
  sees before then right answer reading =
      works_none Is Such before then reading.takes.mine (ap (λ k. k.mine) reading.pool)
      (goes_sees rules board before then right answer reading)

  looks : {A : Type 0} (before then : Parts) (right : Pooled → A → Type 0) (answer : A)
      → Looks rules board before then right answer → Done before then
  looks before then right answer reading =
      works_none Is Such before then (ap (λ k. k.mine) reading.state) reading.takes.mine
      (goes_looks rules board before then right answer reading)

  -- ---- signatures

  signs : (signatures : List OfferedSignature) (answers : List SignIn) (from to : Parts)
      → SignsEach rules board from signatures to answers → Done from to
  signs [] [] from to same = still from to same
  signs [] (answer ∷ answers) from to none = absurd none
  signs (signature ∷ signatures) [] from to none = absurd none
  signs (signature ∷ signatures) (answer ∷ answers) from to (between, makes, more) =
      works_more Is Such (work_lasts rules gives steps allows station last board) from between to
      (works_makes Is Such rules board from between (SignedIn signature) (Signature answer)
      (if_wider (IsGathered rules) (Is from between)
      (λ e is. record { now = last clock; of_clock = (clock, refl); is = inr (inl (inr (inr is))) })
      (entry_if (SignedIn signature) (Signature answer))
      (signed_in rules board from between signature (Signature answer) makes)) makes)
      (signs signatures answers between to more)

  module _ (before then : Parts) (faults faults_then : ℕ) where
    -- ---- votes and descriptors

    vote : (asks asks_then : ℕ) (body : List ℕ) (answer : Reply)
        → TakesVote rules board before then faults faults_then asks asks_then (last clock) body answer
        → Done before then
    vote asks asks_then body answer (inl none) = still before then none.1.1
    vote asks asks_then body answer (inr (inl refused)) = still before then refused.still.1
    vote asks asks_then body answer (inr (inr offers)) =
        works_makes Is Such rules board before then (Offered offers.vote Upload (last clock)) (Vote offers.offer)
        (entry_kind (Is before then) (Offered offers.vote Upload (last clock)) (Vote offers.offer) record {
          now = last clock;
          of_clock = (clock, refl);
          is = inr (inr record { vote = offers.vote; event = refl; verified = offers.accepted.verified });
        })
        offers.makes

    ruled : (descriptor : Descriptor) (answer : Reply) → descriptors.IsVerified rules descriptor
        → TakesRuled rules board before then allows descriptor answer → Done before then
    ruled descriptor answer verified (inl out) = still before then out.still
    ruled descriptor answer verified (inr taken) =
        works_stores Is Such rules board before then descriptor taken.keep
        (kept_such Such (is_change taken.keep) descriptor record {
          verified = verified;
          ruling = taken.ruling;
          other = taken.other;
          allowed = taken.allowed;
        })
        taken.stores

    descriptor_of : (body : List ℕ) (answer : Reply)
        → TakesDescriptor rules board before then faults faults_then allows body answer → Done before then
    descriptor_of body answer (inl none) = still before then none.1.1
    descriptor_of body answer (inr (inl refused)) = still before then refused.still.1
    descriptor_of body answer (inr (inr its)) = ruled its.descriptor answer its.verified its.ruled

    module _ {V : Type 0} (verifies : Steps V) (verifier verifier_then : V) where
      signatures_of : (body : List ℕ) (answer : Reply)
          → TakesSignatures rules verifies board before then faults faults_then verifier verifier_then body answer
          → Done before then
      signatures_of body answer (inl none) = sees before then _ _ none.0
      signatures_of body answer (inr (inl refused)) = sees before then _ _ refused.sees
      signatures_of body answer (inr (inr offers)) =
          works_more Is Such (work_lasts rules gives steps allows station last board) before offers.between then
          (sees before offers.between _ _ offers.sees)
          (signs offers.tally.checked offers.signed.0 offers.between then offers.signed.1)

  -- ---- what is found

  module _ (before then : Parts) where
    reads : (document : State → Option (List ℕ)) (result : Result (Option (List ℕ)) Memory)
        → Reads rules board before then document result → Done before then
    reads document (Ok found) reading = sees before then (λ state answer. answer ≡ document state) found reading
    reads document (Err fault) none = nothing before then none

    current : (flavour : Flavour) (result : Result (Option (List ℕ)) Memory)
        → ReadsCurrent rules board before then flavour result → Done before then
    current flavour (Ok found) reading =
        sees before then (λ state answer. answer ≡ document_of state (names.Current flavour)) found reading.0
    current flavour (Err fault) none = nothing before then none

    finds : (document : Pooled → Option (List ℕ)) (result : Result (Option (List ℕ)) Memory)
        → Finds rules board before then document result → Done before then
    finds document (Ok found) reading = looks before then (λ pool answer. answer ≡ document pool) found reading
    finds document (Err fault) none = nothing before then none

    finds_none : (result : Result (Option (List ℕ)) Memory) → FindsNothing rules board before then result
        → Done before then
    finds_none (Ok found) same = still before then same.1
    finds_none (Err fault) none = nothing before then none

    micros : (digests : Option (List (List ℕ))) (result : Result (Option (List ℕ)) Memory)
        → FindsMicros rules board before then digests result → Done before then
    micros None result found = finds_none result found
    micros (Some digests) result found = finds _ result found

    found_of : (what : Asked) (path : List ℕ) (result : Result (Option (List ℕ)) Memory)
        → FindsAsked rules board before then what path result → Done before then
    found_of asked.PostVote path result found = finds_none result found
    found_of asked.PostSignatures path result found = finds_none result found
    found_of asked.PostDescriptor path result found = finds_none result found
    found_of asked.OwnVote path result found = reads _ result found
    found_of (asked.VoteOf authority) path result found = reads _ result found
    found_of (asked.VoteByDigest digest) path result found = reads _ result found
    found_of (asked.Next form) path result found = reads _ result found
    found_of asked.NextSignatures path result found = reads _ result found
    found_of (asked.Current form) path result found = current (flavour_of form) result found
    found_of asked.AllKeys path result found = reads _ result found
    found_of (asked.KeysOf authority) path result found = reads _ result found
    found_of asked.AllDescriptors path result found = finds _ result found
    found_of (asked.DescriptorOf relay) path result found = finds _ result found
    found_of (asked.Micros place) path result found = micros (digest_list (drop place path)) result found
    found_of asked.Unknown path result found = finds_none result found
    found_of asked.NotAllowed path result found = finds_none result found

    answer_of : (what : Asked) (path : List ℕ) (outcome : Outcome)
        → handling.Finds rules board before then what path outcome → Done before then
    answer_of what path (Found text) found = found_of what path (Ok (Some text)) found
    answer_of what path (Replied answer) found = found_of what path (Ok None) found.1

  -- ---- a connection

  module _ {V : Type 0} (verifies : Steps V) (before then : Parts) (counted : Counted) (verifier verifier_then : V)
      (moment : counted.last ≡ last clock) where
    abbrev Doing : Asked → List ℕ → List ℕ → Outcome → Type 0
    Doing = Does rules verifies board before then counted verifier verifier_then allows

    does : (what : Asked) (path body : List ℕ) (outcome : Outcome) → Doing what path body outcome → Done before then
    does asked.PostVote path body (Replied answer) takes =
        vote before then counted.faults counted.faults_then counted.asks counted.asks_then body answer
        (subst (λ n. TakesVote rules board before then counted.faults counted.faults_then counted.asks
        counted.asks_then n body answer) moment takes)
    does asked.PostVote path body (Found text) none = absurd none
    does asked.PostDescriptor path body (Replied answer) takes =
        descriptor_of before then counted.faults counted.faults_then body answer takes
    does asked.PostDescriptor path body (Found text) none = absurd none
    does asked.PostSignatures path body (Replied answer) takes =
        signatures_of before then counted.faults counted.faults_then verifies verifier verifier_then body answer takes
    does asked.PostSignatures path body (Found text) none = absurd none
    does asked.NotAllowed path body outcome same = still before then same.1
    does asked.OwnVote path body outcome found = answer_of before then asked.OwnVote path outcome found
    does (asked.VoteOf authority) path body outcome found =
        answer_of before then (asked.VoteOf authority) path outcome found
    does (asked.VoteByDigest digest) path body outcome found =
        answer_of before then (asked.VoteByDigest digest) path outcome found
    does (asked.Next form) path body outcome found = answer_of before then (asked.Next form) path outcome found
    does asked.NextSignatures path body outcome found = answer_of before then asked.NextSignatures path outcome found
    does (asked.Current form) path body outcome found = answer_of before then (asked.Current form) path outcome found
    does asked.AllKeys path body outcome found = answer_of before then asked.AllKeys path outcome found
    does (asked.KeysOf authority) path body outcome found =
        answer_of before then (asked.KeysOf authority) path outcome found
    does asked.AllDescriptors path body outcome found = answer_of before then asked.AllDescriptors path outcome found
    does (asked.DescriptorOf relay) path body outcome found =
        answer_of before then (asked.DescriptorOf relay) path outcome found
    does (asked.Micros place) path body outcome found = answer_of before then (asked.Micros place) path outcome found
    does asked.Unknown path body outcome found = answer_of before then asked.Unknown path outcome found

    does_for : (read : Result ReadRequest HttpFault) (outcome : Outcome) → DoesFor Doing (then ≡ before) read outcome
        → Done before then
    does_for (Ok request) outcome did = does (asked_by request.method request.path) request.path request.body outcome did
    does_for (Err fault) outcome (answer, told, why, same) = still before then same

    handles : (left : Option (List ℕ)) (outcome : Outcome) → Handles Doing (then ≡ before) left outcome → Done before then
    handles left outcome did = does_for did.read outcome did.does

    -- whatever comes of it
    pub connection_works : (left written written_then : Option (List ℕ))
        (read_faults read_faults_then write_faults write_faults_then : ℕ) (result : ConnStatus)
        → Serves Doing before then left written written_then read_faults read_faults_then write_faults
        write_faults_then result → Done before then
    connection_works left written written_then r r' w w' (status.Answered code) did =
        handles left did.outcome did.handles
    connection_works left written written_then r r' w w' status.ReadFault did = still before then did.1
    connection_works left written written_then r r' w w' (status.WriteFault sent) did =
        handles left did.outcome did.handles
    connection_works left written written_then r r' w w' status.Memory (tries, inl none) = nothing before then none
    connection_works left written written_then r r' w w' status.Memory (tries, inr (outcome, did)) =
        handles left outcome did
