-- What is found of what is asked for.
use Rattle.std.specs.Prelude.{◌≡◌, ℕ, List, drop, Option, Some, None, Result, Ok, Err}
use Rattle.dir_bytes.specs.declared.fault.Memory.{Memory}
use Rattle.key_port.specs.Answers.{Rules}
use Rattle.consensus_terms.specs.declared.flavour.Flavour.{Flavour}
use Rattle.consensus_terms.specs.declared.flavour.Flavour.TheVariants as flavour
use Rattle.http_words.specs.{DigestLists.digest_list, declared.asked.{Asked.Asked, Form.Form}, Found.unless_empty}
use Rattle.http_words.specs.declared.asked.Asked.TheVariants as asked
use Rattle.http_words.specs.declared.asked.Form.TheVariants as form
use Rattle.vote_terms.specs.Held.{vote_of}
use Rattle.vote_pool.specs.Pools.{Pooled, descriptor_for}
use Rattle.period_lock.specs.Turns.{entries}
use Rattle.period_terms.specs.declared.name.Name.TheVariants as names
use Rattle.period_terms.specs.{declared.state.State.State, Histories.IsStart, Readings.{document_of, next_consensus_of}}
use Rattle.period_laws.specs.Publications.{WasPublished}
use Rattle.checked_sigs.specs.Next.{next_signatures_of}
use Rattle.serve_board.specs.{Boards.{Locks, Parts, Sees, Looks}, Going.Goes}
use Rattle.serve_answers.specs.Documents.{certificates_of, certificate_if, descriptors_of, descriptor_if, micros_with}

-- the flavour of a consensus
abbrev pub flavour_of : Form → Flavour
flavour_of form.Ns = flavour.Ns
flavour_of form.Microdesc = flavour.Microdesc

-- The pass has gone on, and has added nothing.
pub record AddsNothing (before then : Parts) : Type 0 where
  pub goes : Goes before then
  pub state : then.state.mine ≡ before.state.mine
  pub pool : then.pool.mine ≡ before.pool.mine

module _ (rules : Rules) (board : Locks) (before then : Parts) where
  -- what is read of the state after one list, or there was no memory
  abbrev pub Reads : (State → Option (List ℕ)) → Result (Option (List ℕ)) Memory → Type 0
  Reads document (Ok found) = Sees rules board before then (λ state answer. answer ≡ document state) found
  Reads document (Err fault) = AddsNothing before then

  -- a text of a flavour that stands was published, in what the pass has then seen, where the board began as an authority
  -- begins
  abbrev pub IsPublished : Flavour → Option (List ℕ) → Type 0
  IsPublished flavour None = Unit {0}
  IsPublished flavour (Some text) =
      IsStart board.state.start → WasPublished rules board.state.start (entries then.state.seen) flavour text

  -- the current consensus of a flavour is read, and was published, or there was no memory
  abbrev pub ReadsCurrent : Flavour → Result (Option (List ℕ)) Memory → Type 0
  ReadsCurrent flavour (Ok found) =
      Sees rules board before then (λ state answer. answer ≡ document_of state (names.Current flavour)) found
      × IsPublished flavour found
  ReadsCurrent flavour (Err fault) = AddsNothing before then

  -- what is read of the pool after one list, or there was no memory
  abbrev pub Finds : (Pooled → Option (List ℕ)) → Result (Option (List ℕ)) Memory → Type 0
  Finds document (Ok found) = Looks rules board before then (λ pool answer. answer ≡ document pool) found
  Finds document (Err fault) = AddsNothing before then

  -- nothing is asked for that there is
  abbrev pub FindsNothing : Result (Option (List ℕ)) Memory → Type 0
  FindsNothing (Ok found) = (found ≡ None) × (then ≡ before)
  FindsNothing (Err fault) = AddsNothing before then

  -- the microdescriptors of a list of digests, if it is one
  abbrev pub FindsMicros : Option (List (List ℕ)) → Result (Option (List ℕ)) Memory → Type 0
  FindsMicros None result = FindsNothing result
  FindsMicros (Some digests) result = Finds (λ pool. unless_empty (micros_with pool.descriptors digests)) result

  -- What is found of what is asked for by a path: the document of the state or of the pool after one list, by one
  -- reading; nothing where none is asked for.
  abbrev pub FindsAsked : Asked → List ℕ → Result (Option (List ℕ)) Memory → Type 0
  FindsAsked asked.PostVote path result = FindsNothing result
  FindsAsked asked.PostSignatures path result = FindsNothing result
  FindsAsked asked.PostDescriptor path result = FindsNothing result
  FindsAsked asked.OwnVote path result =
      Reads (λ state. document_of state (names.Vote board.state.start.own)) result
  FindsAsked (asked.VoteOf authority) path result =
      Reads (λ state. document_of state (names.Vote record { 0 = authority })) result
  FindsAsked (asked.VoteByDigest digest) path result =
      Reads (λ state. document_of state (names.VoteByDigest record { 0 = digest })) result
  FindsAsked (asked.Next form) path result = Reads (λ state. next_consensus_of (flavour_of form) state) result
  FindsAsked asked.NextSignatures path result = Reads (λ state. next_signatures_of state) result
  FindsAsked (asked.Current form) path result = ReadsCurrent (flavour_of form) result
  FindsAsked asked.AllKeys path result = Reads (λ state. unless_empty (certificates_of state.votes)) result
  FindsAsked (asked.KeysOf authority) path result =
      Reads (λ state. unless_empty (certificate_if (vote_of state.votes record { 0 = authority }))) result
  FindsAsked asked.AllDescriptors path result = Finds (λ pool. unless_empty (descriptors_of pool.descriptors)) result
  FindsAsked (asked.DescriptorOf relay) path result =
      Finds (λ pool. unless_empty (descriptor_if (descriptor_for pool.descriptors record { 0 = relay }))) result
  FindsAsked (asked.Micros place) path result = FindsMicros (digest_list (drop place path)) result
  FindsAsked asked.Unknown path result = FindsNothing result
  FindsAsked asked.NotAllowed path result = FindsNothing result
