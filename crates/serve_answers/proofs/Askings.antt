-- Whatever is found, the pass has gone on; and after want of memory it has added nothing.
use Rattle.std.proofs.Common.{◌≡◌, ℕ, List, Option, Some, None, Result, Ok, Err, sym, subst, drop}
use Rattle.dir_bytes.specs.declared.fault.Memory.{Memory}
use Rattle.key_port.specs.Answers.{Rules}
use Rattle.consensus_terms.specs.declared.flavour.Flavour.{Flavour}
use Rattle.vote_pool.specs.Pools.{Pooled}
use Rattle.period_terms.specs.declared.name.Name.TheVariants as names
use Rattle.period_terms.specs.{declared.state.State.State, Readings.document_of}
use Rattle.http_words.specs.{DigestLists.digest_list, declared.asked.Asked.Asked}
use Rattle.http_words.specs.declared.asked.Asked.TheVariants as asked
use Rattle.serve_board.{specs.{Boards.{Locks, Parts}, Going.Goes}, proofs.Going.{goes_same, goes_sees, goes_looks}}
use Rattle.serve_answers.specs.Finding.{Reads, ReadsCurrent, Finds, FindsNothing, FindsMicros, FindsAsked, flavour_of}
use Rattle.serve_answers.specs.Finding.{AddsNothing}

module _ (rules : Rules) (board : Locks) (before then : Parts) where
  reads_goes : (document : State → Option (List ℕ)) (result : Result (Option (List ℕ)) Memory)
      → Reads rules board before then document result → Goes before then
  reads_goes document (Ok found) sees =
      goes_sees rules board before then (λ state answer. answer ≡ document state) found sees
  reads_goes document (Err fault) nothing = nothing.goes

  current_goes : (flavour : Flavour) (result : Result (Option (List ℕ)) Memory)
      → ReadsCurrent rules board before then flavour result → Goes before then
  current_goes flavour (Ok found) reads =
      goes_sees rules board before then (λ state answer. answer ≡ document_of state (names.Current flavour)) found
      reads.0
  current_goes flavour (Err fault) nothing = nothing.goes

  finds_goes : (document : Pooled → Option (List ℕ)) (result : Result (Option (List ℕ)) Memory)
      → Finds rules board before then document result → Goes before then
  finds_goes document (Ok found) looks =
      goes_looks rules board before then (λ pool answer. answer ≡ document pool) found looks
  finds_goes document (Err fault) nothing = nothing.goes

  nothing_goes : (result : Result (Option (List ℕ)) Memory) → FindsNothing rules board before then result
      → Goes before then
  nothing_goes (Ok found) same = subst (Goes before) (sym same.1) (goes_same before)
  nothing_goes (Err fault) nothing = nothing.goes

  micros_goes : (digests : Option (List (List ℕ))) (result : Result (Option (List ℕ)) Memory)
      → FindsMicros rules board before then digests result → Goes before then
  micros_goes None result found = nothing_goes result found
  micros_goes (Some digests) result found = finds_goes _ result found

  -- whatever is asked for, the pass has gone on
  pub asked_goes : (what : Asked) (path : List ℕ) (result : Result (Option (List ℕ)) Memory)
      → FindsAsked rules board before then what path result → Goes before then
  asked_goes asked.PostVote path result found = nothing_goes result found
  asked_goes asked.PostSignatures path result found = nothing_goes result found
  asked_goes asked.PostDescriptor path result found = nothing_goes result found
  asked_goes asked.OwnVote path result found = reads_goes _ result found
  asked_goes (asked.VoteOf authority) path result found = reads_goes _ result found
  asked_goes (asked.VoteByDigest digest) path result found = reads_goes _ result found
  asked_goes (asked.Next form) path result found = reads_goes _ result found
  asked_goes asked.NextSignatures path result found = reads_goes _ result found
  asked_goes (asked.Current form) path result found = current_goes (flavour_of form) result found
  asked_goes asked.AllKeys path result found = reads_goes _ result found
  asked_goes (asked.KeysOf authority) path result found = reads_goes _ result found
  asked_goes asked.AllDescriptors path result found = finds_goes _ result found
  asked_goes (asked.DescriptorOf relay) path result found = finds_goes _ result found
  asked_goes (asked.Micros place) path result found = micros_goes (digest_list (drop place path)) result found
  asked_goes asked.Unknown path result found = nothing_goes result found
  asked_goes asked.NotAllowed path result found = nothing_goes result found
