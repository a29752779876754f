-- A fault of the verifier is told of an uploaded vote only where its count rose.
use Rattle.std.proofs.Common.{◌≡◌, ℕ, List, Option, inl, inr, subst, sym, arith}
use Rattle.dir_bytes.specs.Causes.{Rose}
use Rattle.key_port.specs.Answers.{Rules}
use Rattle.http_words.specs.declared.{connection.ConnStatus.ConnStatus, outcome.Outcome.TheVariants.Replied}
use Rattle.http_words.specs.{declared.replies.Reply.Reply, Connections.Tells, Replies.code_of}
use Rattle.http_words.specs.declared.connection.ConnStatus.TheVariants as status
use Rattle.http_words.specs.declared.replies.Reply.TheVariants as reply
use Rattle.period_terms.specs.declared.answer.Offer.{Offer}
use Rattle.period_terms.specs.declared.answer.Offer.TheVariants as offers
use Rattle.serve_board.specs.Boards.{Locks, Parts}
use Rattle.serve_answers.specs.{Answers.{IsCaused, TakesVote}, Words.reply_to_offer}

module _ (faults faults_then : ℕ) where
  offer_caused : (offer : Offer) → IsCaused faults faults_then (reply_to_offer offer)
  offer_caused (offers.OtherPeriod valid_after) = tt
  offer_caused (offers.Stranger authority) = tt
  offer_caused (offers.Late now cutoff frozen) = tt
  offer_caused (offers.Have held) = tt
  offer_caused (offers.Older held) = tt
  offer_caused offers.Full = tt
  offer_caused (offers.Kept position) = tt
  offer_caused (offers.Replaced position old) = tt

  told_caused : (answer told : Reply) → answer ≡ told → IsCaused faults faults_then told
      → IsCaused faults faults_then answer
  told_caused answer told is caused = subst (λ (r : Reply). IsCaused faults faults_then r) (sym is) caused

  pub vote_caused : (rules : Rules) (board : Locks) (before then : Parts) (asks asks_then last : ℕ) (body : List ℕ)
      (answer : Reply) → TakesVote rules board before then faults faults_then asks asks_then last body answer
      → IsCaused faults faults_then answer
  vote_caused rules board before then asks asks_then last body answer (inl none) =
      told_caused answer _ none.1.0 none.1.2
  vote_caused rules board before then asks asks_then last body answer (inr (inl refused)) =
      told_caused answer _ refused.still.0 refused.still.2
  vote_caused rules board before then asks asks_then last body answer (inr (inr offered)) =
      told_caused answer _ offered.told (offer_caused offered.offer)

  code_caused : (answer : Reply) → IsCaused faults faults_then answer → 503 ≡ code_of answer → Rose faults faults_then
  code_caused (reply.Done said) caused is = let no : 503 ≡ 200 = is in omega (arith, no)
  code_caused (reply.Taken held lines) caused is = let no : 503 ≡ 200 = is in omega (arith, no)
  code_caused (reply.Refused said) caused is = let no : 503 ≡ 400 = is in omega (arith, no)
  code_caused reply.NotFound caused is = let no : 503 ≡ 404 = is in omega (arith, no)
  code_caused reply.NotAllowed caused is = let no : 503 ≡ 405 = is in omega (arith, no)
  code_caused reply.NoLength caused is = let no : 503 ≡ 411 = is in omega (arith, no)
  code_caused reply.TooLarge caused is = let no : 503 ≡ 413 = is in omega (arith, no)
  code_caused reply.Memory caused is = absurd caused
  code_caused reply.VerifierFault caused is = caused

  -- a response has the code 503 only where the count rose
  pub status_caused : (written written_then : Option (List ℕ)) (write_faults write_faults_then : ℕ) (answer : Reply)
      (told : ConnStatus) → IsCaused faults faults_then answer
      → Tells written written_then write_faults write_faults_then (Replied answer) told → told ≡ status.Answered 503
      → Rose faults faults_then
  status_caused written written_then write_faults write_faults_then answer told caused tells is =
      code_caused answer caused
      (subst (Tells written written_then write_faults write_faults_then (Replied answer)) is tells).0
