-- A vote that is made of what it says and of the given bytes of its certificate is read again (dir-spec, "Vote and
-- consensus status document formats").
use Rattle.std.specs.Prelude.{◌≡◌, ℕ, ◌+◌, ◌≤◌, ◌<◌, ◌^◌, List, ◌++◌, length, Ok}
use Rattle.dirdoc_grammar.specs.Writing.{AreWritable}
use Rattle.vote_terms.specs.{Votes.{ReadVote, max_vote}, declared.facts.VoteFacts.VoteFacts}
use Rattle.vote_text.specs.{Entries.entries_items, Made.{made_signed, made_text}, Texts.{authority_items, footer_items}}
use Rattle.vote_text.specs.Texts.{preamble_items}
use Rattle.vote_doc.specs.Reading.{vote_from}
use Rattle.vote_frame.specs.Tables.{vote_tables}
use Rattle.vote_frame.specs.declared.frame.VoteSection.TheVariants as section
use Rattle.vote_laws.specs.Again.{HasValuesInRange}
use Rattle.certificate_laws.specs.Given.{IsGiven}

-- The vote says what can be read. Its items before its certificate and behind it may be written: those of its texts
-- that fill a line are such, its objects are bytes, and no line, no object and not the whole passes its limit.
pub record IsMadeInRange (facts : VoteFacts) (bytes : List ℕ) : Type 0 where
  pub values : HasValuesInRange facts
  pub before : AreWritable max_vote 0 (preamble_items facts ++ authority_items facts)
  pub behind : AreWritable max_vote 0 (entries_items facts.entries ++ footer_items facts.signature)
  pub fits : length (made_text facts bytes) ≤ max_vote

-- The vote that is read says the same, has the text's bytes, of which the same part is signed, and has the bytes that
-- were given for its certificate.
pub record IsMadeVote (facts : VoteFacts) (bytes : List ℕ) (vote : ReadVote) : Type 0 where
  pub says : vote.says ≡ facts
  pub whole : vote.whole ≡ made_text facts bytes
  pub signed : vote.signed ≡ made_signed facts bytes
  pub certificate_bytes : vote.certificate_bytes ≡ bytes

-- A vote that was made of what it says and of the bytes that are given for its certificate is read again, whatever
-- stands before it, of fewer than 2 ^ 62 bytes, and behind it, and ends with its text.
abbrev pub MadeVotesAreRead : Type 0
MadeVotesAreRead = (front : List ℕ) (facts : VoteFacts) (bytes rest : List ℕ) → length front < 2 ^ 62
    → IsGiven vote_tables section.Certificate bytes facts.certificate → IsMadeInRange facts bytes
    → (vote : ReadVote)
    × (vote_from (length front) (front ++ (made_text facts bytes ++ rest))
    ≡ Ok (vote, length front + length (made_text facts bytes)))
    × IsMadeVote facts bytes vote
