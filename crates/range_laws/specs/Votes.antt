-- What is read of a vote is in range, but for the limits (dir-spec, "Vote and consensus status document formats").
use Rattle.std.specs.Prelude.{◌≡◌, ℕ, ◌<◌, ◌≤◌, ◌^◌, true, List, length, All, IfSome, Ok}
use Rattle.base64.specs.GeneralPurpose.{IsBytes}
use Rattle.dir_bytes.specs.Causes.{last_moment}
use Rattle.dir_values.specs.Names.{is_nickname}
use Rattle.dirdoc_grammar.specs.Writers.{is_argument}
use Rattle.grammar_laws.specs.Written.{AreWithinLimits, IsItem}
use Rattle.frame_values.specs.Ranges.{AreTwenty}
use Rattle.authority_certs.specs.Texts.{cert_text}
use Rattle.certificate_laws.specs.Again.{SaysInRange}
use Rattle.group_laws.specs.LineAgain.{IsRandomInRange}
use Rattle.vote_terms.specs.{Votes.{ReadVote, max_vote}, declared.facts.VoteFacts.VoteFacts}
use Rattle.vote_text.specs.Texts.{vote_items}
use Rattle.vote_doc.specs.Reading.{vote_from}
use Rattle.vote_laws.specs.Again.{AreEntriesInRange, AreFlags, AreListsInRange, AreMethods, IsInRange}
use Rattle.vote_laws.specs.Again.{IsSignatureInRange}

-- The vote says what can be read: each number, text and list is one that an item may have. Each of its items may be
-- written, but for the limits: of its line, of its object, of the certificate and of the whole.
pub record IsInRangeButForLimits (facts : VoteFacts) : Type 0 where
  pub methods : IfSome facts.methods AreMethods
  pub published : facts.published ≤ last_moment
  pub valid_after : facts.valid_after ≤ last_moment
  pub fresh_until : facts.fresh_until ≤ last_moment
  pub valid_until : facts.valid_until ≤ last_moment
  pub vote_seconds : facts.vote_seconds ≤ 4294967295
  pub dist_seconds : facts.dist_seconds ≤ 4294967295
  pub known_flags : AreFlags facts.known_flags
  pub lists : AreListsInRange facts.lists
  pub nickname : is_nickname facts.nickname ≡ true
  pub identity : AreTwenty facts.identity.0
  pub address : is_argument facts.address ≡ true
  pub ip : facts.ip < 2 ^ 32
  pub dir_port : facts.dir_port ≤ 65535
  pub or_port : facts.or_port ≤ 65535
  pub random_previous : IfSome facts.random_previous IsRandomInRange
  pub random_current : IfSome facts.random_current IsRandomInRange
  pub certificate : SaysInRange facts.certificate
  pub entries : AreEntriesInRange facts.entries
  pub signature : IsSignatureInRange facts.signature
  pub items : All IsItem (vote_items facts)

-- no text passes its limit: the certificate's, and that of each item and of the whole
pub record IsWithinLimits (facts : VoteFacts) : Type 0 where
  pub certificate : length (cert_text facts.certificate) ≤ 65536
  pub items : AreWithinLimits max_vote 0 (vote_items facts)

-- A vote that is read from bytes, wherever it begins in them, is in range, but for the limits.
abbrev pub VotesReadAreInRange : Type 0
VotesReadAreInRange = (start : ℕ) (bytes : List ℕ) (vote : ReadVote) (after : ℕ) → IsBytes bytes
    → vote_from start bytes ≡ Ok (vote, after) → IsInRangeButForLimits vote.says

-- One that passes no limit is in range.
abbrev pub VotesWithinLimitsAreInRange : Type 0
VotesWithinLimitsAreInRange = (facts : VoteFacts) → IsInRangeButForLimits facts → IsWithinLimits facts → IsInRange facts
