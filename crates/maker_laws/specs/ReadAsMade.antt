-- A vote that was made is read as what it was made to say (dir-spec, "Vote and consensus status document formats").
use Rattle.std.specs.Prelude.{◌≡◌, ℕ, ◌+◌, ◌≤◌, ◌<◌, ◌^◌, List, ◌++◌, length, All, Ok}
use Rattle.base64.specs.GeneralPurpose.{IsBytes}
use Rattle.grammar_laws.specs.Written.{IsItem}
use Rattle.key_port.specs.Signing.{signature_limit}
use Rattle.flag_rules.specs.declared.ruling.Ruling.{Ruling}
use Rattle.vote_terms.specs.{Votes.{ReadVote, max_vote}, declared.facts.VoteFacts.VoteFacts}
use Rattle.vote_text.specs.{Entries.entries_items, Made.made_text, Texts.{authority_items, footer_items}}
use Rattle.vote_text.specs.Texts.{preamble_items}
use Rattle.vote_doc.specs.Reading.{vote_from}
use Rattle.vote_laws.specs.{Again.HasValuesInRange, Made.IsMadeVote}
use Rattle.vote_maker.specs.Made.{Basis, made, with_signature}
use Rattle.maker_laws.specs.Given.{IsBasis}

-- A ruling for each relay, and a signature that a signer may give, of bytes.
pub record IsSigning (its : Basis) (rulings : List Ruling) (signature : List ℕ) : Type 0 where
  pub one_each : length rulings ≡ length its.descriptors
  pub bytes : IsBytes signature
  pub short : length signature ≤ signature_limit

-- what the vote says with this signature
abbrev pub signed_facts : Basis → List Ruling → List ℕ → VoteFacts
signed_facts its rulings signature = with_signature (made its rulings) signature

-- its text
abbrev pub signed_made_text : Basis → List Ruling → List ℕ → List ℕ
signed_made_text its rulings signature =
    made_text (signed_facts its rulings signature) its.station.certificate_bytes

-- The vote says what can be read, and each of its items before its certificate and behind it may be written, but for
-- the limits: of its line, of its object and of the whole.
pub record IsMadeInRangeButForLimits (facts : VoteFacts) : Type 0 where
  pub values : HasValuesInRange facts
  pub before : All IsItem (preamble_items facts ++ authority_items facts)
  pub behind : All IsItem (entries_items facts.entries ++ footer_items facts.signature)

-- What is made is such.
abbrev pub MadeAreInRange : Type 0
MadeAreInRange = (its : Basis) (rulings : List Ruling) (signature : List ℕ) → IsBasis its
    → IsSigning its rulings signature → IsMadeInRangeButForLimits (signed_facts its rulings signature)

-- Where the text is no longer than a vote may be, it is read as what is made, whatever stands before it, of fewer than
-- 2 ^ 62 bytes, and behind it, and has the bytes of the station's certificate.
abbrev pub MadeVotesReadAsMade : Type 0
MadeVotesReadAsMade = (front : List ℕ) (its : Basis) (rulings : List Ruling) (signature rest : List ℕ)
    → length front < 2 ^ 62 → IsBasis its → IsSigning its rulings signature
    → length (signed_made_text its rulings signature) ≤ max_vote
    → (vote : ReadVote)
    × (vote_from (length front) (front ++ (signed_made_text its rulings signature ++ rest))
    ≡ Ok (vote, length front + length (signed_made_text its rulings signature)))
    × IsMadeVote (signed_facts its rulings signature) its.station.certificate_bytes vote
