-- The text that `make-vote` answers is read as the vote that was made (dir-spec, "Vote and consensus status document
-- formats").
use Rattle.std.specs.Prelude.{◌≡◌, ℕ, List, length, Ok}
use Rattle.base64.specs.GeneralPurpose.{IsBytes}
use Rattle.key_port.specs.{Answers.{Relation, Rules}, Signing.SignerSteps}
use Rattle.bandwidth_file.specs.declared.file.BandFile.{BandFile}
use Rattle.flag_rules.specs.declared.ruling.Ruling.{Ruling}
use Rattle.count_terms.specs.declared.newest.Newest.{Newest}
use Rattle.station_input.specs.{Reading.station_of, declared.facts.StationFacts.StationFacts}
use Rattle.vote_terms.specs.Votes.{ReadVote}
use Rattle.vote_doc.specs.Reading.{vote_of}
use Rattle.vote_maker.specs.Made.{Basis}
use Rattle.vote_laws.specs.Made.{IsMadeVote}
use Rattle.maker_laws.specs.ReadAsMade.{signed_facts}
use Rattle.station_commands.specs.{Voting.{IsBasisOf, IsVoteOf, MakeVoteAnswers}, WithFile.BeginsWithFile}
use Rattle.station_commands.specs.WithFile.{FileVoteAnswers, station_behind}

-- The text is read as a vote, with nothing behind it, which says what is made of the basis under these rulings with this
-- signature, and has the bytes of the station's certificate.
pub record IsReadAsMade (its : Basis) (rulings : List Ruling) (signature text : List ℕ) : Type 0 where
  pub vote : ReadVote
  pub read : vote_of text ≡ Ok (vote, length text)
  pub made : IsMadeVote (signed_facts its rulings signature) its.station.certificate_bytes vote

module _ {N : Type 0} (gives : Relation) (steps : SignerSteps N) where
  -- The text is that of a vote which was made of what a station is given and of the descriptors that stand in the input
  -- from a place on, and is read as that.
  pub record IsVoteRead (rules : Rules) (now : ℕ) (given : StationFacts) (used : ℕ) (bytes text : List ℕ)
      (old new : N) : Type 0 where
    pub its : Basis
    pub basis : IsBasisOf rules now given used bytes its
    pub voted : IsVoteOf rules gives steps its text old new
    pub again : IsReadAsMade its voted.made.text_of.rulings voted.made.text_of.signature text

  -- The text that is answered to an input of bytes is so, of the station that the input begins with.
  abbrev pub AnsweredVotesAreRead : Type 0
  AnsweredVotesAreRead = (rules : Rules) (newest : Newest) (now : ℕ) (bytes text : List ℕ) (old new : N) → IsBytes bytes
      → MakeVoteAnswers rules gives steps newest now bytes (Ok text) old new
      → (given : StationFacts) × (used : ℕ) × (station_of newest bytes ≡ Ok (given, used))
      × IsVoteRead rules now given used bytes text old new

  -- The same of an input with a bandwidth file in front, of the station behind it with the file's bandwidths.
  abbrev pub AnsweredFileVotesAreRead : Type 0
  AnsweredFileVotesAreRead = (rules : Rules) (newest : Newest) (now : ℕ) (bytes text : List ℕ) (old new : N)
      → IsBytes bytes
      → FileVoteAnswers rules gives steps newest now bytes (Ok text) old new
      → (file : BandFile) × (start : ℕ) × BeginsWithFile bytes now file start
      × (given : StationFacts) × (used : ℕ) × (station_behind newest file start bytes ≡ Ok (given, used))
      × IsVoteRead rules now given used bytes text old new
