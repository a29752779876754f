-- The text that `make-vote` answers is read as the vote that was made.
use Rattle.std.proofs.Common.{◌≡◌, ℕ, ◌+◌, List, [], ◌++◌, drop, take, length, Result, Ok, Err, ◌≤◌, refl, sym, ap, ◌∙◌}
use Rattle.std.proofs.{Common.{subst, inl, inr, arith}, lemmas.List.{append-nil, length-map}}
use Rattle.base64.specs.GeneralPurpose.{IsBytes}
use Rattle.key_port.specs.{Answers.{Relation, Rules}, Signing.SignerSteps}
use Rattle.frame_terms.specs.declared.fault.ReadRefusal.{ReadRefusal}
use Rattle.bandwidth_file.specs.declared.file.BandFile.{BandFile}
use Rattle.flag_rules.specs.declared.ruling.Ruling.{Ruling}
use Rattle.count_terms.specs.declared.newest.Newest.{Newest}
use Rattle.station_input.specs.{Reading.station_of, declared.facts.StationFacts.StationFacts}
use Rattle.vote_terms.specs.Votes.{max_vote}
use Rattle.vote_doc.specs.Reading.{vote_of}
use Rattle.vote_maker.specs.{Made.Basis, Relays.known_of}
use Rattle.descriptor_laws.proofs.DescriptorInRange.{descriptors_in_range}
use Rattle.row_laws.proofs.ReadBytes.{bytes_drop}
use Rattle.vote_laws.proofs.Pairs.{from_start}
use Rattle.maker_laws.specs.{Given.{IsBasis, IsStation}, FileVotes.IsToldStation, ReadAsMade.IsSigning}
use Rattle.maker_laws.{specs.ReadAsMade.signed_made_text, proofs.{FileVotes.told_stations, MadeRead.read_as_made}}
use Rattle.maker_laws.proofs.MadeRead.{stations_read}
use Rattle.station_commands.specs.{Voting.{IsVoteOf, VoteAnswers}, WithFile.{BeginsWithFile, station_behind, told_from}}
use Rattle.station_commands.specs.WithFile.{told_station}
use Rattle.answer_laws.specs.MadeVotes.{AnsweredFileVotesAreRead, AnsweredVotesAreRead, IsReadAsMade, IsVoteRead}
use Rattle.answer_laws.proofs.MadeBasis.{of_basis}

-- ---- one vote

again : (its : Basis) (rulings : List Ruling) (signature : List ℕ) → IsBasis its → IsSigning its rulings signature
    → length (signed_made_text its rulings signature) ≤ max_vote
    → IsReadAsMade its rulings signature (signed_made_text its rulings signature)
again its rulings signature basis signing fits =
    let text = signed_made_text its rulings signature in
    let made = read_as_made descriptors_in_range [] its rulings signature [] (omega arith) basis signing fits in
    let read = from_start (vote_of (text ++ [])) made.0 (0 + length text) made.1 in
    let ends : 0 + length text ≡ length text = omega arith in
    record {
      vote = made.0;
      read =
          ap (λ (l : List ℕ). vote_of l) (sym (append-nil text)) ∙ read
          ∙ ap (λ (n : ℕ). Ok (made.0, n)) ends;
      made = made.2;
    }

-- a vote that was made of such a basis is read so
made_again : {N : Type 0} (gives : Relation) (steps : SignerSteps N) (rules : Rules) (its : Basis) (text : List ℕ)
    (old new : N) → IsBasis its → (voted : IsVoteOf rules gives steps its text old new)
    → IsReadAsMade its voted.made.text_of.rulings voted.made.text_of.signature text
made_again gives steps rules its text old new basis voted =
    let of_it = voted.made.text_of in
    let relays : length of_it.rulings ≡ length its.descriptors =
    of_it.allowed.one_each ∙ length-map its.descriptors (known_of its.station.measured) in
    subst (IsReadAsMade its of_it.rulings of_it.signature) (sym of_it.text_is)
    (again its of_it.rulings of_it.signature basis
    (record { one_each = relays; bytes = of_it.signed.sound; short = of_it.signed.short })
    (subst (λ (t : List ℕ). length t ≤ max_vote) of_it.text_is voted.made.fits))

-- what is answered for a station that is such
answered : {N : Type 0} (gives : Relation) (steps : SignerSteps N) (rules : Rules) (now : ℕ) (given : StationFacts)
    (used : ℕ) (bytes text : List ℕ) (old new : N) → IsBytes bytes → IsStation given
    → VoteAnswers rules gives steps now given used bytes (Ok text) old new
    → IsVoteRead gives steps rules now given used bytes text old new
answered gives steps rules now given used bytes text old new are station is =
    let basis = of_basis rules now given used bytes is.0 are is.1 (subst IsStation (sym is.1.station_is) station) in
    record { its = is.0; basis = is.1; voted = is.2; again = made_again gives steps rules is.0 text old new basis is.2 }

-- ---- the laws

pub answered_votes : {N : Type 0} (gives : Relation) (steps : SignerSteps N) → AnsweredVotesAreRead gives steps
answered_votes gives steps rules newest now bytes text old new are (inl faulty) = let wrong = faulty.1 in absurd cc
answered_votes gives steps rules newest now bytes text old new are (inr is) = (
  is.0,
  is.1,
  is.2,
  answered gives steps rules now is.0 is.1 bytes text old new are
      (stations_read newest bytes is.0 is.1 are is.2) is.3,
)

-- the station that was read
abbrev station_in : StationFacts → Result (StationFacts × ℕ) ReadRefusal → StationFacts
station_in other (Ok read) = read.0
station_in other (Err why) = other

-- a station behind a bandwidth file was read so
behind_by : (file : BandFile) (start : ℕ) (read : Result (StationFacts × ℕ) ReadRefusal) (given : StationFacts)
    (used : ℕ) → told_from file start read ≡ Ok (given, used)
    → (own : StationFacts) × (end : ℕ) × (read ≡ Ok (own, end)) × (given ≡ told_station file own)
behind_by file start (Ok (own, end)) given used is = (own, end, refl, sym (ap (station_in given) is))
behind_by file start (Err why) given used is = absurd cc

of_file : (newest : Newest) (bytes : List ℕ) (now : ℕ) (file : BandFile) (start : ℕ) (given : StationFacts) (used : ℕ)
    → IsBytes bytes
    → BeginsWithFile bytes now file start → station_behind newest file start bytes ≡ Ok (given, used)
    → IsToldStation given
of_file newest bytes now file start given used are begins is =
    let own = behind_by file start (station_of newest (drop start bytes)) given used is in
    record {
      content = take begins.front.place bytes;
      file = file;
      is_file = begins.front.file_is;
      input = drop start bytes;
      bytes = bytes_drop start bytes are;
      newest = newest;
      given = own.0;
      used = own.1;
      read = own.2;
      told = own.3;
    }

pub answered_file_votes : {N : Type 0} (gives : Relation) (steps : SignerSteps N)
    → AnsweredFileVotesAreRead gives steps
answered_file_votes gives steps rules newest now bytes text old new are (inl refused) =
    let wrong = refused.1 in absurd cc
answered_file_votes gives steps rules newest now bytes text old new are (inr (file, start, begins, inl faulty)) =
    let wrong = faulty.1 in absurd cc
answered_file_votes gives steps rules newest now bytes text old new are (inr (file, start, begins, inr is)) = (
  file,
  start,
  begins,
  is.0,
  is.1,
  is.2,
  answered gives steps rules now is.0 is.1 bytes text old new are
      (told_stations is.0 (of_file newest bytes now file start is.0 is.1 are begins is.2)) is.3,
)
