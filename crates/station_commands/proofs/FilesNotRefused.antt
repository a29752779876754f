-- An input with a bandwidth file in front that a vote can be made of is refused only where the verifier or the signer failed.
use Rattle.std.proofs.Common.{◌≡◌, ℕ, ◌+◌, List, Option, Some, None, Ok, Err, sym, ap, subst, ◌∙◌, inl, inr}
use Rattle.std.specs.Prelude.{take}
use Rattle.key_port.specs.{Answers.{Relation, Rules}, Signing.SignerSteps}
use Rattle.bandwidth_file.specs.{Ages.IsOld, Files.IsBandFile, declared.file.BandFile.BandFile}
use Rattle.bandwidth_file.specs.{declared.refusal.BandFault.BandFault, Fronts.{IsFront, end_size, fault_before}}
use Rattle.bandwidth_file.specs.Fronts.{front_fault}
use Rattle.bandwidth_laws.proofs.OneFile.{one_file}
use Rattle.count_terms.specs.declared.newest.Newest.{Newest}
use Rattle.frame_terms.specs.declared.fault.FrameFault.{FrameFault}
use Rattle.frame_terms.specs.declared.fault.ReadRefusal.TheVariants as doc
use Rattle.station_input.specs.declared.facts.StationFacts.{StationFacts}
use Rattle.station_commands.specs.{Voting.RefusesVote, WithFile.{AnswersBehind, IsFaultyBehind, RefusesFile}}
use Rattle.station_commands.specs.{WithFile.station_behind, declared.file_refusal.BandwidthRefusal.BandwidthRefusal}
use Rattle.station_commands.specs.declared.file_refusal.FileVoteRefusal.{FileVoteRefusal}
use Rattle.station_commands.specs.Answerable.{CanMakeVoteWithFile, IsOfKeysBehind, SuchFilesAreNotRefused}
use Rattle.station_commands.proofs.{Answers.{not_both, not_there}, NotRefused.none_refused, OneBasis.given_in}
use Rattle.station_commands.proofs.OneBasis.{used_in}
use Rattle.station_commands.specs.declared.file_refusal.BandwidthRefusal.TheVariants as bandwidth

abbrev place_in : Option ℕ → ℕ
place_in (Some place) = place
place_in None = 0

-- bytes begin with one bandwidth file
one_place : (bytes : List ℕ) (a b : BandFile) (m n : ℕ) (first : IsFront bytes a m) (second : IsFront bytes b n)
    → second.place ≡ first.place
one_place bytes a b m n first second = ap place_in (sym second.ends ∙ first.ends)

pub one_front : (bytes : List ℕ) (a b : BandFile) (m n : ℕ) → IsFront bytes a m → IsFront bytes b n → b ≡ a
one_front bytes a b m n first second =
    one_file (take first.place bytes) b a
    (subst (λ (p : ℕ). IsBandFile (take p bytes) b) (one_place bytes a b m n first second) second.file_is) first.file_is

pub one_start : (bytes : List ℕ) (a b : BandFile) (m n : ℕ) → IsFront bytes a m → IsFront bytes b n → n ≡ m
one_start bytes a b m n first second =
    second.behind ∙ ap (λ (p : ℕ). p + end_size) (one_place bytes a b m n first second) ∙ sym first.behind

-- it has no fault
pub no_fault : (bytes : List ℕ) (file : BandFile) (start : ℕ) (fault : BandFault) → IsFront bytes file start
    → front_fault bytes ≡ Some fault → ⊥
no_fault bytes file start fault front is =
    not_there (fault_before bytes (Some front.place)) fault front.file_is.sound
    (ap (λ (p : Option ℕ). fault_before bytes p) (sym front.ends) ∙ is)

file_holds : (rules : Rules) (newest : Newest) (now : ℕ) (bytes : List ℕ) (why : BandwidthRefusal)
    → CanMakeVoteWithFile rules newest now bytes
    → RefusesFile bytes now why → ⊥
file_holds rules newest now bytes (bandwidth.Fault fault) can refuses =
    no_fault bytes can.file can.start fault can.begins.front refuses
file_holds rules newest now bytes (bandwidth.Old timestamp) can refuses =
    let same = one_front bytes can.file refuses.file can.start refuses.start can.begins.front refuses.front in
    can.begins.young (subst (λ (f : BandFile). IsOld f now) same refuses.old)

-- nor has what stands behind it
pub not_faulty_behind : (newest : Newest) (bytes : List ℕ) (file : BandFile) (start : ℕ) (given : StationFacts)
    (used : ℕ)
    (fault : FrameFault) → station_behind newest file start bytes ≡ Ok (given, used)
    → IsFaultyBehind newest file start bytes fault → ⊥
not_faulty_behind newest bytes file start given used fault reads is =
    not_both (station_behind newest file start bytes) (given, used) (doc.Frame fault) reads is

module _ {N : Type 0} (gives : Relation) (steps : SignerSteps N) where
  behind : (rules : Rules) (newest : Newest) (now : ℕ) (bytes : List ℕ) (old new : N) (why : FileVoteRefusal)
      (can : CanMakeVoteWithFile rules newest now bytes)
      → AnswersBehind rules gives steps newest now can.file can.start bytes (Err why) old new → IsOfKeysBehind why
  behind rules newest now bytes old new why can (inl (fault, told, faulty)) =
      absurd (not_faulty_behind newest bytes can.file can.start can.given can.used fault can.read faulty)
  behind rules newest now bytes old new why can (inr (given, used, read, (own, told, answer))) =
      let whole = sym read ∙ can.read in (
        own,
        told,
        none_refused rules gives steps now can.given can.used bytes old new own can.can
            (subst (λ (n : ℕ). RefusesVote rules gives steps now can.given n bytes own old new) (ap used_in whole)
            (subst (λ (s : StationFacts). RefusesVote rules gives steps now s used bytes own old new)
            (ap (given_in given) whole) answer)),
      )

  pub files_not_refused : SuchFilesAreNotRefused gives steps
  files_not_refused rules newest now bytes old new why can (inl (own, told, refuses)) =
      absurd (file_holds rules newest now bytes own can refuses)
  files_not_refused rules newest now bytes old new why can (inr (file, start, begins, answer)) =
      let same = one_front bytes can.file file can.start start can.begins.front begins.front in
      let place = one_start bytes can.file file can.start start can.begins.front begins.front in
      behind rules newest now bytes old new why can
      (subst (λ (n : ℕ). AnswersBehind rules gives steps newest now can.file n bytes (Err why) old new) place
      (subst (λ (f : BandFile). AnswersBehind rules gives steps newest now f start bytes (Err why) old new) same
      answer))
