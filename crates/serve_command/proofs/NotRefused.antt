-- An input that can start an authority is refused only where the verifier failed.
use Rattle.std.proofs.Common.{◌≡◌, ℕ, List, ap, inl, inr, ◌∙◌}
use Rattle.key_port.specs.Answers.{Rules}
use Rattle.frame_terms.specs.declared.fault.FrameFault.{FrameFault}
use Rattle.bandwidth_file.specs.declared.file.BandFile.{BandFile}
use Rattle.count_terms.specs.declared.newest.Newest.{Newest}
use Rattle.daemon_words.specs.declared.command.Measures.{Measures}
use Rattle.daemon_words.specs.declared.command.Measures.TheVariants as measures
use Rattle.station_input.specs.declared.facts.StationFacts.{StationFacts}
use Rattle.vote_maker.specs.Made.{Basis, schedule_in}
use Rattle.station_commands.specs.{Voting.IsBasisOf, WithFile.{BeginsWithFile, BeginsWithOldFile, IsFaultyBehind}}
use Rattle.station_commands.specs.{WithFile.RefusesFile, declared.file_refusal.BandwidthRefusal.BandwidthRefusal}
use Rattle.station_commands.proofs.FilesNotRefused.{no_fault, not_faulty_behind, one_front, one_start}
use Rattle.station_commands.proofs.{NotRefused.{has_period, has_pool, in_order, not_faulty}, OneBasis.one_basis}
use Rattle.station_commands.specs.declared.file_refusal.BandwidthRefusal.TheVariants as bandwidth
use Rattle.serve_command.specs.{Answerable.{CanServe, CanStart, SuchAreNotRefused}, Starting.IsFaultyIn}
use Rattle.serve_command.specs.Starting.{RefusesCertificate, RefusesStation, RefusesToServe, StandsBehind, StandsIn}
use Rattle.serve_command.specs.{Told.by_pool, declared.refusal.ServeRefusal.ServeRefusal}
use Rattle.serve_command.proofs.{Certificates.of_certificate, OneStation.{faulty_alike, old_alike, one_given}}
use Rattle.serve_command.proofs.OneStation.{one_place, refused_alike}
use Rattle.serve_command.specs.declared.refusal.ServeRefusal.TheVariants as refusal

-- ---- the station

module _ (rules : Rules) (now : ℕ) (given : StationFacts) (used : ℕ) (bytes : List ℕ) (why : ServeRefusal) where
  -- the next period begins at one moment
  one_moment : (a b : Basis) → IsBasisOf rules now given used bytes a → IsBasisOf rules now given used bytes b
      → a.valid_after ≡ b.valid_after
  one_moment a b first second =
      ap (λ (its : Basis). its.valid_after) (one_basis rules now given used bytes a b first second)

  -- then its certificate holds
  at_beginning : (its : Basis) → IsBasisOf rules now given used bytes its → CanStart rules now given used bytes
      → RefusesCertificate rules its.valid_after given.certificate why → why ≡ refusal.Verifier
  at_beginning its basis can fails =
      of_certificate rules can.its.valid_after its.valid_after given.certificate why
      (one_moment its can.its basis can.basis) can.holds fails

  -- so one that can start an authority starts one
  station_starts : CanStart rules now given used bytes → RefusesStation rules now given used bytes why
      → why ≡ refusal.Verifier
  station_starts can (inl (word, told, has)) =
      absurd (in_order given (schedule_in given) word can.basis.has_pool.order has)
  station_starts can (inr (inl (order, (pool, told, refuses)))) =
      told ∙ ap by_pool
      (has_pool rules given.newest used bytes can.basis.pool pool can.basis.has_pool.pool_of can.none_refused refuses)
  station_starts can (inr (inr (inl (pool, other, told, none)))) =
      absurd (has_period rules now given used bytes can.its can.basis none)
  station_starts can (inr (inr (inr (its, basis, fails)))) = at_beginning its basis can fails

-- ---- the input

module _ (newest : Newest) (now : ℕ) (bytes : List ℕ) where
  -- a file that is not too old in front of the input is none that is too old
  not_old : (file : BandFile) (start timestamp : ℕ) → BeginsWithFile bytes now file start
      → BeginsWithOldFile bytes now timestamp → ⊥
  not_old file start timestamp begins refuses =
      begins.young (old_alike now refuses.file file
      (one_front bytes file refuses.file start refuses.start begins.front refuses.front) refuses.old)

  -- it is not refused
  file_counts : (file : BandFile) (start : ℕ) (why : BandwidthRefusal) → BeginsWithFile bytes now file start
      → RefusesFile bytes now why → ⊥
  file_counts file start (bandwidth.Fault fault) begins refuses =
      no_fault bytes file start fault begins.front refuses
  file_counts file start (bandwidth.Old timestamp) begins refuses = not_old file start timestamp begins refuses

  -- nor is what stands behind it
  counts_behind : (given : StationFacts) (used : ℕ) (fault : FrameFault) (file : BandFile) (start : ℕ)
      → StandsBehind newest now bytes given used → BeginsWithFile bytes now file start
      → IsFaultyBehind newest file start bytes fault
      → ⊥
  counts_behind given used fault file start stands begins faulty =
      not_faulty_behind newest bytes stands.file stands.start given used fault stands.stands
      (faulty_alike newest bytes file stands.file start stands.start fault
      (one_front bytes stands.file file stands.start start stands.begins.front begins.front)
      (one_start bytes stands.file file stands.start start stands.begins.front begins.front) faulty)

  -- nor an input with what a station is given
  reads_well : (from : Measures) (given : StationFacts) (used : ℕ) (why : ServeRefusal)
      → StandsIn from newest now bytes given used → IsFaultyIn from newest now bytes why → ⊥
  reads_well measures.Station given used why stands (fault, told, faulty) =
      not_faulty newest bytes given used fault stands faulty
  reads_well measures.File given used why stands (inl (own, told, refuses)) =
      file_counts stands.file stands.start own stands.begins refuses
  reads_well measures.File given used why stands (inr (file, start, begins, (fault, told, faulty))) =
      counts_behind given used fault file start stands begins faulty

-- ---- why an input is refused

module _ (rules : Rules) (from : Measures) (newest : Newest) (now : ℕ) (bytes : List ℕ) (why : ServeRefusal) where
  -- not for the station, where it can start an authority
  starts : (given : StationFacts) (used : ℕ) → StandsIn from newest now bytes given used
      → RefusesStation rules now given used bytes why → CanServe rules from newest now bytes → why ≡ refusal.Verifier
  starts given used stands refuses can =
      station_starts rules now can.given can.used bytes why can.can
      (refused_alike rules now given can.given used can.used bytes why
      (one_given from newest now bytes can.given given can.used used can.stands stands)
      (one_place from newest now bytes can.given given can.used used can.stands stands) refuses)

  -- so it is the verifier
  of_verifier : CanServe rules from newest now bytes → RefusesToServe rules from newest now bytes why
      → why ≡ refusal.Verifier
  of_verifier can (inl faulty) = absurd (reads_well newest now bytes from can.given can.used why can.stands faulty)
  of_verifier can (inr (given, used, stands, refuses)) = starts given used stands refuses can

pub not_refused : SuchAreNotRefused
not_refused rules from newest now bytes why can refuses = of_verifier rules from newest now bytes why can refuses
