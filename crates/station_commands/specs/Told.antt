-- How a refusal of a call is told as the command's.
use Rattle.std.specs.Prelude.{ℕ, Option, Some, None}
use Rattle.authority_certs.specs.declared.checking.CertAnswer.{CertAnswer}
use Rattle.authority_certs.specs.declared.checking.CertAnswer.TheVariants as answer
use Rattle.descriptor_doc.specs.declared.checking.DescriptorRefusal.{DescriptorRefusal}
use Rattle.descriptor_doc.specs.declared.checking.DescriptorRefusal.TheVariants as descriptor
use Rattle.frame_terms.specs.declared.fault.FrameFault.{FrameFault}
use Rattle.daemon_words.specs.{Stops.told_as, declared.stop.Stop.Stop}
use Rattle.daemon_words.specs.declared.stop.Stop.TheVariants as stop
use Rattle.vote_maker.specs.declared.refusal.MakeRefusal.{MakeRefusal}
use Rattle.vote_maker.specs.declared.refusal.MakeRefusal.TheVariants as make
use Rattle.station_commands.specs.declared.refusal.{CertWord.CertWord, MakeVoteRefusal.MakeVoteRefusal}
use Rattle.station_commands.specs.declared.refusal.{OrderWord.OrderWord, PoolRefusal.PoolRefusal}
use Rattle.station_commands.specs.declared.refusal.StationRefusal.{StationRefusal}
use Rattle.station_commands.specs.declared.refusal.CertWord.TheVariants as cert
use Rattle.station_commands.specs.declared.refusal.DescriptorWord.TheVariants as word
use Rattle.station_commands.specs.declared.refusal.MakeVoteRefusal.TheVariants as refusal
use Rattle.station_commands.specs.declared.refusal.PoolRefusal.TheVariants as pool
use Rattle.station_commands.specs.declared.refusal.StationRefusal.TheVariants as station

-- that the station can make no vote
abbrev pub station_stop : StationRefusal → Stop MakeVoteRefusal
station_stop why = stop.Refused (refusal.Station why)

-- that the input does not begin with what a station is given
abbrev pub by_fault : FrameFault → MakeVoteRefusal
by_fault fault = refusal.Station (station.Fault fault)

-- the stop of a reading of what a station is given, as the command is told it
abbrev pub of_fault : Stop FrameFault → Stop MakeVoteRefusal
of_fault given = told_as by_fault given

-- that what a station is given is out of order
abbrev pub by_order : OrderWord → MakeVoteRefusal
by_order why = refusal.Station (station.Order why)

abbrev pub of_order : Stop OrderWord → Stop MakeVoteRefusal
of_order given = told_as by_order given

-- that the descriptors make no pool
abbrev pub by_pool : PoolRefusal → MakeVoteRefusal
by_pool (pool.Fault fault) = refusal.Station (station.NoDescriptor fault)
by_pool (pool.Descriptor number why) = refusal.Station (station.Descriptor number why)
by_pool pool.Full = refusal.Station station.PoolFull
by_pool pool.Verifier = refusal.Verifier

abbrev pub of_pool : Stop PoolRefusal → Stop MakeVoteRefusal
of_pool given = told_as by_pool given

-- that there is no period any more
abbrev pub by_end : MakeVoteRefusal
by_end = refusal.Station station.EndOfTime

-- that the descriptor with this number does not hold, or that the verifier failed at it
abbrev pub descriptor_refused : ℕ → DescriptorRefusal → PoolRefusal
descriptor_refused number descriptor.IdentityMismatch = pool.Descriptor number word.Identity
descriptor_refused number descriptor.BadSignature = pool.Descriptor number word.Signature
descriptor_refused number descriptor.BadEdSignature = pool.Descriptor number word.Ed25519
descriptor_refused number descriptor.VerifierFault = pool.Verifier

-- the word for the clause that a certificate fails; none where it holds, or the verifier failed
abbrev pub cert_word : CertAnswer → Option CertWord
cert_word answer.WrongFingerprint = Some cert.Fingerprint
cert_word (answer.Expired moment expires) = Some cert.Expired
cert_word answer.BadCertification = Some cert.Certification
cert_word answer.BadCrosscert = Some cert.Crosscert
cert_word answer.Checked = None
cert_word answer.VerifierFault = None

-- that the own certificate fails a clause, or that the verifier failed at it
abbrev pub by_word : Option CertWord → MakeVoteRefusal
by_word (Some why) = refusal.Station (station.OwnCert why)
by_word None = refusal.Verifier

-- that the own certificate does not hold; no refusal has an answer that it holds, or that the verifier failed
abbrev pub cert_refused : CertAnswer → MakeVoteRefusal
cert_refused found = by_word (cert_word found)

-- why no vote is made
abbrev pub make_refused : MakeRefusal → Stop MakeVoteRefusal
make_refused (make.OwnCert found) = stop.Refused (cert_refused found)
make_refused make.SignerFault = stop.Refused refusal.Signer
make_refused make.VerifierFault = stop.Refused refusal.Verifier
make_refused (make.TooLong count) = stop.Refused refusal.MadeVote
make_refused make.Memory = stop.Memory
