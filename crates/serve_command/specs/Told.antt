-- How a refusal of a call is told as the command's.
use Rattle.std.specs.Prelude.{Option, Some, None}
use Rattle.authority_certs.specs.declared.checking.CertAnswer.{CertAnswer}
use Rattle.frame_terms.specs.declared.fault.FrameFault.{FrameFault}
use Rattle.daemon_words.specs.{Stops.told_as, declared.stop.Stop.Stop}
use Rattle.daemon_words.specs.declared.stop.Stop.TheVariants as stop
use Rattle.station_commands.specs.{Told.cert_word, declared.refusal.{CertWord.CertWord, OrderWord.OrderWord}}
use Rattle.station_commands.specs.declared.refusal.{PoolRefusal.PoolRefusal, StationRefusal.StationRefusal}
use Rattle.station_commands.specs.declared.file_refusal.BandwidthRefusal.{BandwidthRefusal}
use Rattle.station_commands.specs.declared.refusal.PoolRefusal.TheVariants as pool
use Rattle.station_commands.specs.declared.refusal.StationRefusal.TheVariants as station
use Rattle.serve_command.specs.declared.refusal.ServeRefusal.{ServeRefusal}
use Rattle.serve_command.specs.declared.refusal.ServeRefusal.TheVariants as refusal

-- that the station can make no vote
abbrev pub station_stop : StationRefusal → Stop ServeRefusal
station_stop why = stop.Refused (refusal.Station why)

-- that the input gives no bandwidth file that counts
abbrev pub by_file : BandwidthRefusal → ServeRefusal
by_file why = refusal.File why

abbrev pub of_file : Stop BandwidthRefusal → Stop ServeRefusal
of_file given = told_as by_file given

-- that what a station is given does not stand there
abbrev pub by_fault : FrameFault → ServeRefusal
by_fault fault = refusal.Station (station.Fault fault)

-- the stop of a reading of what a station is given, as the command is told it
abbrev pub of_fault : Stop FrameFault → Stop ServeRefusal
of_fault given = told_as by_fault given

-- that what a station is given is out of order
abbrev pub by_order : OrderWord → ServeRefusal
by_order why = refusal.Station (station.Order why)

abbrev pub of_order : Stop OrderWord → Stop ServeRefusal
of_order given = told_as by_order given

-- that the descriptors make no pool
abbrev pub by_pool : PoolRefusal → ServeRefusal
by_pool (pool.Fault fault) = refusal.Station (station.NoDescriptor fault)
by_pool (pool.Descriptor number why) = refusal.Station (station.Descriptor number why)
by_pool pool.Full = refusal.Station station.PoolFull
by_pool pool.Verifier = refusal.Verifier

abbrev pub of_pool : Stop PoolRefusal → Stop ServeRefusal
of_pool given = told_as by_pool given

-- that there is no period any more
abbrev pub by_end : ServeRefusal
by_end = refusal.Station station.EndOfTime

-- that the own certificate fails a clause, or that the verifier failed at it
abbrev pub by_word : Option CertWord → ServeRefusal
by_word (Some why) = refusal.Station (station.OwnCert why)
by_word None = refusal.Verifier

-- that the own certificate does not hold; no refusal has an answer that it holds
abbrev pub cert_refused : CertAnswer → ServeRefusal
cert_refused found = by_word (cert_word found)
