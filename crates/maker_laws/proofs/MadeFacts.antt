-- What is made of what is in range says what can be read, and its items may be written.
use Rattle.std.proofs.{Common.{◌≡◌, ℕ, List, ◌++◌, refl, subst, arith}, lemmas.List.Elements.All-append}
use Rattle.std.{proofs.lemmas.List.Sums.AllPass-from_list_all, specs.Prelude.All}
use Rattle.dir_values.{specs.FlagSets.{Ascend, as_set, is_name}, proofs.Flags.Ascend-as_set}
use Rattle.grammar_laws.specs.Written.{IsItem}
use Rattle.authority_certs.specs.Texts.{cert_items}
use Rattle.count_terms.specs.declared.newest.Newest.{Newest}
use Rattle.vote_laws.proofs.{Digests.twenty, BareRows.no_rests, Members.{back_of, front_of}, VoteRows.preamble_texts}
use Rattle.vote_laws.specs.Again.{AreEntriesInRange, AreFlags, AreMethods, HasValuesInRange, IsSignatureInRange}
use Rattle.descriptor_laws.specs.ReadRanges.{IsDescriptorInRange}
use Rattle.flag_rules.specs.{Flags.flags_of, Relays.ruled_relays, declared.flags.Flags.Flags}
use Rattle.flag_rules.specs.declared.{relay.RuledRelay.RuledRelay, ruling.Ruling.Ruling}
use Rattle.maker_laws.specs.{Ranges.IsStationInRange, Given.IsBasis, ReadAsMade.{IsMadeInRangeButForLimits, IsSigning}}
use Rattle.maker_laws.{specs.ReadAsMade.signed_facts, proofs.EntryRanges.{IsJudgedInRange, judged_ranged}}
use Rattle.maker_laws.proofs.{MadeEntries.{entries_ranged, entries_rests}, MicroLines.{methods_few, methods_in_range}}
use Rattle.vote_terms.specs.declared.facts.VoteFacts.{VoteFacts}
use Rattle.vote_text.specs.{Entries.entries_items, Texts.{authority_items, footer_items, preamble_items}}
use Rattle.range_laws.proofs.{EntryTexts.HasRests, VoteTexts.{SaysWhole, vote_may}}
use Rattle.vote_maker.specs.{Entries.made_methods, Listings.judged_relays, Made.{Basis, made_flags, relays_in}}

-- ---- what is the same in every made vote

methods_ranged : (newest : Newest) → AreMethods (made_methods newest)
methods_ranged newest = record {
  count = omega (arith, methods_few newest);
  each = (methods_in_range newest).each;
}

are_set : as_set made_flags ≡ made_flags
are_set = refl

flags_ranged : AreFlags made_flags
flags_ranged = record {
  count = omega arith;
  ascend = subst Ascend are_set (Ascend-as_set made_flags);
  each = AllPass-from_list_all is_name made_flags refl;
}

-- ---- parts of what is made

-- of a vote's items those before its certificate and those behind it
before_and_behind : (facts : VoteFacts) → HasValuesInRange facts → SaysWhole facts → IsMadeInRangeButForLimits facts
before_and_behind facts values says =
    let p = preamble_items facts in
    let a = authority_items facts in
    let c = cert_items facts.certificate in
    let e = entries_items facts.entries in
    let f = footer_items facts.signature in
    let all : All IsItem (p ++ a ++ c ++ e ++ f) = vote_may facts says in
    let first = front_of IsItem (p ++ a ++ c ++ e) f all in
    record {
      values = values;
      before = front_of IsItem (p ++ a) c (front_of IsItem (p ++ a ++ c) e first);
      behind = All-append IsItem e f (back_of IsItem (p ++ a ++ c) e first) (back_of IsItem (p ++ a ++ c ++ e) f all);
    }

-- ---- what is made

module _ (its : Basis) (rulings : List Ruling) (signature : List ℕ) (basis : IsBasis its)
    (signing : IsSigning its rulings signature) (station : IsStationInRange its.station)
    (descriptors : All IsDescriptorInRange its.descriptors) where
  abbrev facts : VoteFacts
  facts = signed_facts its rulings signature

  abbrev ruled : List RuledRelay
  ruled = ruled_relays (relays_in its) rulings

  abbrev flags : List Flags
  flags = flags_of its.moment ruled

  judged : All IsJudgedInRange (judged_relays its.descriptors ruled flags)
  judged = judged_ranged its.station.measured its.descriptors rulings flags station.measured descriptors

  entries : AreEntriesInRange facts.entries
  entries = entries_ranged its.station.newest its.descriptors ruled flags basis.ascend basis.few judged

  rests : All HasRests facts.entries
  rests = entries_rests its.station.newest (judged_relays its.descriptors ruled flags) judged

  signed : IsSignatureInRange facts.signature
  signed = record {
    identity = station.certificate.fingerprint;
    key_digest =
        twenty its.station.certificate.signing_key;
  }

  values : HasValuesInRange facts
  values =
      let until = basis.until in
      let short = basis.schedule.short in
      let delays = basis.schedule.delays in
      record {
        methods = methods_ranged its.station.newest;
        published = basis.moment;
        valid_after = omega (arith, until);
        fresh_until = omega (arith, until);
        valid_until = until;
        vote_seconds = omega (arith, short, delays);
        dist_seconds = omega (arith, short, delays);
        known_flags = flags_ranged;
        lists = station.lists;
        nickname = station.nickname;
        identity = station.identity;
        address = station.address;
        ip = station.ip;
        dir_port = station.dir_port;
        or_port = station.or_port;
        random_previous = tt;
        random_current = tt;
        entries = entries;
        signature = signed;
      }

  says : SaysWhole facts
  says = record {
    values = values;
    texts = no_rests (preamble_texts facts) refl;
    contact = station.contact;
    certificate = station.certificate;
    keys = record {
      identity_key = station.keys.identity_key;
      signing_key = station.keys.signing_key;
      crosscert = station.keys.crosscert;
      certification = station.keys.certification;
    };
    rests = rests;
    signed = signing.bytes;
  }

  pub made_ranged : IsMadeInRangeButForLimits facts
  made_ranged = before_and_behind facts values says
