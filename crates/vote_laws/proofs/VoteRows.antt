-- A vote, row by row of its sections' tables: what is written, that its items may be, and what is read of them.
use Rattle.std.{proofs.Common.{◌≡◌, ℕ, List, [], ◌∷◌, ◌++◌, Option, Some, None, refl}, specs.Prelude.{IfSome, codes}}
use Rattle.std.specs.Prelude.{map}
use Rattle.dirdoc_grammar.specs.Writing.{IsLineRest}
use Rattle.dir_values.specs.{FlagSets.set_text, Numbers.numbers_text}
use Rattle.grammar_laws.proofs.LineRests.{rest_of_argument}
use Rattle.frame_terms.specs.{Keywords.same, Rows.row, declared.row.{Count.TheVariants.{One, Optional}, Row.Row}}
use Rattle.frame_terms.specs.declared.document.Taken.{Taken}
use Rattle.frame_terms.specs.declared.keyword.Keyword.TheVariants as the
use Rattle.frame_laws.proofs.{Both.both_hold, RowCounts.{said_none, said_once}, RowValues.{text_entry, silent_entry}}
use Rattle.frame_laws.proofs.{RowValues.{moment_said, text_if_said}, SaidRows.{AreSaid, IsSaid, row_once, RowSays}}
use Rattle.frame_laws.proofs.{Sections.rows_in, WordTexts.words_of_flags, LastRows.rows_to, Places.after_all}
use Rattle.frame_laws.proofs.ReadRows.{AreRead, Each, IsRead, row_read}
use Rattle.group_laws.proofs.{TimeRows.{Times, times_said}, ListRows.{protocols_back, versions_back}}
use Rattle.group_laws.proofs.TimeRows as group
use Rattle.value_laws.proofs.LineWords.{rest_of_words}
use Rattle.authority_certs.specs.{declared.cert.Cert.Cert, Certs.cert_in, Heads.head_of}
use Rattle.vote_terms.specs.{declared.{facts.VoteFacts.VoteFacts, lists.VoteLists.VoteLists}, ListLines.lists_in}
use Rattle.vote_terms.specs.ListLines.{vote_lists}
use Rattle.value_groups.specs.declared.line.RandomLine.TheVariants as line
use Rattle.vote_frame.specs.{Tables.vote_tables, declared.frame.{VoteKind.VoteKind, VoteSection.TheVariants.Authority}}
use Rattle.vote_frame.specs.declared.frame.{VoteSection.TheVariants.{Footer, Preamble}, VoteValue.VoteValue}
use Rattle.vote_frame.specs.declared.frame.VoteKind.TheVariants as kind
use Rattle.vote_frame.specs.declared.frame.VoteValue.TheVariants as own
use Rattle.vote_laws.{specs.Again.{AreMethods, HasValuesInRange}, proofs.BareRows.{AreRests, RowsAreBare, both_bare}}
use Rattle.vote_laws.proofs.BareRows.{methods_bare, moment_bare, once_bare, params_bare, protocols_bare, random_bare}
use Rattle.vote_laws.proofs.{BareRows.{text_bare, times_bare, versions_bare}, VoteLists.{both_said, param_rows}}
use Rattle.vote_laws.proofs.VoteLists.{params_back, params_said, protocol_rows, protocols_said, version_rows}
use Rattle.vote_laws.proofs.{VoteLists.versions_said, VoteItems.{VotePart, VoteRow, has_times, list_kinds, methods_if}}
use Rattle.vote_laws.proofs.VoteItems.{moment_row, rest_if, said_moment, said_rest_if, signature_entry, signature_row}
use Rattle.vote_laws.proofs.VoteItems.{source_entry, suits_flags, suits_methods, suits_status}
use Rattle.vote_laws.proofs.{VoteRandoms.{kept_random, random_row, random_said}, VoteSays.{delays_said, flags_said}}
use Rattle.vote_laws.proofs.VoteSays.{methods_said, signature_said, source_said}
use Rattle.vote_entries.specs.{Entries.entry_in, Kept.KeptEntry}
use Rattle.vote_doc.specs.{Facts.facts_of, Heads.{no_head, with_authority, with_certificate, with_footer}}
use Rattle.vote_doc.specs.Heads.{with_preamble}
use Rattle.frame_values.specs.declared.values.Value.{Value}

-- ---- the preamble

-- what the document is, and its methods
abbrev pub kind_rows : VoteFacts → List VoteRow
kind_rows facts =
    row_once (row the.VoteStatus One kind.Status) (silent_entry the.VoteStatus (codes "vote"))
    ∷ methods_if facts.methods
    ∷ []

-- its times
abbrev times_of : VoteFacts → Times
times_of facts = record {
  valid_after = facts.valid_after;
  fresh_until = facts.fresh_until;
  valid_until = facts.valid_until;
  vote_seconds = facts.vote_seconds;
  dist_seconds = facts.dist_seconds;
}

abbrev times_rows : VoteFacts → List VoteRow
times_rows facts = group.time_rows kind.Time kind.Delays (λ vote dist. own.Delays vote dist) (times_of facts)

abbrev pub time_rows : VoteFacts → List VoteRow
time_rows facts = moment_row the.Published facts.published ∷ times_rows facts

-- its flags
abbrev pub flag_rows : VoteFacts → List VoteRow
flag_rows facts =
    row_once (row the.KnownFlags One kind.KnownFlags) (text_entry the.KnownFlags (set_text facts.known_flags))
    ∷ rest_if the.FlagThresholds facts.flag_thresholds
    ∷ []

-- the lists behind its flags
abbrev pub later_rows : VoteLists → List VoteRow
later_rows lists = protocol_rows lists ++ param_rows lists

-- its rows behind the first one of which items are written
abbrev pub preamble_rows : VoteFacts → List VoteRow
preamble_rows facts =
    kind_rows facts ++ (time_rows facts ++ (version_rows facts.lists ++ (flag_rows facts ++ later_rows facts.lists)))

-- shared random values are written behind the contact
abbrev pub no_randoms : List VoteRow
no_randoms = random_row line.Previous None ∷ random_row line.Current None ∷ []

abbrev pub preamble : VoteFacts → VotePart
preamble facts = record {
  name = Preamble;
  first = row the.NetworkStatusVersion One kind.Version;
  opener = silent_entry the.NetworkStatusVersion (codes "3");
  middle = preamble_rows facts ++ no_randoms;
}

said_methods : (methods : Option (List ℕ)) → IfSome methods AreMethods → IsSaid vote_tables (methods_if methods)
said_methods None are = said_none vote_tables (row the.ConsensusMethods Optional kind.Methods) refl
said_methods (Some methods) are =
    said_once vote_tables (row the.ConsensusMethods Optional kind.Methods)
    (text_entry the.ConsensusMethods (numbers_text methods))
    (suits_methods methods are)

pub preamble_said : (facts : VoteFacts) → HasValuesInRange facts → AreSaid vote_tables (preamble_rows facts)
preamble_said facts are =
    let lists = facts.lists in
    let later = both_said (protocol_rows lists) (param_rows lists) (protocols_said lists are.lists)
    (params_said lists are.lists) in
    both_hold (said_once vote_tables _ _ suits_status)
    (both_hold (said_methods facts.methods are.methods)
    (both_hold (said_moment the.Published facts.published)
    (both_said (times_rows facts) (version_rows lists ++ (flag_rows facts ++ later_rows lists))
    (times_said has_times (times_of facts) are.vote_seconds are.dist_seconds)
    (both_said (version_rows lists) (flag_rows facts ++ later_rows lists) (versions_said lists are.lists)
    (both_hold (said_once vote_tables _ _ (suits_flags facts.known_flags are.known_flags))
    (both_hold (said_rest_if the.FlagThresholds facts.flag_thresholds) later))))))

-- its texts that stand as they are
abbrev pub preamble_texts : VoteFacts → List (Option (List ℕ))
preamble_texts facts = facts.flag_thresholds ∷ []

-- its items may be written, and have no objects
pub preamble_bare : (facts : VoteFacts) → HasValuesInRange facts → AreRests (preamble_texts facts)
    → RowsAreBare (preamble_rows facts)
preamble_bare facts are texts =
    let lists = facts.lists in
    let flags = rest_of_words facts.known_flags (words_of_flags facts.known_flags are.known_flags.each) in
    both_hold (once_bare the.VoteStatus (codes "vote") (rest_of_argument (codes "vote") refl))
    (both_hold (methods_bare facts.methods are.methods)
    (both_hold (moment_bare the.Published facts.published)
    (both_bare (times_rows facts) (version_rows lists ++ (flag_rows facts ++ later_rows lists))
    (times_bare (times_of facts))
    (both_bare (version_rows lists) (flag_rows facts ++ later_rows lists) (versions_bare lists are.lists)
    (both_hold (once_bare the.KnownFlags (set_text facts.known_flags) flags)
    (both_hold (text_bare the.FlagThresholds facts.flag_thresholds texts.0)
    (both_bare (protocol_rows lists) (param_rows lists) (protocols_bare lists are.lists)
    (params_bare lists are.lists))))))))

-- ---- the section of the authority, up to the certificate

abbrev pub authority : VoteFacts → VotePart
authority facts = record {
  name = Authority;
  first = row the.DirSource One kind.Source;
  opener = source_entry facts;
  middle =
      rest_if the.Contact facts.contact ∷ random_row line.Previous facts.random_previous
      ∷ random_row line.Current facts.random_current ∷ [];
}

-- the row of the certificate's first item, which is one of the authority's too
abbrev pub certificate_row : Row VoteKind
certificate_row = row the.DirKeyCertificateVersion One kind.Version

-- the same of its items behind the first
pub authority_bare : (facts : VoteFacts) → HasValuesInRange facts → IfSome facts.contact IsLineRest
    → RowsAreBare (authority facts).middle
authority_bare facts are contact =
    both_hold (text_bare the.Contact facts.contact contact)
    (both_hold (random_bare line.Previous facts.random_previous are.random_previous)
    (both_hold (random_bare line.Current facts.random_current are.random_current) tt))

-- ---- the footer

abbrev pub footer : VotePart
footer = record {
  name = Footer;
  first = row the.DirectoryFooter One kind.Nothing;
  opener = silent_entry the.DirectoryFooter [];
  middle = [];
}

-- ---- what is read of its rows

module _ {K V : Type 0} where
  front_each : (P : ℕ → RowSays K V → Type 0) (place : ℕ) (rows more : List (RowSays K V))
      → Each P place (rows ++ more) → Each P place rows
  front_each P place [] more each = tt
  front_each P place (says ∷ rows) more each =
      both_hold each.0 (front_each P (after_all place says.entries) rows more each.1)

  -- of rows that are read those in front are
  pub front_read : {limit : ℕ} {bytes : List ℕ} {taken : List (Taken V)} {place : ℕ} (rows more : List (RowSays K V))
      → AreRead limit bytes taken place (rows ++ more) → AreRead limit bytes taken place rows
  front_read {limit} {bytes} {taken} {place} rows more read =
      record { each = front_each (IsRead limit bytes taken) place rows more read.each }

-- What is kept of the sections of a vote, wherever its certificate and its entries stand, says what the vote says: where
-- the rows of the sections are read, the certificate says this, and the entries what they say.
pub facts_said : {text : List ℕ} {first later at_a at_f : ℕ} (facts : VoteFacts) → HasValuesInRange facts
    → (p c a f : List (Taken (Value VoteValue))) (entries : List KeptEntry) (certificate : Cert)
    → AreRead first text p 0 (rows_in (preamble facts)) → AreRead first text a at_a (rows_in (authority facts))
    → AreRead later text f at_f (rows_to footer signature_row (signature_entry facts.signature))
    → cert_in text (head_of c) ≡ certificate → map (entry_in text) entries ≡ facts.entries
    → facts_of text (record {
      head = with_footer (with_authority (with_certificate (with_preamble no_head p) c) a) f;
      entries = entries;
    }) ≡ record facts { certificate = certificate }
unfolding same
facts_said {text} facts are p c a f entries certificate in_p in_a in_f cert_says entries_say =
    let l = facts.lists in
    let lists : vote_lists text (lists_in p) ≡ l =
    λ i. record {
      client_versions =
          versions_back list_kinds the.ClientVersions l.client_versions are.lists.client_versions
          (row_read the.ClientVersions in_p refl) i;
      server_versions =
          versions_back list_kinds the.ServerVersions l.server_versions are.lists.server_versions
          (row_read the.ServerVersions in_p refl) i;
      recommended_client_protocols =
          protocols_back list_kinds the.RecommendedClientProtocols l.recommended_client_protocols
          are.lists.recommended_client_protocols (row_read the.RecommendedClientProtocols in_p refl) i;
      recommended_relay_protocols =
          protocols_back list_kinds the.RecommendedRelayProtocols l.recommended_relay_protocols
          are.lists.recommended_relay_protocols (row_read the.RecommendedRelayProtocols in_p refl) i;
      required_client_protocols =
          protocols_back list_kinds the.RequiredClientProtocols l.required_client_protocols
          are.lists.required_client_protocols (row_read the.RequiredClientProtocols in_p refl) i;
      required_relay_protocols =
          protocols_back list_kinds the.RequiredRelayProtocols l.required_relay_protocols
          are.lists.required_relay_protocols (row_read the.RequiredRelayProtocols in_p refl) i;
      params = params_back l.params are.lists.params (row_read the.Params in_p refl) i;
    } in
    let delays = delays_said facts.vote_seconds facts.dist_seconds (row_read the.VotingDelay in_p refl) in
    let source = source_said facts (row_read the.DirSource in_a refl) in
    λ i. record {
      methods = methods_said facts.methods are.methods (row_read the.ConsensusMethods in_p refl) i;
      published = moment_said _ facts.published are.published (row_read the.Published in_p refl) i;
      valid_after = moment_said _ facts.valid_after are.valid_after (row_read the.ValidAfter in_p refl) i;
      fresh_until = moment_said _ facts.fresh_until are.fresh_until (row_read the.FreshUntil in_p refl) i;
      valid_until = moment_said _ facts.valid_until are.valid_until (row_read the.ValidUntil in_p refl) i;
      vote_seconds = (delays i).0;
      dist_seconds = (delays i).1;
      known_flags = flags_said facts.known_flags are.known_flags (row_read the.KnownFlags in_p refl) i;
      flag_thresholds = text_if_said _ facts.flag_thresholds (row_read the.FlagThresholds in_p refl) i;
      lists = lists i;
      nickname = source.nickname i;
      identity = source.identity i;
      address = source.address i;
      ip = source.ip i;
      dir_port = source.dir_port i;
      or_port = source.or_port i;
      contact = text_if_said _ facts.contact (row_read the.Contact in_a refl) i;
      random_previous =
          kept_random (random_said line.Previous None (row_read the.SharedRandPreviousValue in_p refl))
          (random_said line.Previous facts.random_previous (row_read the.SharedRandPreviousValue in_a refl)) i;
      random_current =
          kept_random (random_said line.Current None (row_read the.SharedRandCurrentValue in_p refl))
          (random_said line.Current facts.random_current (row_read the.SharedRandCurrentValue in_a refl)) i;
      certificate = cert_says i;
      entries = entries_say i;
      signature = signature_said facts.signature (row_read the.DirectorySignature in_f refl) i;
    }
