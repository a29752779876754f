-- A consensus, row by row of its sections' tables: the preamble, the authorities and the footer.
use Rattle.std.{proofs.Common.{ℕ, false, List, [], ◌∷◌, ◌++◌, Option, Some, refl}, specs.Prelude.{All, codes}}
use Rattle.dir_values.specs.FlagSets.{set_text}
use Rattle.list_values.specs.{Params.params_text, Protocols.protocols_text, VersionLists.versions_text}
use Rattle.frame_terms.specs.{Keywords.same, Rows.row, declared.row.{Count.TheVariants.{Many, One, Optional}, Row.Row}}
use Rattle.frame_terms.specs.declared.keyword.Keyword.TheVariants as the
use Rattle.frame_values.specs.declared.values.Value.TheVariants as value
use Rattle.frame_laws.proofs.{Both.both_hold, Following.{IsFirst, MayFollow, opener_follows, repeated_follows}}
use Rattle.frame_laws.proofs.{ManyRows.{row_of_each, said_of_each}, Passing.EachPasses, RowCounts.said_once}
use Rattle.frame_laws.proofs.{RowValues.{row_if, silent_entry, text_entry}, SaidRows.{AreSaid, row_once}}
use Rattle.frame_laws.proofs.Sections.{IsWritten, entries_in}
use Rattle.group_laws.proofs.{Readings.suits_reading, SourceRows.said_rest_if, TimeRows.{Times, times_said}}
use Rattle.group_laws.proofs.TimeRows as group
use Rattle.consensus_terms.specs.{Methods.is_34_or_later, Signed.signer_text}
use Rattle.consensus_terms.specs.declared.consensus.{ConsensusFacts.ConsensusFacts, SourceLine.SourceLine}
use Rattle.consensus_terms.specs.declared.{flavour.Flavour.Flavour, signature.SignatureLine.SignatureLine}
use Rattle.consensus_frame.specs.{Tables.consensus_tables, declared.rows.ConsensusKind.ConsensusKind}
use Rattle.consensus_frame.specs.declared.rows.ConsensusSection.{ConsensusSection}
use Rattle.consensus_frame.specs.declared.rows.ConsensusKind.TheVariants as kind
use Rattle.consensus_frame.specs.declared.rows.ConsensusSection.TheVariants as section
use Rattle.consensus_frame.specs.declared.value.ConsensusValue.TheVariants as own
use Rattle.consensus_laws.specs.Again.{AreFactsInRange, IsAuthorityInRange, IsSignatureInRange}
use Rattle.consensus_laws.proofs.ConsensusItems.{ConsensusEntry, ConsensusPart, ConsensusRow, SuitsConsensus, has_rests}
use Rattle.consensus_laws.proofs.ConsensusItems.{has_signatures, has_times, method_entry, source_entry, suits_flags}
use Rattle.consensus_laws.proofs.ConsensusItems.{vote_digest_entry, suits_method, suits_status, suits_vote_digest}
use Rattle.consensus_laws.proofs.{ConsensusItems.version_entry, ConsensusLists.{list_quiet, param_rows, params_said}}
use Rattle.consensus_laws.proofs.ConsensusLists.{protocol_rows, protocols_said, version_rows, versions_said}
use Rattle.consensus_laws.proofs.{ConsensusRandoms.{random_quiet, random_row, said_random}, Quiet.{both_said, is_quiet}}
use Rattle.consensus_laws.proofs.{Quiet.{rows_quiet, text_quiet}, SignatureLines.{signature_again, signature_said}}

-- ---- the preamble

-- what the document is, and the method
abbrev pub kind_rows : ConsensusFacts → List ConsensusRow
kind_rows c =
    row_once (row the.VoteStatus One kind.Status) (silent_entry the.VoteStatus (codes "consensus"))
    ∷ row_once (row the.ConsensusMethod One kind.Method) (method_entry c.method)
    ∷ []

-- its times
abbrev times_of : ConsensusFacts → Times
times_of c = record {
  valid_after = c.valid_after;
  fresh_until = c.fresh_until;
  valid_until = c.valid_until;
  vote_seconds = c.vote_seconds;
  dist_seconds = c.dist_seconds;
}

abbrev pub time_rows : ConsensusFacts → List ConsensusRow
time_rows c = group.time_rows kind.Time kind.Delays (λ vote dist. own.Delays vote dist) (times_of c)

-- its flags
abbrev pub flag_rows : ConsensusFacts → List ConsensusRow
flag_rows c =
    row_once (row the.KnownFlags One kind.KnownFlags) (text_entry the.KnownFlags (set_text c.known_flags)) ∷ []

-- its shared random values
abbrev pub random_rows : ConsensusFacts → List ConsensusRow
random_rows c =
    random_row the.SharedRandPreviousValue c.random_previous ∷ random_row the.SharedRandCurrentValue c.random_current ∷ []

-- the lists behind its flags, and its shared random values
abbrev list_rows : ConsensusFacts → List ConsensusRow
list_rows c = protocol_rows (is_34_or_later c.method) c.lists ++ (param_rows c.lists ++ random_rows c)

-- its rows behind the first one
abbrev pub preamble_rows : ConsensusFacts → List ConsensusRow
preamble_rows c =
    kind_rows c ++ (time_rows c ++ (version_rows (is_34_or_later c.method) c.lists ++ (flag_rows c ++ list_rows c)))

abbrev pub version_row : Row ConsensusKind
version_row = row the.NetworkStatusVersion One kind.Version

abbrev pub preamble : Flavour → ConsensusFacts → ConsensusPart
preamble flavour c = record {
  name = section.Preamble;
  first = version_row;
  opener = version_entry flavour;
  middle = preamble_rows c;
}

module _ (flavour : Flavour) where
  preamble_said : (c : ConsensusFacts) → AreFactsInRange flavour c
      → AreSaid (consensus_tables flavour) (preamble_rows c)
  preamble_said c are =
      let tables = consensus_tables flavour in
      let always = is_34_or_later c.method in
      both_hold (said_once tables _ _ (suits_status flavour))
      (both_hold (said_once tables _ _ (suits_method flavour c.method are.method))
      (both_said tables (time_rows c) (version_rows always c.lists ++ (flag_rows c ++ list_rows c))
      (times_said (has_times flavour) (times_of c) are.vote_seconds are.dist_seconds)
      (both_said tables (version_rows always c.lists) (flag_rows c ++ list_rows c)
      (versions_said flavour always c.lists are.lists)
      (both_hold (said_once tables _ _ (suits_flags flavour c.known_flags are.known_flags))
      (both_said tables (protocol_rows always c.lists) (param_rows c.lists ++ random_rows c)
      (protocols_said flavour always c.lists are.lists)
      (both_said tables (param_rows c.lists) (random_rows c) (params_said flavour c.lists are.lists)
      (both_hold (said_random flavour the.SharedRandPreviousValue c.random_previous are.random_previous)
      (both_hold (said_random flavour the.SharedRandCurrentValue c.random_current are.random_current) tt))))))))

  pub preamble_written : (c : ConsensusFacts) → AreFactsInRange flavour c
      → IsWritten (consensus_tables flavour) (preamble flavour c) []
  unfolding same
  preamble_written c are =
      record { table = refl; apart = refl; plain = refl; opens = refl; said = preamble_said c are }

  pub preamble_first : IsFirst (consensus_tables flavour) version_row
  unfolding same
  preamble_first = record { begins = refl; row_there = refl }

-- nothing is remembered of it
pub preamble_quiet : (flavour : Flavour) (c : ConsensusFacts) → EachPasses is_quiet (entries_in (preamble flavour c))
preamble_quiet flavour c =
    let l = c.lists in
    let always = is_34_or_later c.method in
    both_hold (λ place. refl) (rows_quiet (preamble_rows c)
    (both_hold (both_hold (λ place. refl) tt)
    (both_hold (both_hold (λ place. refl) tt)
    (both_hold (both_hold (λ place. refl) tt)
    (both_hold (both_hold (λ place. refl) tt)
    (both_hold (both_hold (λ place. refl) tt)
    (both_hold (both_hold (λ place. refl) tt)
    (both_hold (list_quiet always the.ClientVersions versions_text l.client_versions)
    (both_hold (list_quiet always the.ServerVersions versions_text l.server_versions)
    (both_hold (both_hold (λ place. refl) tt)
    (both_hold (list_quiet always the.RecommendedClientProtocols protocols_text l.recommended_client_protocols)
    (both_hold (list_quiet always the.RecommendedRelayProtocols protocols_text l.recommended_relay_protocols)
    (both_hold (list_quiet always the.RequiredClientProtocols protocols_text l.required_client_protocols)
    (both_hold (list_quiet always the.RequiredRelayProtocols protocols_text l.required_relay_protocols)
    (both_hold (list_quiet false the.Params params_text l.params)
    (both_hold (random_quiet the.SharedRandPreviousValue c.random_previous)
    (both_hold (random_quiet the.SharedRandCurrentValue c.random_current) tt)))))))))))))))))

-- ---- an authority

abbrev pub source_row : Row ConsensusKind
source_row = row the.DirSource One kind.Source

abbrev pub source_rows : SourceLine → List ConsensusRow
source_rows source =
    row_if (row the.Contact Optional kind.Rest) source.contact
    ∷ row_once (row the.VoteDigest One kind.VoteDigest) (vote_digest_entry source.vote_digest)
    ∷ []

abbrev pub source_section : SourceLine → ConsensusPart
source_section source = record {
  name = section.Source;
  first = source_row;
  opener = source_entry source;
  middle = source_rows source;
}

module _ (flavour : Flavour) where
  pub source_written : (source : SourceLine) → IsAuthorityInRange source
      → IsWritten (consensus_tables flavour) (source_section source) []
  unfolding same
  source_written source are = record {
    table = refl;
    apart = refl;
    plain = refl;
    opens = refl;
    said =
        both_hold (said_rest_if (has_rests flavour) the.Contact source.contact)
        (both_hold (said_once (consensus_tables flavour) _ _
        (suits_vote_digest flavour source.vote_digest are.vote_digest)) tt);
  }

pub source_quiet : (source : SourceLine) → EachPasses is_quiet (entries_in (source_section source))
source_quiet source =
    both_hold (λ place. refl) (rows_quiet (source_rows source)
    (both_hold (text_quiet the.Contact source.contact) (both_hold (both_hold (λ place. refl) tt) tt)))

-- ---- the footer

abbrev pub footer_row : Row ConsensusKind
footer_row = row the.DirectoryFooter One kind.Nothing

abbrev pub signature_row : Row ConsensusKind
signature_row = row the.DirectorySignature Many kind.Signature

-- a signature
abbrev pub signature_entry : SignatureLine → ConsensusEntry
signature_entry s = record {
  keyword = the.DirectorySignature;
  rest = signer_text s;
  spaced = false;
  object = Some (record { words = codes "SIGNATURE"; bytes = s.signature });
  value = λ p. value.Own (own.Signature (signature_said p the.DirectorySignature s));
}

abbrev pub weights_row : Option (List ℕ) → ConsensusRow
weights_row weights = row_if (row the.BandwidthWeights Optional kind.Rest) weights

abbrev pub footer : Option (List ℕ) → List SignatureLine → ConsensusPart
footer weights lines = record {
  name = section.Footer;
  first = footer_row;
  opener = silent_entry the.DirectoryFooter [];
  middle = weights_row weights ∷ row_of_each signature_row signature_entry lines ∷ [];
}

module _ (flavour : Flavour) where
  suits_signature : (s : SignatureLine) → IsSignatureInRange s
      → SuitsConsensus flavour signature_row (signature_entry s)
  suits_signature s are =
      suits_reading (has_signatures flavour) the.DirectorySignature Many (signature_entry s)
      (λ p. signature_said p the.DirectorySignature s) refl (λ p. refl) (λ p. refl)
      (λ across p. signature_again across.is_signed p the.DirectorySignature s are)

  pub footer_written : (weights : Option (List ℕ)) (lines : List SignatureLine) → All IsSignatureInRange lines
      → IsWritten (consensus_tables flavour) (footer weights lines) []
  unfolding same
  footer_written weights lines are = record {
    table = refl;
    apart = refl;
    plain = refl;
    opens = refl;
    said =
        both_hold (said_rest_if (has_rests flavour) the.BandwidthWeights weights)
        (both_hold (said_of_each (consensus_tables flavour) signature_row signature_entry IsSignatureInRange lines refl refl
        are suits_signature) tt);
  }

-- ---- what may follow what

module _ (flavour : Flavour) where
  -- a section may follow another
  abbrev pub Follows : ConsensusSection → ConsensusSection → Row ConsensusKind → Type 0
  Follows before next row = MayFollow (consensus_tables flavour) before next row

  pub source_first : Follows section.Preamble section.Source source_row
  unfolding same
  source_first =
      opener_follows (consensus_tables flavour) section.Preamble section.Source source_row refl
      (record { not_here = refl; opens = refl; passes_none = refl; row_there = refl })

  pub source_next : Follows section.Source section.Source source_row
  unfolding same
  source_next =
      repeated_follows (consensus_tables flavour) section.Source source_row refl
      (record { row_there = refl; not_last = refl; begins_it = refl })

  pub footer_after_preamble : Follows section.Preamble section.Footer footer_row
  unfolding same
  footer_after_preamble =
      opener_follows (consensus_tables flavour) section.Preamble section.Footer footer_row refl
      (record { not_here = refl; opens = refl; passes_none = refl; row_there = refl })

  pub footer_after_source : Follows section.Source section.Footer footer_row
  unfolding same
  footer_after_source =
      opener_follows (consensus_tables flavour) section.Source section.Footer footer_row refl
      (record { not_here = refl; opens = refl; passes_none = refl; row_there = refl })
