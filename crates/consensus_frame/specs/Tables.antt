-- The sections of a consensus, their items, and what these say (dir-spec, "Vote and consensus status document
-- formats").
use Rattle.std.specs.Prelude.{ℕ, Bool, true, false, List, [], ◌∷◌, Option, None, Result, Ok, Err, codes, if◌then◌else◌}
use Rattle.item_terms.specs.Items.{Item}
use Rattle.frame_terms.specs.declared.{fault.FrameFault.FrameFault, keyword.Keyword.Keyword, row.Count.TheVariants.One}
use Rattle.frame_terms.specs.declared.{row.{Count.TheVariants.{Optional, Many}, Row.Row}, section.Again.Again}
use Rattle.frame_terms.specs.{declared.section.Shape.Shape, Rows.row, Tables.Tables}
use Rattle.frame_terms.specs.declared.keyword.Keyword.TheVariants as the
use Rattle.frame_terms.specs.declared.section.Again.TheVariants as again
use Rattle.frame_values.specs.{declared.{found.VoteSignature.VoteSignature, values.Value.Value}, Faults.at_place}
use Rattle.frame_values.specs.{Arguments.next, Lines.{literal, time_of, delays_of, flags_of, rest_of, source_of}}
use Rattle.frame_values.specs.Signatures.{known_signature_of, space_of}
use Rattle.frame_values.specs.declared.values.Value.TheVariants as value
use Rattle.value_groups.specs.{ListLines.{params_of, protocols_of, versions_of}, Lines.random_of}
use Rattle.relay_entries.specs.{declared.listed.Listed.Listed, Lines.{entry_value, is_ignored, lifted_entry_value}}
use Rattle.relay_entries.specs.{Listing.{none_listed, note_entry}, Tables.entry_shape}
use Rattle.relay_entries.specs.declared.said.EntryKind.TheVariants as entry
use Rattle.relay_entries.specs.declared.said.EntryValue.TheVariants as said
use Rattle.consensus_terms.specs.declared.flavour.Flavour.{Flavour, TheVariants.{Ns, Microdesc}}
use Rattle.consensus_frame.specs.declared.{across.Across.Across, rows.ConsensusKind.ConsensusKind}
use Rattle.consensus_frame.specs.declared.rows.ConsensusKind.TheVariants.{Version, Status, Method, Time, Delays}
use Rattle.consensus_frame.specs.declared.rows.ConsensusKind.TheVariants.{Versions, KnownFlags, Protocols, Params, Rest}
use Rattle.consensus_frame.specs.declared.rows.ConsensusKind.TheVariants.{VoteDigest, Random, Nothing, Signature, Relay}
use Rattle.consensus_frame.specs.declared.rows.ConsensusKind.TheVariants.{Bandwidth, MicroDigest, Entry}
use Rattle.consensus_frame.specs.declared.rows.ConsensusKind.TheVariants.{Source as SourceKind}
use Rattle.consensus_frame.specs.declared.rows.ConsensusSection.{ConsensusSection, TheVariants.{Preamble, Source}}
use Rattle.consensus_frame.specs.declared.rows.ConsensusSection.TheVariants.{Router, Footer}
use Rattle.consensus_frame.specs.declared.value.ConsensusValue.{ConsensusValue}
use Rattle.consensus_frame.specs.declared.value.ConsensusValue.TheVariants as own
use Rattle.consensus_frame.specs.Lines as lines

-- ---- the rows

-- the `m` line of a relay: its microdescriptor's digest in the microdesc flavour; in the ns flavour it is read as in a
-- vote
abbrev pub m_row : Flavour → Row ConsensusKind
m_row Ns = row the.M Many (Entry entry.Micro)
m_row Microdesc = row the.M One MicroDigest

-- the items of a section; the first one opens it
abbrev pub rows : Flavour → ConsensusSection → List (Row ConsensusKind)
rows flavour Preamble =
    row the.NetworkStatusVersion One Version
    ∷ row the.VoteStatus One Status
    ∷ row the.ConsensusMethod One Method
    ∷ row the.ValidAfter One Time
    ∷ row the.FreshUntil One Time
    ∷ row the.ValidUntil One Time
    ∷ row the.VotingDelay One Delays
    ∷ row the.ClientVersions Optional Versions
    ∷ row the.ServerVersions Optional Versions
    ∷ row the.KnownFlags One KnownFlags
    ∷ row the.RecommendedClientProtocols Optional Protocols
    ∷ row the.RecommendedRelayProtocols Optional Protocols
    ∷ row the.RequiredClientProtocols Optional Protocols
    ∷ row the.RequiredRelayProtocols Optional Protocols
    ∷ row the.Params Optional Params
    ∷ row the.SharedRandPreviousValue Optional Random
    ∷ row the.SharedRandCurrentValue Optional Random
    ∷ []
rows flavour Source =
    row the.DirSource One SourceKind
    ∷ row the.Contact Optional Rest
    ∷ row the.VoteDigest One VoteDigest
    ∷ []
rows flavour Router =
    row the.R One Relay
    ∷ row the.A Many (Entry entry.Address)
    ∷ row the.S One (Entry entry.Flags)
    ∷ row the.V Optional Rest
    ∷ row the.Pr Optional Rest
    ∷ row the.W Optional Bandwidth
    ∷ row the.P Optional Rest
    ∷ m_row flavour
    ∷ row the.Id Optional (Entry entry.Ed)
    ∷ []
rows flavour Footer =
    row the.DirectoryFooter One Nothing
    ∷ row the.BandwidthWeights Optional Rest
    ∷ row the.DirectorySignature Many Signature
    ∷ []

-- a section that ends where another begins, or with the input, and what one more of its opener begins
abbrev pub section : Keyword → Again → Shape ConsensusSection
section opener more = record { opener = opener; last = None; again = more; inner = None; limit = None }

-- how a section begins and ends
abbrev pub shape : ConsensusSection → Shape ConsensusSection
shape Preamble = section the.NetworkStatusVersion again.Nothing
shape Source = section the.DirSource again.Section
shape Router = entry_shape
shape Footer = section the.DirectoryFooter again.Nothing

-- ---- what items say

-- a signature, and nothing where its algorithm is not known; a space has to stand behind the keyword of the first one
abbrev pub signature_of : Bool → Item → Result (Option VoteSignature) ℕ
signature_of true item = known_signature_of item
signature_of false item = next (space_of item) (λ _. known_signature_of item)

-- what an item of a relay says that is of a consensus alone, or the place of what is wrong
abbrev pub router_value : Flavour → ConsensusKind → Item → Result (Value ConsensusValue) ℕ
router_value flavour Relay item =
    next (lines.relay_of flavour item) (λ relay. Ok (value.Own (own.Entry (said.Relay relay))))
router_value flavour Bandwidth item =
    next (lines.bandwidth_of item) (λ bandwidth. Ok (value.Own (own.Bandwidth bandwidth)))
router_value flavour MicroDigest item =
    next (lines.micro_digest_of item) (λ digest. Ok (value.Own (own.MicroDigest digest)))
router_value flavour _ item = Ok value.Nothing

-- what an item says, or the place of what is wrong
abbrev pub value_at : Flavour → Across → ConsensusKind → Item → Result (Value ConsensusValue) ℕ
value_at flavour across Version item = next (lines.version_of flavour item) (λ _. Ok value.Nothing)
value_at flavour across Status item = next (literal (codes "consensus") item) (λ _. Ok value.Nothing)
value_at flavour across Method item = next (lines.method_of item) (λ number. Ok (value.Number number))
value_at flavour across Time item = next (time_of item) (λ number. Ok (value.Number number))
value_at flavour across Delays item = next (delays_of item) (λ delays. Ok (value.Own (own.Delays delays.0 delays.1)))
value_at flavour across Versions item = next (versions_of item) (λ text. Ok (value.Text text))
value_at flavour across KnownFlags item = next (flags_of item) (λ text. Ok (value.Text text))
value_at flavour across Protocols item = next (protocols_of item) (λ text. Ok (value.Text text))
value_at flavour across Params item = next (params_of item) (λ text. Ok (value.Text text))
value_at flavour across Random item = next (random_of item) (λ random. Ok (value.Own (own.Random random)))
value_at flavour across SourceKind item = next (source_of item) (λ source. Ok (value.Own (own.Source source)))
value_at flavour across Rest item = Ok (value.Text (rest_of item))
value_at flavour across VoteDigest item =
    next (lines.vote_digest_of item) (λ digest. Ok (value.Own (own.VoteDigest digest)))
value_at flavour across Nothing item = Ok value.Nothing
value_at flavour across Signature item =
    next (signature_of across.is_signed item) (λ signature. Ok (value.Own (own.Signature signature)))
value_at flavour across (Entry kind) item = next (entry_value kind item) (λ text. Ok (lifted_entry_value own.Entry text))
value_at flavour across Relay item = router_value flavour Relay item
value_at flavour across Bandwidth item = router_value flavour Bandwidth item
value_at flavour across MicroDigest item = router_value flavour MicroDigest item

-- whether an item is passed over, as one that a consensus does not know
abbrev pub ignores : ConsensusKind → Item → Bool
ignores (Entry kind) item = is_ignored kind item
ignores _ item = false

-- ---- what is remembered

-- nothing listed, and no signature
abbrev pub nothing_across : Across
nothing_across = record { listed = none_listed; is_signed = false }

-- with these relays
abbrev pub with_listed : Across → Result Listed FrameFault → Result Across FrameFault
with_listed across (Ok listed) = Ok (record { listed = listed; is_signed = across.is_signed })
with_listed across (Err fault) = Err fault

-- what is remembered with what an item says that begins at a place, or why it may not stand
abbrev pub note_value : Across → ℕ → Value ConsensusValue → Result Across FrameFault
note_value across place (value.Own (own.Entry text)) = with_listed across (note_entry across.listed place text)
note_value across place (value.Own (own.Signature signature)) =
    Ok (record { listed = across.listed; is_signed = true })
note_value across place _ = Ok across

-- ---- the tables

-- the tables of a consensus of a flavour
abbrev pub consensus_tables : Flavour → Tables ConsensusSection ConsensusKind (Value ConsensusValue) Across
consensus_tables flavour = record {
  first = Preamble;
  sections = Preamble ∷ Source ∷ Router ∷ Footer ∷ [];
  shape = shape;
  rows = rows flavour;
  strangers = λ _ _. false;
  ignores = ignores;
  value_of = λ across kind item. at_place (value_at flavour across kind item);
  start = nothing_across;
  note = λ across one. note_value across one.place one.value;
}
