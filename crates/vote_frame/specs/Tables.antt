-- The sections of a vote, their items, and what these say (dir-spec, "Vote and consensus status document formats").
use Rattle.std.specs.Prelude.{ℕ, Bool, false, List, [], ◌∷◌, Some, None, Result, Ok, codes}
use Rattle.item_terms.specs.Items.{Item}
use Rattle.frame_terms.specs.declared.{fault.FrameFault.FrameFault, keyword.Keyword.Keyword, row.Count.TheVariants.One}
use Rattle.frame_terms.specs.{declared.{row.{Count.TheVariants.Optional, Row.Row}, section.Shape.Shape}, Rows.row}
use Rattle.frame_terms.specs.Tables.{Tables}
use Rattle.frame_terms.specs.declared.keyword.Keyword.TheVariants as the
use Rattle.frame_terms.specs.declared.row.Limit.TheVariants as limit
use Rattle.frame_terms.specs.declared.section.Again.TheVariants as again
use Rattle.frame_values.specs.{declared.values.Value.Value, Faults.{at_place, too_many, unless_fault}, Arguments.next}
use Rattle.frame_values.specs.Lines.{literal, numbers_of, time_of, delays_of, flags_of, rest_of, source_of}
use Rattle.frame_values.specs.Signatures.{signature_of}
use Rattle.frame_values.specs.declared.values.Value.TheVariants as value
use Rattle.value_groups.specs.{ListLines.{params_of, protocols_of, versions_of}, Lines.random_of}
use Rattle.authority_certs.specs.Tables.{cert_rows, cert_shape, cert_value}
use Rattle.relay_entries.specs.{declared.listed.Listed.Listed, Lines.{entry_value, is_ignored, lifted_entry_value}}
use Rattle.relay_entries.specs.{Listing.{too_many_entries, note_entry}, Tables.{entry_rows, entry_shape}}
use Rattle.value_groups.specs.declared.line.RandomLine.TheVariants as line
use Rattle.vote_frame.specs.{Across.{nothing_across, note_random, with_listed}, declared.across.Across.Across}
use Rattle.vote_frame.specs.declared.frame.VoteKind.{VoteKind, TheVariants.{Version, Status, Methods, Time, Delays}}
use Rattle.vote_frame.specs.declared.frame.VoteKind.TheVariants.{KnownFlags, Versions, Protocols, Params, Rest, Source}
use Rattle.vote_frame.specs.declared.frame.VoteKind.TheVariants.{Random, Nothing, Signature, Certificate, Entry}
use Rattle.vote_frame.specs.declared.frame.VoteSection.{VoteSection, TheVariants.{Preamble, Authority, Footer}}
use Rattle.vote_frame.specs.declared.frame.VoteSection.TheVariants.{Certificate as CertificateSection}
use Rattle.vote_frame.specs.declared.frame.{VoteSection.TheVariants.Entry as EntrySection, VoteValue.VoteValue}
use Rattle.vote_frame.specs.declared.frame.VoteValue.TheVariants as own

-- the items of a section; the first one opens it
abbrev pub rows : VoteSection → List (Row VoteKind)
rows Preamble =
    row the.NetworkStatusVersion One Version
    ∷ row the.VoteStatus One Status
    ∷ row the.ConsensusMethods Optional Methods
    ∷ row the.Published One Time
    ∷ row the.ValidAfter One Time
    ∷ row the.FreshUntil One Time
    ∷ row the.ValidUntil One Time
    ∷ row the.VotingDelay One Delays
    ∷ row the.ClientVersions Optional Versions
    ∷ row the.ServerVersions Optional Versions
    ∷ row the.KnownFlags One KnownFlags
    ∷ row the.FlagThresholds Optional Rest
    ∷ row the.RecommendedClientProtocols Optional Protocols
    ∷ row the.RecommendedRelayProtocols Optional Protocols
    ∷ row the.RequiredClientProtocols Optional Protocols
    ∷ row the.RequiredRelayProtocols Optional Protocols
    ∷ row the.Params Optional Params
    ∷ row the.SharedRandPreviousValue Optional (Random line.Previous)
    ∷ row the.SharedRandCurrentValue Optional (Random line.Current)
    ∷ []
rows Authority =
    row the.DirSource One Source
    ∷ row the.Contact Optional Rest
    ∷ row the.SharedRandPreviousValue Optional (Random line.Previous)
    ∷ row the.SharedRandCurrentValue Optional (Random line.Current)
    ∷ row the.DirKeyCertificateVersion One Version
    ∷ []
rows CertificateSection = cert_rows Certificate
rows EntrySection = entry_rows Entry
rows Footer =
    row the.DirectoryFooter One Nothing
    ∷ row the.DirectorySignature One Signature
    ∷ []

-- a section that stands once, and ends where another begins
abbrev pub plain : Keyword → Shape VoteSection
plain opener = record { opener = opener; last = None; again = again.Nothing; inner = None; limit = None }

-- how a section begins and ends, and what may stand inside it
abbrev pub shape : VoteSection → Shape VoteSection
shape Preamble = plain the.NetworkStatusVersion
shape Authority = record (plain the.DirSource) { inner = Some CertificateSection }
shape CertificateSection = cert_shape
shape EntrySection = entry_shape
shape Footer = record (plain the.DirectoryFooter) { last = Some the.DirectorySignature }

-- What an item says, or the place of what is wrong. Of a shared random value it is told when it is noted, since that one
-- stands already comes before it.
abbrev pub value_at : VoteKind → Item → Result (Value VoteValue) ℕ
value_at Version item = next (literal (codes "3") item) (λ _. Ok value.Nothing)
value_at Status item = next (literal (codes "vote") item) (λ _. Ok value.Nothing)
value_at Methods item = next (numbers_of item) (λ text. Ok (value.Text text))
value_at Time item = next (time_of item) (λ number. Ok (value.Number number))
value_at Delays item = next (delays_of item) (λ delays. Ok (value.Own (own.Delays delays.0 delays.1)))
value_at KnownFlags item = next (flags_of item) (λ text. Ok (value.Text text))
value_at Versions item = next (versions_of item) (λ text. Ok (value.Text text))
value_at Protocols item = next (protocols_of item) (λ text. Ok (value.Text text))
value_at Params item = next (params_of item) (λ text. Ok (value.Text text))
value_at Rest item = Ok (value.Text (rest_of item))
value_at Source item = next (source_of item) (λ source. Ok (value.Own (own.Source source)))
value_at (Random of) item = Ok (value.Own (own.Random of (random_of item)))
value_at Nothing item = Ok value.Nothing
value_at Signature item = next (signature_of item) (λ signature. Ok (value.Own (own.Signature signature)))
value_at (Certificate kind) item = cert_value kind item
value_at (Entry kind) item = next (entry_value kind item) (λ said. Ok (lifted_entry_value own.Entry said))

-- the fault of an item that has too many arguments for its kind, or that begins one entry too many
abbrev pub over_limit : Listed → VoteKind → Item → Result (Unit {0}) FrameFault
over_limit listed Methods item = too_many limit.Methods item
over_limit listed KnownFlags item = too_many limit.KnownFlags item
over_limit listed Params item = too_many limit.Params item
over_limit listed (Entry kind) item = too_many_entries listed kind item
over_limit listed _ item = Ok tt

-- whether an item is passed over, as one that a vote does not know
abbrev pub ignores : VoteKind → Item → Bool
ignores (Entry kind) item = is_ignored kind item
ignores _ item = false

-- what is remembered with what an item says that begins at a place, or why it may not stand
abbrev pub note_value : Across → ℕ → Value VoteValue → Result Across FrameFault
note_value across place (value.Own (own.Entry said)) = with_listed across (note_entry across.listed place said)
note_value across place (value.Own (own.Random of read)) = note_random across place of read
note_value across place _ = Ok across

-- the tables of a vote
abbrev pub vote_tables : Tables VoteSection VoteKind (Value VoteValue) Across
vote_tables = record {
  first = Preamble;
  sections = Preamble ∷ Authority ∷ EntrySection ∷ Footer ∷ [];
  shape = shape;
  rows = rows;
  strangers = λ _ _. false;
  ignores = ignores;
  value_of = λ across kind item. unless_fault (over_limit across.listed kind item) (at_place (value_at kind item));
  start = nothing_across;
  note = λ across one. note_value across one.place one.value;
}
