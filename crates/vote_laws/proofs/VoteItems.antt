-- Each item of a vote that is written says what its row asks for.
use Rattle.std.proofs.Common.{◌≡◌, ℕ, false, List, [], length, Option, Some, None, Result, Ok, refl, ap, ◌∙◌}
use Rattle.std.specs.Prelude.{codes, option_map}
use Rattle.dir_values.specs.{FlagSets.set_text, Numbers.numbers_text}
use Rattle.dirdoc_grammar.specs.Writing.{written}
use Rattle.frame_terms.specs.{Rows.row, declared.{document.Taken.Taken, fault.FrameFault.FrameFault}}
use Rattle.frame_terms.specs.declared.{keyword.Keyword.Keyword, row.Count.{Count, TheVariants.{One, Optional}}}
use Rattle.frame_terms.specs.declared.row.Row.{Row}
use Rattle.frame_terms.specs.declared.keyword.Keyword.TheVariants as the
use Rattle.frame_terms.specs.declared.row.Limit.TheVariants as limit
use Rattle.frame_values.specs.{Arguments.next, Faults.{at_place, unless_fault}, Items.bare, Ranges.AreTwenty}
use Rattle.frame_values.specs.{Lines.{flags_of, numbers_of}, Signatures.signature_of, declared.values.Value.Value}
use Rattle.frame_values.specs.declared.values.Value.TheVariants as value
use Rattle.frame_laws.proofs.{Entries.{AlwaysSuits, Entry, item_of}, RowValues.{own_entry, row_if, text_entry}}
use Rattle.frame_laws.proofs.{RowValues.silent_entry, SaidRows.{IsSaid, RowSays}, Sections.Section}
use Rattle.frame_laws.proofs.WrittenItems.{literal-written, rest_at, start_of}
use Rattle.group_laws.proofs.{WrittenDelays.{flags-written, length-flags}, ListRows.{HasLists, ListKinds}}
use Rattle.group_laws.proofs.{Readings.{Reads, few, suits_reading, text_at}, SourceRows.{HasRests, HasSources}}
use Rattle.group_laws.proofs.TimeRows.{HasTimes}
use Rattle.group_laws.proofs.SourceRows as rests
use Rattle.group_laws.proofs.TimeRows as group
use Rattle.vote_terms.specs.declared.facts.{SignatureFacts.SignatureFacts, VoteFacts.VoteFacts}
use Rattle.vote_text.specs.Texts.{signer_text, source_text}
use Rattle.relay_entries.specs.declared.listed.Listed.{Listed}
use Rattle.vote_frame.specs.{Tables.{ignores, over_limit, value_at, vote_tables}, declared.frame.VoteKind.VoteKind}
use Rattle.vote_frame.specs.declared.frame.{VoteSection.VoteSection, VoteValue.VoteValue}
use Rattle.vote_frame.specs.declared.frame.VoteKind.TheVariants as kind
use Rattle.vote_frame.specs.declared.frame.VoteValue.TheVariants as own
use Rattle.vote_laws.{specs.Again.{AreFlags, AreMethods, HasValuesInRange}, proofs.WrittenSources.source-written}
use Rattle.vote_laws.proofs.{WrittenSources.source_at, WrittenValues.{length-numbers, numbers-written}}
use Rattle.vote_laws.proofs.WrittenValues.{signature-written, signature_at}

-- what an item of a vote is, with what it says, and a row of its tables
abbrev pub VoteEntry : Type 0
VoteEntry = Entry (Value VoteValue)

-- what is taken of one
abbrev pub VoteTaken : Type 0
VoteTaken = Taken (Value VoteValue)

abbrev pub VoteRow : Type 0
VoteRow = RowSays VoteKind (Value VoteValue)

-- a section of a vote
abbrev pub VotePart : Type 0
VotePart = Section VoteSection VoteKind (Value VoteValue)

-- an item suits its row
abbrev pub SuitsVote : Row VoteKind → VoteEntry → Type 0
SuitsVote row entry = AlwaysSuits vote_tables row entry

-- what is said of what was read
abbrev pub says : {A : Type 0} → (A → Value VoteValue) → Result A ℕ → Result (Value VoteValue) ℕ
says of read = next read (λ found. Ok (of found))

-- an item that is not passed over, passes no limit and has this value suits its row
pub suits : (keyword : Keyword) (count : Count) (of : VoteKind) (entry : VoteEntry) → keyword ≡ entry.keyword
    → ((p : ℕ) → ignores of (written p (item_of entry)) ≡ false)
    → ((listed : Listed) (p : ℕ) → over_limit listed of (written p (item_of entry)) ≡ Ok tt)
    → ((p : ℕ) → value_at of (written p (item_of entry)) ≡ Ok (entry.value p))
    → SuitsVote (row keyword count of) entry
suits keyword count of entry named known_ within says_ = λ across p. record {
  keyword = named;
  known = known_ p;
  value =
      ap (λ (r : Result (Unit {0}) FrameFault). unless_fault r (at_place (value_at of (written p (item_of entry)))))
      (within across.listed p)
      ∙ ap at_place (says_ p);
}

-- ---- groups of lines

pub has_times : HasTimes vote_tables kind.Time kind.Delays (λ vote dist. own.Delays vote dist)
has_times = record {
  moments = record { known = λ item. refl; values = λ across item. refl };
  seconds = record { known = λ item. refl; values = λ across item. refl };
}

pub has_rests : HasRests vote_tables kind.Rest
has_rests = record { known = λ item. refl; values = λ across item. refl }

pub has_sources : HasSources vote_tables kind.Source (λ found. own.Source found)
has_sources = record { known = λ item. refl; values = λ across item. refl }

pub has_methods : Reads vote_tables kind.Methods (Some limit.Methods) (λ across. numbers_of) text_at
has_methods = record { known = λ item. refl; values = λ across item. refl }

pub has_flags : Reads vote_tables kind.KnownFlags (Some limit.KnownFlags) (λ across. flags_of) text_at
has_flags = record { known = λ item. refl; values = λ across item. refl }

-- the one signature of a vote
pub has_signature : Reads vote_tables kind.Signature None (λ across. signature_of)
    (λ found. value.Own (own.Signature found))
has_signature = record { known = λ item. refl; values = λ across item. refl }

-- the kinds of its lists
abbrev pub list_kinds : ListKinds VoteKind
list_kinds = record { versions = kind.Versions; protocols = kind.Protocols; params = kind.Params }

pub has_lists : HasLists vote_tables list_kinds (Some limit.Params)
has_lists = record {
  versions = record { known = λ item. refl; values = λ across item. refl };
  protocols = record { known = λ item. refl; values = λ across item. refl };
  params = record { known = λ item. refl; values = λ across item. refl };
}

-- ---- words, moments and texts

pub suits_version : (keyword : Keyword) → SuitsVote (row keyword One kind.Version) (silent_entry keyword (codes "3"))
suits_version keyword =
    suits keyword One kind.Version (silent_entry keyword (codes "3")) refl (λ p. refl) (λ listed p. refl)
    (λ p. ap (says (λ _. value.Nothing)) (literal-written p keyword (codes "3") refl refl))

pub suits_status : SuitsVote (row the.VoteStatus One kind.Status) (silent_entry the.VoteStatus (codes "vote"))
suits_status =
    suits the.VoteStatus One kind.Status (silent_entry the.VoteStatus (codes "vote")) refl (λ p. refl)
    (λ listed p. refl)
    (λ p. ap (says (λ _. value.Nothing)) (literal-written p the.VoteStatus (codes "vote") refl refl))

pub suits_nothing : (keyword : Keyword) → SuitsVote (row keyword One kind.Nothing) (silent_entry keyword [])
suits_nothing keyword =
    suits keyword One kind.Nothing (silent_entry keyword []) refl (λ p. refl) (λ listed p. refl) (λ p. refl)

-- a moment
abbrev pub moment_row : Keyword → ℕ → VoteRow
moment_row keyword moment = group.moment_row kind.Time keyword moment

pub said_moment : (keyword : Keyword) (moment : ℕ) → IsSaid vote_tables (moment_row keyword moment)
said_moment keyword moment = group.said_moment has_times.moments keyword moment

-- the rest of a line or none
abbrev pub rest_if : Keyword → Option (List ℕ) → VoteRow
rest_if keyword text = row_if (row keyword Optional kind.Rest) text

pub said_rest_if : (keyword : Keyword) (text : Option (List ℕ)) → IsSaid vote_tables (rest_if keyword text)
said_rest_if keyword text = rests.said_rest_if has_rests keyword text

-- ---- lists

-- its methods, where it names them
abbrev pub methods_if : Option (List ℕ) → VoteRow
methods_if methods = row_if (row the.ConsensusMethods Optional kind.Methods) (option_map numbers_text methods)

pub suits_methods : (methods : List ℕ) → AreMethods methods
    → SuitsVote (row the.ConsensusMethods Optional kind.Methods)
    (text_entry the.ConsensusMethods (numbers_text methods))
suits_methods methods are =
    let k = the.ConsensusMethods in
    let text = numbers_text methods in
    suits_reading has_methods k Optional (text_entry k text) (λ p. rest_at p k text) refl (λ p. refl)
    (λ p. few limit.Methods (written p (bare k text)) (length methods) (length-numbers p k methods) are.count)
    (λ across p. numbers-written p k methods are.each)

pub suits_flags : (flags : List (List ℕ)) → AreFlags flags
    → SuitsVote (row the.KnownFlags One kind.KnownFlags) (text_entry the.KnownFlags (set_text flags))
suits_flags flags are =
    let k = the.KnownFlags in
    let text = set_text flags in
    suits_reading has_flags k One (text_entry k text) (λ p. rest_at p k text) refl (λ p. refl)
    (λ p. few limit.KnownFlags (written p (bare k text)) (length flags) (length-flags p k flags are.each) are.count)
    (λ across p. flags-written p k flags are.ascend are.each)

-- ---- what only votes say

-- the authority
abbrev pub source_entry : VoteFacts → VoteEntry
source_entry facts =
    own_entry the.DirSource (source_text facts)
    (λ p. own.Source (source_at (start_of p the.DirSource (source_text facts)) facts))

pub suits_source : (facts : VoteFacts) → HasValuesInRange facts
    → SuitsVote (row the.DirSource One kind.Source) (source_entry facts)
suits_source facts are =
    suits_reading has_sources the.DirSource One (source_entry facts)
    (λ p. source_at (start_of p the.DirSource (source_text facts)) facts) refl (λ p. refl) (λ p. refl)
    (λ across p. source-written p the.DirSource facts are)

-- the signature
abbrev pub signature_entry : SignatureFacts → VoteEntry
signature_entry s = record {
  keyword = the.DirectorySignature;
  rest = signer_text s;
  spaced = false;
  object = Some (record { words = codes "SIGNATURE"; bytes = s.signature });
  value = λ p. value.Own (own.Signature (signature_at p the.DirectorySignature s));
}

pub suits_signature : (s : SignatureFacts) → AreTwenty s.identity.0 → AreTwenty s.key_digest.0
    → SuitsVote (row the.DirectorySignature One kind.Signature) (signature_entry s)
suits_signature s identity key =
    suits_reading has_signature the.DirectorySignature One (signature_entry s)
    (λ p. signature_at p the.DirectorySignature s) refl (λ p. refl) (λ p. refl)
    (λ across p. signature-written p the.DirectorySignature s identity key)

abbrev pub signature_row : Row VoteKind
signature_row = row the.DirectorySignature One kind.Signature
