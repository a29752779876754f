-- Each item of a consensus that is written says what its row asks for.
use Rattle.std.proofs.Common.{◌≡◌, ℕ, ◌≤◌, false, List, [], ◌∷◌, Some, None, Result, Ok, refl, ap, arith}
use Rattle.std.{proofs.lemmas.List.Elements.{All-cons, All-nil}, specs.{Prelude.{codes, decimal}, List.join_with_byte}}
use Rattle.item_terms.specs.Items.{Item}
use Rattle.dir_bytes.{specs.FieldTexts.hex_text, proofs.ReadAgain.number-decimal}
use Rattle.dir_values.specs.{Arguments.Argument, Digests.key_digest, FlagSets.set_text, Numbers.number_of}
use Rattle.dir_values.specs.declared.digest.Digest1.{Digest1}
use Rattle.dirdoc_grammar.specs.Writing.{written}
use Rattle.frame_terms.specs.{Rows.row, declared.{keyword.Keyword.Keyword, row.Count.{Count, TheVariants.One}}}
use Rattle.frame_terms.specs.declared.row.Row.{Row}
use Rattle.frame_terms.specs.declared.keyword.Keyword.TheVariants as the
use Rattle.frame_values.specs.{Arguments.{arguments_of, next}, Faults.at_place, Items.bare, Ranges.AreTwenty}
use Rattle.frame_values.specs.declared.{found.{DirSource.DirSource, Span.Span}, values.Value.Value}
use Rattle.frame_values.specs.declared.values.Value.TheVariants as value
use Rattle.frame_laws.proofs.{Entries.{AlwaysSuits, Entry, item_of}, RowValues.{own_entry, silent_entry, text_entry}}
use Rattle.frame_laws.proofs.{SaidRows.{IsSaid, RowSays}, Sections.Section, Words.{AreWords, IsWord, arguments_of_word}}
use Rattle.frame_laws.proofs.Words.{arguments_of_words, placed, two_words, word_of_identity, word_of_number}
use Rattle.frame_laws.proofs.WrittenItems.{key_again, literal-written, start_of}
use Rattle.group_laws.{specs.LineAgain.{source_at, AreFlagsInRange}, proofs.WrittenDelays.flags_again}
use Rattle.group_laws.proofs.{ListRows.{HasLists, ListKinds}, Readings.Reads, SourceRows.{HasRests, HasSources}}
use Rattle.group_laws.proofs.TimeRows.{HasTimes}
use Rattle.group_laws.proofs.SourceRows as group
use Rattle.consensus_terms.specs.{Texts.{source_words, version_words}, declared.consensus.SourceLine.SourceLine}
use Rattle.consensus_terms.specs.declared.flavour.Flavour.{Flavour, TheVariants.{Ns, Microdesc}}
use Rattle.consensus_frame.specs.{Lines.{method_of, version_of, vote_digest_of}, Tables.{consensus_tables, ignores}}
use Rattle.consensus_frame.specs.{Tables.{signature_of, value_at}, declared.across.Across.Across}
use Rattle.consensus_frame.specs.declared.rows.{ConsensusKind.ConsensusKind, ConsensusSection.ConsensusSection}
use Rattle.consensus_frame.specs.declared.value.ConsensusValue.{ConsensusValue}
use Rattle.consensus_frame.specs.declared.rows.ConsensusKind.TheVariants as kind
use Rattle.consensus_frame.specs.declared.value.ConsensusValue.TheVariants as own
use Rattle.consensus_laws.specs.Again.{IsAuthorityInRange}

-- an item of a consensus with what it says, and a row of its tables
abbrev pub ConsensusEntry : Type 0
ConsensusEntry = Entry (Value ConsensusValue)

abbrev pub ConsensusRow : Type 0
ConsensusRow = RowSays ConsensusKind (Value ConsensusValue)

-- a section of a consensus
abbrev pub ConsensusPart : Type 0
ConsensusPart = Section ConsensusSection ConsensusKind (Value ConsensusValue)

-- what is said of what was read
abbrev pub says : {A : Type 0} → (A → Value ConsensusValue) → Result A ℕ → Result (Value ConsensusValue) ℕ
says of read = next read (λ found. Ok (of found))

-- ---- what items say

-- the method
abbrev pub method_entry : ℕ → ConsensusEntry
method_entry method = record {
  keyword = the.ConsensusMethod;
  rest = decimal method;
  spaced = false;
  object = None;
  value = λ p. value.Number method;
}

-- the text of its first line
abbrev pub source_rest : SourceLine → List ℕ
source_rest source = join_with_byte 32 (source_words source)

abbrev pub source_said : ℕ → SourceLine → DirSource
source_said start s = source_at start s.nickname s.identity s.address s.ip s.dir_port s.or_port

abbrev pub source_entry : SourceLine → ConsensusEntry
source_entry source =
    own_entry the.DirSource (source_rest source)
    (λ p. own.Source (source_said (start_of p the.DirSource (source_rest source)) source))

-- the digest of its vote
abbrev pub vote_digest_entry : Digest1 → ConsensusEntry
vote_digest_entry digest = own_entry the.VoteDigest (hex_text digest.0) (λ p. own.VoteDigest digest)

-- the kinds of its lists
abbrev pub list_kinds : ListKinds ConsensusKind
list_kinds = record { versions = kind.Versions; protocols = kind.Protocols; params = kind.Params }

-- ---- that they suit their rows

module _ (flavour : Flavour) where
  -- an item suits its row
  abbrev pub SuitsConsensus : Row ConsensusKind → ConsensusEntry → Type 0
  SuitsConsensus row entry = AlwaysSuits (consensus_tables flavour) row entry

  -- what is said of a row
  abbrev pub IsSaidHere : ConsensusRow → Type 0
  IsSaidHere row = IsSaid (consensus_tables flavour) row

  -- an item that is not passed over and has this value suits its row
  pub suits : (keyword : Keyword) (count : Count) (of : ConsensusKind) (entry : ConsensusEntry)
      → keyword ≡ entry.keyword → ((p : ℕ) → ignores of (written p (item_of entry)) ≡ false)
      → ((across : Across) (p : ℕ) → value_at flavour across of (written p (item_of entry)) ≡ Ok (entry.value p))
      → SuitsConsensus (row keyword count of) entry
  suits keyword count of entry named known says_ =
      λ across p. record { keyword = named; known = known p; value = ap at_place (says_ across p) }

  -- ---- groups of lines

  pub has_times : HasTimes (consensus_tables flavour) kind.Time kind.Delays (λ vote dist. own.Delays vote dist)
  has_times = record {
    moments = record { known = λ item. refl; values = λ across item. refl };
    seconds = record { known = λ item. refl; values = λ across item. refl };
  }

  pub has_rests : HasRests (consensus_tables flavour) kind.Rest
  has_rests = record { known = λ item. refl; values = λ across item. refl }

  pub has_sources : HasSources (consensus_tables flavour) kind.Source (λ found. own.Source found)
  has_sources = record { known = λ item. refl; values = λ across item. refl }

  -- signatures, of which the first is read with a space behind its keyword
  pub has_signatures : Reads (consensus_tables flavour) kind.Signature None
      (λ (across : Across). signature_of across.is_signed) (λ found. value.Own (own.Signature found))
  has_signatures = record { known = λ item. refl; values = λ across item. refl }

  pub has_lists : HasLists (consensus_tables flavour) list_kinds None
  has_lists = record {
    versions = record { known = λ item. refl; values = λ across item. refl };
    protocols = record { known = λ item. refl; values = λ across item. refl };
    params = record { known = λ item. refl; values = λ across item. refl };
  }

  -- ---- words

  version_is : (item : Item) (place : ℕ) → arguments_of item ≡ placed place (version_words flavour)
      → version_of flavour item ≡ Ok tt
  version_is item place args = by flavour item place args
    where
      by : (f : Flavour) (item : Item) (place : ℕ) → arguments_of item ≡ placed place (version_words f)
          → version_of f item ≡ Ok tt
      by Ns item place args = rw args refl
      by Microdesc item place args = rw args refl

  -- its words are words
  pub version_are : AreWords (version_words flavour)
  version_are = by flavour
    where
      by : (f : Flavour) → AreWords (version_words f)
      by Ns = All-cons IsWord (codes "3") [] refl (All-nil IsWord)
      by Microdesc = two_words (codes "3") (codes "microdesc") refl refl

  -- the version, which names the flavour
  abbrev pub version_entry : ConsensusEntry
  version_entry = silent_entry the.NetworkStatusVersion (join_with_byte 32 (version_words flavour))

  pub suits_version : SuitsConsensus (row the.NetworkStatusVersion One kind.Version) version_entry
  suits_version =
      let text = join_with_byte 32 (version_words flavour) in
      suits the.NetworkStatusVersion One kind.Version version_entry refl (λ p. refl)
      (λ across p. ap (says (λ _. value.Nothing))
      (version_is (written p (bare the.NetworkStatusVersion text)) (start_of p the.NetworkStatusVersion text)
      (arguments_of_words (start_of p the.NetworkStatusVersion text) (version_words flavour) version_are)))

  pub suits_status : SuitsConsensus (row the.VoteStatus One kind.Status)
      (silent_entry the.VoteStatus (codes "consensus"))
  suits_status =
      suits the.VoteStatus One kind.Status (silent_entry the.VoteStatus (codes "consensus")) refl (λ p. refl)
      (λ across p. ap (says (λ _. value.Nothing)) (literal-written p the.VoteStatus (codes "consensus") refl refl))

  pub suits_nothing : (keyword : Keyword) → SuitsConsensus (row keyword One kind.Nothing) (silent_entry keyword [])
  suits_nothing keyword =
      suits keyword One kind.Nothing (silent_entry keyword []) refl (λ p. refl) (λ across p. refl)

  -- ---- numbers

  method_is : (item : Item) (a : Argument) (method : ℕ) → arguments_of item ≡ a ∷ [] → number_of a.text ≡ Some method
      → method_of item ≡ Ok method
  method_is item a method args number = rw (args, number) refl

  pub suits_method : (method : ℕ) → method ≤ 4294967295
      → SuitsConsensus (row the.ConsensusMethod One kind.Method) (method_entry method)
  suits_method method small =
      let text = decimal method in
      suits the.ConsensusMethod One kind.Method (method_entry method) refl (λ p. refl)
      (λ across p. ap (says (λ (number : ℕ). value.Number number))
      (method_is (written p (bare the.ConsensusMethod text))
      (record { place = start_of p the.ConsensusMethod text; text = text }) method
      (arguments_of_word (start_of p the.ConsensusMethod text) text (word_of_number method))
      (number-decimal 4294967295 method small (omega (arith, small)))))

  -- ---- flags

  pub suits_flags : (flags : List (List ℕ)) → AreFlagsInRange flags
      → SuitsConsensus (row the.KnownFlags One kind.KnownFlags) (text_entry the.KnownFlags (set_text flags))
  suits_flags flags are =
      suits the.KnownFlags One kind.KnownFlags (text_entry the.KnownFlags (set_text flags)) refl (λ p. refl)
      (λ across p. ap (says (λ (text : Span). value.Text text)) (flags_again p the.KnownFlags flags are).0)

  -- ---- an authority

  pub suits_source : (source : SourceLine) → IsAuthorityInRange source
      → SuitsConsensus (row the.DirSource One kind.Source) (source_entry source)
  suits_source source are =
      group.suits_source source.nickname source.identity source.address source.ip source.dir_port source.or_port
      has_sources the.DirSource One are.line

  vote_digest_is : (item : Item) (a : Argument) (digest : Digest1) → arguments_of item ≡ a ∷ []
      → key_digest a.text ≡ Some digest → vote_digest_of item ≡ Ok digest
  vote_digest_is item a digest args is = rw (args, is) refl

  pub suits_vote_digest : (digest : Digest1) → AreTwenty digest.0
      → SuitsConsensus (row the.VoteDigest One kind.VoteDigest) (vote_digest_entry digest)
  suits_vote_digest digest are =
      let text = hex_text digest.0 in
      suits the.VoteDigest One kind.VoteDigest (vote_digest_entry digest) refl (λ p. refl)
      (λ across p. ap (says (λ (found : Digest1). value.Own (own.VoteDigest found)))
      (vote_digest_is (written p (bare the.VoteDigest text))
      (record { place = start_of p the.VoteDigest text; text = text }) digest
      (arguments_of_word (start_of p the.VoteDigest text) text (word_of_identity digest.0 are.count are.each))
      (key_again digest are.count are.each)))
