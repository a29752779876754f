-- What is kept of a vote's sections that are no entries says what is in range.
use Rattle.std.proofs.Common.{◌≡◌, ◌⊎◌, ℕ, ◌≤◌, List, [], ◌∷◌, map, Option, Some, refl, arith, inl, inr}
use Rattle.std.{proofs.lemmas.List.Elements.All-nil, specs.Prelude.{IfSome, option_map}}
use Rattle.base64.specs.GeneralPurpose.{IsBytes}
use Rattle.dirdoc_grammar.specs.Writing.{IsLineRest}
use Rattle.dir_values.proofs.Orders.{AllPairs-nil}
use Rattle.frame_terms.specs.{Documents.group, Keywords.same, Rows.row, Sections.row_of, declared.document.Group.Group}
use Rattle.frame_terms.specs.declared.row.Count.TheVariants.{Optional}
use Rattle.frame_terms.specs.declared.keyword.Keyword.TheVariants as the
use Rattle.frame_values.specs.{Parts.part, Values.{item_at, text_if, text_in}, declared.found.DirSource.DirSource}
use Rattle.frame_values.specs.declared.{found.Span.Span, values.Value.Value}
use Rattle.frame_laws.proofs.Both.{both_hold}
use Rattle.value_groups.specs.declared.{line.RandomLine.RandomLine, value.SharedRandom.SharedRandom}
use Rattle.value_groups.specs.declared.line.RandomLine.TheVariants as line
use Rattle.group_laws.specs.LineAgain.{IsRandomInRange}
use Rattle.authority_certs.specs.Certs.{cert_in}
use Rattle.certificate_laws.specs.Again.{SaysInRange}
use Rattle.vote_frame.specs.{Across.keyword_of, Tables.vote_tables, declared.frame.VoteSection.VoteSection}
use Rattle.vote_frame.specs.declared.frame.VoteValue.{VoteValue}
use Rattle.vote_frame.specs.declared.frame.VoteKind.TheVariants as kind
use Rattle.vote_frame.specs.declared.frame.VoteSection.TheVariants as section
use Rattle.vote_doc.specs.{Heads.{no_head, with_authority, with_preamble}, Kept.{kept_with, none_kept}}
use Rattle.vote_doc.specs.{Saying.{delays_in, random_in, signature_in, source_in}, declared.head.Head.Head}
use Rattle.vote_doc.specs.declared.kept.Kept.{Kept}
use Rattle.vote_laws.proofs.BareRows.{AreRests}
use Rattle.document_laws.specs.Order.{BeginsWithOpener}
use Rattle.row_laws.proofs.ReadBytes.{twenty_zeros}
use Rattle.range_laws.proofs.{CertRanges.{HaveCertificates, nothing_says, section_says}, KeptEntries.{AreKept, IsKept}}
use Rattle.range_laws.proofs.{KeptEntries.{KeptBelow, kept_more}, LineReads.{AreDelays, IsSigned, IsSourceIn}}
use Rattle.range_laws.proofs.{RandomReads.{either_ranged, random_ranged}, ReadNames.IsName, VoteReads.AreFew}
use Rattle.range_laws.proofs.VoteReads.{AreKnown, delays_are, flags_are, methods_are, params_are, random_is, rests_are}
use Rattle.range_laws.proofs.{VoteReads.{signature_is, source_is}, VoteStands.{EachVoteStands, IsReadSection}}
use Rattle.range_laws.proofs.VoteStands.{VoteTaken, kept_is, only_certificates, opener_there, text_is}

-- ---- what is kept

-- one of the sections is the authority's
abbrev pub HasAuthority : List (Group VoteSection (Value VoteValue)) → Type 0
HasAuthority [] = ⊥
HasAuthority (g ∷ groups) = (g.section ≡ section.Authority) ⊎ HasAuthority groups

module _ (bytes : List ℕ) where
  -- of the preamble, where its texts stand and its numbers of seconds
  pub record PreambleIs (methods_at : Option Span) (vote dist : ℕ) (flags_at : Span) (params_at : Option Span)
      (texts_at : List (Option Span)) : Type 0 where
    pub methods : IfSome (option_map (part bytes) methods_at) (AreFew 64)
    pub vote_seconds : vote ≤ 4294967295
    pub dist_seconds : dist ≤ 4294967295
    pub known_flags : AreKnown (part bytes flags_at)
    pub params : IfSome (option_map (part bytes) params_at) (AreFew 1024)
    pub texts : AreRests (map (option_map (part bytes)) texts_at)

  -- Of what is kept of it: the same of every head that has these, so that it stays where another section is read.
  abbrev pub PreambleOf : Head → Type 0
  PreambleOf head =
      PreambleIs head.methods head.vote_seconds head.dist_seconds head.known_flags head.lists.params
      (head.flag_thresholds ∷ [])

  -- of its shared random values
  pub record RandomsAre (previous_is current_is : Option SharedRandom) : Type 0 where
    pub previous : IfSome previous_is IsRandomInRange
    pub current : IfSome current_is IsRandomInRange

  abbrev pub RandomsOf : Head → Type 0
  RandomsOf head = RandomsAre head.random_previous head.random_current

  -- of the authority
  pub record AuthorityIs (source_is : DirSource) (contact_at : Option Span) : Type 0 where
    pub source : IsSourceIn bytes source_is
    pub contact : IfSome (option_map (part bytes) contact_at) IsLineRest

  abbrev pub AuthorityOf : Head → Type 0
  AuthorityOf head = AuthorityIs head.source head.contact

  -- of every section but the authority's: this holds too where nothing was read
  pub record HeadIs (head : Head) : Type 0 where
    pub preamble : PreambleOf head
    pub randoms : RandomsOf head
    pub certificate : SaysInRange (cert_in bytes head.certificate)
    pub signature : IsSigned head.signature

  -- what is kept is in range; so is the authority, or its section is still to come
  pub record KeptIs (kept : Kept) (left : List (Group VoteSection (Value VoteValue))) : Type 0 where
    pub head : HeadIs kept.head
    pub authority : AuthorityOf kept.head ⊎ HasAuthority left
    pub entries : AreKept bytes kept.entries

  no_flags : AreKnown []
  no_flags = record { few = omega arith; names = All-nil IsName }

  -- ---- sections

  -- a preamble
  preamble_is : (head : Head) (taken : List VoteTaken) → IsReadSection bytes section.Preamble taken
      → PreambleOf (with_preamble head taken)
  unfolding same
  preamble_is head taken here =
      let delays =
      kept_is here the.VotingDelay refl delays_are delays_in AreDelays (λ none. (omega arith, omega arith))
      (λ one d is. is) in
      record {
        methods = text_is here (AreFew 64) the.ConsensusMethods refl methods_are;
        vote_seconds = delays.0;
        dist_seconds = delays.1;
        known_flags = kept_is here the.KnownFlags refl flags_are (λ o. part bytes (text_in (text_if o))) AreKnown
            (λ none. no_flags) (λ one span is. is);
        params = text_is here (AreFew 1024) the.Params refl params_are;
        texts = both_hold (text_is here IsLineRest the.FlagThresholds refl rests_are) tt;
      }

  -- the shared random value that a section has on a line
  line_is : (line : RandomLine) {name : VoteSection} {taken : List VoteTaken} → IsReadSection bytes name taken
      → row_of (vote_tables.rows name) (keyword_of line) ≡ Some (row (keyword_of line) Optional (kind.Random line))
      → IfSome (random_in (item_at taken (keyword_of line))) IsRandomInRange
  line_is line here there =
      kept_is here (keyword_of line) there (random_is line) random_in (λ o. IfSome o IsRandomInRange) (λ none. tt)
      (λ one read is. random_ranged line read is)

  randoms_of_preamble : (head : Head) (taken : List VoteTaken) → IsReadSection bytes section.Preamble taken
      → RandomsOf (with_preamble head taken)
  unfolding same
  randoms_of_preamble head taken here =
      record { previous = line_is line.Previous here refl; current = line_is line.Current here refl }

  randoms_of_authority : (head : Head) (taken : List VoteTaken) → IsReadSection bytes section.Authority taken
      → RandomsOf head → RandomsOf (with_authority head taken)
  unfolding same
  randoms_of_authority head taken here is = record {
    previous = either_ranged head.random_previous (random_in (item_at taken (keyword_of line.Previous))) is.previous
        (line_is line.Previous here refl);
    current = either_ranged head.random_current (random_in (item_at taken (keyword_of line.Current))) is.current
        (line_is line.Current here refl);
  }

  -- an authority
  authority_is : (head : Head) (taken : List VoteTaken) → IsReadSection bytes section.Authority taken
      → BeginsWithOpener vote_tables section.Authority taken → AuthorityOf (with_authority head taken)
  unfolding same
  authority_is head taken here begins = record {
    source = kept_is here the.DirSource refl source_is source_in (IsSourceIn bytes)
        (λ none. absurd (opener_there section.Authority taken begins none)) (λ one source is. is);
    contact = text_is here IsLineRest the.Contact refl rests_are;
  }

  -- a footer
  footer_is : (taken : List VoteTaken) → IsReadSection bytes section.Footer taken
      → IsSigned (signature_in (item_at taken the.DirectorySignature))
  unfolding same
  footer_is taken here =
      kept_is here the.DirectorySignature refl signature_is signature_in IsSigned
      (λ none. (twenty_zeros, twenty_zeros)) (λ one signature is. is)

  certificates : HaveCertificates vote_tables section.Certificate kind.Certificate
  certificates = record {
    rows = refl;
    values = λ across of item. refl;
    apart = λ around keyword begins. (only_certificates around keyword section.Certificate begins).1;
  }

  -- ---- one more section

  -- where nothing was read, what is kept is as if each section had no items
  pub nothing_kept : IsBytes bytes → (groups : List (Group VoteSection (Value VoteValue))) → HasAuthority groups
      → KeptIs none_kept groups
  nothing_kept are groups has =
      let here : IsReadSection bytes section.Preamble [] =
      record { are = are; other = λ e. absurd (cc (e)); each = tt } in
      record {
        head = record {
          preamble = preamble_is no_head [] here;
          randoms = randoms_of_preamble no_head [] here;
          certificate = nothing_says bytes;
          signature = (twenty_zeros, twenty_zeros);
        };
        authority = inr has;
        entries = record { each = All-nil (IsKept bytes); ascend = AllPairs-nil KeptBelow };
      }

  -- the authority is there, or still to come
  later : (head : Head) (g : Group VoteSection (Value VoteValue)) (left : List (Group VoteSection (Value VoteValue)))
      → (g.section ≡ section.Authority → ⊥) → AuthorityOf head ⊎ HasAuthority (g ∷ left)
      → AuthorityOf head ⊎ HasAuthority left
  later head g left other (inl is) = inl is
  later head g left other (inr (inl is)) = absurd (other is)
  later head g left other (inr (inr has)) = inr has

  pub heads_with_one_group_kept : IsBytes bytes → (name : VoteSection) (taken : List VoteTaken) (kept : Kept)
      (left : List (Group VoteSection (Value VoteValue))) → EachVoteStands bytes name taken
      → BeginsWithOpener vote_tables name taken → KeptIs kept (group name taken ∷ left)
      → KeptIs (kept_with kept name taken) left
  heads_with_one_group_kept are section.Preamble taken kept left each begins is = record {
    head = record {
      preamble = preamble_is kept.head taken (record { are = are; other = λ e. absurd (cc (e)); each = each });
      randoms = randoms_of_preamble kept.head taken (record { are = are; other = λ e. absurd (cc (e)); each = each });
      certificate = is.head.certificate;
      signature = is.head.signature;
    };
    authority = later kept.head (group section.Preamble taken) left (λ e. absurd (cc (e))) is.authority;
    entries = is.entries;
  }
  heads_with_one_group_kept are section.Authority taken kept left each begins is = record {
    head = record {
      preamble = is.head.preamble;
      randoms = randoms_of_authority kept.head taken (record { are = are; other = λ e. absurd (cc (e)); each = each })
          is.head.randoms;
      certificate = is.head.certificate;
      signature = is.head.signature;
    };
    authority = inl (authority_is kept.head taken
        (record { are = are; other = λ e. absurd (cc (e)); each = each }) begins);
    entries = is.entries;
  }
  heads_with_one_group_kept are section.Certificate taken kept left each begins is = record {
    head = record {
      preamble = is.head.preamble;
      randoms = is.head.randoms;
      certificate = section_says vote_tables section.Certificate kind.Certificate certificates bytes are taken each;
      signature = is.head.signature;
    };
    authority = later kept.head (group section.Certificate taken) left (λ e. absurd (cc (e))) is.authority;
    entries = is.entries;
  }
  heads_with_one_group_kept are section.Entry taken kept left each begins is = record {
    head = is.head;
    authority = later kept.head (group section.Entry taken) left (λ e. absurd (cc (e))) is.authority;
    entries = kept_more bytes are kept.entries taken each begins is.entries;
  }
  heads_with_one_group_kept are section.Footer taken kept left each begins is = record {
    head = record {
      preamble = is.head.preamble;
      randoms = is.head.randoms;
      certificate = is.head.certificate;
      signature = footer_is taken (record { are = are; other = λ e. absurd (cc (e)); each = each });
    };
    authority = later kept.head (group section.Footer taken) left (λ e. absurd (cc (e))) is.authority;
    entries = is.entries;
  }
