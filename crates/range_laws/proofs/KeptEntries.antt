-- What is kept of a vote's entries says what is in range.
use Rattle.std.proofs.Common.{◌≡◌, ℕ, suc, ◌≤◌, Bool, true, false, List, [], ◌∷◌, ◌++◌, length, map, Option, Some, None}
use Rattle.std.proofs.{Common.{refl, ap, arith}, lemmas.List.Elements.{All-cons, All-map, All-nil, All-push}}
use Rattle.std.proofs.lemmas.List.{Quantifiers.all_pairs_push, Splits.length-slice_split, Sums.AllPass-from_list_all}
use Rattle.std.specs.Prelude.{All, AllPairs, IfSome, unwrap_or, if◌then◌else◌}
use Rattle.base64.specs.GeneralPurpose.{IsBytes}
use Rattle.item_terms.specs.Words.{words_of}
use Rattle.dirdoc_grammar.specs.Writing.{IsLineRest}
use Rattle.dir_values.specs.{Digests.identity_below, Numbers.{number_in, number_of}, declared.digest.Digest2.Digest2}
use Rattle.dir_values.proofs.Flags.{Ascend-as_set}
use Rattle.frame_terms.specs.{Keywords.same, Rows.row, Sections.row_of, declared.row.Count.TheVariants.Many}
use Rattle.frame_terms.specs.declared.keyword.Keyword.TheVariants as the
use Rattle.frame_values.specs.{Parts.part, Values.{item_at, text_if, text_in, text_of_value}, declared.found.Span.Span}
use Rattle.frame_values.specs.declared.values.Value.{Value}
use Rattle.frame_values.specs.declared.values.Value.TheVariants as value
use Rattle.list_values.specs.Parts.{is_comma, parts_of}
use Rattle.relay_entries.specs.Fields.{methods_in}
use Rattle.relay_entries.specs.declared.said.EntryKind.TheVariants as entry
use Rattle.relay_entries.specs.declared.said.EntryValue.TheVariants as entry_said
use Rattle.group_laws.specs.Ranges.{AreBandwidthsInRange, AreMethodsInRange, IsAddressInRange, IsOpinionInRange}
use Rattle.vote_frame.specs.{Tables.vote_tables, declared.frame.VoteValue.VoteValue}
use Rattle.vote_frame.specs.declared.frame.VoteKind.TheVariants as kind
use Rattle.vote_frame.specs.declared.frame.VoteSection.TheVariants as section
use Rattle.vote_frame.specs.declared.frame.VoteValue.TheVariants as own
use Rattle.vote_entries.specs.{Entries.{entry_in, micro_in}, Kept.{KeptEntry, entry_of, is_after, with_entry}}
use Rattle.vote_entries.specs.Saying.{addresses_in, bandwidths_in, ed_in, micro_if, micro_with, micros_in, onto_if}
use Rattle.vote_entries.specs.{Saying.relay_in, declared.row.KeptMicro.KeptMicro}
use Rattle.vote_laws.{specs.Again.{IsEntryInRange, IsMicroInRange}, proofs.FlagSets.All-as_set}
use Rattle.document_laws.specs.Order.{BeginsWithOpener}
use Rattle.row_laws.proofs.ReadSteps.{number_within}
use Rattle.range_laws.proofs.{EntryReads.HasDigest, EntrySays.{AreNames, MicroIs, address_is, entry_flags_are}}
use Rattle.range_laws.proofs.EntrySays.{entry_rests_are, micro_says, opinion_is, relay_is, widths_are}
use Rattle.range_laws.proofs.{EntryTexts.HasRests, ReadNames.IsName, RelayReads.IsLine, VoteReads.says_so}
use Rattle.range_laws.proofs.VoteStands.{EachVoteStands, IsReadSection, VoteTaken, any_says, kept_is, opener_there}
use Rattle.range_laws.proofs.VoteStands.{stands_for, text_is}

-- ---- numbers of methods

-- a word spells a number of 32 bits
pub number_small : (word : List ℕ) → number_in word ≤ 4294967295
number_small word = by (number_of word) refl
  where
    by : (found : Option ℕ) → number_of word ≡ found → unwrap_or found 0 ≤ 4294967295
    by None is = omega arith
    by (Some n) is = number_within 4294967295 word n is

pub numbers_small : (words : List (List ℕ)) → All (λ method. method ≤ 4294967295) (map number_in words)
numbers_small words =
    All-map (λ (method : ℕ). method ≤ 4294967295) number_in words (λ k d lt. number_small _)

pub count_map : {X Y : Type 0} (f : X → Y) (xs : List X) → length (map f xs) ≡ length xs
count_map f [] = refl
count_map f (x ∷ xs) = ap suc (count_map f xs)

methods_ranged : (text : List ℕ) → AreMethodsInRange (methods_in text)
methods_ranged text = record {
  some = omega (arith, count_map number_in (parts_of text), length-slice_split is_comma text);
  each = numbers_small (parts_of text);
}

-- ---- items that may stand several times

is_entry : section.Entry ≡ section.Certificate → ⊥
is_entry e = absurd (cc (e))

-- the row of further addresses
address_row : row_of (vote_tables.rows section.Entry) the.A ≡ Some (row the.A Many (kind.Entry entry.Address))
unfolding same
address_row = refl

-- an entry comes before another
abbrev pub KeptBelow : KeptEntry → KeptEntry → Type 0
KeptBelow earlier later = identity_below earlier.relay.identity later.relay.identity ≡ true

module _ (bytes : List ℕ) where
  addresses_ranged : IsBytes bytes → (taken : List VoteTaken) → EachVoteStands bytes section.Entry taken
      → All IsAddressInRange (map (part bytes) (addresses_in taken))
  addresses_ranged are [] each = All-nil IsAddressInRange
  addresses_ranged are (one ∷ taken) each =
      by (same one.keyword the.A) refl (addresses_ranged are taken each.1)
    where
      by : (t : Bool) → same one.keyword the.A ≡ t → All IsAddressInRange (map (part bytes) (addresses_in taken))
          → All IsAddressInRange
          (map (part bytes) (onto_if (if t then text_of_value one.value else None) (addresses_in taken)))
      by true is all =
          let list = addresses_in taken in
          says_so address_is are
          (λ (v : Value VoteValue). All IsAddressInRange (map (part bytes) (onto_if (text_of_value v) list)))
          (λ span its. All-cons IsAddressInRange (part bytes span) (map (part bytes) list) its all)
          (stands_for bytes section.Entry one the.A (row the.A Many (kind.Entry entry.Address)) is_entry address_row
          each.0 is)
      by false is all = all

  micro_onto : (v : Value VoteValue) (list : List KeptMicro) → MicroIs v
      → All IsMicroInRange (map (micro_in bytes) list)
      → All IsMicroInRange (map (micro_in bytes) (onto_if (micro_if v) list))
  micro_onto (value.Own (own.Entry (entry_said.Micro line))) list is all = by line.methods line.digest is
    where
      by : (methods : Span) (digest : Option Digest2) → HasDigest digest
          → All IsMicroInRange (map (micro_in bytes) (onto_if (micro_with methods digest) list))
      by methods None has = all
      by methods (Some digest) has =
          All-cons IsMicroInRange (micro_in bytes (record { methods = methods; digest = digest }))
          (map (micro_in bytes) list)
          (record { methods = methods_ranged (part bytes methods); digest = has }) all
  micro_onto _ list is all = all

  micros_ranged : IsBytes bytes → (taken : List VoteTaken) → EachVoteStands bytes section.Entry taken
      → All IsMicroInRange (map (micro_in bytes) (micros_in taken))
  micros_ranged are [] each = All-nil IsMicroInRange
  micros_ranged are (one ∷ taken) each =
      let says = any_says each.0 in
      micro_onto one.value (micros_in taken) (micro_says are says.0 says.1) (micros_ranged are taken each.1)

  -- ---- an entry

  -- what is kept of it says what is in range
  pub record IsKept (kept : KeptEntry) : Type 0 where
    pub says : IsEntryInRange (entry_in bytes kept)
    pub rests : HasRests (entry_in bytes kept)

  entry_kept : (taken : List VoteTaken) → IsReadSection bytes section.Entry taken
      → BeginsWithOpener vote_tables section.Entry taken → IsKept (entry_of taken)
  unfolding same
  entry_kept taken here begins =
      let flags = words_of (part bytes (text_in (text_if (item_at taken the.S)))) in
      record {
        says = record {
          relay = kept_is here the.R refl relay_is relay_in (IsLine bytes)
              (λ none. absurd (opener_there section.Entry taken begins none)) (λ one line is. is);
          published = omega arith;
          addresses = addresses_ranged here.are taken here.each;
          flags = record {
            ascend = Ascend-as_set flags;
            each = All-as_set IsName flags
                (kept_is here the.S refl entry_flags_are (λ o. part bytes (text_in (text_if o))) AreNames
                (λ none. All-nil IsName) (λ one span is. is));
          };
          bandwidths = kept_is here the.W refl widths_are bandwidths_in (λ o. IfSome o AreBandwidthsInRange)
              (λ none. tt) (λ one w is. is);
          micros = micros_ranged here.are taken here.each;
          ed = kept_is here the.Id refl opinion_is ed_in IsOpinionInRange (λ none. tt) (λ one opinion is. is);
        };
        rests = record {
          version = text_is here IsLineRest the.V refl entry_rests_are;
          protocols = text_is here IsLineRest the.Pr refl entry_rests_are;
          policy = text_is here IsLineRest the.P refl entry_rests_are;
        };
      }

  -- ---- entries

  -- each is in range, and they ascend
  pub record AreKept (entries : List KeptEntry) : Type 0 where
    pub each : All IsKept entries
    pub ascend : AllPairs KeptBelow entries

  -- with one more
  pub kept_more : IsBytes bytes → (entries : List KeptEntry) (taken : List VoteTaken)
      → EachVoteStands bytes section.Entry taken → BeginsWithOpener vote_tables section.Entry taken → AreKept entries
      → AreKept (with_entry entries (entry_of taken))
  kept_more are entries taken each begins kept =
      by (is_after entries (entry_of taken).relay.identity) refl
      (entry_kept taken (record { are = are; other = is_entry; each = each }) begins)
    where
      new : KeptEntry
      new = entry_of taken

      by : (t : Bool) → is_after entries new.relay.identity ≡ t → IsKept new
          → AreKept (if t then entries ++ new ∷ [] else entries)
      by false after one = kept
      by true after one =
          let below : KeptEntry → Bool = λ other. identity_below other.relay.identity new.relay.identity in
          record {
            each = All-push IsKept entries new kept.each one;
            ascend = all_pairs_push KeptBelow entries new kept.ascend
                (λ k d inside. AllPass-from_list_all below entries after k d inside);
          }
