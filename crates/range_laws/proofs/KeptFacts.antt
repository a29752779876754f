-- What is kept of a vote says what is in range, and its items may be written.
use Rattle.std.proofs.{Common.{ℕ, List, map, Option, Some, None, arith}, lemmas.List.Elements.{All-map, All-weaker}}
use Rattle.std.specs.Prelude.{All, IfSome, option_map}
use Rattle.base64.specs.GeneralPurpose.{IsBytes}
use Rattle.item_terms.specs.Words.{words_of}
use Rattle.dir_values.{specs.{FlagSets.as_set, Numbers.{number_in, numbers_in}}, proofs.Flags.Ascend-as_set}
use Rattle.grammar_laws.specs.Written.{IsItem}
use Rattle.frame_values.specs.{Parts.part, declared.found.Span.Span}
use Rattle.value_laws.specs.Ranges.{AreProtocolsInRange, AreVersionsInRange}
use Rattle.value_groups.specs.Listed.{params_in, protocols_in, versions_in}
use Rattle.certificate_laws.specs.Again.{SaysInRange}
use Rattle.vote_terms.specs.{declared.{facts.VoteFacts.VoteFacts, list_lines.ListSpans.ListSpans}, ListLines.vote_lists}
use Rattle.vote_text.specs.Texts.{vote_items}
use Rattle.vote_entries.specs.Entries.{entry_in}
use Rattle.vote_doc.specs.{Facts.facts_of, declared.kept.Kept.Kept}
use Rattle.vote_laws.specs.Again.{AreEntriesInRange, AreFlags, AreListsInRange, AreMethods, AreVoteParams}
use Rattle.vote_laws.{specs.Again.{HasValuesInRange, IsSignatureInRange}, proofs.FlagSets.All-as_set}
use Rattle.row_laws.proofs.ReadBytes.{object_bytes}
use Rattle.range_laws.{specs.Votes.IsInRangeButForLimits, proofs.{CertRanges.has_bytes, KeptEntries.{AreKept, IsKept}}}
use Rattle.range_laws.proofs.{KeptEntries.{count_map, numbers_small}, KeptHeads.{AuthorityOf, HeadIs}}
use Rattle.range_laws.proofs.{ReadLists.{params_ranged, protocols_ranged, versions_ranged}, ReadNames.IsName}
use Rattle.range_laws.proofs.{ReadNames.count_of_set, VoteReads.{AreFew, AreKnown}, VoteTexts.vote_may}
use Rattle.range_laws.proofs.EntryTexts as entry

-- ---- what a vote says of which this was kept

made_if : {A : Type 0} (P : List ℕ → Type 0) (Q : A → Type 0) (of : List ℕ → A) (text : Option (List ℕ)) → IfSome text P
    → ((t : List ℕ) → P t → Q (of t)) → IfSome (option_map of text) Q
made_if P Q of None is made = tt
made_if P Q of (Some text) is made = made text is

any_text : (text : Option (List ℕ)) → IfSome text (λ t. Unit {0})
any_text None = tt
any_text (Some text) = tt

methods_ranged : (text : List ℕ) → AreFew 64 text → AreMethods (numbers_in text)
methods_ranged text few = record {
  count = omega (arith, few, count_map number_in (words_of text));
  each = numbers_small (words_of text);
}

flags_ranged : (text : List ℕ) → AreKnown text → AreFlags (as_set (words_of text))
flags_ranged text are = record {
  count = omega (arith, are.few, count_of_set (words_of text));
  ascend = Ascend-as_set (words_of text);
  each = All-as_set IsName (words_of text) are.names;
}

-- params of which there are few
pub params_few : (text : List ℕ) → AreFew 1024 text → AreVoteParams (params_in text)
params_few text few =
    let are = params_ranged text in record { count = omega (arith, few, are.1); each = are.0 }

-- what says what can be read, with its certificate and its items, is in range but for the limits
but_for_limits : (facts : VoteFacts) → HasValuesInRange facts → SaysInRange facts.certificate
    → All IsItem (vote_items facts) → IsInRangeButForLimits facts
but_for_limits facts are certificate items = record {
  methods = are.methods;
  published = are.published;
  valid_after = are.valid_after;
  fresh_until = are.fresh_until;
  valid_until = are.valid_until;
  vote_seconds = are.vote_seconds;
  dist_seconds = are.dist_seconds;
  known_flags = are.known_flags;
  lists = are.lists;
  nickname = are.nickname;
  identity = are.identity;
  address = are.address;
  ip = are.ip;
  dir_port = are.dir_port;
  or_port = are.or_port;
  random_previous = are.random_previous;
  random_current = are.random_current;
  certificate = certificate;
  entries = are.entries;
  signature = are.signature;
  items = items;
}

module _ (bytes : List ℕ) where
  -- versions and protocols of a line, where it stands
  pub versions_at : (span : Option Span) → IfSome (option_map versions_in (option_map (part bytes) span)) AreVersionsInRange
  versions_at span =
      let text = option_map (part bytes) span in
      made_if (λ t. Unit {0}) AreVersionsInRange versions_in text (any_text text) (λ t is. versions_ranged t)

  pub protocols_at : (span : Option Span)
      → IfSome (option_map protocols_in (option_map (part bytes) span)) AreProtocolsInRange
  protocols_at span =
      let text = option_map (part bytes) span in
      made_if (λ t. Unit {0}) AreProtocolsInRange protocols_in text (any_text text) (λ t is. protocols_ranged t)

  lists_ranged : (spans : ListSpans) → IfSome (option_map (part bytes) spans.params) (AreFew 1024)
      → AreListsInRange (vote_lists bytes spans)
  lists_ranged spans few = record {
    client_versions = versions_at spans.client_versions;
    server_versions = versions_at spans.server_versions;
    recommended_client_protocols = protocols_at spans.recommended_client_protocols;
    recommended_relay_protocols = protocols_at spans.recommended_relay_protocols;
    required_client_protocols = protocols_at spans.required_client_protocols;
    required_relay_protocols = protocols_at spans.required_relay_protocols;
    params = made_if (AreFew 1024) AreVoteParams params_in (option_map (part bytes) spans.params) few params_few;
  }

  -- what is kept is in range, and its items may be written
  pub facts_ranged : IsBytes bytes → (kept : Kept) → HeadIs bytes kept.head → AuthorityOf bytes kept.head
      → AreKept bytes kept.entries → AreEntriesInRange (map (entry_in bytes) kept.entries)
      → IsInRangeButForLimits (facts_of bytes kept)
  facts_ranged are kept head authority entries ranged =
      let methods =
      made_if (AreFew 64) AreMethods numbers_in (option_map (part bytes) kept.head.methods) head.preamble.methods
      methods_ranged in
      let flags = flags_ranged (part bytes kept.head.known_flags) head.preamble.known_flags in
      let lists = lists_ranged kept.head.lists head.preamble.params in
      let signature : IsSignatureInRange (facts_of bytes kept).signature =
      record { identity = head.signature.0; key_digest = head.signature.1 } in
      let rests = All-map entry.HasRests (entry_in bytes) kept.entries
      (All-weaker (IsKept bytes) (λ e. entry.HasRests (entry_in bytes e)) (λ e is. is.rests) kept.entries entries.each) in
      let values : HasValuesInRange (facts_of bytes kept) = record {
        methods = methods;
        published = omega arith;
        valid_after = omega arith;
        fresh_until = omega arith;
        valid_until = omega arith;
        vote_seconds = head.preamble.vote_seconds;
        dist_seconds = head.preamble.dist_seconds;
        known_flags = flags;
        lists = lists;
        nickname = authority.source.nickname;
        identity = authority.source.identity;
        address = authority.source.address;
        ip = authority.source.ip;
        dir_port = authority.source.dir_port;
        or_port = authority.source.or_port;
        random_previous = head.randoms.previous;
        random_current = head.randoms.current;
        entries = ranged;
        signature = signature;
      } in
      but_for_limits (facts_of bytes kept) values head.certificate
      (vote_may (facts_of bytes kept) (record {
        values = values;
        texts = head.preamble.texts;
        contact = authority.contact;
        certificate = head.certificate;
        keys = has_bytes bytes kept.head.certificate are;
        rests = rests;
        signed = object_bytes bytes kept.head.signature.signature are;
      }))
