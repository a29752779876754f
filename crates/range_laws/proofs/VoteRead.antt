-- What is read of a vote is in range, but for the limits.
use Rattle.std.proofs.Common.{◌≡◌, ◌⊎◌, ℕ, true, List, [], ◌∷◌, ◌++◌, drop, length, map, take, refl, sym, subst, arith}
use Rattle.std.proofs.{Common.{inl, inr}, lemmas.List.Elements.{All-head, All-map, All-tail, All-weaker}}
use Rattle.std.specs.{Prelude.{All, replicate}, List.fold}
use Rattle.base64.specs.GeneralPurpose.{IsBytes}
use Rattle.item_terms.specs.Items.{Item, items_of}
use Rattle.dir_values.specs.Digests.{identity_below}
use Rattle.frame_values.specs.declared.values.Value.{Value}
use Rattle.vote_terms.specs.{Votes.{ReadVote, max_vote}, declared.entry.EntryFacts.EntryFacts}
use Rattle.vote_text.specs.Texts.{vote_items}
use Rattle.vote_frame.specs.{Tables.vote_tables, declared.frame.{VoteSection.VoteSection, VoteValue.VoteValue}}
use Rattle.vote_frame.specs.declared.frame.VoteSection.TheVariants as section
use Rattle.vote_entries.specs.{Entries.entry_in, Kept.KeptEntry}
use Rattle.vote_doc.specs.{Kept.{kept_with, none_kept}, declared.{head.Head.Head, kept.Kept.Kept}}
use Rattle.vote_laws.{specs.Again.{AreEntriesInRange, DifferInKey, IsEntryInRange}, proofs.Members.AllPairs-map}
use Rattle.vote_laws.proofs.MayWrite.{items_writable}
use Rattle.document_laws.specs.{Items.AreItemsIn, Order.{AreInOrder, BeginsWithOpener, Part, sections_of}}
use Rattle.document_laws.proofs.{Ordering.stand_in_order, Taking.are_said}
use Rattle.row_laws.proofs.{ReadBytes.{bytes_drop, bytes_take}, Saying.{EachSound, all_sound, each_stands}}
use Rattle.vote_kinds.proofs.ClearVotes.{vote_kinds_are_clear}
use Rattle.vote_parts.{specs.Own.IsOwn, proofs.OwnVotes.{own_read, placed_read}}
use Rattle.range_laws.specs.Votes.{IsInRangeButForLimits, VotesReadAreInRange, VotesWithinLimitsAreInRange}
use Rattle.range_laws.proofs.{EntryKeys.keys_apart, EntryRoom.{VoteGroup, few_entries}, KeptEntries.{AreKept, IsKept}}
use Rattle.range_laws.proofs.{KeptEntries.count_map, KeptHeads.{AuthorityOf, HasAuthority, KeptIs, nothing_kept}}
use Rattle.range_laws.proofs.{KeptHeads.heads_with_one_group_kept, KeptSome.{AreSome, none_some, some_kept}}
use Rattle.range_laws.proofs.KeptFacts.{facts_ranged}

-- ---- the sections of a vote

abbrev AreFrom : List Item → VoteGroup → Type 0
AreFrom items g = AreItemsIn vote_tables g.section items g.taken

abbrev Begins : VoteGroup → Type 0
Begins g = BeginsWithOpener vote_tables g.section g.taken

-- what is kept of them
groups_kept : (bytes : List ℕ) → IsBytes bytes → (items : List Item) → EachSound bytes items → (kept : Kept)
    → (groups : List VoteGroup) → All (AreFrom items) groups → All Begins groups → KeptIs bytes kept groups
    → KeptIs bytes (fold (λ k (g : VoteGroup). kept_with k g.section g.taken) kept groups) []
groups_kept bytes are items sound kept [] from begin is = is
groups_kept bytes are items sound kept (g ∷ groups) from begin is =
    groups_kept bytes are items sound (kept_with kept g.section g.taken) groups
    (All-tail (AreFrom items) g groups from) (All-tail Begins g groups begin)
    (heads_with_one_group_kept bytes are g.section g.taken kept groups
    (each_stands vote_tables bytes g.section items g.taken sound (All-head (AreFrom items) g groups from))
    (All-head Begins g groups begin) is)

-- the second of the parts is the authority's
abbrev VotePart : Type 0
VotePart = Part VoteSection (Value VoteValue)

has_more : (inside groups : List VoteGroup) → HasAuthority groups → HasAuthority (inside ++ groups)
has_more [] groups has = has
has_more (g ∷ inside) groups has = inr (has_more inside groups has)

-- one of the names is the authority's
abbrev HasName : List VoteSection → Type 0
HasName [] = ⊥
HasName (name ∷ names) = (name ≡ section.Authority) ⊎ HasName names

name_behind : (front names : List VoteSection) → HasName names → HasName (front ++ names)
name_behind [] names has = has
name_behind (name ∷ front) names has = inr (name_behind front names has)

part_there : (parts : List VotePart) → HasName (map (λ (part_ : VotePart). part_.whole.section) parts)
    → HasAuthority (sections_of parts)
part_there [] has = absurd has
part_there (first ∷ parts) (inl is) = has_more first.inside (first.whole ∷ sections_of parts) (inl is)
part_there (first ∷ parts) (inr has) =
    has_more first.inside (first.whole ∷ sections_of parts) (inr (part_there parts has))

abbrev order : List VoteSection
order = section.Preamble ∷ section.Authority ∷ section.Entry ∷ section.Footer ∷ []

authority_there : (parts : List VotePart)
    → AreInOrder vote_tables order (map (λ (part_ : VotePart). part_.whole.section) parts)
    → HasAuthority (sections_of parts)
authority_there parts are =
    let later = are.4 in
    let one = subst (λ (n : ℕ). HasName (replicate n section.Authority ++ later.1)) (sym later.3) (inl refl) in
    let behind = subst (λ (names : List VoteSection). HasName names) (sym later.2) one in
    let all = name_behind (replicate are.0 section.Preamble) are.1 behind in
    part_there parts (subst (λ (names : List VoteSection). HasName names) (sym are.2) all)

-- ---- entries

entries_ranged : (bytes : List ℕ) (entries : List KeptEntry) → AreKept bytes entries → AreSome entries []
    → AreEntriesInRange (map (entry_in bytes) entries)
entries_ranged bytes entries are some = record {
  count = omega (arith, some.count, count_map (entry_in bytes) entries);
  each = All-map IsEntryInRange (entry_in bytes) entries
      (All-weaker (IsKept bytes) (λ e. IsEntryInRange (entry_in bytes e)) (λ e is. is.says) entries are.each);
  ascending = AllPairs-map (λ (a b : EntryFacts). identity_below a.identity b.identity ≡ true) (entry_in bytes) entries
      are.ascend;
  keys = AllPairs-map DifferInKey (entry_in bytes) entries some.apart;
}

-- ---- the law

none_left : (bytes : List ℕ) (head : Head) → AuthorityOf bytes head ⊎ HasAuthority [] → AuthorityOf bytes head
none_left bytes head (inl is) = is
none_left bytes head (inr has) = absurd has

-- what is read of a vote's own bytes is in range
own_in_range : (bytes : List ℕ) (vote : ReadVote) → IsBytes bytes → IsOwn bytes vote → IsInRangeButForLimits vote.says
own_in_range bytes vote are own =
    let document = own.document in
    let contents = items_of max_vote bytes in
    let items = contents.items in
    let groups = document.groups in
    let stand = stand_in_order vote_tables vote_kinds_are_clear.votes.sound (length bytes) contents document own.is in
    let has = subst HasAuthority (sym stand.are) (authority_there stand.parts stand.in_order) in
    let kept = fold (λ k (g : VoteGroup). kept_with k g.section g.taken) none_kept groups in
    let all =
    groups_kept bytes are items (all_sound 0 max_vote bytes) none_kept groups
    (are_said vote_tables (length bytes) contents document own.is) stand.begin (nothing_kept bytes are groups has) in
    let some =
    some_kept none_kept groups
    (none_some groups (few_entries (length bytes) contents document own.is)
    (keys_apart (length bytes) contents document own.is)) in
    subst (λ (v : ReadVote). IsInRangeButForLimits v.says) (sym own.kept)
    (facts_ranged bytes are kept all.head (none_left bytes kept.head all.authority) all.entries
    (entries_ranged bytes kept.entries all.entries some))

pub vote_in_range : VotesReadAreInRange
vote_in_range start bytes vote after are is =
    let placed = placed_read start bytes vote after is in
    let rest = drop start bytes in
    let own = own_read rest vote placed.0 placed.1 in
    own_in_range (take placed.0 rest) vote (bytes_take placed.0 rest (bytes_drop start bytes are)) own.1

pub vote_within : VotesWithinLimitsAreInRange
vote_within facts is within = record {
  methods = is.methods;
  published = is.published;
  valid_after = is.valid_after;
  fresh_until = is.fresh_until;
  valid_until = is.valid_until;
  vote_seconds = is.vote_seconds;
  dist_seconds = is.dist_seconds;
  known_flags = is.known_flags;
  lists = is.lists;
  nickname = is.nickname;
  identity = is.identity;
  address = is.address;
  ip = is.ip;
  dir_port = is.dir_port;
  or_port = is.or_port;
  random_previous = is.random_previous;
  random_current = is.random_current;
  certificate = record { says = is.certificate; fits = within.certificate };
  entries = is.entries;
  signature = is.signature;
  items = items_writable max_vote 0 (vote_items facts) is.items within.items;
}
