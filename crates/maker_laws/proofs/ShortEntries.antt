-- No line of an entry that is made of a descriptor in range is longer than a line may be.
use Rattle.std.proofs.{Common.{ℕ, List, [], ◌∷◌, ◌++◌, map, Option, Some, None, arith}, lemmas.List.Elements.All-append}
use Rattle.std.{proofs.lemmas.List.Elements.{All-cons, All-filter, All-head, All-nil, All-tail}, specs.Prelude.All}
use Rattle.std.specs.Prelude.{IfSome, option_map}
use Rattle.count_terms.specs.declared.newest.Newest.{Newest}
use Rattle.dir_values.specs.FlagSets.{set_text}
use Rattle.dirdoc_grammar.specs.Writing.{NewItem}
use Rattle.frame_terms.specs.declared.keyword.Keyword.{Keyword}
use Rattle.frame_terms.specs.declared.keyword.Keyword.TheVariants as the
use Rattle.frame_values.specs.Items.{bare, item_if}
use Rattle.exit_summary.proofs.SummaryLaws as summary
use Rattle.relay_entries.specs.Texts.{bandwidths_text, ed_text}
use Rattle.descriptor_laws.specs.ReadRanges.{IsShortAddress}
use Rattle.vote_terms.specs.declared.entry.MicroFacts.{MicroFacts}
use Rattle.vote_text.specs.Entries.{entries_items, entry_items, items_each, line_of, micro_items, micro_line}
use Rattle.vote_maker.specs.Listings.{JudgedRelay, entry_of_judged, has_entry, listed_relays, made_entries}
use Rattle.maker_laws.{specs.Lines.HasShortLine, proofs.EntryRanges.{IsJudgedInRange, entry_ranged, made_kept}}
use Rattle.maker_laws.proofs.{MadeLimits.line_short, MicroLines.{IsFine, relay_micros}, ShortTexts.IsMillion}
use Rattle.maker_laws.proofs.ShortTexts.{bandwidths_short, key_short, names_short, platform_short, relay_short}
use Rattle.maker_laws.proofs.ShortTexts.{rest_short}

-- ---- its items

-- none of the lines is too long
pub record AreShortLines (items : List NewItem) : Type 0 where
  pub each : All HasShortLine items

pub no_lines : AreShortLines []
no_lines = record { each = All-nil HasShortLine }

pub one_line : (keyword : Keyword) (rest : List ℕ) → IsMillion rest → AreShortLines (bare keyword rest ∷ [])
one_line keyword rest few =
    record { each = All-cons HasShortLine (bare keyword rest) [] (line_short keyword rest few) (All-nil HasShortLine) }

pub line_if : (keyword : Keyword) (rest : Option (List ℕ)) → IfSome rest IsMillion
    → AreShortLines (item_if keyword rest)
line_if keyword None few = no_lines
line_if keyword (Some rest) few = one_line keyword rest few

infixl 10 ◌&◌
pub ◌&◌ : {front back : List NewItem} → AreShortLines front → AreShortLines back → AreShortLines (front ++ back)
◌&◌ {front} {back} first second = record { each = All-append HasShortLine front back first.each second.each }

addresses_short : (addresses : List (List ℕ)) → All IsShortAddress addresses
    → AreShortLines (items_each the.A addresses)
addresses_short [] all = no_lines
addresses_short (text ∷ rest) all =
    one_line the.A text (omega (arith, (All-head IsShortAddress text rest all).short))
    & addresses_short rest (All-tail IsShortAddress text rest all)

micros_short : (lines : List MicroFacts) → All IsFine lines → AreShortLines (micro_items lines)
micros_short [] all = no_lines
micros_short (line ∷ lines) all =
    one_line the.M (micro_line line) (omega (arith, (All-head IsFine line lines all).short))
    & micros_short lines (All-tail IsFine line lines all)

policy_short : (newest : Newest) (one : JudgedRelay) → IfSome (entry_of_judged newest one).policy IsMillion
policy_short newest one = omega (arith, summary.short one.descriptor.policy)

entry_short : (newest : Newest) (one : JudgedRelay) → IsJudgedInRange one
    → AreShortLines (entry_items (entry_of_judged newest one))
entry_short newest one is =
    let entry = entry_of_judged newest one in
    let in_range = entry_ranged newest one is in
    let d = is.descriptor in
    one_line the.R (line_of entry) (relay_short entry in_range.relay)
    & addresses_short entry.addresses (made_kept newest one.descriptor.or_addresses d.or_addresses)
    & one_line the.S (set_text entry.flags) (names_short one.flags)
    & line_if the.V entry.version (platform_short one.descriptor.platform d.platform)
    & line_if the.Pr entry.protocols (rest_short one.descriptor.proto d.proto)
    & line_if the.W (option_map bandwidths_text entry.bandwidths)
    (bandwidths_short entry.bandwidths in_range.bandwidths)
    & line_if the.P entry.policy (policy_short newest one)
    & micros_short entry.micros (relay_micros newest one.descriptor)
    & line_if the.Id (ed_text entry.ed) (key_short entry.ed in_range.ed)

entries_short : (newest : Newest) (relays : List JudgedRelay) → All IsJudgedInRange relays
    → AreShortLines (entries_items (map (entry_of_judged newest) relays))
entries_short newest [] all = no_lines
entries_short newest (one ∷ relays) all =
    entry_short newest one (All-head IsJudgedInRange one relays all)
    & entries_short newest relays (All-tail IsJudgedInRange one relays all)

-- the lines of made entries
pub made_short : (newest : Newest) (relays : List JudgedRelay) → All IsJudgedInRange relays
    → All HasShortLine (entries_items (made_entries newest relays))
made_short newest relays all =
    (entries_short newest (listed_relays relays) (All-filter (has_entry relays) IsJudgedInRange relays all)).each
