-- Of a vote's entries no more are kept than it may have, and no two of them say one Ed25519 key.
use Rattle.std.proofs.Common.{◌≡◌, ℕ, ◌+◌, ◌≤◌, Bool, true, false, List, [], ◌∷◌, ◌++◌, length, arith, length-append}
use Rattle.std.proofs.lemmas.List.{Elements.{All-nil, All-push, All-weaker}, Quantifiers.all_pairs_push}
use Rattle.std.specs.{Prelude.{All, AllPairs, if◌then◌else◌}, List.fold}
use Rattle.dir_values.proofs.Orders.{AllPairs-nil}
use Rattle.frame_terms.specs.Documents.{group}
use Rattle.relay_entries.specs.declared.said.EdOpinion.TheVariants as opinion
use Rattle.vote_frame.specs.declared.frame.VoteSection.{VoteSection}
use Rattle.vote_frame.specs.declared.frame.VoteSection.TheVariants as section
use Rattle.vote_entries.specs.Kept.{KeptEntry, entry_of, is_after, with_entry}
use Rattle.vote_doc.specs.{Kept.kept_with, declared.kept.Kept.Kept}
use Rattle.range_laws.proofs.{EntryKeys.{AreApart, NoneSays}, EntryRoom.{VoteGroup, entries_among}}
use Rattle.range_laws.proofs.VoteStands.{VoteTaken}

-- no key is that of both
abbrev pub KeptDiffer : KeptEntry → KeptEntry → Type 0
KeptDiffer a b = (key : List ℕ) → a.ed ≡ opinion.Key key → b.ed ≡ opinion.Key key → ⊥

-- no section of these says the key of an entry
abbrev NoneSaysIts : List VoteGroup → KeptEntry → Type 0
NoneSaysIts groups kept = (key : List ℕ) → kept.ed ≡ opinion.Key key → NoneSays key groups

-- the entries that are kept, and those that follow
pub record AreSome (entries : List KeptEntry) (left : List VoteGroup) : Type 0 where
  pub count : length entries + entries_among left ≤ 65535
  pub apart : AllPairs KeptDiffer entries
  pub behind : All (NoneSaysIts left) entries
  pub rest : AreApart left

pub none_some : (groups : List VoteGroup) → entries_among groups ≤ 65535 → AreApart groups → AreSome [] groups
none_some groups few apart = record {
  count = omega (arith, few);
  apart = AllPairs-nil KeptDiffer;
  behind = All-nil (NoneSaysIts groups);
  rest = apart;
}

-- a section that is kept nowhere
passed : (name : VoteSection) (taken : List VoteTaken) (entries : List KeptEntry) (left : List VoteGroup)
    → AreSome entries (group name taken ∷ left) → AreSome entries left
passed name taken entries left is = record {
  count = omega (arith, is.count);
  apart = is.apart;
  behind = All-weaker (NoneSaysIts (group name taken ∷ left)) (NoneSaysIts left) (λ kept its key says. (its key says).1)
      entries is.behind;
  rest = is.rest.1;
}

-- one more entry
entry_more : (taken : List VoteTaken) (entries : List KeptEntry) (left : List VoteGroup)
    → AreSome entries (group section.Entry taken ∷ left) → AreSome (with_entry entries (entry_of taken)) left
entry_more taken entries left is = by (is_after entries (entry_of taken).relay.identity)
  where
    new : KeptEntry
    new = entry_of taken

    by : (t : Bool) → AreSome (if t then entries ++ new ∷ [] else entries) left
    by false = passed section.Entry taken entries left is
    by true =
        let others = passed section.Entry taken entries left is in
        record {
          count = omega (arith, is.count, length-append entries (new ∷ []));
          apart = all_pairs_push KeptDiffer entries new is.apart
              (λ k d inside key one other. (is.behind k d inside key one).0 other);
          behind = All-push (NoneSaysIts left) entries new others.behind (λ key says. is.rest.0 key says);
          rest = others.rest;
        }

some_with_one_group_kept : (kept : Kept) (name : VoteSection) (taken : List VoteTaken) (left : List VoteGroup)
    → AreSome kept.entries (group name taken ∷ left) → AreSome (kept_with kept name taken).entries left
some_with_one_group_kept kept section.Entry taken left is = entry_more taken kept.entries left is
some_with_one_group_kept kept section.Preamble taken left is = passed section.Preamble taken kept.entries left is
some_with_one_group_kept kept section.Authority taken left is = passed section.Authority taken kept.entries left is
some_with_one_group_kept kept section.Certificate taken left is = passed section.Certificate taken kept.entries left is
some_with_one_group_kept kept section.Footer taken left is = passed section.Footer taken kept.entries left is

-- all that follow
pub some_kept : (kept : Kept) (groups : List VoteGroup) → AreSome kept.entries groups
    → AreSome (fold (λ k (g : VoteGroup). kept_with k g.section g.taken) kept groups).entries []
some_kept kept [] is = is
some_kept kept (g ∷ groups) is =
    some_kept (kept_with kept g.section g.taken) groups (some_with_one_group_kept kept g.section g.taken groups is)
