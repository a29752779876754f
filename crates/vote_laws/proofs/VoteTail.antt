-- The entries of a vote that was written, and its footer, are read behind the section of its authority.
use Rattle.std.{proofs.Common.{◌≡◌, ℕ, List, [], ◌∷◌, ◌++◌, Option, None, Result, Ok, refl, ap, ◌∙◌}, specs.Prelude.map}
use Rattle.item_terms.specs.{Items.Item, declared.fault.DocFault.DocFault}
use Rattle.dirdoc_grammar.specs.Writing.{all_written}
use Rattle.frame_terms.specs.{Documents.{group, read_items}, Rows.row, Sections.lacking_keyword}
use Rattle.frame_terms.specs.declared.{document.Group.Group, fault.ReadRefusal.ReadRefusal, row.Count.TheVariants.One}
use Rattle.frame_terms.specs.declared.keyword.Keyword.TheVariants as the
use Rattle.frame_values.specs.declared.values.Value.{Value}
use Rattle.frame_laws.proofs.{Ends.end_read, Entries.item_of, Following.{MayFollow, groups_of, last_first, last_name}}
use Rattle.frame_laws.proofs.{Following.{last_others, last_whole, onto_all, sections_read}, Groups.groups_in}
use Rattle.frame_laws.proofs.{Groups.{onto_all-last, onto_all-ok}, Passing.notes_passing, Places.both_written}
use Rattle.frame_laws.proofs.Steps.{opening}
use Rattle.relay_entries.specs.Listing.{none_listed}
use Rattle.vote_terms.specs.declared.{entry.EntryFacts.EntryFacts, facts.VoteFacts.VoteFacts}
use Rattle.vote_frame.specs.{Tables.vote_tables, declared.{across.Across.Across, frame.VoteSection.VoteSection}}
use Rattle.vote_frame.specs.declared.frame.{VoteSection.TheVariants.{Authority, Entry, Footer}, VoteValue.VoteValue}
use Rattle.vote_frame.specs.declared.frame.VoteKind.TheVariants as kind
use Rattle.vote_laws.{specs.Again.{AreEntriesInRange, IsSignatureInRange}, proofs.EntryNotes.{all_listed, all_may}}
use Rattle.vote_laws.proofs.{EntryNotes.{entries_next, knowing}, EntryRows.{entry_section, first_follows, footer_after}}
use Rattle.vote_laws.proofs.{Heard.{forgotten, is_quiet}, VoteItems.{VoteTaken, signature_entry, signature_row}}
use Rattle.vote_laws.proofs.{VoteItems.suits_nothing, VotePlaces.{VoteDocument, end_from, footer_from, footer_taken}}
use Rattle.vote_laws.proofs.{VotePlaces.{section_quiet, section_to_quiet, sections_of}, VoteRandoms.with_randoms}
use Rattle.vote_laws.proofs.{VoteRows.footer, VoteSame.{footer_entries, in_list}, VoteWritten.footer_ended}
use Rattle.vote_laws.proofs.VoteWritten.{footer_follows}

-- the footer may follow the section of the authority and any number of entries
after_entries : (list : List EntryFacts)
    → MayFollow vote_tables (last_name Entry (map entry_section list)) Footer
    (row the.DirectoryFooter One kind.Nothing)
after_entries [] = footer_after
after_entries (e ∷ list) = after_entries list

after_all_entries : (list : List EntryFacts)
    → MayFollow vote_tables (last_name Authority (map entry_section list)) Footer
    (row the.DirectoryFooter One kind.Nothing)
after_all_entries [] = footer_follows
after_all_entries (e ∷ list) = after_entries list

-- what is remembered before the entries
abbrev pub remembered : VoteFacts → Across
remembered facts = with_randoms facts.random_previous facts.random_current

-- what follows the sections before
abbrev after_groups : List (Group VoteSection (Value VoteValue)) → Result VoteDocument ReadRefusal
    → Result VoteDocument ReadRefusal
after_groups groups more = onto_all groups more

pub tail_read : (length_ at_e : ℕ) (facts : VoteFacts) (fault : Option DocFault) (more : List Item)
    → AreEntriesInRange facts.entries → IsSignatureInRange facts.signature
    → (first : VoteTaken) (taken : List VoteTaken) → lacking_keyword (vote_tables.rows Authority) (first ∷ taken) ≡ None
    → read_items vote_tables length_ (remembered facts) (opening Authority (first ∷ taken) None) fault
    (all_written at_e (map item_of (in_list facts ++ footer_entries facts)) ++ more)
    ≡ Ok (record {
      groups =
          group Authority (first ∷ taken)
          ∷ (groups_in at_e (sections_of facts) ++ group Footer (footer_taken at_e facts) ∷ []);
      used = end_from at_e facts;
    })
tail_read length_ at_e facts fault more entries signed first taken whole =
    let at_f = footer_from at_e facts in
    let list = sections_of facts in
    let f = footer_entries facts in
    let before = remembered facts in
    let listed = knowing before (all_listed none_listed facts.entries) in
    let rest = all_written at_f (map item_of f) ++ more in
    let may = all_may facts.entries entries in
    let next = entries_next before none_listed Authority at_e facts.entries first_follows may in
    let signature = signature_entry facts.signature in
    let quiet = section_to_quiet footer signature (section_quiet footer (λ p. refl) refl tt) (λ p. refl) in
    let ended = group Footer (footer_taken at_e facts) ∷ [] in
    let last : Result VoteDocument ReadRefusal = Ok (record { groups = ended; used = end_from at_e facts }) in
    ap (λ (l : List Item).
    read_items vote_tables length_ (remembered facts) (opening Authority (first ∷ taken) None) fault l)
    (both_written at_e (in_list facts) f more)
    ∙ sections_read vote_tables length_ before listed Authority first taken at_e list fault rest whole next
    ∙ ap (after_groups (groups_of Authority (first ∷ taken) at_e list))
    (end_read vote_tables length_ listed at_f footer signature_row signature fault more
    (footer_ended facts.signature signed)
    listed (last_name Authority list) (last_first first at_e list) (last_others taken at_e list)
    (last_whole vote_tables before listed Authority first taken at_e list whole next)
    (after_all_entries facts.entries) (suits_nothing the.DirectoryFooter listed at_f)
    (notes_passing vote_tables is_quiet forgotten listed at_f f quiet))
    ∙ onto_all-last Authority first taken at_e list last
    ∙ onto_all-ok (group Authority (first ∷ taken) ∷ groups_in at_e list) ended (end_from at_e facts)
