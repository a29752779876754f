-- Where the sections of a vote begin that was written, what is taken of them, and what is kept.
use Rattle.std.{proofs.Common.{◌≡◌, ℕ, true, List, [], ◌∷◌, ◌++◌, refl}, specs.{Prelude.map, List.{fold, list_all}}}
use Rattle.frame_terms.specs.{Documents.{Document, group}, declared.row.Row.Row}
use Rattle.frame_values.specs.declared.values.Value.{Value}
use Rattle.frame_laws.proofs.{Both.both_hold, Ends.{end_with, taken_to}, Groups.groups_in, Passing.EachPasses}
use Rattle.frame_laws.proofs.{Passing.{both_pass, rows_pass}, Places.after_all, SaidRows.{AreSaid, rows_of}}
use Rattle.frame_laws.proofs.Sections.{end_of, entries_in, taken_in}
use Rattle.certificate_laws.proofs.CertRows.{cert_taken, certificate_version}
use Rattle.vote_terms.specs.declared.facts.VoteFacts.{VoteFacts}
use Rattle.vote_frame.specs.{Tables.vote_tables, declared.frame.{VoteKind.VoteKind, VoteSection.VoteSection}}
use Rattle.vote_frame.specs.declared.frame.VoteSection.TheVariants.{Authority, Certificate, Footer, Preamble}
use Rattle.vote_frame.specs.declared.frame.VoteValue.{VoteValue}
use Rattle.vote_doc.specs.Heads.{no_head, with_authority, with_certificate, with_footer, with_preamble}
use Rattle.vote_doc.specs.{Kept.none_kept, declared.{head.Head.Head, kept.Kept.Kept}}
use Rattle.vote_laws.{specs.Again.IsInRange, proofs.EntryKept.{entries_kept, keeps, kept_list}}
use Rattle.vote_laws.proofs.{EntryRows.entry_section, Heard.{is_quiet, is_quiet_kind, kinds_pass}, VoteItems.VoteEntry}
use Rattle.vote_laws.proofs.{VoteItems.{VotePart, VoteTaken, signature_entry}, VoteRows.{authority, footer, preamble}}
use Rattle.vote_laws.proofs.VoteSame.{in_cert, in_list}

-- a document of what is taken of its sections
abbrev pub VoteDocument : Type 0
VoteDocument = Document VoteSection (Value VoteValue)

-- ---- where its sections begin, and what is taken of them

abbrev pub authority_place : VoteFacts → ℕ
authority_place facts = end_of 0 (preamble facts)

abbrev pub certificate_place : VoteFacts → ℕ
certificate_place facts = end_of (authority_place facts) (authority facts)

abbrev pub entries_place : VoteFacts → ℕ
entries_place facts = after_all (certificate_place facts) (in_cert facts)

-- its footer behind entries that begin at a place, and where it ends
abbrev pub footer_from : ℕ → VoteFacts → ℕ
footer_from at_entries facts = after_all at_entries (in_list facts)

abbrev pub end_from : ℕ → VoteFacts → ℕ
end_from at_entries facts = end_with (footer_from at_entries facts) footer (signature_entry facts.signature)

abbrev pub footer_place : VoteFacts → ℕ
footer_place facts = footer_from (entries_place facts) facts

-- where it ends
abbrev pub vote_end : VoteFacts → ℕ
vote_end facts = end_from (entries_place facts) facts

abbrev pub in_preamble : VoteFacts → List VoteTaken
in_preamble facts = taken_in 0 (preamble facts)

-- the certificate's first item is one of the authority's too
abbrev pub in_authority : VoteFacts → List VoteTaken
in_authority facts = taken_to (authority_place facts) (authority facts) certificate_version

abbrev pub in_certificate : VoteFacts → List VoteTaken
in_certificate facts = cert_taken (certificate_place facts) facts.certificate

abbrev pub footer_taken : ℕ → VoteFacts → List VoteTaken
footer_taken at_entries facts = taken_to (footer_from at_entries facts) footer (signature_entry facts.signature)

abbrev pub in_footer : VoteFacts → List VoteTaken
in_footer facts = footer_taken (entries_place facts) facts

-- ---- what is read

-- its entries
abbrev pub sections_of : VoteFacts → List VotePart
sections_of facts = map entry_section facts.entries

-- the document that a vote is
abbrev pub vote_document : VoteFacts → VoteDocument
vote_document facts = record {
  groups =
      group Preamble (in_preamble facts) ∷ group Certificate (in_certificate facts)
      ∷ group Authority (in_authority facts)
      ∷ (groups_in (entries_place facts) (sections_of facts) ++ group Footer (in_footer facts) ∷ []);
  used = vote_end facts;
}

-- ---- nothing is remembered of the items outside its entries

-- the items of a section
pub section_quiet : (section : VotePart) → ((place : ℕ) → is_quiet (section.opener.value place) ≡ true)
    → list_all (λ (row : Row VoteKind). is_quiet_kind row.kind) (rows_of section.middle) ≡ true
    → AreSaid vote_tables section.middle
    → EachPasses is_quiet (entries_in section)
section_quiet section first kinds said =
    both_hold first (rows_pass vote_tables is_quiet is_quiet_kind kinds_pass section.middle kinds said)

-- the same with one more
pub section_to_quiet : (section : VotePart) (last : VoteEntry) → EachPasses is_quiet (entries_in section)
    → ((place : ℕ) → is_quiet (last.value place) ≡ true) → EachPasses is_quiet (entries_in section ++ last ∷ [])
section_to_quiet section last quiet is = both_pass is_quiet (entries_in section) (last ∷ []) quiet (both_hold is tt)

-- ---- what is kept of it

-- what is kept before its footer
abbrev head_before : VoteFacts → Head
head_before facts =
    with_authority (with_certificate (with_preamble no_head (in_preamble facts)) (in_certificate facts))
    (in_authority facts)

abbrev pub vote_kept : VoteFacts → Kept
vote_kept facts = record {
  head = with_footer (head_before facts) (in_footer facts);
  entries = kept_list (entries_place facts) facts.entries;
}

pub all_kept : (facts : VoteFacts) → IsInRange facts
    → fold keeps none_kept (vote_document facts).groups ≡ vote_kept facts
all_kept facts are =
    entries_kept (record { head = head_before facts; entries = [] }) (entries_place facts) facts.entries
    (group Footer (in_footer facts) ∷ []) (λ k d within. refl) are.entries.ascending
