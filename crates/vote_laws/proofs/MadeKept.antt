-- Where the sections of a vote stand that was made, what is taken of them, and what is kept.
use Rattle.std.proofs.Common.{◌≡◌, ℕ, ◌+◌, Bool, false, List, [], ◌∷◌, ◌++◌, length, Option, Some, None, refl, ap, ◌∙◌}
use Rattle.std.specs.{Prelude.{not, ◌&&◌, ◌||◌, if◌then◌else◌}, List.{find, fold}, Option.option_or}
use Rattle.frame_terms.specs.{Documents.group, Keywords.same, Rows.is_one, Sections.{keyword_if, lacking_keyword}}
use Rattle.frame_terms.specs.{Sections.stands, declared.{keyword.Keyword.Keyword, row.Row.Row}}
use Rattle.frame_terms.specs.declared.keyword.Keyword.TheVariants as the
use Rattle.frame_values.specs.Values.{item_at, text_if}
use Rattle.frame_laws.proofs.{Groups.groups_in, Sections.taken_in}
use Rattle.vote_terms.specs.declared.facts.VoteFacts.{VoteFacts}
use Rattle.vote_doc.specs.Heads.{no_head, with_authority, with_certificate, with_footer, with_preamble}
use Rattle.vote_doc.specs.{Kept.none_kept, Saying.{random_in, source_in}, declared.{head.Head.Head, kept.Kept.Kept}}
use Rattle.vote_frame.specs.declared.frame.VoteSection.TheVariants.{Authority, Certificate, Footer, Preamble}
use Rattle.vote_laws.{specs.Again.AreEntriesInRange, proofs.EntryKept.{entries_kept, keeps, kept_list}}
use Rattle.vote_laws.proofs.{VoteItems.VoteTaken, VotePlaces.{VoteDocument, authority_place, end_from, footer_taken}}
use Rattle.vote_laws.proofs.{VotePlaces.{in_preamble, sections_of}, VoteRows.authority, MadeTexts.before_text}

-- ---- lists with one more item

-- of two items of one keyword a section lacks the same
pub lacking_same : {K : Type 0} (rows : List (Row K)) (taken : List VoteTaken) (a b : VoteTaken)
    → a.keyword ≡ b.keyword → lacking_keyword rows (taken ++ a ∷ []) ≡ lacking_keyword rows (taken ++ b ∷ [])
lacking_same {K} rows taken a b is =
    λ i. keyword_if (find (λ (row : Row K). is_one row.count && not (stand_same row.keyword taken i)) rows)
  where
    stand_same : (keyword : Keyword) (taken : List VoteTaken)
        → stands keyword (taken ++ a ∷ []) ≡ stands keyword (taken ++ b ∷ [])
    stand_same keyword [] = ap (λ (k : Keyword). same k keyword || false) is
    stand_same keyword (one ∷ taken) = ap (λ (t : Bool). same one.keyword keyword || t) (stand_same keyword taken)

-- an item of another keyword behind those of a section is not found
pub not_found : (taken : List VoteTaken) (one : VoteTaken) (keyword : Keyword) → same one.keyword keyword ≡ false
    → item_at (taken ++ one ∷ []) keyword ≡ item_at taken keyword
not_found [] one keyword other = ap (λ (t : Bool). if t then Some one else None) other
not_found (a ∷ taken) one keyword other =
    ap (λ (o : Option VoteTaken). if same a.keyword keyword then Some a else o) (not_found taken one keyword other)

-- the first item of a certificate changes nothing of what is kept of the authority
pub authority_kept : (head : Head) (taken : List VoteTaken) (one : VoteTaken)
    → one.keyword ≡ the.DirKeyCertificateVersion
    → with_authority head (taken ++ one ∷ []) ≡ with_authority head taken
unfolding same
authority_kept head taken one is =
    λ i. with_items (same_item the.DirSource refl i) (same_item the.Contact refl i)
    (same_item the.SharedRandPreviousValue refl i) (same_item the.SharedRandCurrentValue refl i)
  where
    same_item : (keyword : Keyword) → same the.DirKeyCertificateVersion keyword ≡ false
        → item_at (taken ++ one ∷ []) keyword ≡ item_at taken keyword
    same_item keyword other = not_found taken one keyword (ap (λ (k : Keyword). same k keyword) is ∙ other)

    with_items : Option VoteTaken → Option VoteTaken → Option VoteTaken → Option VoteTaken → Head
    with_items source contact previous current = record head {
      source = source_in source;
      contact = text_if contact;
      random_previous = option_or head.random_previous (random_in previous);
      random_current = option_or head.random_current (random_in current);
    }

-- ---- the document

-- where its entries begin
abbrev pub made_place : VoteFacts → List ℕ → ℕ
made_place facts bytes = length (before_text facts) + length bytes

abbrev pub in_authority_alone : VoteFacts → List VoteTaken
in_authority_alone facts = taken_in (authority_place facts) (authority facts)

-- the document that a made vote is, of which this is taken for its certificate
abbrev pub made_document : VoteFacts → List ℕ → VoteTaken → List VoteTaken → VoteDocument
made_document facts bytes first taken = record {
  groups =
      group Preamble (in_preamble facts) ∷ group Certificate (first ∷ taken)
      ∷ group Authority (in_authority_alone facts ++ first ∷ [])
      ∷ (groups_in (made_place facts bytes) (sections_of facts)
      ++ group Footer (footer_taken (made_place facts bytes) facts) ∷ []);
  used = end_from (made_place facts bytes) facts;
}

-- ---- what is kept

-- what is kept before its entries
abbrev pub head_before : VoteFacts → List VoteTaken → Head
head_before facts taken =
    with_authority (with_certificate (with_preamble no_head (in_preamble facts)) taken) (in_authority_alone facts)

abbrev pub made_kept : VoteFacts → List ℕ → List VoteTaken → Kept
made_kept facts bytes taken = record {
  head = with_footer (head_before facts taken) (footer_taken (made_place facts bytes) facts);
  entries = kept_list (made_place facts bytes) facts.entries;
}

pub made_all_kept : (facts : VoteFacts) (bytes : List ℕ) (first : VoteTaken) (taken : List VoteTaken)
    → first.keyword ≡ the.DirKeyCertificateVersion → AreEntriesInRange facts.entries
    → fold keeps none_kept (made_document facts bytes first taken).groups ≡ made_kept facts bytes (first ∷ taken)
made_all_kept facts bytes first taken opens are =
    let place = made_place facts bytes in
    let ended = group Footer (footer_taken place facts) ∷ [] in
    let head = with_certificate (with_preamble no_head (in_preamble facts)) (first ∷ taken) in
    ap (λ (h : Head). fold keeps (record { head = h; entries = [] }) (groups_in place (sections_of facts) ++ ended))
    (authority_kept head (in_authority_alone facts) first opens)
    ∙ entries_kept (record { head = head_before facts (first ∷ taken); entries = [] }) place facts.entries ended
    (λ k d within. refl) are.ascending
