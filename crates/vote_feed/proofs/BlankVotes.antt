-- Blank lines alone are no vote.
use Rattle.std.proofs.Common.{◌≡◌, ℕ, ◌+◌, Bool, true, List, [], ◌∷◌, length, drop, Option, Some, None, Result, Ok, Err}
use Rattle.std.{proofs.Common.{refl, ap, subst, sym, ◌∙◌}, specs.Prelude.if◌then◌else◌}
use Rattle.item_terms.specs.{Faults.{at, line_fault}, Items.{Contents, Item, contents_of, items_from, nothing, proceed}}
use Rattle.item_terms.specs.{Lines.{Line, lines, size}, Steps.{Open, item_unless, keyword_item, open_item}}
use Rattle.item_terms.specs.{Words.is_keyword_line, declared.fault.{DocFault.DocFault, DocReason.TheVariants.Keyword}}
use Rattle.grammar_laws.{specs.Blocks.{AreBlankLines, AreLinesOfItems}, proofs.BlockFronts.items_are_there}
use Rattle.frame_terms.specs.{Documents.{Document, document_of, finish, read_items}, Keywords.same}
use Rattle.frame_terms.specs.declared.fault.ReadRefusal.{ReadRefusal}
use Rattle.frame_values.specs.declared.values.Value.{Value}
use Rattle.vote_frame.specs.{Tables.vote_tables, declared.frame.{VoteSection.VoteSection, VoteValue.VoteValue}}
use Rattle.vote_terms.specs.Votes.{ReadVote, max_vote}
use Rattle.vote_doc.specs.{Kept.{kept_with, none_kept}, Reading.with_facts}
use Rattle.vote_feed.specs.Ended.{BlankLinesAreNone}

-- what a line makes of what follows it, where nothing is open before it
abbrev made : ℕ → List Line → Line → Option DocFault → Bool → (Open → Contents) → Contents
made place rest line fault blank more =
    proceed (open_item (item_unless fault (if blank then Ok None
    else if is_keyword_line line.text then Ok (Some (keyword_item place line)) else Err (at place Keyword)))) more

-- blank lines have no item, whatever the limit
blank_items : (limit other place : ℕ) (all : List Line) → AreBlankLines limit place all
    → (contents_of other place nothing all).items ≡ []
unfolding contents_of
blank_items limit other place [] are = refl
blank_items limit other place (line ∷ rest) are =
    ap (λ (t : Bool). (made place rest line (line_fault other place line) t
    (λ o. contents_of other (place + size line) o rest)).items) are.0.blank
    ∙ by (line_fault other place line) (blank_items limit other (place + size line) rest are.1)
  where
    by : (fault : Option DocFault) → (contents_of other (place + size line) nothing rest).items ≡ []
        → (made place rest line fault true (λ o. contents_of other (place + size line) o rest)).items ≡ []
    by (Some fault) more = refl
    by None more = more

no_fault : (limit : ℕ) (bytes : List ℕ) → items_from 0 limit bytes ≡ record { items = []; fault = None }
    → AreBlankLines (0 + limit) 0 (lines (drop 0 bytes))
no_fault limit bytes is =
    subst (λ (l : List Item). AreLinesOfItems (0 + limit) 0 (lines (drop 0 bytes)) l)
    (ap (λ (c : Contents). c.items) is)
    (items_are_there 0 limit bytes (ap (λ (c : Contents). c.fault) is))

-- no items are no vote
none_read : (length_ : ℕ) (found : Contents) (document : Document VoteSection (Value VoteValue)) → found.items ≡ []
    → document_of vote_tables length_ found ≡ Ok document → ⊥
unfolding read_items same
none_read length_ found document none is =
    by found.fault (sym (ap (λ (l : List Item). document_of vote_tables length_
    (record { items = l; fault = found.fault }))
    none) ∙ is)
  where
    by : (fault : Option DocFault)
        → document_of vote_tables length_ (record { items = []; fault = fault }) ≡ Ok document → ⊥
    by None e = cc e
    by (Some fault) e = cc e

pub blank_are_none : BlankLinesAreNone
blank_are_none limit bytes vote end blank is =
    by (document_of vote_tables (length bytes) (items_from 0 max_vote bytes)) refl is
  where
    says_of : Result (Document VoteSection (Value VoteValue)) ReadRefusal → Result (ReadVote × ℕ) ReadRefusal
    says_of r = with_facts bytes (finish kept_with none_kept r)

    by : (r : Result (Document VoteSection (Value VoteValue)) ReadRefusal)
        → document_of vote_tables (length bytes) (items_from 0 max_vote bytes) ≡ r → says_of r ≡ Ok (vote, end) → ⊥
    by (Err refusal) e is = cc is
    by (Ok document) e is =
        none_read (length bytes) (items_from 0 max_vote bytes) document
        (blank_items (0 + limit) (0 + max_vote) 0 (lines (drop 0 bytes)) (no_fault limit bytes blank)) e
