-- A vote that was read ends there, whatever follows it.
use Rattle.std.proofs.Common.{◌≡◌, ℕ, ◌+◌, true, List, [], ◌∷◌, ◌++◌, length, take, Result, Ok, Err, refl, sym, ap}
use Rattle.std.{proofs.Common.{subst, ◌∙◌, arith, append_assoc}, specs.Prelude.is_some}
use Rattle.item_terms.specs.{Items.{Contents, Item, contents_of, items_from, nothing}, Lines.{Line, lines}}
use Rattle.dirdoc_grammar.specs.Writing.{in_front}
use Rattle.frame_terms.specs.{Documents.{Document, document_of, finish}, declared.fault.ReadRefusal.ReadRefusal}
use Rattle.frame_values.specs.declared.values.Value.{Value}
use Rattle.grammar_laws.{specs.Moved.sizes, proofs.{LastLines.cut_lines, LinesTogether.{AllEnded, both_read}}}
use Rattle.grammar_laws.proofs.{LinesTogether.lines_both, OwnLines.lines_cut, OwnPart.within_text, SoundLines.ends_all}
use Rattle.document_laws.specs.{Order.items_of, Documents.{AreParts, IsDocument, EndsSo as AllEndSo}}
use Rattle.vote_kinds.proofs.ClearVotes.{vote_kinds_are_exact}
use Rattle.vote_frame.specs.{Tables.vote_tables, declared.frame.{VoteSection.VoteSection, VoteValue.VoteValue}}
use Rattle.vote_frame.specs.declared.frame.VoteSection.TheVariants as section
use Rattle.vote_terms.specs.Votes.{ReadVote, max_vote}
use Rattle.vote_doc.specs.{Kept.{kept_with, none_kept}, Reading.{vote_of, with_facts}}
use Rattle.vote_feed.{specs.{Feeding.{EndsSo, end_of}, Ended.{OpenVotesAreNone, VotesEnd}}, proofs.Votes.known_more}
use Rattle.vote_feed.proofs.{Votes.whole_there, LastPart.{VotePart, at_last, ends_at, ends_with, footer_last}}
use Rattle.vote_feed.proofs.{LastPart.{is_signed, items_last, last_part, name_of, of_last}, Lasts.last_image}
use Rattle.vote_feed.proofs.Lasts.{same_last}
use Rattle.vote_parts.proofs.VoteEnds.{vote_ends}

abbrev VoteDocument : Type 0
VoteDocument = Document VoteSection (Value VoteValue)

abbrev read_of : List ℕ → Contents
read_of bytes = items_from 0 max_vote bytes

abbrev IsVote : List ℕ → VoteDocument → Type 0
IsVote bytes document = IsDocument vote_tables (length bytes) (read_of bytes) document

-- ---- the items of a vote

-- The items of a vote: those of its parts, of which the last ends with an item that has an object.
record HasItems (bytes : List ℕ) (document : VoteDocument) (is : IsVote bytes document) : Type 0 where
  before : List VotePart
  last : VotePart
  parts : is.parts ≡ before ++ last ∷ []
  footer : name_of last ≡ section.Footer
  front : List Item
  item : Item
  items : items_of is.parts ≡ front ++ item ∷ []
  object : is_some item.object ≡ true
  ends : item.after ≡ document.used

has_items : (bytes : List ℕ) (document : VoteDocument) (is : IsVote bytes document) → HasItems bytes document is
has_items bytes document is =
    let standing = footer_last _ is.in_order in
    let split = last_image name_of is.parts standing.front section.Footer standing.parts in
    let fault = (read_of bytes).fault in
    let there = ends_with (length bytes) fault is.left document.used split.last.whole.section split.last.items split.is
    (at_last (length bytes) fault is.left document.used split.before split.last
    (subst (λ (l : List VotePart). AllEnd_ l) split.parts is.ends)) in
    let part_ = last_part vote_tables.start split.before split.last
    (subst (λ (l : List VotePart). AreParts_ l) split.parts is.each) in
    let signed = is_signed split.last.whole.section split.is part_.is.before_last part_.next part_.is.items_last
    part_.is.last part_.is.ends in
    let own = part_.is.first_item ∷ part_.is.items_between in
    let own_is : split.last.items ≡ own ++ signed.item ∷ [] =
    part_.is.come ∙ ap (λ (l : List Item). own ++ l) signed.alone in
    let same_ : there.last ≡ signed.item = same_last there.before own there.last signed.item (sym there.parts
    ∙ own_is) in
    record {
      before = split.before;
      last = split.last;
      parts = split.parts;
      footer = split.is;
      front = items_of split.before ++ own;
      item = signed.item;
      items =
          ap items_of split.parts ∙ items_last split.before split.last
          ∙ ap (λ (l : List Item). items_of split.before ++ l) own_is
          ∙ sym (append_assoc (items_of split.before) own (signed.item ∷ []));
      object = signed.object;
      ends = ap (λ (i : Item). i.after) (sym same_) ∙ sym there.ends;
    }
  where
    AllEnd_ : List VotePart → Type 0
    AllEnd_ parts =
        AllEndSo vote_tables (length bytes) (read_of bytes).fault parts is.left
        document.used

    AreParts_ : List VotePart → Type 0
    AreParts_ parts = AreParts vote_tables vote_tables.start parts

-- ---- whatever follows

module _ (bytes : List ℕ) (document : VoteDocument) (is : IsVote bytes document) (more : List ℕ) where
  abbrev has : HasItems bytes document is
  has = has_items bytes document is

  abbrev own : List ℕ
  own = take document.used bytes

  abbrev text : List ℕ
  text = own ++ more

  come : (read_of bytes).items ≡ has.front ++ has.item ∷ is.left
  come =
      is.come ∙ ap (λ (l : List Item). l ++ is.left) has.items
      ∙ append_assoc has.front (has.item ∷ []) is.left

  from_zero : (k : ℕ) → 0 + k ≡ k
  from_zero k = omega arith

  -- what follows the items that the vote has
  record Follows : Type 0 where
    rest : Contents
    held : read_of text ≡ in_front (has.front ++ has.item ∷ []) rest

  follows : Follows
  follows =
      let cut = cut_lines (0 + max_vote) 0 nothing (lines bytes) tt has.front has.item is.left come has.object in
      let used : document.used ≡ sizes cut.first = sym has.ends ∙ cut.ends ∙ from_zero (sizes cut.first) in
      let ended = ends_all (0 + max_vote) 0 nothing cut.first (has.front ++ has.item ∷ []) nothing cut.reads in
      let there : lines own ≡ cut.first =
      ap (λ (k : ℕ). lines (take k bytes)) used ∙ lines_cut bytes cut.first cut.more ended cut.parts in
      let both : lines text ≡ cut.first ++ lines more =
      lines_both own more (subst AllEnded (sym there) ended)
      ∙ ap (λ (l : List Line). l ++ lines more) there in
      record {
        rest = contents_of (0 + max_vote) (0 + sizes cut.first) nothing (lines more);
        held =
            ap (λ (l : List Line). contents_of (0 + max_vote) 0 nothing l) both
            ∙ both_read (0 + max_vote) 0 nothing cut.first (lines more) (has.front ++ has.item ∷ []) nothing cut.reads;
      }

  there_too : IsVote text document
  there_too =
      let rest = follows.rest in
      let fault = (read_of text).fault in
      let ends = ends_with (length bytes) (read_of bytes).fault is.left document.used has.last.whole.section
      has.last.items
      has.footer (at_last (length bytes) (read_of bytes).fault is.left document.used has.before has.last
      (subst (λ (l : List VotePart). AllEndSo vote_tables (length bytes)
      (read_of bytes).fault l is.left document.used) has.parts is.ends)) in
      record {
        parts = is.parts;
        left = rest.items;
        come = ap (λ (c : Contents). c.items) follows.held ∙ ap (λ (l : List Item). l ++ rest.items) (sym has.items);
        are = is.are;
        in_order = is.in_order;
        each = is.each;
        ends = subst (λ (l : List VotePart). AllEndSo vote_tables (length text) fault l
            rest.items document.used) (sym has.parts)
            (of_last (length text) fault rest.items document.used has.before has.last
            (ends_at (length text) fault rest.items document.used has.last.whole.section has.last.items has.footer
            ends));
      }

-- ---- the laws

abbrev says_of : List ℕ → Result VoteDocument ReadRefusal → Result (ReadVote × ℕ) ReadRefusal
says_of bytes r = with_facts bytes (finish kept_with none_kept r)

abbrev end_or : ℕ → Result ℕ ReadRefusal → ℕ
end_or other (Ok end) = end
end_or other (Err refusal) = other

-- A vote that was read is a document that ends there.
record WasRead (bytes : List ℕ) (end : ℕ) : Type 0 where
  document : VoteDocument
  read : document_of vote_tables (length bytes) (read_of bytes) ≡ Ok document
  used : document.used ≡ end

was_read : (bytes : List ℕ) (vote : ReadVote) (end : ℕ) → vote_of bytes ≡ Ok (vote, end) → WasRead bytes end
was_read bytes vote end is = by (document_of vote_tables (length bytes) (read_of bytes)) refl is
  where
    by : (r : Result VoteDocument ReadRefusal) → document_of vote_tables (length bytes) (read_of bytes) ≡ r
        → says_of bytes r ≡ Ok (vote, end) → WasRead bytes end
    by (Err refusal) e is = absurd (cc is)
    by (Ok document) e is =
        record { document = document; read = e; used = ap (λ r. end_or 0 (end_of r)) is }

ends_so : (bytes : List ℕ) (document : VoteDocument)
    → document_of vote_tables (length bytes) (read_of bytes) ≡ Ok document
    → EndsSo (take document.used bytes) (Ok document.used)
ends_so bytes document read more =
    let text = take document.used bytes ++ more in
    let is = (vote_kinds_are_exact.votes (length bytes) (read_of bytes) document).0 read in
    let again = (vote_kinds_are_exact.votes (length text) (read_of text) document).1 (there_too bytes document is more) in
    ap (λ (r : Result VoteDocument ReadRefusal). end_of (says_of text r)) again

all_ends : (bytes : List ℕ) (vote : ReadVote) (end : ℕ) → vote_of bytes ≡ Ok (vote, end)
    → EndsSo (take end bytes) (Ok end)
all_ends bytes vote end is =
    let found = was_read bytes vote end is in
    subst (λ (k : ℕ). EndsSo (take k bytes) (Ok k)) found.used (ends_so bytes found.document found.read)

pub votes_end : VotesEnd
votes_end bytes vote end is =
    let found = was_read bytes vote end is in
    let within = within_text vote_tables vote_ends max_vote bytes found.document found.read in
    whole_there end bytes (omega (arith, within, found.used)) (all_ends bytes vote end is)

pub open_are_none : OpenVotesAreNone
open_are_none bytes vote end open_ is = open_ (Ok end) (known_more end bytes (Ok end) (all_ends bytes vote end is))
