-- Of a vote that was written and is read, the signed part is that of its text.
use Rattle.std.proofs.Common.{◌≡◌, ℕ, ◌+◌, ◌-◌, ◌^◌, ◌≤◌, List, [], ◌∷◌, ◌++◌, length, take, refl, sym, ap, ◌∙◌}
use Rattle.std.proofs.{Common.{append_assoc, arith}, Math.Seq.take-append_seam, lemmas.List.{length-append, map-append}}
use Rattle.std.specs.Prelude.{codes, map, min, slice_range}
use Rattle.dir_bytes.specs.FieldTexts.{hex_text}
use Rattle.dirdoc_grammar.specs.{Bodies.object_text, Writing.{AreWritable, NewItem, item_text, items_text}}
use Rattle.frame_terms.specs.Keywords.{same}
use Rattle.frame_values.proofs.ItemsTexts.{sections}
use Rattle.frame_laws.proofs.{Entries.item_of, LastRows.last_item, Places.after_all-append, Sections.end_of}
use Rattle.frame_laws.proofs.{Sections.entries_in, WrittenRows.{ends_with_text, from_place}}
use Rattle.group_laws.proofs.WrittenSignatures.{signed_end_first, signer_some}
use Rattle.vote_terms.specs.{declared.facts.{SignatureFacts.SignatureFacts, VoteFacts.VoteFacts}, Votes.max_vote}
use Rattle.vote_text.specs.Texts.{algorithm_text, signer_text, vote_items, vote_text}
use Rattle.vote_doc.specs.Heads.{signed_to}
use Rattle.vote_frame.specs.Tables.{vote_tables}
use Rattle.vote_laws.{specs.Again.{IsInRange, signed_text, unsigned_items}, proofs.VoteItems.VoteEntry}
use Rattle.vote_laws.proofs.{VoteItems.{signature_entry, signature_row}, VotePlaces.authority_place}
use Rattle.vote_laws.proofs.{VotePlaces.{certificate_place, entries_place, footer_place, vote_kept}, VoteRead.text_vote}
use Rattle.vote_laws.proofs.{VoteRows.{authority, footer, preamble}, VoteSame.{in_cert, in_list, unsigned_same}}
use Rattle.vote_laws.proofs.{VoteSame.vote_same, VoteWritten.footer_ended}

-- the items before the signature
abbrev unsigned_entries : VoteFacts → List VoteEntry
unsigned_entries facts =
    entries_in (preamble facts)
    ++ (entries_in (authority facts) ++ (in_cert facts ++ (in_list facts ++ entries_in footer)))

-- what follows the signed part
abbrev after_signed : SignatureFacts → List ℕ
after_signed s = signer_text s ++ 10 ∷ object_text (codes "SIGNATURE") s.signature

-- the signature's item begins with the end of the signed part
pub signature_text : (s : SignatureFacts)
    → item_text (item_of (signature_entry s)) ≡ codes "directory-signature " ++ after_signed s
signature_text s =
    signed_end_first (signer_text s) s.signature
    (signer_some (algorithm_text s.algorithm) (hex_text s.identity.0) (hex_text s.key_digest.0))

-- the vote's text begins with the signed part
text_parts : (facts : VoteFacts) → vote_text facts ≡ signed_text facts ++ (after_signed facts.signature ++ [])
text_parts facts =
    let before = map item_of (unsigned_entries facts) in
    let p = entries_in (preamble facts) in
    let a = entries_in (authority facts) in
    let c = in_cert facts in
    let e = in_list facts in
    let f = entries_in footer in
    let last = signature_entry facts.signature in
    ap items_text
    (vote_same facts ∙ ap (map item_of) (joined p a c e f (last ∷ []))
    ∙ map-append item_of (unsigned_entries facts) (last ∷ []))
    ∙ sections before (item_of last ∷ [])
    ∙ ap (λ (l : List NewItem). items_text l ++ (item_text (item_of last) ++ [])) (sym (unsigned_same facts))
    ∙ ap (λ (l : List ℕ). items_text (unsigned_items facts) ++ (l ++ [])) (signature_text facts.signature)
    ∙ moved (items_text (unsigned_items facts)) (codes "directory-signature ") (after_signed facts.signature)
  where
    joined : (p a c e f l : List VoteEntry)
        → p ++ (a ++ (c ++ (e ++ (f ++ l)))) ≡ (p ++ (a ++ (c ++ (e ++ f)))) ++ l
    joined p a c e f l = simp append_assoc refl

    moved : (front word back : List ℕ) → front ++ ((word ++ back) ++ []) ≡ (front ++ word) ++ (back ++ [])
    moved front word back = simp append_assoc refl

-- ---- where it ends

-- the signature begins where the text of the items before it ends
signature_place : (facts : VoteFacts)
    → end_of (footer_place facts) footer ≡ length (items_text (unsigned_items facts))
signature_place facts =
    let p = entries_in (preamble facts) in
    let a = entries_in (authority facts) in
    let c = in_cert facts in
    let e = in_list facts in
    let f = entries_in footer in
    sym (after_all-append 0 p (a ++ (c ++ (e ++ f)))
    ∙ after_all-append (authority_place facts) a (c ++ (e ++ f))
    ∙ after_all-append (certificate_place facts) c (e ++ f)
    ∙ after_all-append (entries_place facts) e f)
    ∙ ends_with_text (unsigned_entries facts)
    ∙ ap (λ (l : List NewItem). length (items_text l)) (sym (unsigned_same facts))

-- items that may be written end within their limit
items_fit : (limit place : ℕ) (items : List NewItem) → place ≤ limit → AreWritable limit place items
    → place + length (items_text items) ≤ limit
items_fit limit place [] before are = omega (arith, before)
items_fit limit place (item ∷ items) before are =
    let text = item_text item in
    let others = items_fit limit (place + length text) items are.0.within are.1 in
    omega (arith, length-append text (items_text items), others)

-- the signed part is no longer than a vote may be
signed_fits : (facts : VoteFacts) → IsInRange facts → length (signed_text facts) ≤ 16777216
signed_fits facts are =
    let back = after_signed facts.signature ++ [] in
    short (length (signed_text facts)) (length back) (length (vote_text facts))
    (ap (λ (l : List ℕ). length l) (text_parts facts) ∙ length-append (signed_text facts) back)
    (items_fit max_vote 0 (vote_items facts) (omega arith) are.items)
  where
    short : (n m all : ℕ) → all ≡ n + m → 0 + all ≤ 16777216 → n ≤ 16777216
    short n m all sum within = omega (arith, sum, within)

ends_signed : (facts : VoteFacts) → IsInRange facts → (vote_kept facts).head.signed_end ≡ length (signed_text facts)
ends_signed facts are =
    let ended = footer_ended facts.signature are.signature in
    ap signed_to
    (last_item vote_tables (footer_place facts) footer signature_row
    (signature_entry facts.signature) ended.written refl)
    ∙ sums (end_of (footer_place facts) footer) (length (items_text (unsigned_items facts)))
    (length (signed_text facts)) (signature_place facts)
    (length-append (items_text (unsigned_items facts)) (codes "directory-signature ")) (signed_fits facts are)
  where
    sums : (end before all : ℕ) → end ≡ before → all ≡ before + 20 → all ≤ 16777216
        → min (end + 19 + 1) (2 ^ 64 - 1) ≡ all
    sums end before all last sum within = omega (arith, last, sum, within)

-- ---- parts of its text

-- what stands from the first byte on, as far as a text is long that the bytes begin with, is that text
pub from_first : (bytes text more : List ℕ) (begin end : ℕ) → begin ≡ 0 → end ≡ length text → bytes ≡ text ++ more
    → slice_range bytes begin end ≡ text
from_first bytes text more begin end first last parts =
    from_place bytes begin end 0 text first (omega (arith, last))
    (ap (λ (l : List ℕ). take (length text) l) parts ∙ take-append_seam text more)

-- the vote begins with its text's first byte
pub begins_at : (facts : VoteFacts) → (vote_kept facts).head.begin ≡ 0
unfolding same
begins_at facts = refl

-- The signed part of the vote that is read is that of its text.
pub signed_is : (facts : VoteFacts) → IsInRange facts → (text_vote facts).signed ≡ signed_text facts
signed_is facts are =
    let head = (vote_kept facts).head in
    from_first (vote_text facts) (signed_text facts) (after_signed facts.signature ++ []) head.begin head.signed_end
    (begins_at facts) (ends_signed facts are) (text_parts facts)
