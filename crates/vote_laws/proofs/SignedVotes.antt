-- The signed text of each vote that is read.
use Rattle.std.proofs.Common.{◌≡◌, ℕ, ◌+◌, ◌-◌, ◌≤◌, ◌<◌, ◌^◌, List, [], ◌∷◌, ◌++◌, length, Result, Ok, Err, refl, sym}
use Rattle.std.{proofs.Common.{ap, subst, ◌∙◌, arith, append_assoc, drop, take, length-drop}, specs.Prelude.codes}
use Rattle.std.specs.Prelude.{min, slice_range}
use Rattle.sha1.specs.Sha1.{sha1}
use Rattle.item_terms.specs.Items.{Item, items_of}
use Rattle.frame_terms.specs.{declared.fault.ReadRefusal.ReadRefusal, Documents.{Document, document_of, finish}}
use Rattle.authority_certs.specs.Certs.{cert_in}
use Rattle.vote_frame.specs.{declared.frame.VoteSection.VoteSection, Tables.vote_tables}
use Rattle.vote_terms.specs.Votes.{ReadVote, max_vote}
use Rattle.vote_doc.specs.{declared.{head.Head.Head, kept.Kept.Kept}, Facts.vote_in, Kept.{kept_with, none_kept}}
use Rattle.vote_doc.specs.Reading.{with_facts}
use Rattle.vote_parts.proofs.OwnVotes.{placed_read}
use Rattle.vote_kinds.proofs.ClearVotes.{vote_kinds_are_exact}
use Rattle.vote_laws.specs.{Signed.{IsOfCovered, IsVoteOfItems, VotesSignTheirItems}, Texts.{text_before, text_through}}
use Rattle.vote_laws.proofs.{Covered.covered_is, Lines.{Follow, StandsFrom, items_follow}, Pairs.parts_are}
use Rattle.vote_laws.proofs.{Slices.{among, begins_before, cut_off, slices, spaced}, VoteSections.V, Votes.HasItems}
use Rattle.vote_laws.proofs.Votes.{has_items, keep}

-- a number that is small is not cut off
not_cut : (n size : ℕ) → n ≤ size → size < 2 ^ 62 → min n (2 ^ 64 - 1) ≡ n
not_cut n size le short = omega (arith, le, short)

-- the items before the last one, with the certificate's among them
grouped : (b i h t : List Item) (f c : Item) → b ++ f ∷ (i ++ c ∷ (h ++ t)) ≡ (b ++ f ∷ (i ++ c ∷ h)) ++ t
grouped b i h t f c = simp append_assoc refl

module _ (bytes : List ℕ) (short : length bytes < 2 ^ 62) (kept : Kept) (used : ℕ)
    (is : HasItems (items_of max_vote bytes).items kept.head used) where
  -- the vote's own part
  abbrev own : List ℕ
  own = take used bytes

  abbrev head : Head
  head = kept.head

  abbrev first : Item
  first = is.first

  abbrev last : Item
  last = is.last

  abbrev between : List Item
  between = is.before ++ is.cert_first ∷ (is.inside ++ is.cert_last ∷ is.behind)

  -- where each of them stands
  all_follow : StandsFrom bytes 0 first × Follow bytes first.after
      (is.before ++ is.cert_first ∷ (is.inside ++ is.cert_last ∷ (is.behind ++ last ∷ is.left)))
  all_follow = subst (λ (l : List Item). Follow bytes 0 l) is.come (items_follow 0 max_vote bytes)

  cert_follows : StandsFrom bytes first.after is.cert_first
      × Follow bytes is.cert_first.after (is.inside ++ is.cert_last ∷ (is.behind ++ last ∷ is.left))
  cert_follows =
      among bytes first.after is.before is.cert_first (is.inside ++ is.cert_last ∷ (is.behind ++ last ∷ is.left))
      all_follow.1

  end_follows : StandsFrom bytes is.cert_first.after is.cert_last
      × Follow bytes is.cert_last.after (is.behind ++ last ∷ is.left)
  end_follows = among bytes is.cert_first.after is.inside is.cert_last (is.behind ++ last ∷ is.left) cert_follows.1

  last_follows : StandsFrom bytes is.cert_last.after last × Follow bytes last.after is.left
  last_follows = among bytes is.cert_last.after is.behind last is.left end_follows.1

  cert_in_order : is.cert_first.place ≤ is.cert_last.place
  cert_in_order =
      omega (arith, end_follows.0.later, begins_before bytes first.after is.cert_first cert_follows.0)

  in_order : first.place ≤ last.place
  in_order =
      omega (
        arith,
        begins_before bytes 0 first all_follow.0,
        cert_follows.0.later,
        cert_in_order,
        begins_before bytes is.cert_first.after is.cert_last end_follows.0,
        last_follows.0.later,
      )

  -- the place behind the space
  abbrev place : ℕ
  place = last.place + length last.keyword + 1

  spaces : (slice_range bytes last.place place ≡ last.keyword ++ 32 ∷ []) × (place ≤ length bytes)
      × (place ≤ last.after)
  spaces = spaced bytes is.cert_last.after last last_follows.0 is.space

  -- what is signed
  signed_end_is : head.signed_end ≡ place
  signed_end_is = is.signed_end ∙ not_cut place (length bytes) spaces.1 short

  signed_to : slice_range bytes head.begin head.signed_end ≡ slice_range bytes first.place place
  signed_to =
      ap (λ (n : ℕ). slice_range bytes n head.signed_end) is.begin_is
      ∙ ap (λ (n : ℕ). slice_range bytes first.place n) signed_end_is

  signed_is : slice_range bytes head.begin head.signed_end
      ≡ text_before bytes first last ++ codes "directory-signature "
  signed_is =
      signed_to
      ∙ sym (slices bytes first.place last.place place in_order (omega arith))
      ∙ ap (λ (l : List ℕ). text_before bytes first last ++ l)
      (spaces.0 ∙ ap (λ (l : List ℕ). l ++ 32 ∷ []) is.signs)

  -- all of it, which begins so
  whole_is : slice_range bytes head.begin head.end ≡ text_through bytes first last
  whole_is =
      ap (λ (n : ℕ). slice_range bytes n head.end) is.begin_is
      ∙ ap (λ (n : ℕ). slice_range bytes first.place n) is.end

  begins_so : slice_range bytes head.begin head.end
      ≡ slice_range bytes head.begin head.signed_end ++ slice_range bytes place last.after
  begins_so =
      whole_is
      ∙ sym (slices bytes first.place place last.after (omega (arith, in_order)) spaces.2)
      ∙ ap (λ (l : List ℕ). l ++ slice_range bytes place last.after) (sym signed_to)

  covered_is_ : IsOfCovered bytes is.cert_first is.cert_last (cert_in bytes head.certificate).covered
  covered_is_ =
      covered_is bytes is.cert_first.after is.cert_first is.cert_last head.certificate end_follows.0 cert_in_order
      is.certificate.begin is.certificate.covered_end

  -- ---- what stands in its own part

  begins_within : head.begin ≤ last.place
  begins_within = omega (arith, is.begin_is, in_order)

  ends_last : last.place ≤ last.after
  ends_last = begins_before bytes is.cert_last.after last last_follows.0

  ends_within : last.after ≤ used
  ends_within = omega (arith, is.ends)

  own_whole : slice_range own head.begin head.end ≡ slice_range bytes head.begin head.end
  own_whole =
      cut_off bytes used head.begin head.end
      (omega (arith, begins_within, ends_last, ends_within)) (omega (arith, is.end, ends_within))

  own_signed : slice_range own head.begin head.signed_end ≡ slice_range bytes head.begin head.signed_end
  own_signed =
      cut_off bytes used head.begin head.signed_end
      (omega (arith, begins_within, ends_last, ends_within))
      (omega (arith, signed_end_is, spaces.2, ends_within))

  -- a part of the certificate up to a place within it
  own_cert : (until : ℕ) → until ≤ is.cert_last.after
      → slice_range own head.certificate.begin until ≡ slice_range bytes head.certificate.begin until
  own_cert until within =
      cut_off bytes used head.certificate.begin until
      (omega (
        arith,
        is.certificate.begin,
        cert_in_order,
        begins_before bytes is.cert_first.after is.cert_last end_follows.0,
        last_follows.0.later,
        ends_last,
        ends_within,
      ))
      (omega (arith, within, last_follows.0.later, ends_last, ends_within))

  vote_is : IsVoteOfItems bytes (vote_in own kept) used
  vote_is = record {
    first = first;
    between = between;
    last = last;
    left = is.left;
    come = is.come ∙ ap (λ (l : List Item). first ∷ l)
        (grouped is.before is.inside is.behind (last ∷ is.left) is.cert_first is.cert_last);
    begins = is.begins;
    signs = is.signs;
    ends = sym is.ends;
    whole = own_whole ∙ whole_is;
    signed = own_signed ∙ signed_is;
    rest = slice_range bytes place last.after;
    stands = own_whole ∙ begins_so ∙ ap (λ (l : List ℕ). l ++ slice_range bytes place last.after) (sym own_signed);
    certificate = record {
      before = is.before;
      first = is.cert_first;
      inside = is.inside;
      last = is.cert_last;
      behind = is.behind;
      come = refl;
      none_before = is.none_before;
      begins = is.certificate.begins;
      none_inside = is.none_inside;
      certifies = is.certificate.certifies;
    };
    certificate_bytes =
        own_cert head.certificate.end (omega (arith, is.certificate.end))
        ∙ ap (λ (n : ℕ). slice_range bytes n head.certificate.end) is.certificate.begin
        ∙ ap (λ (n : ℕ). slice_range bytes is.cert_first.place n) is.certificate.end;
    covered = record {
      line = covered_is_.line;
      is_line = covered_is_.is_line;
      covered =
          ap sha1 (own_cert head.certificate.covered_end
          (omega (arith, is.certificate.covered_end, end_follows.0.until)))
          ∙ covered_is_.covered;
    };
  }

module _ (bytes : List ℕ) (short : length bytes < 2 ^ 62) (vote : ReadVote) (after : ℕ) where
  by_read : (read : Result (Document VoteSection V) ReadRefusal)
      → document_of vote_tables (length bytes) (items_of max_vote bytes) ≡ read
      → with_facts bytes (finish kept_with none_kept read) ≡ Ok (vote, after) → IsVoteOfItems bytes vote after
  by_read (Err refusal) read e = absurd (cc (e))
  by_read (Ok document) read e =
      let contents = items_of max_vote bytes in
      let kept = keep none_kept document.groups in
      let own = vote_in (take document.used bytes) kept in
      let found : IsVoteOfItems bytes own document.used =
      vote_is bytes short kept document.used
      (has_items (length bytes) contents document
      ((vote_kinds_are_exact.votes (length bytes) contents document).0 read)) in
      let parts = parts_are own vote document.used after e in
      subst (λ (n : ℕ). IsVoteOfItems bytes vote n) parts.1
      (subst (λ (v : ReadVote). IsVoteOfItems bytes v document.used) parts.0 found)

pub votes_sign_their_items : VotesSignTheirItems
votes_sign_their_items start bytes vote after short e =
    let placed = placed_read start bytes vote after e in
    let rest = drop start bytes in (
      placed.0,
      placed.2,
      by_read rest (omega (arith, length-drop start bytes, short)) vote placed.0
          (document_of vote_tables (length rest) (items_of max_vote rest)) refl placed.1,
    )
