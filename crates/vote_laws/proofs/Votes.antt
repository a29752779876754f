-- Each vote that is read begins with its first item, and has its certificate and its signature behind it.
use Rattle.std.proofs.Common.{◌≡◌, ℕ, ◌+◌, ◌-◌, ◌^◌, true, false, List, [], ◌∷◌, ◌++◌, length, map, Option, Some, None}
use Rattle.std.proofs.Common.{zero, suc, refl, sym, ap, subst, ◌∙◌, append-nil, append_assoc, arith, inl, inr}
use Rattle.std.{proofs.lemmas.{List.Elements.{All-append, All-cons}, Option.none-some}, specs.Prelude.{◌≢◌, ◌||◌, Bool}}
use Rattle.std.specs.{Prelude.{codes, min, replicate}, List.fold}
use Rattle.item_terms.specs.{declared.fault.DocFault.DocFault, Items.{Contents, Item}}
use Rattle.frame_terms.specs.declared.{document.{Group.Group, Taken.Taken}, row.Count.TheVariants.One}
use Rattle.frame_terms.specs.{Documents.{Document, group}, Keywords.same, Order.section_if, Rows.row, Sections.stands}
use Rattle.frame_terms.specs.declared.keyword.Keyword.TheVariants as the
use Rattle.frame_values.specs.Values.{after_in, item_at, place_in}
use Rattle.authority_certs.specs.{declared.head.CertHead.CertHead, Heads.head_of}
use Rattle.vote_frame.specs.{declared.{across.Across.Across, frame.VoteSection.VoteSection}, Tables.vote_tables}
use Rattle.vote_frame.specs.declared.frame.VoteKind.TheVariants as kind
use Rattle.vote_frame.specs.declared.frame.VoteSection.TheVariants as vote
use Rattle.vote_doc.specs.{declared.{head.Head.Head, kept.Kept.Kept}, Heads.signed_to, Kept.{kept_with, none_kept}}
use Rattle.frame_laws.proofs.KnownWords.{same-sym, same-through}
use Rattle.document_laws.specs.{Documents.{AreParts, EndsSo, IsDocument}, Order.{AreInOrder, Part, items_of}}
use Rattle.document_laws.specs.{Order.sections_of, Parts.{AreBetween, AreOthers, IsInside, IsPart}, Passing.EndsWith}
use Rattle.document_laws.proofs.Times.{none_stands}
use Rattle.vote_laws.{specs.Signed.NoneHas, proofs.KeywordTexts.{item_at-first, other_text, text_as}}
use Rattle.vote_laws.proofs.PartItems.{IsCertificate, ends_never, is_certificate, last_ends, last_found, none_has}
use Rattle.vote_laws.proofs.{PartItems.none_taken, VoteSections.{V, authority_heeds, authority_never}}
use Rattle.vote_laws.proofs.VoteSections.{begins_certificate, certificate_heeds, preamble_heeds, preamble_never}
use Rattle.vote_laws.proofs.VoteSections.{signature_spaced}

abbrev pub G : Type 0
G = Group VoteSection V

abbrev VotePart : Type 0
VotePart = Part VoteSection V

abbrev names : List VotePart → List VoteSection
names parts = map (λ (part : VotePart). part.whole.section) parts

-- a part, with the name of its section
abbrev named : VotePart → VoteSection → VotePart
named part name = record { items = part.items; inside = part.inside; whole = group name part.whole.taken }

-- what is kept of sections, with what was kept before
abbrev pub keep : Kept → List G → Kept
keep kept groups = fold (λ (k : Kept) (whole : G). kept_with k whole.section whole.taken) kept groups

-- The items of a vote that is read, and what is kept of their places.
pub record HasItems (items : List Item) (kept : Head) (used : ℕ) : Type 0 where
  pub first : Item
  pub before : List Item
  pub cert_first : Item
  pub inside : List Item
  pub cert_last : Item
  pub behind : List Item
  pub last : Item
  pub left : List Item
  pub come : items ≡ first ∷ (before ++ cert_first ∷ (inside ++ cert_last ∷ (behind ++ last ∷ left)))
  pub begins : first.keyword ≡ codes "network-status-version"
  pub none_before : NoneHas (codes "dir-key-certificate-version") before
  pub none_inside : NoneHas (codes "dir-key-certification") inside
  pub certificate : IsCertificate cert_first cert_last kept.certificate
  pub signs : last.keyword ≡ codes "directory-signature"
  pub space : last.separator ≡ Some 32
  pub ends : used ≡ last.after
  pub begin_is : kept.begin ≡ first.place
  pub signed_end : kept.signed_end ≡ min (last.place + length last.keyword + 1) (2 ^ 64 - 1)
  pub end : kept.end ≡ last.after

-- ---- a section with none inside it

abbrev HasNone : (part : VotePart) (across next : Across) → IsPart vote_tables across part next → Type 0
HasNone part across next is =
    (part.inside ≡ [])
    × AreBetween vote_tables part.whole.section is.with_first is.items_between is.between is.before_last

none_inside : (part : VotePart) (across next : Across) (is : IsPart vote_tables across part next)
    → (vote_tables.shape part.whole.section).inner ≡ None → HasNone part across next is
none_inside part across next is none = by is.others
  where
    by : AreOthers vote_tables part.whole.section is.with_first is.items_between part.inside is.between is.before_last
        → HasNone part across next is
    by (inl alone) = alone
    by (inr have) =
        absurd (none-some have.whole.section
        (sym (ap (section_if vote_tables have.one.keyword) none) ∙ have.is.opens))

-- ---- entries and the footer

module _ (size : ℕ) (fault : Option DocFault) (left : List Item) (used : ℕ) where
  -- the items of parts end with the signature, and what is kept of them is kept with what was kept before
  record AreSigned (parts : List VotePart) (kept : Kept) : Type 0 where
    between : List Item
    last : Item
    behind : List Item
    come : items_of parts ++ left ≡ between ++ last ∷ behind
    signs : last.keyword ≡ codes "directory-signature"
    space : last.separator ≡ Some 32
    ends : used ≡ last.after
    begin_is : (keep kept (sections_of parts)).head.begin ≡ kept.head.begin
    certificate_is : (keep kept (sections_of parts)).head.certificate ≡ kept.head.certificate
    signed_end : (keep kept (sections_of parts)).head.signed_end
        ≡ min (last.place + length last.keyword + 1) (2 ^ 64 - 1)
    end : (keep kept (sections_of parts)).head.end ≡ last.after

  entry_signed : (part : VotePart) (parts : List VotePart) (across next : Across) (kept : Kept)
      → IsPart vote_tables across (named part vote.Entry) next
      → AreSigned parts (kept_with kept vote.Entry part.whole.taken) → AreSigned (named part vote.Entry ∷ parts) kept
  entry_signed part parts across next kept is signed =
      let none = none_inside (named part vote.Entry) across next is refl in
      let kept_is : keep kept (sections_of (named part vote.Entry ∷ parts))
      ≡ keep (kept_with kept vote.Entry part.whole.taken) (sections_of parts) =
      ap (λ (l : List G). keep kept (l ++ group vote.Entry part.whole.taken ∷ sections_of parts)) none.0 in
      record {
        between = part.items ++ signed.between;
        last = signed.last;
        behind = signed.behind;
        come =
            append_assoc part.items (items_of parts) left ∙ ap (λ (l : List Item). part.items ++ l) signed.come
            ∙ sym (append_assoc part.items signed.between (signed.last ∷ signed.behind));
        signs = signed.signs;
        space = signed.space;
        ends = signed.ends;
        begin_is = ap (λ (k : Kept). k.head.begin) kept_is ∙ signed.begin_is;
        certificate_is = ap (λ (k : Kept). k.head.certificate) kept_is ∙ signed.certificate_is;
        signed_end = ap (λ (k : Kept). k.head.signed_end) kept_is ∙ signed.signed_end;
        end = ap (λ (k : Kept). k.head.end) kept_is ∙ signed.end;
      }

  footer_signed : (part : VotePart) (across next : Across) (kept : Kept)
      → IsPart vote_tables across (named part vote.Footer) next → EndsWith part.items used
      → AreSigned (named part vote.Footer ∷ []) kept
  unfolding same
  footer_signed part across next kept is ends =
      let none = none_inside (named part vote.Footer) across next is refl in
      let item = is.ends.0 in
      let one = is.ends.1 in
      let said = is.ends.4.said in
      let front = is.first_item ∷ is.items_between in
      let are : part.items ≡ front ++ item ∷ [] = is.come ∙ ap (λ (l : List Item). front ++ l) is.ends.2 in
      let found : item_at part.whole.taken the.DirectorySignature ≡ Some one =
      ap (λ (l : List (Taken V)). item_at l the.DirectorySignature)
      (is.are ∙ ap (λ (l : List (Taken V)). is.first_one ∷ (is.between ++ l)) is.ends.3)
      ∙ last_found vote_tables vote.Footer the.DirectorySignature refl the.DirectoryFooter refl is.with_first
      is.before_last is.items_between is.first_one is.between one is.opens none.1 is.ends.5 in
      let kept_is : keep kept (sections_of (named part vote.Footer ∷ []))
      ≡ kept_with kept vote.Footer part.whole.taken =
      ap (λ (l : List G). keep kept (l ++ group vote.Footer part.whole.taken ∷ [])) none.0 in
      record {
        between = front;
        last = item;
        behind = left;
        come =
            ap (λ (l : List Item). l ++ left) (append-nil part.items ∙ are) ∙ append_assoc front (item ∷ []) left;
        signs = text_as vote_tables is.before_last vote.Footer item one said the.DirectorySignature is.ends.5;
        space = signature_spaced is.before_last item one said is.ends.5;
        ends = last_ends part.items front item used are ends;
        begin_is = ap (λ (k : Kept). k.head.begin) kept_is;
        certificate_is = ap (λ (k : Kept). k.head.certificate) kept_is;
        signed_end =
            ap (λ (k : Kept). k.head.signed_end) kept_is
            ∙ ap signed_to (found ∙ ap (λ (o : Taken V). Some o) said.stands);
        end =
            ap (λ (k : Kept). k.head.end) kept_is ∙ ap after_in found ∙ ap (λ (o : Taken V). o.after) said.stands;
      }

  -- a footer has to follow entries
  some_follow : (n : ℕ) → [] ≡ replicate n vote.Entry ++ vote.Footer ∷ [] → ⊥
  some_follow zero e = absurd (cc (e))
  some_follow (suc n) e = absurd (cc (e))

  are_signed : (n : ℕ) (parts : List VotePart) (across : Across) (kept : Kept)
      → names parts ≡ replicate n vote.Entry ++ vote.Footer ∷ [] → AreParts vote_tables across parts
      → EndsSo vote_tables size fault parts left used → AreSigned parts kept
  are_signed n [] across kept e are ends = absurd ends
  are_signed zero (part ∷ []) across kept e (next, is, are) ends =
      let name : part.whole.section ≡ vote.Footer = cc (e) in
      subst (λ (s : VoteSection). AreSigned (named part s ∷ []) kept) (sym name)
      (footer_signed part across next kept (subst (λ (s : VoteSection). IsPart vote_tables across (named part s) next)
      name is)
      (subst (λ (s : VoteSection). EndsSo vote_tables size fault (named part s ∷ []) left used) name ends))
  are_signed zero (part ∷ other ∷ parts) across kept e are ends = absurd (cc (e))
  are_signed (suc n) (part ∷ []) across kept e are ends = absurd (some_follow n (cc (e)))
  are_signed (suc n) (part ∷ other ∷ parts) across kept e (next, is, are) ends =
      let name : part.whole.section ≡ vote.Entry = cc (e) in
      subst (λ (s : VoteSection). AreSigned (named part s ∷ other ∷ parts) kept) (sym name)
      (entry_signed part (other ∷ parts) across next kept
      (subst (λ (s : VoteSection). IsPart vote_tables across (named part s) next) name is)
      (are_signed n (other ∷ parts) next (kept_with kept vote.Entry part.whole.taken) (cc (e)) are ends))

-- ---- the certificate

-- the items of a certificate
record HasCert (items : List Item) (taken : List (Taken V)) : Type 0 where
  first : Item
  within : List Item
  last : Item
  come : items ≡ first ∷ (within ++ last ∷ [])
  none_within : NoneHas (codes "dir-key-certification") within
  is : IsCertificate first last (head_of taken)

has_cert : (across next : Across) (items : List Item) (one : Taken V) (taken : List (Taken V))
    → IsInside vote_tables across vote.Authority items one (group vote.Certificate taken) next
    → same the.DirKeyCertificateVersion one.keyword ≡ true → HasCert items taken
has_cert across next items one taken is begins = record {
  first = is.first_item;
  within = is.items_between;
  last = is.ends.0;
  come = is.come ∙ ap (λ (l : List Item). is.first_item ∷ (is.items_between ++ l)) is.ends.2;
  none_within =
      none_has vote_tables vote.Certificate the.DirKeyCertification
      (ends_never vote_tables vote.Certificate the.DirKeyCertification refl) certificate_heeds is.with_first
      is.items_between is.between is.before_last is.others;
  is =
      subst (λ (l : List (Taken V)). IsCertificate is.first_item is.ends.0 (head_of l))
      (sym (is.are ∙ ap (λ (l : List (Taken V)). one ∷ (is.between ++ l)) is.ends.3))
      (is_certificate vote_tables vote.Authority vote.Certificate refl across is.with_first is.before_last is.first_item
      is.items_between is.ends.0 one is.between is.ends.1 is.begins.said begins is.others is.ends.4.said is.ends.5);
}

joined : (f b i h l : List Item) → f ++ ((b ++ (i ++ h)) ++ l) ≡ (f ++ b) ++ (i ++ (h ++ l))
joined f b i h l = simp append_assoc refl

-- The items of the authority's section: those before the certificate, the certificate, and those behind it.
record HasInside (items : List Item) (inside : List G) : Type 0 where
  before : List Item
  behind : List Item
  items_inside : List Item
  come : items ≡ before ++ (items_inside ++ behind)
  none_before : NoneHas (codes "dir-key-certificate-version") before
  taken : List (Taken V)
  only : inside ≡ group vote.Certificate taken ∷ []
  cert : HasCert items_inside taken

has_inside : (part : VotePart) (across next : Across) → IsPart vote_tables across (named part vote.Authority) next
    → HasInside part.items part.inside
unfolding same
has_inside part across next is = by is.others
  where
    other_first : same the.DirKeyCertificateVersion is.first_one.keyword ≡ false
    other_first =
        same-sym the.DirKeyCertificateVersion is.first_one.keyword
        ∙ sym (same-through the.DirSource is.first_one.keyword the.DirKeyCertificateVersion is.opens)

    never_one : (number : ℕ) → number ≡ 1 → number ≡ 0 → ⊥
    never_one number one none = omega (arith, one, none)

    by : AreOthers vote_tables vote.Authority is.with_first is.items_between part.inside is.between is.before_last
        → HasInside part.items part.inside
    by (inl alone) =
        let none : stands the.DirKeyCertificateVersion (is.first_one ∷ (is.between ++ [])) ≡ false =
        ap (λ (l : List (Taken V)). stands the.DirKeyCertificateVersion (is.first_one ∷ l)) (append-nil is.between)
        ∙ ap (λ (t : Bool). t || stands the.DirKeyCertificateVersion is.between)
        (same-sym is.first_one.keyword the.DirKeyCertificateVersion ∙ other_first)
        ∙ none_taken vote_tables vote.Authority the.DirKeyCertificateVersion authority_never is.with_first
        is.items_between is.between is.before_last alone.1 in
        absurd (never_one _ (is.counts the.DirKeyCertificateVersion (row the.DirKeyCertificateVersion One kind.Version)
        refl)
        (none_stands the.DirKeyCertificateVersion part.whole.taken
        (ap (λ (l : List (Taken V)). stands the.DirKeyCertificateVersion l)
        (is.are ∙ ap (λ (l : List (Taken V)). is.first_one ∷ (is.between ++ l)) is.ends.1) ∙ none)))
    by (inr have) =
        let begins = begins_certificate have.one.keyword have.whole.section have.is.opens in
        record {
          before = is.first_item ∷ have.items_before;
          behind = have.items_behind ++ is.items_last;
          items_inside = have.items_inside;
          come =
              is.come
              ∙ ap (λ (l : List Item). is.first_item ∷ (l ++ is.items_last)) have.come
              ∙ joined (is.first_item ∷ []) have.items_before have.items_inside have.items_behind is.items_last;
          none_before =
              All-cons (λ (item : Item). item.keyword ≢ codes "dir-key-certificate-version") is.first_item
              have.items_before
              (other_text vote_tables across vote.Authority is.first_item is.first_one is.begins.said
              the.DirKeyCertificateVersion other_first)
              (none_has vote_tables vote.Authority the.DirKeyCertificateVersion authority_never authority_heeds
              is.with_first have.items_before have.before have.when_begun have.first);
          taken = have.whole.taken;
          only = have.only ∙ ap (λ (s : VoteSection). group s have.whole.taken ∷ []) begins.1;
          cert =
              has_cert have.when_begun have.when_left have.items_inside have.one have.whole.taken
              (subst (λ (s : VoteSection). IsInside vote_tables have.when_begun vote.Authority have.items_inside
              have.one (group s have.whole.taken) have.when_left) begins.1 have.is) begins.0;
        }

-- ---- all of them

moved : (f b a c w e h p l : List Item)
    → ((f ++ b) ++ ((a ++ ((c ++ (w ++ e)) ++ h)) ++ p)) ++ l
    ≡ f ++ ((b ++ a) ++ (c ++ (w ++ (e ++ (h ++ (p ++ l))))))
moved f b a c w e h p l = simp append_assoc refl

module _ (size : ℕ) (fault : Option DocFault) (left : List Item) (used : ℕ) where
  -- the items of these parts
  abbrev AreWhole : List VotePart → Type 0
  AreWhole parts = HasItems (items_of parts ++ left) (keep none_kept (sections_of parts)).head used

  by_three : (preamble authority : VotePart) (parts : List VotePart) (with_preamble with_authority : Across)
      → IsPart vote_tables vote_tables.start (named preamble vote.Preamble) with_preamble
      → IsPart vote_tables with_preamble (named authority vote.Authority) with_authority
      → ((kept : Kept) → AreSigned size fault left used parts kept)
      → AreWhole (named preamble vote.Preamble ∷ named authority vote.Authority ∷ parts)
  unfolding same
  by_three preamble authority parts with_preamble with_authority is has all_signed =
      let none = none_inside (named preamble vote.Preamble) vote_tables.start with_preamble is refl in
      let around = has_inside authority with_preamble with_authority has in
      let cert = around.cert in
      let kept = keep none_kept (group vote.Preamble preamble.whole.taken ∷ group vote.Certificate around.taken
      ∷ group vote.Authority authority.whole.taken ∷ []) in
      let signed = all_signed kept in
      let final = (keep kept (sections_of parts)).head in
      let found : HasItems ((preamble.items ++ (authority.items ++ items_of parts)) ++ left) final used = record {
        first = is.first_item;
        before = is.items_between ++ around.before;
        cert_first = cert.first;
        inside = cert.within;
        cert_last = cert.last;
        behind = around.behind ++ signed.between;
        last = signed.last;
        left = signed.behind;
        come =
            ap (λ (l : List Item). (l ++ (authority.items ++ items_of parts)) ++ left)
            (is.come ∙ ap (λ (l : List Item). is.first_item ∷ (is.items_between ++ l)) is.ends.0
            ∙ ap (λ (l : List Item). is.first_item ∷ l) (append-nil is.items_between))
            ∙ ap (λ (l : List Item). ((is.first_item ∷ is.items_between) ++ (l ++ items_of parts)) ++ left)
            (around.come ∙ ap (λ (l : List Item). around.before ++ (l ++ around.behind)) cert.come)
            ∙ moved (is.first_item ∷ []) is.items_between around.before (cert.first ∷ []) cert.within (cert.last ∷ [])
            around.behind (items_of parts) left
            ∙ ap (λ (l : List Item). is.first_item ∷ ((is.items_between ++ around.before) ++ cert.first
            ∷ (cert.within ++ cert.last ∷ (around.behind ++ l)))) signed.come
            ∙ ap (λ (l : List Item). is.first_item ∷ ((is.items_between ++ around.before) ++ cert.first
            ∷ (cert.within ++ cert.last ∷ l)))
            (sym (append_assoc around.behind signed.between (signed.last ∷ signed.behind)));
        begins = text_as vote_tables vote_tables.start vote.Preamble is.first_item is.first_one is.begins.said
            the.NetworkStatusVersion is.opens;
        none_before =
            All-append (λ (item : Item). item.keyword ≢ codes "dir-key-certificate-version") is.items_between
            around.before
            (none_has vote_tables vote.Preamble the.DirKeyCertificateVersion preamble_never preamble_heeds is.with_first
            is.items_between is.between is.before_last none.1) around.none_before;
        none_inside = cert.none_within;
        certificate =
            subst (λ (c : CertHead). IsCertificate cert.first cert.last c) (sym signed.certificate_is) cert.is;
        signs = signed.signs;
        space = signed.space;
        ends = signed.ends;
        begin_is =
            signed.begin_is
            ∙ ap (λ (l : List (Taken V)). place_in (item_at l the.NetworkStatusVersion)) is.are
            ∙ ap place_in (item_at-first the.NetworkStatusVersion is.first_one (is.between ++ is.last) is.opens)
            ∙ ap (λ (o : Taken V). o.place) is.begins.said.stands;
        signed_end = signed.signed_end;
        end = signed.end;
      } in
      subst (λ (l : List G). HasItems ((preamble.items ++ (authority.items ++ items_of parts)) ++ left)
      (keep none_kept (l ++ group vote.Preamble preamble.whole.taken ∷ (authority.inside
      ++ group vote.Authority authority.whole.taken ∷ sections_of parts))).head used) (sym none.0)
      (subst (λ (l : List G). HasItems ((preamble.items ++ (authority.items ++ items_of parts)) ++ left)
      (keep none_kept (group vote.Preamble preamble.whole.taken ∷ (l
      ++ group vote.Authority authority.whole.taken ∷ sections_of parts))).head used) (sym around.only) found)

  by_parts : (n : ℕ) (parts : List VotePart)
      → names parts ≡ vote.Preamble ∷ vote.Authority ∷ (replicate n vote.Entry ++ vote.Footer ∷ [])
      → AreParts vote_tables vote_tables.start parts → EndsSo vote_tables size fault parts left used → AreWhole parts
  by_parts n [] e are ends = absurd ends
  by_parts n (preamble ∷ []) e are ends = absurd (cc (e))
  by_parts n (preamble ∷ authority ∷ []) e are ends = absurd (some_follow size fault left used n (cc (e)))
  by_parts n (preamble ∷ authority ∷ part ∷ parts) e (x, is, (y, has, are)) ends =
      let name : preamble.whole.section ≡ vote.Preamble = cc (e) in
      let other : authority.whole.section ≡ vote.Authority = cc (e) in
      subst (λ (s : VoteSection). AreWhole (named preamble s ∷ authority ∷ part ∷ parts)) (sym name)
      (subst (λ (s : VoteSection). AreWhole (named preamble vote.Preamble ∷ named authority s ∷ part ∷ parts))
      (sym other) (by_three preamble authority (part ∷ parts) x y
      (subst (λ (s : VoteSection). IsPart vote_tables vote_tables.start (named preamble s) x) name is)
      (subst (λ (s : VoteSection). IsPart vote_tables x (named authority s) y) other has)
      (λ kept. are_signed size fault left used n (part ∷ parts) y kept (cc (e)) are ends)))

-- the sections of a vote
names_are : (standing : List VoteSection) → AreInOrder vote_tables vote_tables.sections standing
    → (n : ℕ) × (standing ≡ vote.Preamble ∷ vote.Authority ∷ (replicate n vote.Entry ++ vote.Footer ∷ []))
names_are standing are =
    let one = are.4 in
    let two = one.4 in
    let three = two.4 in (
      two.0,
      are.2 ∙ ap (λ (k : ℕ). replicate k vote.Preamble ++ are.1) are.3
          ∙ ap (λ (l : List VoteSection). vote.Preamble ∷ l) (one.2
          ∙ ap (λ (k : ℕ). replicate k vote.Authority ++ one.1) one.3
          ∙ ap (λ (l : List VoteSection). vote.Authority ∷ l) (two.2
          ∙ ap (λ (l : List VoteSection). replicate two.0 vote.Entry ++ l) (three.2
          ∙ ap (λ (k : ℕ). replicate k vote.Footer ++ three.1) three.3
          ∙ ap (λ (l : List VoteSection). vote.Footer ∷ l) three.4))),
    )

-- each vote is so
pub has_items : (size : ℕ) (contents : Contents) (document : Document VoteSection V)
    → IsDocument vote_tables size contents document
    → HasItems contents.items (keep none_kept document.groups).head document.used
has_items size contents document is =
    let order = names_are (names is.parts) is.in_order in
    subst (λ (l : List G). HasItems contents.items (keep none_kept l).head document.used) (sym is.are)
    (subst (λ (l : List Item). HasItems l (keep none_kept (sections_of is.parts)).head document.used) (sym is.come)
    (by_parts size contents.fault is.left document.used order.0 is.parts order.1 is.each is.ends))
