-- The items of a part of a document: a keyword that none between its first and its last has, and which is its last.
use Rattle.std.proofs.Common.{◌≡◌, ℕ, Bool, true, false, List, [], ◌∷◌, ◌++◌, Option, Some, refl, sym, ap, subst, ◌∙◌}
use Rattle.std.proofs.{Common.{inl, inr}, lemmas.{Bool.false≢true, List.Elements.{All-cons, All-nil}}}
use Rattle.std.specs.Prelude.{◌≢◌, ◌||◌, IfSome, codes}
use Rattle.item_terms.specs.Items.{Item}
use Rattle.frame_terms.specs.{declared.{document.Taken.Taken, keyword.Keyword.Keyword, row.Row.Row}, Keywords.same}
use Rattle.frame_terms.specs.{Keywords.{text_of, word_of}, Order.{is_keyword, is_strange, knows}, Sections.row_of}
use Rattle.frame_terms.specs.{Sections.stands, Tables.Tables}
use Rattle.frame_terms.specs.declared.keyword.Keyword.TheVariants as the
use Rattle.frame_values.specs.{declared.values.Value.Value, Values.{after_in, item_at, line_end_in, place_in}}
use Rattle.authority_certs.specs.{declared.head.CertHead.CertHead, Heads.head_of}
use Rattle.frame_laws.proofs.KnownWords.{known, same-sym, same-through}
use Rattle.document_laws.specs.{Items.IsItemOf, Parts.{AreBetween, IsOrdinary}, Passing.{EndsWith, IsPassedIn}}
use Rattle.vote_laws.{specs.Signed.NoneHas, proofs.KeywordTexts.{item_at-first, item_at-last, other_text, text_as}}

-- ---- the last of some items

last_or : Item → List Item → Item
last_or item [] = item
last_or item (next ∷ items) = last_or next items

last_behind : (item : Item) (before : List Item) (last : Item) → last_or item (before ++ last ∷ []) ≡ last
unfolding last_or
last_behind item [] last = refl
last_behind item (next ∷ before) last = last_behind next before last

-- what ends with the last of some items ends where that one does
pub last_ends : (items before : List Item) (last : Item) (place : ℕ) → items ≡ before ++ last ∷ []
    → EndsWith items place → place ≡ last.after
last_ends items before last place are ends =
    ends.ends
    ∙ ap (λ (i : Item). i.after) (sym (last_behind last ends.before ends.last)
    ∙ ap (last_or last) (sym ends.parts ∙ are) ∙ last_behind last before last)

-- ---- a keyword that stands between the first and the last never

module _ {S K V X : Type 0} (tables : Tables S K V X) (section : S) (keyword : Keyword) where
  -- the document knows it, and the section ignores no item of it
  pub record IsHeeded : Type 0 where
    pub is_known : knows tables keyword ≡ true
    pub heeded : (row : Row K) (item : Item) → row_of (tables.rows section) keyword ≡ Some row
        → tables.ignores row.kind item ≡ false

  -- no ordinary item of the section has it
  abbrev pub IsNever : Type 0
  IsNever =
      (across : X) (item : Item) (one : Taken V) (next : X) → IsOrdinary tables across section item one next
      → same keyword one.keyword ≡ false

  other_passed : IsHeeded → (item : Item) → IsPassedIn tables section item → item.keyword ≢ text_of keyword
  other_passed heeded item (inl unknown) e =
      let word : word_of item.keyword ≡ Some keyword = ap word_of e ∙ known keyword in
      let none : is_strange tables section keyword ≡ false =
      subst (λ (w : Option Keyword). IfSome w (λ k. is_strange tables section k ≡ false)) word unknown in
      false≢true (sym none ∙ ap (λ (test : Bool). test || tables.strangers section keyword) heeded.is_known)
  other_passed heeded item (inr ignored) e =
      let one : Some ignored.keyword ≡ Some keyword = sym ignored.known ∙ ap word_of e ∙ known keyword in
      let it : ignored.keyword ≡ keyword = cc (one) in
      let there : row_of (tables.rows section) keyword ≡ Some ignored.row =
      ap (λ (k : Keyword). row_of (tables.rows section) k) (sym it) ∙ ignored.has_row in
      false≢true (sym (heeded.heeded ignored.row item there) ∙ ignored.ignored)

  module _ (never : IsNever) where
    pub none_taken : (across : X) (items : List Item) (taken : List (Taken V)) (next : X)
        → AreBetween tables section across items taken next → stands keyword taken ≡ false
    none_taken across [] taken next is = ap (λ (l : List (Taken V)). stands keyword l) is.0
    none_taken across (item ∷ items) taken next (inl (passed, is)) = none_taken across items taken next is
    none_taken across (item ∷ items) taken next (inr (one, rest, then_, are, ordinary, is)) =
        ap (λ (l : List (Taken V)). stands keyword l) are
        ∙ ap (λ (t : Bool). t || stands keyword rest)
        (same-sym one.keyword keyword ∙ never across item one then_ ordinary)
        ∙ none_taken then_ items rest next is

    pub none_has : IsHeeded → (across : X) (items : List Item) (taken : List (Taken V)) (next : X)
        → AreBetween tables section across items taken next → NoneHas (text_of keyword) items
    none_has heeded across [] taken next is = All-nil (λ (item : Item). item.keyword ≢ text_of keyword)
    none_has heeded across (item ∷ items) taken next (inl (passed, is)) =
        All-cons (λ (item : Item). item.keyword ≢ text_of keyword) item items (other_passed heeded item passed)
        (none_has heeded across items taken next is)
    none_has heeded across (item ∷ items) taken next (inr (one, rest, then_, are, ordinary, is)) =
        All-cons (λ (item : Item). item.keyword ≢ text_of keyword) item items
        (other_text tables across section item one ordinary.stands.said keyword (never across item one then_ ordinary))
        (none_has heeded then_ items rest next is)

-- ---- the last item of a section that ends with one of its own

module _ {S K W X : Type 0} (tables : Tables S K (Value W) X) (section : S) (last : Keyword)
    (ends_so : (tables.shape section).last ≡ Some last) where
  pub ends_never : IsNever tables section last
  ends_never across item one next is =
      ap (λ (k : Option Keyword). is_keyword k one.keyword) (sym ends_so) ∙ is.goes_on

  -- it is found by its keyword, where that is not the first one's
  pub last_found : (begins : Keyword) → same begins last ≡ false → (across next : X) (items : List Item)
      (first : Taken (Value W)) (between : List (Taken (Value W))) (one : Taken (Value W))
      → same begins first.keyword ≡ true → AreBetween tables section across items between next
      → same last one.keyword ≡ true → item_at (first ∷ (between ++ one ∷ [])) last ≡ Some one
  last_found begins apart across next items first between one opens are is =
      item_at-last last (first ∷ between) one
      (ap (λ (t : Bool). t || stands last between) (sym (same-through begins first.keyword last opens) ∙ apart)
      ∙ none_taken tables section last ends_never across items between next are) is

-- ---- a certificate

-- the first item of a certificate and its last, and what is kept of their places
pub record IsCertificate (first last : Item) (head : CertHead) : Type 0 where
  pub begins : first.keyword ≡ codes "dir-key-certificate-version"
  pub certifies : last.keyword ≡ codes "dir-key-certification"
  pub begin : head.begin ≡ first.place
  pub covered_end : head.covered_end ≡ last.line_end
  pub end : head.end ≡ last.after

-- so it is of each certificate's section, which begins with an item of the one around it
pub is_certificate : {S K W X : Type 0} (tables : Tables S K (Value W) X) (around section : S)
    → (tables.shape section).last ≡ Some the.DirKeyCertification → (before across next : X) (first : Item)
    (items : List Item) (last : Item) (one : Taken (Value W)) (between : List (Taken (Value W)))
    (last_one : Taken (Value W)) → IsItemOf tables before around first one
    → same the.DirKeyCertificateVersion one.keyword ≡ true → AreBetween tables section across items between next
    → IsItemOf tables next section last last_one → same the.DirKeyCertification last_one.keyword ≡ true
    → IsCertificate first last (head_of (one ∷ (between ++ last_one ∷ [])))
unfolding same
is_certificate {W = W} tables around section ends_so before across next first items last one between last_one
    said opens are last_said is =
    let found = last_found tables section the.DirKeyCertification ends_so the.DirKeyCertificateVersion refl across next
    items one between last_one opens are is in
    record {
      begins = text_as tables before around first one said the.DirKeyCertificateVersion opens;
      certifies = text_as tables next section last last_one last_said the.DirKeyCertification is;
      begin =
          ap place_in (item_at-first the.DirKeyCertificateVersion one (between ++ last_one ∷ []) opens)
          ∙ ap (λ (o : Taken (Value W)). o.place) said.stands;
      covered_end = ap line_end_in found ∙ ap (λ (o : Taken (Value W)). o.line_end) last_said.stands;
      end = ap after_in found ∙ ap (λ (o : Taken (Value W)). o.after) last_said.stands;
    }
