-- What the tables of a document that holds certificates say of an item of one.
use Rattle.std.proofs.Common.{◌≡◌, ℕ, ◌+◌, Bool, true, false, List, [], ◌∷◌, Option, Some, None, Ok, refl, ap, ◌∙◌}
use Rattle.std.specs.{Prelude.{map, option_map, not, ◌&&◌, ◌||◌, if◌then◌else◌}, List.find}
use Rattle.item_terms.specs.Items.{Item}
use Rattle.frame_terms.specs.{Keywords.same, Order.{following_sections, inner, is_keyword, section_if}, Rows.is_one}
use Rattle.frame_terms.specs.{Rows.row, Sections.{keyword_if, lacking_but, row_of, stands}, Standing.begins_again}
use Rattle.frame_terms.specs.{Tables.Tables, declared.{document.Taken.Taken, keyword.Keyword.Keyword}}
use Rattle.frame_terms.specs.declared.{row.{Count.TheVariants.One, Row.Row}, section.Shape.Shape}
use Rattle.frame_terms.specs.declared.keyword.Keyword.TheVariants as the
use Rattle.frame_terms.specs.declared.section.Again.TheVariants as again
use Rattle.frame_values.specs.{Faults.at_place, declared.values.Value.Value}
use Rattle.frame_laws.proofs.Steps.{IsAmong}
use Rattle.authority_certs.specs.{Tables.{cert_rows, cert_value}, declared.frame.CertKind.CertKind}
use Rattle.authority_certs.specs.declared.frame.CertKind.TheVariants.{Version}
use Rattle.certificate_laws.{proofs.CertRows.HasCertificates, specs.Lifted.moved_taken}

-- what an item of a certificate says that stands alone, and what is taken of one
abbrev pub Said : Type 0
Said = Value (Unit {0})

abbrev pub CertTaken : Type 0
CertTaken = Taken Said

-- The tables have certificates in a section that stands inside another, which none follows. Its first item is one of
-- the other section too, by a row of this kind. Nothing is remembered of its items.
pub record HoldsCertificates {S K W X : Type 0} (tables : Tables S K (Value W) X) (outer name : S) (kind : CertKind → K)
    (opening : K) : Type 0 where
  pub has : HasCertificates tables name kind
  pub none_follow : following_sections tables name ≡ []
  pub inside : inner tables outer the.DirKeyCertificateVersion ≡ Some name
  pub among : IsAmong tables outer (row the.DirKeyCertificateVersion One opening)
  pub known : (item : Item) → tables.ignores opening item ≡ false
  pub value : (across : X) (item : Item) → tables.value_of across opening item ≡ at_place (cert_value Version item)
  pub quiet : (across : X) (n : ℕ) (one : CertTaken) → tables.note across (moved_taken n one) ≡ Ok across

-- the rows of a certificate that stands alone
abbrev pub alone_rows : List (Row CertKind)
alone_rows = cert_rows (λ k. k)

-- the first of a list, as it is made of the first of another
pub found_in : {A B : Type 0} (f : A → B) (p : A → Bool) (q : B → Bool) → ((a : A) → q (f a) ≡ p a) → (l : List A)
    → find q (map f l) ≡ option_map f (find p l)
found_in f p q same_ [] = refl
found_in f p q same_ (a ∷ l) = by (p a) (same_ a) (found_in f p q same_ l)
  where
    by : (t : Bool) → q (f a) ≡ t → find q (map f l) ≡ option_map f (find p l)
        → (if q (f a) then Some (f a) else find q (map f l)) ≡ option_map f (if t then Some a else find p l)
    by true e more = ap (λ (t : Bool). if t then Some (f a) else find q (map f l)) e
    by false e more = ap (λ (t : Bool). if t then Some (f a) else find q (map f l)) e ∙ more

module _ {K : Type 0} (kind : CertKind → K) where
  -- the same row in the document
  abbrev pub row_inside : Row CertKind → Row K
  row_inside row = record { keyword = row.keyword; count = row.count; kind = kind row.kind }

  keyword_kept : (found : Option (Row CertKind)) → keyword_if (option_map row_inside found) ≡ keyword_if found
  keyword_kept None = refl
  keyword_kept (Some row) = refl

module _ {W : Type 0} where
  -- what is taken of items, so many bytes further on
  abbrev pub all_moved : ℕ → List CertTaken → List (Taken (Value W))
  all_moved n taken = map (moved_taken n) taken

-- the same keywords stand among them
pub stands_moved : (W : Type 0) (n : ℕ) (keyword : Keyword) (taken : List CertTaken)
    → stands keyword (all_moved {W = W} n taken) ≡ stands keyword taken
stands_moved W n keyword [] = refl
stands_moved W n keyword (one ∷ taken) =
    ap (λ (t : Bool). same one.keyword keyword || t) (stands_moved W n keyword taken)

module _ {S K W X : Type 0} (tables : Tables S K (Value W) X) (name : S) (kind : CertKind → K)
    (has : HasCertificates tables name kind) where
  -- the row of a keyword
  pub row_there : (keyword : Keyword)
      → row_of (tables.rows name) keyword ≡ option_map (row_inside kind) (row_of alone_rows keyword)
  row_there keyword =
      ap (λ (rows : List (Row K)). row_of rows keyword) has.rows
      ∙ found_in (row_inside kind) (λ (row : Row CertKind). same row.keyword keyword)
      (λ (row : Row K). same row.keyword keyword) (λ row. refl) alone_rows

  -- what is missing before the last item
  pub lacking_moved : (n : ℕ) (last : Keyword) (taken : List CertTaken)
      → lacking_but (tables.rows name) last (all_moved {W = W} n taken) ≡ lacking_but alone_rows last taken
  lacking_moved n last taken =
      let p =
      λ (row : Row CertKind). is_one row.count && not (same row.keyword last) && not (stands row.keyword taken) in
      let there : List (Taken (Value W)) = all_moved n taken in
      let q = λ (row : Row K). is_one row.count && not (same row.keyword last) && not (stands row.keyword there) in
      ap (λ (rows : List (Row K)). lacking_but rows last there) has.rows
      ∙ ap keyword_if
      (found_in (row_inside kind) p q
      (λ row. ap (λ (t : Bool). is_one row.count && not (same row.keyword last) && not t)
      (stands_moved W n row.keyword taken))
      alone_rows)
      ∙ keyword_kept kind (find p alone_rows)

  -- whether an item is the last
  pub last_there : (keyword : Keyword)
      → is_keyword ((tables.shape name).last) keyword ≡ same the.DirKeyCertification keyword
  last_there keyword = ap (λ (shape : Shape S). is_keyword shape.last keyword) has.shape

  -- none of them begins a certificate again
  pub never_again : (row : Row K) → begins_again tables name row ≡ again.Nothing
  never_again row =
      ap (λ (shape : Shape S). if same shape.opener row.keyword then shape.again else again.Nothing) has.shape
      ∙ either (same the.DirKeyCertificateVersion row.keyword)
    where
      either : (t : Bool) → (if t then again.Nothing else again.Nothing) ≡ again.Nothing
      either true = refl
      either false = refl

  -- nothing stands inside a certificate
  pub none_inside : (keyword : Keyword) → inner tables name keyword ≡ None
  none_inside keyword = ap (λ (shape : Shape S). section_if tables keyword shape.inner) has.shape
