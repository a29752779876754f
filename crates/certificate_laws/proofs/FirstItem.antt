-- The first item of a certificate, alone and inside another document.
use Rattle.std.proofs.Common.{◌≡◌, ℕ, ◌+◌, ◌-◌, ◌≤◌, Bool, true, false, List, [], ◌∷◌, Option, Some, None, refl, Result}
use Rattle.std.{proofs.{Common.{Ok, Err, sym, ap, subst, ◌∙◌, arith}, lemmas.Bool.le-ltb}, specs.Prelude.nat_lt}
use Rattle.std.specs.Prelude.{if◌then◌else◌}
use Rattle.item_terms.specs.Items.{Item}
use Rattle.frame_terms.specs.Decisions.{beyond, beyond_inside, first_item, made_by, made_first, made_later}
use Rattle.frame_terms.specs.{Decisions.{unless_fault, unless_refused}, Documents.start, Keywords.{same, word_of}}
use Rattle.frame_terms.specs.{Order.{inner, opener}, Refusals.refusal_at, Rows.row, Sections.{accept, lacking_but}}
use Rattle.frame_terms.specs.{Sections.{stands, taken_as, taken_of}, Standing.{as_made, begins_again, by_keyword}}
use Rattle.frame_terms.specs.{Standing.{by_row, ends, enters, goes_on, in_section, unless}, Tables.Tables}
use Rattle.frame_terms.specs.declared.document.{Made.{Made, TheVariants.{Enters, Passes, Pushes}}, Open.Open}
use Rattle.frame_terms.specs.declared.{document.Taken.Taken, fault.FrameFault.FrameFault}
use Rattle.frame_terms.specs.declared.fault.{FrameReason.TheVariants.{Missing, TooMany, Twice}, ReadRefusal.ReadRefusal}
use Rattle.frame_terms.specs.declared.{keyword.Keyword.Keyword, row.{Count.TheVariants.One, Row.Row}}
use Rattle.frame_terms.specs.declared.section.{Again.Again, Shape.Shape}
use Rattle.frame_terms.specs.declared.keyword.Keyword.TheVariants as the
use Rattle.frame_terms.specs.declared.row.Limit.TheVariants as limit
use Rattle.frame_values.specs.{Faults.at_place, declared.values.Value.Value}
use Rattle.authority_certs.specs.{Tables.{cert_tables, cert_value}, declared.frame.CertKind.CertKind}
use Rattle.authority_certs.specs.declared.frame.CertKind.TheVariants.{Version}
use Rattle.grammar_laws.specs.Moved.{moved_item}
use Rattle.certificate_laws.{specs.Lifted.moved_taken, proofs.{CertMakes.made_or, Holding.{HoldsCertificates, Said}}}
use Rattle.certificate_laws.proofs.{MovedValues.value_moved, Simulated.taken_of_moved}

is_version : (keyword : Keyword) → same keyword the.DirKeyCertificateVersion ≡ true
    → keyword ≡ the.DirKeyCertificateVersion
unfolding same
is_version the.DirKeyCertificateVersion e = refl
is_version _ e = absurd (cc e)

-- It begins the certificate.
pub record Begins (item : Item) (made : Made (Unit {0}) Said) : Type 0 where
  pub said : Said
  pub value : cert_value Version item ≡ Ok said
  pub word : word_of item.keyword ≡ Some the.DirKeyCertificateVersion
  pub is : made ≡ Pushes (taken_of the.DirKeyCertificateVersion item said)

pub first_begins : (item : Item) (made : Made (Unit {0}) Said)
    → made_by cert_tables tt (start cert_tables) item ≡ Ok made → Begins item made
unfolding same
first_begins item made is = by (word_of item.keyword) refl is
  where
    by_said : word_of item.keyword ≡ Some the.DirKeyCertificateVersion → (r : Result Said ℕ)
        → cert_value Version item ≡ r
        → as_made Pushes (taken_as the.DirKeyCertificateVersion item (at_place r)) ≡ Ok made → Begins item made
    by_said e (Err place) v is = absurd (cc is)
    by_said e (Ok said) v is =
        let here : as_made Pushes (Ok (taken_of the.DirKeyCertificateVersion item said)) ≡ Ok made = is in
        record { said = said; value = v; word = e; is = sym (ap made_or here) }

    by_keyword_is : (keyword : Keyword) → word_of item.keyword ≡ Some keyword → (t : Bool)
        → same keyword the.DirKeyCertificateVersion ≡ t
        → unless_refused item.place (if t then None else Some (Missing (opener cert_tables cert_tables.first)))
        (first_item cert_tables tt item (Some keyword)) ≡ Ok made
        → Begins item made
    by_keyword_is keyword e false s is = absurd (cc is)
    by_keyword_is keyword e true s is =
        let k = is_version keyword s in
        by_said (e ∙ ap (λ (w : Keyword). Some w) k) (cert_value Version item) refl
        (subst (λ (w : Keyword). first_item cert_tables tt item (Some w) ≡ Ok made) k is)

    by : (word : Option Keyword) → word_of item.keyword ≡ word → made_first cert_tables tt item word ≡ Ok made
        → Begins item made
    by None e is = absurd (cc is)
    by (Some keyword) e is = by_keyword_is keyword e (same keyword the.DirKeyCertificateVersion) refl is

module _ {S K W X : Type 0} (tables : Tables S K (Value W) X) (outer name : S) (kind : CertKind → K) (opening : K)
    (holds : HoldsCertificates tables outer name kind opening) (n : ℕ) (across : X) where
  abbrev version : Keyword
  version = the.DirKeyCertificateVersion

  abbrev opening_row : Row K
  opening_row = row the.DirKeyCertificateVersion One opening

  -- what is open in the document before its certificate
  abbrev pub around_open : List (Taken (Value W)) → Open S (Value W)
  around_open taken = record { section = outer; taken = taken; around = None }

  -- an item that is accepted by the row of the section around the certificate enters it
  by_row_enters : (one : Taken (Value W)) (before : List (Taken (Value W))) (item : Item) (made : Made (Unit {0}) Said)
      (begins : Begins item made) → stands version (one ∷ before) ≡ false
      → by_keyword tables across (around_open (one ∷ before)) (moved_item n item) (Some version)
      ≡ Ok (Enters name (moved_taken n (taken_of version item begins.said)))
  by_row_enters one before item made begins new =
      let open_ = around_open (one ∷ before) in
      let there = moved_item n item in
      let in_row = in_section tables across open_ there opening_row in
      let accepted = accept tables across opening_row (one ∷ before) there in
      let last =
      unless there.place (lacking_but (tables.rows outer) version (one ∷ before)) (as_made (ends None) accepted) in
      let twice : Result (Taken (Value W)) ReadRefusal = Err (refusal_at there.place (Twice version)) in
      ap (λ (r : Option (Row K)). by_row tables across open_ there version r) holds.among.row_there
      ∙ ap (λ (t : Bool). if t then Ok Passes else in_row) (holds.known there)
      ∙ ap (λ (t : Bool). if t then last
      else goes_on tables across open_ there opening_row (begins_again tables outer opening_row)) holds.among.not_last
      ∙ ap (λ (a : Again). goes_on tables across open_ there opening_row a) holds.among.begins_nothing
      ∙ ap (λ (s : Option S). as_made (enters s) accepted) holds.inside
      ∙ ap (λ (t : Bool). entering (if t then twice else taken_as version there
      (tables.value_of across opening there))) new
      ∙ ap (λ (v : Result (Value W) FrameFault). entering (taken_as version there v)) (holds.value across there)
      ∙ ap (λ (r : Result (Value W) ℕ). entering (taken_as version there (at_place r)))
      (value_moved n Version item begins.said begins.value)
      ∙ ap (λ (t : Taken (Value W)). entering (Ok t)) (taken_of_moved n version item begins.said)
    where
      entering : Result (Taken (Value W)) ReadRefusal → Result (Made S (Value W)) ReadRefusal
      entering r = as_made (enters (Some name)) r

  -- The first item enters the certificate's section.
  pub first_enters : (one : Taken (Value W)) (before : List (Taken (Value W))) (item : Item)
      (made : Made (Unit {0}) Said)
      (begins : Begins item made) → stands version (one ∷ before) ≡ false → item.after ≤ item.place + 65536
      → made_by tables across (around_open (one ∷ before)) (moved_item n item)
      ≡ Ok (Enters name (moved_taken n (taken_of version item begins.said)))
  first_enters one before item made begins new near =
      let open_ = around_open (one ∷ before) in
      let there = moved_item n item in
      let size = item.after + n - (item.place + n) in
      let within : nat_lt 65536 size ≡ false = le-ltb 65536 size (omega (arith, near)) in
      let by_word = by_keyword tables across open_ there (Some version) in
      ap (λ (w : Option Keyword). made_later tables across open_ there w) begins.word
      ∙ ap (λ (t : Bool). unless_fault
      (beyond_inside tables there (if t then None else inner tables outer version)) by_word) new
      ∙ ap (λ (s : Option S). unless_fault (beyond_inside tables there s) by_word) holds.inside
      ∙ ap (λ (shape : Shape S). unless_fault (beyond there.place shape.limit there) by_word) holds.has.shape
      ∙ ap (λ (t : Bool). unless_fault (if t then beyond_at else None) by_word) within
      ∙ by_row_enters one before item made begins new
    where
      beyond_at : Option FrameFault
      beyond_at = Some (record { place = item.place + n + 65536; reason = TooMany limit.Certificate })
