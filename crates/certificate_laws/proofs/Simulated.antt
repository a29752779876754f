-- What an item of a certificate makes of a document, inside which the certificate stands so many bytes further on.
use Rattle.std.proofs.Common.{◌≡◌, ℕ, ◌+◌, ◌-◌, ◌≤◌, Bool, true, false, List, [], ◌∷◌, length, Option, Some, None, refl}
use Rattle.std.{proofs.{Common.{Result, Ok, Err, sym, ap, ◌∙◌, arith}, lemmas.Bool.le-ltb}, specs.Prelude.IfSome}
use Rattle.std.specs.Prelude.{option_map, not, ◌&&◌, nat_lt, if◌then◌else◌}
use Rattle.item_terms.specs.Items.{Item}
use Rattle.frame_terms.specs.{Decisions.{beyond, beyond_inner, beyond_inside, made_by, unless_fault}, Keywords.same}
use Rattle.frame_terms.specs.{Keywords.word_of, Order.{is_strange, opened_by}, Refusals.refusal_at, Rows.is_many}
use Rattle.frame_terms.specs.{Sections.{accept, lacking_but, row_of, stands, taken_as, taken_of}, Standing.as_made}
use Rattle.frame_terms.specs.Standing.{begins_again, by_keyword, by_row, elsewhere, ends, enters, goes_on, in_section}
use Rattle.frame_terms.specs.{Standing.unless, Tables.Tables, declared.document.{Group.Group, Made.Made}}
use Rattle.frame_terms.specs.declared.document.Made.TheVariants.{Ends, Enters, Leaves, Opens, Passes, Pushes, Stops}
use Rattle.frame_terms.specs.declared.{document.{Open.Open, Taken.Taken}, fault.FrameFault.FrameFault}
use Rattle.frame_terms.specs.declared.fault.{FrameReason.TheVariants.{Order, TooMany, Twice}, ReadRefusal.ReadRefusal}
use Rattle.frame_terms.specs.declared.{keyword.Keyword.Keyword, row.Row.Row, section.{Again.Again, Shape.Shape}}
use Rattle.frame_terms.specs.declared.keyword.Keyword.TheVariants as the
use Rattle.frame_terms.specs.declared.row.Limit.TheVariants as limit
use Rattle.frame_terms.specs.declared.section.Again.TheVariants as again
use Rattle.frame_values.specs.{Faults.at_place, declared.values.Value.Value}
use Rattle.authority_certs.specs.{Tables.{cert_tables, cert_value}, declared.frame.CertKind.CertKind}
use Rattle.grammar_laws.specs.Moved.{moved_item}
use Rattle.certificate_laws.{specs.{Given.IsNoStranger, Lifted.{lifted_value, moved_taken}}, proofs.Holding.CertTaken}
use Rattle.certificate_laws.proofs.Holding.{HoldsCertificates, Said, all_moved, alone_rows, lacking_moved, last_there}
use Rattle.certificate_laws.proofs.Holding.{never_again, none_inside, row_inside, row_there, stands_moved}
use Rattle.certificate_laws.proofs.MovedValues.{value_moved}

-- what is open in the certificate that stands alone
abbrev pub alone : List CertTaken → Open (Unit {0}) Said
alone taken = record { section = tt; taken = taken; around = None }

-- what an item of no row makes
abbrev pub order_if : {S V : Type 0} → ℕ → Bool → Result (Made S V) ReadRefusal
order_if place t = if t then Err (refusal_at place Order) else Ok Passes

-- an item of a certificate that stands alone passes no limit but the document's
pub never_beyond : (taken : List CertTaken) (item : Item) (word : Option Keyword)
    → beyond_inner cert_tables tt taken None item word ≡ None
never_beyond taken item None = refl
never_beyond taken item (Some keyword) = by (stands keyword taken)
  where
    by : (t : Bool) → beyond_inside cert_tables item (if t then None else None) ≡ None
    by true = refl
    by false = refl

module _ {W : Type 0} where
  pub taken_of_moved : (n : ℕ) (keyword : Keyword) (item : Item) (said : Said)
      → taken_of keyword (moved_item n item) (lifted_value {W = W} n said) ≡ moved_taken n (taken_of keyword item said)
  taken_of_moved n keyword item said =
      let separator : item.place + n + length item.keyword ≡ item.place + length item.keyword + n = omega arith in
      λ i. record {
        keyword = keyword;
        value = lifted_value n said;
        place = item.place + n;
        separator = separator i;
        line_end = item.line_end + n;
        after = item.after + n;
      }

  abbrev moved_ok : ℕ → Result CertTaken ReadRefusal → Result (Taken (Value W)) ReadRefusal
  moved_ok n (Ok t) = Ok (moved_taken n t)
  moved_ok n (Err r) = Err r

module _ {S W : Type 0} where
  -- what an item makes in the document, where the last ends the section inside and not the document
  abbrev pub made_moved : ℕ → Made (Unit {0}) Said → Made S (Value W)
  made_moved n Passes = Passes
  made_moved n (Pushes one) = Pushes (moved_taken n one)
  made_moved n (Ends one) = Leaves (moved_taken n one)
  made_moved n (Leaves one) = Passes
  made_moved n (Opens section one) = Passes
  made_moved n (Enters section one) = Passes
  made_moved n Stops = Passes

  abbrev moved_made : ℕ → Result (Made (Unit {0}) Said) ReadRefusal → Result (Made S (Value W)) ReadRefusal
  moved_made n (Ok made) = Ok (made_moved n made)
  moved_made n (Err r) = Err r

module _ {S K W X : Type 0} (tables : Tables S K (Value W) X) (outer name : S) (kind : CertKind → K) (opening : K)
    (holds : HoldsCertificates tables outer name kind opening) (n : ℕ) (across : X) where
  -- what is open in the document
  abbrev pub inside : List CertTaken → Group S (Value W) → Open S (Value W)
  inside taken around = record { section = name; taken = all_moved n taken; around = Some around }

  -- ---- an item of a row

  accept_moved : (row : Row CertKind) (taken : List CertTaken) (item : Item) (one : CertTaken)
      → accept cert_tables tt row taken item ≡ Ok one
      → accept tables across (row_inside kind row) (all_moved n taken) (moved_item n item) ≡ Ok (moved_taken n one)
  accept_moved row taken item one is =
      let there = moved_item n item in
      let twice : Result (Taken (Value W)) ReadRefusal = Err (refusal_at (item.place + n) (Twice row.keyword)) in
      ap (λ (t : Bool). if not (is_many row.count) && t then twice
      else taken_as row.keyword there (tables.value_of across (kind row.kind) there))
      (stands_moved W n row.keyword taken)
      ∙ ap (λ (v : Result (Value W) FrameFault). if not (is_many row.count) && stands row.keyword taken then twice
      else taken_as row.keyword there v) (holds.has.values across row.kind there)
      ∙ by_twice (not (is_many row.count) && stands row.keyword taken) is
    where
      by_said : (said : Result Said ℕ) → cert_value row.kind item ≡ said
          → taken_as row.keyword item (at_place said) ≡ Ok one
          → taken_as row.keyword (moved_item n item) (at_place (cert_value {V = W} row.kind (moved_item n item)))
          ≡ Ok (moved_taken n one)
      by_said (Err place) e is = absurd (cc is)
      by_said (Ok said) e is =
          let same_ : Ok (taken_of row.keyword item said) ≡ Ok one = is in
          ap (λ (r : Result (Value W) ℕ). taken_as row.keyword (moved_item n item) (at_place r))
          (value_moved n row.kind item said e)
          ∙ ap (λ (t : Taken (Value W)). Ok t) (taken_of_moved n row.keyword item said)
          ∙ ap (λ (t : Result CertTaken ReadRefusal). moved_ok n t) same_

      by_twice : (t : Bool)
          → (if t then Err (refusal_at item.place (Twice row.keyword))
          else taken_as row.keyword item (at_place (cert_value row.kind item))) ≡ Ok one
          → (if t then Err (refusal_at (item.place + n) (Twice row.keyword))
          else taken_as row.keyword (moved_item n item) (at_place (cert_value {V = W} row.kind (moved_item n item))))
          ≡ Ok (moved_taken n one)
      by_twice true is = absurd (cc is)
      by_twice false is = by_said (cert_value row.kind item) refl is

  -- ---- what it makes

  by_accepted : (row : Row CertKind) (taken : List CertTaken) (item : Item) (make : CertTaken → Made (Unit {0}) Said)
      (make_in : Taken (Value W) → Made S (Value W)) (made : Made (Unit {0}) Said)
      → ((one : CertTaken) → made_moved n (make one) ≡ make_in (moved_taken n one))
      → as_made make (accept cert_tables tt row taken item) ≡ Ok made
      → as_made make_in (accept tables across (row_inside kind row) (all_moved n taken) (moved_item n item))
      ≡ Ok (made_moved n made)
  by_accepted row taken item make make_in made same_ is = by (accept cert_tables tt row taken item) refl is
    where
      by : (r : Result CertTaken ReadRefusal) → accept cert_tables tt row taken item ≡ r → as_made make r ≡ Ok made
          → as_made make_in (accept tables across (row_inside kind row) (all_moved n taken) (moved_item n item))
          ≡ Ok (made_moved n made)
      by (Err r) e is = absurd (cc is)
      by (Ok one) e is =
          let here : Ok (make one) ≡ Ok made = is in
          ap (as_made make_in) (accept_moved row taken item one e)
          ∙ ap (λ (m : Made S (Value W)). Ok m) (sym (same_ one))
          ∙ ap (moved_made n) here

  in_section_moved : (around : Group S (Value W)) (row : Row CertKind) (taken : List CertTaken) (item : Item)
      (made : Made (Unit {0}) Said) → in_section cert_tables tt (alone taken) item row ≡ Ok made
      → in_section tables across (inside taken around) (moved_item n item) (row_inside kind row) ≡ Ok (made_moved n made)
  in_section_moved around row taken item made is =
      let last : Result (Made S (Value W)) ReadRefusal =
      unless (item.place + n) (lacking_but (tables.rows name) row.keyword (all_moved {W = W} n taken))
      (as_made (ends (Some around)) accepted) in
      ap (λ (t : Bool). if t then last else more (begins_again tables name (row_inside kind row)))
      (last_there tables name kind holds.has row.keyword)
      ∙ ap (λ (a : Again). if same the.DirKeyCertification row.keyword then last else more a)
      (never_again tables name kind holds.has (row_inside kind row))
      ∙ by_last (same the.DirKeyCertification row.keyword) is
    where
      accepted : Result (Taken (Value W)) ReadRefusal
      accepted = accept tables across (row_inside kind row) (all_moved n taken) (moved_item n item)

      more : Again → Result (Made S (Value W)) ReadRefusal
      more a = goes_on tables across (inside taken around) (moved_item n item) (row_inside kind row) a

      by_lacking : (k : Option Keyword)
          → unless item.place k (as_made (ends None) (accept cert_tables tt row taken item)) ≡ Ok made
          → unless (item.place + n) k (as_made (ends (Some around)) accepted) ≡ Ok (made_moved n made)
      by_lacking (Some k) is = absurd (cc is)
      by_lacking None is = by_accepted row taken item (ends None) (ends (Some around)) made (λ one. refl) is

      on : goes_on cert_tables tt (alone taken) item row again.Nothing ≡ Ok made
          → more again.Nothing ≡ Ok (made_moved n made)
      on is =
          ap (λ (s : Option S). as_made (enters s) accepted) (none_inside tables name kind holds.has row.keyword)
          ∙ by_accepted row taken item (enters None) (enters None) made (λ one. refl) is

      by_again : (t : Bool)
          → goes_on cert_tables tt (alone taken) item row (if t then again.Nothing else again.Nothing) ≡ Ok made
          → more again.Nothing ≡ Ok (made_moved n made)
      by_again true is = on is
      by_again false is = on is

      by_last : (t : Bool)
          → (if t then unless item.place (lacking_but alone_rows row.keyword taken)
          (as_made (ends None) (accept cert_tables tt row taken item))
          else goes_on cert_tables tt (alone taken) item row (begins_again cert_tables tt row)) ≡ Ok made
          → (if t then unless (item.place + n) (lacking_but (tables.rows name) row.keyword (all_moved {W = W} n taken))
          (as_made (ends (Some around)) accepted)
          else more again.Nothing) ≡ Ok (made_moved n made)
      by_last true is =
          ap (λ (k : Option Keyword). unless (item.place + n) k (as_made (ends (Some around)) accepted))
          (lacking_moved tables name kind holds.has n row.keyword taken)
          ∙ by_lacking (lacking_but alone_rows row.keyword taken) is
      by_last false is = by_again (same the.DirKeyCertificateVersion row.keyword) is

  by_row_moved : (around : Group S (Value W)) (taken : List CertTaken) (item : Item) (keyword : Keyword)
      (made : Made (Unit {0}) Said) → (row_of alone_rows keyword ≡ None → is_strange tables name keyword ≡ false)
      → by_keyword cert_tables tt (alone taken) item (Some keyword) ≡ Ok made
      → by_keyword tables across (inside taken around) (moved_item n item) (Some keyword) ≡ Ok (made_moved n made)
  unfolding same
  by_row_moved around taken item keyword made known is =
      ap (λ (r : Option (Row K)). by_row tables across (inside taken around) (moved_item n item) keyword r)
      (row_there tables name kind holds.has keyword)
      ∙ by (row_of alone_rows keyword) refl is
    where
      by_known : (t : Bool) → order_if item.place t ≡ Ok made → order_if (item.place + n) false
          ≡ Ok (made_moved {S = S} {W = W} n made)
      by_known true is = absurd (cc is)
      by_known false is = ap (moved_made n) is

      by : (found : Option (Row CertKind)) → row_of alone_rows keyword ≡ found
          → by_row cert_tables tt (alone taken) item keyword found ≡ Ok made
          → by_row tables across (inside taken around) (moved_item n item) keyword (option_map (row_inside kind) found)
          ≡ Ok (made_moved n made)
      by (Some row) e is =
          let there = in_section tables across (inside taken around) (moved_item n item) (row_inside kind row) in
          ap (λ (t : Bool). if t then Ok Passes else there) (holds.has.known row.kind (moved_item n item))
          ∙ in_section_moved around row taken item made is
      by None e is =
          ap (λ (l : List S). elsewhere tables across (inside taken around) (moved_item n item) keyword
          (opened_by tables keyword l))
          holds.none_follow
          ∙ ap (order_if {S = S} {V = Value W} (item.place + n)) (known e)
          ∙ by_known (is_strange cert_tables tt keyword) is

  word_moved : (around : Group S (Value W)) (taken : List CertTaken) (item : Item) (word : Option Keyword)
      (made : Made (Unit {0}) Said)
      → IfSome word (λ keyword. row_of alone_rows keyword ≡ None → is_strange tables name keyword ≡ false)
      → by_keyword cert_tables tt (alone taken) item word ≡ Ok made
      → by_keyword tables across (inside taken around) (moved_item n item) word ≡ Ok (made_moved n made)
  word_moved around taken item None made known is = ap (moved_made n) is
  word_moved around taken item (Some keyword) made known is = by_row_moved around taken item keyword made known is

  -- What an item behind the first makes of a certificate, it makes inside the document's, so many bytes further on.
  pub item_moved : (around : Group S (Value W)) (first : CertTaken) (taken : List CertTaken) (item : Item)
      (made : Made (Unit {0}) Said) → made_by cert_tables tt (alone (first ∷ taken)) item ≡ Ok made
      → item.after ≤ first.place + 65536 → IsNoStranger tables name item
      → made_by tables across (inside (first ∷ taken) around) (moved_item n item) ≡ Ok (made_moved n made)
  item_moved around first taken item made is near known =
      let word = word_of item.keyword in
      let there = moved_item n item in
      let by_word = by_keyword tables across (inside (first ∷ taken) around) there word in
      let here : by_keyword cert_tables tt (alone (first ∷ taken)) item word ≡ Ok made =
      sym (ap (λ (f : Option FrameFault). unless_fault f (by_keyword cert_tables tt (alone (first ∷ taken)) item word))
      (never_beyond (first ∷ taken) item word)) ∙ is in
      let size = item.after + n - (first.place + n) in
      let within : nat_lt 65536 size ≡ false = le-ltb 65536 size (omega (arith, near)) in
      ap (λ (shape : Shape S). unless_fault (beyond (first.place + n) shape.limit there) by_word) holds.has.shape
      ∙ ap (λ (t : Bool). unless_fault (if t then beyond_at (first.place + n) else None) by_word) within
      ∙ word_moved around (first ∷ taken) item word made known here
    where
      beyond_at : ℕ → Option FrameFault
      beyond_at place = Some (record { place = place + 65536; reason = TooMany limit.Certificate })
