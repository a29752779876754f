-- A certificate that was read alone: its items, and what is taken of them.
use Rattle.std.proofs.Common.{◌≡◌, ℕ, ◌+◌, ◌≤◌, List, [], ◌∷◌, ◌++◌, length, Option, Some, Result, Ok, Err, refl, sym}
use Rattle.std.{proofs.{Common.{ap, subst, ◌∙◌, arith}, lemmas.List.Elements.All-head}, specs.Prelude.{All, is_some}}
use Rattle.std.specs.{Prelude.None, List.AllByRecursion}
use Rattle.item_terms.specs.{Items.{Item, items_of, nothing}, Lines.lines, declared.fault.DocFault.DocFault}
use Rattle.frame_terms.specs.{Decisions.made_by, Documents.{after_made, at_end, document_of, finish, group, read_items}}
use Rattle.frame_terms.specs.{Documents.start, Keywords.same, Sections.taken_of, Tables.Tables}
use Rattle.frame_terms.specs.declared.{document.{Group.Group, Made.Made, Open.Open}, fault.ReadRefusal.ReadRefusal}
use Rattle.frame_terms.specs.declared.keyword.Keyword.TheVariants as the
use Rattle.frame_values.specs.{Values.after_in, declared.values.Value.Value}
use Rattle.authority_certs.specs.{Certs.cert_in, Heads.{head_of, head_with, no_head}, Reading.{cert_of, max_cert}}
use Rattle.authority_certs.specs.{Reading.with_cert, Tables.cert_tables, declared.cert.Cert.Cert}
use Rattle.authority_certs.specs.declared.frame.CertKind.{CertKind}
use Rattle.grammar_laws.{specs.Moved.{Reads, sizes}, proofs.{LastLines.last_lines, LinesTogether.sizes_all}}
use Rattle.grammar_laws.proofs.{SoundLines.{items_within, some_lines, within_all}, WithinLines.{IsIn, items_in}}
use Rattle.document_laws.{specs.Items.AreItemsIn, proofs.Taking.are_said}
use Rattle.row_laws.proofs.Saying.{all_sound}
use Rattle.certificate_laws.{specs.Within.AreTakenIn, proofs.Embedded.{CertDocument, GoesOn, goes_on_so}}
use Rattle.certificate_laws.proofs.{FirstItem.{Begins, first_begins}, Holding.{CertTaken, HoldsCertificates, Said}}
use Rattle.certificate_laws.proofs.{Simulated.alone, TakenIn.all_taken_in}

-- ---- the document

abbrev cert_or : Cert → Result (Cert × ℕ) ReadRefusal → Cert
cert_or other (Ok (cert, used)) = cert
cert_or other (Err r) = other

abbrev used_or : Result (Cert × ℕ) ReadRefusal → ℕ
used_or (Ok (cert, used)) = used
used_or (Err r) = 0

-- what the certificate says that a document is
abbrev pub says_of : List ℕ → Result CertDocument ReadRefusal → Result (Cert × ℕ) ReadRefusal
says_of bytes document = with_cert bytes (finish head_with no_head document)

-- the document that the certificate was read of
pub record WasRead (bytes : List ℕ) (cert : Cert) (used : ℕ) : Type 0 where
  pub document : CertDocument
  pub read : document_of cert_tables (length bytes) (items_of max_cert bytes) ≡ Ok document
  pub used_is : document.used ≡ used
  pub says : (taken : List CertTaken) → document.groups ≡ group tt taken ∷ [] → cert_in bytes (head_of taken) ≡ cert

pub was_read : (bytes : List ℕ) (cert : Cert) (used : ℕ) → cert_of bytes ≡ Ok (cert, used) → WasRead bytes cert used
was_read bytes cert used is = by (document_of cert_tables (length bytes) (items_of max_cert bytes)) refl is
  where
    by : (r : Result CertDocument ReadRefusal) → document_of cert_tables (length bytes) (items_of max_cert bytes) ≡ r
        → says_of bytes r ≡ Ok (cert, used) → WasRead bytes cert used
    by (Err refusal) e is = absurd (cc is)
    by (Ok document) e is = record {
      document = document;
      read = e;
      used_is = ap used_or is;
      says = λ taken groups.
          sym (ap (λ (g : List (Group (Unit {0}) Said)).
          cert_or cert (says_of bytes (Ok (record { groups = g; used = document.used })))) groups)
          ∙ ap (cert_or cert) is;
    }

-- ---- its first item

abbrev pub first_taken : {item : Item} {made : Made (Unit {0}) Said} → Begins item made → CertTaken
first_taken {item} begins = taken_of the.DirKeyCertificateVersion item begins.said

-- the first item of the document begins it, and the others go on
pub record Alone (length_ : ℕ) (fault : Option DocFault) (all : List Item) (document : CertDocument) : Type 0 where
  pub item : Item
  pub items : List Item
  pub parts : all ≡ item ∷ items
  pub made : Made (Unit {0}) Said
  pub begins : Begins item made
  pub read : read_items cert_tables length_ tt (alone (first_taken begins ∷ [])) fault items ≡ Ok document

abbrev first_more : ℕ → Option DocFault → List Item → Unit {0} → Open (Unit {0}) Said → Result CertDocument ReadRefusal
first_more length_ fault items remembered next = read_items cert_tables length_ remembered next fault items

pub read_alone : (length_ : ℕ) (fault : Option DocFault) (all : List Item) (document : CertDocument)
    → read_items cert_tables length_ tt (start cert_tables) fault all ≡ Ok document → Alone length_ fault all document
unfolding read_items same
read_alone length_ fault [] document is = absurd (never fault is)
  where
    never : (f : Option DocFault) → at_end cert_tables length_ (start cert_tables) f ≡ Ok document → ⊥
    never None is = cc is
    never (Some f) is = cc is
read_alone length_ fault (item ∷ items) document is = by_made (made_by cert_tables tt (start cert_tables) item) refl is
  where
    by_made : (r : Result (Made (Unit {0}) Said) ReadRefusal) → made_by cert_tables tt (start cert_tables) item ≡ r
        → after_made cert_tables r tt (start cert_tables) item (first_more length_ fault items) ≡ Ok document
        → Alone length_ fault (item ∷ items) document
    by_made (Err refusal) e is = absurd (cc is)
    by_made (Ok made) e is =
        let begins = first_begins item made e in
        record {
          item = item;
          items = items;
          parts = refl;
          made = made;
          begins = begins;
          read =
              sym (ap (λ (m : Made (Unit {0}) Said).
              after_made cert_tables (Ok m) tt (start cert_tables) item (first_more length_ fault items)) begins.is)
              ∙ is;
        }

-- ---- a certificate that is all of its bytes

module _ {S K W X : Type 0} (tables : Tables S K (Value W) X) (outer name : S) (kind : CertKind → K) (opening : K)
    (holds : HoldsCertificates tables outer name kind opening) (bytes : List ℕ) (document : CertDocument) where
  abbrev pub all_items : List Item
  all_items = (items_of max_cert bytes).items

  abbrev pub fault_is : Option DocFault
  fault_is = (items_of max_cert bytes).fault

  -- Its items: the first begins it, the others go on, and none stands behind the last. What is taken of them lies
  -- within the bytes, and ends with them.
  pub record IsLone : Type 0 where
    pub alone : Alone (length bytes) fault_is all_items document
    pub goes : GoesOn tables outer name kind opening holds (first_taken alone.begins) [] alone.items document
    pub parts : alone.items ≡ goes.front ++ goes.item ∷ []
    pub reads : Reads 65536 0 nothing (lines bytes) all_items nothing
    pub fits : length bytes ≤ 65536
    pub near : AllByRecursion (λ (item : Item). item.after ≤ 65536) all_items
    pub within : AreTakenIn bytes (first_taken alone.begins ∷ goes.taken)
    pub end : (head_of (first_taken alone.begins ∷ goes.taken)).end ≡ length bytes

  go_on : (lone : Alone (length bytes) fault_is all_items document)
      → GoesOn tables outer name kind opening holds (first_taken lone.begins) [] lone.items document
  unfolding same
  go_on lone =
      goes_on_so tables outer name kind opening holds (length bytes)
      (first_taken lone.begins) [] fault_is lone.items document
      refl lone.read

  -- nothing stands behind the last item
  record Last (lone : Alone (length bytes) fault_is all_items document)
      (goes : GoesOn tables outer name kind opening holds
      (first_taken lone.begins) [] lone.items document) : Type 0 where
    reads : Reads 65536 0 nothing (lines bytes) all_items nothing
    parts : lone.items ≡ goes.front ++ goes.item ∷ []

  last_is : (lone : Alone (length bytes) fault_is all_items document)
      (goes : GoesOn tables outer name kind opening holds (first_taken lone.begins) [] lone.items document)
      → document.used ≡ length bytes → Last lone goes
  last_is lone goes whole =
      let all : all_items ≡ (lone.item ∷ goes.front) ++ goes.item ∷ goes.back =
      lone.parts ∙ ap (λ (l : List Item). lone.item ∷ l) goes.parts in
      let size : goes.item.after ≡ 0 + sizes (lines bytes) =
      goes.ends ∙ whole ∙ sym (sizes_all bytes) ∙ zero_in_front (sizes (lines bytes)) in
      let last =
      last_lines 65536 0 (lines bytes) (some_lines bytes) (lone.item ∷ goes.front) goes.item goes.back all size
      goes.object in
      let parts : lone.items ≡ goes.front ++ goes.item ∷ [] =
      goes.parts ∙ ap (λ (l : List Item). goes.front ++ goes.item ∷ l) last.none in
      record {
        reads = subst (λ (l : List Item). Reads 65536 0 nothing (lines bytes) l nothing)
            (sym (lone.parts ∙ ap (λ (l : List Item). lone.item ∷ l) parts)) last.reads;
        parts = parts;
      }
    where
      zero_in_front : (k : ℕ) → k ≡ 0 + k
      zero_in_front k = omega arith

  -- what is taken lies within the bytes
  taken_within : (lone : Alone (length bytes) fault_is all_items document)
      (goes : GoesOn tables outer name kind opening holds (first_taken lone.begins) [] lone.items document)
      → document_of cert_tables (length bytes) (items_of max_cert bytes) ≡ Ok document
      → AllByRecursion (IsIn (length bytes)) all_items → AreTakenIn bytes (first_taken lone.begins ∷ goes.taken)
  unfolding same
  taken_within lone goes read are =
      let taken = first_taken lone.begins ∷ goes.taken in
      let AreSaid : Group (Unit {0}) Said → Type 0 =
      λ group. AreItemsIn cert_tables group.section all_items group.taken in
      let said = are_said cert_tables (length bytes) (items_of max_cert bytes) document read in
      record {
        each =
            all_taken_in bytes all_items taken (all_sound 0 max_cert bytes) are
            (All-head AreSaid (group tt taken) [] (subst (All AreSaid) goes.groups said));
        version = refl;
        certification = ap (λ (o : Option CertTaken). is_some o) goes.last_there;
      }

  pub lone_is : document_of cert_tables (length bytes) (items_of max_cert bytes) ≡ Ok document
      → document.used ≡ length bytes → IsLone
  lone_is read whole =
      let lone = read_alone (length bytes) fault_is all_items document read in
      let goes = go_on lone in
      let last = last_is lone goes whole in
      let size = sizes_all bytes in
      let all = within_all 65536 0 nothing (lines bytes) all_items nothing last.reads (omega arith) in
      let fits : length bytes ≤ 65536 = omega (arith, all, size) in
      let are =
      items_in 65536 0 nothing (lines bytes) all_items nothing (length bytes) last.reads tt (omega (arith, size)) in
      record {
        alone = lone;
        goes = goes;
        parts = last.parts;
        reads = last.reads;
        fits = fits;
        near =
            items_within 65536 0 nothing (lines bytes) all_items nothing 65536 last.reads tt
            (omega (arith, size, fits));
        within = taken_within lone goes read are;
        end = ap after_in goes.last_there ∙ goes.last_ends ∙ whole;
      }
