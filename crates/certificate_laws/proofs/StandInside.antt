-- Bytes that are given for a certificate stand inside another document.
use Rattle.std.proofs.Common.{◌≡◌, ℕ, ◌+◌, ◌-◌, ◌≤◌, false, List, [], ◌∷◌, ◌++◌, length, Option, Some, Result, refl, ap}
use Rattle.std.{proofs.{Common.{subst, ◌∙◌, arith}, lemmas.List.take_all}, specs.Prelude.{map, slice_range}}
use Rattle.std.specs.List.{AllByRecursion}
use Rattle.item_terms.specs.{Items.{Item, items_of, nothing}, Lines.lines, declared.fault.DocFault.DocFault}
use Rattle.frame_terms.specs.{Documents.{after_made, after_noted, group, onto, read_items}, Keywords.same}
use Rattle.frame_terms.specs.{Sections.stands, Tables.Tables, declared.document.{Group.Group, Made.Made}}
use Rattle.frame_terms.specs.declared.document.{Made.TheVariants.Enters, Open.Open, Taken.Taken}
use Rattle.frame_terms.specs.declared.fault.{FrameFault.FrameFault, ReadRefusal.ReadRefusal}
use Rattle.frame_terms.specs.declared.keyword.Keyword.TheVariants as the
use Rattle.frame_values.specs.declared.values.Value.{Value}
use Rattle.authority_certs.specs.{Certs.whole_part, Heads.head_of, Reading.max_cert, declared.cert.Cert.Cert}
use Rattle.authority_certs.specs.declared.frame.CertKind.{CertKind}
use Rattle.grammar_laws.{specs.Moved.{Reads, moved_item}, proofs.{FirstPlace.first_at, LinesTogether.together}}
use Rattle.grammar_laws.proofs.SoundLines.{ends_all}
use Rattle.certificate_laws.specs.{Given.{IsGiven, IsNoStranger}, Inside.StandsInside, Lifted.moved_taken}
use Rattle.certificate_laws.proofs.{Embedded.{IsNear, more_of}, FirstItem.{around_open, first_enters}}
use Rattle.certificate_laws.proofs.{Holding.{CertTaken, HoldsCertificates, all_moved}, Lone.{IsLone, WasRead}}
use Rattle.certificate_laws.proofs.Lone.{first_taken, lone_is, was_read}

weaker : (P Q : Item → Type 0) → ((item : Item) → P item → Q item) → (l : List Item) → AllByRecursion P l
    → AllByRecursion Q l
weaker P Q more [] all = tt
weaker P Q more (item ∷ l) all = (more item all.0, weaker P Q more l all.1)

abbrev no_stranger : {S K V X : Type 0} → Tables S K V X → S → Item → Type 0
no_stranger tables name item = IsNoStranger tables name item

module _ {S K W X : Type 0} (tables : Tables S K (Value W) X) (outer name : S) (kind : CertKind → K) (opening : K)
    (holds : HoldsCertificates tables outer name kind opening) (bytes : List ℕ) (cert : Cert)
    (given : IsGiven tables name bytes cert) where
  -- what was read of them alone
  read_is : WasRead bytes cert (length bytes)
  read_is = was_read bytes cert (length bytes) given.read

  lone : IsLone tables outer name kind opening holds bytes read_is.document
  lone = lone_is tables outer name kind opening holds bytes read_is.document read_is.read read_is.used_is

  abbrev all_items : List Item
  all_items = (items_of max_cert bytes).items

  abbrev first_one : CertTaken
  first_one = first_taken lone.alone.begins

  abbrev around_it : ℕ → X → List (Taken (Value W)) → Open S (Value W)
  around_it n across taken = around_open tables outer name kind opening holds n across taken

  -- they are a section
  section_is : (n length_ : ℕ) (across : X) (one : Taken (Value W)) (before : List (Taken (Value W)))
      (fault : Option DocFault) (rest : List Item) → stands the.DirKeyCertificateVersion (one ∷ before) ≡ false
      → read_items tables length_ across (around_it n across (one ∷ before)) fault (map (moved_item n) all_items ++ rest)
      ≡ onto (group name (all_moved n (first_one ∷ lone.goes.taken)))
      (read_items tables length_ across
      (around_it n across ((one ∷ before) ++ moved_taken n first_one ∷ [])) fault rest)
  unfolding read_items
  section_is n length_ across one before fault rest new =
      let item = lone.alone.item in
      let items = lone.alone.items in
      let open_ = around_it n across (one ∷ before) in
      let around : Group S (Value W) = group outer ((one ∷ before) ++ moved_taken n first_one ∷ []) in
      let near = subst (AllByRecursion (λ (item : Item). item.after ≤ 65536)) lone.alone.parts lone.near in
      let known = subst (AllByRecursion (no_stranger tables name)) lone.alone.parts given.strangers in
      let near_first : item.after ≤ item.place + 65536 = from_zero item.after item.place near.0 in
      let near_others = subst (AllByRecursion (IsNear item.place)) lone.parts
      (weaker (λ (item : Item). item.after ≤ 65536) (IsNear item.place)
      (λ other le. from_zero other.after item.place le) items near.1) in
      let known_others = subst (AllByRecursion (no_stranger tables name)) lone.parts known.1 in
      let rests = more_of tables outer name kind opening holds length_ fault (map (moved_item n) items ++ rest) in
      let inner_open : Open S (Value W) =
      record { section = name; taken = moved_taken n first_one ∷ []; around = Some around } in
      ap (λ (l : List Item). read_items tables length_ across open_ fault (map (moved_item n) l ++ rest)) lone.alone.parts
      ∙ ap (λ (m : Result (Made S (Value W)) ReadRefusal). after_made tables m across open_ (moved_item n item) rests)
      (first_enters tables outer name kind opening holds n across one before item lone.alone.made lone.alone.begins new
      near_first)
      ∙ ap (λ (r : Result X FrameFault). after_noted r (Enters name (moved_taken n first_one)) open_
      (moved_item n item) rests)
      (holds.quiet across n first_one)
      ∙ ap (λ (l : List Item). read_items tables length_ across inner_open fault (map (moved_item n) l ++ rest)) lone.parts
      ∙ lone.goes.inside_it n length_ across around fault rest near_others known_others
    where
      from_zero : (a p : ℕ) → a ≤ 65536 → a ≤ p + 65536
      from_zero a p le = omega (arith, le)

  -- they are all of the certificate's bytes
  whole_is : whole_part bytes (head_of (first_one ∷ lone.goes.taken)) ≡ bytes
  unfolding same
  whole_is =
      let begins : lone.alone.item.place ≡ 0 =
      first_at 65536 0 bytes lone.alone.item lone.alone.items given.first
      (subst (λ (l : List Item). Reads 65536 0 nothing (lines bytes) l nothing) lone.alone.parts lone.reads) in
      ap (λ (a : ℕ). slice_range bytes a (head_of (first_one ∷ lone.goes.taken)).end) begins
      ∙ ap (λ (b : ℕ). slice_range bytes 0 b) lone.end
      ∙ take_all (length bytes - 0) bytes (omega arith)

  -- They stand inside the document.
  pub stand_is : StandsInside tables outer name bytes cert
  stand_is = record {
    items = all_items;
    first = first_one;
    taken = lone.goes.taken;
    opens = refl;
    within = lone.within;
    says = read_is.says (first_one ∷ lone.goes.taken) lone.goes.groups;
    whole = whole_is;
    fits = lone.fits;
    items_there = λ limit n more fits.
        together 65536 limit n bytes more all_items
        (ends_all 65536 0 nothing (lines bytes) all_items nothing lone.reads)
        lone.reads fits;
    section_there = section_is;
  }
