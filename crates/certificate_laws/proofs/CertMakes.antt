-- What an item makes of a certificate that stands alone.
use Rattle.std.proofs.Common.{◌≡◌, ℕ, Bool, true, false, List, [], ◌∷◌, ◌++◌, Option, Some, None, Result, Ok, Err, refl}
use Rattle.std.{proofs.Common.{sym, ap, subst, ◌∙◌}, specs.Prelude.{not, ◌&&◌, if◌then◌else◌, is_some, codes}}
use Rattle.std.specs.List.{AllByRecursion, find}
use Rattle.item_terms.specs.Items.{Item, Object}
use Rattle.frame_terms.specs.{Decisions.{made_by, unless_fault}, Keywords.{same, word_of}, Order.is_strange}
use Rattle.frame_terms.specs.{Refusals.refusal_at, Rows.{is_many, is_one, row}, declared.row.Count.TheVariants.One}
use Rattle.frame_terms.specs.declared.{row.{Count.TheVariants.Optional, Row.Row}, document.Made.Made}
use Rattle.frame_terms.specs.declared.document.Made.TheVariants.{Passes, Pushes, Leaves, Ends, Opens, Enters, Stops}
use Rattle.frame_terms.specs.declared.fault.{FrameFault.FrameFault, FrameReason.TheVariants.Twice}
use Rattle.frame_terms.specs.{declared.{fault.ReadRefusal.ReadRefusal, keyword.Keyword.Keyword}, Sections.accept}
use Rattle.frame_terms.specs.Sections.{keyword_if, lacking_keyword, lacking_but, row_of, stands, taken_as, taken_of}
use Rattle.frame_terms.specs.Standing.{as_made, begins_again, by_keyword, by_row, ends, enters, goes_on, in_section}
use Rattle.frame_terms.specs.Standing.{unless}
use Rattle.frame_terms.specs.declared.keyword.Keyword.TheVariants as the
use Rattle.frame_terms.specs.declared.section.Again.TheVariants as again
use Rattle.frame_values.specs.{Arguments.next, Faults.at_place, Signatures.{has_words, object_if}}
use Rattle.frame_values.specs.declared.{found.Span.Span, values.Value.Value}
use Rattle.frame_values.specs.declared.values.Value.TheVariants as value
use Rattle.authority_certs.specs.{Tables.{cert_tables, cert_value}, declared.frame.CertKind.CertKind}
use Rattle.authority_certs.specs.declared.frame.CertKind.TheVariants.{Version, Address, Fingerprint, Time, Key}
use Rattle.authority_certs.specs.declared.frame.CertKind.TheVariants.{Crosscert, Certification}
use Rattle.certificate_laws.proofs.{Holding.{CertTaken, Said, alone_rows}, Simulated.{alone, never_beyond, order_if}}

-- it is the last, and has an object
pub record IsLastMade (item : Item) (one : CertTaken) : Type 0 where
  pub object : is_some item.object ≡ true
  pub keyword : same the.DirKeyCertification one.keyword ≡ true
  pub after : one.after ≡ item.after

-- It is passed over; or it is taken, and is not the last; or it is the last.
abbrev pub IsMade : Item → Made (Unit {0}) Said → Type 0
IsMade item Passes = Unit {0}
IsMade item (Pushes one) = same the.DirKeyCertification one.keyword ≡ false
IsMade item (Ends one) = IsLastMade item one
IsMade item (Leaves one) = ⊥
IsMade item (Opens section one) = ⊥
IsMade item (Enters section one) = ⊥
IsMade item Stops = ⊥

-- what is accepted
record IsAccepted (row : Row CertKind) (item : Item) (one : CertTaken) : Type 0 where
  said : Said
  says : cert_value row.kind item ≡ Ok said
  is : taken_of row.keyword item said ≡ one

abbrev one_or : CertTaken → Result CertTaken ReadRefusal → CertTaken
one_or other (Ok one) = one
one_or other (Err r) = other

accepted_is : (row : Row CertKind) (taken : List CertTaken) (item : Item) (one : CertTaken)
    → accept cert_tables tt row taken item ≡ Ok one → IsAccepted row item one
accepted_is row taken item one is = by (not (is_many row.count) && stands row.keyword taken) is
  where
    by_said : (said : Result Said ℕ) → cert_value row.kind item ≡ said
        → taken_as row.keyword item (at_place said) ≡ Ok one
        → IsAccepted row item one
    by_said (Err place) e is = absurd (cc is)
    by_said (Ok said) e is =
        let here : Ok (taken_of row.keyword item said) ≡ Ok one = is in
        record { said = said; says = e; is = ap (one_or one) here }

    by : (t : Bool)
        → (if t then Err (refusal_at item.place (Twice row.keyword))
        else taken_as row.keyword item (at_place (cert_value row.kind item))) ≡ Ok one → IsAccepted row item one
    by true is = absurd (cc is)
    by false is = by_said (cert_value row.kind item) refl is

abbrev pub made_or : Result (Made (Unit {0}) Said) ReadRefusal → Made (Unit {0}) Said
made_or (Ok made) = made
made_or (Err r) = Stops

pub object_there : {V : Type 0} (of : CertKind) (item : Item) (said : Value V) → of ≡ Certification
    → cert_value of item ≡ Ok said → is_some item.object ≡ true
object_there {V} of item said is says =
    by (has_words item.object (codes "SIGNATURE")) item.object
    (sym (ap (λ (k : CertKind). cert_value {V = V} k item) is) ∙ says)
  where
    by : (t : Bool) (object : Option Object)
        → next (object_if t item.place object) (λ (lines : Span). Ok (value.Object lines)) ≡ Ok said
        → is_some object ≡ true
    by t (Some object) is = refl
    by t None is = absurd (cc is)

in_section_is : (row : Row CertKind) (taken : List CertTaken) (item : Item) (made : Made (Unit {0}) Said)
    → (same the.DirKeyCertification row.keyword ≡ true → row.kind ≡ Certification)
    → in_section cert_tables tt (alone taken) item row ≡ Ok made → IsMade item made
in_section_is row taken item made last_kind is = by_last (same the.DirKeyCertification row.keyword) refl is
  where
    by_end : same the.DirKeyCertification row.keyword ≡ true → (r : Result CertTaken ReadRefusal)
        → accept cert_tables tt row taken item ≡ r
        → as_made (ends None) r ≡ Ok made → IsMade item made
    by_end e (Err r) a is = absurd (cc is)
    by_end e (Ok one) a is =
        let here : Ok (Ends one) ≡ Ok made = is in
        let found = accepted_is row taken item one a in
        subst (λ (m : Made (Unit {0}) Said). IsMade item m) (ap made_or here)
        (record {
          object = object_there row.kind item found.said (last_kind e) found.says;
          keyword = ap (λ (t : CertTaken). same the.DirKeyCertification t.keyword) (sym found.is) ∙ e;
          after = ap (λ (t : CertTaken). t.after) (sym found.is);
        })

    by_more : same the.DirKeyCertification row.keyword ≡ false → (r : Result CertTaken ReadRefusal)
        → accept cert_tables tt row taken item ≡ r
        → as_made (enters None) r ≡ Ok made → IsMade item made
    by_more e (Err r) a is = absurd (cc is)
    by_more e (Ok one) a is =
        let here : Ok (Pushes one) ≡ Ok made = is in
        let found = accepted_is row taken item one a in
        subst (λ (m : Made (Unit {0}) Said). IsMade item m) (ap made_or here)
        (ap (λ (t : CertTaken). same the.DirKeyCertification t.keyword) (sym found.is) ∙ e)

    by_lacking : same the.DirKeyCertification row.keyword ≡ true → (k : Option Keyword)
        → unless item.place k (as_made (ends None) (accept cert_tables tt row taken item)) ≡ Ok made → IsMade item made
    by_lacking e (Some k) is = absurd (cc is)
    by_lacking e None is = by_end e (accept cert_tables tt row taken item) refl is

    by_again : same the.DirKeyCertification row.keyword ≡ false → (t : Bool)
        → goes_on cert_tables tt (alone taken) item row (if t then again.Nothing else again.Nothing) ≡ Ok made
        → IsMade item made
    by_again e true is = by_more e (accept cert_tables tt row taken item) refl is
    by_again e false is = by_more e (accept cert_tables tt row taken item) refl is

    by_last : (t : Bool) → same the.DirKeyCertification row.keyword ≡ t
        → (if t then unless item.place (lacking_but alone_rows row.keyword taken)
        (as_made (ends None) (accept cert_tables tt row taken item))
        else goes_on cert_tables tt (alone taken) item row (begins_again cert_tables tt row)) ≡ Ok made
        → IsMade item made
    by_last true e is = by_lacking e (lacking_but alone_rows row.keyword taken) is
    by_last false e is = by_again e (same the.DirKeyCertificateVersion row.keyword) is

-- each row of the last keyword is of its kind
abbrev pub IsLastRow : Row CertKind → Type 0
IsLastRow row = same the.DirKeyCertification row.keyword ≡ true → row.kind ≡ Certification

pub last_rows : AllByRecursion IsLastRow alone_rows
unfolding same
last_rows = (
  (λ e. absurd (cc e)),
  (
    (λ e. absurd (cc e)),
    (
      (λ e. absurd (cc e)),
      (
        (λ e. absurd (cc e)),
        (
          (λ e. absurd (cc e)),
          (
            (λ e. absurd (cc e)),
            ((λ e. absurd (cc e)), ((λ e. absurd (cc e)), ((λ e. refl), tt))),
          ),
        ),
      ),
    ),
  ),
)

pub found_has : {A : Type 0} (P : A → Type 0) (p : A → Bool) (l : List A) (a : A) → AllByRecursion P l
    → find p l ≡ Some a → P a
found_has {A} P p [] a all is = absurd (cc is)
found_has {A} P p (b ∷ l) a all is = by (p b) is (found_has P p l a all.1)
  where
    get : Option A → A
    get None = b
    get (Some x) = x

    by : (t : Bool) → (if t then Some b else find p l) ≡ Some a → (find p l ≡ Some a → P a) → P a
    by true is more = subst P (pick b a is) all.0
      where
        pick : (x y : A) → Some x ≡ Some y → x ≡ y
        pick x y e = cc e
    by false is more = more is

-- What an item behind the first makes of a certificate that stands alone.
pub made_is : (first : CertTaken) (taken : List CertTaken) (item : Item) (made : Made (Unit {0}) Said)
    → made_by cert_tables tt (alone (first ∷ taken)) item ≡ Ok made → IsMade item made
unfolding same
made_is first taken item made is =
    let word = word_of item.keyword in
    let open_ = alone (first ∷ taken) in
    let here : by_keyword cert_tables tt open_ item word ≡ Ok made =
    sym (ap (λ (f : Option FrameFault). unless_fault f (by_keyword cert_tables tt open_ item word))
    (never_beyond (first ∷ taken) item word)) ∙ is in
    by word here
  where
    passes : order_if item.place false ≡ Ok made → IsMade item made
    passes is = subst (λ (m : Made (Unit {0}) Said). IsMade item m) (ap made_or is) tt

    by_known : (t : Bool) → order_if item.place t ≡ Ok made → IsMade item made
    by_known true is = absurd (cc is)
    by_known false is = passes is

    by_row_is : (keyword : Keyword) (found : Option (Row CertKind)) → row_of alone_rows keyword ≡ found
        → by_row cert_tables tt (alone (first ∷ taken)) item keyword found ≡ Ok made → IsMade item made
    by_row_is keyword None e is = by_known (is_strange cert_tables tt keyword) is
    by_row_is keyword (Some row) e is =
        in_section_is row (first ∷ taken) item made
        (found_has IsLastRow (λ (r : Row CertKind). same r.keyword keyword) alone_rows row last_rows e) is

    by : (word : Option Keyword) → by_keyword cert_tables tt (alone (first ∷ taken)) item word ≡ Ok made
        → IsMade item made
    by None is = passes is
    by (Some keyword) is = by_row_is keyword (row_of alone_rows keyword) refl is

-- ---- its end

found_last : {A : Type 0} (p : A → Bool) (l : List A) (a : A) → p a ≡ true → is_some (find p (l ++ a ∷ [])) ≡ true
found_last p [] a is = ap (λ (t : Bool). is_some (if t then Some a else None)) is
found_last p (b ∷ l) a is = by (p b) (found_last p l a is)
  where
    by : (t : Bool) → is_some (find p (l ++ a ∷ [])) ≡ true
        → is_some (if t then Some b else find p (l ++ a ∷ [])) ≡ true
    by true more = refl
    by false more = more

is_keyword_if : (found : Option (Row CertKind)) → is_some found ≡ is_some (keyword_if found)
is_keyword_if None = refl
is_keyword_if (Some row) = refl

abbrev rows_before : List (Row CertKind)
rows_before =
    row the.DirKeyCertificateVersion One Version
    ∷ row the.DirAddress Optional Address
    ∷ row the.Fingerprint One Fingerprint
    ∷ row the.DirIdentityKey One Key
    ∷ row the.DirKeyPublished One Time
    ∷ row the.DirKeyExpires One Time
    ∷ row the.DirSigningKey One Key
    ∷ row the.DirKeyCrosscert One Crosscert
    ∷ []

abbrev last_row : Row CertKind
last_row = row the.DirKeyCertification One Certification

-- where its last item does not stand, it lacks one
pub lacks : (taken : List CertTaken) → stands the.DirKeyCertification taken ≡ false
    → is_some (lacking_keyword alone_rows taken) ≡ true
lacks taken is =
    let found =
    found_last (λ (row : Row CertKind). is_one row.count && not (stands row.keyword taken)) rows_before last_row
    (ap not is) in
    sym (is_keyword_if (find (λ (row : Row CertKind). is_one row.count && not (stands row.keyword taken)) alone_rows))
    ∙ found
