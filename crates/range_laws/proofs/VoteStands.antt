-- What stands in a section of a vote says what the row of its keyword has, and so what is kept of it is in range.
use Rattle.std.proofs.Common.{◌≡◌, ℕ, Bool, true, false, List, [], ◌∷◌, Option, Some, None, refl, sym, ap, ◌∙◌, Result}
use Rattle.std.{proofs.{Common.{Ok, inl, inr}, lemmas.Bool.false≢true}, specs.Prelude.{IfSome, is_some, option_map}}
use Rattle.std.specs.Prelude.{if◌then◌else◌}
use Rattle.base64.specs.GeneralPurpose.{IsBytes}
use Rattle.frame_terms.specs.declared.{document.Taken.Taken, fault.FrameFault.FrameFault, keyword.Keyword.Keyword}
use Rattle.frame_terms.specs.{declared.row.Row.Row, Keywords.same, Order.{inner, opener}, Sections.row_of}
use Rattle.frame_terms.specs.Tables.{Tables}
use Rattle.frame_terms.specs.declared.keyword.Keyword.TheVariants as the
use Rattle.frame_values.specs.{Parts.part, Values.{item_at, text_if}, declared.values.Value.Value}
use Rattle.frame_laws.proofs.KnownWords.{same-sym}
use Rattle.vote_frame.specs.{Tables.vote_tables, declared.frame.{VoteKind.VoteKind, VoteSection.VoteSection}}
use Rattle.vote_frame.specs.declared.frame.VoteValue.{VoteValue}
use Rattle.vote_frame.specs.declared.frame.VoteSection.TheVariants as section
use Rattle.document_laws.specs.{Items.IsItemIn, Order.BeginsWithOpener}
use Rattle.row_laws.proofs.{KindRanges.{IsNotInside, field_is}, Saying.{EachStands, Says, Stands, of_row}}
use Rattle.range_laws.proofs.VoteReads.{TextsAre, VoteIs, VoteSays}

abbrev pub VoteTaken : Type 0
VoteTaken = Taken (Value VoteValue)

-- an item of the input stands in a section
abbrev pub VoteStands : List ℕ → VoteSection → VoteTaken → Type 0
VoteStands bytes name one = Stands vote_tables bytes name one

-- each of these does
abbrev pub EachVoteStands : List ℕ → VoteSection → List VoteTaken → Type 0
EachVoteStands bytes name taken = EachStands vote_tables bytes name taken

-- ---- a section inside another

-- it is the certificate, which begins with its opener
pub only_certificates : (around : VoteSection) (keyword : Keyword) (name : VoteSection)
    → inner vote_tables around keyword ≡ Some name
    → (name ≡ section.Certificate) × (same the.DirKeyCertificateVersion keyword ≡ true)
only_certificates section.Preamble keyword name e = absurd (cc (e))
only_certificates section.Authority keyword name e = by (same the.DirKeyCertificateVersion keyword) refl e
  where
    by : (t : Bool) → same the.DirKeyCertificateVersion keyword ≡ t
        → (if t then Some section.Certificate else None) ≡ Some name
        → (name ≡ section.Certificate) × (same the.DirKeyCertificateVersion keyword ≡ true)
    by true is found = (cc, is)
    by false is found = absurd (cc (found))
only_certificates section.Certificate keyword name e = absurd (cc (e))
only_certificates section.Entry keyword name e = absurd (cc (e))
only_certificates section.Footer keyword name e = absurd (cc (e))

-- so none begins another
apart : (name : VoteSection) → (name ≡ section.Certificate → ⊥) → (keyword : Keyword)
    → IsNotInside vote_tables name keyword
apart name other keyword around one named begins = other (only_certificates around one name begins).0

-- ---- items by their keywords

-- what an item says by the row of its keyword, in another section than the certificate's
pub stands_for : (bytes : List ℕ) (name : VoteSection) (one : VoteTaken) (keyword : Keyword) (own_row : Row VoteKind)
    → (name ≡ section.Certificate → ⊥) → row_of (vote_tables.rows name) keyword ≡ Some own_row
    → VoteStands bytes name one → same one.keyword keyword ≡ true → VoteSays bytes own_row.kind one.value
stands_for bytes name one keyword own_row other there stands named =
    of_row vote_tables bytes name one keyword own_row
    (λ around begins. other (only_certificates around one.keyword name begins).0) there stands named

abbrev as_read : {V : Type 0} → V → Result V FrameFault
as_read v = Ok v

-- an item says what one of the kinds has, whichever, whatever the tables
pub any_says : {S K V X : Type 0} {tables : Tables S K V X} {bytes : List ℕ} {name : S} {one : Taken V}
    → Stands tables bytes name one → (of : K) × Says tables bytes of one.value
any_says {K = K} {V = V} {tables = tables} {bytes = bytes} {name = name} {one = one} stands = by stands.within
  where
    by : IsItemIn tables stands.remembered name stands.item one → (of : K) × Says tables bytes of one.value
    by (inl is) = (
      is.row.kind,
      record {
        remembered = stands.remembered;
        item = stands.item;
        sound = stands.sound;
        says = is.says ∙ ap (λ (o : Taken V). as_read o.value) (sym is.stands);
      },
    )
    by (inr is) = (
      is.taken.row.kind,
      record {
        remembered = stands.remembered;
        item = stands.item;
        sound = stands.sound;
        says = is.taken.says ∙ ap (λ (o : Taken V). as_read o.value) (sym is.taken.stands);
      },
    )

-- the opener of a section is there
pub opener_found : (name : VoteSection) (taken : List VoteTaken) → BeginsWithOpener vote_tables name taken
    → is_some (item_at taken (opener vote_tables name)) ≡ true
opener_found name [] begins = absurd begins
opener_found name (first ∷ taken) begins =
    by (same first.keyword (opener vote_tables name)) (same-sym first.keyword (opener vote_tables name) ∙ begins)
  where
    by : (t : Bool) → t ≡ true
        → is_some (if t then Some first else item_at taken (opener vote_tables name)) ≡ true
    by true is = refl
    by false is = absurd (cc (is))

pub opener_there : (name : VoteSection) (taken : List VoteTaken) → BeginsWithOpener vote_tables name taken
    → item_at taken (opener vote_tables name) ≡ None → ⊥
opener_there name taken begins none =
    false≢true (sym (ap is_some none) ∙ opener_found name taken begins)

-- ---- what is kept of an item

-- a section that was read of bytes, and is no certificate
pub record IsReadSection (bytes : List ℕ) (name : VoteSection) (taken : List VoteTaken) : Type 0 where
  pub are : IsBytes bytes
  pub other : name ≡ section.Certificate → ⊥
  pub each : EachVoteStands bytes name taken

module _ {bytes : List ℕ} {name : VoteSection} {taken : List VoteTaken} (here : IsReadSection bytes name taken) where
  -- what is kept of the item of a keyword is such as its kind says
  pub kept_is : {A B : Type 0} {of : A → Value VoteValue} {Is : List ℕ → A → Type 0} {own : Row VoteKind}
      (keyword : Keyword) → row_of (vote_tables.rows name) keyword ≡ Some own → VoteIs own.kind of Is
      → (get : Option VoteTaken → B) (P : B → Type 0) → (item_at taken keyword ≡ None → P (get None))
      → ((one : VoteTaken) (a : A) → Is bytes a → P (get (Some (record one { value = of a }))))
      → P (get (item_at taken keyword))
  kept_is {own = own} keyword there kind get P none some =
      field_is vote_tables bytes here.are name taken here.each keyword own there (apart name here.other keyword) kind get
      P none some

  -- so is its text, where there is one
  pub text_is : {own : Row VoteKind} (P : List ℕ → Type 0) (keyword : Keyword)
      → row_of (vote_tables.rows name) keyword ≡ Some own → TextsAre own.kind P
      → IfSome (option_map (part bytes) (text_if (item_at taken keyword))) P
  text_is P keyword there texts =
      kept_is keyword there texts (λ o. option_map (part bytes) (text_if o)) (λ o. IfSome o P) (λ none. tt)
      (λ one span is. is)
