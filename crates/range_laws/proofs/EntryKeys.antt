-- No two sections of a vote say one Ed25519 key.
use Rattle.std.proofs.Common.{◌≡◌, ◌⊎◌, ℕ, Bool, true, false, List, [], ◌∷◌, ◌++◌, Option, Some, None, Ok, refl, sym}
use Rattle.std.{proofs.{Common.{ap, ◌∙◌, inl, inr}, lemmas.Bool.false≢true}, specs.Prelude.if◌then◌else◌}
use Rattle.item_terms.specs.{declared.fault.DocFault.DocFault, Items.{Contents, Item}}
use Rattle.frame_terms.specs.{declared.{document.Open.Open, keyword.Keyword.Keyword, row.Row.Row}, Documents.Document}
use Rattle.frame_terms.specs.{Documents.{document_of, group}, Keywords.same, Order.{inner, opener}, Sections.row_of}
use Rattle.frame_terms.specs.declared.keyword.Keyword.TheVariants as the
use Rattle.frame_values.specs.{Values.{item_at, own_of_value}, declared.values.Value.Value}
use Rattle.frame_values.specs.declared.values.Value.TheVariants as value
use Rattle.frame_laws.proofs.KnownWords.{same-through}
use Rattle.relay_entries.specs.declared.said.EdOpinion.{EdOpinion}
use Rattle.relay_entries.specs.declared.said.EdOpinion.TheVariants as opinion
use Rattle.relay_entries.specs.declared.said.EntryValue.TheVariants as entry_said
use Rattle.vote_frame.specs.declared.{across.Across.Across, frame.{VoteKind.VoteKind, VoteSection.VoteSection}}
use Rattle.vote_frame.specs.{declared.frame.VoteValue.VoteValue, Tables.vote_tables}
use Rattle.vote_frame.specs.declared.frame.VoteSection.TheVariants as section
use Rattle.vote_frame.specs.declared.frame.VoteValue.TheVariants as own
use Rattle.vote_entries.specs.Saying.{ed_in, ed_of_value}
use Rattle.document_laws.{specs.Items.IsItemOf, proofs.{Openers.{row_of-one, row_of-same}, Rules.{Rules, holds}}}
use Rattle.range_laws.proofs.{EntryRoom.VoteGroup, Noting.{HasKey, IsKeyOf, key_noted, keys_stay}, VoteStands.VoteTaken}
use Rattle.range_laws.proofs.VoteStands.{only_certificates}

-- the key that a section says
abbrev pub SaysKey : List VoteTaken → List ℕ → Type 0
SaysKey taken key = ed_in (item_at taken the.Id) ≡ opinion.Key key

-- no section of these says a key
abbrev pub NoneSays : List ℕ → List VoteGroup → Type 0
NoneSays key [] = Unit {0}
NoneSays key (g ∷ groups) = (SaysKey g.taken key → ⊥) × NoneSays key groups

-- no two of these say one key
abbrev pub AreApart : List VoteGroup → Type 0
AreApart [] = Unit {0}
AreApart (g ∷ groups) = ((key : List ℕ) → SaysKey g.taken key → NoneSays key groups) × AreApart groups

-- ---- the item of a key

-- no item of it stands
abbrev HasNone : List VoteTaken → Type 0
HasNone taken = item_at taken the.Id ≡ None

none_says : (taken : List VoteTaken) (key : List ℕ) → HasNone taken → SaysKey taken key → ⊥
none_says taken key none says = absurd (cc (sym (ap ed_in none) ∙ says))

key_value : (v : Value VoteValue) (key : List ℕ) → ed_of_value (own_of_value v) ≡ opinion.Key key
    → v ≡ value.Own (own.Entry (entry_said.Ed (opinion.Key key)))
key_value (value.Own (own.Entry (entry_said.Ed said))) key is =
    ap (λ (o : EdOpinion). value.Own (own.Entry (entry_said.Ed o))) is
key_value _ key is = absurd (cc (is))

-- what one more item adds
key_more : (taken : List VoteTaken) (one : VoteTaken) (key : List ℕ) → SaysKey (taken ++ one ∷ []) key
    → SaysKey taken key ⊎ IsKeyOf one key
key_more [] one key says = by (same one.keyword the.Id) says
  where
    by : (t : Bool) → ed_in (if t then Some one else None) ≡ opinion.Key key → SaysKey [] key ⊎ IsKeyOf one key
    by true is = inr (key_value one.value key is)
    by false is = inl is
key_more (first ∷ taken) one key says = by (same first.keyword the.Id) says (key_more taken one key)
  where
    by : (t : Bool) → ed_in (if t then Some first else item_at (taken ++ one ∷ []) the.Id) ≡ opinion.Key key
        → (SaysKey (taken ++ one ∷ []) key → SaysKey taken key ⊎ IsKeyOf one key)
        → (ed_in (if t then Some first else item_at taken the.Id) ≡ opinion.Key key) ⊎ IsKeyOf one key
    by true is more = inl is
    by false is more = more is

none_more : (taken : List VoteTaken) (one : VoteTaken) → HasNone taken → same one.keyword the.Id ≡ false
    → HasNone (taken ++ one ∷ [])
none_more [] one none other = ap (λ (t : Bool). if t then Some one else None) other
none_more (first ∷ taken) one none other =
    by (same first.keyword the.Id) none (λ rest. none_more taken one rest other)
  where
    by : (t : Bool) → (if t then Some first else item_at taken the.Id) ≡ None
        → (HasNone taken → HasNone (taken ++ one ∷ []))
        → (if t then Some first else item_at (taken ++ one ∷ []) the.Id) ≡ None
    by true is more = absurd (cc (is))
    by false is more = more is

-- ---- the keyword of an item

-- the first item of a section says no key
opener_other : (name : VoteSection) → same (opener vote_tables name) the.Id ≡ false
unfolding same
opener_other section.Preamble = refl
opener_other section.Authority = refl
opener_other section.Certificate = refl
opener_other section.Entry = refl
opener_other section.Footer = refl

not_opener : (name : VoteSection) (keyword : Keyword) → same (opener vote_tables name) keyword ≡ true
    → same keyword the.Id ≡ false
not_opener name keyword opens =
    sym (same-through (opener vote_tables name) keyword the.Id opens) ∙ opener_other name

none_of_first : (one : VoteTaken) → same one.keyword the.Id ≡ false → HasNone (one ∷ [])
none_of_first one other = ap (λ (t : Bool). if t then Some one else None) other

-- it has no row but in an entry
no_row : (name : VoteSection) → (name ≡ section.Entry → ⊥) → row_of (vote_tables.rows name) the.Id ≡ None
unfolding same
no_row section.Preamble other = refl
no_row section.Authority other = refl
no_row section.Certificate other = refl
no_row section.Entry other = absurd (other refl)
no_row section.Footer other = refl

not_key : (name : VoteSection) (across : Across) (item : Item) (one : VoteTaken) → (name ≡ section.Entry → ⊥)
    → IsItemOf vote_tables across name item one → same one.keyword the.Id ≡ false
not_key name across item one other t = by (same one.keyword the.Id) refl
  where
    rows : List (Row VoteKind)
    rows = vote_tables.rows name

    has : same one.keyword the.Id ≡ true → Some t.row ≡ None
    has is =
        let its : same t.row.keyword the.Id ≡ true =
        ap (λ (o : VoteTaken). same o.keyword the.Id) (sym t.stands) ∙ is in
        let word : same t.keyword the.Id ≡ true =
        sym (same-through t.row.keyword t.keyword the.Id (row_of-same rows t.keyword t.row t.has_row)) ∙ its in
        sym t.has_row ∙ row_of-one rows t.keyword the.Id word ∙ no_row name other

    by : (t : Bool) → same one.keyword the.Id ≡ t → t ≡ false
    by true is = absurd (cc (has is))
    by false is = refl

-- ---- what is shown of the rest of a vote

-- none is said in the section around
abbrev AroundHasNone : Option VoteGroup → Type 0
AroundHasNone None = Unit {0}
AroundHasNone (Some outer) = HasNone outer.taken

-- the key of the open section is remembered; there is none but in an entry, and none in the section around
record IsOpen (across : Across) (name : VoteSection) (taken : List VoteTaken) (around : Option VoteGroup) : Type 0 where
  known : (key : List ℕ) → SaysKey taken key → HasKey across.listed key
  quiet : (name ≡ section.Entry → ⊥) → HasNone taken
  outer : AroundHasNone around

-- of the keys that are remembered, none but the open section's is said; and no two sections say one
record HasFresh (across : Across) (taken : List VoteTaken) (groups : List VoteGroup) : Type 0 where
  fresh : (key : List ℕ) → HasKey across.listed key → (SaysKey taken key → ⊥) → NoneSays key groups
  apart : AreApart groups

abbrev Rest : Across → Open VoteSection (Value VoteValue) → List Item → Document VoteSection (Value VoteValue) → Type 0
Rest across open_ items document =
    IsOpen across open_.section open_.taken open_.around → HasFresh across open_.taken document.groups

-- the section alone
alone_fresh : (across : Across) (name : VoteSection) (taken : List VoteTaken)
    → HasFresh across taken (group name taken ∷ [])
alone_fresh across name taken = record {
  fresh = λ key has other. (other, tt);
  apart = (λ key says. tt, tt);
}

module _ (before after : Across) (one : VoteTaken) (note : vote_tables.note before one ≡ Ok after) where
  -- a key that is remembered is not said once more
  more_says : (taken : List VoteTaken) (key : List ℕ) → HasKey before.listed key → (SaysKey taken key → ⊥)
      → SaysKey (taken ++ one ∷ []) key → ⊥
  more_says taken key has other says = by (key_more taken one key says)
    where
      by : SaysKey taken key ⊎ IsKeyOf one key → ⊥
      by (inl is) = other is
      by (inr is) = false≢true (sym (key_noted before after one note key is).0 ∙ has)

  -- and one that is said is remembered
  more_known : (taken : List VoteTaken) → ((key : List ℕ) → SaysKey taken key → HasKey before.listed key) → (key : List ℕ)
      → SaysKey (taken ++ one ∷ []) key → HasKey after.listed key
  more_known taken known key says = by (key_more taken one key says)
    where
      by : SaysKey taken key ⊎ IsKeyOf one key → HasKey after.listed key
      by (inl is) = keys_stay before after one note key (known key is)
      by (inr is) = (key_noted before after one note key is).1

  -- a section that begins with the item
  first_open : (name : VoteSection) (around : Option VoteGroup) → same one.keyword the.Id ≡ false
      → AroundHasNone around → IsOpen after name (one ∷ []) around
  first_open name around other quiet = record {
    known = λ key says. absurd (none_says (one ∷ []) key (none_of_first one other) says);
    quiet = λ is. none_of_first one other;
    outer = quiet;
  }

  -- a section in front of those that follow, whose first item says no key
  behind_fresh : (name : VoteSection) (taken next : List VoteTaken) (groups : List VoteGroup) → HasNone next
      → ((key : List ℕ) → SaysKey taken key → HasKey before.listed key) → HasFresh after next groups
      → HasFresh before taken (group name taken ∷ groups)
  behind_fresh name taken next groups none known is = record {
    fresh = λ key has other.
        (other, is.fresh key (keys_stay before after one note key has) (none_says next key none));
    apart = (
      λ key says. is.fresh key (keys_stay before after one note key (known key says)) (none_says next key none),
      is.apart,
    );
  }

-- a section that has another inside
enters_other : (name inside : VoteSection) (keyword : Keyword) → inner vote_tables name keyword ≡ Some inside
    → (name ≡ section.Entry → ⊥) × (same (opener vote_tables section.Certificate) keyword ≡ true)
enters_other section.Authority inside keyword begins =
    (λ e. absurd (cc (e)), (only_certificates section.Authority keyword inside begins).1)
enters_other section.Preamble inside keyword begins = absurd (cc (begins))
enters_other section.Certificate inside keyword begins = absurd (cc (begins))
enters_other section.Entry inside keyword begins = absurd (cc (begins))
enters_other section.Footer inside keyword begins = absurd (cc (begins))

fresh_keys : (length : ℕ) (fault : Option DocFault) → Rules vote_tables length fault Rest
fresh_keys length fault = record {
  closes = λ across name taken around missing no_fault is. alone_fresh across name taken;
  passes = λ across open_ item items document may rest is. rest is;
  starts = λ across next item items document one may note rest is.
      let other = not_opener section.Preamble one.keyword may.opens in
      let more = rest (first_open across next one note section.Preamble None other tt) in
      record {
        fresh = λ key has none.
            more.fresh key (keys_stay across next one note key has)
            (none_says (one ∷ []) key (none_of_first one other));
        apart = more.apart;
      };
  adds = λ across next name first taken around item items document one may note rest is.
      let all = first ∷ taken in
      let more = rest (record {
        known = more_known across next one note all is.known;
        quiet = λ no_entry. none_more all one (is.quiet no_entry) (not_key name across item one no_entry may.accepted.taken);
        outer = is.outer;
      }) in
      record {
        fresh = λ key has none.
            more.fresh key (keys_stay across next one note key has) (more_says across next one note all key has none);
        apart = more.apart;
      };
  opens = λ across next name first taken around other item items document one may note rest is.
      let quiet = not_opener other one.keyword may.opens in
      behind_fresh across next one note name (first ∷ taken) (one ∷ []) document.groups (none_of_first one quiet)
      is.known (rest (first_open across next one note other around quiet is.outer));
  enters = λ across next name first taken around inside item items document one may note rest is.
      let begins = enters_other name inside one.keyword may.begins in
      let quiet = not_opener section.Certificate one.keyword begins.1 in
      let all = first ∷ taken in
      let around_none = none_more all one (is.quiet begins.0) quiet in
      let more = rest (first_open across next one note inside (Some (group name (all ++ one ∷ []))) quiet around_none) in
      record {
        fresh = λ key has none.
            more.fresh key (keys_stay across next one note key has)
            (none_says (one ∷ []) key (none_of_first one quiet));
        apart = more.apart;
      };
  leaves = λ across next name first taken outer item items document one may note rest is.
      let all = first ∷ taken in
      let more = rest (record {
        known = λ key says. absurd (none_says outer.taken key is.outer says);
        quiet = λ no_entry. is.outer;
        outer = tt;
      }) in
      record {
        fresh = λ key has none. (
          more_says across next one note all key has none,
          more.fresh key (keys_stay across next one note key has) (none_says outer.taken key is.outer),
        );
        apart = (
          λ key says.
              more.fresh key (more_known across next one note all is.known key says) (none_says outer.taken key is.outer),
          more.apart,
        );
      };
  ends = λ across next name first taken item items one may note is.
      record {
        fresh = λ key has none. (more_says across next one note (first ∷ taken) key has none, tt);
        apart = (λ key says. tt, tt);
      };
  stops = λ across name first taken around item items may is. alone_fresh across name (first ∷ taken);
}

-- of a document that is read
pub keys_apart : (length : ℕ) (contents : Contents) (document : Document VoteSection (Value VoteValue))
    → document_of vote_tables length contents ≡ Ok document → AreApart document.groups
keys_apart length contents document e =
    (holds vote_tables length Rest contents (fresh_keys length contents.fault) document e (record {
      known = λ key says. absurd (cc (says));
      quiet = λ no_entry. refl;
      outer = tt;
    })).apart
