-- The fields of a microdescriptor as a table, and what is kept with places is what they say.
use Rattle.std.proofs.Common.{◌≡◌, ℕ, List, [], ◌∷◌, ◌++◌, Option, Some, None, refl, ap, ◌∙◌, append-nil, arith, true}
use Rattle.std.{proofs.lemmas.List.Elements.{All-cons, All-nil}, specs.Prelude.{All, IfSome, map}}
use Rattle.std.specs.Option.{option_and_then, option_map, option_to_list}
use Rattle.dir_bytes.specs.FieldTexts.{base64_text}
use Rattle.item_terms.specs.Words.{words_of}
use Rattle.dirdoc_grammar.specs.{Writing.NewItem, Writers.is_argument}
use Rattle.frame_terms.specs.{Keywords.same, Rows.row, declared.{document.Taken.Taken, keyword.Keyword.Keyword}}
use Rattle.frame_terms.specs.declared.row.{Count.TheVariants.{One, Optional}, Row.Row}
use Rattle.frame_terms.specs.declared.keyword.Keyword.TheVariants as the
use Rattle.frame_values.specs.{Items.{bare, item_if}, Values.text_if, Parts.{bytes_in, part}}
use Rattle.frame_values.specs.declared.values.Value.{Value}
use Rattle.frame_values.specs.declared.values.Value.TheVariants as value
use Rattle.frame_laws.proofs.{Words.words_of-join, Both.both_hold}
use Rattle.descriptor_doc.specs.Descriptors.{words_in}
use Rattle.descriptor_frame.specs.Families.{family_text}
use Rattle.micro_desc.specs.{Heads.{ItemIf, head_of, id_in, key_in, onion_key_in}, Micros.micro_in, Tables.micro_tables}
use Rattle.micro_desc.specs.{Texts.{id_items, id_text, micro_items, onion_key_item}, declared.micro.Micro.Micro}
use Rattle.micro_desc.specs.declared.said.{MicroId.MicroId, MicroKind.MicroKind, MicroValue.MicroValue}
use Rattle.micro_desc.specs.declared.said.MicroKind.TheVariants as kind
use Rattle.micro_desc.specs.declared.said.MicroValue.TheVariants as own
use Rattle.row_laws.proofs.{Again.{IsOneSection, document_items, document_rows}, Lookups.{first_said, looked_up}}
use Rattle.row_laws.proofs.{Lookups.say_if, Spoken.{Field, Spoken, SpokenRow, field_rows, rows_at, new_item, spoken}}
use Rattle.row_laws.proofs.{Spoken.spoken_of, FoundRows.{EachFound, each_found, first_is, first_of}, Sayings.AreSpoken}
use Rattle.row_laws.proofs.Sayings.{MayBeSaid}
use Rattle.descriptor_laws.{specs.{Ranges.AreBytes, MicroRanges.{IsIdInRange, SaysInRange}}, proofs.MicroKinds.IsRead}
use Rattle.descriptor_laws.proofs.MicroKinds.{MayWrite, Saying, a_key, an_id, laws, meaning, onion, said, text, write}

abbrev pub first_row : Row MicroKind
first_row = row the.OnionKey One kind.OnionKey

abbrev pub opens : Micro → Saying
opens micro = onion micro.onion_key

-- a field that may stand
abbrev at_most : {A : Type 0} → Keyword → MicroKind → (A → Saying) → (Micro → Option A) → Field Micro MicroKind Saying
at_most keyword k put get =
    record { row = row keyword Optional k; values = λ micro. option_to_list (option_map put (get micro)) }

abbrev pub fields : List (Field Micro MicroKind Saying)
fields =
    at_most the.NtorOnionKey kind.Key a_key (λ micro. micro.ntor_onion_key)
    ∷ at_most the.Family kind.Rest (λ l. text (family_text l)) (λ micro. micro.family)
    ∷ at_most the.FamilyIds kind.Rest text (λ micro. micro.family_ids)
    ∷ at_most the.P kind.Rest text (λ micro. micro.p)
    ∷ at_most the.P6 kind.Rest text (λ micro. micro.p6)
    ∷ at_most the.Id kind.Id an_id (λ micro. micro.id)
    ∷ []

abbrev pub others : Micro → List (SpokenRow MicroKind Saying)
others d = rows_at d fields

pub table : IsOneSection micro_tables first_row (field_rows fields)
unfolding same
table = record {
  table = refl;
  apart = refl;
  plain = refl;
  begins = record { begins = refl; row_there = refl };
  ends = refl;
  forgets = λ across one. refl;
}

-- ---- what it says

abbrev onion_got : Saying → Option (List ℕ)
onion_got (onion o) = o
onion_got _ = None

abbrev key_got : Saying → Option (List ℕ)
key_got (a_key b) = Some b
key_got _ = None

abbrev text_got : Saying → Option (List ℕ)
text_got (text t) = Some t
text_got _ = None

abbrev id_got : Saying → Option MicroId
id_got (an_id i) = Some i
id_got _ = None

abbrev pub facts_of : List (Spoken Saying) → Micro
facts_of all = record {
  onion_key = option_and_then onion_got (first_said all the.OnionKey);
  ntor_onion_key = option_and_then key_got (first_said all the.NtorOnionKey);
  family = option_map words_of (option_and_then text_got (first_said all the.Family));
  family_ids = option_and_then text_got (first_said all the.FamilyIds);
  p = option_and_then text_got (first_said all the.P);
  p6 = option_and_then text_got (first_said all the.P6);
  id = option_and_then id_got (first_said all the.Id);
}

-- ---- what is kept with places is that

module _ (bytes : List ℕ) where
  onion_same : (o : ItemIf) → option_map (bytes_in bytes) (onion_key_in o) ≡ option_and_then onion_got
      (say_if (said bytes) o)
  onion_same None = refl
  onion_same (Some one) = by one.value
    where
      by : (v : Value MicroValue) → option_map (bytes_in bytes) (onion_key_in (Some (record one { value = v })))
          ≡ onion_got (said bytes v)
      by (value.Own (own.OnionKey None)) = refl
      by (value.Own (own.OnionKey (Some s))) = refl
      by _ = refl

  key_same : (o : ItemIf) → key_in o ≡ option_and_then key_got (say_if (said bytes) o)
  key_same None = refl
  key_same (Some one) = by one.value
    where
      by : (v : Value MicroValue) → key_in (Some (record one { value = v })) ≡ key_got (said bytes v)
      by (value.Own (own.Key b)) = refl
      by (value.Own (own.Id i)) = refl
      by _ = refl

  text_same : (o : ItemIf) → option_map (part bytes) (text_if o) ≡ option_and_then text_got (say_if (said bytes) o)
  text_same None = refl
  text_same (Some one) = by one.value
    where
      by : (v : Value MicroValue) → option_map (part bytes) (text_if (Some (record one { value = v }))) ≡ text_got
          (said bytes v)
      by (value.Own (own.Key b)) = refl
      by (value.Own (own.Id i)) = refl
      by _ = refl

  words_same : (o : ItemIf) → option_map (words_in bytes) (text_if o)
      ≡ option_map words_of (option_and_then text_got (say_if (said bytes) o))
  words_same None = refl
  words_same (Some one) = by one.value
    where
      by : (v : Value MicroValue) → option_map (words_in bytes) (text_if (Some (record one { value = v })))
          ≡ option_map words_of (text_got (said bytes v))
      by (value.Own (own.Key b)) = refl
      by (value.Own (own.Id i)) = refl
      by _ = refl

  id_same : (o : ItemIf) → id_in o ≡ option_and_then id_got (say_if (said bytes) o)
  id_same None = refl
  id_same (Some one) = by one.value
    where
      by : (v : Value MicroValue) → id_in (Some (record one { value = v })) ≡ id_got (said bytes v)
      by (value.Own (own.Key b)) = refl
      by (value.Own (own.Id i)) = refl
      by _ = refl

  pub kept_same : (taken : List (Taken (Value MicroValue))) → micro_in bytes (head_of taken)
      ≡ facts_of (map (λ (one : Taken (Value MicroValue)). spoken one.keyword (said bytes one.value)) taken)
  kept_same taken = λ i. record {
    onion_key = looked_up (said bytes) (λ o. option_map (bytes_in bytes) (onion_key_in o)) (option_and_then onion_got)
        onion_same taken the.OnionKey i;
    ntor_onion_key = looked_up (said bytes) key_in (option_and_then key_got) key_same taken the.NtorOnionKey i;
    family = looked_up (said bytes) (λ o. option_map (words_in bytes) (text_if o))
        (λ o. option_map words_of (option_and_then text_got o)) words_same taken the.Family i;
    family_ids = looked_up (said bytes) (λ o. option_map (part bytes) (text_if o))
        (option_and_then text_got) text_same taken the.FamilyIds i;
    p = looked_up (said bytes) (λ o. option_map (part bytes) (text_if o))
        (option_and_then text_got) text_same taken the.P i;
    p6 = looked_up (said bytes) (λ o. option_map (part bytes) (text_if o))
        (option_and_then text_got) text_same taken the.P6 i;
    id = looked_up (said bytes) id_in (option_and_then id_got) id_same taken the.Id i;
  }

-- ---- what was written says what it said

abbrev pub rows_of : Micro → List (SpokenRow MicroKind Saying)
rows_of micro = document_rows micro_tables meaning MayWrite IsRead laws first_row opens others (field_rows fields)
    (λ d. refl) table micro

abbrev pub items_of : Micro → List NewItem
items_of micro = document_items micro_tables meaning MayWrite IsRead laws first_row opens others (field_rows fields)
    (λ d. refl) table micro

got_back : {A : Type 0} (put : A → Saying) (got : Saying → Option A) (a : Option A) → ((a : A) → got (put a) ≡ Some a)
    → option_and_then got (first_of (option_to_list (option_map put a))) ≡ a
got_back put got None back = refl
got_back put got (Some a) back = back a

family_back : (l : Option (List (List ℕ))) → IfSome l (λ one. All (λ relay. is_argument relay ≡ true) one)
    → option_map words_of (option_and_then text_got (first_of (option_to_list
    (option_map (λ (l : List (List ℕ)). text (family_text l)) l)))) ≡ l
family_back None is = refl
family_back (Some l) is = ap (λ (l : List (List ℕ)). Some l) (words_of-join l is)

pub facts_again : (micro : Micro) → SaysInRange micro → facts_of (spoken_of (λ k s. s) (rows_of micro)) ≡ micro
unfolding same
facts_again micro are =
    let all = spoken_of (λ k s. s) (rows_of micro) in
    let found : EachFound all (rows_of micro) = each_found (rows_of micro) refl in
    λ i. record {
      onion_key = micro.onion_key;
      ntor_onion_key = (ap (option_and_then key_got) (first_is all the.NtorOnionKey ∙ ap first_of found.1.0)
          ∙ got_back a_key key_got micro.ntor_onion_key (λ a. refl)) i;
      family = (ap (λ o. option_map words_of (option_and_then text_got o))
          (first_is all the.Family ∙ ap first_of found.1.1.0)
          ∙ family_back micro.family are.family) i;
      family_ids = (ap (option_and_then text_got) (first_is all the.FamilyIds ∙ ap first_of found.1.1.1.0)
          ∙ got_back text text_got micro.family_ids (λ a. refl)) i;
      p = (ap (option_and_then text_got) (first_is all the.P ∙ ap first_of found.1.1.1.1.0)
          ∙ got_back text text_got micro.p (λ a. refl)) i;
      p6 = (ap (option_and_then text_got) (first_is all the.P6 ∙ ap first_of found.1.1.1.1.1.0)
          ∙ got_back text text_got micro.p6 (λ a. refl)) i;
      id = (ap (option_and_then id_got) (first_is all the.Id ∙ ap first_of found.1.1.1.1.1.1.0)
          ∙ got_back an_id id_got micro.id (λ a. refl)) i;
    }

-- ---- its items

if_items : {A : Type 0} (keyword : Keyword) (k : MicroKind) (put : A → Saying) (text_of : A → List ℕ) (a : Option A)
    → ((a : A) → new_item keyword (write k (put a)) ≡ bare keyword (text_of a))
    → map (λ (s : Saying). new_item keyword (write k s)) (option_to_list (option_map put a))
    ≡ item_if keyword (option_map text_of a)
if_items keyword k put text_of None is = refl
if_items keyword k put text_of (Some a) is = ap (λ (i : NewItem). i ∷ []) (is a)

text_items : (keyword : Keyword) (t : Option (List ℕ))
    → map (λ (s : Saying). new_item keyword (write kind.Rest s)) (option_to_list (option_map text t))
    ≡ item_if keyword t
text_items keyword None = refl
text_items keyword (Some t) = refl

pub onion_item : (k : Option (List ℕ)) → new_item the.OnionKey (write kind.OnionKey (onion k)) ≡ onion_key_item k
onion_item None = refl
onion_item (Some k) = refl

pub same_items : (micro : Micro) → items_of micro ≡ micro_items micro
same_items micro = λ i.
    onion_item micro.onion_key i
    ∷ (if_items the.NtorOnionKey kind.Key a_key base64_text micro.ntor_onion_key (λ a. refl) i
    ++ (if_items the.Family kind.Rest (λ l. text (family_text l)) family_text micro.family (λ a. refl) i
    ++ (text_items the.FamilyIds micro.family_ids i
    ++ (text_items the.P micro.p i
    ++ (text_items the.P6 micro.p6 i
    ++ (ap (λ (l : List NewItem). l ++ []) (if_items the.Id kind.Id an_id id_text micro.id (λ a. refl))
    ∙ append-nil (id_items micro.id)) i)))))

-- ---- what may be written

perhaps : {A : Type 0} (keyword : Keyword) (k : MicroKind) (put : A → Saying) (P : A → Type 0) (a : Option A)
    → IfSome a P
    → ((a : A) → P a → MayWrite k (put a))
    → MayBeSaid MayWrite (record { row = row keyword Optional k; values = option_to_list (option_map put a) })
perhaps keyword k put P None is may = record { count = omega arith; each = All-nil (MayWrite k) }
perhaps keyword k put P (Some a) is may =
    record { count = omega arith; each = All-cons (MayWrite k) (put a) [] (may a is) (All-nil (MayWrite k)) }

any_text : {A : Type 0} (a : Option A) → IfSome a (λ t. Unit {0})
any_text None = tt
any_text (Some t) = tt

pub spoken_so : (micro : Micro) → SaysInRange micro → AreSpoken MayWrite (rows_of micro)
spoken_so micro are =
    both_hold (record {
      count = refl;
      each = All-cons (MayWrite kind.OnionKey) (onion micro.onion_key) [] tt
          (All-nil (MayWrite kind.OnionKey));
    })
    (both_hold (perhaps the.NtorOnionKey kind.Key a_key (AreBytes 32) micro.ntor_onion_key are.ntor_onion_key (λ a is. is))
    (both_hold (perhaps the.Family kind.Rest (λ l. text (family_text l)) (λ l. Unit {0}) micro.family
    (any_text micro.family) (λ a is. tt))
    (both_hold (perhaps the.FamilyIds kind.Rest text (λ t. Unit {0}) micro.family_ids (any_text micro.family_ids)
    (λ a is. tt))
    (both_hold (perhaps the.P kind.Rest text (λ t. Unit {0}) micro.p (any_text micro.p) (λ a is. tt))
    (both_hold (perhaps the.P6 kind.Rest text (λ t. Unit {0}) micro.p6 (any_text micro.p6) (λ a is. tt))
    (both_hold (perhaps the.Id kind.Id an_id IsIdInRange micro.id are.id (λ a is. is)) tt))))))
