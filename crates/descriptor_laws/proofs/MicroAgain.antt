-- A microdescriptor that was written is read again, at the end of the input and before the next one.
use Rattle.std.proofs.Common.{◌≡◌, ℕ, ◌+◌, false, List, [], ◌∷◌, ◌++◌, length, Option, Some, None, Result, Ok, refl}
use Rattle.std.proofs.{Common.{sym, ap, subst, ◌∙◌, append_assoc, append-nil, arith}, lemmas.Bool.and_right}
use Rattle.std.specs.Prelude.{◌&&◌, option_map}
use Rattle.dir_bytes.specs.FieldTexts.{base64_text}
use Rattle.item_terms.specs.{Items.{Contents, contents, nothing}, Words.begins_dash}
use Rattle.dirdoc_grammar.specs.Writing.{AreWritable, IsWritable, NewItem, in_front, is_open, item_text, items_text}
use Rattle.dirdoc_grammar.specs.Writing.{tail, written}
use Rattle.grammar_laws.proofs.ItemsAgain.{items_again}
use Rattle.frame_terms.specs.{Keywords.{same, text_of}, declared.fault.ReadRefusal.ReadRefusal}
use Rattle.frame_terms.specs.{declared.keyword.Keyword.Keyword, Documents.{Document, finish}}
use Rattle.frame_terms.specs.declared.keyword.Keyword.TheVariants as the
use Rattle.frame_terms.specs.declared.section.Again.TheVariants as again
use Rattle.frame_values.specs.{Items.item_if, declared.values.Value.Value}
use Rattle.frame_laws.proofs.{Both.both_hold, Steps.IsAgain}
use Rattle.descriptor_frame.specs.Families.{family_text}
use Rattle.micro_desc.specs.{Tables.micro_tables, declared.{micro.Micro.Micro, said.MicroValue.MicroValue}}
use Rattle.micro_desc.specs.{Heads.{head_with, no_head}, Reading.{max_micro, micro_of, with_micro}, Texts.family_items}
use Rattle.micro_desc.specs.Texts.{id_items, id_text, micro_text, ntor_key_items, onion_key_item}
use Rattle.micro_desc.specs.declared.said.MicroKind.TheVariants as kind
use Rattle.row_laws.proofs.{Again.{IsReadAgain, document_again, document_stops}, Spoken.{field_rows, new_item}}
use Rattle.descriptor_laws.specs.MicroAgain.{MicrosAreReadAgain, MicrosEndBeforeTheNext, micros_text}
use Rattle.descriptor_laws.{specs.MicroRanges.{IsInRange, SaysInRange}, proofs.MicroFields.{facts_again, facts_of}}
use Rattle.descriptor_laws.proofs.MicroFields.{fields, first_row, items_of, kept_same, onion_item, opens, others}
use Rattle.descriptor_laws.proofs.{MicroFields.{rows_of, same_items, spoken_so, table}, MicroKinds.{IsRead, MayWrite}}
use Rattle.descriptor_laws.proofs.MicroKinds.{laws, meaning, onion, write}

-- its items behind the first
abbrev others_of : Micro → List NewItem
others_of micro =
    ntor_key_items micro.ntor_onion_key
    ++ (family_items micro.family
    ++ (item_if the.FamilyIds micro.family_ids
    ++ (item_if the.P micro.p ++ (item_if the.P6 micro.p6 ++ id_items micro.id))))

-- no object follows where no dash does
closed : (items : List NewItem) (rest : List ℕ) → begins_dash rest ≡ false → (is_open items && begins_dash rest)
    ≡ false
closed items rest none = and_right (is_open items) (begins_dash rest) none

-- ---- what was read of it is it

abbrev answer : Micro → ℕ → Result (Micro × ℕ) ReadRefusal
answer micro used = Ok (micro, used)

it_is : (micro : Micro) (bytes : List ℕ) (used : ℕ) → SaysInRange micro
    → IsReadAgain micro_tables meaning max_micro (rows_of micro) bytes used → micro_of bytes ≡ Ok (micro, used)
it_is micro bytes used are found =
    ap (λ (r : Result (Document (Unit {0}) (Value MicroValue)) ReadRefusal). with_micro bytes
    (finish head_with no_head r))
    found.read
    ∙ ap (λ (m : Micro). answer m used) (kept_same bytes found.taken ∙ ap facts_of found.says ∙ facts_again micro are)

may_stand : (micro : Micro) → IsInRange micro → AreWritable max_micro 0 (items_of micro)
may_stand micro are = subst (λ (l : List NewItem). AreWritable max_micro 0 l) (sym (same_items micro)) are.items

pub micros_again : MicrosAreReadAgain
micros_again micro are =
    it_is micro (micro_text micro) (length (micro_text micro)) are.says
    (subst (λ (l : List NewItem). IsReadAgain micro_tables meaning max_micro (rows_of micro) (items_text l)
    (length (items_text l)))
    (same_items micro)
    (document_again micro_tables meaning MayWrite IsRead laws first_row opens others (field_rows fields)
    (λ d. refl) table max_micro micro
    (spoken_so micro are.says) (may_stand micro are)))

-- ---- where others follow

-- no item of this keyword begins with a dash
abbrev NoDash : Keyword → Type 0
NoDash keyword = (rest front back : List ℕ)
    → begins_dash ((((text_of keyword ++ tail rest) ++ 10 ∷ []) ++ front) ++ back) ≡ false

no_dash_if : (keyword : Keyword) (text : Option (List ℕ)) (items : List NewItem) (rest : List ℕ) → NoDash keyword
    → begins_dash (items_text items ++ rest) ≡ false
    → begins_dash (items_text (item_if keyword text ++ items) ++ rest) ≡ false
no_dash_if keyword None items rest none more = more
no_dash_if keyword (Some text) items rest none more = none text (items_text items) rest

-- neither does a microdescriptor
no_dash_first : (key : Option (List ℕ)) (front back : List ℕ)
    → begins_dash ((item_text (onion_key_item key) ++ front) ++ back) ≡ false
no_dash_first None front back = refl
no_dash_first (Some key) front back = refl

no_dash : (micros : List Micro) → begins_dash (micros_text micros) ≡ false
no_dash [] = refl
no_dash (micro ∷ micros) =
    no_dash_first micro.onion_key (items_text (others_of micro)) (micros_text micros)

no_dash_others : (micro : Micro) (micros : List Micro)
    → begins_dash (items_text (others_of micro) ++ micros_text micros) ≡ false
no_dash_others micro micros =
    let rest = micros_text micros in
    let id = id_items micro.id in
    let p6 = item_if the.P6 micro.p6 in
    let p = item_if the.P micro.p in
    let ids = item_if the.FamilyIds micro.family_ids in
    let family = family_items micro.family in
    let last : begins_dash (items_text id ++ rest) ≡ false =
    subst (λ (l : List NewItem). begins_dash (items_text l ++ rest) ≡ false) (append-nil id)
    (no_dash_if the.Id (option_map id_text micro.id) [] rest (λ t a b. refl) (no_dash micros)) in
    no_dash_if the.NtorOnionKey (option_map base64_text micro.ntor_onion_key) (family ++ (ids ++ (p ++ (p6 ++ id)))) rest
    (λ t a b. refl)
    (no_dash_if the.Family (option_map family_text micro.family) (ids ++ (p ++ (p6 ++ id))) rest (λ t a b. refl)
    (no_dash_if the.FamilyIds micro.family_ids (p ++ (p6 ++ id)) rest (λ t a b. refl)
    (no_dash_if the.P micro.p (p6 ++ id) rest (λ t a b. refl)
    (no_dash_if the.P6 micro.p6 id rest (λ t a b. refl) last))))

-- the next first item ends it
begins_the_next : IsAgain micro_tables tt first_row again.Document
unfolding same
begins_the_next = record { row_there = refl; not_last = refl; begins_it = refl }

-- the first item of those that follow is read
next_read : (place : ℕ) (next : Micro) (others : List Micro)
    → IsWritable max_micro place (onion_key_item next.onion_key)
    → (after : Contents) × (contents max_micro place nothing (micros_text (next ∷ others))
    ≡ in_front (written place (new_item the.OnionKey (write kind.OnionKey (onion next.onion_key))) ∷ []) after)
next_read place next others may =
    let first = onion_key_item next.onion_key in
    let rest = items_text (others_of next) ++ micros_text others in
    let after = contents max_micro (place + length (items_text (first ∷ []))) nothing rest in
    let parts : micros_text (next ∷ others) ≡ items_text (first ∷ []) ++ rest =
    append_assoc (item_text first) (items_text (others_of next)) (micros_text others)
    ∙ ap (λ (l : List ℕ). l ++ rest) (sym (append-nil (item_text first))) in (
      after,
      ap (λ (l : List ℕ). contents max_micro place nothing l) parts
          ∙ items_again max_micro place (first ∷ []) rest (both_hold may tt)
          (closed (first ∷ []) rest (no_dash_others next others))
          ∙ ap (λ (i : NewItem). in_front (written place i ∷ []) after) (sym (onion_item next.onion_key)),
    )

pub micros_end : MicrosEndBeforeTheNext
micros_end micro next more are may =
    let rest = micros_text (next ∷ more) in
    let size = length (micro_text micro) in
    let place : 0 + size ≡ size = omega arith in
    let found =
    next_read (0 + size) next more
    (subst (λ (n : ℕ). IsWritable max_micro n (onion_key_item next.onion_key)) (sym place) may) in
    it_is micro (micro_text micro ++ rest) (0 + size) are.says
    (subst (λ (l : List NewItem). contents max_micro (0 + length (items_text l)) nothing rest
    ≡ in_front (written (0 + length (items_text l)) (new_item the.OnionKey
    (write kind.OnionKey (onion next.onion_key))) ∷ [])
    found.0
    → IsReadAgain micro_tables meaning max_micro (rows_of micro) (items_text l ++ rest) (0 + length (items_text l)))
    (same_items micro)
    (document_stops micro_tables meaning MayWrite IsRead laws first_row opens others (field_rows fields)
    (λ d. refl) table max_micro micro rest
    (onion next.onion_key) found.0 (no_dash (next ∷ more)) (spoken_so micro are.says) (may_stand micro are)
    begins_the_next refl) found.1)
    ∙ ap (λ (n : ℕ). answer micro n) place
