-- What is taken of a certificate lies within the bytes whose items it is taken of.
use Rattle.std.proofs.Common.{◌≡◌, ℕ, ◌+◌, ◌-◌, ◌≤◌, Bool, true, false, List, [], ◌∷◌, ◌++◌, length, take, drop, Option}
use Rattle.std.proofs.Common.{Some, None, Ok, sym, ap, subst, inl, inr, arith, length-drop, length-take}
use Rattle.std.specs.{Prelude.{IfSome, codes, ◌||◌}, List.AllByRecursion}
use Rattle.item_terms.specs.Items.{Item, Object}
use Rattle.dir_values.specs.Arguments.{Argument}
use Rattle.frame_values.specs.{Arguments.{arguments_of, front, next}, Fields.{is_there, span_of}, Lines.argument_of}
use Rattle.frame_values.specs.{Parts.part, Signatures.{has_words, object_if, object_of}}
use Rattle.frame_values.specs.declared.values.Value.TheVariants as value
use Rattle.authority_certs.specs.{Tables.{cert_tables, cert_value}, declared.frame.CertKind.CertKind}
use Rattle.authority_certs.specs.declared.frame.CertKind.TheVariants as kind
use Rattle.document_laws.specs.Items.{AreItemsIn, IsItemIn, IsItemOf}
use Rattle.grammar_laws.proofs.WithinLines.{IsIn}
use Rattle.row_laws.proofs.{ItemArguments.{IsSound, are_found, front_found}, ReadSteps.{ReadAs, next_reads, placed}}
use Rattle.row_laws.proofs.{ReadSteps.{span_reads, was_read}, SaidByKinds.said_of_any, Saying.{EachSound, sound_parts}}
use Rattle.certificate_laws.{specs.Within.{IsSpanIn, IsTakenIn, IsValueIn}, proofs.Holding.{CertTaken, Said}}

-- an argument that stands in the bytes ends within them
ends_within : (bytes : List ℕ) (a : Argument) → part bytes (span_of a) ≡ a.text → is_there a.text ≡ true
    → a.place + length a.text ≤ length bytes
ends_within bytes a stands some =
    let k = a.place + length a.text - a.place in
    let size : length (take k (drop a.place bytes)) ≡ length a.text = ap (λ (l : List ℕ). length l) stands in
    let one = not_empty a.text some in
    omega (arith, one, size, length-take k (drop a.place bytes), length-drop a.place bytes)
  where
    not_empty : (text : List ℕ) → is_there text ≡ true → 1 ≤ length text
    not_empty [] some = absurd (cc some)
    not_empty (b ∷ text) some = omega arith

module _ (bytes : List ℕ) where
  abbrev ValueIsIn : Said → Type 0
  ValueIsIn said = IsValueIn (length bytes) said

  object_in : (wanted : Bool) (item : Item) (said : Said) → IsIn (length bytes) item
      → next (object_of wanted item) (λ lines. Ok (value.Object lines)) ≡ Ok said → ValueIsIn said
  object_in wanted item said within is =
      was_read ValueIsIn (next (object_of wanted item) (λ lines. Ok (value.Object lines))) said
      (next_reads (IsSpanIn (length bytes)) ValueIsIn (object_of wanted item) (λ lines. Ok (value.Object lines))
      (by wanted item.object within.object) (λ lines in_. in_)) is
    where
      by : (t : Bool) (object : Option Object) → IfSome object (λ (o : Object). o.start + length o.text ≤ length bytes)
          → ReadAs (IsSpanIn (length bytes)) (object_if t item.place object)
      by t None is = tt
      by true (Some object) is = record { order = omega arith; within = is }
      by false (Some object) is = tt

  -- what an item of a certificate says
  value_in : (of : CertKind) (item : Item) (said : Said) → IsSound bytes item → IsIn (length bytes) item
      → cert_value of item ≡ Ok said → ValueIsIn said
  value_in kind.Address item said sound within is =
      let first = front item.place (arguments_of item) in
      was_read ValueIsIn (cert_value kind.Address item) said
      (next_reads (IsSpanIn (length bytes)) ValueIsIn (argument_of item) (λ text. Ok (value.Text text))
      (span_reads (IsSpanIn (length bytes)) first (is_there first.text) (λ some. record {
        order = omega arith;
        within = ends_within bytes first
            (front_found bytes item.place (arguments_of item) (are_found sound) some).part some;
      })) (λ text in_. in_)) is
  value_in kind.Key item said sound within is =
      object_in (has_words item.object (codes "RSA PUBLIC KEY")) item said within is
  value_in kind.Crosscert item said sound within is =
      object_in (has_words item.object (codes "ID SIGNATURE") || has_words item.object (codes "SIGNATURE")) item said
      within is
  value_in kind.Certification item said sound within is =
      object_in (has_words item.object (codes "SIGNATURE")) item said within is
  value_in of item said sound within is = said_of_any ValueIsIn _ _ said is (λ a. tt)

  -- what is taken of an item
  by_row : (across name : Unit {0}) (item : Item) (one : CertTaken) → IsSound bytes item → IsIn (length bytes) item
      → IsItemOf cert_tables across name item one → IsTakenIn (length bytes) one
  by_row across name item one sound within is = subst (IsTakenIn (length bytes)) (sym is.stands) (record {
    value =
        value_in is.row.kind item is.value sound within (placed (cert_value is.row.kind item) is.value is.says);
    place = within.place;
    line = within.line;
    after = within.after;
  })

  by_either : (across name : Unit {0}) (item : Item) (one : CertTaken) → IsSound bytes item → IsIn (length bytes) item
      → IsItemIn cert_tables across name item one → IsTakenIn (length bytes) one
  by_either across name item one sound within (inl is) = by_row across name item one sound within is
  by_either across name item one sound within (inr is) = by_row across is.around item one sound within is.taken

  behind : (before rest : List Item) → AllByRecursion (IsIn (length bytes)) (before ++ rest)
      → AllByRecursion (IsIn (length bytes)) rest
  behind [] rest all = all
  behind (item ∷ before) rest all = behind before rest all.1

  -- what is taken of items
  pub all_taken_in : (items : List Item) (taken : List CertTaken) → EachSound bytes items
      → AllByRecursion (IsIn (length bytes)) items → AreItemsIn cert_tables tt items taken
      → AllByRecursion (IsTakenIn (length bytes)) taken
  all_taken_in items [] sound all are = tt
  all_taken_in items (one ∷ taken) sound all are =
      let here = sound_parts bytes are.0 (are.1 ∷ are.2) (subst (EachSound bytes) are.3 sound) in
      let there = behind are.0 (are.1 ∷ are.2) (subst (AllByRecursion (IsIn (length bytes))) are.3 all) in
      (by_either are.4 tt are.1 one here.0 there.0 are.5, all_taken_in are.2 taken here.1 there.1 are.6)
