-- Detached signatures that were written are read again, by their fields.
use Rattle.std.proofs.Common.{◌≡◌, ℕ, ◌≤◌, Bool, true, false, cond, List, [], ◌∷◌, ◌++◌, length, Option, Some, None, Ok}
use Rattle.std.proofs.{Common.{Result, refl, sym, ap, subst, ◌∙◌, append-nil, arith}, lemmas.List.Elements.All-cons}
use Rattle.std.{proofs.lemmas.List.Elements.{All-head, All-nil, All-tail, filter_map-append}, specs.Prelude.{All, map}}
use Rattle.std.specs.{Prelude.{not, ◌&&◌, is_some, if◌then◌else◌}, List.{cons_option, filter, filter_map}}
use Rattle.std.specs.Option.{option_map}
use Rattle.dir_bytes.specs.Causes.{last_moment}
use Rattle.dirdoc_grammar.specs.Writing.{AreWritable, NewItem, items_text}
use Rattle.frame_terms.specs.{Documents.{Document, finish}, Keywords.same, declared.fault.ReadRefusal.ReadRefusal}
use Rattle.frame_terms.specs.declared.keyword.Keyword.{Keyword}
use Rattle.frame_terms.specs.declared.keyword.Keyword.TheVariants as the
use Rattle.frame_values.specs.{Parts.moment_of, declared.values.Value.Value}
use Rattle.frame_laws.proofs.Both.{as_ok, both_hold}
use Rattle.consensus_laws.specs.Again.{is_known}
use Rattle.detached_frame.specs.{Tables.detached_tables, declared.said.DetachedKind.DetachedKind}
use Rattle.detached_frame.specs.declared.said.DetachedValue.{DetachedValue}
use Rattle.detached_frame.specs.declared.said.DetachedKind.TheVariants as kind
use Rattle.detached_doc.specs.{Kept.{kept_with, none_kept}, Order.in_order, Reading.{max_detached, with_detached}}
use Rattle.detached_doc.specs.Texts.{additional_if, additional_items, detached_items, detached_text, digest_item}
use Rattle.detached_doc.specs.{Texts.{plain_if, plain_items}, declared.detached.AdditionalDigest.AdditionalDigest}
use Rattle.detached_doc.specs.declared.detached.{Detached.Detached, DetachedLine.DetachedLine}
use Rattle.row_laws.proofs.{Again.{IsReadAgain, document_again, document_items, document_rows}, Sayings.AreSpoken}
use Rattle.row_laws.proofs.Spoken.{Spoken, SpokenRow, field_rows, new_item, spoken, spoken_of}
use Rattle.detached_laws.specs.Again.{DetachedAreReadAgain, DetachedInOrderAreTheSame, IsDigestInRange, IsInRange}
use Rattle.detached_laws.{specs.Again.{IsLineInRange, as_read, is_additional, is_plain}, proofs.DetachedKinds.laws}
use Rattle.detached_laws.proofs.DetachedMeaning.{IsRead, MayWrite, Saying, as_said, digest, meaning, moment, other}
use Rattle.detached_laws.proofs.{DetachedMeaning.{over, signed, unknown, write}, DetachedOrder.each_in_order}
use Rattle.detached_laws.proofs.DetachedFields.{facts_of, fields, first_row, kept_same, line_if, lines_of, opens}
use Rattle.detached_laws.proofs.DetachedFields.{other_if, others, others_of, over_if, signed_if_plain, signed_of, table}

-- ---- its items are those of its fields

abbrev rows_of : Detached → List (SpokenRow DetachedKind Saying)
rows_of d = document_rows detached_tables meaning MayWrite IsRead laws first_row opens others (field_rows fields)
    (λ d. refl) table d

abbrev items_of : Detached → List NewItem
items_of d = document_items detached_tables meaning MayWrite IsRead laws first_row opens others (field_rows fields)
    (λ d. refl) table d

abbrev items_at : Keyword → DetachedKind → List Saying → List NewItem
items_at keyword k values = map (λ (s : Saying). new_item keyword (write k s)) values

digest_items : (l : List AdditionalDigest) → items_at the.AdditionalDigest kind.AdditionalDigest (map other l)
    ≡ map digest_item l
digest_items [] = refl
digest_items (d ∷ l) = ap (λ (items : List NewItem). digest_item d ∷ items) (digest_items l)

over_items : (l : List DetachedLine)
    → items_at the.AdditionalSignature kind.AdditionalSignature (filter_map over_if l) ≡ additional_items l
over_items [] = refl
over_items (line ∷ l) =
    by line.flavour ∙ ap (λ (items : List NewItem). additional_if line.flavour line.line ++ items) (over_items l)
  where
    by : (flavour : Option (List ℕ))
        → items_at the.AdditionalSignature kind.AdditionalSignature
        (cons_option (option_map (λ (f : List ℕ). over f line.line) flavour) (filter_map over_if l))
        ≡ additional_if flavour line.line
        ++ items_at the.AdditionalSignature kind.AdditionalSignature (filter_map over_if l)
    by None = refl
    by (Some flavour) = refl

signed_items : (l : List DetachedLine)
    → items_at the.DirectorySignature kind.Signature (filter_map signed_if_plain l) ≡ plain_items l
signed_items [] = refl
signed_items (line ∷ l) =
    by line.flavour ∙ ap (λ (items : List NewItem). plain_if line.flavour line.line ++ items) (signed_items l)
  where
    by : (flavour : Option (List ℕ))
        → items_at the.DirectorySignature kind.Signature
        (cons_option (signed_of flavour line.line) (filter_map signed_if_plain l))
        ≡ plain_if flavour line.line ++ items_at the.DirectorySignature kind.Signature (filter_map signed_if_plain l)
    by None = refl
    by (Some flavour) = refl

same_items : (d : Detached) → items_of d ≡ detached_items d
same_items d = simp (append-nil, digest_items, over_items, signed_items) refl

-- ---- what it says is what it said

abbrev said_at : Keyword → DetachedKind → List Saying → List (Spoken Saying)
said_at keyword k values = map (λ (s : Saying). spoken keyword (as_said k s)) values

digests_first : (l : List AdditionalDigest) → others_of (said_at the.AdditionalDigest kind.AdditionalDigest
    (map other l)) ≡ l
digests_first [] = refl
digests_first (d ∷ l) = ap (λ (all : List AdditionalDigest). d ∷ all) (digests_first l)

no_lines_first : (l : List AdditionalDigest) → lines_of (said_at the.AdditionalDigest kind.AdditionalDigest
    (map other l)) ≡ []
no_lines_first [] = refl
no_lines_first (d ∷ l) = no_lines_first l

over_lines : (l : List DetachedLine)
    → (others_of (said_at the.AdditionalSignature kind.AdditionalSignature (filter_map over_if l)) ≡ [])
    × (lines_of (said_at the.AdditionalSignature kind.AdditionalSignature (filter_map over_if l))
    ≡ filter is_additional l)
over_lines [] = (refl, refl)
over_lines (line ∷ l) = by line.flavour (over_lines l)
  where
    by : (flavour : Option (List ℕ))
        → (others_of (said_at the.AdditionalSignature kind.AdditionalSignature (filter_map over_if l)) ≡ [])
        × (lines_of (said_at the.AdditionalSignature kind.AdditionalSignature (filter_map over_if l))
        ≡ filter is_additional l)
        → (others_of (said_at the.AdditionalSignature kind.AdditionalSignature
        (cons_option (option_map (λ (f : List ℕ). over f line.line) flavour) (filter_map over_if l))) ≡ [])
        × (lines_of (said_at the.AdditionalSignature kind.AdditionalSignature
        (cons_option (option_map (λ (f : List ℕ). over f line.line) flavour) (filter_map over_if l)))
        ≡ cond (is_some flavour) (record { flavour = flavour; line = line.line } ∷ filter is_additional l)
        (filter is_additional l))
    by None rest = rest
    by (Some flavour) rest =
        (rest.0, ap (λ (all : List DetachedLine). record { flavour = Some flavour; line = line.line } ∷ all) rest.1)

signed_lines : (l : List DetachedLine)
    → (others_of (said_at the.DirectorySignature kind.Signature (filter_map signed_if_plain l)) ≡ [])
    × (lines_of (said_at the.DirectorySignature kind.Signature (filter_map signed_if_plain l)) ≡ filter is_plain l)
signed_lines [] = (refl, refl)
signed_lines (line ∷ l) = by line.flavour (signed_lines l)
  where
    Rest : List (Spoken Saying) → List DetachedLine → Type 0
    Rest all lines = (others_of all ≡ []) × (lines_of all ≡ lines)

    rest : List (Spoken Saying)
    rest = said_at the.DirectorySignature kind.Signature (filter_map signed_if_plain l)

    by_known : (t : Bool) → (others_of rest ≡ []) × (lines_of rest ≡ filter is_plain l)
        → (others_of (spoken the.DirectorySignature (if t then signed line.line else unknown) ∷ rest) ≡ [])
        × (lines_of (spoken the.DirectorySignature (if t then signed line.line else unknown) ∷ rest)
        ≡ cond t (record { flavour = None; line = line.line } ∷ filter is_plain l) (filter is_plain l))
    by_known true more = (
      more.0,
      ap (λ (all : List DetachedLine). record { flavour = None; line = line.line }
          ∷ all) more.1,
    )
    by_known false more = more

    by : (flavour : Option (List ℕ)) → (others_of rest ≡ []) × (lines_of rest ≡ filter is_plain l)
        → (others_of (said_at the.DirectorySignature kind.Signature
        (cons_option (signed_of flavour line.line) (filter_map signed_if_plain l))) ≡ [])
        × (lines_of (said_at the.DirectorySignature kind.Signature
        (cons_option (signed_of flavour line.line) (filter_map signed_if_plain l)))
        ≡ cond (not (is_some flavour) && is_known line.line.algorithm)
        (record { flavour = flavour; line = line.line } ∷ filter is_plain l) (filter is_plain l))
    by None more = by_known (is_known line.line.algorithm) more
    by (Some flavour) more = more

all_three : {B : Type 0} (h : Spoken Saying → Option B) (a b c : List (Spoken Saying)) (x y z : List B)
    → filter_map h a ≡ x → filter_map h b ≡ y → filter_map h c ≡ z → filter_map h (a ++ (b ++ (c ++ []))) ≡ x ++
    (y ++ z)
all_three {B} h a b c x y z first second third =
    filter_map-append h a (b ++ (c ++ []))
    ∙ ap (λ (l : List B). filter_map h a ++ l) (filter_map-append h b (c ++ []))
    ∙ ap (λ (l : List (Spoken Saying)). filter_map h a ++ (filter_map h b ++ filter_map h l)) (append-nil c)
    ∙ ap (λ (l : List B). l ++ (filter_map h b ++ filter_map h c)) first
    ∙ ap (λ (l : List B). x ++ (l ++ filter_map h c)) second ∙ ap (λ (l : List B). x ++ (y ++ l)) third

in_calendar : (m : ℕ) → m ≤ last_moment → moment_of m ≡ m
in_calendar m within = omega (arith, within)

facts_again : (d : Detached) → IsInRange d → facts_of (spoken_of as_said (rows_of d)) ≡ as_read d
unfolding same
facts_again d are =
    let lines = in_order d.signatures in
    let over_ = over_lines lines in
    let signed_ = signed_lines lines in
    let a = said_at the.AdditionalDigest kind.AdditionalDigest (map other d.additional) in
    let b = said_at the.AdditionalSignature kind.AdditionalSignature (filter_map over_if lines) in
    let c = said_at the.DirectorySignature kind.Signature (filter_map signed_if_plain lines) in
    λ i. record {
      ns = d.ns;
      valid_after = in_calendar d.valid_after are.valid_after i;
      fresh_until = in_calendar d.fresh_until are.fresh_until i;
      valid_until = in_calendar d.valid_until are.valid_until i;
      additional =
          (all_three (λ (one : Spoken Saying). other_if one.value) a b c _ _ _
          (digests_first d.additional) over_.0 signed_.0
          ∙ append-nil d.additional) i;
      signatures =
          all_three (λ (one : Spoken Saying). line_if one.value) a b c _ _ _
          (no_lines_first d.additional) over_.1 signed_.1 i;
    }

-- ---- what may be written of it

digests_may : (l : List AdditionalDigest) → All IsDigestInRange l → All (MayWrite kind.AdditionalDigest) (map other l)
digests_may [] each = All-nil (MayWrite kind.AdditionalDigest)
digests_may (d ∷ l) each =
    All-cons (MayWrite kind.AdditionalDigest) (other d) (map other l) (All-head IsDigestInRange d l each)
    (digests_may l (All-tail IsDigestInRange d l each))

over_may : (l : List DetachedLine) → All IsLineInRange l → All (MayWrite kind.AdditionalSignature)
    (filter_map over_if l)
over_may [] each = All-nil (MayWrite kind.AdditionalSignature)
over_may (line ∷ l) each =
    by line.flavour (All-head IsLineInRange line l each) (over_may l (All-tail IsLineInRange line l each))
  where
    by : (flavour : Option (List ℕ)) → IsLineInRange (record { flavour = flavour; line = line.line })
        → All (MayWrite kind.AdditionalSignature) (filter_map over_if l)
        → All (MayWrite kind.AdditionalSignature)
        (cons_option (option_map (λ (f : List ℕ). over f line.line) flavour) (filter_map over_if l))
    by None is rest = rest
    by (Some flavour) is rest = All-cons (MayWrite kind.AdditionalSignature) (over flavour line.line)
        (filter_map over_if l) is rest

signed_may : (l : List DetachedLine) → All IsLineInRange l → All (MayWrite kind.Signature)
    (filter_map signed_if_plain l)
signed_may [] each = All-nil (MayWrite kind.Signature)
signed_may (line ∷ l) each =
    by line.flavour (All-head IsLineInRange line l each) (signed_may l (All-tail IsLineInRange line l each))
  where
    by : (flavour : Option (List ℕ)) → IsLineInRange (record { flavour = flavour; line = line.line })
        → All (MayWrite kind.Signature) (filter_map signed_if_plain l)
        → All (MayWrite kind.Signature) (cons_option (signed_of flavour line.line) (filter_map signed_if_plain l))
    by None is rest = All-cons (MayWrite kind.Signature) (signed line.line) (filter_map signed_if_plain l) is rest
    by (Some flavour) is rest = rest

one : (k : DetachedKind) (s : Saying) → MayWrite k s → All (MayWrite k) (s ∷ [])
one k s may = All-cons (MayWrite k) s [] may (All-nil (MayWrite k))

spoken_so : (d : Detached) → IsInRange d → AreSpoken MayWrite (rows_of d)
spoken_so d are =
    let each = each_in_order IsLineInRange d.signatures are.signatures in
    both_hold (record { count = refl; each = one kind.Digest (digest d.ns) are.ns })
    (both_hold (record { count = refl; each = one kind.Time (moment d.valid_after) are.valid_after })
    (both_hold (record { count = refl; each = one kind.Time (moment d.fresh_until) are.fresh_until })
    (both_hold (record { count = refl; each = one kind.Time (moment d.valid_until) are.valid_until })
    (both_hold (record { count = tt; each = digests_may d.additional are.additional })
    (both_hold (record { count = tt; each = over_may (in_order d.signatures) each })
    (both_hold (record { count = tt; each = signed_may (in_order d.signatures) each }) tt))))))

-- ---- the laws

pub detached_again : DetachedAreReadAgain
detached_again d are =
    let bytes = detached_text d in
    let found : IsReadAgain detached_tables meaning max_detached (rows_of d) bytes (length bytes) =
    subst (λ (l : List NewItem). IsReadAgain detached_tables meaning max_detached (rows_of d) (items_text l)
    (length (items_text l))) (same_items d)
    (document_again detached_tables meaning MayWrite IsRead laws first_row opens others (field_rows fields)
    (λ d. refl) table max_detached d (spoken_so d are)
    (subst (λ (l : List NewItem). AreWritable max_detached 0 l) (sym (same_items d)) are.items)) in
    ap (λ (r : Result (Document (Unit {0}) (Value DetachedValue)) ReadRefusal).
    with_detached bytes (finish kept_with none_kept r)) found.read
    ∙ ap (λ (one : Detached). answer one (length bytes))
    (kept_same bytes found.taken ∙ ap facts_of found.says ∙ facts_again d are)
  where
    answer : Detached → ℕ → Result (Detached × ℕ) ReadRefusal
    answer d used = Ok (d, used)

pub detached_same_again : DetachedInOrderAreTheSame
detached_same_again d are stands =
    detached_again d are
    ∙ ap (λ (lines : List DetachedLine). as_ok (record d { signatures = lines }, length (detached_text d))) stands
