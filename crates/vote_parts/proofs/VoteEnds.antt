-- Votes end with their last item's object.
use Rattle.std.proofs.Common.{◌≡◌, ℕ, ◌+◌, length, Bool, true, false, List, [], ◌∷◌, Option, Some, None, Result, Ok}
use Rattle.std.{proofs.Common.{Err, refl, sym, ap, subst, ◌∙◌}, specs.Prelude.{◌≢◌, codes, is_some, if◌then◌else◌}}
use Rattle.std.specs.List.{AllByRecursion, find}
use Rattle.item_terms.specs.Items.{Item, Object}
use Rattle.frame_terms.specs.declared.{fault.FrameFault.FrameFault, keyword.Keyword.Keyword, row.Row.Row}
use Rattle.frame_terms.specs.{Keywords.same, Order.is_keyword, Sections.row_of}
use Rattle.frame_terms.specs.declared.keyword.Keyword.TheVariants as the
use Rattle.frame_terms.specs.declared.section.Again.TheVariants as again
use Rattle.frame_values.specs.declared.{found.{Span.Span, VoteSignature.VoteSignature}, values.Value.Value}
use Rattle.frame_values.specs.{Arguments.{arguments_of, field, front, next, others}, Faults.{at_place, unless_fault}}
use Rattle.frame_values.specs.Signatures.{after_algorithm, algorithm_if, has_words, is_space, object_if, signature_of}
use Rattle.frame_values.specs.Signatures.{signed_by}
use Rattle.frame_values.specs.declared.values.Value.TheVariants as value
use Rattle.dir_values.specs.declared.{algorithm.Algorithm.Algorithm, digest.{Digest1.Digest1, Fingerprint.Fingerprint}}
use Rattle.dir_values.specs.{Arguments.Argument, Digests.{fingerprint, key_digest}}
use Rattle.authority_certs.specs.declared.frame.CertKind.TheVariants.{Certification}
use Rattle.grammar_laws.specs.Parts.{EndWithObjects}
use Rattle.vote_frame.specs.declared.frame.VoteKind.{VoteKind, TheVariants.{Certificate, Signature}}
use Rattle.vote_frame.specs.{declared.frame.{VoteSection.VoteSection, VoteValue.VoteValue}, Tables.{over_limit, rows}}
use Rattle.vote_frame.specs.Tables.{shape, value_at, vote_tables}
use Rattle.vote_frame.specs.declared.frame.VoteSection.TheVariants as section
use Rattle.vote_frame.specs.declared.frame.VoteValue.TheVariants as own

-- ---- the rows of last items

-- a fact of each element holds of one that is found
found_has : {A : Type 0} (P : A → Type 0) (p : A → Bool) (l : List A) (a : A) → AllByRecursion P l → find p l ≡ Some a
    → P a
found_has {A} P p [] a all is = absurd (cc is)
found_has {A} P p (b ∷ l) a all is = by (p b) is (found_has P p l a all.1)
  where
    pick : (x y : A) → Some x ≡ Some y → x ≡ y
    pick x y e = cc e

    by : (t : Bool) → (if t then Some b else find p l) ≡ Some a → (find p l ≡ Some a → P a) → P a
    by true is more = subst P (pick b a is) all.0
    by false is more = more is

-- a row of this keyword is of this kind
abbrev IsLast : Keyword → VoteKind → Row VoteKind → Type 0
IsLast keyword kind row = same keyword row.keyword ≡ true → row.kind ≡ kind

certificate_rows
    : AllByRecursion (IsLast the.DirKeyCertification (Certificate Certification)) (rows section.Certificate)
unfolding same
certificate_rows = (
  (λ e. absurd (cc e)),
  (
    (λ e. absurd (cc e)),
    (
      (λ e. absurd (cc e)),
      (
        (λ e. absurd (cc e)),
        (
          (λ e. absurd (cc e)),
          (
            (λ e. absurd (cc e)),
            ((λ e. absurd (cc e)), ((λ e. absurd (cc e)), ((λ e. refl), tt))),
          ),
        ),
      ),
    ),
  ),
)

footer_rows : AllByRecursion (IsLast the.DirectorySignature Signature) (rows section.Footer)
unfolding same
footer_rows = ((λ e. absurd (cc e)), ((λ e. refl), tt))

-- ---- what they say

abbrev Said : Type 0
Said = Value VoteValue

certified : (item : Item) (said : Said) → value_at (Certificate Certification) item ≡ Ok said
    → is_some item.object ≡ true
certified item said is = by (has_words item.object (codes "SIGNATURE")) item.object is
  where
    by : (t : Bool) (object : Option Object)
        → next (object_if t item.place object) (λ (lines : Span). Ok (value.Object lines)) ≡ Ok said
        → is_some object ≡ true
    by t (Some object) is = refl
    by t None is = absurd (cc is)

signed_there : (name : Option Algorithm) (arguments : List Argument) (item : Item) (said : VoteSignature)
    → signed_by name arguments item ≡ Ok said → is_some item.object ≡ true
signed_there name arguments item said is =
    let identity = front item.place arguments in
    let key = front item.place (others arguments) in
    by (field identity (fingerprint identity.text)) (field key (key_digest key.text))
    (has_words item.object (codes "SIGNATURE")) item.object is
  where
    by : (one : Result Fingerprint ℕ) (other : Result Digest1 ℕ) (t : Bool) (object : Option Object)
        → next one (λ signer. next other (λ digest. next (object_if t item.place object) (λ signature.
        Ok (record { algorithm = name; identity = signer; key_digest = digest; signature = signature })))) ≡ Ok said
        → is_some object ≡ true
    by (Err place) other t object is = absurd (cc is)
    by (Ok signer) (Err place) t object is = absurd (cc is)
    by (Ok signer) (Ok digest) t None is = absurd (cc is)
    by (Ok signer) (Ok digest) t (Some object) is = refl

signed : (item : Item) (said : Said) → value_at Signature item ≡ Ok said → is_some item.object ≡ true
signed item said is = by (signature_of item) refl is
  where
    by_name : (signature : VoteSignature) (r : Result (Option Algorithm) ℕ)
        → next r (λ name. signed_by name (after_algorithm name (arguments_of item)) item) ≡ Ok signature
        → is_some item.object ≡ true
    by_name signature (Err place) is = absurd (cc is)
    by_name signature (Ok name) is =
        signed_there name (after_algorithm name (arguments_of item)) item signature is

    by_space : (signature : VoteSignature) (t : Bool)
        → (if t then next (algorithm_if (front item.place (arguments_of item)))
        (λ name. signed_by name (after_algorithm name (arguments_of item)) item)
        else Err (item.place + length item.keyword)) ≡ Ok signature
        → is_some item.object ≡ true
    by_space signature true is = by_name signature (algorithm_if (front item.place (arguments_of item))) is
    by_space signature false is = absurd (cc is)

    by : (r : Result VoteSignature ℕ) → signature_of item ≡ r
        → next r (λ signature. Ok (value.Own (own.Signature signature))) ≡ Ok said → is_some item.object ≡ true
    by (Err place) e is = absurd (cc is)
    by (Ok signature) e is = by_space signature (is_space item.separator) e

-- ---- the tables

limited : (kind : VoteKind) (first : Result (Unit {0}) FrameFault) (item : Item) (said : Said)
    → unless_fault first (at_place (value_at kind item)) ≡ Ok said → value_at kind item ≡ Ok said
limited kind (Err fault) item said is = absurd (cc is)
limited kind (Ok _) item said is = by (value_at kind item) is
  where
    by : (r : Result Said ℕ) → at_place r ≡ Ok said → r ≡ Ok said
    by (Ok other) is = cc is
    by (Err place) is = absurd (cc is)

stand_alone : (of : VoteSection) → (shape of).again ≢ again.Document
stand_alone section.Preamble e = cc e
stand_alone section.Authority e = cc e
stand_alone section.Certificate e = cc e
stand_alone section.Entry e = cc e
stand_alone section.Footer e = cc e

have_objects : (of : VoteSection) (keyword : Keyword) (row : Row VoteKind) → row_of (rows of) keyword ≡ Some row
    → is_keyword ((shape of).last) row.keyword ≡ true → (item : Item) (said : Said)
    → value_at row.kind item ≡ Ok said → is_some item.object ≡ true
have_objects section.Preamble keyword row there last item said is = absurd (cc last)
have_objects section.Authority keyword row there last item said is = absurd (cc last)
have_objects section.Certificate keyword row there last item said is =
    let kind = found_has (IsLast the.DirKeyCertification (Certificate Certification))
    (λ (r : Row VoteKind). same r.keyword keyword) (rows section.Certificate) row certificate_rows there last in
    certified item said (sym (ap (λ (k : VoteKind). value_at k item) kind) ∙ is)
have_objects section.Entry keyword row there last item said is = absurd (cc last)
have_objects section.Footer keyword row there last item said is =
    let kind = found_has (IsLast the.DirectorySignature Signature)
    (λ (r : Row VoteKind). same r.keyword keyword) (rows section.Footer) row footer_rows there last in
    signed item said (sym (ap (λ (k : VoteKind). value_at k item) kind) ∙ is)

pub vote_ends : EndWithObjects vote_tables
vote_ends = record {
  alone = stand_alone;
  objects = λ of keyword row there last across item said is.
      have_objects of keyword row there last item said
      (limited row.kind (over_limit across.listed row.kind item) item said is);
}
