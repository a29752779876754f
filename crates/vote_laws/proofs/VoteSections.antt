-- What stands in the sections of a vote: where its certificate begins and ends, and a space in its signature.
use Rattle.std.proofs.Common.{◌≡◌, ℕ, ◌+◌, Bool, true, false, Option, Some, None, Result, Ok, Err, refl, sym, ap, ◌∙◌}
use Rattle.std.proofs.{Common.length, lemmas.{Bool.{eqb-true, false_from_ne_true, false≢true}, Option.none-some}}
use Rattle.std.specs.Prelude.{if◌then◌else◌}
use Rattle.item_terms.specs.Items.{Item}
use Rattle.frame_terms.specs.declared.{document.Taken.Taken, keyword.Keyword.Keyword, row.Count.TheVariants.One}
use Rattle.frame_terms.specs.{declared.row.Row.Row, Keywords.same, Order.inner, Rows.row}
use Rattle.frame_terms.specs.declared.keyword.Keyword.TheVariants as the
use Rattle.frame_values.specs.{declared.{found.VoteSignature.VoteSignature, values.Value.Value}, Arguments.arguments_of}
use Rattle.frame_values.specs.{Arguments.{front, next}, Faults.at_place, Signatures.{after_algorithm, algorithm_if}}
use Rattle.frame_values.specs.Signatures.{is_space, signed_by}
use Rattle.frame_values.specs.declared.values.Value.TheVariants as value
use Rattle.authority_certs.specs.declared.frame.CertKind.TheVariants as cert
use Rattle.vote_frame.specs.declared.{across.Across.Across, frame.{VoteKind.VoteKind, VoteSection.VoteSection}}
use Rattle.vote_frame.specs.{declared.frame.VoteValue.VoteValue, Tables.{ignores, vote_tables}}
use Rattle.vote_frame.specs.declared.frame.VoteKind.TheVariants as kind
use Rattle.vote_frame.specs.declared.frame.VoteSection.TheVariants as vote
use Rattle.vote_frame.specs.declared.frame.VoteValue.TheVariants as own
use Rattle.document_laws.specs.Items.{IsItemOf}
use Rattle.vote_laws.proofs.{KeywordTexts.row_as, PartItems.{IsHeeded, IsNever}}

abbrev pub V : Type 0
V = Value VoteValue

row_or : Row VoteKind → Option (Row VoteKind) → Row VoteKind
row_or other None = other
row_or other (Some row) = row

-- a row that is there is that one
row_there : (a b : Row VoteKind) → Some a ≡ Some b → a ≡ b
unfolding row_or
row_there a b e = ap (row_or a) e

-- ---- the certificate inside the authority's section

-- no ordinary item of the preamble begins it, nor one of the authority's section
pub preamble_never : IsNever vote_tables vote.Preamble the.DirKeyCertificateVersion
unfolding same
preamble_never across item one next is =
    false_from_ne_true (same the.DirKeyCertificateVersion one.keyword)
    (λ it. none-some is.stands.said.row
    (row_as vote_tables across vote.Preamble item one is.stands.said the.DirKeyCertificateVersion it))

not_begun : (test : Bool) → (if test then Some vote.Certificate else None) ≡ None → test ≡ false
not_begun true e = absurd (cc (e))
not_begun false e = refl

pub authority_never : IsNever vote_tables vote.Authority the.DirKeyCertificateVersion
authority_never across item one next is = not_begun (same the.DirKeyCertificateVersion one.keyword) is.begins_none

-- neither section ignores that it begins
pub preamble_heeds : IsHeeded vote_tables vote.Preamble the.DirKeyCertificateVersion
unfolding same
preamble_heeds = record { is_known = refl; heeded = λ found item e. absurd (none-some found e) }

pub authority_heeds : IsHeeded vote_tables vote.Authority the.DirKeyCertificateVersion
unfolding same
authority_heeds = record {
  is_known = refl;
  heeded = λ found item e. ap (λ (r : Row VoteKind). ignores r.kind item)
      (sym (row_there (row the.DirKeyCertificateVersion One kind.Version) found e));
}

-- nor does it ignore that it ends
pub certificate_heeds : IsHeeded vote_tables vote.Certificate the.DirKeyCertification
unfolding same
certificate_heeds = record {
  is_known = refl;
  heeded = λ found item e. ap (λ (r : Row VoteKind). ignores r.kind item)
      (sym (row_there (row the.DirKeyCertification One (kind.Certificate cert.Certification)) found e));
}

begun : (test : Bool) (inside : VoteSection) → (if test then Some vote.Certificate else None) ≡ Some inside
    → (test ≡ true) × (inside ≡ vote.Certificate)
begun true inside e = (refl, cc (e))
begun false inside e = absurd (cc (e))

-- its opener begins it
pub begins_certificate : (keyword : Keyword) (inside : VoteSection)
    → inner vote_tables vote.Authority keyword ≡ Some inside
    → (same the.DirKeyCertificateVersion keyword ≡ true) × (inside ≡ vote.Certificate)
begins_certificate keyword inside e = begun (same the.DirKeyCertificateVersion keyword) inside e

-- ---- the signature

spaced : (test : Bool) (signature : Result VoteSignature ℕ) (place : ℕ) (found : V)
    → at_place (next (if test then signature else Err place) (λ s. Ok (value.Own (own.Signature s)))) ≡ Ok found
    → test ≡ true
spaced true signature place found e = refl
spaced false signature place found e = absurd (cc (e))

space_is : (separator : Option ℕ) → is_space separator ≡ true → separator ≡ Some 32
space_is None e = absurd (false≢true e)
space_is (Some b) e = ap (λ (n : ℕ). Some n) (eqb-true b 32 e)

-- a space stands behind its keyword
pub signature_spaced : (across : Across) (item : Item) (one : Taken V)
    → IsItemOf vote_tables across vote.Footer item one → same the.DirectorySignature one.keyword ≡ true
    → item.separator ≡ Some 32
unfolding same
signature_spaced across item one said is =
    let its_row : row the.DirectorySignature One kind.Signature ≡ said.row =
    row_there (row the.DirectorySignature One kind.Signature) said.row
    (row_as vote_tables across vote.Footer item one said the.DirectorySignature is) in
    let says : vote_tables.value_of across kind.Signature item ≡ Ok said.value =
    ap (λ (r : Row VoteKind). vote_tables.value_of across r.kind item) its_row ∙ said.says in
    let signature : Result VoteSignature ℕ =
    next (algorithm_if (front item.place (arguments_of item))) (λ name.
    signed_by name (after_algorithm name (arguments_of item)) item) in
    space_is item.separator
    (spaced (is_space item.separator) signature (item.place + length item.keyword) said.value says)
