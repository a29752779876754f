-- What is read of the footer of a consensus that was written: its signatures, and where the signed part ends.
use Rattle.std.proofs.Common.{◌≡◌, ℕ, ◌+◌, ◌≤◌, ◌^◌, ◌-◌, Bool, true, false, List, [], ◌∷◌, ◌++◌, length, Option, Some}
use Rattle.std.proofs.{Common.{None, refl, sym, ap, subst, ◌∙◌, arith, append-nil}, lemmas.Grind.flat_map-append}
use Rattle.std.specs.{Prelude.{◌||◌, codes, map, min, option_map, if◌then◌else◌}, Str.bytes_eq}
use Rattle.dir_values.{proofs.Orders.same_text, specs.{Names.algorithm, declared.algorithm.Algorithm.Algorithm}}
use Rattle.dir_values.specs.declared.algorithm.Algorithm.TheVariants.{Sha256}
use Rattle.dirdoc_grammar.specs.{Bodies.body_text, Writing.item_text}
use Rattle.frame_terms.specs.declared.document.Taken.{Taken}
use Rattle.frame_terms.specs.declared.keyword.Keyword.TheVariants as the
use Rattle.frame_values.specs.{Fields.span, Parts.bytes_in, Values.item_at, declared.found.VoteSignature.VoteSignature}
use Rattle.frame_values.specs.declared.values.Value.{Value}
use Rattle.frame_values.specs.declared.values.Value.TheVariants as value
use Rattle.frame_laws.proofs.{Entries.{after_one, all_taken, item_of}, ManyRows.row_of_each, Places.after_all}
use Rattle.frame_laws.proofs.{Places.all_taken-append, ReadRows.{IsRead, Stand, item_of_row}, RowValues.text_entry_if}
use Rattle.frame_laws.proofs.{StandingParts.spelled, WrittenItems.lines_at}
use Rattle.group_laws.specs.Again as group
use Rattle.consensus_terms.specs.declared.signature.SignatureLine.{SignatureLine}
use Rattle.consensus_frame.specs.declared.value.ConsensusValue.{ConsensusValue}
use Rattle.consensus_frame.specs.declared.value.ConsensusValue.TheVariants as own
use Rattle.consensus_doc.specs.Drafts.{all_signatures, signatures_in, signed_end}
use Rattle.consensus_laws.{specs.Again.known_signatures, proofs.ConsensusItems.ConsensusEntry}
use Rattle.consensus_laws.proofs.{ConsensusRows.{signature_entry, signature_row}, ConsensusSays.ConsensusTaken}
use Rattle.consensus_laws.proofs.SignatureLines.{name_if, signature_said, signer_same}

-- ---- signatures

-- what is said by this name
abbrev said_by : ℕ → Option (List ℕ) → SignatureLine → Option VoteSignature
said_by p name s = group.signature_said p the.DirectorySignature name s.identity s.key_digest s.signature

-- a signature in front of others, where it is known
by_tests : (a b : Bool) (bytes : List ℕ) (p : ℕ) (s : SignatureLine) (rest : List SignatureLine)
    → bytes_eq s.algorithm (codes "sha1") ≡ a → bytes_eq s.algorithm (codes "sha256") ≡ b
    → bytes_in bytes (span (group.lines_start p the.DirectorySignature
    (group.signer_text (name_if a s.algorithm) s.identity s.key_digest)) (body_text s.signature)) ≡ s.signature
    → signatures_in bytes (value.Own (own.Signature (said_by p (name_if a s.algorithm) s))) ++ rest
    ≡ (if a || b then s ∷ rest else rest)
by_tests true b bytes p s rest first second signature =
    let name = same_text s.algorithm (codes "sha1") first in
    λ i. record {
      algorithm = sym name i;
      identity = s.identity;
      key_digest = s.key_digest;
      signature = signature i;
    } ∷ rest
by_tests false b bytes p s rest first second signature =
    ap (λ (f : Option Algorithm). found_by f) (known s.algorithm first second) ∙ by b second
  where
    known : (name : List ℕ) → bytes_eq name (codes "sha1") ≡ false → bytes_eq name (codes "sha256") ≡ b
        → algorithm name ≡ (if b then Some Sha256 else None)
    known name other is = rw (other, is) refl

    found_by : Option Algorithm → List SignatureLine
    found_by f =
        signatures_in bytes (value.Own (own.Signature (option_map (λ (a : Option Algorithm).
        group.signature_at p the.DirectorySignature (Some s.algorithm) a s.identity s.key_digest s.signature)
        (option_map (λ a. Some a) f)))) ++ rest

    by : (t : Bool) → bytes_eq s.algorithm (codes "sha256") ≡ t
        → found_by (if t then Some Sha256 else None) ≡ (if t then s ∷ rest else rest)
    by true is =
        let name = same_text s.algorithm (codes "sha256") is in
        λ i. record {
          algorithm = sym name i;
          identity = s.identity;
          key_digest = s.key_digest;
          signature = signature i;
        } ∷ rest
    by false is = refl

each_signature : (limit : ℕ) (bytes : List ℕ) (place : ℕ) (lines : List SignatureLine)
    → Stand limit bytes place (map signature_entry lines)
    → all_signatures bytes (all_taken place (map signature_entry lines)) ≡ known_signatures lines
each_signature limit bytes place [] stand = refl
each_signature limit bytes place (s ∷ lines) stand =
    let next = after_one place (signature_entry s) in
    let found = signatures_in bytes (value.Own (own.Signature (signature_said place the.DirectorySignature s))) in
    let spells = subst (λ (t : List ℕ).
    bytes_in bytes (lines_at place the.DirectorySignature t (codes "SIGNATURE") s.signature) ≡ s.signature)
    (signer_same s) (spelled s.signature stand.writable.0.object.bytes stand.in_place.0 refl) in
    ap (λ (l : List SignatureLine). found ++ l)
    (each_signature limit bytes next lines (record { writable = stand.writable.1; in_place = stand.in_place.1 }))
    ∙ by_tests (bytes_eq s.algorithm (codes "sha1")) (bytes_eq s.algorithm (codes "sha256")) bytes place s
    (known_signatures lines) refl refl spells

-- weights are none
no_signature : (bytes : List ℕ) (place : ℕ) (weights : Option (List ℕ))
    → all_signatures bytes (all_taken place (text_entry_if the.BandwidthWeights weights)) ≡ []
no_signature bytes place None = refl
no_signature bytes place (Some text) = refl

-- Of the items of a footer after its first, the signatures of known algorithms are read.
pub signatures_say : (limit : ℕ) (bytes : List ℕ) (place : ℕ) (weights : Option (List ℕ)) (lines : List SignatureLine)
    → Stand limit bytes (after_all place (text_entry_if {W = ConsensusValue} the.BandwidthWeights weights))
    (map signature_entry lines)
    → all_signatures bytes
    (all_taken place (text_entry_if the.BandwidthWeights weights ++ (map signature_entry lines ++ [])))
    ≡ known_signatures lines
signatures_say limit bytes place weights lines stand =
    let w : List ConsensusEntry = text_entry_if the.BandwidthWeights weights in
    let s = map signature_entry lines in
    let after = after_all place w in
    let test : ConsensusTaken → List SignatureLine = λ one. signatures_in bytes one.value in
    ap (λ (l : List ConsensusEntry). all_signatures bytes (all_taken place (w ++ l))) (append-nil s)
    ∙ ap (all_signatures bytes) (all_taken-append place w s)
    ∙ flat_map-append test (all_taken place w) (all_taken after s)
    ∙ ap (λ (l : List SignatureLine). l ++ all_signatures bytes (all_taken after s)) (no_signature bytes place weights)
    ∙ each_signature limit bytes after lines stand

-- ---- the signed part

-- where it ends, if the first signature stands at a place
abbrev pub ends_behind : ℕ → List SignatureLine → Option ℕ
ends_behind place [] = None
ends_behind place (line ∷ lines) = Some (place + 20)

cut_off : (place : ℕ) → place ≤ 67108864 → min (place + 19 + 1) (2 ^ 64 - 1) ≡ place + 20
cut_off place within = omega (arith, within)

pub signed_end_is : {bytes : List ℕ} {taken : List (Taken (Value ConsensusValue))} (place : ℕ)
    (lines : List SignatureLine)
    → IsRead 67108864 bytes taken place (row_of_each signature_row signature_entry lines)
    → signed_end (item_at taken the.DirectorySignature) ≡ ends_behind place lines
signed_end_is place [] read = ap signed_end (item_of_row read)
signed_end_is place (line ∷ lines) read =
    ap signed_end (item_of_row read)
    ∙ ap (λ (n : ℕ). Some n) (cut_off place
    (near place (length (item_text (item_of (signature_entry line)))) read.stand.writable.0.within))
  where
    near : (place n : ℕ) → place + n ≤ 67108864 → place ≤ 67108864
    near place n within = omega (arith, within)
