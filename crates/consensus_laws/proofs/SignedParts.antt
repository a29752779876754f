-- The signed part of a text with signatures, and the text of a consensus that was computed.
use Rattle.std.proofs.Common.{◌≡◌, ℕ, ◌<◌, List, [], ◌∷◌, ◌++◌, length, take, Option, Some, None, Ok, refl, sym, ap}
use Rattle.std.{proofs.{Common.{◌∙◌, append_assoc, arith}, lemmas.List.take_at}, specs.Prelude.{codes, option_map}}
use Rattle.std.specs.List.{join_with_byte}
use Rattle.dirdoc_grammar.specs.Bodies.{object_text}
use Rattle.frame_terms.specs.declared.keyword.Keyword.TheVariants as the
use Rattle.bw_weights.specs.declared.position_weights.Weights.{Weights}
use Rattle.consensus_terms.specs.{Flavours.facts_in, Lines.{line, named_text}, Signed.{signature_text, signature_texts}}
use Rattle.consensus_terms.specs.{Signed.{signed, signed_part, signer_text}, Texts.{body, facts_text, footer}}
use Rattle.consensus_terms.specs.{Texts.{footer_as_read, unsigned}, Weights.weight_words}
use Rattle.consensus_terms.specs.declared.{consensus.Consensus.Consensus, flavour.Flavour.Flavour}
use Rattle.consensus_terms.specs.declared.signature.SignatureLine.{SignatureLine}
use Rattle.consensus_doc.specs.Reading.{consensus_of}
use Rattle.consensus_laws.specs.Again.{ComputedConsensusesAreReadAgain, SignedPartsStand, as_read, with_signatures}
use Rattle.consensus_laws.proofs.{ConsensusAgain.consensuses_again, LineTexts.{lines_are, rest_is}}
use Rattle.consensus_laws.proofs.SignatureLines.{signer_filled}
use Rattle.group_laws.proofs.WrittenSignatures.{signed_end_first}

-- ---- the signed part

-- what stands in a signature behind the end of the signed part
abbrev after_signed : SignatureLine → List ℕ
after_signed s = signer_text s ++ 10 ∷ object_text (codes "SIGNATURE") s.signature

-- a signature begins with the end of the signed part
begins_signature : (s : SignatureLine) → signature_text s ≡ codes "directory-signature " ++ after_signed s
unfolding signature_text
begins_signature s =
    signed_end_first (signer_text s) s.signature (signer_filled s)

pub parts_stand : SignedPartsStand
parts_stand text lines first rest is =
    let part = signed_part text in
    let back = after_signed first ++ signature_texts rest in
    ap (λ (l : List SignatureLine). take (length part) (text ++ signature_texts l)) is
    ∙ ap (λ (l : List ℕ). take (length part) (text ++ (l ++ signature_texts rest))) (begins_signature first)
    ∙ ap (λ (l : List ℕ). take (length part) l)
    (moved text (codes "directory-signature ") (after_signed first) (signature_texts rest))
    ∙ take_at part back (length part) refl
  where
    moved : (text word after more : List ℕ) → text ++ ((word ++ after) ++ more) ≡ (text ++ word) ++ (after ++ more)
    moved text word after more = simp append_assoc refl

-- ---- a consensus that was computed

weight_some : (n : ℕ) → 0 < length (named_text (codes "Wbd") n)
unfolding named_text
weight_some n = omega arith

footer_same : (w : Option Weights)
    → footer w ≡ footer_as_read (option_map (λ (w : Weights). join_with_byte 32 (weight_words w)) w)
footer_same None = refl
footer_same (Some w) =
    ap (λ (l : List ℕ). line (codes "directory-footer") [] ++ l)
    (lines_are the.BandwidthWeights (weight_words w) (weight_some w.wmd)
    ∙ sym (rest_is the.BandwidthWeights (Some (join_with_byte 32 (weight_words w)))))

text_same : (flavour : Flavour) (c : Consensus) (lines : List SignatureLine)
    → unsigned flavour c ≡ facts_text (with_signatures flavour c lines)
unfolding unsigned facts_text
text_same flavour c lines = ap (λ (l : List ℕ). body flavour (facts_in flavour c.facts) ++ l) (footer_same c.weights)

pub computed_again : ComputedConsensusesAreReadAgain
computed_again flavour c lines are =
    let same_ = text_same flavour c lines in
    let read = as_read (with_signatures flavour c lines) in
    ap (λ (t : List ℕ). consensus_of (signed t lines)) same_
    ∙ consensuses_again (with_signatures flavour c lines) are
    ∙ (λ i. Ok (read, length (signed (sym same_ i) lines)))
