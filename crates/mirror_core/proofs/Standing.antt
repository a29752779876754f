-- Documents that stand one behind the other.
use Rattle.std.proofs.Common.{◌≡◌, ℕ, ◌+◌, ◌<◌, ◌≤◌, List, [], ◌∷◌, ◌++◌, length, drop, Result, refl, sym, ap, subst}
use Rattle.std.proofs.{Common.{◌∙◌, arith}, lemmas.{Grind.common_steps, Bool.{ltb-true, ltb-false}, List.drop_all}}
use Rattle.std.specs.Prelude.{Bool, true, false, nat_lt, Some, slice_range}
use Rattle.frame_terms.specs.declared.fault.ReadRefusal.{ReadRefusal}
use Rattle.frame_terms.specs.declared.fault.ReadRefusal.TheVariants as read
use Rattle.item_terms.specs.Lines.{lines}
use Rattle.blank_lines.specs.Blanks.{after_blanks, first_other}
use Rattle.mirror_core.specs.{Inputs.{Stand, StandsAt}, Reads.IsThere}

-- where a line that is not blank follows, bytes are left
pub some_left : (bytes : List ℕ) (place begin : ℕ) → Some begin ≡ after_blanks place bytes → place < length bytes
unfolding first_other
some_left bytes place begin is = by (nat_lt place (length bytes)) refl
  where
    by : (b : Bool) → nat_lt place (length bytes) ≡ b → place < length bytes
    by true e = ltb-true place (length bytes) e
    by false e =
        let none : drop place bytes ≡ [] = drop_all place bytes (ltb-false place (length bytes) e) in
        let left : Some begin ≡ first_other place (lines []) = is ∙ ap (λ (l : List ℕ). first_other place (lines l)) none in
        absurd (cc left)

-- one document more, and at least one byte
pub one_more_document_at_most : {X : Type 0} (xs ys : List X) (x : X) (place next : ℕ) → ys ≡ xs ++ x ∷ [] → length xs ≤ place → place < next
    → length ys ≤ next
one_more_document_at_most xs ys x place next is few further = rw is (grind (arith, common_steps))

module _ {X : Type 0} (document_of : List ℕ → Result (X × ℕ) ReadRefusal) where
  -- one more behind those that stand
  pub stands_more : (bytes : List ℕ) (place : ℕ) (documents : List (X × List ℕ)) (last : ℕ) (one : X × List ℕ) (next : ℕ)
      → Stand document_of bytes place documents last → StandsAt document_of bytes last one next
      → Stand document_of bytes place (documents ++ one ∷ []) next
  stands_more bytes place [] last one next is there =
      (next, subst (λ (from : ℕ). StandsAt document_of bytes from one next) is there, refl)
  stands_more bytes place (first ∷ documents) last one next is there =
      (is.0, is.1, stands_more bytes is.0 documents last one next is.2 there)

  -- the document that was read there, with its text
  pub one_there : (bytes : List ℕ) (place begin next : ℕ) (document : X) (text : List ℕ)
      → Some begin ≡ after_blanks place bytes → IsThere document_of bytes place document next
      → text ≡ slice_range bytes begin next → StandsAt document_of bytes place (document, text) next
  one_there bytes place begin next document text begins there is = record {
    begin = begin;
    used = there.used;
    begins = sym begins;
    reads = there.reads;
    next_is = there.next_is;
    text_is = is;
  }
