-- The weights of bandwidth fill a line.
use Rattle.std.proofs.{Common.{ℕ, List, [], ◌∷◌, ◌++◌, refl}, lemmas.List.Elements.{All-append, All-cons, All-nil}}
use Rattle.std.specs.{Prelude.codes, List.join_with_byte}
use Rattle.item_terms.specs.Bytes.{space}
use Rattle.bw_weights.specs.declared.position_weights.Weights.{Weights}
use Rattle.dirdoc_grammar.specs.Writing.{IsLineRest}
use Rattle.frame_laws.proofs.WordTexts.{AreWords, IsWord}
use Rattle.value_laws.proofs.LineWords.{rest_of_words}
use Rattle.consensus_terms.specs.{Lines.named_text, Weights.{directory_words, exit_words, guard_words, middle_words}}
use Rattle.consensus_terms.specs.Weights.{weight_words}
use Rattle.computed_laws.proofs.Forms.{named_word}

record HaveWords (words : List (List ℕ)) : Type 0 where
  each : AreWords words

none : HaveWords []
none = record { each = All-nil IsWord }

-- one more weight
with_weight : {words : List (List ℕ)} (name : List ℕ) (number : ℕ) → IsWord name → HaveWords words
    → HaveWords (named_text name number ∷ words)
with_weight {words} name number is are =
    record { each = All-cons IsWord (named_text name number) words (named_word name number is) are.each }

directory : (w : Weights) → HaveWords (directory_words w)
directory w =
    with_weight (codes "Wbd") w.wmd refl (with_weight (codes "Wbe") w.wme refl (with_weight (codes "Wbg") w.wmg refl
    (with_weight (codes "Wbm") w.scale refl (with_weight (codes "Wdb") w.scale refl none))))

exits : (w : Weights) → HaveWords (exit_words w)
exits w =
    with_weight (codes "Web") w.scale refl (with_weight (codes "Wed") w.wed refl (with_weight (codes "Wee") w.wee refl
    (with_weight (codes "Weg") w.wed refl (with_weight (codes "Wem") w.wee refl none))))

guards : (w : Weights) → HaveWords (guard_words w)
guards w =
    with_weight (codes "Wgb") w.scale refl (with_weight (codes "Wgd") w.wgd refl (with_weight (codes "Wgg") w.wgg refl
    (with_weight (codes "Wgm") w.wgg refl none)))

middles : (w : Weights) → HaveWords (middle_words w)
middles w =
    with_weight (codes "Wmb") w.scale refl (with_weight (codes "Wmd") w.wmd refl (with_weight (codes "Wme") w.wme refl
    (with_weight (codes "Wmg") w.wmg refl (with_weight (codes "Wmm") w.scale refl none))))

pub weights_fill : (w : Weights) → IsLineRest (join_with_byte space (weight_words w))
weights_fill w =
    let a : List (List ℕ) = directory_words w in
    let b : List (List ℕ) = exit_words w in
    let c : List (List ℕ) = guard_words w in
    let d : List (List ℕ) = middle_words w in
    rest_of_words (weight_words w)
    (All-append IsWord (a ++ b ++ c) d
    (All-append IsWord (a ++ b) c (All-append IsWord a b (directory w).each (exits w).each) (guards w).each) (middles w).each)
