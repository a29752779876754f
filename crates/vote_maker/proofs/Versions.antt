-- The version that a platform names, by its arguments.
use Rattle.std.proofs.Common.{◌≡◌, ℕ, Bool, true, false, List, [], ◌∷◌, ◌++◌, Some, None, sym, ap, ◌∙◌}
use Rattle.std.specs.{Prelude.{codes, if◌then◌else◌}, Str.bytes_eq}
use Rattle.item_terms.specs.{Bytes.space, Words.words_of}
use Rattle.dir_values.{specs.Arguments.{Argument, arguments_at, texts_of}, proofs.ArgumentWords.arguments_words}
use Rattle.vote_maker.specs.Entries.{version_of_platform, version_of_words}

words_are : (platform : List ℕ) (all : List Argument) → all ≡ arguments_at 0 platform
    → words_of platform ≡ texts_of all
words_are platform all at =
    sym (ap (λ (l : List Argument). texts_of l) at ∙ arguments_words 0 platform)

pub no_word : (platform : List ℕ) (all : List Argument) → all ≡ arguments_at 0 platform → all ≡ []
    → None ≡ version_of_platform platform
no_word platform all at none =
    sym (ap (λ (l : List (List ℕ)). version_of_words l)
    (words_are platform all at ∙ ap (λ (l : List Argument). texts_of l) none))

pub one_word : (platform : List ℕ) (all more : List Argument) (name : Argument) → all ≡ arguments_at 0 platform
    → all ≡ name ∷ more → more ≡ [] → None ≡ version_of_platform platform
one_word platform all more name at first none =
    sym (ap (λ (l : List (List ℕ)). version_of_words l)
    (words_are platform all at
    ∙ ap (λ (l : List Argument). texts_of l) (first ∙ ap (λ (l : List Argument). name ∷ l) none)))

-- what the first two words make
two_make : (platform : List ℕ) (all more others : List Argument) (name number : Argument)
    → all ≡ arguments_at 0 platform → all ≡ name ∷ more → more ≡ number ∷ others
    → version_of_platform platform
    ≡ (if bytes_eq name.text (codes "Tor") then Some (name.text ++ space ∷ number.text) else None)
two_make platform all more others name number at first second =
    ap (λ (l : List (List ℕ)). version_of_words l)
    (words_are platform all at
    ∙ ap (λ (l : List Argument). texts_of l) (first ∙ ap (λ (l : List Argument). name ∷ l) second))

if_tor : (b is : Bool) (version : List ℕ) → b ≡ is
    → (if b then Some version else None) ≡ (if is then Some version else None)
if_tor b is version same = ap (λ (t : Bool). if t then Some version else None) same

pub tor_named : (platform : List ℕ) (all more others : List Argument) (name number : Argument)
    → all ≡ arguments_at 0 platform → all ≡ name ∷ more → more ≡ number ∷ others
    → bytes_eq name.text (codes "Tor") ≡ true
    → Some (name.text ++ space ∷ number.text) ≡ version_of_platform platform
tor_named platform all more others name number at first second is =
    sym (two_make platform all more others name number at first second
    ∙ if_tor (bytes_eq name.text (codes "Tor")) true (name.text ++ space ∷ number.text) is)

pub other_named : (platform : List ℕ) (all more others : List Argument) (name number : Argument)
    → all ≡ arguments_at 0 platform → all ≡ name ∷ more → more ≡ number ∷ others
    → bytes_eq name.text (codes "Tor") ≡ false → None ≡ version_of_platform platform
other_named platform all more others name number at first second is =
    sym (two_make platform all more others name number at first second
    ∙ if_tor (bytes_eq name.text (codes "Tor")) false (name.text ++ space ∷ number.text) is)
