-- A line of a relay's Ed25519 identity that was written is read again.
use Rattle.std.proofs.Common.{◌≡◌, ℕ, ◌+◌, false, List, [], ◌∷◌, ◌++◌, length, Option, Some, None, Ok, refl, ap, subst}
use Rattle.std.{proofs.Common.{◌∙◌, arith}, specs.Prelude.{codes, nat_eq, option_map, if◌then◌else◌}}
use Rattle.std.specs.{Cmp.Lexicographic.unequal, Str.bytes_eq}
use Rattle.dir_bytes.{specs.FieldTexts.base64_text, proofs.Spelling.length-base64_text}
use Rattle.dir_values.specs.{Arguments.Argument, Digests.digest2}
use Rattle.dirdoc_grammar.specs.Writing.{written}
use Rattle.frame_terms.specs.declared.keyword.Keyword.{Keyword}
use Rattle.frame_values.specs.{Arguments.arguments_of, Items.bare}
use Rattle.frame_laws.proofs.Words.{IsWord, arguments_of_words, two_words}
use Rattle.item_terms.specs.Items.{Item}
use Rattle.relay_entries.specs.{Fields.{ed_opinion, this_key}, Lines.{ed_of, is_ignored}}
use Rattle.relay_entries.specs.declared.said.EdOpinion.{EdOpinion}
use Rattle.relay_entries.specs.declared.said.EdOpinion.TheVariants as opinion
use Rattle.relay_entries.specs.declared.said.EntryKind.TheVariants as kind
use Rattle.group_laws.specs.{EntryAgain.{KeyLinesAreReadAgain, rest_start}, Ranges.AreThirtyTwo}
use Rattle.group_laws.proofs.WrittenMicros.{digest_again, word_of_thirty_two}

-- ---- what the second argument says

-- the base64 of a key is not `none`
not_none : (bytes : List ℕ) → AreThirtyTwo bytes → bytes_eq (base64_text bytes) (codes "none") ≡ false
not_none bytes are =
    unequal nat_eq (base64_text bytes) (codes "none")
    (λ same. differ (length (base64_text bytes)) (size bytes are) same)
  where
    size : (bytes : List ℕ) → AreThirtyTwo bytes → length (base64_text bytes) ≡ 43
    size bytes are = omega (arith, length-base64_text bytes, are.count)

    differ : (n : ℕ) → n ≡ 43 → n ≡ 4 → ⊥
    differ n is same = omega (arith, is, same)

opinion_again : (bytes : List ℕ) → AreThirtyTwo bytes → ed_opinion (base64_text bytes) ≡ Some (opinion.Key bytes)
opinion_again bytes are =
    let found : Option EdOpinion = option_map this_key (digest2 (base64_text bytes)) in
    ap (λ t. if t then Some opinion.None else found) (not_none bytes are)
    ∙ ap (option_map this_key) (digest_again (record { 0 = bytes }) are)

-- ---- an item whose arguments are known

ed_is : (item : Item) (a b : Argument) (said : EdOpinion) → arguments_of item ≡ a ∷ b ∷ []
    → ed_opinion b.text ≡ Some said
    → ed_of item ≡ Ok said
ed_is item a b said args is = rw (args, is) refl

ed_known : (item : Item) (b : Argument) (start : ℕ)
    → arguments_of item ≡ record { place = start; text = codes "ed25519" } ∷ b ∷ [] → is_ignored kind.Ed item ≡ false
ed_known item b start args = rw args refl

-- ---- the law

-- a text is a line that is read as this opinion, and is not passed over
abbrev IsReadAs : ℕ → Keyword → EdOpinion → List ℕ → Type 0
IsReadAs place keyword said text =
    (ed_of (written place (bare keyword text)) ≡ Ok said)
    × (is_ignored kind.Ed (written place (bare keyword text)) ≡ false)

-- a word behind `ed25519`
word_read : (place : ℕ) (keyword : Keyword) (word : List ℕ) (said : EdOpinion) → IsWord word
    → ed_opinion word ≡ Some said
    → IsReadAs place keyword said (codes "ed25519 " ++ word)
word_read place keyword word said is_word is =
    let text = codes "ed25519 " ++ word in
    let item = written place (bare keyword text) in
    let start = rest_start place keyword text in
    let a : Argument = record { place = start; text = codes "ed25519" } in
    let b : Argument = record { place = start + length (codes "ed25519") + 1; text = word } in
    let args = arguments_of_words start (codes "ed25519" ∷ word ∷ []) (two_words (codes "ed25519") word refl is_word) in
    (ed_is item a b said args is, ed_known item b start args)

the_text : (a b : List ℕ) → Some a ≡ Some b → a ≡ b
the_text a b is = cc

no_text : (text : List ℕ) → None ≡ Some text → ⊥
no_text text is = cc

pub key_again : KeyLinesAreReadAgain
key_again place keyword (opinion.Key bytes) text is are =
    let word = base64_text bytes in
    subst (IsReadAs place keyword (opinion.Key bytes)) (the_text (codes "ed25519 " ++ word) text is)
    (word_read place keyword word (opinion.Key bytes) (word_of_thirty_two bytes are) (opinion_again bytes are))
key_again place keyword opinion.None text is are =
    subst (IsReadAs place keyword opinion.None) (the_text (codes "ed25519 none") text is)
    (word_read place keyword (codes "none") opinion.None refl refl)
key_again place keyword opinion.Absent text is are = absurd (no_text text is)
