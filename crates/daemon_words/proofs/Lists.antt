-- A text that is cut at its commas, and the members that its parts name.
use Rattle.std.proofs.Common.{◌≡◌, ℕ, suc, ◌+◌, true, false, List, [], ◌∷◌, ◌++◌, Option, Some, None, length, take}
use Rattle.std.{proofs.Common.{drop, refl, sym, ap, ◌∙◌, subst, arith, append_assoc}, specs.Prelude.if◌then◌else◌}
use Rattle.std.specs.{Prelude.{not, Ok, Err}, Option.option_map, List.{slice_split, onto_first}}
use Rattle.dir_values.specs.declared.{digest.Fingerprint.Fingerprint, refusal.ValueRefusal.ValueRefusal}
use Rattle.dir_values.specs.{Digests.fingerprint, Refusals.or_bad_value}
use Rattle.daemon_words.specs.{Values.{before, identities, is_comma, members}, Lending.word_len}

-- a text without a comma is one part
split_end : (text : List ℕ) → drop (word_len text) text ≡ [] → slice_split is_comma text ≡ take (word_len text) text ∷ []
split_end [] = λ none. refl
split_end (byte ∷ text) =
    elim (is_comma byte) as (λ b. drop (if not b then 1 + word_len text else 0) (byte ∷ text) ≡ []
    → (if b then [] ∷ slice_split is_comma text else onto_first byte (slice_split is_comma text)) ≡ take (if not b then 1 + word_len text else 0) (byte ∷ text) ∷ []) [
      | true ↦ λ none. absurd cc
      | false ↦ λ none.
          let one : 1 + word_len text ≡ suc (word_len text) = omega arith in
          let rest = split_end text (subst (λ (n : ℕ). drop n (byte ∷ text) ≡ []) one none) in
          ap (λ (l : List (List ℕ)). onto_first byte l) rest ∙ ap (λ (n : ℕ). take n (byte ∷ text) ∷ []) (sym one)
    ]

-- the part before the first comma, and those after it
split_more : (text : List ℕ) (comma : ℕ) (others : List ℕ) → drop (word_len text) text ≡ comma ∷ others → slice_split is_comma text ≡ take (word_len text) text ∷ slice_split is_comma others
split_more [] comma others = λ more. absurd cc
split_more (byte ∷ text) comma others =
    elim (is_comma byte) as (λ b. drop (if not b then 1 + word_len text else 0) (byte ∷ text) ≡ comma ∷ others
    → (if b then [] ∷ slice_split is_comma text else onto_first byte (slice_split is_comma text)) ≡ take (if not b then 1 + word_len text else 0) (byte ∷ text) ∷ slice_split is_comma others) [
      | true ↦ λ more. let same : text ≡ others = cc in ap (λ (l : List ℕ). [] ∷ slice_split is_comma l) same
      | false ↦ λ more.
          let one : 1 + word_len text ≡ suc (word_len text) = omega arith in
          let rest = split_more text comma others (subst (λ (n : ℕ). drop n (byte ∷ text) ≡ comma ∷ others) one more) in
          ap (λ (l : List (List ℕ)). onto_first byte l) rest ∙ ap (λ (n : ℕ). take n (byte ∷ text) ∷ slice_split is_comma others) (sym one)
    ]

-- where a part names no member, the text names none
pub none_named : (text word after : List ℕ) → word ≡ take (word_len text) text → after ≡ drop (word_len text) text → fingerprint word ≡ None → members text ≡ None
none_named text word [] word_is after_is none =
    ap identities (split_end text (sym after_is)) ∙ ap (λ (w : List ℕ). before (fingerprint w) (Some [])) (sym word_is) ∙ ap (λ (m : Option Fingerprint). before m (Some [])) none
none_named text word (comma ∷ others) word_is after_is none =
    ap identities (split_more text comma others (sym after_is)) ∙ ap (λ (w : List ℕ). before (fingerprint w) (members others)) (sym word_is)
    ∙ ap (λ (m : Option Fingerprint). before m (members others)) none

-- the last part names the last member
pub last_named : (text word after : List ℕ) (member : Fingerprint) → word ≡ take (word_len text) text → after ≡ drop (word_len text) text → fingerprint word ≡ Some member → length after ≡ 0 → members text ≡ Some (member ∷ [])
last_named text word (byte ∷ after) member word_is after_is is none = absurd (omega arith)
last_named text word [] member word_is after_is is none =
    ap identities (split_end text (sym after_is)) ∙ ap (λ (w : List ℕ). before (fingerprint w) (Some [])) (sym word_is)
    ∙ ap (λ (m : Option Fingerprint). before m (Some [])) is

joined : (done : List Fingerprint) (member : Fingerprint) (others : Option (List Fingerprint)) → option_map (λ more. done ++ more) (before (Some member) others) ≡ option_map (λ more. (done ++ member ∷ []) ++ more) others
joined done member None = refl
joined done member (Some others) = ap (λ (l : List Fingerprint). Some l) (sym (append_assoc done (member ∷ []) others))

-- a part before a comma names the next member
pub one_named : (done : List Fingerprint) (text word after others : List ℕ) (comma : ℕ) (member : Fingerprint) → word ≡ take (word_len text) text → after ≡ drop (word_len text) text
    → fingerprint word ≡ Some member → after ≡ comma ∷ others → option_map (λ more. done ++ more) (members text) ≡ option_map (λ more. (done ++ member ∷ []) ++ more) (members others)
one_named done text word after others comma member word_is after_is is more =
    let here : members text ≡ before (Some member) (members others) =
    ap identities (split_more text comma others (sym after_is ∙ more)) ∙ ap (λ (w : List ℕ). before (fingerprint w) (members others)) (sym word_is)
    ∙ ap (λ (m : Option Fingerprint). before m (members others)) is in
    ap (λ (o : Option (List Fingerprint)). option_map (λ rest. done ++ rest) o) here ∙ joined done member (members others)

-- what a reader's answer says of the text
pub not_read : (value : Option Fingerprint) (refusal : ValueRefusal) → Err refusal ≡ or_bad_value value → value ≡ None
not_read None refusal is = refl
not_read (Some value) refusal is = absurd cc

pub was_read : (value : Option Fingerprint) (member : Fingerprint) → Ok member ≡ or_bad_value value → value ≡ Some member
was_read None member is = absurd cc
was_read (Some value) member is = cc
