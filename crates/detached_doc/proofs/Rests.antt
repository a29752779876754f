-- The rest of a line that is not empty stands behind a space.
use Rattle.std.proofs.Common.{◌≡◌, ℕ, ◌<◌, Bool, true, false, List, [], ◌∷◌, ◌++◌, length, refl, sym, ap, ◌∙◌, arith}
use Rattle.std.{proofs.Common.{Option, append_assoc}, specs.{Prelude.{codes, if◌then◌else◌}, Str.bytes_eq}}
use Rattle.dir_bytes.{specs.FieldTexts.hex_text, proofs.Spelling.length-hex_text}
use Rattle.dirdoc_grammar.specs.{Bodies.object_text, Writing.{item_text, tail}}
use Rattle.consensus_terms.specs.{Signed.{signature_item, signer_text}, declared.signature.SignatureLine.SignatureLine}
use Rattle.text_page.{specs.Pages.{Sheet, with_text}, proofs.Pages.also}
use Rattle.detached_doc.specs.Private.{named_part, signer_part}

tail_some : (rest : List ℕ) → 0 < length rest → tail rest ≡ 32 ∷ rest
tail_some [] some = absurd (omega (arith, some))
tail_some (b ∷ rest) some = refl

-- a rest of two words or more; a moment is one
pub tail_two : (first rest : List ℕ) → tail (first ++ 32 ∷ rest) ≡ 32 ∷ (first ++ 32 ∷ rest)
tail_two [] rest = refl
tail_two (b ∷ first) rest = refl

-- a rest of twenty bytes in hex
pub tail_hex : (digest : List ℕ) → length digest ≡ 20 → tail (hex_text digest) ≡ 32 ∷ hex_text digest
tail_hex digest n = tail_some (hex_text digest) (omega (arith, n, length-hex_text digest))

-- ---- the parts of a signature over the ns flavour

moved : (identity key object : List ℕ)
    → (identity ++ 32 ∷ (key ++ 10 ∷ [])) ++ object ≡ (identity ++ 32 ∷ key) ++ 10 ∷ object
moved identity key object =
    append_assoc identity (32 ∷ (key ++ 10 ∷ [])) object
    ∙ ap (λ (l : List ℕ). identity ++ 32 ∷ l) (append_assoc key (10 ∷ []) object)
    ∙ sym (append_assoc identity (32 ∷ key) (10 ∷ object))

plain_rest : (sha1 : Bool) (name identity key object : List ℕ)
    → (if sha1 then [] else 32 ∷ name) ++ ((32 ∷ (identity ++ 32 ∷ (key ++ 10 ∷ []))) ++ object)
    ≡ tail ((if sha1 then [] else name ++ 32 ∷ []) ++ identity ++ 32 ∷ key) ++ 10 ∷ object
plain_rest true name identity key object =
    ap (λ (l : List ℕ). 32 ∷ l) (moved identity key object)
    ∙ sym (ap (λ (l : List ℕ). l ++ 10 ∷ object) (tail_two identity key))
plain_rest false name identity key object =
    let rest = identity ++ 32 ∷ key in
    let words : ((name ++ 32 ∷ []) ++ identity) ++ 32 ∷ key ≡ name ++ 32 ∷ rest =
    append_assoc (name ++ 32 ∷ []) identity (32 ∷ key) ∙ append_assoc name (32 ∷ []) rest in
    ap (λ (l : List ℕ). 32 ∷ (name ++ 32 ∷ l)) (moved identity key object)
    ∙ sym (ap (λ (l : List ℕ). 32 ∷ l) (append_assoc name (32 ∷ rest) (10 ∷ object)))
    ∙ sym (ap (λ (l : List ℕ). l ++ 10 ∷ object) (ap tail words ∙ tail_two name rest))

pub plain_parts : (line : SignatureLine)
    → codes "directory-signature" ++ (named_part line.algorithm
    ++ (signer_part line ++ object_text (codes "SIGNATURE") line.signature))
    ≡ item_text (signature_item line)
plain_parts line =
    let keyword : List ℕ = codes "directory-signature" in
    let object = object_text (codes "SIGNATURE") line.signature in
    ap (λ (l : List ℕ). keyword ++ l)
    (plain_rest (bytes_eq line.algorithm (codes "sha1")) line.algorithm (hex_text line.identity.0)
    (hex_text line.key_digest.0) object)
    ∙ sym (append_assoc keyword (tail (signer_text line)) (10 ∷ object))

-- they are put on a page one after the other
pub plain_four : (start first second third last : Option Sheet) (line : SignatureLine) (name object : List ℕ)
    → name ≡ line.algorithm → object ≡ line.signature → first ≡ with_text start (codes "directory-signature")
    → second ≡ with_text first (named_part name) → third ≡ with_text second (signer_part line)
    → last ≡ with_text third (object_text (codes "SIGNATURE") object)
    → last ≡ with_text start (item_text (signature_item line))
plain_four start first second third last line name object is_name is_object a b c d =
    let keyword : List ℕ = codes "directory-signature" in
    let named = named_part line.algorithm in
    let signer = signer_part line in
    let whole = object_text (codes "SIGNATURE") line.signature in
    let named_is : second ≡ with_text first named =
    b ∙ ap (λ (n : List ℕ). with_text first (named_part n)) is_name in
    let whole_is : last ≡ with_text third whole =
    d ∙ ap (λ (o : List ℕ). with_text third (object_text (codes "SIGNATURE") o)) is_object in
    also start first last keyword (named ++ (signer ++ whole)) a
    (also first second last named (signer ++ whole) named_is (also second third last signer whole c whole_is))
    ∙ ap (λ (l : List ℕ). with_text start l) (plain_parts line)

-- ---- lines

-- a keyword and the rest of its line
pub line_put : (start first second third last : Option Sheet) (keyword rest : List ℕ) → first ≡ with_text start keyword
    → second ≡ with_text first (32 ∷ []) → third ≡ with_text second rest → last ≡ with_text third (10 ∷ [])
    → tail rest ≡ 32 ∷ rest → last ≡ with_text start ((keyword ++ tail rest) ++ 10 ∷ [])
line_put start first second third last keyword rest a b c d is =
    also start third last (keyword ++ tail rest) (10 ∷ [])
    (also start first third keyword (tail rest) a
    (also first second third (32 ∷ []) rest b c ∙ ap (λ (l : List ℕ). with_text first l) (sym is)))
    d

-- the rest of a line that names another flavour, where it ends so
pub two_words_rest : (keyword first second third : List ℕ)
    → (keyword ++ 32 ∷ (first ++ 32 ∷ second)) ++ 32 ∷ third
    ≡ keyword ++ tail (first ++ 32 ∷ (second ++ 32 ∷ third))
two_words_rest keyword first second third =
    append_assoc keyword (32 ∷ (first ++ 32 ∷ second)) (32 ∷ third)
    ∙ ap (λ (l : List ℕ). keyword ++ 32 ∷ l) (append_assoc first (32 ∷ second) (32 ∷ third))
    ∙ ap (λ (l : List ℕ). keyword ++ l) (sym (tail_two first (second ++ 32 ∷ third)))

-- the digest of another flavour
pub digest_put : (start first second third last : Option Sheet) (keyword flavour algorithm digest : List ℕ)
    → first ≡ with_text start (keyword ++ 32 ∷ (flavour ++ 32 ∷ algorithm)) → second ≡ with_text first (32 ∷ [])
    → third ≡ with_text second digest → last ≡ with_text third (10 ∷ [])
    → last ≡ with_text start ((keyword ++ tail (flavour ++ 32 ∷ (algorithm ++ 32 ∷ digest))) ++ 10 ∷ [])
digest_put start first second third last keyword flavour algorithm digest a b c d =
    let words = keyword ++ 32 ∷ (flavour ++ 32 ∷ algorithm) in
    also start third last (keyword ++ tail (flavour ++ 32 ∷ (algorithm ++ 32 ∷ digest))) (10 ∷ [])
    (also start first third words (32 ∷ digest) a (also first second third (32 ∷ []) digest b c)
    ∙ ap (λ (l : List ℕ). with_text start l) (two_words_rest keyword flavour algorithm digest))
    d

-- a signature over another flavour
pub additional_put : (start first second last : Option Sheet) (keyword flavour algorithm identity key object : List ℕ)
    → first ≡ with_text start (keyword ++ 32 ∷ (flavour ++ 32 ∷ algorithm))
    → second ≡ with_text first (32 ∷ (identity ++ 32 ∷ (key ++ 10 ∷ []))) → last ≡ with_text second object
    → last
    ≡ with_text start ((keyword ++ tail (flavour ++ 32 ∷ (algorithm ++ 32 ∷ (identity ++ 32 ∷ key)))) ++ 10 ∷ object)
additional_put start first second last keyword flavour algorithm identity key object a b c =
    let words = keyword ++ 32 ∷ (flavour ++ 32 ∷ algorithm) in
    let rest = identity ++ 32 ∷ key in
    also start first last words ((32 ∷ (identity ++ 32 ∷ (key ++ 10 ∷ []))) ++ object) a
    (also first second last (32 ∷ (identity ++ 32 ∷ (key ++ 10 ∷ []))) object b c)
    ∙ ap (λ (l : List ℕ). with_text start l)
    (ap (λ (l : List ℕ). words ++ 32 ∷ l) (moved identity key object)
    ∙ sym (append_assoc words (32 ∷ rest) (10 ∷ object))
    ∙ ap (λ (l : List ℕ). l ++ 10 ∷ object) (two_words_rest keyword flavour algorithm rest))
