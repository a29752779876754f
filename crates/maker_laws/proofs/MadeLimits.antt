-- Items whose lines and objects are short enough pass no limit where the whole text passes none.
use Rattle.std.proofs.Common.{◌≡◌, ℕ, ◌+◌, ◌*◌, ◌≤◌, List, [], ◌∷◌, ◌++◌, length, length-append, get_or, Option, Some}
use Rattle.std.proofs.{Common.{None, ap, ◌∙◌, arith}, lemmas.List.Elements.{All-append, All-cons, All-head, All-nil}}
use Rattle.std.{proofs.lemmas.List.Elements.All-tail, specs.Prelude.{All, IfSome, codes}}
use Rattle.dir_values.specs.declared.algorithm.Algorithm.{Algorithm, TheVariants.{Sha1, Sha256}}
use Rattle.item_terms.specs.Faults.{max_line, max_object}
use Rattle.dir_bytes.{specs.FieldTexts.hex_text, proofs.Spelling.length-hex_text}
use Rattle.dirdoc_grammar.specs.{Bodies.object_text, Writing.{NewItem, NewObject, item_text, items_text, tail}}
use Rattle.grammar_laws.specs.Written.{AreWithinLimits}
use Rattle.frame_terms.specs.{Keywords.text_of, declared.keyword.Keyword.Keyword}
use Rattle.frame_terms.specs.declared.keyword.Keyword.TheVariants as the
use Rattle.frame_values.specs.Items.{bare, with_object}
use Rattle.key_port.specs.Signing.{signature_limit}
use Rattle.vote_terms.specs.{declared.facts.{SignatureFacts.SignatureFacts, VoteFacts.VoteFacts}, Votes.max_vote}
use Rattle.vote_text.specs.{Entries.entries_items, Made.made_text, Texts.{authority_items, footer_items}}
use Rattle.vote_text.specs.Texts.{preamble_items, signer_text, algorithm_text}
use Rattle.vote_laws.{specs.{Again.IsSignatureInRange, Made.IsMadeInRange}, proofs.MadeTexts.{before_same, before_text}}
use Rattle.vote_laws.proofs.{MadeTexts.{behind_same, behind_text, text_parts}, MayWrite.items_writable}
use Rattle.range_laws.proofs.TextSizes.{keyword_short, tail_short}
use Rattle.maker_laws.{specs.{Lines.HasShortLine, ReadAsMade.IsMadeInRangeButForLimits}, proofs.ObjectFits.object_fits}

-- ---- lines

-- a line whose rest has a million bytes at most is short
pub line_short : (keyword : Keyword) (rest : List ℕ) → length rest ≤ 1000000
    → length (text_of keyword ++ tail rest) + 1 ≤ max_line
line_short keyword rest few =
    omega (arith, few, keyword_short keyword, tail_short rest, length-append (text_of keyword) (tail rest))

-- ---- objects

abbrev HasShortObject : NewItem → Type 0
HasShortObject item =
    IfSome item.object (λ (object : NewObject). length (object_text object.words object.bytes) ≤ max_object)

-- neither the line nor the object is too long
pub record IsShort (item : NewItem) : Type 0 where
  pub line : HasShortLine item
  pub object : HasShortObject item

-- ---- items one behind the other

pub short_within : (limit place : ℕ) (items : List NewItem) → All IsShort items
    → place + length (items_text items) ≤ limit → AreWithinLimits limit place items
short_within limit place [] all fits = tt
short_within limit place (item ∷ items) all fits =
    let one = All-head IsShort item items all in
    let size = length-append (item_text item) (items_text items) in (
      record { line = one.line; object = one.object; within = omega (arith, fits, size) },
      short_within limit (place + length (item_text item)) items (All-tail IsShort item items all)
          (omega (arith, fits, size)),
    )

-- ---- the footer

signer_short : (signature : SignatureFacts) → IsSignatureInRange signature → length (signer_text signature) ≤ 1000000
signer_short signature are =
    let a = hex_text signature.identity.0 in
    let b = hex_text signature.key_digest.0 in
    let first : length a ≡ 40 = length-hex_text signature.identity.0 ∙ ap (λ (n : ℕ). 2 * n) are.identity.count in
    let second : length b ≡ 40 = length-hex_text signature.key_digest.0 ∙ ap (λ (n : ℕ). 2 * n) are.key_digest.count in
    by signature.algorithm a b first second
  where
    two_digests : (a b : List ℕ) → length a ≡ 40 → length b ≡ 40 → length (a ++ 32 ∷ b) ≡ 81
    two_digests a b first second = omega (arith, first, second, length-append a (32 ∷ b))

    by : (algorithm : Algorithm) (a b : List ℕ) → length a ≡ 40 → length b ≡ 40
        → length (algorithm_text algorithm ++ a ++ 32 ∷ b) ≤ 1000000
    by Sha1 a b first second = omega (arith, two_digests a b first second)
    by Sha256 a b first second =
        omega (arith, first, second, length-append (codes "sha256 " ++ a) (32 ∷ b), length-append (codes "sha256 ") a)

footer_short : (signature : SignatureFacts) → IsSignatureInRange signature
    → length signature.signature ≤ signature_limit → All IsShort (footer_items signature)
footer_short signature are few =
    let last = with_object the.DirectorySignature (signer_text signature) (codes "SIGNATURE") signature.signature in
    All-cons IsShort (bare the.DirectoryFooter []) (last ∷ [])
    (record { line = line_short the.DirectoryFooter [] (omega arith); object = tt })
    (All-cons IsShort last []
    (record {
      line = line_short the.DirectorySignature (signer_text signature) (signer_short signature are);
      object = object_fits signature.signature few;
    })
    (All-nil IsShort))

-- ---- a made vote

-- items without objects
abbrev pub HasNone : NewItem → Type 0
HasNone item = item.object ≡ None

none_short : (object : Option NewObject) → object ≡ None
    → IfSome object (λ (o : NewObject). length (object_text o.words o.bytes) ≤ max_object)
none_short None is = tt
none_short (Some object) is = absurd (cc (is))

lines_short : (items : List NewItem) → All HasShortLine items → All HasNone items → All IsShort items
lines_short items lines none =
    λ k d lt. record { line = lines k d lt; object = none_short (get_or items k d).object (none k d lt) }

pub made_in_range : (facts : VoteFacts) (bytes : List ℕ) → length facts.signature.signature ≤ signature_limit
    → IsMadeInRangeButForLimits facts → length (made_text facts bytes) ≤ max_vote
    → All HasShortLine (preamble_items facts ++ authority_items facts)
    → All HasShortLine (entries_items facts.entries)
    → All HasNone (preamble_items facts ++ authority_items facts) → All HasNone (entries_items facts.entries)
    → IsMadeInRange facts bytes
made_in_range facts bytes few may fits lines_before lines_behind none_before none_behind =
    let before = preamble_items facts ++ authority_items facts in
    let entries = entries_items facts.entries in
    let behind = entries ++ footer_items facts.signature in
    let first : length (items_text before) ≡ length (before_text facts) =
    ap (λ (l : List NewItem). length (items_text l)) (before_same facts) in
    let second : length (items_text behind) ≡ length (behind_text facts) =
    ap (λ (l : List NewItem). length (items_text l)) (behind_same facts) in
    let whole : length (made_text facts bytes) ≡ length (before_text facts ++ (bytes ++ behind_text facts)) =
    ap (λ (l : List ℕ). length l) (text_parts facts bytes) in
    let sizes = length-append (before_text facts) (bytes ++ behind_text facts) in
    let sizes_behind = length-append bytes (behind_text facts) in
    let short_behind : All IsShort behind =
    All-append IsShort entries (footer_items facts.signature) (lines_short entries lines_behind none_behind)
    (footer_short facts.signature may.values.signature few) in
    record {
      values = may.values;
      before = items_writable max_vote 0 before may.before
          (short_within max_vote 0 before (lines_short before lines_before none_before)
          (omega (arith, fits, first, whole, sizes)));
      behind = items_writable max_vote 0 behind may.behind
          (short_within max_vote 0 behind short_behind (omega (arith, fits, second, whole, sizes, sizes_behind)));
      fits = fits;
    }
