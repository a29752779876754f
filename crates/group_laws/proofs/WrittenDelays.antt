-- A line of two numbers of seconds, or of flags, that was written is read again.
use Rattle.std.proofs.Common.{◌≡◌, ℕ, ◌+◌, [], ◌∷◌, List, length, Option, Some, Ok, refl, ap, ◌∙◌, arith, true}
use Rattle.std.specs.Prelude.{All, decimal}
use Rattle.item_terms.specs.{Items.Item, Words.words_of}
use Rattle.dir_bytes.proofs.ReadAgain.{number-decimal}
use Rattle.dir_values.specs.{Arguments.Argument, FlagSets.{Ascend, as_set, set_text, is_name, wrong_flag}}
use Rattle.dir_values.specs.Numbers.{number_of}
use Rattle.dirdoc_grammar.specs.Writing.{written}
use Rattle.frame_terms.specs.declared.keyword.Keyword.{Keyword}
use Rattle.frame_values.specs.{Arguments.arguments_of, Items.bare, Lines.{delays_of, flags_of, rest_unless}}
use Rattle.frame_laws.proofs.Words.{arguments_of_words, length-arguments_at, two_words, word_of_number, words_of-join}
use Rattle.frame_laws.proofs.{Words.words_of_flags, WrittenItems.{rest_at, start_of}}
use Rattle.group_laws.specs.LineAgain.{DelayLinesAreReadAgain, FlagLinesAreReadAgain, delays_text}
use Rattle.group_laws.proofs.WrittenFlags.{as_set-same, passes}

-- ---- two numbers of seconds

delays_is : (item : Item) (a b : Argument) (vote dist : ℕ) → arguments_of item ≡ a ∷ b ∷ []
    → number_of a.text ≡ Some vote
    → number_of b.text ≡ Some dist → delays_of item ≡ Ok (vote, dist)
delays_is item a b vote dist args first second = rw (args, first, second) refl

pub delays_again : DelayLinesAreReadAgain
delays_again p k vote_seconds dist_seconds vote dist =
    let a = decimal vote_seconds in
    let b = decimal dist_seconds in
    let text = delays_text vote_seconds dist_seconds in
    let start = start_of p k text in
    let args =
    arguments_of_words start (a ∷ b ∷ []) (two_words a b (word_of_number vote_seconds) (word_of_number dist_seconds)) in
    delays_is (written p (bare k text)) (record { place = start; text = a })
    (record { place = start + length a + 1; text = b })
    vote_seconds dist_seconds args
    (number-decimal 4294967295 vote_seconds vote (omega (arith, vote)))
    (number-decimal 4294967295 dist_seconds dist (omega (arith, dist)))

-- ---- flags

-- flags that ascend
pub flags-written : (p : ℕ) (k : Keyword) (flags : List (List ℕ)) → Ascend flags
    → All (λ flag. is_name flag ≡ true) flags
    → flags_of (written p (bare k (set_text flags))) ≡ Ok (rest_at p k (set_text flags))
flags-written p k flags up each =
    let text = set_text flags in
    let item = written p (bare k text) in
    ap (λ (l : List Argument). rest_unless (wrong_flag [] l) item)
    (arguments_of_words (start_of p k text) flags (words_of_flags flags each))
    ∙ ap (λ (o : Option ℕ). rest_unless o item) (passes (start_of p k text) flags up each)

-- the set that is read is that
pub as_set-text : (flags : List (List ℕ)) → Ascend flags → All (λ flag. is_name flag ≡ true) flags
    → as_set (words_of (set_text flags)) ≡ flags
as_set-text flags up each = ap as_set (words_of-join flags (words_of_flags flags each)) ∙ as_set-same flags up

-- how many arguments they are
pub length-flags : (p : ℕ) (k : Keyword) (flags : List (List ℕ)) → All (λ flag. is_name flag ≡ true) flags
    → length (arguments_of (written p (bare k (set_text flags)))) ≡ length flags
length-flags p k flags each = length-arguments_at (start_of p k (set_text flags)) flags (words_of_flags flags each)

pub flags_again : FlagLinesAreReadAgain
flags_again p k flags are = (flags-written p k flags are.ascend are.each, as_set-text flags are.ascend are.each)
