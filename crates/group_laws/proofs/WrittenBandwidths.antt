-- A line of bandwidths that was written is read again.
use Rattle.std.proofs.Common.{◌≡◌, ℕ, ◌+◌, ◌≤◌, List, [], ◌∷◌, ◌++◌, length, Option, Some, None, Ok, refl, ap, ◌∙◌}
use Rattle.std.{proofs.{Common.arith, lemmas.List.Elements.{All-cons, All-nil}}, specs.Prelude.{IfSome, codes, decimal}}
use Rattle.dir_bytes.proofs.ReadAgain.{number-decimal}
use Rattle.dir_values.specs.{Arguments.Argument, Numbers.number_of}
use Rattle.frame_values.specs.Arguments.{field, next}
use Rattle.frame_laws.proofs.{WordTexts.bytes_of, Words.{AreWords, IsWord, arguments_of_words, placed, word_of_number}}
use Rattle.relay_entries.specs.{Fields.{bandwidth_if, measured_if, with_argument}, Lines.no_bandwidths}
use Rattle.relay_entries.specs.{Lines.with_arguments, Texts.{bandwidths_text, number_word}}
use Rattle.relay_entries.specs.declared.said.Bandwidths.{Bandwidths}
use Rattle.group_laws.specs.EntryAgain.{BandwidthLinesAreReadAgain, rest_start}

abbrev IsSmall : ℕ → Type 0
IsSmall n = n ≤ 4294967295

is_read : (n : ℕ) → IsSmall n → number_of (decimal n) ≡ Some n
is_read n small = number-decimal 4294967295 n small (omega (arith, small))

-- ---- what one argument says

-- these bandwidths
abbrev of_both : Option ℕ → Option ℕ → Bandwidths
of_both bandwidth measured = record { bandwidth = bandwidth; measured = measured }

says_bandwidth : (n : ℕ) → IsSmall n
    → with_argument no_bandwidths (codes "Bandwidth=" ++ decimal n) ≡ Some (of_both (Some n) None)
says_bandwidth n small = ap (bandwidth_if no_bandwidths) (is_read n small)

says_measured : (bandwidth : Option ℕ) (n : ℕ) → IsSmall n
    → with_argument (of_both bandwidth None) (codes "Measured=" ++ decimal n) ≡ Some (of_both bandwidth (Some n))
says_measured bandwidth n small = ap (measured_if (of_both bandwidth None)) (is_read n small)

says_more : (said more : Bandwidths) (argument : Argument) (rest : List Argument)
    → with_argument said argument.text ≡ Some more
    → with_arguments said (argument ∷ rest) ≡ with_arguments more rest
unfolding with_arguments
says_more said more argument rest is =
    ap (λ (o : Option Bandwidths). next (field argument o) (λ (w : Bandwidths). with_arguments w rest)) is

says_all : (said : Bandwidths) → with_arguments said [] ≡ Ok said
unfolding with_arguments
says_all said = refl

-- ---- its words

abbrev words_of_both : Option ℕ → Option ℕ → List (List ℕ)
words_of_both bandwidth measured =
    number_word (codes "Bandwidth=") bandwidth ++ number_word (codes "Measured=") measured

bandwidth_word : (n : ℕ) → IsWord (codes "Bandwidth=" ++ decimal n)
bandwidth_word n = bytes_of (decimal n) (word_of_number n)

measured_word : (n : ℕ) → IsWord (codes "Measured=" ++ decimal n)
measured_word n = bytes_of (decimal n) (word_of_number n)

both_words : (bandwidth measured : Option ℕ) → AreWords (words_of_both bandwidth measured)
both_words None None = All-nil IsWord
both_words None (Some n) = All-cons IsWord (codes "Measured=" ++ decimal n) [] (measured_word n) (All-nil IsWord)
both_words (Some n) None = All-cons IsWord (codes "Bandwidth=" ++ decimal n) [] (bandwidth_word n) (All-nil IsWord)
both_words (Some n) (Some m) =
    All-cons IsWord (codes "Bandwidth=" ++ decimal n) ((codes "Measured=" ++ decimal m) ∷ []) (bandwidth_word n)
    (All-cons IsWord (codes "Measured=" ++ decimal m) [] (measured_word m) (All-nil IsWord))

-- ---- the law

measured_after : (place n : ℕ) (bandwidth : Option ℕ) → IsSmall n
    → with_arguments (of_both bandwidth None) (placed place ((codes "Measured=" ++ decimal n) ∷ []))
    ≡ Ok (of_both bandwidth (Some n))
measured_after place n bandwidth small =
    says_more (of_both bandwidth None) (of_both bandwidth (Some n))
    (record { place = place; text = codes "Measured=" ++ decimal n }) [] (says_measured bandwidth n small)
    ∙ says_all (of_both bandwidth (Some n))

both_said : (place : ℕ) (bandwidth measured : Option ℕ) → IfSome bandwidth IsSmall → IfSome measured IsSmall
    → with_arguments no_bandwidths (placed place (words_of_both bandwidth measured)) ≡ Ok (of_both bandwidth measured)
both_said place None None b m = says_all no_bandwidths
both_said place None (Some n) b m = measured_after place n None m
both_said place (Some n) None b m =
    says_more no_bandwidths (of_both (Some n) None)
    (record { place = place; text = codes "Bandwidth=" ++ decimal n }) [] (says_bandwidth n b)
    ∙ says_all (of_both (Some n) None)
both_said place (Some n) (Some k) b m =
    let next_place = place + length (codes "Bandwidth=" ++ decimal n) + 1 in
    says_more no_bandwidths (of_both (Some n) None)
    (record { place = place; text = codes "Bandwidth=" ++ decimal n })
    (placed next_place ((codes "Measured=" ++ decimal k) ∷ [])) (says_bandwidth n b)
    ∙ measured_after next_place k (Some n) m

pub bandwidth_again : BandwidthLinesAreReadAgain
bandwidth_again place keyword w are =
    let start = rest_start place keyword (bandwidths_text w) in
    ap (with_arguments no_bandwidths)
    (arguments_of_words start (words_of_both w.bandwidth w.measured) (both_words w.bandwidth w.measured))
    ∙ both_said start w.bandwidth w.measured are.bandwidth are.measured
