-- What stands in the line of a signature.
use Rattle.std.proofs.Common.{◌+◌, ◌<◌, get_or, take_all, ◌≡◌, ◌≢◌, ℕ, zero, suc, ◌-◌, ◌/◌, ◌≤◌, true, false, nat_eq}
use Rattle.std.proofs.Common.{not, List, [], ◌∷◌, ◌++◌, length, take, drop, codes, Option, Some, None, IfSome, Result}
use Rattle.std.proofs.Common.{refl, sym, ap, subst, ◌∙◌, arith, Ok, Err, inl, inr, slice_index_or}
use Rattle.std.proofs.lemmas.{Bool.{and_parts, cases_eq}, Grind.common_steps, List.Folds.list_all-append}
use Rattle.std.proofs.{lemmas.List.{Sums.list_all-from_AllPass, append_assoc}, Math.Seq.take-append-add}
use Rattle.std.{proofs.Math.Seq.take-append_seam, specs.{Prelude.MatchResult, Result.result_unwrap_or}}
use Rattle.std.specs.Io.KnownBytes.{Appends, Consumes, IsAtEnd}
use Rattle.hex.specs.{Hex.{IsBytes, encode_lower, decode_sized, is_hex_digit}, declared.error.FromHexError.FromHexError}
use Rattle.hex.proofs.HexLemmas.{decode_of-encode_lower, decode_of-ok, decode_sized-encode_lower}
use Rattle.key_port.specs.{Requests.{hex_word, line_limit}, declared.signer.SignAnswer.SignAnswer}
use Rattle.key_port.specs.SignedLines.{signed_line, has_no_end, IsLine, IsSignedLine, GivesNone, FaultsByBytes}
use Rattle.key_port.{specs.SignedLines.AsksToSign, proofs.Sizes.{length-encode_lower, length-signed_line}}
use Rattle.key_port.proofs.Answering.{other_byte}
use Rattle.key_port.specs.declared.signer.SignAnswer.TheVariants as sign

-- bytes that are there are a word of digits
pub word_of_some : (bytes : List ℕ) → 0 < length bytes → hex_word bytes ≡ encode_lower bytes
word_of_some bytes some = grind (arith)

-- a signature of at most 32,766 bytes has room in a line
pub fits_line : (signature : List ℕ) → length signature ≤ 32766 → length (signed_line signature) ≤ line_limit
fits_line [] short = rw (length-signed_line []) (omega arith)
fits_line (b ∷ bs) short =
    rw (length-signed_line (b ∷ bs), word_of_some (b ∷ bs) (omega arith)) (omega (arith, short, length-encode_lower (b ∷ bs)))

-- no bytes
pub has_none : (xs : List ℕ) → length xs ≡ 0 → xs ≡ []
has_none [] e = refl
has_none (x ∷ xs) e = cc e

-- a list that a decoding gave
pub decoding_gave : (r : Result (List ℕ) FromHexError) (done : Result Unit FromHexError) (s out : List ℕ) → r ≡ Ok s
    → MatchResult r (λ bytes. (done ≡ Ok tt) × (out ≡ bytes)) (λ e. done ≡ Err e) → out ≡ s
decoding_gave (Ok bytes) done s out e given = given.1 ∙ ap (λ (r : Result (List ℕ) FromHexError). result_unwrap_or r []) e
decoding_gave (Err x) done s out e given = cc e

-- the bytes of a line's digits are its signature
pub decoded : (line out : List ℕ) (n : ℕ) (done : Result Unit FromHexError)
    → MatchResult (decode_sized (take (length line - 4) (drop 3 line)) n) (λ bytes. (done ≡ Ok tt) × (out ≡ bytes)) (λ e. done ≡ Err e)
    → length out ≡ n → n ≡ (length line - 4) / 2
    → (signature : List ℕ) → IsBytes signature → line ≡ signed_line signature → out ≡ signature
unfolding signed_line
decoded line out n done given long half [] bytes is = has_none out (long ∙ half ∙ rw is refl)
decoded line out n done given long half (b ∷ bs) bytes is =
    let digits = encode_lower (b ∷ bs) in
    let shape : line ≡ codes "ok " ++ (digits ++ codes "\n") =
    is ∙ ap (λ (word : List ℕ). codes "ok " ++ (word ++ codes "\n")) (word_of_some (b ∷ bs) (omega arith)) in
    let size : length line - 4 ≡ length digits = rw shape (grind (arith, common_steps)) in
    let part : take (length line - 4) (drop 3 line) ≡ digits = rw (size, shape) (take-append_seam digits (codes "\n")) in
    let count : length (b ∷ bs) ≡ n = omega (arith, half, size, length-encode_lower (b ∷ bs)) in
    decoding_gave (decode_sized (take (length line - 4) (drop 3 line)) n) done (b ∷ bs) out
    (rw part (decode_sized-encode_lower (b ∷ bs) n count bytes)) given

-- no NL stands in a front of bytes that have none
pub front_has_none : (n : ℕ) (xs : List ℕ) → has_no_end xs ≡ true → has_no_end (take n xs) ≡ true
front_has_none zero xs h = refl
front_has_none (suc n) [] h = refl
front_has_none (suc n) (x ∷ xs) h =
    let parts = and_parts (not (nat_eq x 10)) (has_no_end xs) h in rw (parts.0, front_has_none n xs parts.1) refl

-- a source that ended before an NL
pub ends_early : (limit : ℕ) (a b : Option (List ℕ)) (line : List ℕ) → Consumes a b line → IsAtEnd b → has_no_end line ≡ true
    → IfSome a (λ bytes. has_no_end (take limit bytes) ≡ true)
ends_early limit None b line taken ended h = tt
ends_early limit (Some xs) None line taken ended h = absurd taken
ends_early limit (Some xs) (Some ys) line taken ended h =
    rw (taken, ended) (front_has_none limit (line ++ []) (list_all-append (λ byte. not (nat_eq byte 10)) line [] ∙ rw h refl))

-- a line that has no room for its NL
pub is_too_long : (limit : ℕ) (a b : Option (List ℕ)) (line : List ℕ) → Consumes a b line → length line ≡ limit → has_no_end line ≡ true
    → IfSome a (λ bytes. has_no_end (take limit bytes) ≡ true)
is_too_long limit None b line taken full h = tt
is_too_long limit (Some xs) None line taken full h = absurd taken
is_too_long limit (Some xs) (Some ys) line taken full h =
    rw taken (subst (λ n. has_no_end (take n (line ++ ys)) ≡ true) full (rw (take-append_seam line ys) h))

-- a digit is no NL
pub digit_is_inside : (x : ℕ) → is_hex_digit x ≡ true → not (nat_eq x 10) ≡ true
digit_is_inside x h = elim (cases_eq x 10) [
  | inl e ↦ (let clash : true ≡ false = sym h ∙ ap is_hex_digit e in cc clash)
  | inr other ↦ rw (other_byte x 10 other) refl
]

-- no NL stands in a word of hex
pub word_is_inside : (signature : List ℕ) → IsBytes signature → has_no_end (hex_word signature) ≡ true
word_is_inside [] bytes = refl
word_is_inside (b ∷ bs) bytes =
    let digits = (decode_of-ok (encode_lower (b ∷ bs)) (b ∷ bs) (decode_of-encode_lower (b ∷ bs) bytes)).1 in
    ap has_no_end (word_of_some (b ∷ bs) (omega arith))
    ∙ list_all-from_AllPass (λ byte. not (nat_eq byte 10)) (encode_lower (b ∷ bs))
    (λ k d within. digit_is_inside (slice_index_or (encode_lower (b ∷ bs)) k d) (digits k d within))

-- the line of a signature has its NL
pub line_has_end : (signature : List ℕ) → IsBytes signature → has_no_end (signed_line signature) ≡ false
unfolding signed_line
line_has_end signature bytes =
    list_all-append (λ byte. not (nat_eq byte 10)) (codes "ok " ++ hex_word signature) (codes "\n") ∙ rw (word_is_inside signature bytes) refl

-- bytes with no NL within the limit begin with no line of a signature
pub no_line : (limit : ℕ) (bytes : List ℕ) → has_no_end (take limit bytes) ≡ true
    → (signature more : List ℕ) → IsBytes signature → length (signed_line signature) ≤ limit → bytes ≢ signed_line signature ++ more
no_line limit bytes h signature more sound short is =
    let line = signed_line signature in
    let rest = limit - length line in
    let whole : limit ≡ length line + rest = omega (arith, short) in
    let cut : take limit bytes ≡ line ++ take rest more =
    ap (take limit) is ∙ ap (λ n. take n (line ++ more)) whole ∙ take-append-add line more rest in
    let split : has_no_end (line ++ take rest more) ≡ false =
    list_all-append (λ byte. not (nat_eq byte 10)) line (take rest more) ∙ rw (line_has_end signature sound) refl in
    let clash : true ≡ false = sym h ∙ ap has_no_end cut ∙ split in
    cc clash

-- two lines that begin the same bytes are one
pub same_front : (xs ys left right : List ℕ) → has_no_end xs ≡ true → has_no_end ys ≡ true → xs ++ (10 ∷ left) ≡ ys ++ (10 ∷ right) → xs ≡ ys
same_front [] [] left right h k e = refl
same_front [] (y ∷ ys) left right h k e =
    let head : 10 ≡ y = ap (λ (l : List ℕ). get_or l 0 0) e in
    let inside = (and_parts (not (nat_eq y 10)) (has_no_end ys) k).0 in
    let clash : false ≡ true = ap (λ n. not (nat_eq n 10)) head ∙ inside in
    cc clash
same_front (x ∷ xs) [] left right h k e =
    let head : x ≡ 10 = ap (λ (l : List ℕ). get_or l 0 0) e in
    let inside = (and_parts (not (nat_eq x 10)) (has_no_end xs) h).0 in
    let clash : false ≡ true = ap (λ n. not (nat_eq n 10)) (sym head) ∙ inside in
    cc clash
same_front (x ∷ xs) (y ∷ ys) left right h k e =
    let head : x ≡ y = ap (λ (l : List ℕ). get_or l 0 0) e in
    let behind : xs ≡ ys = same_front xs ys left right (and_parts (not (nat_eq x 10)) (has_no_end xs) h).1
    (and_parts (not (nat_eq y 10)) (has_no_end ys) k).1 (ap (drop 1) e) in
    rw (head, behind) refl

-- another line stands before all that it begins
pub another_line : (bytes line rest : List ℕ) → bytes ≡ line ++ rest → IsLine line
    → ((signature : List ℕ) → IsBytes signature → line ≢ signed_line signature) → GivesNone bytes
unfolding signed_line
another_line bytes line rest taken (front, ended, clean) other signature more sound short is =
    let word = codes "ok " ++ hex_word signature in
    let here : front ++ (10 ∷ rest) ≡ bytes = sym (taken ∙ ap (λ (l : List ℕ). l ++ rest) ended ∙ append_assoc front (10 ∷ []) rest) in
    let there : bytes ≡ word ++ (10 ∷ more) = is ∙ append_assoc word (10 ∷ []) more in
    let same = same_front front word rest more clean (word_is_inside signature sound) (here ∙ there) in
    other signature sound (ended ∙ ap (λ (l : List ℕ). l ++ (10 ∷ [])) same)

-- what a line that was read answers
pub hears_line : (a b : Option (List ℕ)) (line : List ℕ) (r : SignAnswer) → Consumes a b line → IsLine line → IsSignedLine line r
    → IfSome a (λ bytes. FaultsByBytes bytes r)
hears_line None b line r taken ended given = tt
hears_line (Some xs) None line r taken ended given = absurd taken
hears_line (Some xs) (Some ys) line (sign.Signed signature) taken ended given = tt
hears_line (Some xs) (Some ys) line sign.Memory taken ended given = tt
hears_line (Some xs) (Some ys) line sign.Fault taken ended given = another_line xs line ys taken ended given

-- what no line answers
pub hears_no_line : (a : Option (List ℕ)) → IfSome a (λ bytes. has_no_end (take line_limit bytes) ≡ true) → IfSome a (λ bytes. GivesNone bytes)
hears_no_line None h = tt
hears_no_line (Some xs) h = no_line line_limit xs h

-- a request that was written whole, whatever is answered
pub asks_to_sign : (a b : Option (List ℕ)) (request : List ℕ) (r : SignAnswer) → Appends a b request → AsksToSign a b request r
asks_to_sign a b request (sign.Signed signature) written = written
asks_to_sign a b request sign.Memory written = written
asks_to_sign a b request sign.Fault written =
    (length request, subst (λ (text : List ℕ). Appends a b text) (sym (take_all (length request) request (omega arith))) written)
