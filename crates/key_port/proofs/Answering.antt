-- What the bytes of a service answer, byte by byte.
use Rattle.std.proofs.Common.{◌≡◌, ◌≢◌, ℕ, zero, suc, ◌<◌, true, false, nat_eq, List, [], ◌∷◌, ◌++◌, length, take, drop}
use Rattle.std.proofs.Common.{get_or, codes, Option, Some, None, IfSome, refl, sym, ap, subst, arith, take_all, ◌∙◌}
use Rattle.std.{proofs.lemmas.{List.drop_more, Grind.common_steps}, specs.{List.starts_with, Io.KnownBytes.Appends}}
use Rattle.std.specs.Io.KnownBytes.{Consumes, IsAtEnd}
use Rattle.key_port.specs.{declared.verifier.VerifyAnswer.VerifyAnswer, Exchanges.{Asks, answer_of}}
use Rattle.key_port.specs.declared.verifier.VerifyAnswer.TheVariants as answer

-- a byte is itself
pub same_byte : (n : ℕ) → nat_eq n n ≡ true
same_byte n = grind (arith, common_steps)

-- a byte is no other
pub other_byte : (n m : ℕ) → n ≢ m → nat_eq n m ≡ false
other_byte n m h = grind (arith, common_steps)

-- what comes behind a front that is as wanted decides
pub starts_behind : (i : ℕ) (wanted ys : List ℕ) → starts_with nat_eq (take i wanted ++ ys) wanted ≡ starts_with nat_eq ys (drop i wanted)
starts_behind zero wanted ys = refl
starts_behind (suc i) [] ys = refl
starts_behind (suc i) (w ∷ ws) ys = rw (same_byte w) (starts_behind i ws ys)

-- the bytes end before all that was wanted
pub ends_before : (i : ℕ) (wanted : List ℕ) → i < length wanted → starts_with nat_eq [] (drop i wanted) ≡ false
ends_before i wanted more = rw (drop_more wanted i 0 more) refl

-- another byte comes than the one wanted
pub comes_other : (i byte : ℕ) (wanted rest : List ℕ) → i < length wanted → get_or wanted i 0 ≢ byte
    → starts_with nat_eq (byte ∷ rest) (drop i wanted) ≡ false
comes_other i byte wanted rest more other = rw (drop_more wanted i 0 more, other_byte (get_or wanted i 0) byte other) refl

-- a source that gave a front of what was wanted, and then no byte or another one
pub gives_other : (a b c : Option (List ℕ)) (i : ℕ) (wanted : List ℕ) (next : Option ℕ) → i < length wanted
    → Consumes a b (take i wanted) → IfSome next (λ byte. Consumes b c (byte ∷ [])) → (next ≡ None → IsAtEnd b)
    → next ≢ Some (get_or wanted i 0) → IfSome a (λ bytes. starts_with nat_eq bytes wanted ≡ false)
gives_other None b c i wanted next more front taken ended other = tt
gives_other (Some xs) None c i wanted next more front taken ended other = absurd front
gives_other (Some xs) (Some ys) c i wanted None more front taken ended other =
    rw (front, starts_behind i wanted ys, ended refl) (ends_before i wanted more)
gives_other (Some xs) (Some ys) None i wanted (Some byte) more front taken ended other = absurd taken
gives_other (Some xs) (Some ys) (Some zs) i wanted (Some byte) more front taken ended other =
    rw (front, starts_behind i wanted ys, taken) (comes_other i byte wanted zs more (λ e. other (ap Some (sym e))))

-- the line `yes`
pub hears_yes : (a b c : Option (List ℕ)) → Consumes a b (121 ∷ []) → Consumes b c (codes "es\n") → IfSome a (λ bytes. answer.Yes ≡ answer_of bytes)
unfolding answer_of
hears_yes None b c first more = tt
hears_yes (Some xs) None c first more = absurd first
hears_yes (Some xs) (Some ys) None first more = absurd more
hears_yes (Some xs) (Some ys) (Some zs) first more = rw (first, more) refl

-- the line `no`
pub hears_no : (a b c : Option (List ℕ)) → Consumes a b (110 ∷ []) → Consumes b c (codes "o\n") → IfSome a (λ bytes. answer.No ≡ answer_of bytes)
unfolding answer_of
hears_no None b c first more = tt
hears_no (Some xs) None c first more = absurd first
hears_no (Some xs) (Some ys) None first more = absurd more
hears_no (Some xs) (Some ys) (Some zs) first more = rw (first, more) refl

-- a line that begins as `yes` does
pub hears_like_yes : (a b : Option (List ℕ)) → Consumes a b (121 ∷ []) → IfSome b (λ bytes. starts_with nat_eq bytes (codes "es\n") ≡ false)
    → IfSome a (λ bytes. answer.Fault ≡ answer_of bytes)
unfolding answer_of
hears_like_yes None b first other = tt
hears_like_yes (Some xs) None first other = absurd first
hears_like_yes (Some xs) (Some ys) first other = rw (first, other) refl

-- a line that begins as `no` does
pub hears_like_no : (a b : Option (List ℕ)) → Consumes a b (110 ∷ []) → IfSome b (λ bytes. starts_with nat_eq bytes (codes "o\n") ≡ false)
    → IfSome a (λ bytes. answer.Fault ≡ answer_of bytes)
unfolding answer_of
hears_like_no None b first other = tt
hears_like_no (Some xs) None first other = absurd first
hears_like_no (Some xs) (Some ys) first other = rw (first, other) refl

-- a line that begins as neither does
pub hears_other : (a b : Option (List ℕ)) (byte : ℕ) → Consumes a b (byte ∷ []) → 121 ≢ byte → 110 ≢ byte
    → IfSome a (λ bytes. answer.Fault ≡ answer_of bytes)
unfolding answer_of
hears_other None b byte first a o = tt
hears_other (Some xs) None byte first a o = absurd first
hears_other (Some xs) (Some ys) byte first a o = rw (first, other_byte 121 byte a, other_byte 110 byte o) refl

-- no line at all
pub hears_nothing : (a : Option (List ℕ)) → IsAtEnd a → IfSome a (λ bytes. answer.Fault ≡ answer_of bytes)
unfolding answer_of
hears_nothing None ended = tt
hears_nothing (Some xs) ended = rw ended refl

-- where some byte was read, one was there
pub has_come : (a b : Option (List ℕ)) (read : List ℕ) → Consumes a b read → 0 < length read
    → IfSome a (λ bytes. bytes ≢ [])
has_come None b read taken some = tt
has_come (Some xs) None read taken some = absurd taken
has_come (Some xs) (Some ys) [] taken some = absurd (omega (arith, some))
has_come (Some xs) (Some ys) (byte ∷ more) taken some = λ none.
    let clash : (byte ∷ (more ++ ys)) ≡ [] = sym taken ∙ none in
    cc clash

-- a request that was written whole, whatever is answered
pub asks_whole : (a b : Option (List ℕ)) (request : List ℕ) (r : VerifyAnswer) → Appends a b request → Asks a b request r
asks_whole a b request answer.Yes written = written
asks_whole a b request answer.No written = written
asks_whole a b request answer.Fault written =
    (length request, subst (λ (text : List ℕ). Appends a b text) (sym (take_all (length request) request (omega arith))) written)
