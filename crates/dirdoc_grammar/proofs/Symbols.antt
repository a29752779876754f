-- What is written in base64 has symbols and '=' alone.
use Rattle.std.proofs.{Common.{◌≡◌, ℕ, Bool, true, false, cond, List, [], ◌∷◌, refl, ap, ◌∙◌}, lemmas.Bool.and_parts}
use Rattle.std.{proofs.{lemmas.Bool.false≢true, Math.Bool.or-true}, specs.Prelude.{◌==◌, nat_le, ◌&&◌, ◌||◌}}
use Rattle.std.specs.List.{list_all}
use Rattle.base64.specs.{Engines.standard, GeneralPurpose.{IsBytes, encode_of}}
use Rattle.dirdoc_grammar.specs.declared.base64_text.Group.{Group, TheVariants.{Start, One, Two, Three, PaddedOnce}}
use Rattle.dirdoc_grammar.specs.{declared.base64_text.Group.TheVariants.Closed, Groups.{symbol, may_grow, grown_group}}
use Rattle.dirdoc_grammar.{specs.{Groups.goes_on, Bodies.base64_of}, proofs.Base64Groups.encoding_is_accepted}

abbrev pub is_symbol : ℕ → Bool
is_symbol b = nat_le (symbol b) 63 || (b == 61)

symbol_is : (b : ℕ) → nat_le (symbol b) 63 ≡ true → is_symbol b ≡ true
symbol_is b e = ap (λ (t : Bool). t || (b == 61)) e

padding_is : (b : ℕ) → (b == 61) ≡ true → is_symbol b ≡ true
padding_is b e = ap (λ (t : Bool). nat_le (symbol b) 63 || t) e ∙ or-true (nat_le (symbol b) 63)

by_padding : (padding low : Bool) (b : ℕ) → (b == 61) ≡ padding → cond padding low (nat_le (symbol b) 63) ≡ true → is_symbol b ≡ true
by_padding true low b is h = padding_is b is
by_padding false low b is h = symbol_is b h

grows_by_symbol : (group : Group) (b : ℕ) → may_grow group b ≡ true → is_symbol b ≡ true
grows_by_symbol Start b h = symbol_is b h
grows_by_symbol One b h = symbol_is b h
grows_by_symbol (Two value) b h = by_padding (b == 61) _ b refl h
grows_by_symbol (Three value) b h = by_padding (b == 61) _ b refl h
grows_by_symbol PaddedOnce b h = padding_is b h
grows_by_symbol Closed b h = absurd (false≢true h)

each_symbol : (group : Group) (text : List ℕ) → goes_on group text ≡ true → list_all is_symbol text ≡ true
each_symbol group [] h = refl
each_symbol group (b ∷ text) h =
    let parts = and_parts (may_grow group b) (goes_on (grown_group group b) text) h in
    ap (λ (t : Bool). t && list_all is_symbol text) (grows_by_symbol group b parts.0) ∙ each_symbol (grown_group group b) text parts.1

pub base64_symbols : (bytes : List ℕ) → IsBytes bytes → list_all is_symbol (base64_of bytes) ≡ true
unfolding base64_of
base64_symbols bytes fit = each_symbol Start (encode_of standard bytes) (encoding_is_accepted bytes fit)
