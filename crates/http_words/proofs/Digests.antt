-- The parts of a list between its hyphens, and the digests that they spell.
use Rattle.std.proofs.Common.{◌≡◌, ℕ, suc, ◌+◌, ◌<◌, ◌≤◌, Bool, true, false, cond, not, List, [], ◌∷◌, ◌++◌, length}
use Rattle.std.proofs.Common.{take, drop, refl, ap, sym, ◌∙◌, arith, Option, Some, None, append_assoc}
use Rattle.std.{proofs.lemmas.List.{append-nil, Splits.{slice_split_first, length-slice_split}}, specs.Prelude.nat_le}
use Rattle.std.specs.{Borrow.Bor, Option.option_map, List.{onto_first, position_or_len}}
use Rattle.dir_bytes.specs.Fields.{base64}
use Rattle.http_words.specs.DigestLists.{digest_limit, is_hyphen, parts_of, with_others, digests_of, digest_list}
use Rattle.http_words.specs.DigestLists.{SplitsOff}

pub first_part : (text : List ℕ) (n : ℕ) → n ≡ position_or_len is_hyphen text → n < length text
    → parts_of text ≡ take n text ∷ parts_of (drop (n + 1) text)
first_part text n is some = rw is (slice_split_first is_hyphen text 0 (rw (← is) some))

cut : (t : Bool) (b : ℕ) (text : List ℕ) (n : ℕ) → suc (length text) ≤ cond (not t) (1 + n) 0
    → (length text ≤ n → parts_of text ≡ text ∷ [])
    → cond t ([] ∷ parts_of text) (onto_first b (parts_of text)) ≡ (b ∷ text) ∷ []
cut true b text n none more = absurd (omega (arith, none))
cut false b text n none more = ap (λ (l : List (List ℕ)). onto_first b l) (more (omega (arith, none)))

pub last_part : (text : List ℕ) → length text ≤ position_or_len is_hyphen text → parts_of text ≡ text ∷ []
last_part [] none = refl
last_part (b ∷ text) none = cut (is_hyphen b) b text (position_or_len is_hyphen text) none (last_part text)

-- a part comes off the front, whatever is left
pub splits : (text part : List ℕ) (left : Option (Bor (List ℕ))) → SplitsOff text part left
    → (more : List (List ℕ)) × (parts_of text ≡ part ∷ more)
splits text part None is = ([], is)
splits text part (Some behind) is = (parts_of behind.now, is)

-- digests behind others
abbrev pub behind : List (List ℕ) → Option (List (List ℕ)) → Option (List (List ℕ))
behind digests more = option_map (λ others. digests ++ others) more

-- one digest more
one_more_digest_joined : (digests : List (List ℕ)) (digest : List ℕ) (more : Option (List (List ℕ)))
    → behind digests (with_others (Some digest) more) ≡ behind (digests ++ digest ∷ []) more
one_more_digest_joined digests digest None = refl
one_more_digest_joined digests digest (Some others) = ap (λ l. Some l) (sym (append_assoc digests (digest ∷ []) others))

-- none before the first
pub none_before : (more : Option (List (List ℕ))) → behind [] more ≡ more
none_before None = refl
none_before (Some others) = refl

-- a part that spells no digest
pub no_digest : (digests parts all : List (List ℕ)) (part : List ℕ) → base64 32 part ≡ None
    → behind digests (digests_of (part ∷ parts)) ≡ digests_of all → digests_of all ≡ None
no_digest digests parts all part none is =
    sym is ∙ ap (λ d. behind digests (with_others d (digests_of parts))) none

-- a part that spells one
pub digest_added : (digests parts all : List (List ℕ)) (part digest : List ℕ) → base64 32 part ≡ Some digest
    → behind digests (digests_of (part ∷ parts)) ≡ digests_of all
    → behind (digests ++ digest ∷ []) (digests_of parts) ≡ digests_of all
digest_added digests parts all part digest some is =
    sym (one_more_digest_joined digests digest (digests_of parts))
    ∙ sym (ap (λ d. behind digests (with_others d (digests_of parts))) some)
    ∙ is

-- the last digest
pub last_digest : (digests all : List (List ℕ)) → behind digests (digests_of []) ≡ digests_of all
    → Some digests ≡ digests_of all
last_digest digests all is = ap (λ l. Some l) (sym (append-nil digests)) ∙ is

-- a text has one part at least
pub some_part : (text : List ℕ) → 0 < length (parts_of text)
some_part text = omega (arith, length-slice_split is_hyphen text)

-- a text of which a part spells no digest is no list
pub no_list : (text : List ℕ) → digests_of (parts_of text) ≡ None → None ≡ digest_list text
no_list text none = by (nat_le (length (parts_of text)) digest_limit) none
  where
    by : (t : Bool) → digests_of (parts_of text) ≡ None → None ≡ cond t (digests_of (parts_of text)) None
    by true none = sym none
    by false none = refl

-- a text of too many parts is no list
pub too_many : (text : List ℕ) → digest_limit < length (parts_of text) → None ≡ digest_list text
too_many text more = grind (arith, more)

-- a text of few parts, each of which spells a digest, is a list
pub few : (text : List ℕ) (digests : List (List ℕ)) → length (parts_of text) ≤ digest_limit
    → Some digests ≡ digests_of (parts_of text) → Some digests ≡ digest_list text
few text digests less are = grind (arith, less, are)
