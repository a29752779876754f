-- Where the first line stands that is not blank.
use Rattle.std.proofs.Common.{◌≡◌, ℕ, zero, suc, ◌+◌, ◌-◌, ◌≤◌, ◌<◌, Bool, true, false, List, length, take, drop}
use Rattle.std.proofs.Common.{Option, Some, None, refl, sym, subst, ◌∙◌, arith, inl, inr, length-take}
use Rattle.std.{proofs.lemmas.Bool.cases_lt, specs.Prelude.{◌&&◌, if◌then◌else◌, unwrap_or}}
use Rattle.item_terms.specs.{Lines.size, Words.is_blank_line}
use Rattle.dirdoc_grammar.specs.Reading.{first_line}
use Rattle.blank_lines.{specs.Blanks.{after_blanks, blank_size}, proofs.LinesBehind.{no_line, one_blank, one_other}}
use Rattle.descriptor_doc.specs.Reading.{front_of, max_descriptor}

-- It stands there: within the bytes, and it is the first such from there on.
pub record IsFirst (bytes : List ℕ) (n : ℕ) : Type 0 where
  pub within : n < length bytes
  pub again : after_blanks n bytes ≡ Some n

-- a blank line has a byte
some_size : (text : List ℕ) (k : ℕ) (blank ended : Bool)
    → (if blank && ended then Some (length text + (if ended then 1 else 0)) else None) ≡ Some k → 0 < k
some_size text k true true is = let same : length text + 1 ≡ k = cc is in omega (arith, same)
some_size text k true false is = absurd (cc is)
some_size text k false ended is = absurd (cc is)

blank_some : (bytes : List ℕ) (k : ℕ) → blank_size bytes ≡ Some k → 0 < k
blank_some bytes k is =
    some_size (first_line bytes).text k (is_blank_line (first_line bytes).text) (first_line bytes).ended is

first_from : (fuel place n : ℕ) (bytes : List ℕ) → length bytes ≤ place + fuel → after_blanks place bytes ≡ Some n
    → IsFirst bytes n
first_from zero place n bytes enough is = absurd (cc (sym (no_line place bytes (omega (arith, enough))) ∙ is))
first_from (suc fuel) place n bytes enough is =
    elim (cases_lt place (length bytes)) [
      | inl less ↦
          by (λ start enough is. first_from fuel start n bytes enough is) less
          (blank_size (take (length bytes - place) (drop place bytes))) refl
      | inr more ↦ absurd (cc (sym (no_line place bytes more) ∙ is))
    ]
  where
    by : ((start : ℕ) → length bytes ≤ start + fuel → after_blanks start bytes ≡ Some n → IsFirst bytes n)
        → place < length bytes → (found : Option ℕ)
        → blank_size (take (length bytes - place) (drop place bytes)) ≡ found → IsFirst bytes n
    by again less None e =
        let here : after_blanks place bytes ≡ Some place = one_other place bytes less (sym e) in
        let same : place ≡ n = cc (sym here ∙ is) in
        subst (IsFirst bytes) same (record { within = less; again = here })
    by again less (Some k) e =
        let some = blank_some (take (length bytes - place) (drop place bytes)) k e in
        again (place + k) (omega (arith, enough, some)) (sym (one_blank place k bytes less (sym e)) ∙ is)

-- Where there is such a line, it is the first from its place on.
pub is_first : (n : ℕ) (bytes : List ℕ) → after_blanks 0 bytes ≡ Some n → IsFirst bytes n
is_first n bytes is = first_from (length bytes) 0 n bytes (omega arith) is

-- The blank lines before a descriptor stand within the bytes, and within what it may have.
pub front_within : (bytes : List ℕ) → (front_of bytes ≤ length bytes) × (front_of bytes ≤ max_descriptor)
front_within bytes = by (after_blanks 0 (take max_descriptor bytes)) refl
  where
    by : (found : Option ℕ) → after_blanks 0 (take max_descriptor bytes) ≡ found
        → (unwrap_or found 0 ≤ length bytes) × (unwrap_or found 0 ≤ max_descriptor)
    by None e = (omega arith, omega arith)
    by (Some n) e =
        let there = (is_first n (take max_descriptor bytes) e).within in
        let size = length-take max_descriptor bytes in
        (omega (arith, there, size), omega (arith, there, size))
