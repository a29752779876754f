-- Places in a pool, and what stands there.
use Rattle.std.proofs.Common.{◌≡◌, ◌<◌, ◌≤◌, ◌+◌, ℕ, Bool, true, false, List, [], ◌∷◌, ◌++◌, length, take, drop, get_or}
use Rattle.std.proofs.{Common.{refl, sym, ap, ap₂, ◌∙◌, ⊎_elim, append-nil}, lemmas.Bool.{cases_lt, true≢false}}
use Rattle.std.proofs.lemmas.{Option.slice_get_read, List.{at_drop_more, take_more, Elements.filter_map-append}}
use Rattle.std.proofs.lemmas.List.{Elements.{filter_more, All-from_all_within, Contains-get_or}, Concat.flat_map-append}
use Rattle.std.proofs.lemmas.List.{Folds.{list_any_at, list_any_none}, Sorted.list_any-IsPermutation}
use Rattle.std.{proofs.lemmas.List.Sorted.searchable_from_sorted, specs.Prelude.{Contains, filter, ◌||◌, Result, Ok}}
use Rattle.std.specs.{Prelude.{Err, is_ok}, List.{find, list_any, slice_get, Sorted.{IsSorted, IsPermutation}}}
use Rattle.std.specs.{List.Sorted.{IsBinarySearchResult, IsSearchInRange}, Ordering.{nat_cmp, is_eq}}
use Rattle.std.specs.{Cmp.Lexicographic.{slice_cmp, nat_list_cmp_total, texts_ties, bytes_decides}, Str.bytes_eq}
use Rattle.dir_values.proofs.Orders.{same_text}
use Rattle.descriptor_doc.specs.declared.descriptor.Descriptor.{Descriptor}
use Rattle.vote_pool.specs.Summaries.{family_digest_of, micro_digest_of}
use Rattle.serve_answers.specs.{Documents.{has_digest, micro_if, micro_with, micros_with, text_with}, Places.at_places}
use Rattle.serve_answers.specs.Places.{has_one, is_asked}

-- what a search by halves says of texts that ascend
module _ (sorted : List (List ℕ)) (text : List ℕ) (up : IsSorted (slice_cmp nat_cmp) sorted) where
  other : (one : List ℕ) → is_eq (slice_cmp nat_cmp one text) ≡ false → bytes_eq one text ≡ false
  other one apart = texts_ties one text ∙ apart

  pub search_tells : (r : Result ℕ ℕ) → IsSearchInRange r (length sorted)
      → IsBinarySearchResult (λ one. slice_cmp nat_cmp one text) sorted r
      → is_ok r ≡ list_any (λ one. bytes_eq one text) sorted
  search_tells (Ok i) range found =
      sym (list_any_at (λ one. bytes_eq one text) sorted i text range
      (texts_ties (get_or sorted i text) text ∙ ap is_eq (found text)))
  search_tells (Err i) range found =
      let parts = found (searchable_from_sorted nat_list_cmp_total (λ one. one) sorted text up) in
      sym (list_any_none (λ one. bytes_eq one text) sorted
      (All-from_all_within (λ one. bytes_eq one text ≡ false) sorted (λ k d low high. ⊎_elim
      (λ (front : k < i). other (get_or sorted k d) (ap is_eq (parts.0 k d low front)))
      (λ (behind : i ≤ k). other (get_or sorted k d) (ap is_eq (parts.1 k d behind high)))
      (cases_lt k i))))

module _ {X : Type 0} (p q : X → Bool) (only : (x : X) → p x ≡ true → q x ≡ true) where
  -- what passes one test only where it passes another is found among what passes the other
  pub find_kept : (xs : List X) → find p (filter q xs) ≡ find p xs
  find_kept [] = refl
  find_kept (x ∷ xs) = by (p x) (q x) refl refl (find_kept xs)
    where
      by : (b c : Bool) → p x ≡ b → q x ≡ c → find p (filter q xs) ≡ find p xs
          → find p (filter q (x ∷ xs)) ≡ find p (x ∷ xs)
      by true true e f rest = rw (f, e) refl
      by true false e f rest = absurd (true≢false (sym (only x e) ∙ f))
      by false true e f rest = rw (f, e) rest
      by false false e f rest = rw (f, e) rest

-- a digest that is one of several is among them
among : (digests : List (List ℕ)) (digest own : List ℕ) → Contains digests digest → bytes_eq own digest ≡ true
    → list_any (λ d. bytes_eq d own) digests ≡ true
among digests digest own one same =
    list_any_at (λ d. bytes_eq d own) digests one.0 digest one.1
    ((bytes_decides (get_or digests one.0 digest) own).1 (one.2 ∙ sym (same_text own digest same)))

or_first : (a b : Bool) → a ≡ true → (a || b) ≡ true
or_first a b is = ap (λ (t : Bool). t || b) is

or_second : (a b : Bool) → b ≡ true → (a || b) ≡ true
or_second true b is = refl
or_second false b is = is

-- a descriptor of which a microdescriptor has it is asked for
asked_by : (digests : List (List ℕ)) (digest : List ℕ) (d : Descriptor) (t u : Bool) → Contains digests digest
    → bytes_eq (micro_digest_of d).0 digest ≡ t → bytes_eq (family_digest_of d).0 digest ≡ u → (t || u) ≡ true
    → is_asked digests d ≡ true
asked_by digests digest d true u one e f is =
    or_first (list_any (λ x. bytes_eq x (micro_digest_of d).0) digests)
    (list_any (λ x. bytes_eq x (family_digest_of d).0) digests) (among digests digest (micro_digest_of d).0 one e)
asked_by digests digest d false true one e f is =
    or_second (list_any (λ x. bytes_eq x (micro_digest_of d).0) digests)
    (list_any (λ x. bytes_eq x (family_digest_of d).0) digests) (among digests digest (family_digest_of d).0 one f)
asked_by digests digest d false false one e f is = absurd (cc is)

-- the microdescriptor with a digest is among those with one of several, where it is one of these
pub micro_kept : (descriptors : List Descriptor) (digests : List (List ℕ)) (digest : List ℕ) → Contains digests digest
    → micro_with (filter (is_asked digests) descriptors) digest ≡ micro_with descriptors digest
micro_kept descriptors digests digest one =
    ap (micro_if digest) (find_kept (has_digest digest) (is_asked digests)
    (λ d has. asked_by digests digest d (bytes_eq (micro_digest_of d).0 digest)
    (bytes_eq (family_digest_of d).0 digest) one refl refl has) descriptors)

-- one place more, of a descriptor that is asked for by digests, in whatever order these stand
module _ (sorted digests : List (List ℕ)) (same : IsPermutation digests sorted) (descriptors : List Descriptor) where
  -- whether one of two digests is among them, in whatever order these stand
  has_same : (first second : List ℕ) → has_one digests first second ≡ has_one sorted first second
  has_same first second =
      ap₂ (λ (a b : Bool). a || b) (list_any-IsPermutation (λ one. bytes_eq one first) digests sorted same)
      (list_any-IsPermutation (λ one. bytes_eq one second) digests sorted same)

  pub place_more : (places : List ℕ) (i : ℕ) (x : Descriptor)
      → at_places descriptors places ≡ filter (is_asked digests) (take i descriptors) → i < length descriptors
      → x ≡ get_or descriptors i x → has_one sorted (micro_digest_of x).0 (family_digest_of x).0 ≡ true
      → at_places descriptors (places ++ i ∷ []) ≡ filter (is_asked digests) (take (i + 1) descriptors)
  place_more places i x so within is passes =
      let asked : is_asked digests x ≡ true = has_same (micro_digest_of x).0 (family_digest_of x).0 ∙ passes in
      filter_map-append (slice_get descriptors) places (i ∷ [])
      ∙ rw (
        slice_get_read descriptors (length descriptors) i x refl within is,
        so,
        filter_more (is_asked digests) descriptors i x within,
        sym is,
        asked,
      ) refl

  -- and none of one that is not
  pub place_less : (places : List ℕ) (i : ℕ) (x : Descriptor)
      → at_places descriptors places ≡ filter (is_asked digests) (take i descriptors) → i < length descriptors
      → x ≡ get_or descriptors i x → has_one sorted (micro_digest_of x).0 (family_digest_of x).0 ≡ false
      → at_places descriptors places ≡ filter (is_asked digests) (take (i + 1) descriptors)
  place_less places i x so within is fails =
      let asked : is_asked digests x ≡ false = has_same (micro_digest_of x).0 (family_digest_of x).0 ∙ fails in
      so ∙ rw (
        filter_more (is_asked digests) descriptors i x within,
        sym is,
        asked,
        append-nil (filter (is_asked digests) (take i descriptors)),
      ) refl

-- what is looked for at places, from one of these on
module _ (descriptors : List Descriptor) (places : List ℕ) (k : ℕ) (x : Descriptor) (within : k < length places)
    (inside : get_or places k 0 < length descriptors) (is : x ≡ get_or descriptors (get_or places k 0) x)
    (digest whole : List ℕ) (ahead : micro_with (at_places descriptors (drop k places)) digest ≡ whole) where
  from_here : micro_with (x ∷ at_places descriptors (drop (k + 1) places)) digest ≡ whole
  from_here =
      sym (at_drop_more (λ rest. micro_with (at_places descriptors rest) digest) places k 0 within
      ∙ rw (slice_get_read descriptors (length descriptors) (get_or places k 0) x refl inside is) refl)
      ∙ ahead

  -- it stands there, and was appended
  pub found_here : (out old new text : List ℕ) → has_digest digest x ≡ true → out ≡ old
      → text ≡ text_with digest x → new ≡ out ++ text → new ≡ old ++ whole
  found_here out old new text same out_is text_is appended =
      let here : text_with digest x ≡ whole = rw same at from_here in
      appended ∙ ap (λ l. l ++ text) out_is ∙ ap (λ l. old ++ l) (text_is ∙ here)

  -- it does not
  pub not_here : has_digest digest x ≡ false
      → micro_with (at_places descriptors (drop (k + 1) places)) digest ≡ whole
  not_here other = rw other at from_here

-- one digest more that is asked for
pub one_more_digest_answered : (descriptors : List Descriptor) (asked : List (List ℕ)) (k : ℕ) (digest d : List ℕ)
    (found : List Descriptor) (old new : List ℕ) → k < length asked → digest ≡ get_or asked k d
    → found ≡ filter (is_asked asked) descriptors → old ≡ micros_with descriptors (take k asked)
    → new ≡ old ++ micro_with found digest → new ≡ micros_with descriptors (take (k + 1) asked)
one_more_digest_answered descriptors asked k digest d found old new within is is_found so more =
    let before = micros_with descriptors (take k asked) in
    let one = get_or asked k d in
    let both : micros_with descriptors (take (k + 1) asked) ≡ before ++ micro_with descriptors one =
    ap (micros_with descriptors) (take_more asked k d within)
    ∙ flat_map-append (micro_with descriptors) (take k asked) (one ∷ [])
    ∙ ap (λ l. before ++ l) (append-nil (micro_with descriptors one)) in
    more
    ∙ ap (λ l. l ++ micro_with found digest) so
    ∙ ap (λ l. before ++ micro_with l digest) is_found
    ∙ ap (λ l. before ++ micro_with (filter (is_asked asked) descriptors) l) is
    ∙ ap (λ l. before ++ l) (micro_kept descriptors asked one (Contains-get_or asked k d within))
    ∙ sym both
