-- The bits of the numbers that pass a test.
use Rattle.std.proofs.Common.{◌≡◌, ℕ, zero, suc, ◌*◌, ◌%◌, ◌^◌, ◌<◌, ◌≤◌, Bool, true, false, cond, List, [], ◌∷◌}
use Rattle.std.proofs.{Common.{length, map, refl, sym, ap, ◌∙◌, arith, subst, ⊎_elim, ◌⊎◌}, lemmas.Bool.lt-ltb}
use Rattle.std.proofs.lemmas.{Bool.{le-ltb, eqb-true, eqb-false, cases_order}, Nat.{or_lt, Bits.bit_at_set_same}}
use Rattle.std.proofs.lemmas.Nat.Bits.{bit_at_set_other, bit_at-lt, bit_at-zero, same_from_bits_below}
use Rattle.std.specs.{Prelude.{◌==◌, ◌&&◌, nat_lt, not, bit_or, filter, if◌then◌else◌}, Int.{bit_at, w64}}
use Rattle.list_values.specs.{declared.named.Named.Named, Maps.named_value, Masks.{is_set, numbers_of, all_listed}}
use Rattle.list_values.{specs.NumberSets.{numbers_that, has_number}, proofs.NumberLists.{same_numbers, has_those}}
use Rattle.list_values.proofs.NumberLists.{no_numbers}
use Rattle.field_votes.specs.{Lists.{is_listed_number, listed_numbers, is_listed_protocol}, Private.mask_below}
use Rattle.field_votes.specs.Private.{mask_that, listed_mask, masks_among}

abbrev bit : ℕ → ℕ
bit number = 1 * 2 ^ number % 2 ^ 64

module _ (test : ℕ → Bool) where
  pub step : (number : ℕ) → mask_below test (suc number) ≡ (if test number then bit_or (mask_below test number) (bit number) else mask_below test number)
  unfolding mask_below
  step number = refl

  pub start : mask_below test zero ≡ 0
  unfolding mask_below
  start = refl

  -- a number is below the next one as it is below this one, unless it is this one
  further : (count number : ℕ) → ((number < count) ⊎ (count < number)) → nat_lt number count ≡ nat_lt number (suc count)
  further count number order = ⊎_elim
      (λ lt. lt-ltb number count lt ∙ sym (lt-ltb number (suc count) (omega (arith, lt))))
      (λ gt. le-ltb number count (omega (arith, gt)) ∙ sym (le-ltb number (suc count) (omega (arith, gt)))) order

  -- the bit of the number itself
  set_here : (mask number : ℕ) → number < 64 → is_set (bit_or mask (bit number)) number ≡ (nat_lt number (suc number) && true)
  set_here mask number lt =
      ap (λ (n : ℕ). n == 1) (bit_at_set_same w64 mask number lt)
      ∙ sym (ap (λ (b : Bool). b && true) (lt-ltb number (suc number) (omega arith)))

  -- the bits of others stay
  set_other : (mask count number : ℕ) → count < 64 → (number ≡ count → ⊥) → is_set (bit_or mask (bit count)) number ≡ is_set mask number
  set_other mask count number lt ne = ap (λ (n : ℕ). n == 1) (bit_at_set_other w64 mask count lt number ne)

  -- which bits are set below a number
  set_below : (count number : ℕ) → count ≤ 64 → number < 64 → is_set (mask_below test count) number ≡ (nat_lt number count && test number)
  set_below zero number le lt =
      ap (λ (m : ℕ). is_set m number) start ∙ ap (λ (n : ℕ). n == 1) (bit_at-zero number)
      ∙ sym (ap (λ (b : Bool). b && test number) (le-ltb number 0 (omega arith)))
  set_below (suc count) number le lt =
      ap (λ (m : ℕ). is_set m number) (step count)
      ∙ by (test count) refl (set_below count number (omega (arith, le)) lt)
    where
      mask : ℕ
      mask = mask_below test count

      apart : ((number < count) ⊎ (count < number)) → number ≡ count → ⊥
      apart order is = ⊎_elim (λ less. omega (arith, less, is)) (λ more. omega (arith, more, is)) order

      same : (b : Bool) → test count ≡ b → is_set mask number ≡ (nat_lt number count && test number) → number ≡ count
          → is_set (if b then bit_or mask (bit count) else mask) number ≡ (nat_lt number (suc count) && test number)
      same true is before one =
          ap (λ (n : ℕ). is_set (bit_or mask (bit n)) number) (sym one) ∙ set_here mask number lt
          ∙ ap (λ (b : Bool). nat_lt number (suc number) && b) (sym (ap test one ∙ is))
          ∙ ap (λ (n : ℕ). nat_lt number (suc n) && test number) one
      same false is before one =
          before ∙ ap (λ (b : Bool). b && test number) (le-ltb number count (omega (arith, one)))
          ∙ sym (ap (λ (b : Bool). b && test number) (lt-ltb number (suc count) (omega (arith, one))) ∙ ap test one ∙ is)

      different : (b : Bool) → is_set mask number ≡ (nat_lt number count && test number) → ((number < count) ⊎ (count < number))
          → is_set (if b then bit_or mask (bit count) else mask) number ≡ (nat_lt number (suc count) && test number)
      different true before order =
          set_other mask count number (omega (arith, le)) (apart order) ∙ before
          ∙ ap (λ (b : Bool). b && test number) (further count number order)
      different false before order = before ∙ ap (λ (b : Bool). b && test number) (further count number order)

      by : (b : Bool) → test count ≡ b → is_set mask number ≡ (nat_lt number count && test number)
          → is_set (if b then bit_or mask (bit count) else mask) number ≡ (nat_lt number (suc count) && test number)
      by b is before = ⊎_elim (same b is before) (different b before) (cases_order number count)

  -- the numbers whose bits are set are those that pass
  pub numbers_that_pass : numbers_of (mask_that test) ≡ numbers_that test
  numbers_that_pass = same_numbers (is_set (mask_that test)) test (λ n lt.
      set_below 64 n (omega arith) lt ∙ ap (λ (b : Bool). b && test n) (lt-ltb n 64 lt))

  fits : (count : ℕ) → mask_below test count < 2 ^ 64
  fits zero = subst (λ (m : ℕ). m < 2 ^ 64) (sym start) (omega arith)
  fits (suc count) = subst (λ (m : ℕ). m < 2 ^ 64) (sym (step count)) (by (test count) (fits count))
    where
      by : (b : Bool) → mask_below test count < 2 ^ 64 → (if b then bit_or (mask_below test count) (bit count) else mask_below test count) < 2 ^ 64
      by true lt = or_lt 64 (mask_below test count) (bit count) lt (omega arith)
      by false lt = lt

  -- there is a bit where there is such a number
  pub some_bit : not (mask_that test == 0) ≡ nat_lt 0 (length (numbers_that test))
  some_bit = by (mask_that test == 0) refl (numbers_that test) numbers_that_pass
    where
      zero_bit : (n : ℕ) → n < 2 → (n == 1) ≡ false → n ≡ 0
      zero_bit zero lt unset = refl
      zero_bit (suc zero) lt unset = absurd cc
      zero_bit (suc (suc n)) lt unset = absurd (omega (arith, lt))

      no_bits : numbers_of (mask_that test) ≡ [] → mask_that test ≡ 0
      no_bits none = same_from_bits_below 64 (mask_that test) 0 (fits 64) (omega arith) (λ i lt.
          zero_bit (bit_at (mask_that test) i) (bit_at-lt (mask_that test) i)
          (sym (has_those (is_set (mask_that test)) i lt) ∙ ap (λ (l : List ℕ). has_number l i) none)
          ∙ sym (bit_at-zero i))

      by : (b : Bool) → (mask_that test == 0) ≡ b → (numbers : List ℕ) → numbers_of (mask_that test) ≡ numbers
          → not b ≡ nat_lt 0 (length numbers)
      by true is [] its = refl
      by true is (number ∷ rest) its =
          let none : [] ≡ number ∷ rest =
          sym no_numbers ∙ ap numbers_of (sym (eqb-true (mask_that test) 0 is)) ∙ its in
          absurd cc
      by false is [] its = absurd (eqb-false (mask_that test) 0 is (no_bits its))
      by false is (number ∷ rest) its = sym (lt-ltb 0 (suc (length rest)) (omega arith))

-- protocols with these bits are those of which enough lists have a number
pub listed_among : (least : ℕ) (lists : List (List (Named (List ℕ)))) (names : List (List ℕ))
    → all_listed (masks_among least lists names)
    ≡ map (λ (name : List ℕ). named_value name (listed_numbers least lists name)) (filter (is_listed_protocol least lists) names)
listed_among least lists [] = refl
listed_among least lists (name ∷ rest) =
    by (not (listed_mask least lists name == 0)) (is_listed_protocol least lists name) (some_bit (is_listed_number least lists name))
    (numbers_that_pass (is_listed_number least lists name)) (listed_among least lists rest)
  where
    make : List ℕ → Named (List ℕ)
    make n = named_value n (listed_numbers least lists n)

    by : (a b : Bool) → a ≡ b → numbers_of (listed_mask least lists name) ≡ listed_numbers least lists name
        → all_listed (masks_among least lists rest) ≡ map (λ (n : List ℕ). named_value n (listed_numbers least lists n)) (filter (is_listed_protocol least lists) rest)
        → all_listed (map (λ (n : List ℕ). named_value n (listed_mask least lists n))
        (cond a (name ∷ filter (λ n. not (listed_mask least lists n == 0)) rest) (filter (λ n. not (listed_mask least lists n == 0)) rest)))
        ≡ map (λ (n : List ℕ). named_value n (listed_numbers least lists n)) (cond b (name ∷ filter (is_listed_protocol least lists) rest) (filter (is_listed_protocol least lists) rest))
    by true true is its later =
        ap (λ (l : List ℕ). named_value name l ∷ all_listed (masks_among least lists rest)) its
        ∙ ap (λ (l : List (Named (List ℕ))). named_value name (listed_numbers least lists name) ∷ l) later
    by true false is its later = absurd cc
    by false true is its later = absurd cc
    by false false is its later = later
