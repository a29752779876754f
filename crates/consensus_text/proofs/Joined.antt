-- Lines, one word after another.
use Rattle.std.proofs.Common.{◌≡◌, ℕ, List, [], ◌∷◌, ◌++◌, length, Bool, true, false, sym, append_assoc, refl, arith}
use Rattle.std.proofs.lemmas.{Bool.{eqb-true, not-false, not-true, true≢false}, Grind.flat_map-append, List.append-nil}
use Rattle.std.specs.{Prelude.{◌==◌, not, ◌||◌}, List.flat_map}
use Rattle.item_terms.specs.Bytes.{space, line_feed}
use Rattle.consensus_terms.specs.Lines.{behind_space, line, list_line, list_line_by}

six : (k a b c d e f n : List ℕ)
    → k ++ a ++ b ++ c ++ d ++ e ++ f ++ n ≡ k ++ (a ++ (b ++ (c ++ (d ++ (e ++ (f ++ [])))))) ++ n
six k a b c d e f n = simp (append_assoc, append-nil)

-- a line of six words
pub line_of_six : (keyword a b c d e f : List ℕ)
    → keyword ++ behind_space a ++ behind_space b ++ behind_space c ++ behind_space d ++ behind_space e ++ behind_space f ++ line_feed ∷ []
    ≡ line keyword (a ∷ b ∷ c ∷ d ∷ e ∷ f ∷ [])
unfolding line
line_of_six keyword a b c d e f =
    six keyword (behind_space a) (behind_space b) (behind_space c) (behind_space d) (behind_space e) (behind_space f) (line_feed ∷ [])

-- a line of four lists of words
pub line_of_lists : (keyword : List ℕ) (a b c d : List (List ℕ))
    → keyword ++ flat_map behind_space a ++ flat_map behind_space b ++ flat_map behind_space c ++ flat_map behind_space d ++ line_feed ∷ []
    ≡ line keyword (a ++ b ++ c ++ d)
unfolding line
line_of_lists keyword a b c d = simp (append_assoc, flat_map-append)

module _ {X : Type 0} (text_of : List X → List ℕ) (keyword : List ℕ) where
  -- an empty list has no line
  pub no_line : (list : List X) → (length list == 0) ≡ true → [] ≡ list_line text_of keyword list
  no_line [] empty = refl
  no_line (first ∷ rest) empty = absurd (omega (arith, eqb-true _ _ empty))

  -- another has one
  pub line_of_list : (list : List X) → (length list == 0) ≡ false
      → keyword ++ space ∷ [] ++ text_of list ++ line_feed ∷ [] ≡ list_line text_of keyword list
  unfolding line
  line_of_list [] some = absurd (true≢false some)
  line_of_list (first ∷ rest) some = simp (append_assoc, append-nil)

  -- where all lists have a line, or this one is not empty, it has one
  pub line_by : (always : Bool) (list : List X) → (always || not (length list == 0)) ≡ true
      → keyword ++ space ∷ [] ++ text_of list ++ line_feed ∷ [] ≡ list_line_by always text_of keyword list
  unfolding line
  line_by true list stands = simp (append_assoc, append-nil)
  line_by false list stands = line_of_list list (not-true (length list == 0) stands)

  pub no_line_by : (always : Bool) (list : List X) → (always || not (length list == 0)) ≡ false
      → [] ≡ list_line_by always text_of keyword list
  no_line_by true list stands = absurd (true≢false stands)
  no_line_by false list stands = no_line list (not-false (length list == 0) stands)

pub ruleset texts = (append_assoc, append-nil)
