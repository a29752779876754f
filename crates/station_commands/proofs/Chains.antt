-- Descriptors that stand one behind the other, up to the end of the input.
use Rattle.std.proofs.Common.{◌≡◌, ℕ, true, false, List, [], ◌∷◌, ◌++◌, Result, Ok, Err, refl, sym, ap, subst, ◌∙◌}
use Rattle.std.{proofs.lemmas.{Bool.false≢true, List.{append-nil, Elements.{All-head, All-tail}}}, specs.Prelude.All}
use Rattle.count_terms.specs.declared.newest.Newest.{Newest}
use Rattle.blank_lines.specs.Ends.{ends_at}
use Rattle.frame_terms.specs.declared.fault.ReadRefusal.{ReadRefusal}
use Rattle.descriptor_doc.specs.declared.descriptor.Descriptor.{Descriptor}
use Rattle.station_commands.specs.Descriptors.{Stand, descriptor_from}

-- the place behind what was read, and what it is
abbrev place_behind_read : Result (Descriptor × ℕ) ReadRefusal → ℕ
place_behind_read (Ok found) = found.1
place_behind_read (Err why) = 0

abbrev which : Descriptor → Result (Descriptor × ℕ) ReadRefusal → Descriptor
which other (Ok found) = found.0
which other (Err why) = other

-- two readings of one place are of one descriptor
pub one_there : (read : Result (Descriptor × ℕ) ReadRefusal) (a b : Descriptor) (m n : ℕ) → read ≡ Ok (a, m)
    → read ≡ Ok (b, n) → a ≡ b
one_there read a b m n first second = ap (which a) (sym first ∙ second)

next_there : (read : Result (Descriptor × ℕ) ReadRefusal) (a b : Descriptor) (m n : ℕ) → read ≡ Ok (a, m)
    → read ≡ Ok (b, n) → m ≡ n
next_there read a b m n first second = ap place_behind_read (sym first ∙ second)

-- an end is no place where more stands
no_end : (bytes : List ℕ) (a b : ℕ) → a ≡ b → ends_at a bytes ≡ true → ends_at b bytes ≡ false → ⊥
no_end bytes a b same ended more =
    false≢true (sym more ∙ ap (λ (p : ℕ). ends_at p bytes) (sym same) ∙ ended)

-- Behind some descriptors that stand there others stand, up to the last place, and together they are all.
pub record GoesOn (newest : Newest) (bytes : List ℕ) (all some : List Descriptor) (last place : ℕ) : Type 0 where
  pub rest : List Descriptor
  pub stands : Stand newest place rest last bytes
  pub whole : all ≡ some ++ rest

-- what stands up to the end begins with all that stands there
pub goes_on : (newest : Newest) (bytes : List ℕ) (start : ℕ) (all some : List Descriptor) (last place : ℕ)
    → Stand newest start all last bytes → ends_at last bytes ≡ true → Stand newest start some place bytes → GoesOn newest bytes all some last place
goes_on newest bytes start all [] last place whole ended part = record {
  rest = all;
  stands = subst (λ (p : ℕ). Stand newest p all last bytes) (sym part) whole;
  whole = refl;
}
goes_on newest bytes start [] (one ∷ some) last place whole ended part =
    absurd (no_end bytes last start whole ended part.0)
goes_on newest bytes start (first ∷ all) (one ∷ some) last place whole ended part =
    let next = next_there (descriptor_from newest start bytes) one first part.1 whole.1 part.2 whole.2 in
    let same = one_there (descriptor_from newest start bytes) first one whole.1 part.1 whole.2 part.2 in
    let more =
    goes_on newest bytes whole.1 all some last place whole.3 ended
    (subst (λ (n : ℕ). Stand newest n some place bytes) next part.3) in
    record {
      rest = more.rest;
      stands = more.stands;
      whole = ap (λ (d : Descriptor). d ∷ all) same ∙ ap (λ (l : List Descriptor). one ∷ l) more.whole;
    }

-- One more stands at a place.
pub record HasNext (newest : Newest) (bytes : List ℕ) (rest : List Descriptor) (place : ℕ) : Type 0 where
  pub one : Descriptor
  pub others : List Descriptor
  pub rest_is : rest ≡ one ∷ others
  pub next : ℕ
  pub there : descriptor_from newest place bytes ≡ Ok (one, next)

-- it does where that is not the end
pub has_next : (newest : Newest) (bytes : List ℕ) (rest : List Descriptor) (last place : ℕ)
    → Stand newest place rest last bytes → ends_at last bytes ≡ true → ends_at place bytes ≡ false → HasNext newest bytes rest place
has_next newest bytes [] last place stands ended more = absurd (no_end bytes last place stands ended more)
has_next newest bytes (one ∷ others) last place stands ended more =
    record { one = one; others = others; rest_is = refl; next = stands.1; there = stands.2 }

-- and none where it is
pub none_left : (newest : Newest) (bytes : List ℕ) (rest : List Descriptor) (last place : ℕ)
    → Stand newest place rest last bytes → ends_at place bytes ≡ true → rest ≡ []
none_left newest bytes [] last place stands ended = refl
none_left newest bytes (one ∷ others) last place stands ended = absurd (no_end bytes place place refl ended stands.0)

-- what holds of all holds of the one behind some
pub of_next : (P : Descriptor → Type 0) (some others : List Descriptor) (one : Descriptor) → All P (some ++ one ∷ others)
    → P one
of_next P [] others one all = All-head P one others all
of_next P (first ∷ some) others one all =
    of_next P some others one (All-tail P first (some ++ one ∷ others) all)

-- two chains up to the end are one
pub one_chain : (newest : Newest) (bytes : List ℕ) (start : ℕ) (all some : List Descriptor) (last place : ℕ)
    → Stand newest start all last bytes → ends_at last bytes ≡ true → Stand newest start some place bytes → ends_at place bytes ≡ true → some ≡ all
one_chain newest bytes start all some last place whole ended part at_end =
    let more = goes_on newest bytes start all some last place whole ended part in
    let none = none_left newest bytes more.rest last place more.stands at_end in
    sym (more.whole ∙ ap (λ (l : List Descriptor). some ++ l) none ∙ append-nil some)
