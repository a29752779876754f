-- Counting one vote after the other.
use Rattle.std.proofs.Common.{◌≡◌, ℕ, zero, suc, ◌+◌, ◌<◌, ◌≤◌, Bool, true, false, cond, ◌&&◌, List, [], ◌∷◌, ◌++◌}
use Rattle.std.proofs.Common.{Option, Some, None, length, get_or, set, take, drop, map, replicate, refl, sym, ap, ◌∙◌}
use Rattle.std.proofs.{Common.{add-one, drop-cons, append_assoc, length-append, arith}, lemmas.List.take_more}
use Rattle.std.proofs.lemmas.List.{take_more_set, drop-set-lt, Sums.length-filter, Elements.filter-append}
use Rattle.std.proofs.lemmas.{List.Elements.filter_map-append, Bool.false≢true, Option.{same_Some, slice_get_within}}
use Rattle.std.specs.{Prelude.{count_by, filter, option_map, slice_get, IsSome}, List.filter_map}
use Rattle.vote_terms.specs.{Votes.ReadVote, declared.entry.EntryFacts.EntryFacts}
use Rattle.dir_values.specs.FlagSets.{has_flag}
use Rattle.compute_terms.specs.{declared.belong.Belong.Belong, Listings.{Listing, listing_at, listings_at}}
use Rattle.compute_terms.specs.RelayFlags.{knows, counts_for, setting_count, knowing_count}
use Rattle.consensus_calc.specs.Counting.{one_if, added_counts}

-- ---- one step of adding

pub add_step : (first second : List Bool) (now : List ℕ) (i v : ℕ) → i < length now → length first ≡ length now → length second ≡ length now → v ≡ get_or now i 0 + one_if (get_or first i false) (get_or second i false)
    → take (i + 1) (set now i v) ++ added_counts (drop (i + 1) first) (drop (i + 1) second) (drop (i + 1) (set now i v)) ≡ take i now ++ added_counts (drop i first) (drop i second) (drop i now)
add_step first second now i v lt a b is =
    let f : drop i first ≡ get_or first i false ∷ drop (i + 1) first = rw add-one (drop-cons first i false (omega (arith, a, lt))) in
    let s : drop i second ≡ get_or second i false ∷ drop (i + 1) second = rw add-one (drop-cons second i false (omega (arith, b, lt))) in
    let n : drop i now ≡ get_or now i 0 ∷ drop (i + 1) now = rw add-one (drop-cons now i 0 lt) in
    let rest : drop (i + 1) (set now i v) ≡ drop (i + 1) now = drop-set-lt (i + 1) now i v (omega arith) in
    rw (take_more_set now i v lt, rest, f, s, n, is)
    (append_assoc (take i now) ((get_or now i 0 + one_if (get_or first i false) (get_or second i false)) ∷ []) (added_counts (drop (i + 1) first) (drop (i + 1) second) (drop (i + 1) now)))

pub behind_step : (now old : List ℕ) (i v : ℕ) → i < length now → length now ≡ length old → drop i now ≡ drop i old → drop (i + 1) (set now i v) ≡ drop (i + 1) old
behind_step now old i v lt same e =
    let n : drop i now ≡ get_or now i 0 ∷ drop (i + 1) now = rw add-one (drop-cons now i 0 lt) in
    let o : drop i old ≡ get_or old i 0 ∷ drop (i + 1) old = rw add-one (drop-cons old i 0 (omega (arith, same, lt))) in
    drop-set-lt (i + 1) now i v (omega arith) ∙ tails _ _ _ _ (sym n ∙ e ∙ o)
  where
    tails : (x y : ℕ) (xs ys : List ℕ) → x ∷ xs ≡ y ∷ ys → xs ≡ ys
    tails x y xs ys e = cc

pub front_is : (now old : List ℕ) (i : ℕ) → i < length now → length now ≡ length old → drop i now ≡ drop i old → get_or now i 0 ≡ get_or old i 0
front_is now old i lt same e =
    let n : drop i now ≡ get_or now i 0 ∷ drop (i + 1) now = rw add-one (drop-cons now i 0 lt) in
    let o : drop i old ≡ get_or old i 0 ∷ drop (i + 1) old = rw add-one (drop-cons old i 0 (omega (arith, same, lt))) in
    heads _ _ _ _ (sym n ∙ e ∙ o)
  where
    heads : (x y : ℕ) (xs ys : List ℕ) → x ∷ xs ≡ y ∷ ys → x ≡ y
    heads x y xs ys e = cc

one_at_most : (a b : Bool) → one_if a b ≤ 1
one_at_most true true = omega arith
one_at_most true false = omega arith
one_at_most false b = omega arith

-- a count rises by one at most
pub added_few : (first second : List Bool) (counts : List ℕ) (k : ℕ) → get_or (added_counts first second counts) k 0 ≤ get_or counts k 0 + 1
added_few [] second counts k = omega arith
added_few (a ∷ first) [] counts k = omega arith
added_few (a ∷ first) (b ∷ second) [] k = omega arith
added_few (a ∷ first) (b ∷ second) (count ∷ counts) zero = omega (arith, one_at_most a b)
added_few (a ∷ first) (b ∷ second) (count ∷ counts) (suc k) = added_few first second counts k

-- ---- counts of flags

added_map : (f : List ℕ → ℕ) (g h : List ℕ → Bool) (flags : List (List ℕ)) → added_counts (map g flags) (map h flags) (map f flags) ≡ map (λ flag. f flag + one_if (g flag) (h flag)) flags
added_map f g h [] = refl
added_map f g h (flag ∷ flags) = ap (λ (l : List ℕ). (f flag + one_if (g flag) (h flag)) ∷ l) (added_map f g h flags)

map_ext : (f g : List ℕ → ℕ) (flags : List (List ℕ)) → ((flag : List ℕ) → f flag ≡ g flag) → map f flags ≡ map g flags
map_ext f g [] same = refl
map_ext f g (flag ∷ flags) same = rw (same flag, map_ext f g flags same) refl

module _ {A : Type 0} where
  last_by : (b : Bool) (p : A → Bool) (x : A) → p x ≡ b → length (filter p (x ∷ [])) ≡ cond b 1 0
  last_by true p x e = rw e refl
  last_by false p x e = rw e refl

  -- one more member of what is counted
  count_last : (p : A → Bool) (xs : List A) (x : A) → count_by p xs + cond (p x) 1 0 ≡ count_by p (xs ++ x ∷ [])
  count_last p xs x =
      let whole : count_by p (xs ++ x ∷ []) ≡ length (filter p xs ++ filter p (x ∷ [])) = sym (length-filter p (xs ++ x ∷ [])) ∙ ap (λ (l : List A). length l) (filter-append p xs (x ∷ [])) in
      omega (arith, whole, length-append (filter p xs) (filter p (x ∷ [])), length-filter p xs, last_by (p x) p x refl)

-- one more vote that knows flags, and sets them in an entry
pub setting_more : (said : List Listing) (l : Listing) (flags : List (List ℕ)) (counts new : List ℕ) (row marks : List Bool) → counts ≡ map (setting_count said) flags → row ≡ map (λ flag. knows flag l.vote) flags
    → marks ≡ map (λ flag. has_flag l.entry.flags flag) flags → new ≡ added_counts row marks counts → new ≡ map (setting_count (said ++ l ∷ [])) flags
setting_more said l flags counts new row marks c r m n =
    n ∙ rw (c, r, m) (added_map (setting_count said) (λ flag. knows flag l.vote) (λ flag. has_flag l.entry.flags flag) flags)
    ∙ map_ext (λ flag. setting_count said flag + one_if (knows flag l.vote) (has_flag l.entry.flags flag)) (setting_count (said ++ l ∷ [])) flags (λ flag. count_last (counts_for flag) said l)

both_same : (b : Bool) → one_if b b ≡ cond b 1 0
both_same true = refl
both_same false = refl

pub knowing_more : (votes : List ReadVote) (i : ℕ) (flags : List (List ℕ)) (vote : ReadVote) (counts new : List ℕ) (row : List Bool) → i < length votes → vote ≡ get_or votes i vote → counts ≡ map (knowing_count (take i votes)) flags
    → row ≡ map (λ flag. knows flag vote) flags → new ≡ added_counts row row counts → new ≡ map (knowing_count (take (i + 1) votes)) flags
knowing_more votes i flags vote counts new row lt is c r n =
    n ∙ rw (c, r) (added_map (knowing_count (take i votes)) (λ flag. knows flag vote) (λ flag. knows flag vote) flags)
    ∙ map_ext (λ flag. knowing_count (take i votes) flag + one_if (knows flag vote) (knows flag vote)) (knowing_count (take i votes ++ vote ∷ [])) flags
    (λ flag. ap (λ (k : ℕ). knowing_count (take i votes) flag + k) (both_same (knows flag vote)) ∙ count_last (knows flag) (take i votes) vote)
    ∙ ap (λ (vs : List ReadVote). map (knowing_count vs) flags) (sym (take_more votes i vote lt ∙ ap (λ (v : ReadVote). take i votes ++ v ∷ []) (sym is)))

pub none_set : (flags : List (List ℕ)) → replicate (length flags) 0 ≡ map (setting_count []) flags
none_set [] = refl
none_set (flag ∷ flags) = ap (λ (l : List ℕ). 0 ∷ l) (none_set flags)

pub none_known : (flags : List (List ℕ)) → replicate (length flags) 0 ≡ map (knowing_count []) flags
none_known [] = refl
none_known (flag ∷ flags) = ap (λ (l : List ℕ). 0 ∷ l) (none_known flags)

pub zeros_few : (n k : ℕ) → get_or (replicate n 0) k 0 ≤ 0
zeros_few zero k = omega arith
zeros_few (suc n) zero = omega arith
zeros_few (suc n) (suc k) = zeros_few n k

-- ---- the row of a member's vote

row_by : (votes : List ReadVote) (flags : List (List ℕ)) (n : ℕ) (vote : ReadVote) (row d : List Bool) → slice_get votes n ≡ Some vote → row ≡ get_or (map (λ (v : ReadVote). map (λ flag. knows flag v) flags) votes) n d → row ≡ map (λ flag. knows flag vote) flags
row_by [] flags n vote row d e is = absurd cc
row_by (v ∷ votes) flags zero vote row d e is = is ∙ ap (λ (w : ReadVote). map (λ flag. knows flag w) flags) (same_Some v vote e)
row_by (v ∷ votes) flags (suc n) vote row d e is = row_by votes flags n vote row d e is

-- A place has this listing, whose vote has this row.
pub record Member (votes : List ReadVote) (flags : List (List ℕ)) (at : Belong) (entry : EntryFacts) (row : List Bool) : Type 0 where
  pub listing : Listing
  pub stands : listing_at votes at ≡ Some listing
  pub says : listing.entry ≡ entry
  pub knows_is : row ≡ map (λ flag. knows flag listing.vote) flags

member_in : (o : Option ReadVote) (votes : List ReadVote) (flags : List (List ℕ)) (at : Belong) (entry : EntryFacts) (row d : List Bool) → slice_get votes at.vote ≡ o
    → option_map (λ (l : Listing). l.entry) (listing_at votes at) ≡ Some entry → row ≡ get_or (map (λ (v : ReadVote). map (λ flag. knows flag v) flags) votes) at.vote d → Member votes flags at entry row
member_in None votes flags at entry row d e has is = absurd (let h = rw e at has in cc)
member_in (Some vote) votes flags at entry row d e has is = member_entry (slice_get vote.says.entries at.entry) refl
  where
    member_entry : (p : Option EntryFacts) → slice_get vote.says.entries at.entry ≡ p → Member votes flags at entry row
    member_entry None f = absurd (let h = rw (e, f) at has in cc)
    member_entry (Some found) f = record {
      listing = record { vote = vote; entry = found };
      stands = rw (e, f) refl;
      says = same_Some found entry (rw (e, f) at has);
      knows_is = row_by votes flags at.vote vote row d e is;
    }

pub member : (votes : List ReadVote) (flags : List (List ℕ)) (at : Belong) (entry : EntryFacts) (table : List (List Bool)) (row d : List Bool) → table ≡ map (λ (v : ReadVote). map (λ flag. knows flag v) flags) votes
    → option_map (λ (l : Listing). l.entry) (listing_at votes at) ≡ Some entry → row ≡ get_or table at.vote d → Member votes flags at entry row
member votes flags at entry table row d t has is = member_in _ votes flags at entry row d refl has (is ∙ ap (λ (rows : List (List Bool)). get_or rows at.vote d) t)

within_by : (o : Option ReadVote) (votes : List ReadVote) (at : Belong) → slice_get votes at.vote ≡ o → IsSome (listing_at votes at) → at.vote < length votes
within_by None votes at e some = absurd (false≢true (rw e at some))
within_by (Some vote) votes at e some = slice_get_within votes at.vote vote e

pub vote_within : (votes : List ReadVote) (at : Belong) → IsSome (listing_at votes at) → at.vote < length votes
vote_within votes at some = within_by _ votes at refl some

pub listings_more : (votes : List ReadVote) (members : List Belong) (i : ℕ) (d : Belong) (l : Listing) → i < length members → listing_at votes (get_or members i d) ≡ Some l → listings_at votes (take i members) ++ l ∷ [] ≡ listings_at votes (take (i + 1) members)
listings_more votes members i d l lt e =
    sym (ap (listings_at votes) (take_more members i d lt) ∙ filter_map-append (listing_at votes) (take i members) (get_or members i d ∷ []) ∙ rw e refl)

-- The row of a vote.
pub record VoteRow (votes : List ReadVote) (flags : List (List ℕ)) (i : ℕ) (row : List Bool) : Type 0 where
  pub vote : ReadVote
  pub stands : vote ≡ get_or votes i vote
  pub knows_is : row ≡ map (λ flag. knows flag vote) flags

vote_row_in : (votes : List ReadVote) (flags : List (List ℕ)) (i : ℕ) (row d : List Bool) → i < length votes → row ≡ get_or (map (λ (v : ReadVote). map (λ flag. knows flag v) flags) votes) i d → VoteRow votes flags i row
vote_row_in [] flags i row d lt is = absurd (omega (arith, lt))
vote_row_in (v ∷ votes) flags zero row d lt is = record { vote = v; stands = refl; knows_is = is }
vote_row_in (v ∷ votes) flags (suc i) row d lt is =
    let more = vote_row_in votes flags i row d (omega (arith, lt)) is in
    record { vote = more.vote; stands = more.stands; knows_is = more.knows_is }

pub vote_row : (votes : List ReadVote) (flags : List (List ℕ)) (i : ℕ) (table : List (List Bool)) (row d : List Bool) → i < length votes → table ≡ map (λ (v : ReadVote). map (λ flag. knows flag v) flags) votes → row ≡ get_or table i d → VoteRow votes flags i row
vote_row votes flags i table row d lt t is = vote_row_in votes flags i row d lt (is ∙ ap (λ (rows : List (List Bool)). get_or rows i d) t)
