-- An RSA identity stands among the routers exactly where it is included and its flags have `Running` and `Valid`.
use Rattle.std.proofs.Common.{◌≡◌, ℕ, Bool, true, false, ◌&&◌, ◌||◌, List, [], ◌∷◌, Option, Some, None, map, refl, sym}
use Rattle.std.proofs.{Common.{ap, ◌∙◌}, lemmas.{Bool.{and_right, false≢true, or_parts}, Option.same_Some}}
use Rattle.std.{proofs.lemmas.List.Folds.list_any-append, specs.Prelude.{is_some, option_map, option_and_then}}
use Rattle.std.specs.{Prelude.if◌then◌else◌, Option.option_map_or, List.{find, fold, filter_map, flat_map, list_any}}
use Rattle.std.specs.{Str.bytes_eq, Cmp.{IsTotalOrder, Lexicographic.bytes_decides}, declared.cmp.Ordering.Ordering}
use Rattle.std.specs.declared.cmp.Ordering.TheVariants.{Equal}
use Rattle.dir_values.specs.{declared.digest.Fingerprint.Fingerprint, Digests.same_identity, FlagSets.has_flag}
use Rattle.dir_values.{specs.FlagSets.as_set, proofs.Flags.has_flag-as_set}
use Rattle.vote_terms.specs.{Votes.ReadVote, declared.entry.EntryFacts.EntryFacts}
use Rattle.count_terms.specs.{Choosing.{outdoes, chosen}, declared.newest.Newest.Newest}
use Rattle.field_votes.{specs.Leading.after, proofs.Leaders.leader_is_chosen}
use Rattle.consensus_terms.specs.declared.router.Routerline.{Routerline}
use Rattle.compute_terms.specs.{declared.identity.EdPart.EdPart, Listings.{Listing, listings, identities_of}}
use Rattle.compute_terms.specs.{Listings.{identities_in, entries_of}, Identities.{eds_of, included_part}}
use Rattle.compute_terms.specs.{RelayFlags.{router_flags, is_running_and_valid}, Tuples.{Tuple, tuple_of, tuple_order}}
use Rattle.compute_terms.specs.{Tuples.chosen_tuple, Bandwidths.cap_of, Lists.listed_params, Routers.routerline_of}
use Rattle.compute_terms.specs.{Routers.{belonging_listings, router_as, router_of}, Methods.chosen_method}
use Rattle.bandwidth_rules.specs.Limits.{unmeasured_limit}
use Rattle.relay_select.specs.TupleOrder.{tuple_total, tuple_ties}
use Rattle.answer_laws.specs.Listed.{has_router, is_listed_relay, ListedRelaysAreListed}
use Rattle.answer_laws.proofs.EmptyFlags.{not_running}

-- ---- where there is a value, one is chosen

module _ {A : Type 0} (order : A → A → Ordering) where
  stays_by : (b : Bool) (list : List A) (best x : A) (xs : List A) → ((y : A) → is_some (fold (after order list) (Some y) xs) ≡ true) → is_some (fold (after order list) (if b then Some x else Some best) xs) ≡ true
  stays_by true list best x xs more = more x
  stays_by false list best x xs more = more best

  stays : (list : List A) (best : A) (xs : List A) → is_some (fold (after order list) (Some best) xs) ≡ true
  stays list best [] = refl
  stays list best (x ∷ xs) = stays_by (outdoes order list x best) list best x xs (λ y. stays list y xs)

  one_is_chosen : IsTotalOrder order → ((a b : A) → order a b ≡ Equal → a ≡ b) → (x : A) (xs : List A) → is_some (chosen order (x ∷ xs)) ≡ true
  one_is_chosen total ties x xs = ap is_some (sym (leader_is_chosen order total ties (x ∷ xs))) ∙ stays (x ∷ xs) x xs

-- ---- of one identity

some_if : (b : Bool) (t : Option Tuple) (g : Tuple → Routerline) → (b ≡ true → is_some t ≡ true) → is_some (if b then option_map g t else None) ≡ b
some_if false t g h = refl
some_if true (Some t) g h = refl
some_if true None g h = h refl

running_has_chosen_tuple : (m : ℕ) (votes : List ReadVote) (ed : EdPart) (members : List Listing) → is_running_and_valid (router_flags m votes ed members) ≡ true → is_some (chosen_tuple (entries_of members)) ≡ true
running_has_chosen_tuple m votes ed [] h = absurd (false≢true (sym (not_running m votes ed) ∙ h))
running_has_chosen_tuple m votes ed (l ∷ members) h = one_is_chosen tuple_order tuple_total tuple_ties (tuple_of l.entry) (map tuple_of (entries_of members))

some_by : (roster m : ℕ) (limit : Option ℕ) (votes : List ReadVote) (rsa : Fingerprint) (o : Option EdPart)
    → is_some (option_and_then (λ ed. router_as m (cap_of limit votes) votes rsa ed (belonging_listings ed (listings votes rsa))) o)
    ≡ option_map_or (λ ed. is_running_and_valid (router_flags m votes ed (belonging_listings ed (listings votes rsa)))) o false
some_by roster m limit votes rsa None = refl
some_by roster m limit votes rsa (Some ed) =
    let members = belonging_listings ed (listings votes rsa) in
    some_if (is_running_and_valid (router_flags m votes ed members)) (chosen_tuple (entries_of members)) (routerline_of m (cap_of limit votes) rsa (router_flags m votes ed members) (entries_of members)) (running_has_chosen_tuple m votes ed members)

-- what is said of an identity is there exactly where it is listed
some_is : (roster m : ℕ) (limit : Option ℕ) (votes : List ReadVote) (rsa : Fingerprint) → is_some (router_of roster m limit votes rsa) ≡ is_listed_relay m roster votes rsa
some_is roster m limit votes rsa = some_by roster m limit votes rsa (included_part roster (eds_of (listings votes rsa)))

named_if : (b : Bool) (t : Option Tuple) (g : Tuple → Routerline) (x : Fingerprint) → ((u : Tuple) → (g u).identity ≡ x) → (r : Routerline) → (if b then option_map g t else None) ≡ Some r → r.identity ≡ x
named_if true (Some t) g x h r e = ap (λ (l : Routerline). l.identity) (sym (same_Some (g t) r e)) ∙ h t
named_if true None g x h r e = absurd cc
named_if false t g x h r e = absurd cc

named_by : (m : ℕ) (limit : Option ℕ) (votes : List ReadVote) (rsa : Fingerprint) (o : Option EdPart) (r : Routerline)
    → option_and_then (λ ed. router_as m (cap_of limit votes) votes rsa ed (belonging_listings ed (listings votes rsa))) o ≡ Some r → r.identity ≡ rsa
named_by m limit votes rsa None r e = absurd cc
named_by m limit votes rsa (Some ed) r e =
    let members = belonging_listings ed (listings votes rsa) in
    named_if (is_running_and_valid (router_flags m votes ed members)) (chosen_tuple (entries_of members)) (routerline_of m (cap_of limit votes) rsa (router_flags m votes ed members) (entries_of members)) rsa (λ u. refl) r e

-- and it names the identity
named : (roster m : ℕ) (limit : Option ℕ) (votes : List ReadVote) (rsa : Fingerprint) (r : Routerline) → router_of roster m limit votes rsa ≡ Some r → r.identity ≡ rsa
named roster m limit votes rsa r e = named_by m limit votes rsa (included_part roster (eds_of (listings votes rsa))) r e

-- ---- of all identities

abbrev among : List Fingerprint → Fingerprint → Bool
among ids rsa = list_any (λ (x : Fingerprint). same_identity x rsa) ids

same_print : (x y : Fingerprint) → same_identity x y ≡ true → x ≡ y
same_print x y e = ap (λ (bytes : List ℕ). record { 0 = bytes }) ((bytes_decides x.0 y.0).0 e)

module _ (f : Fingerprint → Option Routerline) (names : (x : Fingerprint) (r : Routerline) → f x ≡ Some r → r.identity ≡ x) (rsa : Fingerprint) where
  abbrev Has : List Fingerprint → Type 0
  Has ids = has_router (filter_map f ids) rsa ≡ (among ids rsa && is_some (f rsa))

  one_by : (o : Option Routerline) (b : Bool) (x : Fingerprint) (xs : List Fingerprint) → f x ≡ o → same_identity x rsa ≡ b → Has xs → Has (x ∷ xs)
  one_by None true x xs e is more =
      let none : is_some (f rsa) ≡ false = ap (λ (y : Fingerprint). is_some (f y)) (sym (same_print x rsa is)) ∙ ap is_some e in
      rw (e, is) (more ∙ rw none (and_right (among xs rsa) false refl))
  one_by None false x xs e is more = rw (e, is) more
  one_by (Some r) true x xs e is more =
      let some : is_some (f rsa) ≡ true = ap (λ (y : Fingerprint). is_some (f y)) (sym (same_print x rsa is)) ∙ ap is_some e in
      let at : same_identity r.identity rsa ≡ true = ap (λ (y : Fingerprint). same_identity y rsa) (names x r e) ∙ is in
      rw (e, is) (rw (at, some) refl)
  one_by (Some r) false x xs e is more =
      let at : same_identity r.identity rsa ≡ false = ap (λ (y : Fingerprint). same_identity y rsa) (names x r e) ∙ is in
      rw (e, is) (rw at more)

  has : (ids : List Fingerprint) → Has ids
  has [] = refl
  has (x ∷ xs) = one_by _ _ x xs refl refl (has xs)

-- ---- of the identities that some vote lists

abbrev bytes_in : List ReadVote → List (List ℕ)
bytes_in votes = flat_map (λ (vote : ReadVote). identities_of vote.says.entries) votes

among_map : (xs : List (List ℕ)) (rsa : Fingerprint) → among (map (λ bytes. record { 0 = bytes }) xs) rsa ≡ has_flag xs rsa.0
among_map [] rsa = refl
among_map (x ∷ xs) rsa = ap (λ (b : Bool). bytes_eq x rsa.0 || b) (among_map xs rsa)

none_found : (es : List EntryFacts) (rsa : Fingerprint) → has_flag (identities_of es) rsa.0 ≡ false → find (λ (entry : EntryFacts). same_identity entry.identity rsa) es ≡ None
none_found [] rsa h = refl
none_found (e ∷ es) rsa h =
    let here : same_identity e.identity rsa ≡ false =
    (or_parts (bytes_eq e.identity.0 rsa.0) (has_flag (identities_of es) rsa.0) h).0 in
    rw here (none_found es rsa (or_parts (bytes_eq e.identity.0 rsa.0) (has_flag (identities_of es) rsa.0) h).1)

-- an identity that no vote lists has no listings
nothing_said : (votes : List ReadVote) (rsa : Fingerprint) → has_flag (bytes_in votes) rsa.0 ≡ false → listings votes rsa ≡ []
nothing_said [] rsa h = refl
nothing_said (vote ∷ votes) rsa h =
    let both : (has_flag (identities_of vote.says.entries) rsa.0 || has_flag (bytes_in votes) rsa.0) ≡ false =
    sym (list_any-append (λ other. bytes_eq other rsa.0) (identities_of vote.says.entries) (bytes_in votes)) ∙ h in
    let parts = or_parts (has_flag (identities_of vote.says.entries) rsa.0) (has_flag (bytes_in votes) rsa.0) both in
    let here = none_found vote.says.entries rsa parts.0 in
    rw here (nothing_said votes rsa parts.1)

unlisted_by : (m : ℕ) (votes : List ReadVote) (o : Option EdPart) → option_map_or (λ ed. is_running_and_valid (router_flags m votes ed (belonging_listings ed []))) o false ≡ false
unlisted_by m votes None = refl
unlisted_by m votes (Some ed) = not_running m votes ed

unlisted : (m roster : ℕ) (votes : List ReadVote) (rsa : Fingerprint) (said : List Listing) → said ≡ []
    → option_map_or (λ ed. is_running_and_valid (router_flags m votes ed (belonging_listings ed said))) (included_part roster (eds_of said)) false ≡ false
unlisted m roster votes rsa [] e = unlisted_by m votes (included_part roster (eds_of []))
unlisted m roster votes rsa (l ∷ said) e = absurd cc

-- the limit of bandwidths of the consensus
abbrev limit_of : Newest → ℕ → List ReadVote → Option ℕ
limit_of newest roster votes = unmeasured_limit (chosen_method newest votes) (listed_params roster votes)

law_by : (b : Bool) (newest : Newest) (roster : ℕ) (votes : List ReadVote) (rsa : Fingerprint)
    → has_flag (bytes_in votes) rsa.0 ≡ b
    → (b && is_some (router_of roster (chosen_method newest votes) (limit_of newest roster votes) votes rsa))
    ≡ is_listed_relay (chosen_method newest votes) roster votes rsa
law_by true newest roster votes rsa h = some_is roster (chosen_method newest votes) (limit_of newest roster votes) votes rsa
law_by false newest roster votes rsa h = sym (unlisted (chosen_method newest votes) roster votes rsa (listings votes rsa) (nothing_said votes rsa h))

pub listed_law : ListedRelaysAreListed
listed_law newest roster votes rsa =
    let f = router_of roster (chosen_method newest votes) (limit_of newest roster votes) votes in
    let where_listed : among (identities_in votes) rsa ≡ has_flag (bytes_in votes) rsa.0 = among_map (as_set (bytes_in votes)) rsa ∙ has_flag-as_set (bytes_in votes) rsa.0 in
    has f (named roster (chosen_method newest votes) (limit_of newest roster votes) votes) rsa (identities_in votes)
    ∙ ap (λ (b : Bool). b && is_some (f rsa)) where_listed
    ∙ law_by _ newest roster votes rsa refl
