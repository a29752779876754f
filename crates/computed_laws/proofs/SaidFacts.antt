-- What the text of a flavour says is in range where the facts are.
use Rattle.std.proofs.Common.{◌≡◌, ℕ, ◌≤◌, Bool, true, false, List, [], ◌∷◌, Option, Some, None, refl, sym, ap, arith}
use Rattle.std.{proofs.{Common.subst, lemmas.List.Elements.{All-map, All-weaker}}, specs.Prelude.{All, IfSome, is_some}}
use Rattle.std.specs.{Prelude.{map, nat_le, unwrap_or, if◌then◌else◌}, List.find}
use Rattle.dir_bytes.specs.Causes.{last_moment}
use Rattle.count_terms.specs.declared.newest.Newest.{Newest, TheVariants.{Method33, Method34, Method35}}
use Rattle.field_votes.specs.Methods.{is_supported, method_of}
use Rattle.consensus_terms.specs.Flavours.{common_moment, facts_in, moment_of_all, router_at}
use Rattle.consensus_terms.specs.declared.{consensus.ConsensusFacts.ConsensusFacts, flavour.Flavour.Flavour}
use Rattle.consensus_terms.specs.declared.{flavour.Flavour.TheVariants.{Ns, Microdesc}, router.Routerline.Routerline}
use Rattle.consensus_laws.specs.{Again.{AreFactsInRange, Ascending, IsRouterInRange}, Items.listed}
use Rattle.vote_laws.proofs.Members.{AllPairs-map}
use Rattle.computed_laws.proofs.RelayOrder.{Before}

-- ---- the method

-- such a number, or else what is found behind it, or the last
either_within : (method last : ℕ) (b : Bool) (behind : Option ℕ) → method ≤ 4294967295
    → unwrap_or behind last ≤ 4294967295
    → unwrap_or (if b then Some method else behind) last ≤ 4294967295
either_within method last true behind small is = small
either_within method last false behind small is = is

up_to_33 : (last : ℕ) (lists : List (List ℕ)) → last ≤ 4294967295
    → unwrap_or (find (is_supported lists) (33 ∷ 32 ∷ [])) last ≤ 4294967295
up_to_33 last lists small =
    either_within 33 last (is_supported lists 33) (find (is_supported lists) (32 ∷ [])) (omega arith)
    (either_within 32 last (is_supported lists 32) None (omega arith) small)

up_to_34 : (last : ℕ) (lists : List (List ℕ)) → last ≤ 4294967295
    → unwrap_or (find (is_supported lists) (34 ∷ 33 ∷ 32 ∷ [])) last ≤ 4294967295
up_to_34 last lists small =
    either_within 34 last (is_supported lists 34) (find (is_supported lists) (33 ∷ 32 ∷ [])) (omega arith)
    (up_to_33 last lists small)

-- the method that lists choose is a number that an item may have
pub method_within : (newest : Newest) (lists : List (List ℕ)) → method_of newest lists ≤ 4294967295
method_within Method33 lists = up_to_33 32 lists (omega arith)
method_within Method34 lists = up_to_34 34 lists (omega arith)
method_within Method35 lists =
    either_within 35 35 (is_supported lists 35) (find (is_supported lists) (34 ∷ 33 ∷ 32 ∷ [])) (omega arith)
    (up_to_34 35 lists (omega arith))

-- ---- the moments

-- the moment that is said of all is one of the calendar
all_within : (flavour : Flavour) (method : ℕ) → IfSome (moment_of_all flavour method) (λ m. m ≤ last_moment)
all_within Ns method = tt
all_within Microdesc method = by (nat_le 33 method)
  where
    within : 2145916800 ≤ 253402300799
    within = omega arith

    by : (b : Bool) → IfSome (if b then Some common_moment else None) (λ m. m ≤ last_moment)
    by true = within
    by false = tt

said_within : (moment : Option ℕ) (published : ℕ) → IfSome moment (λ m. m ≤ last_moment) → published ≤ last_moment
    → unwrap_or moment published ≤ last_moment
said_within None published all its = its
said_within (Some m) published all its = all

-- ---- the relays

module _ (flavour : Flavour) (moment : Option ℕ) where
  router_said : IfSome moment (λ m. m ≤ last_moment) → (r : Routerline) → IsRouterInRange flavour r
      → IsRouterInRange flavour (router_at moment r)
  router_said all r is = record {
    nickname = is.nickname;
    identity = is.identity;
    digest = is.digest;
    published = said_within moment r.published all is.published;
    ip = is.ip;
    or_port = is.or_port;
    dir_port = is.dir_port;
    a = is.a;
    m = is.m;
    flags = is.flags;
    w = is.w;
  }

  routers_said : IfSome moment (λ m. m ≤ last_moment) → (list : List Routerline) → All (IsRouterInRange flavour) list
      → All (IsRouterInRange flavour) (map (router_at moment) list)
  routers_said all list are =
      All-map (IsRouterInRange flavour) (router_at moment) list
      (All-weaker (IsRouterInRange flavour) (λ (r : Routerline). IsRouterInRange flavour (router_at moment r))
      (router_said all) list are)

  ascend_said : (list : List Routerline) → Ascending list → Ascending (map (router_at moment) list)
  ascend_said list up = AllPairs-map Before (router_at moment) list up

-- a flavour lists the same relays
listed_said : (flavour : Flavour) (moment : Option ℕ) (routers : List Routerline)
    → listed flavour (map (router_at moment) routers) ≡ map (router_at moment) (listed flavour routers)
listed_said Ns moment [] = refl
listed_said Ns moment (r ∷ rest) = ap (λ (l : List Routerline). router_at moment r ∷ l) (listed_said Ns moment rest)
listed_said Microdesc moment [] = refl
listed_said Microdesc moment (r ∷ rest) =
    by (is_some r.m) (listed Microdesc (map (router_at moment) rest)) (listed Microdesc rest) (listed_said Microdesc moment rest)
  where
    by : (b : Bool) (said back : List Routerline) → said ≡ map (router_at moment) back
        → (if b then router_at moment r ∷ said else said) ≡ map (router_at moment) (if b then r ∷ back else back)
    by true said back same = ap (λ (l : List Routerline). router_at moment r ∷ l) same
    by false said back same = same

-- ---- the facts

pub facts_said : (flavour : Flavour) (c : ConsensusFacts) → AreFactsInRange flavour c
    → AreFactsInRange flavour (facts_in flavour c)
facts_said flavour c are =
    let moment = moment_of_all flavour c.method in
    let same = sym (listed_said flavour moment c.routers) in
    record {
      method = are.method;
      valid_after = are.valid_after;
      fresh_until = are.fresh_until;
      valid_until = are.valid_until;
      vote_seconds = are.vote_seconds;
      dist_seconds = are.dist_seconds;
      known_flags = are.known_flags;
      lists = are.lists;
      random_previous = are.random_previous;
      random_current = are.random_current;
      sources = are.sources;
      routers = subst (All (IsRouterInRange flavour)) same
          (routers_said flavour moment (all_within flavour c.method) (listed flavour c.routers) are.routers);
      ascending = subst Ascending same (ascend_said flavour moment (listed flavour c.routers) are.ascending);
    }
