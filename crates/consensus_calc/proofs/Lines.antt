-- The line of a relay, step by step.
use Rattle.std.proofs.Common.{◌≡◌, ℕ, Bool, true, false, List, Option, Some, None, sym, ap, ◌∙◌}
use Rattle.std.specs.Prelude.{option_map, option_and_then, filter, map, if◌then◌else◌}
use Rattle.dir_values.specs.{declared.digest.Fingerprint.Fingerprint, FlagSets.as_set}
use Rattle.vote_terms.specs.{Votes.ReadVote, declared.entry.EntryFacts.EntryFacts}
use Rattle.compute_terms.specs.{declared.identity.EdPart.EdPart, Listings.{Listing, entries_of}, Identities.eds_of}
use Rattle.compute_terms.specs.{Identities.included_part, Tuples.chosen_tuple, RelayFlags.setting_count}
use Rattle.compute_terms.specs.RelayFlags.{knowing_count, is_set, set_flags, router_flags, is_running_and_valid}
use Rattle.compute_terms.specs.{Flags.known_flags, Routers.{belonging_listings, routerline_of, router_as, router_from}}
use Rattle.compute_terms.specs.Routers.{router_with}
use Rattle.consensus_terms.specs.declared.router.Routerline.{Routerline}
use Rattle.consensus_calc.{specs.Picking.picked_flags, proofs.Picks.picked_filter}

-- The part of an identity and the flags of its entries were found.
pub record IsFound (roster method : ℕ) (votes : List ReadVote) (said kept : List Listing) (ed : EdPart) (flags : List (List ℕ)) : Type 0 where
  pub included : included_part roster (eds_of said) ≡ Some ed
  pub kept_are : kept ≡ belonging_listings ed said
  pub flags_are : flags ≡ router_flags method votes ed kept

-- the line of an identity that is included
line_is : (roster method : ℕ) (most : Option ℕ) (votes : List ReadVote) (rsa : Fingerprint) (said kept : List Listing) (ed : EdPart) (flags : List (List ℕ)) → IsFound roster method votes said kept ed flags
    → router_from roster method most votes rsa said ≡ router_with method most rsa flags (entries_of kept)
line_is roster method most votes rsa said kept ed flags f =
    ap (λ (o : Option EdPart). option_and_then (λ e. router_as method most votes rsa e (belonging_listings e said)) o) f.included
    ∙ ap (λ (ls : List Listing). router_as method most votes rsa ed ls) (sym f.kept_are)
    ∙ ap (λ (fs : List (List ℕ)). router_with method most rsa fs (entries_of kept)) (sym f.flags_are)

pub unlisted : (roster method : ℕ) (most : Option ℕ) (votes : List ReadVote) (rsa : Fingerprint) (said kept : List Listing) (ed : EdPart) (flags : List (List ℕ)) → IsFound roster method votes said kept ed flags
    → is_running_and_valid flags ≡ false → None ≡ router_from roster method most votes rsa said
unlisted roster method most votes rsa said kept ed flags f n =
    sym (line_is roster method most votes rsa said kept ed flags f
    ∙ ap (λ (b : Bool). if b then option_map (routerline_of method most rsa flags (entries_of kept)) (chosen_tuple (entries_of kept)) else None) n)

pub listed : (roster method : ℕ) (most : Option ℕ) (votes : List ReadVote) (rsa : Fingerprint) (said kept : List Listing) (ed : EdPart) (flags : List (List ℕ)) (entries : List EntryFacts) (line : Option Routerline) → IsFound roster method votes said kept ed flags
    → is_running_and_valid flags ≡ true → entries ≡ entries_of kept → line ≡ option_map (routerline_of method most rsa flags entries) (chosen_tuple entries) → line ≡ router_from roster method most votes rsa said
listed roster method most votes rsa said kept ed flags entries line f y e l =
    l ∙ ap (λ (es : List EntryFacts). option_map (routerline_of method most rsa flags es) (chosen_tuple es)) e
    ∙ sym (line_is roster method most votes rsa said kept ed flags f
    ∙ ap (λ (b : Bool). if b then option_map (routerline_of method most rsa flags (entries_of kept)) (chosen_tuple (entries_of kept)) else None) y)

-- the flags that are picked by their counts are those that are set
pub set_is : (method : ℕ) (votes : List ReadVote) (ed : EdPart) (said : List Listing) (known : List (List ℕ)) (counts needed : List ℕ) → known ≡ known_flags method votes → counts ≡ map (setting_count said) known → needed ≡ map (knowing_count votes) known
    → as_set (picked_flags ed known counts needed) ≡ set_flags method votes ed said
set_is method votes ed said known counts needed k c n =
    ap (λ (cs : List ℕ). as_set (picked_flags ed known cs needed)) c
    ∙ ap (λ (ns : List ℕ). as_set (picked_flags ed known (map (setting_count said) known) ns)) n
    ∙ ap (λ (fs : List (List ℕ)). as_set fs) (picked_filter ed known (setting_count said) (knowing_count votes))
    ∙ ap (λ (fs : List (List ℕ)). as_set (filter (is_set votes ed said) fs)) k
