-- What a consensus remembers of its relays, and that each may stand behind those before it.
use Rattle.std.proofs.Common.{◌≡◌, ℕ, Bool, true, false, List, [], ◌∷◌, Option, Some, Result, Ok, Err, refl, ap}
use Rattle.std.{proofs.lemmas.List.Elements.{All-cons, All-head, All-nil, All-tail}, specs.Prelude.{All, map}}
use Rattle.std.specs.Prelude.{if◌then◌else◌}
use Rattle.dir_values.specs.{Digests.identity_below, declared.digest.Fingerprint.Fingerprint}
use Rattle.dir_values.proofs.Orders.{AllPairs-head, AllPairs-tail}
use Rattle.frame_terms.specs.declared.fault.{FrameFault.FrameFault, FrameReason.TheVariants.Unsorted}
use Rattle.frame_laws.proofs.{Entries.taken_at, Passing.notes_passing, Remembered.Notes, SaidRows.entries_of}
use Rattle.frame_laws.proofs.Sections.{end_of, second_place, taken_in}
use Rattle.relay_entries.specs.{Listing.{fault_at, is_next, with_relay}, declared.listed.Listed.Listed}
use Rattle.consensus_terms.specs.{Routers.is_listed, declared.{flavour.Flavour.Flavour, router.Routerline.Routerline}}
use Rattle.consensus_frame.specs.{Tables.{consensus_tables, with_listed}, declared.across.Across.Across}
use Rattle.consensus_frame.specs.declared.rows.ConsensusSection.{ConsensusSection}
use Rattle.consensus_frame.specs.declared.rows.ConsensusSection.TheVariants as section
use Rattle.consensus_laws.{specs.{Again.{Ascending, IsRouterInRange}, Items.listed}, proofs.AnyOrder.AreNext}
use Rattle.consensus_laws.proofs.{ConsensusRows.Follows, Quiet.{forgotten, is_quiet}, RelayLines.relay_said}
use Rattle.consensus_laws.proofs.RouterRows.{router_entry, router_row, router_rows, router_section, suits_router}
use Rattle.consensus_laws.proofs.RouterWhole.{router_next, router_quiet, router_whole}

-- what is remembered after a relay
abbrev pub after_router : Flavour → Across → Routerline → Across
after_router flavour across r =
    record { listed = with_relay across.listed (relay_said flavour 0 r); is_signed = across.is_signed }

-- and after relays
abbrev pub after_routers : Flavour → Across → List Routerline → Across
after_routers flavour across [] = across
after_routers flavour across (r ∷ list) = after_routers flavour (after_router flavour across r) list

notes_first : (flavour : Flavour) (across : Across) (place : ℕ) (r : Routerline)
    → is_next across.listed.last r.identity ≡ true
    → (consensus_tables flavour).note across (taken_at place (router_entry flavour r))
    ≡ Ok (after_router flavour across r)
notes_first flavour across place r is =
    let no : Result Listed FrameFault = Err (fault_at place Unsorted) in
    ap (λ (b : Bool). with_listed across (if b then Ok (with_relay across.listed (relay_said flavour 0 r)) else no)) is

notes_router : (flavour : Flavour) (across : Across) (place : ℕ) (r : Routerline)
    → is_next across.listed.last r.identity ≡ true
    → Notes (consensus_tables flavour) across (taken_in place (router_section flavour r))
    (after_router flavour across r)
notes_router flavour across place r is = (
  after_router flavour across r,
  notes_first flavour across place r is,
  notes_passing (consensus_tables flavour) is_quiet (forgotten flavour) (after_router flavour across r)
      (second_place place (router_section flavour r)) (entries_of (router_rows flavour r)) (router_quiet flavour r),
)

-- ---- relays may stand one after the other

-- the flavour lists the relay
abbrev pub IsListed : Flavour → Routerline → Type 0
IsListed flavour r = is_listed flavour r ≡ true

-- the first one comes after the last identity
abbrev pub ComesAfter : Option Fingerprint → List Routerline → Type 0
ComesAfter last [] = Unit {0}
ComesAfter last (r ∷ list) = is_next last r.identity ≡ true

-- relays may follow, where this is remembered of those before them
pub record MayStand (flavour : Flavour) (across : Across) (list : List Routerline) : Type 0 where
  pub each : All (IsRouterInRange flavour) list
  pub listed : All (IsListed flavour) list
  pub ascending : Ascending list
  pub comes : ComesAfter across.listed.last list

abbrev Before : Routerline → Routerline → Type 0
Before earlier later = identity_below earlier.identity later.identity ≡ true

comes_after : (r : Routerline) (list : List Routerline) → Ascending (r ∷ list) → ComesAfter (Some r.identity) list
comes_after r [] up = tt
comes_after r (next ∷ list) up = All-head (Before r) next list (AllPairs-head Before r (next ∷ list) up)

-- Relays that may stand follow one another, and the section before them.
pub routers_next : (flavour : Flavour) (across : Across) (before : ConsensusSection) (place : ℕ)
    (list : List Routerline) → Follows flavour before section.Router router_row → MayStand flavour across list
    → AreNext (consensus_tables flavour) across before place (map (router_section flavour) list)
    (after_routers flavour across list)
routers_next flavour across before place [] follows may = refl
routers_next flavour across before place (r ∷ list) follows may =
    let are = All-head (IsRouterInRange flavour) r list may.each in
    let others : MayStand flavour (after_router flavour across r) list = record {
      each = All-tail (IsRouterInRange flavour) r list may.each;
      listed = All-tail (IsListed flavour) r list may.listed;
      ascending = AllPairs-tail Before r list may.ascending;
      comes = comes_after r list may.ascending;
    } in (
      after_router flavour across r,
      record {
        follows = follows;
        written = router_whole flavour r are (All-head (IsListed flavour) r list may.listed);
        suits = suits_router flavour r are across place;
        notes = notes_router flavour across place r may.comes;
      },
      routers_next flavour (after_router flavour across r) section.Router (end_of place (router_section flavour r)) list
          (router_next flavour) others,
    )

-- those that a flavour lists are listed
pub all_listed : (flavour : Flavour) (routers : List Routerline) → All (IsListed flavour) (listed flavour routers)
all_listed flavour [] = All-nil (IsListed flavour)
all_listed flavour (r ∷ routers) = by (is_listed flavour r) refl (all_listed flavour routers)
  where
    by : (b : Bool) → is_listed flavour r ≡ b → All (IsListed flavour) (listed flavour routers)
        → All (IsListed flavour) (if b then r ∷ listed flavour routers else listed flavour routers)
    by true is others = All-cons (IsListed flavour) r (listed flavour routers) is others
    by false is others = others
