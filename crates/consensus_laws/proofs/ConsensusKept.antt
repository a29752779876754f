-- What is kept of the sections of a consensus that was written, one after the other.
use Rattle.std.proofs.Common.{◌≡◌, ℕ, List, [], ◌∷◌, ◌++◌, refl, sym, ap, ◌∙◌, append-nil, append_assoc}
use Rattle.std.{proofs.lemmas.List.Elements.{All-head, All-tail}, specs.{Prelude.{All, map}, List.fold}}
use Rattle.frame_terms.specs.declared.document.Group.{Group}
use Rattle.frame_values.specs.declared.values.Value.{Value}
use Rattle.frame_laws.proofs.{Following.entries_all, Groups.groups_in, ReadRows.{Stand, both_stand}, Sections.end_of}
use Rattle.frame_laws.proofs.Sections.{entries_in, section_is_read}
use Rattle.consensus_terms.specs.declared.{consensus.SourceLine.SourceLine, router.Routerline.Routerline}
use Rattle.consensus_frame.specs.{Tables.consensus_tables, declared.rows.ConsensusSection.ConsensusSection}
use Rattle.consensus_frame.specs.declared.value.ConsensusValue.{ConsensusValue}
use Rattle.consensus_doc.specs.{Drafts.with_section, Keeping.{Kept, kept_with_section, with_draft}}
use Rattle.consensus_laws.specs.Again.{IsAuthorityInRange, IsRouterInRange, router_as_read}
use Rattle.consensus_laws.proofs.{AnyOrder.whole_is_read, ConsensusRows.{source_section, source_written}}
use Rattle.consensus_laws.proofs.{ConsensusSays.source_says, RouterNotes.IsListed, RouterRows.router_section}
use Rattle.consensus_laws.proofs.{RouterWhole.router_whole, RouterSays.router_says}

-- a section of a consensus with its items
abbrev pub ConsensusGroup : Type 0
ConsensusGroup = Group ConsensusSection (Value ConsensusValue)

-- what a reader keeps with one more section
abbrev pub keeps : Kept → ConsensusGroup → Kept
keeps k group = kept_with_section k group.section group.taken

-- its draft is that of all sections
pub drafts_same : (k : Kept) (groups : List ConsensusGroup)
    → fold (λ draft (group : ConsensusGroup). with_section k.flavour k.bytes draft group.section group.taken) k.draft
    groups
    ≡ (fold keeps k groups).draft
drafts_same k [] = refl
drafts_same k (group ∷ groups) = drafts_same (keeps k group) groups

-- with these authorities
abbrev pub with_sources : Kept → List SourceLine → Kept
with_sources k list = with_draft k (record k.draft { facts = record k.draft.facts { sources = list } })

-- with these relays
abbrev pub with_routers : Kept → List Routerline → Kept
with_routers k list = with_draft k (record k.draft { facts = record k.draft.facts { routers = list } })

-- Authorities are kept as they were written.
pub sources_kept : (limit : ℕ) (k : Kept) (place : ℕ) (list : List SourceLine) (more : List ConsensusGroup)
    → All IsAuthorityInRange list → Stand limit k.bytes place (entries_all (map source_section list))
    → fold keeps k (groups_in place (map source_section list) ++ more)
    ≡ fold keeps (with_sources k (k.draft.facts.sources ++ list)) more
sources_kept limit k place [] more are stand =
    ap (λ (l : List SourceLine). fold keeps (with_sources k l) more) (sym (append-nil k.draft.facts.sources))
sources_kept limit k place (s ∷ list) more are stand =
    let before = k.draft.facts.sources in
    let is = All-head IsAuthorityInRange s list are in
    let next = end_of place (source_section s) in
    let rest = groups_in next (map source_section list) ++ more in
    let parts =
    both_stand limit k.bytes place (entries_in (source_section s)) (entries_all (map source_section list)) stand in
    let read =
    section_is_read (consensus_tables k.flavour) limit k.bytes place (source_section s) []
    (source_written k.flavour s is) parts.front in
    ap (λ (one : SourceLine). fold keeps (with_sources k (before ++ one ∷ [])) rest) (source_says s read)
    ∙ sources_kept limit (with_sources k (before ++ s ∷ [])) next list more (All-tail IsAuthorityInRange s list are)
    parts.back
    ∙ ap (λ (l : List SourceLine). fold keeps (with_sources k l) more) (append_assoc before (s ∷ []) list)

-- Relays are kept as the flavour has them.
pub routers_kept : (limit : ℕ) (k : Kept) (place : ℕ) (list : List Routerline) (more : List ConsensusGroup)
    → All (IsRouterInRange k.flavour) list → All (IsListed k.flavour) list
    → Stand limit k.bytes place (entries_all (map (router_section k.flavour) list))
    → fold keeps k (groups_in place (map (router_section k.flavour) list) ++ more)
    ≡ fold keeps (with_routers k (k.draft.facts.routers ++ map (router_as_read k.flavour) list)) more
routers_kept limit k place [] more are listed stand =
    ap (λ (l : List Routerline). fold keeps (with_routers k l) more) (sym (append-nil k.draft.facts.routers))
routers_kept limit k place (r ∷ list) more are listed stand =
    let flavour = k.flavour in
    let before = k.draft.facts.routers in
    let is = All-head (IsRouterInRange flavour) r list are in
    let section = router_section flavour r in
    let next = end_of place section in
    let others = map (router_section flavour) list in
    let rest = groups_in next others ++ more in
    let said = router_as_read flavour r in
    let parts = both_stand limit k.bytes place (entries_in section) (entries_all others) stand in
    let read =
    whole_is_read (consensus_tables flavour) limit k.bytes place section
    (router_whole flavour r is (All-head (IsListed flavour) r list listed)) parts.front in
    ap (λ (one : Routerline). fold keeps (with_routers k (before ++ one ∷ [])) rest) (router_says flavour r is read)
    ∙ routers_kept limit (with_routers k (before ++ said ∷ [])) next list more
    (All-tail (IsRouterInRange flavour) r list are) (All-tail (IsListed flavour) r list listed) parts.back
    ∙ ap (λ (l : List Routerline). fold keeps (with_routers k l) more)
    (append_assoc before (said ∷ []) (map (router_as_read flavour) list))
