-- The items of a consensus that was written make its document: the preamble, authorities, relays and the footer.
use Rattle.std.proofs.Common.{◌≡◌, ℕ, true, List, [], ◌∷◌, ◌++◌, Option, None, Result, Ok, refl, sym, ap, subst, ◌∙◌}
use Rattle.std.{proofs.Common.{append-nil, append_assoc}, specs.Prelude.map}
use Rattle.item_terms.specs.Items.{Item}
use Rattle.dirdoc_grammar.specs.Writing.{all_written}
use Rattle.frame_terms.specs.{Documents.{Document, group, onto, read_items, start}, Keywords.same}
use Rattle.frame_terms.specs.{Order.{following_sections, must_open}, declared.document.Group.Group}
use Rattle.frame_terms.specs.declared.fault.ReadRefusal.{ReadRefusal}
use Rattle.frame_terms.specs.declared.keyword.Keyword.TheVariants as the
use Rattle.frame_values.specs.declared.values.Value.{Value}
use Rattle.frame_laws.proofs.{Ends.closed_read, Entries.{after_one, all_taken, item_of, taken_at}, Following.first_read}
use Rattle.frame_laws.proofs.Following.{groups_of, last_first, last_name, last_others, onto_all, section_read}
use Rattle.frame_laws.proofs.{Groups.{groups_in, onto_all-last, onto_all-ok}, Passing.notes_passing, Places.after_all}
use Rattle.frame_laws.proofs.{Places.{all_taken-append, both_written}, Remembered.{Notes, notes_both}}
use Rattle.frame_laws.proofs.{RowValues.text_entry_if, Sections.{end_of, entries_in, others_in, second_place}}
use Rattle.frame_laws.proofs.{Sections.{section_whole, taken_in}, Steps.opening}
use Rattle.frame_laws.proofs.Following as in_table_order
use Rattle.consensus_terms.specs.{Signed.in_order, declared.consensus.SignedConsensus.SignedConsensus}
use Rattle.consensus_terms.specs.declared.{consensus.SourceLine.SourceLine, flavour.Flavour.Flavour}
use Rattle.consensus_terms.specs.declared.{router.Routerline.Routerline, signature.SignatureLine.SignatureLine}
use Rattle.consensus_frame.specs.{Tables.{consensus_tables, nothing_across}, declared.across.Across.Across}
use Rattle.consensus_frame.specs.declared.{rows.ConsensusSection.ConsensusSection, value.ConsensusValue.ConsensusValue}
use Rattle.consensus_frame.specs.declared.rows.ConsensusSection.TheVariants as section
use Rattle.consensus_laws.specs.{Again.{IsInRange, IsSignatureInRange}, Items.listed}
use Rattle.consensus_laws.proofs.ConsensusItems.{ConsensusEntry, ConsensusPart, suits_nothing, suits_version}
use Rattle.consensus_laws.proofs.ConsensusRows.{Follows, footer, footer_after_preamble, footer_after_source, footer_row}
use Rattle.consensus_laws.proofs.ConsensusRows.{footer_written, preamble, preamble_first, preamble_quiet}
use Rattle.consensus_laws.proofs.ConsensusRows.{preamble_written, signature_entry, source_first, source_section}
use Rattle.consensus_laws.proofs.ConsensusSame.{before_signatures, in_routers, in_sources, signatures_in}
use Rattle.consensus_laws.proofs.{ConsensusSame.unsigned_entries, ConsensusSays.ConsensusTaken, Quiet.forgotten}
use Rattle.consensus_laws.proofs.{Quiet.{is_quiet, text_quiet}, RouterNotes.{after_routers, all_listed, routers_next}}
use Rattle.consensus_laws.proofs.{RouterNotes.{MayStand, ComesAfter}, RouterRows.{router_row, router_section}}
use Rattle.consensus_laws.proofs.RouterWhole.{footer_after_router, router_after_preamble, router_after_source}
use Rattle.consensus_laws.proofs.{SignatureOrder.each_in_order, SourceNotes.sources_next}
use Rattle.consensus_laws.proofs.AnyOrder as in_any_order

abbrev pub ConsensusDocument : Type 0
ConsensusDocument = Document ConsensusSection (Value ConsensusValue)

-- ---- its sections, and where they begin

abbrev pub its_sources : SignedConsensus → List ConsensusPart
its_sources c = map source_section c.facts.sources

abbrev pub its_relays : SignedConsensus → List Routerline
its_relays c = listed c.flavour c.facts.routers

abbrev pub its_routers : SignedConsensus → List ConsensusPart
its_routers c = map (router_section c.flavour) (its_relays c)

abbrev pub its_preamble : SignedConsensus → ConsensusPart
its_preamble c = preamble c.flavour c.facts

abbrev pub its_footer : SignedConsensus → ConsensusPart
its_footer c = footer c.weights (in_order c.signatures)

abbrev pub sources_place : SignedConsensus → ℕ
sources_place c = end_of 0 (its_preamble c)

abbrev pub routers_place : SignedConsensus → ℕ
routers_place c = after_all (sources_place c) (in_sources c)

abbrev pub footer_place : SignedConsensus → ℕ
footer_place c = after_all (routers_place c) (in_routers c)

-- all its items, section by section
abbrev pub all_entries : SignedConsensus → List ConsensusEntry
all_entries c = entries_in (its_preamble c) ++ (in_sources c ++ (in_routers c ++ entries_in (its_footer c)))

pub in_sections : (c : SignedConsensus) → unsigned_entries c ++ signatures_in c ≡ all_entries c
in_sections c =
    moved (entries_in (its_preamble c)) (in_sources c) (in_routers c) (before_signatures c) (signatures_in c)
    ∙ ap (λ (l : List ConsensusEntry).
    entries_in (its_preamble c) ++ (in_sources c ++ (in_routers c ++ (before_signatures c ++ l))))
    (sym (append-nil (signatures_in c)))
    ∙ ap (λ (l : List ConsensusEntry). entries_in (its_preamble c) ++ (in_sources c ++ (in_routers c ++ l)))
    (append_assoc ((its_footer c).opener ∷ []) (text_entry_if the.BandwidthWeights c.weights) (signatures_in c ++ []))
  where
    moved : (p s r b e : List ConsensusEntry) → (p ++ (s ++ (r ++ b))) ++ e ≡ p ++ (s ++ (r ++ (b ++ e)))
    moved p s r b e = simp append_assoc refl

-- ---- what is remembered after its footer

abbrev pub after_signatures : Across → List SignatureLine → Across
after_signatures across [] = across
after_signatures across (line ∷ lines) = after_signatures (record { listed = across.listed; is_signed = true }) lines

notes_signatures : (flavour : Flavour) (across : Across) (place : ℕ) (lines : List SignatureLine)
    → Notes (consensus_tables flavour) across (all_taken place (map signature_entry lines))
    (after_signatures across lines)
notes_signatures flavour across place [] = refl
notes_signatures flavour across place (line ∷ lines) =
    let next : Across = record { listed = across.listed; is_signed = true } in
    (next, refl, notes_signatures flavour next (after_one place (signature_entry line)) lines)

notes_footer : (flavour : Flavour) (across : Across) (place : ℕ) (weights : Option (List ℕ))
    (lines : List SignatureLine)
    → Notes (consensus_tables flavour) across (taken_in place (footer weights lines)) (after_signatures across lines)
notes_footer flavour across place weights lines =
    let tables = consensus_tables flavour in
    let second = second_place place (footer weights lines) in
    let w : List ConsensusEntry = text_entry_if the.BandwidthWeights weights in
    let s = map signature_entry lines in
    let after = after_signatures across lines in
    let both_ : Notes tables across (all_taken second w ++ all_taken (after_all second w) s) after =
    notes_both tables across across (all_taken second w) (all_taken (after_all second w) s) after
    (notes_passing tables is_quiet (forgotten flavour) across second w (text_quiet the.BandwidthWeights weights))
    (notes_signatures flavour across (after_all second w) lines) in
    let same_ : all_taken second w ++ all_taken (after_all second w) s ≡ all_taken second (w ++ (s ++ [])) =
    sym (all_taken-append second w s)
    ∙ ap (λ (l : List ConsensusEntry). all_taken second (w ++ l)) (sym (append-nil s)) in
    (across, refl, subst (λ (l : List ConsensusTaken). Notes tables across l after) same_ both_)

-- ---- what may follow what

after_sources : (flavour : Flavour) (list : List SourceLine)
    → Follows flavour (last_name section.Source (map source_section list)) section.Router router_row
after_sources flavour [] = router_after_source flavour
after_sources flavour (s ∷ list) = after_sources flavour list

routers_follow : (flavour : Flavour) (list : List SourceLine)
    → Follows flavour (last_name section.Preamble (map source_section list)) section.Router router_row
routers_follow flavour [] = router_after_preamble flavour
routers_follow flavour (s ∷ list) = after_sources flavour list

footer_behind_sources : (flavour : Flavour) (list : List SourceLine)
    → Follows flavour (last_name section.Source (map source_section list)) section.Footer footer_row
footer_behind_sources flavour [] = footer_after_source flavour
footer_behind_sources flavour (s ∷ list) = footer_behind_sources flavour list

footer_behind_routers : (flavour : Flavour) (list : List Routerline)
    → Follows flavour (last_name section.Router (map (router_section flavour) list)) section.Footer footer_row
footer_behind_routers flavour [] = footer_after_router flavour
footer_behind_routers flavour (r ∷ list) = footer_behind_routers flavour list

footer_follows : (flavour : Flavour) (sources : List SourceLine) (routers : List Routerline)
    → Follows flavour
    (last_name (last_name section.Preamble (map source_section sources)) (map (router_section flavour) routers))
    section.Footer footer_row
footer_follows flavour [] [] = footer_after_preamble flavour
footer_follows flavour (s ∷ sources) [] = footer_behind_sources flavour sources
footer_follows flavour [] (r ∷ routers) = footer_behind_routers flavour routers
footer_follows flavour (s ∷ sources) (r ∷ routers) = footer_behind_routers flavour routers

-- ---- the document

-- its groups
abbrev pub its_groups : SignedConsensus → List (Group ConsensusSection (Value ConsensusValue))
its_groups c =
    (group section.Preamble (taken_in 0 (its_preamble c)) ∷ groups_in (sources_place c) (its_sources c))
    ++ (groups_in (routers_place c) (its_routers c)
    ++ group section.Footer (taken_in (footer_place c) (its_footer c)) ∷ [])

-- no section has to follow the footer
none_follows : (flavour : Flavour)
    → must_open (consensus_tables flavour) (following_sections (consensus_tables flavour) section.Footer) ≡ None
unfolding same
none_follows flavour = refl

may_stand : (c : SignedConsensus) → IsInRange c → MayStand c.flavour nothing_across (its_relays c)
may_stand c are = record {
  each = are.facts.routers;
  listed = all_listed c.flavour c.facts.routers;
  ascending = are.facts.ascending;
  comes = first (its_relays c);
}
  where
    first : (list : List Routerline) → ComesAfter None list
    first [] = tt
    first (r ∷ list) = refl

-- The items of a consensus make its document, which ends with the input.
pub document_read : (length_ : ℕ) (c : SignedConsensus) → IsInRange c
    → read_items (consensus_tables c.flavour) length_ nothing_across (start (consensus_tables c.flavour)) None
    (all_written 0 (map item_of (all_entries c)) ++ [])
    ≡ Ok (record { groups = its_groups c; used = length_ })
document_read length_ c are =
    let f = c.flavour in
    let tables = consensus_tables f in
    let none = nothing_across in
    let head = its_preamble c in
    let sources = its_sources c in
    let routers = its_routers c in
    let foot = its_footer c in
    let p = entries_in head in
    let s = in_sources c in
    let r = in_routers c in
    let e = entries_in foot in
    let at_s = sources_place c in
    let at_r = routers_place c in
    let at_f = footer_place c in
    let first_p = taken_at 0 head.opener in
    let others_p = others_in 0 head in
    let before_r = last_name section.Preamble sources in
    let first_r = last_first first_p at_s sources in
    let others_r = last_others others_p at_s sources in
    let before_f = last_name before_r routers in
    let first_f = last_first first_r at_r routers in
    let others_f = last_others others_r at_r routers in
    let across_r = after_routers f none (its_relays c) in
    let across_f = after_signatures across_r (in_order c.signatures) in
    let wrote_p = preamble_written f c.facts are.facts in
    let wrote_f = footer_written f c.weights (in_order c.signatures)
    (each_in_order IsSignatureInRange c.signatures are.signatures) in
    let whole_p = section_whole tables head 0 wrote_p in
    let next_s = sources_next f none section.Preamble at_s c.facts.sources (source_first f) are.facts.sources in
    let whole_s =
    in_table_order.last_whole tables none none section.Preamble first_p others_p at_s sources whole_p next_s in
    let next_r =
    routers_next f none before_r at_r (its_relays c) (routers_follow f c.facts.sources) (may_stand c are) in
    let whole_r = in_any_order.last_whole tables none across_r before_r first_r others_r at_r routers whole_s next_r in
    let rest_s = all_written at_s (map item_of (s ++ (r ++ e))) ++ [] in
    let rest_r = all_written at_r (map item_of (r ++ e)) ++ [] in
    let rest_f = all_written at_f (map item_of e) ++ [] in
    let last = group section.Footer (taken_in at_f foot) ∷ [] in
    let end : Result ConsensusDocument ReadRefusal = Ok (record { groups = last; used = length_ }) in
    let after_s : Result ConsensusDocument ReadRefusal → Result ConsensusDocument ReadRefusal =
    onto_all (groups_of section.Preamble (first_p ∷ others_p) at_s sources) in
    let after_r : Result ConsensusDocument ReadRefusal → Result ConsensusDocument ReadRefusal =
    onto_all (groups_of before_r (first_r ∷ others_r) at_r routers) in
    let footer_is_read =
    section_read tables length_ across_r across_f before_f first_f others_f at_f foot [] None [] whole_r
    (footer_follows f c.facts.sources (its_relays c)) wrote_f
    (suits_nothing f the.DirectoryFooter across_r at_f)
    (notes_footer f across_r at_f c.weights (in_order c.signatures))
    ∙ ap (λ (d : Result ConsensusDocument ReadRefusal). onto (group before_f (first_f ∷ others_f)) d)
    (closed_read tables length_ across_f section.Footer (taken_in at_f foot) (section_whole tables foot at_f wrote_f)
    (none_follows f)) in
    ap (λ (l : List Item). read_items tables length_ none (start tables) None l) (both_written 0 p (s ++ (r ++ e)) [])
    ∙ first_read tables length_ none none 0 head [] None rest_s refl (preamble_first f) wrote_p (suits_version f none 0)
    (notes_passing tables is_quiet (forgotten f) none 0 p (preamble_quiet f c.facts))
    ∙ ap (λ (l : List Item). read_items tables length_ none (opening section.Preamble (first_p ∷ others_p) None) None l)
    (both_written at_s s (r ++ e) [])
    ∙ in_table_order.sections_read tables length_ none none section.Preamble first_p others_p at_s sources None rest_r
    whole_p next_s
    ∙ ap (λ (l : List Item).
    after_s (read_items tables length_ none (opening before_r (first_r ∷ others_r) None) None l))
    (both_written at_r r e [])
    ∙ ap after_s (in_any_order.sections_read tables length_ none across_r before_r first_r others_r at_r routers None
    rest_f whole_s next_r)
    ∙ ap (λ (d : Result ConsensusDocument ReadRefusal). after_s (after_r d)) footer_is_read
    ∙ ap after_s (onto_all-last before_r first_r others_r at_r routers end)
    ∙ onto_all-last section.Preamble first_p others_p at_s sources (onto_all (groups_in at_r routers) end)
    ∙ ap (λ (d : Result ConsensusDocument ReadRefusal).
    onto_all (group section.Preamble (first_p ∷ others_p) ∷ groups_in at_s sources) d)
    (onto_all-ok (groups_in at_r routers) last length_)
    ∙ onto_all-ok (group section.Preamble (first_p ∷ others_p) ∷ groups_in at_s sources)
    (groups_in at_r routers ++ last) length_
