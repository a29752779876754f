-- A consensus that was written is read again.
use Rattle.std.proofs.Common.{◌≡◌, ℕ, ◌+◌, Bool, true, false, List, [], ◌∷◌, ◌++◌, length, Option, Some, None, Result}
use Rattle.std.{proofs.Common.{Ok, refl, sym, ap, subst, ◌∙◌, append-nil, length-append}, specs.Prelude.{◌&&◌, codes}}
use Rattle.std.specs.{Prelude.{map, if◌then◌else◌}, Str.bytes_eq, List.{fold, join_with_byte}}
use Rattle.item_terms.specs.{Items.{Contents, contents, contents_of, items_of, nothing}, Words.begins_dash}
use Rattle.dir_values.specs.Arguments.{Argument}
use Rattle.grammar_laws.proofs.ItemsAgain.{items_again}
use Rattle.dirdoc_grammar.specs.Writing.{AreWritable, NewItem, all_written, in_front, is_open, items_text, written}
use Rattle.frame_terms.specs.{Documents.{document_of, finish, group}, Keywords.same}
use Rattle.frame_terms.specs.declared.fault.ReadRefusal.{ReadRefusal}
use Rattle.frame_terms.specs.declared.keyword.Keyword.TheVariants as the
use Rattle.frame_values.specs.{Arguments.{front, others}, Values.item_at}
use Rattle.frame_laws.proofs.{Entries.item_of, Groups.groups_in, Places.{after_all, after_all-append}, ReadRows.Stand}
use Rattle.frame_laws.proofs.{ReadRows.{both_stand, row_read}, RowValues.{text_entry_if, text_if_said}}
use Rattle.frame_laws.proofs.{Sections.{entries_in, second_place, section_is_read, taken_in}, Words.arguments_of_words}
use Rattle.frame_laws.proofs.{Words.placed, WrittenItems.start_of, WrittenRows.{ends_with_text, stand_written}}
use Rattle.frame_laws.proofs.WrittenRows.{text_of_entries}
use Rattle.consensus_terms.specs.{Signed.{in_order, signed}, Texts.{facts_text, version_words}}
use Rattle.consensus_terms.specs.declared.consensus.{ConsensusFacts.ConsensusFacts, SignedConsensus.SignedConsensus}
use Rattle.consensus_terms.specs.declared.flavour.Flavour.{Flavour, TheVariants.{Ns, Microdesc}}
use Rattle.consensus_terms.specs.declared.signature.SignatureLine.{SignatureLine}
use Rattle.consensus_frame.specs.{Tables.consensus_tables, declared.value.ConsensusValue.ConsensusValue}
use Rattle.consensus_frame.specs.declared.rows.ConsensusSection.TheVariants as section
use Rattle.consensus_doc.specs.Drafts.{all_signatures, no_draft, signed_end, text_at, with_section}
use Rattle.consensus_doc.specs.Reading.{consensus_in, consensus_of, flavour_of, flavour_of_item, max_consensus}
use Rattle.consensus_doc.specs.{Reading.{signed_range, with_consensus}, Keeping.{Kept, with_draft}}
use Rattle.consensus_laws.specs.Again.{ConsensusesAreReadAgain, ConsensusesInOrderAreTheSame, IsInRange}
use Rattle.consensus_laws.specs.Again.{IsSignatureInRange, facts_as_read, known_signatures, signed_of}
use Rattle.consensus_laws.{specs.Items.{consensus_items, unsigned_items, words_item}, proofs.ConsensusItems.version_are}
use Rattle.consensus_laws.proofs.ConsensusKept.{drafts_same, keeps, routers_kept, sources_kept, with_sources}
use Rattle.consensus_laws.proofs.ConsensusRead.{ConsensusDocument, all_entries, document_read, footer_place}
use Rattle.consensus_laws.proofs.ConsensusRead.{in_sections, its_footer, its_groups, its_preamble, its_relays}
use Rattle.consensus_laws.proofs.ConsensusRead.{its_routers, its_sources, routers_place, sources_place}
use Rattle.consensus_laws.proofs.{ConsensusRows.{footer_written, preamble_written}, ConsensusSame.before_signatures}
use Rattle.consensus_laws.proofs.ConsensusSame.{consensus_same, in_routers, in_sources, unsigned_entries, unsigned_same}
use Rattle.consensus_laws.proofs.{ConsensusSays.preamble_says, ConsensusTexts.{consensus_is, facts_are}}
use Rattle.consensus_laws.proofs.{RouterNotes.all_listed, SignatureOrder.each_in_order, SignatureSays.ends_behind}
use Rattle.consensus_laws.proofs.SignatureSays.{signatures_say, signed_end_is}

-- ---- its items stand in its text

-- its text, by its items
abbrev text_of_items : SignedConsensus → List ℕ
text_of_items c = items_text (consensus_items c)

closed : (items : List NewItem) → (is_open items && begins_dash []) ≡ false
closed items = none (is_open items)
  where
    none : (b : Bool) → (b && false) ≡ false
    none true = refl
    none false = refl

all_same : (c : SignedConsensus) → consensus_items c ≡ map item_of (all_entries c)
all_same c = consensus_same c ∙ ap (map item_of) (in_sections c)

all_stand : (c : SignedConsensus) → IsInRange c → Stand max_consensus (text_of_items c) 0 (all_entries c)
all_stand c are =
    subst (λ (l : List ℕ). Stand max_consensus l 0 (all_entries c))
    (append-nil (text_of_entries (all_entries c)) ∙ ap items_text (sym (all_same c)))
    (stand_written max_consensus (all_entries c) []
    (subst (λ (l : List NewItem). AreWritable max_consensus 0 l) (all_same c) are.items)
    (closed (map item_of (all_entries c))))

-- ---- what is kept

-- the footer begins with the end of the text before it
signatures_place : (c : SignedConsensus)
    → after_all (second_place (footer_place c) (its_footer c))
    (text_entry_if {W = ConsensusValue} the.BandwidthWeights c.weights)
    ≡ length (items_text (unsigned_items c))
signatures_place c =
    let p = entries_in (its_preamble c) in
    let s = in_sources c in
    let r = in_routers c in
    let b = before_signatures c in
    sym (after_all-append 0 p (s ++ (r ++ b))
    ∙ after_all-append (sources_place c) s (r ++ b)
    ∙ after_all-append (routers_place c) r b)
    ∙ ends_with_text (unsigned_entries c)
    ∙ ap (λ (l : List NewItem). length (items_text l)) (sym (unsigned_same c))

-- what a reader has before it reads
abbrev none_kept : SignedConsensus → Kept
none_kept c = record { flavour = c.flavour; bytes = text_of_items c; draft = no_draft }

-- what it keeps of the preamble
abbrev first_kept : SignedConsensus → ConsensusFacts → Kept
first_kept c facts = with_draft (none_kept c) (record no_draft { facts = facts })

-- and of all sections
abbrev kept_with : SignedConsensus → Option (List ℕ) → List SignatureLine → Option ℕ → Kept
kept_with c weights signatures signed_end = with_draft (none_kept c) (record no_draft {
  facts = facts_as_read c.flavour c.facts;
  weights = weights;
  signatures = signatures;
  signed_end = signed_end;
})

abbrev kept : SignedConsensus → Kept
kept c =
    kept_with c c.weights (known_signatures (in_order c.signatures))
    (ends_behind (length (items_text (unsigned_items c))) (in_order c.signatures))

all_kept : (c : SignedConsensus) → IsInRange c
    → fold keeps (none_kept c) (its_groups c) ≡ kept c
unfolding same
all_kept c are =
    let f = c.flavour in
    let text = text_of_items c in
    let tables = consensus_tables f in
    let lines = in_order c.signatures in
    let p = entries_in (its_preamble c) in
    let s = in_sources c in
    let r = in_routers c in
    let e = entries_in (its_footer c) in
    let from_p = both_stand max_consensus text 0 p (s ++ (r ++ e)) (all_stand c are) in
    let from_s = both_stand max_consensus text (sources_place c) s (r ++ e) from_p.back in
    let from_r = both_stand max_consensus text (routers_place c) r e from_s.back in
    let preamble_read =
    section_is_read tables max_consensus text 0 (its_preamble c) [] (preamble_written f c.facts are.facts) from_p.front
    in
    let footer_read =
    section_is_read tables max_consensus text (footer_place c) (its_footer c) []
    (footer_written f c.weights lines (each_in_order IsSignatureInRange c.signatures are.signatures)) from_r.back in
    let signatures_read = row_read the.DirectorySignature footer_read refl in
    let in_f = taken_in (footer_place c) (its_footer c) in
    let last = group section.Footer in_f ∷ [] in
    let routers = groups_in (routers_place c) (its_routers c) ++ last in
    let sources = groups_in (sources_place c) (its_sources c) ++ routers in
    let weights : text_at text in_f the.BandwidthWeights ≡ c.weights =
    text_if_said _ c.weights (row_read the.BandwidthWeights footer_read refl) in
    let found : all_signatures text in_f ≡ known_signatures lines =
    signatures_say max_consensus text (second_place (footer_place c) (its_footer c)) c.weights lines
    signatures_read.stand in
    let ends : signed_end (item_at in_f the.DirectorySignature)
    ≡ ends_behind (length (items_text (unsigned_items c))) lines =
    signed_end_is _ lines signatures_read
    ∙ ap (λ (n : ℕ). ends_behind n lines) (signatures_place c) in
    let facts : ConsensusFacts = record c.facts { sources = []; routers = [] } in
    ap (λ (facts : ConsensusFacts). fold keeps (first_kept c facts) sources)
    (preamble_says f c.facts are.facts preamble_read)
    ∙ sources_kept max_consensus (first_kept c facts) (sources_place c) c.facts.sources routers are.facts.sources
    from_s.front
    ∙ routers_kept max_consensus (with_sources (first_kept c facts) c.facts.sources) (routers_place c) (its_relays c)
    last are.facts.routers (all_listed f c.facts.routers) from_r.front
    ∙ (λ i. kept_with c (weights i) (found i) (ends i))

-- ---- what is read

-- the flavour that arguments name behind the first
abbrev named : List Argument → Flavour
named arguments = if bytes_eq (front 0 (others arguments)).text (codes "microdesc") then Microdesc else Ns

-- its first item names its flavour
flavour_is : (flavour : Flavour)
    → flavour_of_item (written 0 (words_item the.NetworkStatusVersion (version_words flavour))) ≡ flavour
flavour_is flavour =
    let start = start_of 0 the.NetworkStatusVersion (join_with_byte 32 (version_words flavour)) in
    ap named (arguments_of_words start (version_words flavour) (version_are flavour)) ∙ by start flavour
  where
    by : (start : ℕ) (f : Flavour) → named (placed start (version_words f)) ≡ f
    by start Ns = refl
    by start Microdesc = refl

-- what is left behind its text
abbrev none_left : Contents
none_left = record { items = []; fault = None }

nothing_left : (place : ℕ) → contents max_consensus place nothing [] ≡ none_left
unfolding contents_of
nothing_left place = refl

items_read : (c : SignedConsensus) → IsInRange c
    → items_of max_consensus (text_of_items c) ≡ in_front (all_written 0 (consensus_items c)) none_left
items_read c are =
    let items = consensus_items c in
    ap (contents max_consensus 0 nothing) (sym (append-nil (text_of_items c)))
    ∙ items_again max_consensus 0 items [] are.items (closed items)
    ∙ ap (in_front (all_written 0 items)) (nothing_left (0 + length (items_text items)))

-- what contents make that are a consensus of this flavour
abbrev made_of : List ℕ → Flavour → Contents → Result (SignedConsensus × ℕ) ReadRefusal
made_of text flavour all =
    with_consensus flavour (finish (with_section flavour text) no_draft
    (document_of (consensus_tables flavour) (length text) all))

items_are_read : (c : SignedConsensus) → IsInRange c
    → consensus_of (text_of_items c) ≡ Ok (consensus_in c.flavour (kept c).draft, length (text_of_items c))
items_are_read c are =
    let f = c.flavour in
    let text = text_of_items c in
    let all = in_front (all_written 0 (consensus_items c)) none_left in
    ap (λ (k : Contents). made_of text (flavour_of k.items) k) (items_read c are)
    ∙ ap (λ (g : Flavour). made_of text g all) (flavour_is f)
    ∙ ap (λ (l : List NewItem). made_of text f (in_front (all_written 0 l) none_left)) (all_same c)
    ∙ ap (λ (d : Result ConsensusDocument ReadRefusal). with_consensus f (finish (with_section f text) no_draft d))
    (document_read (length text) c are)
    ∙ ap (λ draft. answer (consensus_in f draft) (length text)) (drafts_same (none_kept c) (its_groups c))
    ∙ ap (λ (k : Kept). answer (consensus_in f k.draft) (length text)) (all_kept c are)
  where
    answer : SignedConsensus → ℕ → Result (SignedConsensus × ℕ) ReadRefusal
    answer consensus used = Ok (consensus, used)

-- ---- the law

signed_is : (c : SignedConsensus) → IsInRange c → (lines : List SignatureLine)
    → signed_range 0 (ends_behind (length (items_text (unsigned_items c))) lines) ≡ signed_of (facts_text c) lines
signed_is c are [] = refl
signed_is c are (line ∷ lines) =
    let text = facts_text c in
    ap (λ (l : List ℕ). signed_to (length l + 20)) (sym (facts_are c are.facts))
    ∙ ap signed_to (sym (length-append text (codes "directory-signature ")))
  where
    signed_to : ℕ → Option (ℕ × ℕ)
    signed_to end = Some (0, end)

-- A consensus that was written is read again.
pub consensuses_again : ConsensusesAreReadAgain
consensuses_again c are =
    let signed_ = signed_is c are (in_order c.signatures) in
    let text = consensus_is c are.facts in
    ap consensus_of text
    ∙ items_are_read c are
    ∙ (λ i. Ok (
      record {
        flavour = c.flavour;
        facts = facts_as_read c.flavour c.facts;
        weights = c.weights;
        signatures = known_signatures (in_order c.signatures);
        signed = signed_ i;
      },
      length (sym text i),
    ))

-- What stands as it is written is read as what was written.
pub same_again : ConsensusesInOrderAreTheSame
same_again c are stands =
    let text = facts_text c in
    consensuses_again c are
    ∙ (λ i. Ok (
      record {
        flavour = c.flavour;
        facts = stands.facts i;
        weights = c.weights;
        signatures = (ap known_signatures stands.order ∙ stands.known) i;
        signed = signed_of text (stands.order i);
      },
      length (signed text c.signatures),
    ))
