-- What a reader keeps is what is kept of a document, beside its flavour and its bytes.
use Rattle.std.{proofs.Common.{◌≡◌, ℕ, List, [], ◌∷◌, length, refl, sym, ap, ◌∙◌}, specs.Prelude.{Result, Ok, Err}}
use Rattle.std.specs.List.{fold}
use Rattle.item_terms.specs.Items.{Contents, items_of}
use Rattle.frame_terms.specs.{declared.{document.Group.Group, fault.ReadRefusal.ReadRefusal}, Documents.Document}
use Rattle.frame_terms.specs.Documents.{document_of, finish}
use Rattle.frame_values.specs.declared.values.Value.{Value}
use Rattle.consensus_terms.specs.declared.{consensus.SignedConsensus.SignedConsensus, flavour.Flavour.Flavour}
use Rattle.consensus_frame.specs.declared.{rows.ConsensusSection.ConsensusSection, value.ConsensusValue.ConsensusValue}
use Rattle.consensus_frame.specs.Tables.{consensus_tables}
use Rattle.consensus_doc.specs.{declared.draft.Draft.Draft, Drafts.{no_draft, with_section}, Keeping.{Kept, with_draft}}
use Rattle.consensus_doc.specs.{Keeping.kept_with_section, Reading.{consensus_as, consensus_in, consensus_of, draft_of}}
use Rattle.consensus_doc.specs.Reading.{flavour_of, max_consensus, with_consensus}

-- a section of a consensus with its items
abbrev pub Part : Type 0
Part = Group ConsensusSection (Value ConsensusValue)

-- the sections of a consensus
abbrev pub Parts : Type 0
Parts = Document ConsensusSection (Value ConsensusValue)

-- keeping one section after the other changes the draft alone
folds : (groups : List Part) (kept : Kept)
    → fold (λ (k : Kept) (group : Part). kept_with_section k group.section group.taken) kept groups
    ≡ with_draft kept (fold (λ (d : Draft) (group : Part).
    with_section kept.flavour kept.bytes d group.section group.taken) kept.draft groups)
folds [] kept = refl
folds (group ∷ groups) kept = folds groups (kept_with_section kept group.section group.taken)

-- a draft alone
abbrev draft_only : Result (Kept × ℕ) ReadRefusal → Result (Draft × ℕ) ReadRefusal
draft_only (Ok (kept, used)) = Ok (kept.draft, used)
draft_only (Err refusal) = Err refusal

-- a draft, and the place after the document
abbrev ok_of : Draft → ℕ → Result (Draft × ℕ) ReadRefusal
ok_of draft used = Ok (draft, used)

-- what is kept of a document, without the bytes
without_bytes : (kept : Kept) (document : Result Parts ReadRefusal)
    → finish (with_section kept.flavour kept.bytes) kept.draft document ≡ draft_only (finish kept_with_section kept document)
without_bytes kept (Ok document) =
    sym (ap (λ (k : Kept). draft_only (Ok (k, document.used))) (folds document.groups kept))
without_bytes kept (Err refusal) = refl

-- what a reader keeps where it starts with this draft
abbrev started : Flavour → List ℕ → Draft → Kept
started flavour bytes start = record { flavour = flavour; bytes = bytes; draft = start }

-- what a reader answers that starts with this draft and these items
abbrev pub kept_of : Flavour → List ℕ → Draft → Contents → Result (Kept × ℕ) ReadRefusal
kept_of flavour bytes start items =
    finish kept_with_section (started flavour bytes start) (document_of (consensus_tables flavour) (length bytes) items)

-- the same without the bytes is what is kept of the document
answers : (flavour : Flavour) (bytes : List ℕ) (start : Draft) (items : Contents)
    → items ≡ items_of max_consensus bytes → start ≡ no_draft
    → draft_of flavour bytes ≡ draft_only (kept_of flavour bytes start items)
answers flavour bytes start items e f =
    without_bytes (started flavour bytes no_draft)
    (document_of (consensus_tables flavour) (length bytes) (items_of max_consensus bytes))
    ∙ ap (λ (i : Contents). draft_only (kept_of flavour bytes no_draft i)) (sym e)
    ∙ ap (λ (s : Draft). draft_only (kept_of flavour bytes s items)) (sym f)

-- what a reader of the bytes kept is what is kept of them
pub drafted : (flavour : Flavour) (bytes : List ℕ) (start : Draft) (items : Contents) (kept : Kept) (draft : Draft)
    (used : ℕ) → items ≡ items_of max_consensus bytes → start ≡ no_draft
    → kept_of flavour bytes start items ≡ Ok (kept, used) → kept.draft ≡ draft
    → draft_of flavour bytes ≡ Ok (draft, used)
drafted flavour bytes start items kept draft used e f g h =
    answers flavour bytes start items e f ∙ ap draft_only g ∙ ap (λ (d : Draft). ok_of d used) h

-- a consensus, and the place after it
abbrev read_of : SignedConsensus → ℕ → Result (SignedConsensus × ℕ) ReadRefusal
read_of consensus used = Ok (consensus, used)

-- the consensus of what was kept in the flavour that the bytes name is the consensus that they are
pub is_read : (bytes : List ℕ) (flavour : Flavour) (draft : Draft) (used : ℕ) (consensus : SignedConsensus)
    → flavour ≡ flavour_of (items_of max_consensus bytes).items → draft_of flavour bytes ≡ Ok (draft, used)
    → consensus ≡ consensus_in flavour draft → consensus_of bytes ≡ Ok (consensus, used)
is_read bytes flavour draft used consensus e f g =
    ap (λ (named : Flavour). consensus_as named bytes) (sym e) ∙ ap (with_consensus flavour) f
    ∙ ap (λ (c : SignedConsensus). read_of c used) (sym g)
