-- The consensus that bytes are, or their first fault (dir-spec, "Vote and consensus status document formats").
use Rattle.std.specs.Prelude.{◌≡◌, ℕ, List, [], ◌∷◌, length, Option, Some, None, Result, Ok, Err, codes, if◌then◌else◌}
use Rattle.std.specs.Str.{bytes_eq}
use Rattle.item_terms.specs.Items.{Item, items_of}
use Rattle.frame_terms.specs.{Documents.{document_of, finish}, Refusals.Fails, declared.fault.ReadRefusal.ReadRefusal}
use Rattle.frame_values.specs.Arguments.{arguments_of, front, others}
use Rattle.consensus_terms.specs.declared.{consensus.SignedConsensus.SignedConsensus, flavour.Flavour.Flavour}
use Rattle.consensus_terms.specs.declared.flavour.Flavour.TheVariants.{Ns, Microdesc}
use Rattle.consensus_frame.specs.Tables.{consensus_tables}
use Rattle.consensus_doc.specs.{declared.draft.Draft.Draft, Drafts.{no_draft, with_section}}

-- how many bytes a consensus may have
abbrev pub max_consensus : ℕ
max_consensus = 67108864

-- the flavour that a first item names: microdesc where its second argument says so, and else ns
abbrev pub flavour_of_item : Item → Flavour
flavour_of_item item =
    if bytes_eq (front item.place (others (arguments_of item))).text (codes "microdesc") then Microdesc else Ns

-- the flavour of a document that begins with these items
abbrev pub flavour_of : List Item → Flavour
flavour_of [] = Ns
flavour_of (item ∷ items) = flavour_of_item item

-- the range of the signed part, where it ends
abbrev pub signed_range : ℕ → Option ℕ → Option (ℕ × ℕ)
signed_range begin None = None
signed_range begin (Some end) = Some (begin, end)

-- the consensus of which this was kept
abbrev pub consensus_in : Flavour → Draft → SignedConsensus
consensus_in flavour draft = record {
  flavour = flavour;
  facts = draft.facts;
  weights = draft.weights;
  signatures = draft.signatures;
  signed = signed_range draft.begin draft.signed_end;
}

-- the same, and the place after it; or the first fault
abbrev pub with_consensus : Flavour → Result (Draft × ℕ) ReadRefusal → Result (SignedConsensus × ℕ) ReadRefusal
with_consensus flavour (Ok (draft, used)) = Ok (consensus_in flavour draft, used)
with_consensus flavour (Err refusal) = Err refusal

-- what is kept of a document of a flavour
abbrev pub draft_of : Flavour → List ℕ → Result (Draft × ℕ) ReadRefusal
draft_of flavour bytes =
    finish (with_section flavour bytes) no_draft
    (document_of (consensus_tables flavour) (length bytes) (items_of max_consensus bytes))

-- what keeping a document of a flavour answers
abbrev pub ReadsDraft : Flavour → List ℕ → Result (Draft × ℕ) ReadRefusal → Type 0
ReadsDraft flavour bytes (Ok (draft, used)) = draft_of flavour bytes ≡ Ok (draft, used)
ReadsDraft flavour bytes (Err refusal) = Fails refusal (draft_of flavour bytes)

-- the consensus of a flavour that the bytes are, and the place after it; or the first fault
abbrev pub consensus_as : Flavour → List ℕ → Result (SignedConsensus × ℕ) ReadRefusal
consensus_as flavour bytes = with_consensus flavour (draft_of flavour bytes)

-- the consensus that the bytes are, and the place after it; or the first fault
abbrev pub consensus_of : List ℕ → Result (SignedConsensus × ℕ) ReadRefusal
consensus_of bytes = consensus_as (flavour_of (items_of max_consensus bytes).items) bytes

-- what reading answers: that consensus; or the first fault, or want of memory
abbrev pub ReadsConsensus : List ℕ → Result (SignedConsensus × ℕ) ReadRefusal → Type 0
ReadsConsensus bytes (Ok (consensus, used)) = consensus_of bytes ≡ Ok (consensus, used)
ReadsConsensus bytes (Err refusal) = Fails refusal (consensus_of bytes)
