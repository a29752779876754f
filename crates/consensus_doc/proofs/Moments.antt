-- Each moment that is kept of a consensus is one of the calendar.
use Rattle.std.proofs.{Common.{◌≡◌, ℕ, ◌≤◌, List, [], ◌∷◌, length, subst, arith}, lemmas.List.Elements.All-nil}
use Rattle.std.{proofs.lemmas.List.Elements.All-push, specs.{Prelude.{Result, Ok, Err, IfOk, All}, List.fold}}
use Rattle.dir_bytes.specs.Causes.{last_moment}
use Rattle.frame_terms.specs.{declared.{document.Taken.Taken, fault.ReadRefusal.ReadRefusal}, Documents.document_of}
use Rattle.frame_terms.specs.Documents.{finish}
use Rattle.frame_terms.specs.declared.keyword.Keyword.TheVariants as the
use Rattle.item_terms.specs.Items.{items_of}
use Rattle.frame_values.specs.{declared.values.Value.Value, Parts.moment_of, Values.{item_at, number_in}}
use Rattle.consensus_terms.specs.{declared.{flavour.Flavour.Flavour, router.Routerline.Routerline}, Moments.HasMoments}
use Rattle.consensus_frame.specs.declared.rows.ConsensusSection.{ConsensusSection, TheVariants.{Preamble, Source}}
use Rattle.consensus_frame.specs.declared.rows.ConsensusSection.TheVariants.{Router, Footer}
use Rattle.consensus_frame.specs.{declared.value.ConsensusValue.ConsensusValue, Tables.consensus_tables}
use Rattle.consensus_doc.specs.{declared.draft.Draft.Draft, Drafts.{no_draft, with_section, router_of}}
use Rattle.consensus_doc.{specs.{Reading.{draft_of, max_consensus}, Saying.relay_in}, proofs.Drafting.{Part, Parts}}

-- a moment that is kept is of the calendar
within : (number : ℕ) → moment_of number ≤ last_moment
within number = omega arith

-- when a descriptor was published is of the calendar
abbrev IsPublished : Routerline → Type 0
IsPublished router = router.published ≤ last_moment

-- with one more section, the moments are still of the calendar
with_one_more : (flavour : Flavour) (bytes : List ℕ) (draft : Draft) (section : ConsensusSection)
    (taken : List (Taken (Value ConsensusValue))) → HasMoments draft.facts
    → HasMoments (with_section flavour bytes draft section taken).facts
with_one_more flavour bytes draft Preamble taken h = record {
  valid_after = within (number_in (item_at taken the.ValidAfter));
  fresh_until = within (number_in (item_at taken the.FreshUntil));
  valid_until = within (number_in (item_at taken the.ValidUntil));
  published = All-nil IsPublished;
}
with_one_more flavour bytes draft Source taken h = record {
  valid_after = h.valid_after;
  fresh_until = h.fresh_until;
  valid_until = h.valid_until;
  published = h.published;
}
with_one_more flavour bytes draft Router taken h = record {
  valid_after = h.valid_after;
  fresh_until = h.fresh_until;
  valid_until = h.valid_until;
  published = All-push IsPublished draft.facts.routers (router_of flavour bytes taken) h.published
      (within (relay_in (item_at taken the.R)).published);
}
with_one_more flavour bytes draft Footer taken h = record {
  valid_after = h.valid_after;
  fresh_until = h.fresh_until;
  valid_until = h.valid_until;
  published = h.published;
}

-- with all of these sections too
with_more : (flavour : Flavour) (bytes : List ℕ) (groups : List Part) (draft : Draft) → HasMoments draft.facts
    → HasMoments (fold (λ (d : Draft) (group : Part).
    with_section flavour bytes d group.section group.taken) draft groups).facts
with_more flavour bytes [] draft h = h
with_more flavour bytes (group ∷ groups) draft h =
    with_more flavour bytes groups (with_section flavour bytes draft group.section group.taken)
    (with_one_more flavour bytes draft group.section group.taken h)

-- where nothing was read they are
none_read : HasMoments no_draft.facts
none_read = record {
  valid_after = omega arith;
  fresh_until = omega arith;
  valid_until = omega arith;
  published = All-nil IsPublished;
}

-- what is kept of a document has moments of the calendar
abbrev KeepsMoments : Result (Draft × ℕ) ReadRefusal → Type 0
KeepsMoments result = IfOk result (λ kept. HasMoments kept.0.facts)

of_document : (flavour : Flavour) (bytes : List ℕ) (document : Result Parts ReadRefusal)
    → KeepsMoments (finish (with_section flavour bytes) no_draft document)
of_document flavour bytes (Ok document) = with_more flavour bytes document.groups no_draft none_read
of_document flavour bytes (Err refusal) = tt

-- the moments of a draft are of the calendar
pub of_draft : (flavour : Flavour) (bytes : List ℕ) (draft : Draft) (used : ℕ)
    → draft_of flavour bytes ≡ Ok (draft, used)
    → HasMoments draft.facts
of_draft flavour bytes draft used e =
    subst KeepsMoments e
    (of_document flavour bytes (document_of (consensus_tables flavour) (length bytes) (items_of max_consensus bytes)))
