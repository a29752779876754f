-- The authorities of a consensus may follow one another: nothing is remembered of them.
use Rattle.std.{proofs.{Common.{ℕ, List, [], ◌∷◌, refl}, lemmas.List.Elements.{All-head, All-tail}}, specs.Prelude.All}
use Rattle.std.specs.Prelude.{map}
use Rattle.frame_laws.proofs.{Following.AreNext, Passing.notes_passing, Sections.{end_of, entries_in}}
use Rattle.consensus_terms.specs.declared.{consensus.SourceLine.SourceLine, flavour.Flavour.Flavour}
use Rattle.consensus_frame.specs.{Tables.consensus_tables, declared.across.Across.Across}
use Rattle.consensus_frame.specs.declared.rows.ConsensusSection.{ConsensusSection}
use Rattle.consensus_frame.specs.declared.rows.ConsensusSection.TheVariants as section
use Rattle.consensus_laws.{specs.Again.IsAuthorityInRange, proofs.{ConsensusItems.suits_source, ConsensusRows.Follows}}
use Rattle.consensus_laws.proofs.ConsensusRows.{source_next, source_quiet, source_row, source_section, source_written}
use Rattle.consensus_laws.proofs.Quiet.{forgotten, is_quiet}

pub sources_next : (flavour : Flavour) (across : Across) (before : ConsensusSection) (place : ℕ)
    (list : List SourceLine) → Follows flavour before section.Source source_row → All IsAuthorityInRange list
    → AreNext (consensus_tables flavour) across before place (map source_section list) across
sources_next flavour across before place [] follows are = refl
sources_next flavour across before place (s ∷ list) follows are =
    let one = All-head IsAuthorityInRange s list are in (
      across,
      record {
        follows = follows;
        written = source_written flavour s one;
        suits = suits_source flavour s one across place;
        notes =
            notes_passing (consensus_tables flavour) is_quiet (forgotten flavour) across place
            (entries_in (source_section s)) (source_quiet s);
      },
      sources_next flavour across section.Source (end_of place (source_section s)) list (source_next flavour)
          (All-tail IsAuthorityInRange s list are),
    )
