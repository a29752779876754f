-- The tables of each of these kinds of documents are clear: they pass the tests.
use Rattle.std.{proofs.Common.{◌≡◌, true, [], ◌∷◌, refl}, specs.Prelude.IfSome}
use Rattle.frame_terms.specs.{Keywords.same, Order.opener}
use Rattle.consensus_frame.specs.{declared.rows.ConsensusSection.ConsensusSection, Tables.consensus_tables}
use Rattle.consensus_frame.specs.declared.rows.ConsensusSection.TheVariants as consensus
use Rattle.consensus_terms.specs.declared.flavour.Flavour.{Flavour, TheVariants.{Ns, Microdesc}}
use Rattle.descriptor_frame.specs.Tables.{descriptor_tables}
use Rattle.detached_frame.specs.Tables.{detached_tables}
use Rattle.micro_desc.specs.Tables.{micro_tables}
use Rattle.document_laws.{specs.Tests.{IsRegarded, PassTests, is_clear}, proofs.{Exact.are_exact, Tested.are_clear}}
use Rattle.descriptor_parts.specs.Kinds.{KindsAreClear, KindsAreExact}

-- ---- documents of one section

descriptors : PassTests descriptor_tables
unfolding same
descriptors = record {
  others = [];
  begins = refl;
  apart = refl;
  first_stands = refl;
  each = λ section. refl;
  regarded = λ section item. refl;
  entered = λ section. tt;
}

microdescriptors : PassTests micro_tables
unfolding same
microdescriptors = record {
  others = [];
  begins = refl;
  apart = refl;
  first_stands = refl;
  each = λ section. refl;
  regarded = λ section item. refl;
  entered = λ section. tt;
}

detached_signatures : PassTests detached_tables
unfolding same
detached_signatures = record {
  others = [];
  begins = refl;
  apart = refl;
  first_stands = refl;
  each = λ section. refl;
  regarded = λ section item. refl;
  entered = λ section. tt;
}

-- ---- consensuses

consensus_each : (flavour : Flavour) (section : ConsensusSection)
    → is_clear (consensus_tables flavour) section ≡ true
unfolding same
consensus_each flavour consensus.Preamble = refl
consensus_each flavour consensus.Source = refl
consensus_each Ns consensus.Router = refl
consensus_each Microdesc consensus.Router = refl
consensus_each flavour consensus.Footer = refl

consensus_regarded : (flavour : Flavour) (section : ConsensusSection)
    → IsRegarded (consensus_tables flavour) section (opener (consensus_tables flavour) section)
unfolding same
consensus_regarded flavour consensus.Preamble = λ item. refl
consensus_regarded flavour consensus.Source = λ item. refl
consensus_regarded flavour consensus.Router = λ item. refl
consensus_regarded flavour consensus.Footer = λ item. refl

consensus_entered : (flavour : Flavour) (section : ConsensusSection)
    → IfSome (((consensus_tables flavour).shape section).inner)
    (λ inside. IsRegarded (consensus_tables flavour) section (opener (consensus_tables flavour) inside))
consensus_entered flavour consensus.Preamble = tt
consensus_entered flavour consensus.Source = tt
consensus_entered flavour consensus.Router = tt
consensus_entered flavour consensus.Footer = tt

consensuses : (flavour : Flavour) → PassTests (consensus_tables flavour)
unfolding same
consensuses flavour = record {
  others = consensus.Source ∷ consensus.Router ∷ consensus.Footer ∷ [];
  begins = refl;
  apart = refl;
  first_stands = refl;
  each = consensus_each flavour;
  regarded = consensus_regarded flavour;
  entered = consensus_entered flavour;
}

pub kinds_are_clear : KindsAreClear
kinds_are_clear = record {
  consensuses = λ flavour. are_clear (consensus_tables flavour) (consensuses flavour);
  descriptors = are_clear descriptor_tables descriptors;
  microdescriptors = are_clear micro_tables microdescriptors;
  detached_signatures = are_clear detached_tables detached_signatures;
}

pub kinds_are_exact : KindsAreExact
kinds_are_exact = record {
  consensuses = λ flavour. are_exact (consensus_tables flavour) (kinds_are_clear.consensuses flavour);
  descriptors = are_exact descriptor_tables kinds_are_clear.descriptors;
  microdescriptors = are_exact micro_tables kinds_are_clear.microdescriptors;
  detached_signatures = are_exact detached_tables kinds_are_clear.detached_signatures;
}
