-- The kinds of documents that this project reads, but votes and certificates.
use Rattle.consensus_frame.specs.Tables.{consensus_tables}
use Rattle.consensus_terms.specs.declared.flavour.Flavour.{Flavour}
use Rattle.descriptor_frame.specs.Tables.{descriptor_tables}
use Rattle.detached_frame.specs.Tables.{detached_tables}
use Rattle.micro_desc.specs.Tables.{micro_tables}
use Rattle.document_laws.specs.{Clear.AreClear, Documents.AreExact, Known.HasNoDoc}

-- The tables of each kind are clear.
pub record KindsAreClear : Type 0 where
  pub consensuses : (flavour : Flavour) → AreClear (consensus_tables flavour)
  pub descriptors : AreClear descriptor_tables
  pub microdescriptors : AreClear micro_tables
  pub detached_signatures : AreClear detached_tables

-- Items are read as a document of each kind exactly where they are its parts.
pub record KindsAreExact : Type 0 where
  pub consensuses : (flavour : Flavour) → AreExact (consensus_tables flavour)
  pub descriptors : AreExact descriptor_tables
  pub microdescriptors : AreExact micro_tables
  pub detached_signatures : AreExact detached_tables

-- The tables of each kind refuse no item as a line or an object is refused.
pub record KindsHaveNoDoc : Type 0 where
  pub consensuses : (flavour : Flavour) → HasNoDoc (consensus_tables flavour)
  pub descriptors : HasNoDoc descriptor_tables
  pub microdescriptors : HasNoDoc micro_tables
  pub detached_signatures : HasNoDoc detached_tables
