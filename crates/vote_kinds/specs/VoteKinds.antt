-- Votes, and the certificates that stand in them.
use Rattle.authority_certs.specs.Tables.{cert_tables}
use Rattle.vote_frame.specs.Tables.{vote_tables}
use Rattle.document_laws.specs.{Clear.AreClear, Documents.AreExact, Known.HasNoDoc}

-- The tables of both kinds are clear.
pub record VoteKindsAreClear : Type 0 where
  pub certificates : AreClear cert_tables
  pub votes : AreClear vote_tables

-- Items are read as a document of either kind exactly where they are its parts.
pub record VoteKindsAreExact : Type 0 where
  pub certificates : AreExact cert_tables
  pub votes : AreExact vote_tables

-- The tables of both kinds refuse no item as a line or an object is refused.
pub record VoteKindsHaveNoDoc : Type 0 where
  pub certificates : HasNoDoc cert_tables
  pub votes : HasNoDoc vote_tables
