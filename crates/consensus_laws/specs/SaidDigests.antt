-- Detached signatures say the digest of a consensus (dir-spec, "Serving and fetching detached signatures").
use Rattle.std.specs.Prelude.{◌≡◌, ℕ, List, length, All, Some, Ok}
use Rattle.item_terms.specs.Items.{items_of}
use Rattle.dir_values.specs.declared.digest.Digest1.{Digest1}
use Rattle.frame_terms.specs.declared.{document.Group.Group, keyword.Keyword.TheVariants.ConsensusDigest}
use Rattle.frame_terms.specs.Documents.{Document, document_of}
use Rattle.frame_values.specs.{declared.values.Value.Value, Values.{item_at, own_in}}
use Rattle.detached_frame.specs.{Tables.detached_tables, declared.said.DetachedValue.DetachedValue}
use Rattle.detached_frame.specs.declared.said.DetachedValue.TheVariants.{Digest}
use Rattle.detached_doc.specs.{Reading.max_detached, Saying.digest_in}

-- The first item `consensus-digest` of a section is there and says a digest, which is what is kept.
pub record SaysDigest (section : Group (Unit {0}) (Value DetachedValue)) : Type 0 where
  pub digest : Digest1
  pub says : own_in (item_at section.taken ConsensusDigest) ≡ Some (Digest digest)
  pub kept : digest_in (item_at section.taken ConsensusDigest) ≡ digest

-- So it is in the sections of detached signatures, of which there is one.
abbrev pub DigestsAreSaid : Type 0
DigestsAreSaid = (bytes : List ℕ) (document : Document (Unit {0}) (Value DetachedValue))
    → document_of detached_tables (length bytes) (items_of max_detached bytes) ≡ Ok document
    → All SaysDigest document.groups
