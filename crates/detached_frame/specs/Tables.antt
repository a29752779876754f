-- The items of detached signatures, which have one section (dir-spec, "Serving and fetching detached signatures").
use Rattle.std.specs.Prelude.{ℕ, false, List, [], ◌∷◌, None, Result, Ok}
use Rattle.item_terms.specs.Items.{Item}
use Rattle.frame_terms.specs.declared.keyword.Keyword.TheVariants as the
use Rattle.frame_terms.specs.{declared.{row.{Count.TheVariants.{One, Many}, Row.Row}, section.Shape.Shape}, Rows.row}
use Rattle.frame_terms.specs.Tables.{Tables}
use Rattle.frame_terms.specs.declared.section.Again.TheVariants as again
use Rattle.frame_values.specs.{declared.values.Value.Value, Arguments.next, Faults.at_place, Lines.time_of}
use Rattle.frame_values.specs.Signatures.{known_signature_of}
use Rattle.frame_values.specs.declared.values.Value.TheVariants as value
use Rattle.detached_frame.specs.declared.said.{DetachedKind.DetachedKind, DetachedValue.DetachedValue}
use Rattle.detached_frame.specs.Lines.{additional_digest_of, additional_signature_of, digest_of}
use Rattle.detached_frame.specs.declared.said.DetachedKind.TheVariants as kind
use Rattle.detached_frame.specs.declared.said.DetachedValue.TheVariants as own

-- its items; the first one opens it
abbrev pub rows : List (Row DetachedKind)
rows =
    row the.ConsensusDigest One kind.Digest
    ∷ row the.ValidAfter One kind.Time
    ∷ row the.FreshUntil One kind.Time
    ∷ row the.ValidUntil One kind.Time
    ∷ row the.AdditionalDigest Many kind.AdditionalDigest
    ∷ row the.AdditionalSignature Many kind.AdditionalSignature
    ∷ row the.DirectorySignature Many kind.Signature
    ∷ []

-- how it begins; it ends with the input
abbrev pub shape : Shape (Unit {0})
shape = record {
  opener = the.ConsensusDigest;
  last = None;
  again = again.Nothing;
  inner = None;
  limit = None;
}

-- what an item says, or the place of what is wrong; a `directory-signature` of an unknown algorithm says nothing
abbrev pub value_at : DetachedKind → Item → Result (Value DetachedValue) ℕ
value_at kind.Digest item = next (digest_of item) (λ digest. Ok (value.Own (own.Digest digest)))
value_at kind.Time item = next (time_of item) (λ number. Ok (value.Number number))
value_at kind.AdditionalDigest item =
    next (additional_digest_of item) (λ line. Ok (value.Own (own.AdditionalDigest line)))
value_at kind.AdditionalSignature item =
    next (additional_signature_of item) (λ line. Ok (value.Own (own.AdditionalSignature line)))
value_at kind.Signature item =
    next (known_signature_of item) (λ signature. Ok (value.Own (own.Signature signature)))

-- the tables of detached signatures
abbrev pub detached_tables : Tables (Unit {0}) DetachedKind (Value DetachedValue) (Unit {0})
detached_tables = record {
  first = tt;
  sections = tt ∷ [];
  shape = λ _. shape;
  rows = λ _. rows;
  strangers = λ _ _. false;
  ignores = λ _ _. false;
  value_of = λ _ kind item. at_place (value_at kind item);
  start = tt;
  note = λ _ _. Ok tt;
}
