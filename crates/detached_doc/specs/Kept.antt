-- What is kept of detached signatures.
use Rattle.std.specs.Prelude.{List, [], ◌++◌}
use Rattle.frame_terms.specs.declared.{document.Taken.Taken, keyword.Keyword.TheVariants.{ConsensusDigest, FreshUntil}}
use Rattle.frame_terms.specs.declared.keyword.Keyword.TheVariants.{ValidAfter, ValidUntil}
use Rattle.frame_values.specs.{declared.values.Value.Value, Values.{item_at, number_in}}
use Rattle.detached_frame.specs.declared.said.DetachedValue.{DetachedValue}
use Rattle.detached_doc.specs.{declared.kept.{Head.Head, Kept.Kept}, Saying.{digest_in, digests_in, lines_in}}

-- what the items say that stand once
abbrev pub head_of : List (Taken (Value DetachedValue)) → Head
head_of taken = record {
  ns = digest_in (item_at taken ConsensusDigest);
  valid_after = number_in (item_at taken ValidAfter);
  fresh_until = number_in (item_at taken FreshUntil);
  valid_until = number_in (item_at taken ValidUntil);
}

-- what is kept where nothing was read
abbrev pub none_kept : Kept
none_kept = record { head = head_of []; additional = []; signatures = [] }

-- what is kept after the one section
abbrev pub kept_with : Kept → Unit {0} → List (Taken (Value DetachedValue)) → Kept
kept_with kept section taken = record {
  head = head_of taken;
  additional = kept.additional ++ digests_in taken;
  signatures = kept.signatures ++ lines_in taken;
}
