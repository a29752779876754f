-- What is kept of a vote's sections. The tables of the document see to it that each item is there which has to stand;
-- where one is not, its value is nothing.
use Rattle.std.specs.{Prelude.{ℕ, ◌+◌, ◌-◌, ◌^◌, min, List, Option, Some, None}, Option.option_or}
use Rattle.frame_terms.specs.declared.keyword.Keyword.TheVariants.{NetworkStatusVersion, ConsensusMethods, Published}
use Rattle.frame_terms.specs.declared.keyword.Keyword.TheVariants.{ValidAfter, FreshUntil, ValidUntil, VotingDelay}
use Rattle.frame_terms.specs.declared.keyword.Keyword.TheVariants.{KnownFlags, FlagThresholds, Contact}
use Rattle.frame_terms.specs.declared.keyword.Keyword.TheVariants.{SharedRandPreviousValue, SharedRandCurrentValue}
use Rattle.frame_terms.specs.declared.keyword.Keyword.TheVariants.{DirSource as DirSourceLine, DirectorySignature}
use Rattle.frame_terms.specs.declared.document.Taken.{Taken}
use Rattle.frame_values.specs.{declared.values.Value.Value, Values.{item_at, place_in, after_in, nowhere, number_in}}
use Rattle.frame_values.specs.Values.{text_if, text_in}
use Rattle.authority_certs.specs.Heads as cert
use Rattle.vote_doc.specs.{declared.head.Head.Head, Saying.{delays_in, no_source, source_in, random_in, no_signature}}
use Rattle.vote_doc.specs.Saying.{signature_in}
use Rattle.vote_frame.specs.declared.frame.VoteSection.{VoteSection, TheVariants.{Preamble, Authority, Certificate}}
use Rattle.vote_frame.specs.declared.frame.{VoteSection.TheVariants.{Entry, Footer}, VoteValue.VoteValue}
use Rattle.vote_terms.specs.ListLines.{lists_in, no_lists}

-- what is kept where nothing was read
abbrev pub no_head : Head
no_head = record {
  begin = 0;
  methods = None;
  published = 0;
  valid_after = 0;
  fresh_until = 0;
  valid_until = 0;
  vote_seconds = 0;
  dist_seconds = 0;
  known_flags = nowhere;
  flag_thresholds = None;
  lists = no_lists;
  source = no_source;
  contact = None;
  random_previous = None;
  random_current = None;
  certificate = cert.no_head;
  signature = no_signature;
  signed_end = 0;
  end = 0;
}

-- what is kept after a preamble
abbrev pub with_preamble : Head → List (Taken (Value VoteValue)) → Head
with_preamble head taken = record head {
  begin = place_in (item_at taken NetworkStatusVersion);
  methods = text_if (item_at taken ConsensusMethods);
  published = number_in (item_at taken Published);
  valid_after = number_in (item_at taken ValidAfter);
  fresh_until = number_in (item_at taken FreshUntil);
  valid_until = number_in (item_at taken ValidUntil);
  vote_seconds = (delays_in (item_at taken VotingDelay)).0;
  dist_seconds = (delays_in (item_at taken VotingDelay)).1;
  known_flags = text_in (text_if (item_at taken KnownFlags));
  flag_thresholds = text_if (item_at taken FlagThresholds);
  lists = lists_in taken;
  random_previous = random_in (item_at taken SharedRandPreviousValue);
  random_current = random_in (item_at taken SharedRandCurrentValue);
}

-- what is kept after the section of the authority; a shared random value stands there or in the preamble
abbrev pub with_authority : Head → List (Taken (Value VoteValue)) → Head
with_authority head taken = record head {
  source = source_in (item_at taken DirSourceLine);
  contact = text_if (item_at taken Contact);
  random_previous = option_or head.random_previous (random_in (item_at taken SharedRandPreviousValue));
  random_current = option_or head.random_current (random_in (item_at taken SharedRandCurrentValue));
}

-- what is kept after a certificate
abbrev pub with_certificate : Head → List (Taken (Value VoteValue)) → Head
with_certificate head taken = record head { certificate = cert.head_of taken }

-- The place after the signed part, which ends with the byte after the word `directory-signature` (dir-spec, "Vote and
-- consensus status document formats").
abbrev pub signed_to : Option (Taken (Value VoteValue)) → ℕ
signed_to None = 0
signed_to (Some one) = min (one.separator + 1) (2 ^ 64 - 1)

-- what is kept after a footer
abbrev pub with_footer : Head → List (Taken (Value VoteValue)) → Head
with_footer head taken = record head {
  signature = signature_in (item_at taken DirectorySignature);
  signed_end = signed_to (item_at taken DirectorySignature);
  end = after_in (item_at taken DirectorySignature);
}

-- what is kept after one more section
abbrev pub head_with : Head → VoteSection → List (Taken (Value VoteValue)) → Head
head_with head Preamble taken = with_preamble head taken
head_with head Authority taken = with_authority head taken
head_with head Certificate taken = with_certificate head taken
head_with head Entry taken = head
head_with head Footer taken = with_footer head taken
