-- What a vote says, from its bytes and what was kept of its sections.
use Rattle.std.specs.Prelude.{◌≡◌, ℕ, ◌<◌, ◌^◌, List, length, map, slice_range, option_map, Option, unwrap_or}
use Rattle.item_terms.specs.Words.{words_of}
use Rattle.dir_values.specs.{FlagSets.as_set, declared.algorithm.Algorithm.{Algorithm, TheVariants.Sha1}}
use Rattle.dir_values.specs.Numbers.{numbers_in}
use Rattle.frame_values.specs.{declared.found.VoteSignature.VoteSignature, Parts.{bytes_in, moment_of, part}}
use Rattle.authority_certs.specs.Certs.{cert_in, whole_part}
use Rattle.vote_terms.specs.{Votes.ReadVote, declared.facts.{SignatureFacts.SignatureFacts, VoteFacts.VoteFacts}}
use Rattle.vote_terms.specs.ListLines.{vote_lists}
use Rattle.vote_entries.specs.Entries.{entry_in}
use Rattle.vote_doc.specs.declared.{head.Head.Head, kept.Kept.Kept, head_values.HeadValues.HeadValues}

-- the hash of a signature that names this one, or none
abbrev pub algorithm_of : Option Algorithm → Algorithm
algorithm_of named = unwrap_or named Sha1

-- what a signature says that was kept, in these bytes
abbrev pub signature_facts : List ℕ → VoteSignature → SignatureFacts
signature_facts bytes kept = record {
  algorithm = algorithm_of kept.algorithm;
  identity = kept.identity;
  key_digest = kept.key_digest;
  signature = bytes_in bytes kept.signature;
}

-- what the vote says in values of their own of which this was kept, in these bytes
abbrev pub values_of : List ℕ → Head → HeadValues
values_of bytes head = record {
  known_flags = as_set (words_of (part bytes head.known_flags));
  lists = vote_lists bytes head.lists;
  certificate = cert_in bytes head.certificate;
  signature = signature_facts bytes head.signature;
}

-- what the vote says of which this was kept, in these bytes
abbrev pub facts_of : List ℕ → Kept → VoteFacts
facts_of bytes kept = let head = kept.head in let values = values_of bytes head in record {
  methods = option_map numbers_in (option_map (part bytes) head.methods);
  published = moment_of head.published;
  valid_after = moment_of head.valid_after;
  fresh_until = moment_of head.fresh_until;
  valid_until = moment_of head.valid_until;
  vote_seconds = head.vote_seconds;
  dist_seconds = head.dist_seconds;
  known_flags = values.known_flags;
  flag_thresholds = option_map (part bytes) head.flag_thresholds;
  lists = values.lists;
  nickname = part bytes head.source.nickname;
  identity = head.source.identity;
  address = part bytes head.source.address;
  ip = head.source.ip;
  dir_port = head.source.dir_port;
  or_port = head.source.or_port;
  contact = option_map (part bytes) head.contact;
  random_previous = head.random_previous;
  random_current = head.random_current;
  certificate = values.certificate;
  entries = map (entry_in bytes) kept.entries;
  signature = values.signature;
}

-- the vote of which this was kept, in these bytes
abbrev pub vote_in : List ℕ → Kept → ReadVote
vote_in bytes kept = record {
  whole = slice_range bytes kept.head.begin kept.head.end;
  signed = slice_range bytes kept.head.begin kept.head.signed_end;
  certificate_bytes = whole_part bytes kept.head.certificate;
  says = facts_of bytes kept;
}

-- what a vote keeps beside its bytes and what was kept of its sections: what that says in values of their own
pub record IsKept (bytes : List ℕ) (head : Head) (values : HeadValues) : Type 0 where
  pub short : length bytes < 2 ^ 62
  pub are_values : values ≡ values_of bytes head
