-- What is kept of the entries of a vote.
use Rattle.std.specs.{Prelude.{Bool, List, [], ◌∷◌, ◌++◌, Option, if◌then◌else◌}, List.list_all}
use Rattle.dir_values.specs.{Digests.identity_below, declared.digest.Fingerprint.Fingerprint}
use Rattle.frame_terms.specs.declared.{document.Taken.Taken, keyword.Keyword.TheVariants.{R, S, V, Pr, W, P, Id}}
use Rattle.frame_values.specs.{declared.{found.Span.Span, values.Value.Value}, Values.{item_at, text_if, text_in}}
use Rattle.relay_entries.specs.declared.said.{Bandwidths.Bandwidths, EdOpinion.EdOpinion, RelayLine.RelayLine}
use Rattle.vote_frame.specs.declared.frame.VoteValue.{VoteValue}
use Rattle.vote_entries.specs.{declared.row.KeptMicro.KeptMicro, Saying.{relay_in, addresses_in, bandwidths_in}}
use Rattle.vote_entries.specs.Saying.{micros_in, ed_in}

-- what is kept of an entry: numbers, and where its texts stand
pub record KeptEntry : Type 0 where
  pub relay : RelayLine
  pub addresses : List Span
  pub flags : Span
  pub version : Option Span
  pub protocols : Option Span
  pub bandwidths : Option Bandwidths
  pub policy : Option Span
  pub micros : List KeptMicro
  pub ed : EdOpinion

-- what is kept of an entry with these items
abbrev pub entry_of : List (Taken (Value VoteValue)) → KeptEntry
entry_of taken = record {
  relay = relay_in (item_at taken R);
  addresses = addresses_in taken;
  flags = text_in (text_if (item_at taken S));
  version = text_if (item_at taken V);
  protocols = text_if (item_at taken Pr);
  bandwidths = bandwidths_in (item_at taken W);
  policy = text_if (item_at taken P);
  micros = micros_in taken;
  ed = ed_in (item_at taken Id);
}

-- whether an identity comes after those of all entries
abbrev pub is_after : List KeptEntry → Fingerprint → Bool
is_after entries identity = list_all (λ (other : KeptEntry). identity_below other.relay.identity identity) entries

-- Entries with one more behind them. The rules across entries refuse one whose identity does not come after those before it, so
-- that none of a document that is read is left out.
abbrev pub with_entry : List KeptEntry → KeptEntry → List KeptEntry
with_entry entries entry = if is_after entries entry.relay.identity then entries ++ entry ∷ [] else entries
