-- The rows in which the entries of a vote are kept: what several entries may have in any number stands in lists of all of
-- them, of which a row names its part.
use Rattle.std.specs.Prelude.{◌≡◌, ℕ, ◌≤◌, true, List, [], ◌∷◌, AllPairs, map, slice_range}
use Rattle.dir_values.specs.Digests.{identity_below}
use Rattle.frame_terms.specs.declared.{document.Taken.Taken, keyword.Keyword.TheVariants.{R, S, V, Pr, W, P, Id}}
use Rattle.frame_values.specs.{declared.{found.Span.Span, values.Value.Value}, Values.{item_at, text_if, text_in}}
use Rattle.vote_frame.specs.declared.frame.VoteValue.{VoteValue}
use Rattle.vote_entries.specs.{declared.row.{EntryRow.EntryRow, KeptMicro.KeptMicro, Run.Run}, Saying.relay_in}
use Rattle.vote_entries.specs.{Saying.{bandwidths_in, ed_in}, Kept.KeptEntry}

-- the row of an entry with these items, whose addresses and `m` lines stand in these runs
abbrev pub row_of : List (Taken (Value VoteValue)) → Run → Run → EntryRow
row_of taken addresses micros = record {
  relay = relay_in (item_at taken R);
  addresses = addresses;
  flags = text_in (text_if (item_at taken S));
  version = text_if (item_at taken V);
  protocols = text_if (item_at taken Pr);
  bandwidths = bandwidths_in (item_at taken W);
  policy = text_if (item_at taken P);
  micros = micros;
  ed = ed_in (item_at taken Id);
}

-- what is kept of an entry with this row, and with these addresses and `m` lines
abbrev pub kept_in : EntryRow → List Span → List KeptMicro → KeptEntry
kept_in row addresses micros = record {
  relay = row.relay;
  addresses = addresses;
  flags = row.flags;
  version = row.version;
  protocols = row.protocols;
  bandwidths = row.bandwidths;
  policy = row.policy;
  micros = micros;
  ed = row.ed;
}

-- the part of a list that a run names
abbrev pub run_of : {X : Type 0} → List X → Run → List X
run_of list run = slice_range list run.start run.end

-- what is kept of an entry with this row, among the addresses and `m` lines of all entries
abbrev pub whole_in : List Span → List KeptMicro → EntryRow → KeptEntry
whole_in addresses micros row = kept_in row (run_of addresses row.addresses) (run_of micros row.micros)

-- what is kept of the entries with these rows
abbrev pub kept_rows : List Span → List KeptMicro → List EntryRow → List KeptEntry
kept_rows addresses micros rows = map (whole_in addresses micros) rows

-- ---- what rows keep to

-- a run lies within a list of this length
pub record LiesWithin (end_ : ℕ) (run : Run) : Type 0 where
  pub ordered : run.start ≤ run.end
  pub ends : run.end ≤ end_

-- the runs of each row lie within lists of these lengths
abbrev pub AreWithin : ℕ → ℕ → List EntryRow → Type 0
AreWithin addresses micros [] = Unit {0}
AreWithin addresses micros (row ∷ rows) =
    LiesWithin addresses row.addresses × LiesWithin micros row.micros × AreWithin addresses micros rows

-- rows ascend strictly by identity
abbrev pub Ascend : List EntryRow → Type 0
Ascend rows = AllPairs (λ (earlier later : EntryRow). identity_below earlier.relay.identity later.relay.identity ≡ true) rows

-- the rows lie within lists of these lengths, and ascend
pub record AreRows (addresses micros : ℕ) (rows : List EntryRow) : Type 0 where
  pub within : AreWithin addresses micros rows
  pub ascend : Ascend rows
