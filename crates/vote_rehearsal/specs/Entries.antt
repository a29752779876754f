-- What a vote of a rehearsal says of relays.
use Rattle.std.specs.Prelude.{ℕ, ◌+◌, ◌/◌, ◌%◌, ◌==◌, Bool, true, false, not, List, [], ◌∷◌, Some, None, codes}
use Rattle.std.specs.{Prelude.if◌then◌else◌, List.flat_map}
use Rattle.relay_entries.specs.declared.said.{Bandwidths.Bandwidths, EdOpinion.EdOpinion}
use Rattle.relay_entries.specs.declared.said.EdOpinion.TheVariants as opinion
use Rattle.flag_rules.specs.{Names.names_of, declared.flags.Flags.Flags}
use Rattle.vote_terms.specs.declared.entry.{EntryFacts.EntryFacts, MicroFacts.MicroFacts}
use Rattle.vote_rehearsal.specs.{Draws.drawn_number, Relays.numbered_word, declared.relay.Relay.Relay}

-- whether an authority that drew this lists the relay
abbrev pub lists : ℕ → Bool
lists draw = not (draw % 16 == 0)

-- the flags that an authority gives which drew this
abbrev pub flags_drawn : ℕ → Flags
flags_drawn draw = record {
  bad_exit = false;
  exit = draw / 512 % 3 == 0;
  fast = false;
  guard = draw / 256 % 2 == 1;
  hs_dir = false;
  middle_only = draw / 4096 % 64 == 0;
  running = not (draw / 16 % 16 == 0);
  stable = false;
  stale_desc = false;
  sybil = false;
  v2_dir = false;
  valid = true;
}

-- the bandwidth of a relay that drew the first number, by an authority that drew the second
abbrev pub bandwidth_drawn : ℕ → ℕ → ℕ
bandwidth_drawn base draw = 1 + base % 50000 + draw / 8388608 % 8

-- the `w` line: authorities with odd numbers measured one more
abbrev pub bandwidths_drawn : ℕ → ℕ → ℕ → Bandwidths
bandwidths_drawn base draw authority = record {
  bandwidth = Some (bandwidth_drawn base draw);
  measured = if authority % 2 == 1 then Some (bandwidth_drawn base draw + 1) else None;
}

-- the `id` line, which is absent at one draw of 32
abbrev pub opinion_drawn : ℕ → List ℕ → EdOpinion
opinion_drawn draw ed = if draw / 262144 % 32 == 0 then opinion.Absent else opinion.Key ed

-- the `p` line of the relay with a number
abbrev pub policy_of : ℕ → List ℕ
policy_of number = if number % 2 == 0 then codes "accept 80,443" else codes "reject 1-65535"

-- the one consensus method that votes list
abbrev pub only_method : List ℕ
only_method = 32 ∷ []

-- the `m` line
abbrev pub micro_of : Relay → MicroFacts
micro_of relay = record { methods = only_method; digest = relay.micro }

-- what the authority with a number, that drew this, says of a relay: a relay was published at 2025-12-31 23:00:00, and its
-- address is 10.0.0.0 and its number
unfoldable pub entry_of : Relay → ℕ → ℕ → EntryFacts
entry_of relay authority draw = record {
  nickname = numbered_word (codes "relay") relay.number;
  identity = relay.identity;
  digest = relay.digest;
  published = 1767222000;
  ip = 167772160 + relay.number;
  or_port = 9001;
  dir_port = 0;
  addresses = [];
  flags = names_of (flags_drawn draw);
  version = None;
  protocols = None;
  bandwidths = Some (bandwidths_drawn (drawn_number relay.start 0) draw authority);
  policy = Some (policy_of relay.number);
  micros = micro_of relay ∷ [];
  ed = opinion_drawn draw relay.ed;
}

-- the entry of a relay in the vote of the authority with a number, if it has one
abbrev pub entry_in : ℕ → Relay → List EntryFacts
entry_in authority relay =
    let draw = drawn_number relay.start authority in
    if lists draw then entry_of relay authority draw ∷ [] else []

-- the entries of relays in the vote of the authority with a number
abbrev pub entries_of : List Relay → ℕ → List EntryFacts
entries_of relays authority = flat_map (entry_in authority) relays
