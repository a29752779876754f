-- The names of all flags.
use Rattle.std.proofs.Common.{◌≡◌, true, refl}
use Rattle.flag_rules.specs.{Names.names_of, declared.flags.Flags.Flags}
use Rattle.vote_maker.specs.Made.{made_flags}

-- a relay with every flag
abbrev pub every_flag : Flags
every_flag = record {
  bad_exit = true;
  exit = true;
  fast = true;
  guard = true;
  hs_dir = true;
  middle_only = true;
  running = true;
  stable = true;
  stale_desc = true;
  sybil = true;
  v2_dir = true;
  valid = true;
}

pub every_name : names_of every_flag ≡ made_flags
unfolding names_of
every_name = refl
