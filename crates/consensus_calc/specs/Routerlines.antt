-- What a consensus says of a relay, by what was chosen.
use Rattle.std.specs.Prelude.{ℕ, List, Option}
use Rattle.dir_values.specs.declared.digest.Fingerprint.{Fingerprint}
use Rattle.consensus_terms.specs.declared.router.{Bandwidth.Bandwidth, Routerline.Routerline}
use Rattle.relay_select.specs.declared.choice.Choice.{Choice}

-- what is said of a relay with these flags and this bandwidth, where this is what was chosen
abbrev pub routerline_with : Fingerprint → List (List ℕ) → Option Bandwidth → Choice → Routerline
routerline_with rsa flags w choice = record {
  nickname = choice.nickname;
  identity = rsa;
  digest = choice.digest;
  published = choice.published;
  ip = choice.ip;
  or_port = choice.or_port;
  dir_port = choice.dir_port;
  a = choice.a;
  m = choice.m;
  flags = flags;
  v = choice.v;
  pr = choice.pr;
  w = w;
  p = choice.p;
}
