use Rattle.std.{proofs.Common.{◌≡◌, ◌≤◌, ◌++◌, true, length}, specs.List.list_all}
use Rattle.daemon_words.specs.Serving.{is_address}
use Rattle.list_values.specs.Parts.{parts_of}
use Rattle.mirror_daemon.proofs.peers.read_peers.Given as goal

abbrev pub invariant-peers : goal.invariant-peers
invariant-peers l = record {
  are : l.peers.items ++ l.parts ≡ parts_of l.fn.text;
  all : list_all is_address l.peers.items ≡ true;
  few : length l.peers.items ≤ 32;
}

abbrev pub decreases-peers : goal.decreases-peers
decreases-peers l = length l.parts
